-- Threads' sessions and seats after a step.
use Prim.Native.Nat.{ℕ, zero, suc, ◌+◌, ◌-◌, ◌≤◌, ◌<◌}
use mathlib.Core.Path.{◌≡◌, refl, sym, ap, ◌∙◌, subst}
use mathlib.Core.Logic.{◌⊎◌, inl, inr}
use mathlib.Core.Bool.{Bool, true, false, cond}
use mathlib.Core.List.{List, [], ◌∷◌, ◌++◌}
use native.Mathlib.Omega.{arith}
use lib.Dec.{eqb}
use lib.ListN.{length, get_or, set, take, drop, length-set, length-append}
use borrow.Author.Tests.{eq-eqb, ne_eqb, eqb-true, eqb-false}
use Rattle.masks.specs.Mask.{has, with, without}
use Rattle.masks.proofs.Laws.{has_with_same, has_with_other, has_without_same, has_without_other}
use Rattle.format.specs.declared.Node.{Node}
use Rattle.steps.specs.declared.Thread.{Thread}
use Rattle.steps.specs.Threads.{no_thread, onward, masked}
use Rattle.steps.specs.Choice.{Clinic, State, thread_at, changed, removed}
use Rattle.reading_exact.specs.Lists.{All}
use Rattle.reading_exact.specs.File.{InCount}
use Rattle.reading_exact.proofs.AllLaws.{all_get}
use Rattle.running_exact.specs.Steps.{StandsAt, Steps, on, off, fork, repeat, new, compare, end, meet}
use Rattle.running_exact.proofs.ThreadLists.{all_snoc, all_removed}
use Rattle.seats.specs.Seats.{owners_by}
use Rattle.seats.specs.SeatOrder.{Sitting}
use Rattle.seats.proofs.LineLaws.{never}
use Rattle.seats.proofs.SittingLaws.{get_sits, set_sits, set_same, snoc_sits, removed_sits}

-- the sessions after each tag
pub owners_gone : (os : List ℕ) (i tag : ℕ) → tag ≡ 0 → owners_by os i tag ≡ take (i - 1) os ++ drop i os
unfolding owners_by
owners_gone os i tag e = rw (eq-eqb tag 0 e)

pub owners_more : (os : List ℕ) (i tag : ℕ) → (tag ≡ 1) ⊎ (tag ≡ 2) → owners_by os i tag ≡ os ++ (get_or os (i - 1) 0 ∷ [])
unfolding owners_by
owners_more os i tag (inl e) = rw (e)
owners_more os i tag (inr e) = rw (e)

pub owners_same : (os : List ℕ) (i tag : ℕ) → 3 ≤ tag → owners_by os i tag ≡ os
unfolding owners_by
owners_same os i tag l =
    rw (ne_eqb tag 0 (λ z. omega (arith, l, z)), ne_eqb tag 1 (λ z. omega (arith, l, z)), ne_eqb tag 2 (λ z. omega (arith, l, z)))

length_gone : {A : Type 0} (xs : List A) (j : ℕ) → j < length xs → suc (length (take j xs ++ drop (suc j) xs)) ≡ length xs
length_gone [] j l = absurd (omega arith)
length_gone (x ∷ xs) zero l = refl
length_gone (x ∷ xs) (suc j) l = ap suc (length_gone xs j (omega (arith, l)))

pub length_removed : {A : Type 0} (xs : List A) (i : ℕ) → InCount (length xs) i → suc (length (take (i - 1) xs ++ drop i xs)) ≡ length xs
length_removed xs zero l = absurd (omega (arith, l.0))
length_removed {A} xs (suc j) l =
    let e : j ≡ suc j - 1 = omega arith in
    subst (λ (x : ℕ). suc (length (take x xs ++ drop (suc j) xs)) ≡ length xs) e (length_gone xs j (omega (arith, l.1)))

pub length-snoc : {A : Type 0} (xs : List A) (x : A) → length (xs ++ (x ∷ [])) ≡ suc (length xs)
length-snoc [] x = refl
length-snoc (y ∷ xs) x = ap suc (length-snoc xs x)

-- off adds no role
pub fewer : (m x r : ℕ) → has (without m x) r ≡ true → has m r ≡ true
fewer m x r h = by (eqb x r) refl
  where
    by : (b : Bool) → eqb x r ≡ b → has m r ≡ true
    by true z = never (subst (λ (y : ℕ). has (without m y) r ≡ true) (eqb-true x r z) h) (has_without_same m r)
    by false z = sym (has_without_other m x r (eqb-false x r z)) ∙ h

module _ (C : Clinic) (s : State) (os : List ℕ) (len : length os ≡ length s.threads) where
  abbrev tag_of : ℕ → ℕ
  tag_of i = (C.node (thread_at s i).node).tag

  tag_of_lem : (i : ℕ) (n : Node) (v : ℕ) → StandsAt C s i n → n.tag ≡ v → tag_of i ≡ v
  tag_of_lem i n v st e = ap (λ (m : Node). m.tag) st.2 ∙ e

  same_length : (i : ℕ) (t : Thread) → 3 ≤ tag_of i → length (owners_by os i (tag_of i)) ≡ length (set s.threads (i - 1) t)
  same_length i t l = ap (λ (l : List ℕ). length l) (owners_same os i (tag_of i) l) ∙ len ∙ sym (length-set s.threads (i - 1) t)

  more_length : (i : ℕ) (t u : Thread) → (tag_of i ≡ 1) ⊎ (tag_of i ≡ 2) → length (owners_by os i (tag_of i)) ≡ length (set s.threads (i - 1) t ++ (u ∷ []))
  more_length i t u l =
      ap (λ (l : List ℕ). length l) (owners_more os i (tag_of i) l) ∙ length-snoc os (get_or os (i - 1) 0)
      ∙ ap suc (len ∙ sym (length-set s.threads (i - 1) t)) ∙ sym (length-snoc (set s.threads (i - 1) t) u)

  -- as many sessions as threads
  pub step_owners : (i p : ℕ) (s' : State) → Steps C s i p s' → length (owners_by os i (tag_of i)) ≡ length s'.threads
  step_owners i' p' s' (on i n st e a) = same_length i _ (omega (arith, tag_of_lem i n 7 st e))
  step_owners i' p' s' (off i n st e a) = same_length i _ (omega (arith, tag_of_lem i n 8 st e))
  step_owners i' p' s' (fork i n st e a) = more_length i _ _ (inl (tag_of_lem i n 1 st e))
  step_owners i' p' s' (repeat i n st e a) = more_length i _ _ (inr (tag_of_lem i n 2 st e))
  step_owners i' p' s' (new i n st e a) = same_length i _ (omega (arith, tag_of_lem i n 3 st e))
  step_owners i' p' s' (compare i n st e a) = same_length i _ (omega (arith, tag_of_lem i n 4 st e))
  step_owners i' p' s' (end i n st e) =
      let a = ap (λ (l : List ℕ). length l) (owners_gone os i (tag_of i) (tag_of_lem i n 0 st e)) in
      let b = length_removed s.threads i st.0 in
      let c = length_removed os i (st.0.0, omega (arith, st.0.1, len)) in
      omega (arith, a, b, c, len)
  step_owners i' p' s' (meet i p n m st e sp d a b c) = same_length i _ (omega (arith, tag_of_lem i n 6 st e)) ∙ sym (length-set (set s.threads (i - 1) _) (p - 1) _)

  -- each of them one of the file's
  pub owners_counted : (P : ℕ → Type 0) (i p : ℕ) (s' : State) → Steps C s i p s' → All P os → All P (owners_by os i (tag_of i))
  owners_counted P i' p' s' st h = go i' (stands st) h
    where
      stands : {i p : ℕ} {s' : State} → Steps C s i p s' → InCount (length s.threads) i
      stands (on i n st e a) = st.0
      stands (off i n st e a) = st.0
      stands (fork i n st e a) = st.0
      stands (repeat i n st e a) = st.0
      stands (new i n st e a) = st.0
      stands (compare i n st e a) = st.0
      stands (end i n st e) = st.0
      stands (meet i p n m st e sp d a b c) = st.0

      go : (i : ℕ) → InCount (length s.threads) i → All P os → All P (owners_by os i (tag_of i))
      go i c h = by (tag_of i)
        where
          by : (tag : ℕ) → All P (owners_by os i tag)
          by zero = subst (All P) (sym (owners_gone os i 0 refl)) (all_removed P os i c.0 h)
          by (suc zero) =
              subst (All P) (sym (owners_more os i 1 (inl refl))) (all_snoc P os (get_or os (i - 1) 0) (all_get P os (i - 1) 0 (omega (arith, c.0, c.1, len)) h) h)
          by (suc (suc zero)) =
              subst (All P) (sym (owners_more os i 2 (inr refl))) (all_snoc P os (get_or os (i - 1) 0) (all_get P os (i - 1) 0 (omega (arith, c.0, c.1, len)) h) h)
          by (suc (suc (suc t))) = subst (All P) (sym (owners_same os i (suc (suc (suc t))) (omega arith))) h

  -- thread i is put on the role r for the session k: alone, at an on of that role, which is its user's
  pub record Puts (i p k r : ℕ) : Type 0 where
    pub owner : get_or os (i - 1) 0 ≡ k
    pub role : (C.node (thread_at s i).node).f1 ≡ r
    pub alone : p ≡ 0
    pub tag : tag_of i ≡ 7
    pub thread : InCount (length s.threads) i
    pub node : InCount C.nodes (thread_at s i).node
    pub assigned : has (C.schema.assigned (thread_at s i).user) r ≡ true

  at_thread : (i : ℕ) → InCount (length s.threads) i → i - 1 < length s.threads
  at_thread i c = omega (arith, c.0, c.1)

  same_sits : (i k r : ℕ) (t : Thread) → InCount (length s.threads) i → 3 ≤ tag_of i → (has t.mask r ≡ true → has (thread_at s i).mask r ≡ true)
      → Sitting (set s.threads (i - 1) t) (owners_by os i (tag_of i)) k r → Sitting s.threads os k r
  same_sits i k r t c l m h =
      set_same s.threads os (i - 1) t k r len (at_thread i c) m
      (subst (λ (o : List ℕ). Sitting (set s.threads (i - 1) t) o k r) (owners_same os i (tag_of i) l) h)

  more_sits : (i k r : ℕ) (t u : Thread) → InCount (length s.threads) i → (tag_of i ≡ 1) ⊎ (tag_of i ≡ 2) → t.mask ≡ (thread_at s i).mask → u.mask ≡ (thread_at s i).mask
      → Sitting (set s.threads (i - 1) t ++ (u ∷ [])) (owners_by os i (tag_of i)) k r → Sitting s.threads os k r
  more_sits i k r t u c l m n h =
      go (snoc_sits (set s.threads (i - 1) t) os u (get_or os (i - 1) 0) k r (len ∙ sym (length-set s.threads (i - 1) t))
      (subst (λ (o : List ℕ). Sitting (set s.threads (i - 1) t ++ (u ∷ [])) o k r) (owners_more os i (tag_of i) l) h))
    where
      go : Sitting (set s.threads (i - 1) t) os k r ⊎ ((get_or os (i - 1) 0 ≡ k) × (has u.mask r ≡ true)) → Sitting s.threads os k r
      go (inl a) = set_same s.threads os (i - 1) t k r len (at_thread i c) (λ z. ap (λ (x : ℕ). has x r) (sym m) ∙ z) a
      go (inr (d, a)) =
          subst (λ (x : ℕ). Sitting s.threads os x r) d (get_sits s.threads os (i - 1) r len (at_thread i c) (ap (λ (x : ℕ). has x r) (sym n) ∙ a))

  on_sits : (i k r : ℕ) (n : Node) → StandsAt C s i n → n.tag ≡ 7 → has (C.schema.assigned (thread_at s i).user) n.f1 ≡ true
      → Sitting (changed s i (masked (thread_at s i) (with (thread_at s i).mask n.f1))).threads (owners_by os i (tag_of i)) k r
      → Sitting s.threads os k r ⊎ Puts i 0 k r
  on_sits i k r n st e a h =
      go (set_sits s.threads os (i - 1) t k r (subst (λ (o : List ℕ). Sitting (set s.threads (i - 1) t) o k r) (owners_same os i (tag_of i) (omega (arith, tag_of_lem i n 7 st e))) h))
    where
      t : Thread
      t = masked (thread_at s i) (with (thread_at s i).mask n.f1)

      go : Sitting s.threads os k r ⊎ ((get_or os (i - 1) 0 ≡ k) × (has (with (thread_at s i).mask n.f1) r ≡ true)) → Sitting s.threads os k r ⊎ Puts i 0 k r
      go (inl x) = inl x
      go (inr (d, x)) = by (eqb n.f1 r) refl
        where
          by : (b : Bool) → eqb n.f1 r ≡ b → Sitting s.threads os k r ⊎ Puts i 0 k r
          by true z =
              let q : n.f1 ≡ r = eqb-true n.f1 r z in
              inr (record {
                owner = d;
                role = ap (λ (m : Node). m.f1) st.2 ∙ q;
                alone = refl;
                tag = tag_of_lem i n 7 st e;
                thread = st.0;
                node = st.1;
                assigned = ap (λ (y : ℕ). has (C.schema.assigned (thread_at s i).user) y) (sym q) ∙ a;
              })
          by false z =
              inl (subst (λ (y : ℕ). Sitting s.threads os y r) d (get_sits s.threads os (i - 1) r len (at_thread i st.0) (sym (has_with_other (thread_at s i).mask n.f1 r (eqb-false n.f1 r z)) ∙ x)))

  -- who has a role after a step had it before, or is the session that is put on it
  pub step_sits : (i p k r : ℕ) (s' : State) → Steps C s i p s' → Sitting s'.threads (owners_by os i (tag_of i)) k r → Sitting s.threads os k r ⊎ Puts i p k r
  step_sits i' p' k r s' (on i n st e a) h = on_sits i k r n st e a h
  step_sits i' p' k r s' (off i n st e a) h = inl (same_sits i k r _ st.0 (omega (arith, tag_of_lem i n 8 st e)) (fewer (thread_at s i).mask n.f1 r) h)
  step_sits i' p' k r s' (fork i n st e a) h = inl (more_sits i k r _ _ st.0 (inl (tag_of_lem i n 1 st e)) refl refl h)
  step_sits i' p' k r s' (repeat i n st e a) h = inl (more_sits i k r _ _ st.0 (inr (tag_of_lem i n 2 st e)) refl refl h)
  step_sits i' p' k r s' (new i n st e a) h = inl (same_sits i k r _ st.0 (omega (arith, tag_of_lem i n 3 st e)) (λ z. z) h)
  step_sits i' p' k r s' (compare i n st e a) h = inl (same_sits i k r _ st.0 (omega (arith, tag_of_lem i n 4 st e)) (λ z. z) h)
  step_sits i' p' k r s' (end i n st e) h =
      inl (removed_sits s.threads os i k r st.0.0 (subst (λ (o : List ℕ). Sitting (removed s i).threads o k r) (owners_gone os i (tag_of i) (tag_of_lem i n 0 st e)) h))
  step_sits i' p' k r s' (meet i p n m st e sp d a b c) h =
      go (set_sits (set s.threads (i - 1) _) os (p - 1) _ k r
      (subst (λ (o : List ℕ). Sitting s'.threads o k r) (owners_same os i (tag_of i) (omega (arith, tag_of_lem i n 6 st e))) h))
    where
      go : Sitting (set s.threads (i - 1) (onward (thread_at s i))) os k r ⊎ ((get_or os (p - 1) 0 ≡ k) × (has (thread_at s p).mask r ≡ true))
          → Sitting s.threads os k r ⊎ Puts i p k r
      go (inl x) = inl (set_same s.threads os (i - 1) _ k r len (at_thread i st.0) (λ z. z) x)
      go (inr (q, x)) = inl (subst (λ (y : ℕ). Sitting s.threads os y r) q (get_sits s.threads os (p - 1) r len (at_thread p sp.0) x))
