-- A step, by the numbers of the threads and made channels: those that it changes, and all others.
use Prim.Native.Nat.{ℕ, suc, ◌+◌, ◌-◌, ◌≤◌, ◌<◌}
use mathlib.Core.Path.{◌≡◌, refl, sym, ap, ◌∙◌, subst}
use mathlib.Core.Logic.{◌≢◌}
use mathlib.Core.List.{List, [], ◌∷◌, ◌++◌}
use native.Mathlib.Omega.{arith}
use lib.ListN.{length, get_or, set, take, drop, length-append, length-set, length-drop, get_or-append}
use lib.Seq.{get_or-set_same, get_or-set_other, get_or_at, get_or-take, get_or-drop, get_or-append-add, length-take-le}
use Rattle.format.specs.declared.Node.{Node}
use Rattle.steps.specs.declared.Thread.{Thread}
use Rattle.steps.specs.declared.Made.{Made}
use Rattle.steps.specs.Threads.{no_thread, no_made, bound}
use Rattle.steps.specs.Choice.{Clinic, State, thread_at, changed, added, with_made, removed}
use Rattle.reading_exact.specs.File.{InCount}
use Rattle.running_exact.specs.Steps.{StandsAt, Steps, on, off, fork, repeat, new, compare, end, meet}
use Rattle.running_exact.specs.Effects.{thread, Changes, AddsThread, AddsChannel, Removes, ChangesBoth, holding, Effect, turned_on, turned_off, forked, repeated, made, compared, ended, met}

-- a list with one element set, with one put last, and with one taken out
module _ {A : Type 0} (z : A) where
  set_here : (l : List A) (i : ℕ) (a : A) → InCount (length l) i → get_or (set l (i - 1) a) (i - 1) z ≡ a
  set_here l i a n = get_or-set_same l (i - 1) a z (omega arith)

  set_others : (l : List A) (i k : ℕ) (a : A) → InCount (length l) i → 1 ≤ k → k ≢ i → get_or (set l (i - 1) a) (k - 1) z ≡ get_or l (k - 1) z
  set_others l i k a n h d = get_or-set_other l (i - 1) (k - 1) a z (λ e. d (omega (arith, e)))

  snoc_before : (l : List A) (k : ℕ) (a : A) → k < length l → get_or (l ++ (a ∷ [])) k z ≡ get_or l k z
  snoc_before l k a h = get_or-append l (a ∷ []) z k h

  snoc-last : (l : List A) (k : ℕ) (a : A) → length l ≡ k → get_or (l ++ (a ∷ [])) k z ≡ a
  snoc-last l k a e = get_or_at l a [] z k e

  snoc_length : (l : List A) (a : A) → length (l ++ (a ∷ [])) ≡ length l + 1
  snoc_length l a = length-append l (a ∷ [])

  out_length : (l : List A) (i : ℕ) → i < length l → length (take i l ++ drop (suc i) l) + 1 ≡ length l
  out_length l i h = omega (arith, length-append (take i l) (drop (suc i) l), length-take-le i l (omega arith), length-drop (suc i) l)

  out_before : (l : List A) (i k : ℕ) → i < length l → k < i → get_or (take i l ++ drop (suc i) l) k z ≡ get_or l k z
  out_before l i k h b =
      get_or-append (take i l) (drop (suc i) l) z k (omega (arith, length-take-le i l (omega arith))) ∙ get_or-take i l k z b

  out_after : (l : List A) (i k : ℕ) → i < length l → i ≤ k → get_or (take i l ++ drop (suc i) l) k z ≡ get_or l (suc k) z
  out_after l i k h b =
      let long : length (take i l) ≡ i = length-take-le i l (omega arith) in
      let at : k ≡ length (take i l) + (k - i) = omega (arith, long) in
      let past : suc i + (k - i) ≡ suc k = omega arith in
      ap (λ (x : ℕ). get_or (take i l ++ drop (suc i) l) x z) at ∙ get_or-append-add (take i l) (drop (suc i) l) (k - i) z ∙ get_or-drop (suc i) l (k - i) z ∙ ap (λ (x : ℕ). get_or l x z) past

module _ (s : State) (i : ℕ) (n : InCount (length s.threads) i) where
  abbrev ts : List Thread
  ts = s.threads

  changed_by : (t : Thread) → Changes s (changed s i t) i t
  changed_by t = record {
    count = length-set ts (i - 1) t;
    changed = set_here no_thread ts i t n;
    others = λ k c d e. set_others no_thread ts i k t n c.0 d;
    made = refl;
  }

  added_by : (t u : Thread) → AddsThread s (added s i t u) i t u
  added_by t u =
      let l : List Thread = set ts (i - 1) t in
      let long : length l ≡ length ts = length-set ts (i - 1) t in
      record {
        count = snoc_length no_thread l u ∙ ap (λ (x : ℕ). x + 1) long;
        changed = snoc_before no_thread l (i - 1) u (omega (arith, long, n)) ∙ set_here no_thread ts i t n;
        last = snoc-last no_thread l (length ts + 1 - 1) u (omega (arith, long));
        others = λ k c d e. snoc_before no_thread l (k - 1) u (omega (arith, long, c)) ∙ set_others no_thread ts i k t n c.0 d;
        made = refl;
      }

  made_by : (t : Thread) (m : Made) → AddsChannel s (with_made s i t m) i t m
  made_by t m = record {
    count = length-set ts (i - 1) t;
    changed = set_here no_thread ts i t n;
    others = λ k c d e. set_others no_thread ts i k t n c.0 d;
    made = snoc_length no_made s.made m;
    last = snoc-last no_made s.made (length s.made) m refl;
    before = λ c h. snoc_before no_made s.made c m h;
  }

  removed_by : Removes s (removed s i) i
  removed_by =
      let at : i ≡ suc (i - 1) = omega (arith, n) in
      let same : (removed s i).threads ≡ take (i - 1) ts ++ drop (suc (i - 1)) ts = ap (λ (x : ℕ). take (i - 1) ts ++ drop x ts) at in
      record {
        count = ap (λ (l : List Thread). length l + 1) same ∙ out_length no_thread ts (i - 1) (omega (arith, n));
        before = λ k a b. ap (λ (l : List Thread). get_or l (k - 1) no_thread) same ∙ out_before no_thread ts (i - 1) (k - 1) (omega (arith, n)) (omega (arith, a, b));
        after = λ k a b.
            let up : suc (k - 1) ≡ k + 1 - 1 = omega (arith, a, n) in
            ap (λ (l : List Thread). get_or l (k - 1) no_thread) same ∙ out_after no_thread ts (i - 1) (k - 1) (omega (arith, n)) (omega (arith, a)) ∙ ap (λ (x : ℕ). get_or ts x no_thread) up;
        made = refl;
      }

  met_by : (p : ℕ) → InCount (length s.threads) p → i ≢ p → (t u : Thread) → ChangesBoth s (changed (changed s i t) p u) i p t u
  met_by p c d t u =
      let l : List Thread = set ts (i - 1) t in
      let long : length l ≡ length ts = length-set ts (i - 1) t in
      let m : InCount (length l) p = (c.0, omega (arith, long, c)) in
      record {
        count = length-set l (p - 1) u ∙ long;
        apart = d;
        sender = set_others no_thread l p i u m n.0 d ∙ set_here no_thread ts i t n;
        receiver = set_here no_thread l p u m;
        others = λ k h a b. set_others no_thread l p k u m h.0 b ∙ set_others no_thread ts i k t n h.0 a;
        made = refl;
      }

module _ (C : Clinic) (s : State) where
  -- a send and a receive are of two threads
  two_threads : (i p : ℕ) (n m : Node) → StandsAt C s i n → n.tag ≡ 6 → StandsAt C s p m → m.tag ≡ 5 → i ≢ p
  two_threads i p n m a six b five e =
      let same : n ≡ m = sym a.2 ∙ ap (λ (k : ℕ). C.node (thread_at s k).node) e ∙ b.2 in
      let never : ⊥ = omega (arith, six, five, ap (λ (x : Node). x.tag) same) in
      absurd never

  -- every step, by its effect
  pub step_effect : (i p : ℕ) (s' : State) → Steps C s i p s' → Effect C s s' i p
  step_effect j p s' (on i n st e h) = turned_on n st e refl (changed_by s i st.0 _)
  step_effect j p s' (off i n st e h) = turned_off n st e refl (changed_by s i st.0 _)
  step_effect j p s' (fork i n st e h) = forked n st e refl (added_by s i st.0 _ _)
  step_effect j p s' (repeat i n st e h) = repeated n st e refl (added_by s i st.0 _ _)
  step_effect j p s' (new i n st e h) =
      let v : 385 + length s.made ≡ 384 + (length s.made + 1) = omega arith in
      let m : Made = record { owner = (thread_at s i).user; kind = record { 0 = n.f1 } } in
      let t : Thread = bound (thread_at s i) (385 + length s.made) in
      made n st e refl (subst (λ (x : ℕ). AddsChannel s (with_made s i t m) i (holding (thread s i) x) m) v (made_by s i st.0 t m))
  step_effect j p s' (compare i n st e h) = compared n st e refl (changed_by s i st.0 _)
  step_effect j p s' (end i n st e) = ended n st e refl (removed_by s i st.0)
  step_effect j q s' (meet i p n m st six at five x y z) = met n m st six at five (met_by s i st.0 p at.0 (two_threads i p n m st six at five) _ _)
