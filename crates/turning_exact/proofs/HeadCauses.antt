-- The refusals 1 to 5 of a head are the first of what objects to it.
use Prim.Native.Nat.{ℕ, ◌*◌, ◌%◌, ◌≤◌}
use mathlib.Core.Path.{◌≡◌, refl, sym, ap, subst, ◌∙◌}
use mathlib.Core.Logic.{inl, inr, ◌≢◌}
use mathlib.Core.Bool.{Bool, true, false, cond}
use mathlib.Core.List.{List}
use native.Mathlib.Omega.{arith}
use lib.Dec.{eqb, ltb}
use lib.ListN.{length}
use borrow.Author.Tests.{ne_eqb}
use Rattle.format.specs.Words.{word_at}
use Rattle.format.specs.Answers.{refused}
use Rattle.format.specs.Header.{is_version, more, six_at, offsets_at, head_in, as_read, head_at, version_at, head_bytes, counts_fit, offsets_fit, length_fits, Laid, from1, from2, from3, from4, from5, head_of}
use Rattle.format.specs.declared.Head.{Head}
use Rattle.std.specs.Prelude.{Result, Ok, Err}
use Rattle.format.proofs.HeadLaws.{juniors_iff, IsVersion, Headed, headed, head_number_lem}
use Rattle.reading.specs.Reading.{reading}
use Rattle.reading.proofs.ReadingLaws.{refused_by_head}
use Rattle.turning.specs.Turning.{head_number}
use Rattle.reading_exact.specs.Order.{in_turn, Sooner, First}
use Rattle.reading_exact.specs.Refusals.{Refusable, short, short_second, odd, version, count, offset, size, misnamed, misranked, unassigned, misshapen, reading_order}
use Rattle.reading_exact.proofs.FirstLaws.{number_of}
use Rattle.reading_exact.proofs.FirstRefusal.{first_refusal}

module _ (f : List ℕ) where
  -- a head's refusal is one of 1 to 5
  pub head_few : (n : ℕ) → head_of f ≡ Err n → n ≤ 5
  unfolding head_of from1 from2 from3 from4 from5
  head_few n e =
      let g : List ℕ = as_read f in
      other 1 (ltb (length g) (head_bytes (word_at g 0))) (cond (eqb (length g % 2) 1) (Err 1) (from2 g)) (omega arith)
      (other 1 (eqb (length g % 2) 1) (from2 g) (omega arith)
      (next 2 (is_version (word_at g 0)) (from3 g) (omega arith)
      (next 3 (counts_fit (six_at g 1)) (from4 g) (omega arith)
      (next 4 (offsets_fit (word_at g 0) (six_at g 1) (offsets_at g (word_at g 0))) (from5 g) (omega arith)
      (next 5 (length_fits (word_at g 6) (head_in g).at.nodes (length g)) (Ok (head_in g)) (omega arith)
      (λ q. let no : ◌≡◌ {A = ℕ} 0 1 = cc in absurd (omega arith))))))) e
    where
      same : (k : ℕ) → k ≤ 5 → ◌≡◌ {A = Result Head ℕ} (Err k) (Err n) → n ≤ 5
      same k l q = let r : k ≡ n = cc in omega arith

      next : (k : ℕ) (b : Bool) (a : Result Head ℕ) → k ≤ 5 → (a ≡ Err n → n ≤ 5) → cond b a (Err k) ≡ Err n → n ≤ 5
      next k true a l go q = go q
      next k false a l go q = same k l q

      other : (k : ℕ) (b : Bool) (a : Result Head ℕ) → k ≤ 5 → (a ≡ Err n → n ≤ 5) → cond b (Err k) a ≡ Err n → n ≤ 5
      other k true a l go q = same k l q
      other k false a l go q = go q

  -- the order of 1 to 5 is that of size
  turn_of : (n : ℕ) → n ≤ 5 → in_turn n ≡ 2 * n
  turn_of n few = rw (ne_eqb n 21 (omega arith))

  by_size : (n m : ℕ) → n ≤ 5 → m ≤ 5 → Sooner reading_order n 0 m 0 → n ≤ m
  by_size n m a b (inl l) = omega (arith, l, turn_of n a, turn_of m b)
  by_size n m a b (inr (e, _)) = omega (arith, e, turn_of n a, turn_of m b)

  pub head_cause : (n : ℕ) → head_of f ≡ Err n → Refusable f n 0 × ((m : ℕ) → m ≤ 5 → Refusable f m 0 → n ≤ m)
  head_cause n e = go (first_refusal f)
    where
      is : reading f ≡ refused n 0
      is = refused_by_head f n e

      go : First reading_order (Refusable f) (reading f) → Refusable f n 0 × ((m : ℕ) → m ≤ 5 → Refusable f m 0 → n ≤ m)
      go (inl (fine-read, none)) = absurd (omega (arith, head_number_lem f n e, sym (number_of is) ∙ number_of fine-read))
      go (inr (k, p, at, (r, low))) =
          let number : k ≡ n = sym (number_of at) ∙ number_of is in
          let place : p ≡ 0 = ap (λ v. v.place) (sym at ∙ is) in (
            subst (λ (q : ℕ). Refusable f n q) place (subst (λ (x : ℕ). Refusable f x p) number r),
            λ m few s. by_size n m (head_few n e) few (subst (λ (q : ℕ). Sooner reading_order n q m 0) place (subst (λ (x : ℕ). Sooner reading_order x p m 0) number (low m 0 s))),
          )

  -- nothing of 1 to 5 objects to a file whose head is not refused
  pub head_clean : Headed f → (n p : ℕ) → n ≤ 5 → Refusable f n p → ⊥
  head_clean d n p few (short a b l) = let k : Laid f (head_at f) = d.laid in omega (arith, l, k)
  head_clean d n p few (short_second a b j l) =
      let k : Laid f (head_at f) = d.laid in
      let one : more (version_at f) ≡ 1 = rw ((juniors_iff (version_at f)).1 j) in
      omega (arith, l, k, one)
  head_clean d n p few (odd a b e) = let k : Laid f (head_at f) = d.laid in omega (arith, e, k.sized)
  head_clean d n p few (version a b x y z) = go d.version
    where
      go : IsVersion (version_at f) → ⊥
      go (inl e) = x e
      go (inr (inl e)) = y e
      go (inr (inr e)) = z e
  head_clean d n p few (count a b o) = let k : Laid f (head_at f) = d.laid in o (k.users, k.roles, k.kinds, k.channels, k.sessions, k.nodes)
  head_clean d n p few (offset a b o) = let k : Laid f (head_at f) = d.laid in o (k.users_at, k.roles_at, k.juniors_at, k.kinds_at, k.channels_at, k.sessions_at, k.nodes_at)
  head_clean d n p few (size a b o) = let k : Laid f (head_at f) = d.laid in o (omega (arith, k))
  head_clean d n p few (misnamed a m) = omega (arith, a, few)
  head_clean d n p few (misranked a m) = omega (arith, a, few)
  head_clean d n p few (unassigned a m) = omega (arith, a, few)
  head_clean d n p few (misshapen a m) = omega (arith, a, few)

-- a head as code hands it back (`Result Head ℕ`), by the number and the values of each case
pub head_answered : (f : List ℕ) → (head_number (head_of f) ≤ 5) × (head_number (head_of f) ≢ 0 → reading f ≡ refused (head_number (head_of f)) 0)
    × ((h : Head) → head_of f ≡ Ok h → h ≡ head_at f)
head_answered f = (small (head_of f) refl, go (head_of f) refl, λ h e. (headed f h e).1)
  where
    small : (a : Result Head ℕ) → head_of f ≡ a → head_number a ≤ 5
    small (Ok h) e = omega arith
    small (Err n) e = head_few f n e

    go : (a : Result Head ℕ) → head_of f ≡ a → head_number a ≢ 0 → reading f ≡ refused (head_number a) 0
    go (Ok h) e some = absurd (some refl)
    go (Err n) e some = refused_by_head f n e
