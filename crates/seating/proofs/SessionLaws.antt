-- The mask of sessions that have a role says who has it, and its ones how many.
use Prim.Native.Nat.{ℕ, zero, suc, ◌+◌, ◌-◌, ◌≤◌, ◌<◌}
use mathlib.Core.Path.{◌≡◌, refl, sym, ap, ap₂, ◌∙◌}
use mathlib.Core.Bool.{Bool, true, false, cond, ◌&&◌, ◌||◌}
use mathlib.Core.List.{List, [], ◌∷◌}
use native.Mathlib.Omega.{arith}
use lib.Dec.{eqb}
use borrow.Author.Tests.{eqb-true, eqb-false, eq-eqb, ne_eqb}
use Rattle.masks.specs.Mask.{has, held}
use Rattle.masks.proofs.Laws.{has_none, has_with}
use Rattle.steps.specs.declared.Thread.{Thread}
use Rattle.reading_exact.specs.Lists.{All}
use Rattle.reading_exact.specs.File.{InCount}
use Rattle.seats.specs.Seats.{occupies, count_to}
use Rattle.seating.specs.SeatTables.{with_session, put_session, gathered}
use Rattle.seating.proofs.GatherLaws.{with_one}

eqb_turn : (a b : ℕ) → eqb a b ≡ eqb b a
eqb_turn a b = go (eqb b a) refl
  where
    go : (c : Bool) → eqb b a ≡ c → eqb a b ≡ c
    go true e = eq-eqb a b (sym (eqb-true b a e))
    go false e = ne_eqb a b (λ z. eqb-false b a e (sym z))

-- a thread's session put in
put_has : (m active r o k : ℕ) → 1 ≤ o → o ≤ 32 → has (put_session m active r o) k ≡ (has m k || (eqb o k && has active r))
put_has m active r o k l n = go (has active r)
  where
    turned : (a b : Bool) → (a || b) ≡ (b || (a && true))
    turned true true = refl
    turned true false = refl
    turned false true = refl
    turned false false = refl

    none : (a b : Bool) → b ≡ (b || (a && false))
    none true true = refl
    none true false = refl
    none false true = refl
    none false false = refl

    go : (b : Bool) → has (cond b (with_session m o) m) k ≡ (has m k || (eqb o k && b))
    go true =
        ap (λ (x : ℕ). has x k) (sym (with_one m o l n)) ∙ has_with m o k l ∙ ap (λ (c : Bool). c || has m k) (eqb_turn k o)
        ∙ turned (eqb o k) (has m k)
    go false = none (eqb o k) (has m k)

or_assoc : (a b c : Bool) → ((a || b) || c) ≡ (a || (b || c))
or_assoc true b c = refl
or_assoc false b c = refl

or-false : (a : Bool) → a ≡ (a || false)
or-false true = refl
or-false false = refl

gathered_or : (ts : List Thread) (os : List ℕ) (r m k : ℕ) → All (InCount 32) os → has (gathered ts os r m) k ≡ (has m k || occupies ts os k r)
unfolding gathered occupies
gathered_or [] os r m k c = or-false (has m k)
gathered_or (t ∷ ts) [] r m k c = or-false (has m k)
gathered_or (t ∷ ts) (o ∷ os) r m k c =
    gathered_or ts os r (put_session m t.mask r o) k c.1
    ∙ ap (λ (b : Bool). b || occupies ts os k r) (put_has m t.mask r o k c.0.0 c.0.1)
    ∙ or_assoc (has m k) (eqb o k && has t.mask r) (occupies ts os k r)

-- A session is in the mask exactly if it has the role.
pub gathered_has : (ts : List Thread) (os : List ℕ) (r k : ℕ) → All (InCount 32) os → has (gathered ts os r 0) k ≡ occupies ts os k r
gathered_has ts os r k c = gathered_or ts os r 0 k c ∙ ap (λ (b : Bool). b || occupies ts os k r) (has_none k)

held_count : (q : ℕ → Bool) (n m : ℕ) → ((k : ℕ) → has m k ≡ q k) → held n m ≡ count_to q n
unfolding held count_to
held_count q zero m f = refl
held_count q (suc n) m f = ap₂ (λ (b : Bool) (x : ℕ). cond b 1 0 + x) (f (suc n)) (held_count q n m f)

-- nobody above n
count_past : (q : ℕ → Bool) (n j : ℕ) → ((k : ℕ) → n < k → q k ≡ false) → count_to q (j + n) ≡ count_to q n
unfolding count_to
count_past q n zero f = let e : 0 + n ≡ n = omega arith in ap (count_to q) e
count_past q n (suc j) f =
    let e : suc j + n ≡ suc (j + n) = omega arith in
    ap (count_to q) e ∙ ap (λ (b : Bool). cond b 1 0 + count_to q (j + n)) (f (suc (j + n)) (omega arith))
    ∙ ap (λ (x : ℕ). 0 + x) (count_past q n j f) ∙ zero_plus (count_to q n)
  where
    zero_plus : (x : ℕ) → 0 + x ≡ x
    zero_plus x = omega arith

out_of_count : (ts : List Thread) (os : List ℕ) (n r k : ℕ) → All (InCount n) os → n < k → occupies ts os k r ≡ false
unfolding occupies
out_of_count [] os n r k c l = refl
out_of_count (t ∷ ts) [] n r k c l = refl
out_of_count (t ∷ ts) (o ∷ os) n r k c l =
    ap₂ (λ (a b : Bool). (a && has t.mask r) || b) (ne_eqb o k (λ z. omega (arith, z, c.0.1, l))) (out_of_count ts os n r k c.1 l)

pub counted_more : (os : List ℕ) (n m : ℕ) → n ≤ m → All (InCount n) os → All (InCount m) os
counted_more [] n m l c = tt
counted_more (o ∷ os) n m l c = ((c.0.0, omega (arith, c.0.1, l)), counted_more os n m l c.1)

-- The ones of the mask are the seats taken.
pub gathered_held : (ts : List Thread) (os : List ℕ) (n r : ℕ) → n ≤ 32 → All (InCount n) os
    → held 32 (gathered ts os r 0) ≡ count_to (λ k. occupies ts os k r) n
gathered_held ts os n r l c =
    let j : ℕ = 32 - n in
    let e : 32 ≡ j + n = omega (arith, l) in
    held_count (λ k. occupies ts os k r) 32 (gathered ts os r 0) (λ k. gathered_has ts os r k (counted_more os n 32 l c))
    ∙ ap (count_to (λ k. occupies ts os k r)) e ∙ count_past (λ k. occupies ts os k r) n j (λ k m. out_of_count ts os n r k c m)
