-- Reading gives the first refusal in the paper's order: the least number that objects to the file, and its lowest place.
use Prim.Native.Nat.{ℕ, suc, ◌*◌, ◌%◌, ◌≤◌, ◌<◌}
use mathlib.Core.Path.{◌≡◌, refl, sym, ◌∙◌}
use mathlib.Core.Logic.{◌⊎◌, inl, inr, ◌≢◌, ◌↔◌}
use mathlib.Core.Bool.{Bool, true, false, cond, false≢true}
use mathlib.Core.List.{List}
use native.Mathlib.Omega.{arith}
use lib.ListN.{length}
use lib.Dec.{eqb, ltb}
use borrow.Author.Tests.{eqb-true, eqb-false, ne_eqb, ltb-true, lt-ltb}
use Rattle.format.specs.Words.{word_at}
use Rattle.format.specs.Answers.{fine, refused}
use Rattle.format.specs.Contents.{Contents, contents_at, contents_of}
use Rattle.format.specs.Header.{has_juniors, WithJuniors, more, six_at, offsets_at, as_read, head_at, head_bytes, length_fits, length_for, Laid, from5, from4, from3, from2, from1, head_of}
use Rattle.tables.specs.Records.{records_answer}
use Rattle.trees.specs.Shape.{shape_answer}
use Rattle.reading.specs.Reading.{body_answer, reading_by, reading}
use Rattle.format.specs.declared.Head.{Head}
use Rattle.std.specs.Prelude.{Result, Ok, Err}
use Rattle.format.proofs.BoolLaws.{eq_iff}
use Rattle.format.proofs.HeadLaws.{juniors_iff, IsVersion, version_iff, counts_iff, offsets_iff, laid_iff}
use Rattle.reading_exact.specs.Order.{in_turn, First}
use Rattle.format.specs.Header.{Counted, BackToBack}
use Rattle.reading_exact.specs.Refusals.{Refusable, short, short_second, odd, version, count, offset, size, misnamed, misranked, unassigned, misshapen, length_of, reading_order}
use Rattle.reading_exact.proofs.FirstLaws.{Both, number_of, lowest, first_zero, first_clear, first-map, first-none, first_some, first_or}
use Rattle.reading_exact.proofs.Standing.{roots_in, roots_due}
use Rattle.reading_exact.proofs.RecordsFirst.{BadRecord, records_first, record_turn}
use Rattle.reading_exact.proofs.ShapeFirst.{BadShape, shape_first}

-- what 6 to 8 object to
abbrev BadBody : Head → Contents → ℕ → ℕ → Type 0
BadBody h C = Both (BadRecord h C) (BadShape C.nodes (roots_in C.sessions))

from_six : (h : Head) (C : Contents) (n p : ℕ) → BadBody h C n p → 12 ≤ in_turn n
from_six h C n p (inl r) = (record_turn h C n p r).1
from_six h C n p (inr s) = rw s.0 (omega arith)

body-first : (f : List ℕ) (h : Head) → Laid f h → First reading_order (BadBody h (contents_at f h)) (body_answer h (contents_at f h))
unfolding shape_answer
body-first f h L =
    let C : Contents = contents_at f h in
    first_or reading_order (BadRecord h C) (BadShape C.nodes (roots_in C.sessions)) (records_answer h C) (shape_answer C)
    (λ n p r. (record_turn h C n p r).0) (λ n p m q r s. inl (rw s.0 (omega (arith, record_turn h C n p r)))) (records_first h C f L refl)
    (λ _. rw (roots_due C.sessions) (shape_first C.nodes (roots_in C.sessions)))

-- a refusal of the head, at place 0
abbrev OfHead : ℕ → Type 0 → ℕ → ℕ → Type 0
OfHead k O n p = (n ≡ k) × (p ≡ 0) × O

-- what comes later has a later turn
abbrev Later : ℕ → (ℕ → ℕ → Type 0) → Type 0
Later k Q = (n p : ℕ) → Q n p → 2 * k ≤ in_turn n

turn_of : (k : ℕ) → k ≤ 5 → in_turn k ≡ 2 * k
turn_of k l = rw (ne_eqb k 21 (omega arith))

head_later : (k : ℕ) (O : Type 0) (Q : ℕ → ℕ → Type 0) → k ≤ 5 → Later (suc k) Q → Later k (Both (OfHead k O) Q)
head_later k O Q low l n p (inl h) = rw (h.0, turn_of k low) (omega arith)
head_later k O Q low l n p (inr q) = omega (arith, l n p q)

refuse : (k : ℕ) (O : Type 0) (Q : ℕ → ℕ → Type 0) → k ≤ 5 → Later (suc k) Q → O → First reading_order (Both (OfHead k O) Q) (refused k 0)
refuse k O Q low l o =
    first_some reading_order (OfHead k O) Q k 0 ((refl, refl, o), λ m q h. lowest reading_order k 0 m q (sym h.0) (omega arith))
    (λ m q r. inl (omega (arith, l m q r, turn_of k low)))

-- one stage of the head: the test is P, and its refusal objects that P does not hold
stage : (f : List ℕ) (k : ℕ) (P : Type 0) (Q : ℕ → ℕ → Type 0) (b : Bool) (x : Result Head ℕ) → k ≤ 5 → Later (suc k) Q → (b ≡ true) ↔ P → (P → First reading_order Q (reading_by f x))
    → First reading_order (Both (OfHead k (P → ⊥)) Q) (reading_by f (cond b x (Err k)))
stage f k P Q true x low l t go = let p = t.0 refl in first-none reading_order (OfHead k (P → ⊥)) Q (reading_by f x) (λ n q h. h.2 p) (go p)
stage f k P Q false x low l t go = refuse k (P → ⊥) Q low l (λ p. false≢true (t.1 p))

module _ (f : List ℕ) where
  -- the bytes as they are read
  abbrev g : List ℕ
  g = as_read f

  -- what the refusals from a number on object to
  abbrev From5 : ℕ → ℕ → Type 0
  From5 = Both (OfHead 5 (length g ≢ length_of (word_at g 0) (six_at g 1))) (BadBody (head_at f) (contents_of f))

  abbrev From4 : ℕ → ℕ → Type 0
  From4 = Both (OfHead 4 (BackToBack (word_at g 0) (six_at g 1) (offsets_at g (word_at g 0)) → ⊥)) From5

  abbrev From3 : ℕ → ℕ → Type 0
  From3 = Both (OfHead 3 (Counted (six_at g 1) → ⊥)) From4

  abbrev From2 : ℕ → ℕ → Type 0
  From2 = Both (OfHead 2 (IsVersion (word_at g 0) → ⊥)) From3

  -- under 26 bytes, or a file of version 2 or 3 under 28
  abbrev Short : Type 0
  Short = (length g < 26) ⊎ (WithJuniors (word_at g 0) × (length g < 28))

  abbrev From1 : ℕ → ℕ → Type 0
  From1 = Both (OfHead 1 (Short ⊎ (length g % 2 ≡ 1))) From2

  later5 : Later 5 From5
  later5 = head_later 5 _ (BadBody (head_at f) (contents_of f)) (omega arith) (from_six (head_at f) (contents_of f))

  later4 : Later 4 From4
  later4 = head_later 4 _ From5 (omega arith) later5

  later3 : Later 3 From3
  later3 = head_later 3 _ From4 (omega arith) later4

  later2 : Later 2 From2
  later2 = head_later 2 _ From3 (omega arith) later3

  -- where the offsets are as the counts give, the nodes' offset gives the same length
  length_iff : BackToBack (word_at g 0) (six_at g 1) (offsets_at g (word_at g 0)) → (length_fits (word_at g 6) (head_at f).at.nodes (length g) ≡ true) ↔ (length g ≡ length_of (word_at g 0) (six_at g 1))
  length_iff b =
      let same : length_for (head_at f).at.nodes (word_at g 6) ≡ length_of (word_at g 0) (six_at g 1) = omega (arith, b) in
      (λ e. eqb-true _ _ e ∙ same, λ e. (eq_iff _ _).1 (e ∙ sym same))

  first5 : Counted (six_at g 1) → BackToBack (word_at g 0) (six_at g 1) (offsets_at g (word_at g 0)) → First reading_order From5 (reading_by f (from5 g))
  unfolding from5
  first5 c b = stage f 5 _ (BadBody (head_at f) (contents_of f)) _ (Ok (head_at f)) (omega arith) (from_six (head_at f) (contents_of f)) (length_iff b)
      (λ e. body-first f (head_at f) ((laid_iff f (head_at f)).0 ((counts_iff (six_at g 1)).1 c, (offsets_iff (word_at g 0) (six_at g 1) (offsets_at g (word_at g 0))).1 b, eqb-true _ _ ((length_iff b).1 e))))

  first4 : Counted (six_at g 1) → First reading_order From4 (reading_by f (from4 g))
  unfolding from4
  first4 c = stage f 4 _ From5 _ (from5 g) (omega arith) later5 (offsets_iff (word_at g 0) (six_at g 1) (offsets_at g (word_at g 0))) (first5 c)

  first3 : First reading_order From3 (reading_by f (from3 g))
  unfolding from3
  first3 = stage f 3 _ From4 _ (from4 g) (omega arith) later4 (counts_iff (six_at g 1)) first4

  first2 : First reading_order From2 (reading_by f (from2 g))
  unfolding from2
  first2 = stage f 2 _ From3 _ (from3 g) (omega arith) later3 (version_iff (word_at g 0)) (λ e. first3)

  -- the test of 1 by the first word
  short_iff : (ltb (length g) (head_bytes (word_at g 0)) ≡ true) ↔ Short
  short_iff = (to (has_juniors (word_at g 0)) refl, back)
    where
      to : (b : Bool) → has_juniors (word_at g 0) ≡ b → ltb (length g) (head_bytes (word_at g 0)) ≡ true → Short
      to true e h = let one : more (word_at g 0) ≡ 1 = rw e in inr ((juniors_iff (word_at g 0)).0 e, omega (arith, ltb-true (length g) (head_bytes (word_at g 0)) h, one))
      to false e h = let none : more (word_at g 0) ≡ 0 = rw e in inl (omega (arith, ltb-true (length g) (head_bytes (word_at g 0)) h, none))

      back : Short → ltb (length g) (head_bytes (word_at g 0)) ≡ true
      back (inl l) = lt-ltb (length g) (head_bytes (word_at g 0)) (omega (arith, l))
      back (inr (e, l)) = let one : more (word_at g 0) ≡ 1 = rw ((juniors_iff (word_at g 0)).1 e) in lt-ltb (length g) (head_bytes (word_at g 0)) (omega (arith, l, one))

  first1 : First reading_order From1 (reading f)
  unfolding reading head_of from1
  first1 = go (ltb (length g) (head_bytes (word_at g 0))) refl (eqb (length g % 2) 1) refl
    where
      O : Type 0
      O = Short ⊎ (length g % 2 ≡ 1)

      none : (Short → ⊥) → (length g % 2 ≡ 1 → ⊥) → (n p : ℕ) → OfHead 1 O n p → ⊥
      none a b n p (_, _, inl l) = a l
      none a b n p (_, _, inr e) = b e

      go : (a : Bool) → ltb (length g) (head_bytes (word_at g 0)) ≡ a → (b : Bool) → eqb (length g % 2) 1 ≡ b
          → First reading_order From1 (reading_by f (cond a (Err 1) (cond b (Err 1) (from2 g))))
      go true d b e = refuse 1 O From2 (omega arith) later2 (inl (short_iff.0 d))
      go false d true e = refuse 1 O From2 (omega arith) later2 (inr (eqb-true (length g % 2) 1 e))
      go false d false e =
          first-none reading_order (OfHead 1 O) From2 (reading_by f (from2 g)) (none (λ s. false≢true (sym d ∙ short_iff.1 s)) (eqb-false (length g % 2) 1 e)) first2

  to_refusable : (n p : ℕ) → From1 n p → Refusable f n p
  to_refusable n p (inl (a, b, inl (inl l))) = short a b l
  to_refusable n p (inl (a, b, inl (inr (e, l)))) = short_second a b e l
  to_refusable n p (inl (a, b, inr e)) = odd a b e
  to_refusable n p (inr (inl (a, b, o))) = version a b (λ e. o (inl e)) (λ e. o (inr (inl e))) (λ e. o (inr (inr e)))
  to_refusable n p (inr (inr (inl (a, b, o)))) = count a b o
  to_refusable n p (inr (inr (inr (inl (a, b, o))))) = offset a b o
  to_refusable n p (inr (inr (inr (inr (inl (a, b, o)))))) = size a b o
  to_refusable n p (inr (inr (inr (inr (inr (inl (inl (a, m)))))))) = misnamed a m
  to_refusable n p (inr (inr (inr (inr (inr (inl (inr (inl (a, m))))))))) = misranked a m
  to_refusable n p (inr (inr (inr (inr (inr (inl (inr (inr (a, m))))))))) = unassigned a m
  to_refusable n p (inr (inr (inr (inr (inr (inr (a, m))))))) = misshapen a m

  of_refusable : (n p : ℕ) → Refusable f n p → From1 n p
  of_refusable n p (short a b l) = inl (a, b, inl (inl l))
  of_refusable n p (short_second a b e l) = inl (a, b, inl (inr (e, l)))
  of_refusable n p (odd a b e) = inl (a, b, inr e)
  of_refusable n p (version a b o s t) = inr (inl (a, b, neither))
    where
      neither : IsVersion (word_at g 0) → ⊥
      neither (inl e) = o e
      neither (inr (inl e)) = s e
      neither (inr (inr e)) = t e
  of_refusable n p (count a b o) = inr (inr (inl (a, b, o)))
  of_refusable n p (offset a b o) = inr (inr (inr (inl (a, b, o))))
  of_refusable n p (size a b o) = inr (inr (inr (inr (inl (a, b, o)))))
  of_refusable n p (misnamed a m) = inr (inr (inr (inr (inr (inl (inl (a, m)))))))
  of_refusable n p (misranked a m) = inr (inr (inr (inr (inr (inl (inr (inl (a, m))))))))
  of_refusable n p (unassigned a m) = inr (inr (inr (inr (inr (inl (inr (inr (a, m))))))))
  of_refusable n p (misshapen a m) = inr (inr (inr (inr (inr (inr (a, m))))))

-- the answer of reading is the first refusal, or nothing refuses the file
pub first_refusal : (f : List ℕ) → First reading_order (Refusable f) (reading f)
first_refusal f = first-map reading_order (From1 f) (Refusable f) (reading f) (to_refusable f) (of_refusable f) (first1 f)

-- the places of 1 to 8 and 21 in the order
pub refusable_turn : (f : List ℕ) (n p : ℕ) → Refusable f n p → (1 ≤ n) × (in_turn n ≤ 16)
refusable_turn f n p (short a b l) = rw a (omega arith)
refusable_turn f n p (short_second a b e l) = rw a (omega arith)
refusable_turn f n p (odd a b e) = rw a (omega arith)
refusable_turn f n p (version a b o s t) = rw a (omega arith)
refusable_turn f n p (count a b o) = rw a (omega arith)
refusable_turn f n p (offset a b o) = rw a (omega arith)
refusable_turn f n p (size a b o) = rw a (omega arith)
refusable_turn f n p (misnamed a m) = rw a (omega arith)
refusable_turn f n p (misranked a m) = rw a (omega arith)
refusable_turn f n p (unassigned a m) = rw a (omega arith)
refusable_turn f n p (misshapen a m) = rw a (omega arith)

-- an answer of number 0 is fine, and nothing refuses the file
pub reading_zero : (f : List ℕ) → (reading f).number ≡ 0 → (reading f ≡ fine) × ((n p : ℕ) → Refusable f n p → ⊥)
reading_zero f = first_zero reading_order (Refusable f) (reading f) (λ n p r. (refusable_turn f n p r).0) (first_refusal f)

-- a file is read exactly when nothing refuses it
pub reading_fine : (f : List ℕ) → (reading f ≡ fine) ↔ ((n p : ℕ) → Refusable f n p → ⊥)
reading_fine f = (λ e. (reading_zero f (number_of e)).1, first_clear reading_order (Refusable f) (reading f) (first_refusal f))
