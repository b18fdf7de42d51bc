-- Merging answers exactly what document 02 says, each refusal in its turn.
use Prim.Native.Nat.{ℕ, ◌≤◌, ◌<◌}
use mathlib.Core.Path.{◌≡◌, refl, sym, ap, ◌∙◌, subst}
use mathlib.Core.Logic.{◌↔◌, inl, inr, ◌≢◌}
use mathlib.Core.Bool.{Bool, true, false, true≢false}
use mathlib.Core.List.{List}
use native.Mathlib.Omega.{arith}
use lib.Dec.{ltb}
use lib.ListN.{length}
use borrow.Author.Tests.{ltb-true, ltb-false, lt-ltb, le-ltb, ne_eqb}
use Rattle.format.specs.Answers.{fine, refused, or_else}
use Rattle.format.specs.Header.{version_at}
use Rattle.format.specs.Contents.{Contents, contents_of}
use Rattle.format.specs.declared.Verdict.{Verdict}
use Rattle.format.proofs.AnswerLaws.{quiet_first, loud_first}
use Rattle.checking.specs.Check.{reading_names}
use Rattle.merging.specs.Merged.{merged_contents, same_tables, sums_fit}
use Rattle.merging.specs.Merging.{own_answer, join_answer, both_answer, written_for, merging, merged_bytes}
use Rattle.format.specs.declared.Written.{Written}
use Rattle.reading_exact.specs.Lists.{All}
use Rattle.reading_exact.specs.Order.{OfFile, First}
use Rattle.reading_exact.proofs.FirstLaws.{number_of}
use Rattle.reading_exact.proofs.Turns.{not_of_file}
use Rattle.checking_exact.specs.Faults.{Objection, check_order}
use Rattle.merging_exact.specs.Sums.{SameTables, SumsFit}
use Rattle.merging_exact.specs.MergeCauses.{OwnCause, objected, other_version, OwnRefusal, Passes, unwritten, Answers, no_room, of_first, of_second, differ, beyond, merged}
use Rattle.merging_exact.proofs.OwnAnswers.{own_first, own_passes, own_refusal, own_number, own_read, own_version, passed_file}
use Rattle.merging_exact.proofs.SumTests.{tables_iff, sums_iff}
use Rattle.merging_exact.proofs.MergedBytes.{merged_length}

number : {a b : Written} → a ≡ b → a.number ≡ b.number
number = ap (λ (w : Written). w.number)

not-true : (b : Bool) → (b ≡ true → ⊥) → b ≡ false
not-true true never = absurd (never refl)
not-true false never = refl

few : {n : ℕ} → OfFile n → n ≢ 25
few (inl (low, high)) e = omega (arith, high, e)
few (inr is) e = omega (arith, is, e)

-- a file's own refusal is one of 1 to 10
pub own_of_file : (f : List ℕ) (n p : ℕ) → OwnRefusal f n p → OfFile n
own_of_file f n p (objected o r, low) = o
own_of_file f n p (other_version e z v, low) = inl (omega (arith, e), omega (arith, e))

module _ (f g : List ℕ) (room : ℕ) where
  abbrev C : Contents
  C = contents_of f

  abbrev D : Contents
  D = contents_of g

  abbrev written : Verdict → Written
  written = written_for (merged_contents C D)

  -- The answer, stage by stage.

  short : room < 6874 → merging f g room ≡ unwritten 17 0
  unfolding merging
  short l = rw (lt-ltb room 6874 l)

  judged : 6874 ≤ room → merging f g room ≡ written (both_answer f g)
  unfolding merging
  judged l = rw (le-ltb room 6874 l)

  loud : (n p : ℕ) → 1 ≤ n → written (refused n p) ≡ unwritten n p
  loud n p l = rw (ne_eqb n 0 (λ z. omega (arith, l, z)))

  first_refused : (n p : ℕ) → 6874 ≤ room → own_answer f ≡ refused n p → 1 ≤ n → merging f g room ≡ unwritten n p
  unfolding both_answer
  first_refused n p l e some =
      judged l ∙ ap written (loud_first (own_answer f) (or_else (own_answer g) (join_answer C D)) (λ z. omega (arith, some, number_of e)) ∙ e) ∙ loud n p some

  past_first : own_answer f ≡ fine → both_answer f g ≡ or_else (own_answer g) (join_answer C D)
  unfolding both_answer
  past_first e = quiet_first (own_answer f) (or_else (own_answer g) (join_answer C D)) (number_of e)

  second_refused : (n p : ℕ) → 6874 ≤ room → own_answer f ≡ fine → own_answer g ≡ refused n p → 1 ≤ n → merging f g room ≡ unwritten n p
  second_refused n p l a e some =
      judged l ∙ ap written (past_first a ∙ loud_first (own_answer g) (join_answer C D) (λ z. omega (arith, some, number_of e)) ∙ e) ∙ loud n p some

  joined : 6874 ≤ room → own_answer f ≡ fine → own_answer g ≡ fine → merging f g room ≡ written (join_answer C D)
  joined l a b = judged l ∙ ap written (past_first a ∙ quiet_first (own_answer g) (join_answer C D) (number_of b))

  -- a file of version 1 is refused as it is read
  pub first_as_read : 6874 ≤ room → version_at f ≡ 1 → (reading_names f).number ≢ 0 → merging f g room ≡ unwritten (reading_names f).number (reading_names f).place
  first_as_read l v bad = first_refused (reading_names f).number (reading_names f).place l (own_read f v) (omega (arith, bad))

  pub second_as_read : 6874 ≤ room → Passes f → version_at g ≡ 1 → (reading_names g).number ≢ 0
      → merging f g room ≡ unwritten (reading_names g).number (reading_names g).place
  second_as_read l x v bad = second_refused (reading_names g).number (reading_names g).place l ((own_passes f).1 x) (own_read g v) (omega (arith, bad))

  -- and one of another version with 2
  pub first_version : 6874 ≤ room → version_at f ≢ 1 → ((p : ℕ) → Objection f 1 p → ⊥) → merging f g room ≡ unwritten 2 0
  first_version l v none = first_refused 2 0 l ((own_refusal f 2 0).1 (own_version f v none)).0 (omega arith)

  pub second_version : 6874 ≤ room → Passes f → version_at g ≢ 1 → ((p : ℕ) → Objection g 1 p → ⊥) → merging f g room ≡ unwritten 2 0
  second_version l x v none = second_refused 2 0 l ((own_passes f).1 x) ((own_refusal g 2 0).1 (own_version g v none)).0 (omega arith)

  module _ (F-bytes : All (λ b. b < 256) f) (G-bytes : All (λ b. b < 256) g) where
    answered : Answers f g room (merging f g room)
    answered = at (ltb room 6874) refl
      where
        put : (a : Written) → merging f g room ≡ a → Answers f g room a → Answers f g room (merging f g room)
        put a e h = subst (Answers f g room) (sym e) h

        tables : 6874 ≤ room → own_answer f ≡ fine → own_answer g ≡ fine → (a b : Bool) → same_tables C D ≡ a → sums_fit C D ≡ b → Answers f g room (merging f g room)
        tables l x y true true s t =
            let (F, _, P) = passed_file f F-bytes x in
            let (G, _, Q) = passed_file g G-bytes y in
            let e : join_answer C D ≡ fine = rw (s, t) in
            put (record { number = 0; place = 0; length = length (merged_bytes f g) })
            (joined l x y ∙ ap written e ∙ (λ i. record { number = 0; place = 0; length = merged_length f g F G P Q i }))
            (merged l ((own_passes f).0 x) ((own_passes g).0 y) ((tables_iff C D).0 s) ((sums_iff C D).0 t))
        tables l x y true false s t =
            let e : join_answer C D ≡ refused 3 0 = rw (s, t) in
            put (unwritten 3 0) (joined l x y ∙ ap written e)
            (beyond l ((own_passes f).0 x) ((own_passes g).0 y) ((tables_iff C D).0 s) (λ h. true≢false (sym ((sums_iff C D).1 h) ∙ t)))
        tables l x y false b s t =
            let e : join_answer C D ≡ refused 25 0 = rw s in
            put (unwritten 25 0) (joined l x y ∙ ap written e)
            (differ l ((own_passes f).0 x) ((own_passes g).0 y) (λ h. true≢false (sym ((tables_iff C D).1 h) ∙ s)))

        second : 6874 ≤ room → own_answer f ≡ fine → First check_order (OwnCause g) (own_answer g) → Answers f g room (merging f g room)
        second l x (inl (e, none)) = tables l x e (same_tables C D) (sums_fit C D) refl refl
        second l x (inr (n, p, e, h)) = put (unwritten n p) (second_refused n p l x e (own_number g n p h.0)) (of_second n p l ((own_passes f).0 x) h)

        first : 6874 ≤ room → First check_order (OwnCause f) (own_answer f) → Answers f g room (merging f g room)
        first l (inl (e, none)) = second l e (own_first g)
        first l (inr (n, p, e, h)) = put (unwritten n p) (first_refused n p l e (own_number f n p h.0)) (of_first n p l h)

        at : (b : Bool) → ltb room 6874 ≡ b → Answers f g room (merging f g room)
        at true e = let l = ltb-true room 6874 e in put (unwritten 17 0) (short l) (no_room l)
        at false e = first (ltb-false room 6874 e) (own_first f)

    only : (a : Written) → Answers f g room a → merging f g room ≡ a
    only a (no_room l) = short l
    only a (of_first n p l h) = let (e, some) = (own_refusal f n p).1 h in first_refused n p l e some
    only a (of_second n p l x h) = let (e, some) = (own_refusal g n p).1 h in second_refused n p l ((own_passes f).1 x) e some
    only a (differ l x y never) =
        let s : same_tables C D ≡ false = not-true (same_tables C D) (λ h. never ((tables_iff C D).0 h)) in
        let e : join_answer C D ≡ refused 25 0 = rw s in
        joined l ((own_passes f).1 x) ((own_passes g).1 y) ∙ ap written e
    only a (beyond l x y S never) =
        let t : sums_fit C D ≡ false = not-true (sums_fit C D) (λ h. never ((sums_iff C D).0 h)) in
        let e : join_answer C D ≡ refused 3 0 = rw ((tables_iff C D).1 S, t) in
        joined l ((own_passes f).1 x) ((own_passes g).1 y) ∙ ap written e
    only a (merged l x y S L) =
        let (F, _, P) = passed_file f F-bytes ((own_passes f).1 x) in
        let (G, _, Q) = passed_file g G-bytes ((own_passes g).1 y) in
        let e : join_answer C D ≡ fine = rw ((tables_iff C D).1 S, (sums_iff C D).1 L) in
        joined l ((own_passes f).1 x) ((own_passes g).1 y) ∙ ap written e ∙ (λ i. record { number = 0; place = 0; length = merged_length f g F G P Q i })

    -- the whole answer
    pub merging_exactly : (a : Written) → (merging f g room ≡ a) ↔ Answers f g room a
    merging_exactly a = (λ e. subst (Answers f g room) e answered, only a)

    -- 17
    pub seventeen_merging : ((merging f g room).number ≡ 17) ↔ (room < 6874)
    seventeen_merging = (λ e. go (merging f g room) answered e, λ l. number (short l))
      where
        go : (a : Written) → Answers f g room a → a.number ≡ 17 → room < 6874
        go a (no_room l) e = l
        go a (of_first n p l h) e = absurd (not_of_file n 17 (own_of_file f n p h) (omega arith) (omega arith) e)
        go a (of_second n p l x h) e = absurd (not_of_file n 17 (own_of_file g n p h) (omega arith) (omega arith) e)
        go a (differ l x y never) e = absurd (omega (arith, e))
        go a (beyond l x y S never) e = absurd (omega (arith, e))
        go a (merged l x y S L) e = absurd (omega (arith, e))

    -- 25
    pub differ_exactly : ((merging f g room).number ≡ 25) ↔ ((6874 ≤ room) × Passes f × Passes g × (SameTables (contents_of f) (contents_of g) → ⊥))
    differ_exactly = (λ e. go (merging f g room) answered e, λ (l, x, y, never). number (only (unwritten 25 0) (differ l x y never)))
      where
        go : (a : Written) → Answers f g room a → a.number ≡ 25 → (6874 ≤ room) × Passes f × Passes g × (SameTables C D → ⊥)
        go a (no_room l) e = absurd (omega (arith, e))
        go a (of_first n p l h) e = absurd (few (own_of_file f n p h) e)
        go a (of_second n p l x h) e = absurd (few (own_of_file g n p h) e)
        go a (differ l x y never) e = (l, x, y, never)
        go a (beyond l x y S never) e = absurd (omega (arith, e))
        go a (merged l x y S L) e = absurd (omega (arith, e))

    -- nothing
    pub merged_exactly : ((merging f g room).number ≡ 0)
        ↔ ((6874 ≤ room) × Passes f × Passes g × SameTables (contents_of f) (contents_of g) × SumsFit (contents_of f) (contents_of g))
    merged_exactly = (λ e. go (merging f g room) answered e, λ (l, x, y, S, L). number (only _ (merged l x y S L)))
      where
        go : (a : Written) → Answers f g room a → a.number ≡ 0 → (6874 ≤ room) × Passes f × Passes g × SameTables C D × SumsFit C D
        go a (no_room l) e = absurd (omega (arith, e))
        go a (of_first n p l h) e = absurd (omega (arith, own_number f n p h.0, e))
        go a (of_second n p l x h) e = absurd (omega (arith, own_number g n p h.0, e))
        go a (differ l x y never) e = absurd (omega (arith, e))
        go a (beyond l x y S never) e = absurd (omega (arith, e))
        go a (merged l x y S L) e = (l, x, y, S, L)

    -- 3 for the sums, of two files that have passed 1 to 10
    pub beyond_exactly : Passes f → Passes g
        → (merging f g room ≡ unwritten 3 0) ↔ ((6874 ≤ room) × SameTables (contents_of f) (contents_of g) × (SumsFit (contents_of f) (contents_of g) → ⊥))
    beyond_exactly x y = (λ e. go (merging f g room) answered (number e), λ (l, S, never). only (unwritten 3 0) (beyond l x y S never))
      where
        go : (a : Written) → Answers f g room a → a.number ≡ 3 → (6874 ≤ room) × SameTables C D × (SumsFit C D → ⊥)
        go a (no_room l) e = absurd (omega (arith, e))
        go a (of_first n p l h) e = absurd (x n p h.0)
        go a (of_second n p l _ h) e = absurd (y n p h.0)
        go a (differ l _ _ never) e = absurd (omega (arith, e))
        go a (beyond l _ _ S never) e = (l, S, never)
        go a (merged l _ _ S L) e = absurd (omega (arith, e))

    -- the first file's own refusal
    pub first_exactly : (Passes f → ⊥) → (n p : ℕ) → n ≢ 17 → (merging f g room ≡ unwritten n p) ↔ ((6874 ≤ room) × OwnRefusal f n p)
    first_exactly bad n p other = (λ e. go (merging f g room) answered e, λ (l, h). only (unwritten n p) (of_first n p l h))
      where
        go : (a : Written) → Answers f g room a → a ≡ unwritten n p → (6874 ≤ room) × OwnRefusal f n p
        go a (no_room l) e = absurd (other (sym (number e)))
        go a (of_first m q l h) e = (l, subst (λ (w : Written). OwnRefusal f w.number w.place) e h)
        go a (of_second m q l x h) e = absurd (bad x)
        go a (differ l x y never) e = absurd (bad x)
        go a (beyond l x y S never) e = absurd (bad x)
        go a (merged l x y S L) e = absurd (bad x)

    -- the second's, where the first has passed
    pub second_exactly : Passes f → (Passes g → ⊥) → (n p : ℕ) → n ≢ 17 → (merging f g room ≡ unwritten n p) ↔ ((6874 ≤ room) × OwnRefusal g n p)
    second_exactly fine-first bad n p other = (λ e. go (merging f g room) answered e, λ (l, h). only (unwritten n p) (of_second n p l fine-first h))
      where
        go : (a : Written) → Answers f g room a → a ≡ unwritten n p → (6874 ≤ room) × OwnRefusal g n p
        go a (no_room l) e = absurd (other (sym (number e)))
        go a (of_first m q l h) e = absurd (fine-first m q h.0)
        go a (of_second m q l x h) e = (l, subst (λ (w : Written). OwnRefusal g w.number w.place) e h)
        go a (differ l x y never) e = absurd (bad y)
        go a (beyond l x y S never) e = absurd (bad y)
        go a (merged l x y S L) e = absurd (bad y)
