-- Files that are read alike, want as much output and hold the same are merged alike, on either side.
use Prim.Native.Nat.{ℕ, ◌≤◌, ◌<◌}
use mathlib.Core.Path.{◌≡◌, refl, sym, ap, ap₂, ◌∙◌}
use mathlib.Core.Logic.{inl, inr, ◌≢◌}
use mathlib.Core.Bool.{Bool, true, false, cond, ◌||◌, true≢false}
use mathlib.Core.List.{List, [], ◌∷◌}
use native.Mathlib.Omega.{arith}
use lib.Dec.{eqb, ltb}
use lib.ListN.{length}
use lib.Seq.{sets}
use borrow.Author.Tests.{eqb-true, eqb-false, ltb-true, ltb-false, ne_eqb}
use Rattle.format.specs.Words.{word_at}
use Rattle.format.specs.Answers.{fine, refused, or_else, not_written}
use Rattle.format.specs.Header.{has_juniors, WithJuniors, version_at, room_for}
use Rattle.format.specs.Contents.{Contents, contents_of}
use Rattle.format.specs.Writing.{encoded}
use Rattle.format.specs.declared.Verdict.{Verdict}
use Rattle.format.proofs.HeadLaws.{juniors_iff}
use Rattle.format.proofs.AnswerLaws.{loud_first}
use Rattle.checking.specs.Check.{reading_names}
use Rattle.placing.proofs.PlaceLaws.{room_by_word}
use Rattle.merging.specs.Merged.{merged_contents}
use Rattle.merging.specs.Merging.{own_answer, join_answer, both_answer, written_for, merging, merged_bytes, merged_over}
use Rattle.format.specs.declared.Written.{Written}
use Rattle.reading_exact.specs.Order.{OfFile, First}
use Rattle.reading_exact.specs.Refusals.{Refusable, short, short_second, odd, version, count, offset, size, misnamed, misranked, unassigned, misshapen}
use Rattle.reading_exact.proofs.FirstLaws.{number_of}
use Rattle.checking_exact.specs.Faults.{Objection, of_file, of_node, check_order}
use Rattle.checking_exact.proofs.CheckFirst.{fault_turn, names_first}
use Rattle.merging_exact.proofs.OwnAnswers.{one_first, one_read, two_next, own_zero}
use Rattle.merging_exact.proofs.MergedOutput.{merge_kept}

module _ (f : List ℕ) where
  abbrev Objected : ℕ → ℕ → Type 0
  Objected n p = Objection f n p × OfFile n

  -- 2 is another version than 1
  refusal_two : (n p : ℕ) → Refusable f n p → n ≡ 2 → version_at f ≢ 1
  refusal_two n p (short e z l) is = absurd (omega (arith, e, is))
  refusal_two n p (short_second e z w l) is = absurd (omega (arith, e, is))
  refusal_two n p (odd e z l) is = absurd (omega (arith, e, is))
  refusal_two n p (version e z a b c) is = a
  refusal_two n p (count e z h) is = absurd (omega (arith, e, is))
  refusal_two n p (offset e z h) is = absurd (omega (arith, e, is))
  refusal_two n p (size e z h) is = absurd (omega (arith, e, is))
  refusal_two n p (misnamed e h) is = absurd (omega (arith, e, is))
  refusal_two n p (misranked e h) is = absurd (omega (arith, e, is))
  refusal_two n p (unassigned e h) is = absurd (omega (arith, e, is))
  refusal_two n p (misshapen e h) is = absurd (omega (arith, e, is))

  objection_two : (n p : ℕ) → Objection f n p → n ≡ 2 → version_at f ≢ 1
  objection_two n p (of_file r) is = refusal_two n p r is
  objection_two n p (of_node c s i h) is = let (_, late, twice) = fault_turn _ c _ n h in absurd (omega (arith, late, twice, is))

  two_version : (reading_names f).number ≡ 2 → version_at f ≢ 1
  two_version z = go (names_first f)
    where
      go : First check_order Objected (reading_names f) → version_at f ≢ 1
      go (inl (e, none)) = absurd (omega (arith, z, number_of e))
      go (inr (n, p, e, (o, low))) = objection_two n p o.0 (sym (number_of e) ∙ z)

  read_two : (reading_names f).number ≢ 1 → version_at f ≢ 1 → (WithJuniors (version_at f) → ⊥) → (reading_names f).number ≡ 2
  read_two other a b = go (names_first f)
    where
      here : Objected 2 0
      here = (of_file (version refl refl a (λ e. b (inl e)) (λ e. b (inr e))), inl (omega arith, omega arith))

      go : First check_order Objected (reading_names f) → (reading_names f).number ≡ 2
      go (inl (e, none)) = absurd (none 2 0 here)
      go (inr (n, p, e, (o, low))) = number_of e ∙ (one_first n p 2 0 (low 2 0 here) (two_next n p o.1 (λ is. other (number_of e ∙ is)))).0

  -- the output wanted goes by the version
  word_two : (g : List ℕ) → WithJuniors (version_at g) → WithJuniors (word_at g 0)
  word_two [] (inl e) = absurd (omega (arith, e))
  word_two [] (inr e) = absurd (omega (arith, e))
  word_two (b ∷ bs) e = e

  too_short : (g : List ℕ) → WithJuniors (version_at g) → length g < 2 → Refusable g 1 0
  too_short [] (inl v) l = absurd (omega (arith, v))
  too_short [] (inr v) l = absurd (omega (arith, v))
  too_short (b ∷ bs) v l = short refl refl (omega (arith, l))

  room_two : (reading_names f).number ≢ 1 → WithJuniors (version_at f) → room_for f ≡ 6908
  room_two other v = go (ltb (length f) 2) refl
    where
      go : (b : Bool) → ltb (length f) 2 ≡ b → room_for f ≡ 6908
      go true e = absurd (other (one_read f 0 (of_file (too_short f v (ltb-true (length f) 2 e)), inl (omega arith, omega arith))))
      go false e = (room_by_word f).0 (ltb-false (length f) 2 e, word_two f v)

room_one : (g : List ℕ) → version_at g ≡ 1 → room_for g ≡ 6874
room_one g v = (room_by_word g).1 (λ (l, e). not_two g v l e)
  where
    not_two : (g : List ℕ) → version_at g ≡ 1 → 2 ≤ length g → WithJuniors (word_at g 0) → ⊥
    not_two [] v l e = omega (arith, l)
    not_two (b ∷ bs) v l (inl e) = omega (arith, v, e)
    not_two (b ∷ bs) v l (inr e) = omega (arith, v, e)

-- of files that are read alike and want as much output none is of version 1 alone, unless 1 is wrong with them
alone : (f g : List ℕ) → reading_names f ≡ reading_names g → room_for f ≡ room_for g → (reading_names g).number ≢ 1 → version_at f ≡ 1 → version_at g ≢ 1 → ⊥
alone f g names form other a b = go (has_juniors (version_at g)) refl
  where
    go : (c : Bool) → has_juniors (version_at g) ≡ c → ⊥
    go true e = omega (arith, form, room_one f a, room_two g other ((juniors_iff (version_at g)).0 e))
    go false e = two_version f (number_of names ∙ read_two g other b (λ j. true≢false (sym ((juniors_iff (version_at g)).1 j) ∙ e))) a

pub same_own : (f g : List ℕ) → reading_names f ≡ reading_names g → room_for f ≡ room_for g → own_answer f ≡ own_answer g
unfolding own_answer
same_own f g names form = go (eqb (reading_names g).number 1) (eqb (version_at f) 1) (eqb (version_at g) 1) refl refl refl
  where
    go : (c a b : Bool) → eqb (reading_names g).number 1 ≡ c → eqb (version_at f) 1 ≡ a → eqb (version_at g) 1 ≡ b
        → cond (eqb (reading_names f).number 1 || eqb (version_at f) 1) (reading_names f) (refused 2 0) ≡ cond (eqb (reading_names g).number 1 || eqb (version_at g) 1) (reading_names g) (refused 2 0)
    go true a b x y z = rw (names, x)
    go false true true x y z = rw (names, x, y, z)
    go false false false x y z = rw (names, x, y, z)
    go false true false x y z = absurd (alone f g names form (eqb-false (reading_names g).number 1 x) (eqb-true (version_at f) 1 y) (eqb-false (version_at g) 1 z))
    go false false true x y z =
        absurd (alone g f (sym names) (sym form) (λ w. eqb-false (reading_names g).number 1 x (sym (number_of names) ∙ w)) (eqb-true (version_at g) 1 z) (eqb-false (version_at f) 1 y))

-- the answers and outputs of merging with any other file, as the first and as the second
pub record MergedAlike (f g : List ℕ) : Type 0 where
  pub first : (h : List ℕ) (room : ℕ) → merging f h room ≡ merging g h room
  pub second : (h : List ℕ) (room : ℕ) → merging h f room ≡ merging h g room
  pub first_over : (h out : List ℕ) → merged_over f h out ≡ merged_over g h out
  pub second_over : (h out : List ℕ) → merged_over h f out ≡ merged_over h g out

silent : (C : Contents) (v : Verdict) → v.number ≢ 0 → written_for C v ≡ not_written v.number v.place
silent C v bad = rw (ne_eqb v.number 0 bad)

-- by a file's own answer v and what it holds
module _ (h : List ℕ) where
  abbrev first_by_lem : Contents → Verdict → Written
  first_by_lem C v = written_for (merged_contents C (contents_of h)) (or_else v (or_else (own_answer h) (join_answer C (contents_of h))))

  abbrev second_by : Contents → Verdict → Written
  second_by C v = written_for (merged_contents (contents_of h) C) (or_else (own_answer h) (or_else v (join_answer (contents_of h) C)))

  -- where it is refused what it holds plays no part
  first_loud : (C : Contents) (v : Verdict) → v.number ≢ 0 → first_by_lem C v ≡ not_written v.number v.place
  first_loud C v bad =
      ap (written_for (merged_contents C (contents_of h))) (loud_first v (or_else (own_answer h) (join_answer C (contents_of h))) bad) ∙ silent (merged_contents C (contents_of h)) v bad

  either_loud : (v : Verdict) → v.number ≢ 0 → (or_else (own_answer h) v).number ≢ 0
  either_loud v bad = go (eqb (own_answer h).number 0) refl
    where
      go : (b : Bool) → eqb (own_answer h).number 0 ≡ b → (cond b v (own_answer h)).number ≢ 0
      go true e = bad
      go false e = eqb-false (own_answer h).number 0 e

  second_loud : (C : Contents) (v : Verdict) → v.number ≢ 0 → second_by C v ≡ not_written (or_else (own_answer h) v).number (or_else (own_answer h) v).place
  second_loud C v bad =
      ap (λ (x : Verdict). written_for (merged_contents (contents_of h) C) (or_else (own_answer h) x)) (loud_first v (join_answer (contents_of h) C) bad)
      ∙ silent (merged_contents (contents_of h) C) (or_else (own_answer h) v) (either_loud v bad)

  -- so nothing is written
  first_refused : (f : List ℕ) → (own_answer f).number ≢ 0 → (out : List ℕ) → merged_over f h out ≡ out
  unfolding merging both_answer
  first_refused f bad out = merge_kept f h out (go (ltb (length out) 6874))
    where
      go : (b : Bool) → (cond b (not_written 17 0) (first_by_lem (contents_of f) (own_answer f))).number ≢ 0
      go true z = omega (arith, z)
      go false z = bad (sym (ap (λ (a : Written). a.number) (first_loud (contents_of f) (own_answer f) bad)) ∙ z)

  second_refused : (f : List ℕ) → (own_answer f).number ≢ 0 → (out : List ℕ) → merged_over h f out ≡ out
  unfolding merging both_answer
  second_refused f bad out = merge_kept h f out (go (ltb (length out) 6874))
    where
      go : (b : Bool) → (cond b (not_written 17 0) (second_by (contents_of f) (own_answer f))).number ≢ 0
      go true z = omega (arith, z)
      go false z = either_loud (own_answer f) bad (sym (ap (λ (a : Written). a.number) (second_loud (contents_of f) (own_answer f) bad)) ∙ z)

module _ (f g : List ℕ) (own : own_answer f ≡ own_answer g) (held : own_answer g ≡ fine → contents_of f ≡ contents_of g) where
  -- refused, or holding the same
  by_answer : {A : Type 0} (judge : Contents → Verdict → A) → ((C : Contents) (v : Verdict) → v.number ≢ 0 → judge (contents_of f) v ≡ judge C v)
      → judge (contents_of f) (own_answer f) ≡ judge (contents_of g) (own_answer g)
  by_answer judge any = go (eqb (own_answer g).number 0) refl
    where
      go : (b : Bool) → eqb (own_answer g).number 0 ≡ b → judge (contents_of f) (own_answer f) ≡ judge (contents_of g) (own_answer g)
      go true e = ap₂ judge (held (own_zero g (eqb-true (own_answer g).number 0 e))) own
      go false e = ap (judge (contents_of f)) own ∙ any (contents_of g) (own_answer g) (eqb-false (own_answer g).number 0 e)

  as_first : (h : List ℕ) (room : ℕ) → merging f h room ≡ merging g h room
  unfolding merging both_answer
  as_first h room =
      ap (λ (a : Written). cond (ltb room 6874) (not_written 17 0) a) (by_answer (first_by_lem h) (λ C v bad. first_loud h (contents_of f) v bad ∙ sym (first_loud h C v bad)))

  as_second : (h : List ℕ) (room : ℕ) → merging h f room ≡ merging h g room
  unfolding merging both_answer
  as_second h room =
      ap (λ (a : Written). cond (ltb room 6874) (not_written 17 0) a) (by_answer (second_by h) (λ C v bad. second_loud h (contents_of f) v bad ∙ sym (second_loud h C v bad)))

  over_first : (h out : List ℕ) → merged_over f h out ≡ merged_over g h out
  unfolding merged_over merged_bytes
  over_first h out = go (eqb (own_answer g).number 0) refl
    where
      go : (b : Bool) → eqb (own_answer g).number 0 ≡ b → merged_over f h out ≡ merged_over g h out
      go true e =
          let same = held (own_zero g (eqb-true (own_answer g).number 0 e)) in
          ap₂ (λ (a : Written) (C : Contents). cond (eqb a.number 0) (sets out 0 (encoded 1 (merged_contents C (contents_of h)))) out) (as_first h (length out)) same
      go false e =
          let bad = eqb-false (own_answer g).number 0 e in
          first_refused h f (λ z. bad (sym (number_of own) ∙ z)) out ∙ sym (first_refused h g bad out)

  over_second : (h out : List ℕ) → merged_over h f out ≡ merged_over h g out
  unfolding merged_over merged_bytes
  over_second h out = go (eqb (own_answer g).number 0) refl
    where
      go : (b : Bool) → eqb (own_answer g).number 0 ≡ b → merged_over h f out ≡ merged_over h g out
      go true e =
          let same = held (own_zero g (eqb-true (own_answer g).number 0 e)) in
          ap₂ (λ (a : Written) (C : Contents). cond (eqb a.number 0) (sets out 0 (encoded 1 (merged_contents (contents_of h) C))) out) (as_second h (length out)) same
      go false e =
          let bad = eqb-false (own_answer g).number 0 e in
          second_refused h f (λ z. bad (sym (number_of own) ∙ z)) out ∙ sym (second_refused h g bad out)

  pub merged_alike : MergedAlike f g
  merged_alike = record { first = as_first; second = as_second; first_over = over_first; second_over = over_second }
