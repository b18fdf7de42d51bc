-- A file's own answer is the first of what can be wrong with it, and a file that passes is one file as data.
use Prim.Native.Nat.{ℕ, ◌*◌, ◌≤◌, ◌<◌}
use mathlib.Core.Path.{◌≡◌, refl, sym, ap, ◌∙◌, subst}
use mathlib.Core.Logic.{◌↔◌, inl, inr, ◌≢◌}
use mathlib.Core.Bool.{Bool, true, false, cond, ◌||◌}
use mathlib.Core.List.{List}
use native.Mathlib.Omega.{arith}
use lib.Dec.{eqb, leb}
use borrow.Author.Tests.{eqb-true, eqb-false, eq-eqb, leb-true, leb-false}
use Rattle.format.specs.Answers.{fine, refused}
use Rattle.format.specs.Header.{version_at}
use Rattle.format.specs.Contents.{contents_of}
use Rattle.format.specs.declared.Verdict.{Verdict}
use Rattle.checking.specs.Check.{reading_names}
use Rattle.merging.specs.Merging.{own_answer}
use Rattle.reading_exact.specs.Lists.{All}
use Rattle.reading_exact.specs.File.{version_of, File, WellFormed, contents_for, ReadsAs}
use Rattle.reading_exact.specs.Order.{in_turn, OfFile, Sooner, First}
use Rattle.reading_exact.proofs.FirstLaws.{number_of, lowest, first-map, first_zero, first_clear}
use Rattle.reading_exact.proofs.Turns.{of_file_turn, some_of_file}
use Rattle.reading_exact.proofs.FileContents.{contents_held, version_read}
use Rattle.checking_exact.specs.Typing.{WellKinded}
use Rattle.checking_exact.specs.Faults.{Objection, check_order}
use Rattle.checking_exact.proofs.CheckExact.{names_exact}
use Rattle.checking_exact.proofs.CheckFirst.{low_stage, names_stage, names_first}
use Rattle.placing_exact.proofs.PlacingExact.{named_file}
use Rattle.merging_exact.specs.MergeCauses.{OwnCause, objected, other_version, OwnRefusal, Passes}

-- the bytes f are of version 1, nothing of 1 to 10 is wrong with them, and what they hold is F
pub record Passed (f : List ℕ) (F : File) : Type 0 where
  pub version : version_at f ≡ 1
  pub names : reading_names f ≡ fine
  pub first : version_of F.grants ≡ 1
  pub holds : contents_of f ≡ contents_for F
  pub formed : WellFormed F
  pub named : WellKinded F

-- in the check's order every two refusals stand one way only
pub one_first : (n p m q : ℕ) → Sooner check_order n p m q → Sooner check_order m q n p → (n ≡ m) × (p ≡ q)
one_first n p m q (inl a) (inl b) = absurd (omega (arith, a, b))
one_first n p m q (inl a) (inr (e, b)) = absurd (omega (arith, a, e))
one_first n p m q (inr (e, a)) (inl b) = absurd (omega (arith, e, b))
one_first n p m q (inr (e, inl a)) (inr (d, inl b)) = absurd (omega (arith, a, b))
one_first n p m q (inr (e, inl a)) (inr (d, inr (b, l))) = absurd (omega (arith, a, b))
one_first n p m q (inr (e, inr (a, k))) (inr (d, inl b)) = absurd (omega (arith, a, b))
one_first n p m q (inr (e, inr (a, k))) (inr (d, inr (b, l))) = (omega (arith, k, l), a)

-- 3 to 10, and 21, come after 2
stage_past : (m : ℕ) → OfFile m → 2 < m → 4 < check_order.stage m
stage_past m o l = go (leb (in_turn m) 16) refl
  where
    six : (b : Bool) → 5 < cond b 13 (2 * m)
    six true = omega arith
    six false = omega (arith, l)

    go : (b : Bool) → leb (in_turn m) 16 ≡ b → 4 < check_order.stage m
    go true e = omega (arith, six (eqb m 21), low_stage m (leb-true (in_turn m) 16 e))
    go false e = omega (arith, names_stage m (leb-false (in_turn m) 16 e) (of_file_turn m o).1)

-- 1 comes before 2, and 2 before all others but 1
one_two : (p q : ℕ) → Sooner check_order 1 p 2 q
one_two p q = inl (omega (arith, low_stage 1 (omega arith), low_stage 2 (omega arith)))

pub two_next : (m q : ℕ) → OfFile m → m ≢ 1 → Sooner check_order 2 0 m q
two_next m q o other = go (eqb m 2) refl
  where
    go : (b : Bool) → eqb m 2 ≡ b → Sooner check_order 2 0 m q
    go true e = lowest check_order 2 0 m q (sym (eqb-true m 2 e)) (omega arith)
    go false e = inl (omega (arith, low_stage 2 (omega arith), stage_past m o (omega (arith, some_of_file m o, other, eqb-false m 2 e))))

module _ (f : List ℕ) where
  abbrev Objected : ℕ → ℕ → Type 0
  Objected n p = Objection f n p × OfFile n

  pub own_number : (n p : ℕ) → OwnCause f n p → 1 ≤ n
  own_number n p (objected o r) = some_of_file n o
  own_number n p (other_version e z v) = omega (arith, e)

  -- where 1 is wrong it is what is read
  pub one_read : (q : ℕ) → Objected 1 q → (reading_names f).number ≡ 1
  one_read q r = go (names_first f)
    where
      sooner : (n p : ℕ) → OfFile n → Sooner check_order n p 1 q → (b : Bool) → eqb n 1 ≡ b → n ≡ 1
      sooner n p o s true e = eqb-true n 1 e
      sooner n p o s false e = late (two_next n p o (eqb-false n 1 e)) s
        where
          late : Sooner check_order 2 0 n p → Sooner check_order n p 1 q → n ≡ 1
          late (inl a) (inl b) = absurd (omega (arith, a, b, low_stage 1 (omega arith), low_stage 2 (omega arith)))
          late (inl a) (inr (b, _)) = absurd (omega (arith, a, b, low_stage 1 (omega arith), low_stage 2 (omega arith)))
          late (inr (a, _)) (inl b) = absurd (omega (arith, a, b, low_stage 1 (omega arith), low_stage 2 (omega arith)))
          late (inr (a, _)) (inr (b, _)) = absurd (omega (arith, a, b, low_stage 1 (omega arith), low_stage 2 (omega arith)))

      go : First check_order Objected (reading_names f) → (reading_names f).number ≡ 1
      go (inl (e, none)) = absurd (none 1 q r)
      go (inr (n, p, e, (o, low))) = number_of e ∙ sooner n p o.1 (low 1 q r) (eqb n 1) refl

  -- the answer is the first of what is wrong
  pub own_first : First check_order (OwnCause f) (own_answer f)
  unfolding own_answer
  own_first = go (eqb (reading_names f).number 1) (eqb (version_at f) 1) refl refl (names_first f)
    where
      go : (a b : Bool) → eqb (reading_names f).number 1 ≡ a → eqb (version_at f) 1 ≡ b → First check_order Objected (reading_names f)
          → First check_order (OwnCause f) (cond (a || b) (reading_names f) (refused 2 0))
      -- 1 is wrong
      go true b e v (inl (d, none)) = absurd (omega (arith, number_of d, eqb-true (reading_names f).number 1 e))
      go true b e v (inr (n, p, d, (r, low))) = inr (n, p, d, (objected r.1 r.0, least))
        where
          is : n ≡ 1
          is = sym (number_of d) ∙ eqb-true (reading_names f).number 1 e

          least : (m q : ℕ) → OwnCause f m q → Sooner check_order n p m q
          least m q (objected o s) = low m q (s, o)
          least m q (other_version k z w) = subst (λ (x : ℕ). Sooner check_order x p m q) (sym is) (subst (λ (x : ℕ). Sooner check_order 1 p x q) (sym k) (one_two p q))
      -- a file of version 1
      go false true e v h = first-map check_order Objected (OwnCause f) (reading_names f) (λ n p r. objected r.1 r.0) back h
        where
          back : (n p : ℕ) → OwnCause f n p → Objected n p
          back n p (objected o r) = (r, o)
          back n p (other_version k z w) = absurd (w (eqb-true (version_at f) 1 v))
      -- another version
      go false false e v h = inr (2, 0, refl, (other_version refl refl (eqb-false (version_at f) 1 v), least))
        where
          least : (m q : ℕ) → OwnCause f m q → Sooner check_order 2 0 m q
          least m q (objected o s) = two_next m q o (λ is. eqb-false (reading_names f).number 1 e (one_read q (subst (λ (x : ℕ). Objected x q) is (s, o))))
          least m q (other_version k z w) = lowest check_order 2 0 m q (sym k) (omega arith)

  pub own_zero : (own_answer f).number ≡ 0 → own_answer f ≡ fine
  own_zero z = (first_zero check_order (OwnCause f) (own_answer f) own_number own_first z).0

  pub own_passes : (own_answer f ≡ fine) ↔ Passes f
  own_passes = (λ e. (first_zero check_order (OwnCause f) (own_answer f) own_number own_first (number_of e)).1, first_clear check_order (OwnCause f) (own_answer f) own_first)

  pub own_refusal : (n p : ℕ) → ((own_answer f ≡ refused n p) × (1 ≤ n)) ↔ OwnRefusal f n p
  own_refusal n p = (to own_first, back own_first)
    where
      to : First check_order (OwnCause f) (own_answer f) → (own_answer f ≡ refused n p) × (1 ≤ n) → OwnRefusal f n p
      to (inl (e, none)) (d, l) = absurd (omega (arith, l, number_of (sym e ∙ d)))
      to (inr (m, q, e, h)) (d, l) =
          let v : refused m q ≡ refused n p = sym e ∙ d in
          subst (λ (x : Verdict). OwnRefusal f x.number x.place) v h

      back : First check_order (OwnCause f) (own_answer f) → OwnRefusal f n p → (own_answer f ≡ refused n p) × (1 ≤ n)
      back (inl (e, none)) (r, low) = absurd (none n p r)
      back (inr (m, q, e, (s, least))) (r, low) =
          let (a, b) = one_first m q n p (least n p r) (low m q s) in
          (e ∙ (λ i. refused (a i) (b i)), own_number n p r)

  -- where nothing is wrong the file is of version 1, and nothing of 1 to 10 is refused
  pub own_fine : own_answer f ≡ fine → (version_at f ≡ 1) × (reading_names f ≡ fine)
  unfolding own_answer
  own_fine = go (eqb (reading_names f).number 1) (eqb (version_at f) 1) refl refl
    where
      go : (a b : Bool) → eqb (reading_names f).number 1 ≡ a → eqb (version_at f) 1 ≡ b → cond (a || b) (reading_names f) (refused 2 0) ≡ fine
          → (version_at f ≡ 1) × (reading_names f ≡ fine)
      go true b e v h = absurd (omega (arith, eqb-true (reading_names f).number 1 e, number_of h))
      go false true e v h = (eqb-true (version_at f) 1 v, h)
      go false false e v h = absurd (omega (arith, number_of h))

  -- of version 1 the answer is what is read
  pub own_read : version_at f ≡ 1 → own_answer f ≡ reading_names f
  unfolding own_answer
  own_read v = go (eqb (reading_names f).number 1)
    where
      go : (a : Bool) → cond (a || eqb (version_at f) 1) (reading_names f) (refused 2 0) ≡ reading_names f
      go true = refl
      go false = rw (eq-eqb (version_at f) 1 v)

  -- another version is 2, where nothing of 1 is wrong
  pub own_version : version_at f ≢ 1 → ((p : ℕ) → Objection f 1 p → ⊥) → OwnRefusal f 2 0
  own_version v none = (other_version refl refl v, least)
    where
      least : (m q : ℕ) → OwnCause f m q → Sooner check_order 2 0 m q
      least m q (objected o s) = two_next m q o (λ is. none q (subst (λ (x : ℕ). Objection f x q) is s))
      least m q (other_version k z w) = lowest check_order 2 0 m q (sym k) (omega arith)

  -- such a file is one as data
  pub encoded_passed : All (λ b. b < 256) f → own_answer f ≡ fine → (F : File) → ReadsAs f F → Passed f F
  encoded_passed bytes own F e =
      let (v, r) = own_fine own in
      let (W, N) = named_file f bytes r F e in
      record {
        version = v;
        names = r;
        first = sym (version_read F f e) ∙ v;
        holds = contents_held F f e;
        formed = W;
        named = N;
      }

  pub passed_file : All (λ b. b < 256) f → own_answer f ≡ fine → (F : File) × ReadsAs f F × Passed f F
  passed_file bytes own = let (F, _, e, _) = (names_exact f bytes).0 (own_fine own).1 in (F, e, encoded_passed bytes own F e)
