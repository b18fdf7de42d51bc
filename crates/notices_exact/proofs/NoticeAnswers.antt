-- What is answered of two notices and a day is what the request's words say, and nothing else.
use Prim.Native.Nat.{ℕ, ◌+◌, ◌-◌, ◌≤◌, ◌<◌}
use mathlib.Core.Path.{◌≡◌, refl, sym, ap, ap₂, ◌∙◌, subst}
use mathlib.Core.Bool.{Bool, true, false, cond, ◌&&◌, ◌||◌, and-eq-true_iff, true≢false}
use mathlib.Core.Logic.{◌↔◌, ◌⊎◌, inl, inr}
use mathlib.Core.List.{List, []}
use native.Mathlib.Omega.{arith}
use lib.Dec.{eqb, leb, ltb}
use lib.ListN.{length, take, drop, length-drop}
use lib.Seq.{take_all}
use borrow.Author.Tests.{eqb-true, eqb-false, eq-eqb, ne_eqb, leb-true, leb-false, ltb-true, ltb-false, le-leb, lt-leb, lt-ltb, le-ltb}
use Rattle.format.specs.Answers.{fine}
use Rattle.format.specs.declared.Verdict.{Verdict}
use Rattle.checking.specs.Check.{reading_names}
use Rattle.reading_exact.specs.Order.{OfFile, First}
use Rattle.checking_exact.specs.Faults.{Objection, check_order}
use Rattle.reading_exact.proofs.FirstLaws.{first_clear}
use Rattle.checking_exact.proofs.CheckFirst.{names_first, objection_number}
use Rattle.notices.specs.Notices.{first_day, length_word, file_of, is_sound, unheld, held, by_days, plan_in_force, of_notice, part_of, place_of}
use Rattle.notices.specs.declared.InForce.{InForce}
use Rattle.notices_exact.specs.Supersedes.{Sound, Unsound, short, another_length, file_refused, Begun, Supersedes, the-first, the_second, nothing_held, file_held, Answers, first_unsound, second_unsound, first_holds, second_holds, none_begun}

-- 1 to 10 refuse nothing exactly where there is nothing to object to
module _ (f : List ℕ) where
  abbrev Objected : ℕ → ℕ → Type 0
  Objected k p = Objection f k p × OfFile k

  quiet : (reading_names f).number ≡ 0 → (k p : ℕ) → OfFile k → Objection f k p → ⊥
  quiet z k p o c = go (names_first f)
    where
      go : First check_order Objected (reading_names f) → ⊥
      go (inl (e, none)) = none k p (c, o)
      go (inr (m, q, e, ((c', o'), low))) = omega (arith, z, ap (λ (v : Verdict). v.number) e, objection_number f m q c')

  loud : ((reading_names f).number ≡ 0 → ⊥) → (k : ℕ) × (p : ℕ) × OfFile k × Objection f k p
  loud l = go (names_first f)
    where
      go : First check_order Objected (reading_names f) → (k : ℕ) × (p : ℕ) × OfFile k × Objection f k p
      go (inl (e, none)) = absurd (l (ap (λ (v : Verdict). v.number) e))
      go (inr (m, q, e, ((c, o), low))) = (m, q, o, c)

module _ (n : List ℕ) where
  pub sound_yes : is_sound n ≡ true → Sound n
  unfolding is_sound
  sound_yes h =
      let (sized, clean) = (and-eq-true_iff (eqb (length n) (4 + length_word n)) (eqb (reading_names (file_of n)).number 0)).0 h in
      let e : length n ≡ 4 + length_word n = eqb-true (length n) (4 + length_word n) sized in
      record { long = omega (arith, e); sized = omega (arith, e, length-drop 4 n); passes = quiet (file_of n) (eqb-true (reading_names (file_of n)).number 0 clean) }

  pub sound_no : is_sound n ≡ false → Unsound n
  unfolding is_sound
  sound_no h = go (eqb (length n) (4 + length_word n)) (eqb (reading_names (file_of n)).number 0) refl refl h
    where
      go : (a b : Bool) → eqb (length n) (4 + length_word n) ≡ a → eqb (reading_names (file_of n)).number 0 ≡ b → (a && b) ≡ false → Unsound n
      go true true d e k = absurd (true≢false k)
      go true false d e k = let (m, p, o, c) = loud (file_of n) (eqb-false (reading_names (file_of n)).number 0 e) in file_refused m p o c
      go false b d e k = size (ltb (length n) 4) refl
        where
          size : (x : Bool) → ltb (length n) 4 ≡ x → Unsound n
          size true l = short (ltb-true (length n) 4 l)
          size false l = another_length (λ same. eqb-false (length n) (4 + length_word n) d (omega (arith, same, length-drop 4 n, ltb-false (length n) 4 l)))

  never_both : Sound n → Unsound n → ⊥
  never_both s (short l) = omega (arith, l, s.long)
  never_both s (another_length e) = e s.sized
  never_both s (file_refused k p o c) = s.passes k p o c

  pub is_sound_lem : Sound n → is_sound n ≡ true
  is_sound_lem s = go (is_sound n) refl
    where
      go : (b : Bool) → is_sound n ≡ b → b ≡ true
      go true e = refl
      go false e = absurd (never_both s (sound_no e))

  pub is_unsound : Unsound n → is_sound n ≡ false
  is_unsound u = go (is_sound n) refl
    where
      go : (b : Bool) → is_sound n ≡ b → b ≡ false
      go true e = absurd (never_both (sound_yes e) u)
      go false e = refl

module _ (f g : List ℕ) (day : ℕ) where
  abbrev r : InForce
  r = plan_in_force f g day

  pub answered : Answers f g day r
  unfolding plan_in_force
  answered = go (is_sound f) (is_sound g) refl refl
    where
      days : (x y z w : Bool) → leb (first_day g) day ≡ x → ltb day (first_day f) ≡ y → leb (first_day f) (first_day g) ≡ z → leb (first_day f) day ≡ w → Sound f → Sound g
          → Answers f g day (cond (x && (y || z)) (held 2 (length_word g)) (cond w (held 1 (length_word f)) (unheld 28 0)))
      days true true z w a b c d s t =
          subst (λ (l : ℕ). Answers f g day (held 2 l)) (sym t.sized) (second_holds s t (the_second (leb-true (first_day g) day a) (λ begun. absurd (omega (arith, begun, ltb-true day (first_day f) b)))))
      days true false true w a b c d s t =
          subst (λ (l : ℕ). Answers f g day (held 2 l)) (sym t.sized) (second_holds s t (the_second (leb-true (first_day g) day a) (λ begun. leb-true (first_day f) (first_day g) c)))
      days true false false true a b c d s t =
          subst (λ (l : ℕ). Answers f g day (held 1 l)) (sym s.sized) (first_holds s t (the-first (leb-true (first_day f) day d) (λ begun. leb-false (first_day f) (first_day g) c)))
      days true false false false a b c d s t = absurd (omega (arith, ltb-false day (first_day f) b, leb-false (first_day f) day d))
      days false y z true a b c d s t =
          subst (λ (l : ℕ). Answers f g day (held 1 l)) (sym s.sized) (first_holds s t (the-first (leb-true (first_day f) day d) (λ begun. absurd (omega (arith, begun, leb-false (first_day g) day a)))))
      days false y z false a b c d s t =
          none_begun s t (λ begun. omega (arith, begun, leb-false (first_day f) day d)) (λ begun. omega (arith, begun, leb-false (first_day g) day a))

      go : (a b : Bool) → is_sound f ≡ a → is_sound g ≡ b → Answers f g day (cond a (cond b (by_days f g day) (unheld 27 2)) (unheld 27 1))
      go false b e d = first_unsound (sound_no f e)
      go true false e d = second_unsound (sound_yes f e) (sound_no g d)
      go true true e d =
          days (leb (first_day g) day) (ltb day (first_day f)) (leb (first_day f) (first_day g)) (leb (first_day f) day) refl refl refl refl (sound_yes f e) (sound_yes g d)

  -- and nothing else is
  pub one_answer : (s : InForce) → Answers f g day s → s ≡ r
  unfolding plan_in_force
  one_answer s (first_unsound u) = rw (is_unsound f u) refl
  one_answer s (second_unsound x u) = rw (is_sound_lem f x, is_unsound g u) refl
  one_answer s (first_holds x y (the-first b later)) = rw (is_sound_lem f x, is_sound_lem g y, le-leb (first_day f) day b) (ap (held 1) (sym x.sized) ∙ go (leb (first_day g) day) (ltb day (first_day f)) (leb (first_day f) (first_day g)) refl refl refl)
    where
      go : (u v w : Bool) → leb (first_day g) day ≡ u → ltb day (first_day f) ≡ v → leb (first_day f) (first_day g) ≡ w → held 1 (length_word f) ≡ cond (u && (v || w)) (held 2 (length_word g)) (held 1 (length_word f))
      go false v w p q k = refl
      go true true w p q k = absurd (omega (arith, b, ltb-true day (first_day f) q))
      go true false true p q k = absurd (omega (arith, leb-true (first_day f) (first_day g) k, later (leb-true (first_day g) day p)))
      go true false false p q k = refl
  one_answer s (second_holds x y (the_second b later)) = rw (is_sound_lem f x, is_sound_lem g y, le-leb (first_day g) day b) (ap (held 2) (sym y.sized) ∙ go (ltb day (first_day f)) (leb (first_day f) (first_day g)) refl refl)
    where
      go : (v w : Bool) → ltb day (first_day f) ≡ v → leb (first_day f) (first_day g) ≡ w
          → held 2 (length_word g) ≡ cond (v || w) (held 2 (length_word g)) (cond (leb (first_day f) day) (held 1 (length_word f)) (unheld 28 0))
      go true w q k = refl
      go false true q k = refl
      go false false q k = absurd (omega (arith, leb-false (first_day f) (first_day g) k, later (ltb-false day (first_day f) q)))
  one_answer s (none_begun x y p q) = rw (is_sound_lem f x, is_sound_lem g y, lt-leb (first_day f) day (past (first_day f) p), lt-leb (first_day g) day (past (first_day g) q)) refl
    where
      past : (d : ℕ) → (d ≤ day → ⊥) → day < d
      past d not-begun = go (ltb day d) refl
        where
          go : (b : Bool) → ltb day d ≡ b → day < d
          go true e = ltb-true day d e
          go false e = absurd (not-begun (ltb-false day d e))

  -- one refusal, or one notice, at a time
  first_only : (s : InForce) → Answers f g day s → s.number ≡ 27 → s.place ≡ 1 → Unsound f
  first_only s (first_unsound u) n p = u
  first_only s (second_unsound x u) n p = absurd (omega (arith, p))
  first_only s (first_holds x y h) n p = absurd (omega (arith, n))
  first_only s (second_holds x y h) n p = absurd (omega (arith, n))
  first_only s (none_begun x y a b) n p = absurd (omega (arith, n))

  pub first_refused : (r ≡ nothing_held 27 1) ↔ Unsound f
  first_refused = (λ e. first_only r answered (ap (λ (s : InForce). s.number) e) (ap (λ (s : InForce). s.place) e), λ u. sym (one_answer (nothing_held 27 1) (first_unsound u)))

  second_only : (s : InForce) → Answers f g day s → s.number ≡ 27 → s.place ≡ 2 → Sound f × Unsound g
  second_only s (first_unsound u) n p = absurd (omega (arith, p))
  second_only s (second_unsound x u) n p = (x, u)
  second_only s (first_holds x y h) n p = absurd (omega (arith, n))
  second_only s (second_holds x y h) n p = absurd (omega (arith, n))
  second_only s (none_begun x y a b) n p = absurd (omega (arith, n))

  pub second_refused : (r ≡ nothing_held 27 2) ↔ (Sound f × Unsound g)
  second_refused = (λ e. second_only r answered (ap (λ (s : InForce). s.number) e) (ap (λ (s : InForce). s.place) e), λ (x, u). sym (one_answer (nothing_held 27 2) (second_unsound x u)))

  none_only : (s : InForce) → Answers f g day s → s.number ≡ 28 → Sound f × Sound g × (Begun f day → ⊥) × (Begun g day → ⊥)
  none_only s (first_unsound u) n = absurd (omega (arith, n))
  none_only s (second_unsound x u) n = absurd (omega (arith, n))
  none_only s (first_holds x y h) n = absurd (omega (arith, n))
  none_only s (second_holds x y h) n = absurd (omega (arith, n))
  none_only s (none_begun x y a b) n = (x, y, a, b)

  pub none_in_force : (r ≡ nothing_held 28 0) ↔ (Sound f × Sound g × (Begun f day → ⊥) × (Begun g day → ⊥))
  none_in_force = (λ e. none_only r answered (ap (λ (s : InForce). s.number) e), λ (x, y, a, b). sym (one_answer (nothing_held 28 0) (none_begun x y a b)))

  -- what is named where nothing is refused, and what is cut out of it
  pub record Held (s : InForce) : Type 0 where
    pub sound : Sound f × Sound g
    pub supersedes : Supersedes f g day s.notice
    pub is : s ≡ file_held s.notice (of_notice s f g)
    pub begun : Begun (of_notice s f g) day
    pub latest : (Begun f day → first_day f ≤ first_day (of_notice s f g)) × (Begun g day → first_day g ≤ first_day (of_notice s f g))
    pub tied : first_day f ≡ first_day g → s.notice ≡ 2

  held_only : (s : InForce) → Answers f g day s → s.number ≡ 0 → Held s
  held_only s (first_unsound u) n = absurd (omega (arith, n))
  held_only s (second_unsound x u) n = absurd (omega (arith, n))
  held_only s (first_holds x y (the-first b later)) n = record {
    sound = (x, y);
    supersedes = the-first b later;
    is = refl;
    begun = b;
    latest = (λ d. omega arith, λ d. omega (arith, later d));
    tied = λ e. absurd (omega (arith, e, later (omega (arith, e, b))));
  }
  held_only s (second_holds x y (the_second b later)) n = record {
    sound = (x, y);
    supersedes = the_second b later;
    is = refl;
    begun = b;
    latest = (later, λ d. omega arith);
    tied = λ e. refl;
  }
  held_only s (none_begun x y p q) n = absurd (omega (arith, n))

  pub in-force-held : r.number ≡ 0 → Held r
  in-force-held = held_only r answered

  pub first_in_force : (r ≡ file_held 1 f) ↔ (Sound f × Sound g × Supersedes f g day 1)
  first_in_force = (λ e. let h : Held (file_held 1 f) = subst Held e (in-force-held (ap (λ (s : InForce). s.number) e)) in (h.sound.0, h.sound.1, h.supersedes), λ (x, y, h). sym (one_answer (file_held 1 f) (first_holds x y h)))

  pub second_in_force : (r ≡ file_held 2 g) ↔ (Sound f × Sound g × Supersedes f g day 2)
  second_in_force = (λ e. let h : Held (file_held 2 g) = subst Held e (in-force-held (ap (λ (s : InForce). s.number) e)) in (h.sound.0, h.sound.1, h.supersedes), λ (x, y, h). sym (one_answer (file_held 2 g) (second_holds x y h)))

  -- the part: the whole file of the notice that is named, from its fifth byte on; of a refusal nothing, at the start of the first
  pub file_part : r.number ≡ 0 → part_of r f g ≡ file_of (of_notice r f g)
  file_part n =
      let n' : List ℕ = of_notice r f g in
      let e : r ≡ file_held r.notice n' = (in-force-held n).is in
      ap₂ (λ (i j : ℕ). take i (drop j n')) (ap (λ (s : InForce). s.length) e) (ap (λ (s : InForce). s.at) e) ∙ take_all (length (file_of n')) (file_of n') (omega arith)

  pub file_place : r.number ≡ 0 → (p q : ℕ × ℕ) → place_of r p q ≡ ((of_notice r p q).0, 4 + (of_notice r p q).1)
  file_place n p q = ap {B = ℕ × ℕ} (λ (s : InForce). ((of_notice r p q).0, s.at + (of_notice r p q).1)) (in-force-held n).is

  empty_only : (s : InForce) → Answers f g day s → (s.number ≡ 0 → ⊥) → s ≡ nothing_held s.number s.place
  empty_only s (first_unsound u) n = refl
  empty_only s (second_unsound x u) n = refl
  empty_only s (first_holds x y h) n = absurd (n refl)
  empty_only s (second_holds x y h) n = absurd (n refl)
  empty_only s (none_begun x y a b) n = refl

  pub empty_part : (r.number ≡ 0 → ⊥) → (part_of r f g ≡ []) × ((p q : ℕ × ℕ) → place_of r p q ≡ p)
  empty_part n = let e = empty_only r answered n in (
    ap (λ (s : InForce). part_of s f g) e ∙ none f,
    λ p q. ap (λ (s : InForce). place_of s p q) e ∙ start p,
  )
    where
      none : (l : List ℕ) → take 0 (drop 0 l) ≡ []
      none l = refl

      start : (p : ℕ × ℕ) → ◌≡◌ {A = ℕ × ℕ} (p.0, 0 + p.1) p
      start p = let z : 0 + p.1 ≡ p.1 = omega arith in ap {B = ℕ × ℕ} (λ (i : ℕ). (p.0, i)) z

  -- and the file handed back is refused nothing
  pub file_reads : r.number ≡ 0 → reading_names (part_of r f g) ≡ fine
  file_reads n = ap reading_names (file_part n) ∙ go (eqb r.notice 2)
    where
      clear : (m : List ℕ) → Sound m → reading_names (file_of m) ≡ fine
      clear m s = first_clear check_order (Objected (file_of m)) (reading_names (file_of m)) (names_first (file_of m)) (λ k p (c, o). s.passes k p o c)

      go : (b : Bool) → reading_names (file_of (cond b g f)) ≡ fine
      go true = clear g (in-force-held n).sound.1
      go false = clear f (in-force-held n).sound.0
