-- What a list of choices and a file can be answered: 17, then 1 to 10, then what halted the run, or nothing.
use Prim.Native.Nat.{ℕ, ◌+◌, ◌%◌, ◌≤◌, ◌<◌}
use mathlib.Core.Path.{◌≡◌, refl, sym, ◌∙◌, subst}
use mathlib.Core.Logic.{◌⊎◌, inl, inr, ◌≢◌}
use mathlib.Core.Bool.{Bool, true, false, ◌&&◌, false≢true}
use mathlib.Core.List.{List}
use native.Mathlib.Omega.{arith}
use lib.Dec.{eqb, leb}
use lib.ListN.{length}
use borrow.Author.Tests.{eqb-true, eqb-false, leb-true, leb-false}
use Rattle.format.specs.Answers.{fine, refused, or_else}
use Rattle.format.specs.Contents.{contents_of}
use Rattle.format.specs.declared.Verdict.{Verdict}
use Rattle.format.proofs.AnswerLaws.{quiet_first, loud_first}
use Rattle.checking.specs.Check.{reading_names}
use Rattle.steps.specs.Choice.{clinic_of}
use Rattle.choices.specs.Choices.{Ran, start, ran_of}
use Rattle.running.specs.Run.{listed, stopped, unready}
use Rattle.reading_exact.specs.Order.{OfFile}
use Rattle.reading_exact.proofs.FirstLaws.{number_of}
use Rattle.reading_exact.proofs.Turns.{not_of_file, some_of_file}
use Rattle.placing_exact.proofs.AnswerStages.{Named, names_fine, names_wrong, names_of}
use Rattle.running_exact.specs.Runs.{Unlisted, Unfit, Listed, Fit}
use Rattle.running_exact.proofs.Agree.{Number, refused_number}
use Rattle.running_exact.proofs.RunChain.{run_stopped}

-- the refusals of a choice are none of a file, and none is 17
pub past_ten : (n : ℕ) → Number n → (10 < n) × (n < 21) × (n ≢ 17)
past_ten n (inl e) = (omega (arith, e), omega (arith, e), λ z. omega (arith, e, z))
past_ten n (inr (inl e)) = (omega (arith, e), omega (arith, e), λ z. omega (arith, e, z))
past_ten n (inr (inr (inl e))) = (omega (arith, e), omega (arith, e), λ z. omega (arith, e, z))
past_ten n (inr (inr (inr (inl e)))) = (omega (arith, e), omega (arith, e), λ z. omega (arith, e, z))
past_ten n (inr (inr (inr (inr (inl e))))) = (omega (arith, e), omega (arith, e), λ z. omega (arith, e, z))
past_ten n (inr (inr (inr (inr (inr e))))) = (omega (arith, e), omega (arith, e), λ z. omega (arith, e, z))

-- the list of choices fits, or it doesn't; and with it the output
pub data Decided (Yes No : Type 0) (b : Bool) : Type 0 where
  yes : Yes → b ≡ true → Decided Yes No b
  no : No → b ≡ false → Decided Yes No b

pub listed_to : (words most : ℕ) → Decided ((words % 2 ≡ 0) × (words ≤ most)) ((words % 2 ≡ 1) ⊎ (most < words)) (eqb (words % 2) 0 && leb words most)
listed_to words most = go (eqb (words % 2) 0) (leb words most) refl refl
  where
    go : (a b : Bool) → eqb (words % 2) 0 ≡ a → leb words most ≡ b → Decided ((words % 2 ≡ 0) × (words ≤ most)) ((words % 2 ≡ 1) ⊎ (most < words)) (a && b)
    go true true p q = yes (eqb-true (words % 2) 0 p, leb-true words most q) refl
    go true false p q = no (inr (leb-false words most q)) refl
    go false b p q = no (inl (omega (arith, eqb-false (words % 2) 0 p))) refl

pub listed_or : (ws : List ℕ) → Decided (Listed ws) (Unlisted ws) (listed (length ws))
listed_or ws = listed_to (length ws) 131070

pub with_room : {Yes No : Type 0} (a : Bool) (room : ℕ) → Decided Yes No a → Decided ((1800 ≤ room) × Yes) ((room < 1800) ⊎ No) (a && leb 1800 room)
with_room {Yes} {No} a room d = go a (leb 1800 room) d refl
  where
    go : (a b : Bool) → Decided Yes No a → leb 1800 room ≡ b → Decided ((1800 ≤ room) × Yes) ((room < 1800) ⊎ No) (a && b)
    go true true (yes h e) q = yes (leb-true 1800 room q, h) refl
    go true false d q = no (inl (leb-false 1800 room q)) refl
    go true true (no h e) q = no (inr h) e
    go false b (no h e) q = no (inr h) refl
    go false b (yes h e) q = absurd (false≢true e)

pub fit_or : (ws : List ℕ) (room : ℕ) → Decided (Fit ws room) (Unfit ws room) (listed (length ws) && leb 1800 room)
fit_or ws room = with_room (listed (length ws)) room (listed_or ws)

-- an odd list is not even
pub never_listed : (ws : List ℕ) → Listed ws → Unlisted ws → ⊥
never_listed ws (a, b) (inl e) = omega (arith, a, e)
never_listed ws (a, b) (inr l) = omega (arith, b, l)

pub never_fit : (ws : List ℕ) (room : ℕ) → Fit ws room → Unfit ws room → ⊥
never_fit ws room (a, h) (inl l) = omega (arith, a, l)
never_fit ws room (a, h) (inr u) = never_listed ws h u

-- A list that fits or not, and a file: the four things that can be answered.
pub data Answer (Yes No : Type 0) (f ws : List ℕ) (v : Verdict) : Type 0 where
  unfit : No → v ≡ refused 17 0 → Answer Yes No f ws v
  unread : Yes → OfFile (reading_names f).number → v ≡ reading_names f → Answer Yes No f ws v
  whole : Yes → reading_names f ≡ fine → (ran_of f ws).refusal ≡ 0 → v ≡ fine → Answer Yes No f ws v
  halted : Yes → reading_names f ≡ fine → (10 < (ran_of f ws).refusal) × ((ran_of f ws).refusal < 21) → (ran_of f ws).refusal ≢ 17 → v ≡ refused (ran_of f ws).refusal ((ran_of f ws).count + 1) → Answer Yes No f ws v

module _ (f ws : List ℕ) {Yes No : Type 0} (apart : Yes → No → ⊥) {v : Verdict} where
  pub by_unfit : Answer Yes No f ws v → No → v ≡ refused 17 0
  by_unfit (unfit h e) u = e
  by_unfit (unread h o e) u = absurd (apart h u)
  by_unfit (whole h c z e) u = absurd (apart h u)
  by_unfit (halted h c a b e) u = absurd (apart h u)

  pub by_seventeen : Answer Yes No f ws v → v.number ≡ 17 → No
  by_seventeen (unfit h e) z = h
  by_seventeen (unread h o e) z = absurd (not_of_file _ 17 o (omega arith) (omega arith) (sym (number_of e) ∙ z))
  by_seventeen (whole h c q e) z = absurd (omega (arith, z, number_of e))
  by_seventeen (halted h c a b e) z = absurd (b (sym (number_of e) ∙ z))

  pub to_names : (n p : ℕ) → OfFile n → Answer Yes No f ws v → v ≡ refused n p → Yes × (reading_names f ≡ refused n p)
  to_names n p l (unfit h e) z = absurd (not_of_file n 17 l (omega arith) (omega arith) (sym (number_of (sym e ∙ z))))
  to_names n p l (unread h o e) z = (h, sym e ∙ z)
  to_names n p l (whole h c q e) z = absurd (omega (arith, some_of_file n l, number_of (sym e ∙ z)))
  to_names n p l (halted h c a b e) z = absurd (not_of_file n (ran_of f ws).refusal l a.0 a.1 (sym (number_of (sym e ∙ z))))

  pub from_names : (n p : ℕ) → 1 ≤ n → Answer Yes No f ws v → Yes → reading_names f ≡ refused n p → v ≡ refused n p
  from_names n p l (unfit h e) y z = absurd (apart y h)
  from_names n p l (unread h o e) y z = e ∙ z
  from_names n p l (whole h c q e) y z = absurd (omega (arith, l, number_of (sym c ∙ z)))
  from_names n p l (halted h c a b e) y z = absurd (omega (arith, l, number_of (sym c ∙ z)))

  pub by_whole : Answer Yes No f ws v → Yes → reading_names f ≡ fine → (ran_of f ws).refusal ≡ 0 → v ≡ fine
  by_whole (unfit h e) y clean q = absurd (apart y h)
  by_whole (unread h o e) y clean q = e ∙ clean
  by_whole (whole h c z e) y clean q = e
  by_whole (halted h c a b e) y clean q = absurd (omega (arith, a.0, q))

  pub by_halt : Answer Yes No f ws v → Yes → reading_names f ≡ fine → (ran_of f ws).refusal ≢ 0 → v ≡ refused (ran_of f ws).refusal ((ran_of f ws).count + 1)
  by_halt (unfit h e) y clean q = absurd (apart y h)
  by_halt (unread h o e) y clean q = absurd (omega (arith, some_of_file (reading_names f).number o, number_of clean))
  by_halt (whole h c z e) y clean q = absurd (q z)
  by_halt (halted h c a b e) y clean q = e

module _ (f ws : List ℕ) where
  abbrev ran : Ran
  ran = ran_of f ws

  halted_number : ran.refusal ≢ 0 → (10 < ran.refusal) × (ran.refusal < 21) × (ran.refusal ≢ 17)
  halted_number z =
      let (l, h) = run_stopped (clinic_of (contents_of f)) ws (start (contents_of f)) z in
      past_ten ran.refusal (refused_number (clinic_of (contents_of f)) ran.state _ _ ran.refusal h)

  pub answer_of_lem : (Yes No : Type 0) (b : Bool) → Decided Yes No b → Answer Yes No f ws (or_else (unready b f) (stopped ran))
  answer_of_lem Yes No true (no h e) = absurd (false≢true (sym e))
  answer_of_lem Yes No false (yes h e) = absurd (false≢true e)
  answer_of_lem Yes No false (no h e) = unfit h refl
  answer_of_lem Yes No true (yes h e) = go (names_of f)
    where
      stops : reading_names f ≡ fine → (b : Bool) → eqb ran.refusal 0 ≡ b → Answer Yes No f ws (stopped ran)
      stops clean true q = whole h clean (eqb-true ran.refusal 0 q) (rw q)
      stops clean false q = let (l, k, d) = halted_number (eqb-false ran.refusal 0 q) in halted h clean (l, k) d (rw q)

      go : Named (reading_names f) → Answer Yes No f ws (or_else (reading_names f) (stopped ran))
      go (names_fine clean) = subst (Answer Yes No f ws) (sym (quiet_first (reading_names f) (stopped ran) (number_of clean))) (stops clean (eqb ran.refusal 0) refl)
      go (names_wrong o) = unread h o (loud_first (reading_names f) (stopped ran) (λ z. omega (arith, z, some_of_file (reading_names f).number o)))
