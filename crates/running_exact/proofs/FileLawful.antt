-- The nodes that a run reads have what a file that 1 to 10 leave clean has.
use Prim.Native.Nat.{ℕ}
use mathlib.Core.Path.{◌≡◌}
use mathlib.Core.List.{List}
use Rattle.format.specs.Contents.{Contents, contents_of}
use Rattle.format.specs.Answers.{fine}
use Rattle.checking.specs.Check.{reading_names}
use Rattle.steps.specs.Choice.{clinic_of, State}
use Rattle.running_exact.specs.Keeps.{Kept}
use Rattle.running_exact.proofs.FileNodes.{StandsIn, apart, ranged, child_stands, first_stands, second_stands, binder_room, names_clear}
use Rattle.running_exact.proofs.ThreadSteps.{Lawful}
use Rattle.running_exact.proofs.ChoiceKeeps.{Invariant}

module _ (C : Contents) where
  -- what Kept says, in the words of steps
  pub of_kept : (s : State) → Kept C s → Invariant (clinic_of C) (StandsIn C) ◌≡◌ s
  of_kept s K = record { threads = K.threads; made = K.made; few_threads = K.few_threads; few_made = K.few_made }

  -- and back
  pub to_kept : (s : State) → Invariant (clinic_of C) (StandsIn C) ◌≡◌ s → Kept C s
  to_kept s I = record { threads = I.threads; made = I.made; few_threads = I.few_threads; few_made = I.few_made }

module _ (f : List ℕ) (clean : reading_names f ≡ fine) where
  abbrev C : Contents
  C = contents_of f

  -- children, names, kinds and the eight variables
  pub lawful : Lawful (clinic_of C) (StandsIn C)
  lawful = record {
    apart = apart f clean;
    ranged = ranged f clean;
    clear = names_clear f clean;
    child = λ j c s. child_stands f clean s;
    first = λ j c s. first_stands f clean s;
    second = λ j c s. second_stands f clean s;
    room = λ j c s. binder_room f clean s;
  }
