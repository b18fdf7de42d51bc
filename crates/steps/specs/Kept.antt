-- How a run keeps its state: the threads in one table of words, and in another what stands beside them.
use Rattle.std.specs.Prelude.{ℕ, ◌≤◌, ◌≡◌, List, length}
use Rattle.steps.specs.Choice.{State, Chosen, halts, goes}
use Rattle.steps.specs.Records.{threads_in, thread_table_words}
use Rattle.steps.specs.Beside.{beside_words, thread_count, made_count, made_of}

abbrev pub state_in : List ℕ → List ℕ → State
state_in w b = record { threads = threads_in w 0 (thread_count b); made = made_of b }

-- tables that can hold 64 threads and 64 made channels, and hold no more
pub record Sized (w b : List ℕ) : Type 0 where
  pub words : length w ≡ thread_table_words
  pub beside : length b ≡ beside_words
  pub threads : thread_count b ≤ 64
  pub made : made_count b ≤ 64

-- the state after a choice: as it was where it is refused
abbrev pub state_left : State → Chosen → State
state_left s (halts n) = s
state_left s (goes s') = s'
