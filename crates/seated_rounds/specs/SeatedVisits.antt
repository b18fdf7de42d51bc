-- How code tells of a visit of a round with seats.
use Rattle.std.specs.Prelude.{ℕ, suc, ◌+◌, ◌/◌, ◌≤◌, length, ◌≡◌, List}
use Rattle.steps.specs.Beside.{thread_count}
use Rattle.rounds.specs.Round.{Going, Rounded}
use Rattle.dispatching.specs.Dispatch.{filled}
use Rattle.dispatching.specs.declared.Visit.{Visit}
use Rattle.dispatching.specs.Marks.{marks_from}
use Rattle.dispatching.specs.Visits.{choice_of}
use Rattle.seats.specs.Seats.{Limited, SeatedState}
use Rattle.seated.specs.SeatedTables.{seated_in, Seated}

-- a visit of thread i, with so many threads there from the round's start, leaves this in the tables; one thread less is left to visit
pub record SeatedVisitTold (L : Limited) (g : Going SeatedState) (i there : ℕ) (r : Visit) (w b os ls : List ℕ) : Type 0 where
  pub words : choice_of i r ≡ g.words
  pub next : r.next ≡ suc g.place
  pub marks : marks_from 1 r.present r.moved ≡ g.marks
  pub state : seated_in w b os ls ≡ g.state
  pub kept : Seated L w b os ls
  pub few : r.present ≤ thread_count b
  pub less : suc (r.present + i) ≡ there + r.next

-- a round's choices, as many as code says, in 128 words, and the state that they leave in the tables
pub record SeatedBack (L : Limited) (q : Rounded SeatedState) (r : ℕ) (w b os ls l : List ℕ) : Type 0 where
  pub count : r ≡ length q.words / 2
  pub most : r ≤ 64
  pub words : l ≡ filled q.words
  pub state : seated_in w b os ls ≡ q.state
  pub kept : Seated L w b os ls
