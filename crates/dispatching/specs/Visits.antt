-- How code tells of a visit.
use Rattle.std.specs.Prelude.{ℕ, suc, ◌+◌, ◌/◌, ◌≤◌, ◌≡◌, cond, List, [], ◌∷◌, length}
use Rattle.steps.specs.Choice.{State}
use Rattle.steps.specs.Kept.{state_in, Sized}
use Rattle.steps.specs.Beside.{thread_count}
use Rattle.rounds.specs.Round.{Going, Rounded}
use Rattle.dispatching.specs.declared.Visit.{Visit}
use Rattle.dispatching.specs.Dispatch.{filled}
use Rattle.dispatching.specs.Marks.{marks_from}

-- the choice that a visit of thread i adds to the round
abbrev pub choice_of : ℕ → Visit → List ℕ
choice_of i r = cond r.is_done (i ∷ r.partner ∷ []) []

-- a visit of thread i, with so many threads there from the round's start, leaves this in the tables; one thread less is left to visit
pub record VisitTold (g : Going State) (i there : ℕ) (r : Visit) (w b : List ℕ) : Type 0 where
  pub words : choice_of i r ≡ g.words
  pub next : r.next ≡ suc g.place
  pub marks : marks_from 1 r.present r.moved ≡ g.marks
  pub state : state_in w b ≡ g.state
  pub sized : Sized w b
  pub few : r.present ≤ thread_count b
  pub less : suc (r.present + i) ≡ there + r.next

-- a round's choices, as many as code says, in 128 words, and the state that they leave in the tables
pub record HandedBack (q : Rounded State) (r : ℕ) (w b l : List ℕ) : Type 0 where
  pub count : r ≡ length q.words / 2
  pub most : r ≤ 64
  pub words : l ≡ filled q.words
  pub state : state_in w b ≡ q.state
  pub sized : Sized w b
