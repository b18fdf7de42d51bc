-- Who is waiting on what: how many threads of a state stand at a receive, by the kind of its channel's value.
use Rattle.std.specs.Prelude.{ℕ, ◌+◌, ◌≡◌, Bool, cond, ◌&&◌, List, [], ◌∷◌, eqb, get_or}
use Rattle.format.specs.Contents.{Contents, in_count}
use Rattle.steps.specs.declared.Thread.{Thread}
use Rattle.steps.specs.declared.Made.{Made}
use Rattle.steps.specs.Threads.{value}
use Rattle.steps.specs.Choice.{Clinic, clinic_of, State, kind_held}
use Rattle.steps.specs.Beside.{total_words, total_at}
use Rattle.reading_exact.specs.File.{InCount}

-- a thread stands at a receive, and the value of its channel has the kind k
abbrev pub waits_for : Clinic → List Made → ℕ → Thread → Bool
waits_for C made k t =
    (in_count C.nodes t.node && eqb (C.node t.node).tag 5) && eqb (kind_held C.schema made (value t (C.node t.node).f1)) k

-- how many of a list of threads are so
unfoldable pub how_many : (Thread → Bool) → List Thread → ℕ
how_many is [] = 0
how_many is (t ∷ ts) = cond (is t) 1 0 + how_many is ts

abbrev pub waiting_in : Clinic → State → ℕ → ℕ
waiting_in C s k = how_many (waits_for C s.made k) s.threads

-- the 32 totals that stand beside the threads of a state are these numbers
abbrev pub Totalled : Contents → List ℕ → State → Type 0
Totalled C b s = (k : ℕ) → InCount total_words k → get_or b (total_at k) 0 ≡ waiting_in (clinic_of C) s k
