-- What a thread may send on now, and receive on: a value, or 0 for none. No role permits a step on what is 0, so that 0 names nothing else.
use Rattle.std.specs.Prelude.{ℕ, ◌<◌, ◌≡◌, Bool, false, cond, not, ◌&&◌, ◌||◌, List, [], ◌∷◌, eqb, get_or}
use Rattle.format.specs.Contents.{in_count}
use Rattle.rules.specs.declared.Way.{Way}
use Rattle.rules.specs.declared.Way.TheVariants.{Sends, Receives}
use Rattle.steps.specs.declared.Thread.{Thread}
use Rattle.steps.specs.declared.Made.{Made}
use Rattle.steps.specs.Threads.{value}
use Rattle.steps.specs.Choice.{Clinic, is_allowed}
use Rattle.steps.specs.Records.{record_at, thread_in}

-- a thread stands at a node of the tag
abbrev pub stands_at : Clinic → ℕ → Thread → Bool
stands_at C tag t = in_count C.nodes t.node && eqb (C.node t.node).tag tag

-- what an operand stands for, where a role that the thread holds permits the step on it
abbrev pub works_on : Clinic → List Made → Way → Thread → ℕ → ℕ
works_on C made way t x = cond (is_allowed C made t way x) (value t x) 0

-- what a thread at a send may send on
unfoldable pub out_of : Clinic → List Made → Thread → ℕ
out_of C made t = cond (stands_at C 6 t) (works_on C made Sends t (C.node t.node).f1) 0

-- what a thread at a receive may receive on
unfoldable pub in_of : Clinic → List Made → Thread → ℕ
in_of C made t = cond (stands_at C 5 t) (works_on C made Receives t (C.node t.node).f1) 0

-- the one may send on what the other may receive on
abbrev pub alike : ℕ → ℕ → Bool
alike out at = not (eqb out 0) && eqb out at

-- a table that has a word of each of the first n threads
abbrev pub OfEach : (Thread → ℕ) → List ℕ → ℕ → List ℕ → Type 0
OfEach word threads n l = (k : ℕ) → k < n → get_or l k 0 ≡ word (thread_in threads (record_at k))

-- whether a word stands in a table
unfoldable pub stands_in : ℕ → List ℕ → Bool
stands_in x [] = false
stands_in x (y ∷ ys) = eqb y x || stands_in x ys
