-- What may be lent, in the words of the paper; and when a lent list holds a state.
use Rattle.std.specs.Prelude.{ℕ, ◌≤◌, ◌≡◌, cond, List, [], ◌∷◌, eqb, length, get_or}
use Rattle.format.specs.Answers.{fine}
use Rattle.format.specs.Contents.{Contents}
use Rattle.format.specs.declared.Verdict.{Verdict}
use Rattle.rules.specs.Schema.{schema_of}
use Rattle.rules.specs.Rules.{Context}
use Rattle.steps.specs.declared.Thread.{Thread}
use Rattle.steps.specs.Choice.{State}
use Rattle.reading_exact.specs.Lists.{All}
use Rattle.running_exact.specs.Keeps.{Fits, Reaches, Formed}
use Rattle.lending_exact.specs.Waiting.{Totalled}
use Rattle.lending.specs.Lent.{state_of, choosing, records_over, beside_over}
use Rattle.steps.specs.Beside.{thread_count, made_count, beside_words}

-- 64 records, the thread count and the made channels beside them: no count above 64, each made channel's owner and kind in count, and each counted
-- thread at a node in count, with the user of the node's session, a mask within that user's roles, and each variable of the kind that rule 1 gives it
-- at that node, 0 where none is bound
pub record Lendable (C : Contents) (l : List Thread) (b : List ℕ) : Type 0 where
  pub records : length l ≡ 64
  pub words : length b ≡ beside_words
  pub few_threads : thread_count b ≤ 64
  pub few_made : made_count b ≤ 64
  pub made : All (Formed (schema_of C)) (state_of l b).made
  pub threads : All (λ (t : Thread). (c : Context) × Reaches C t c × Fits (schema_of C) (state_of l b).made c t) (state_of l b).threads
  -- K6: and the totals of all 32 kinds
  pub totals : Totalled C b (state_of l b)

-- a record of a lent list is a thread with eight variables
abbrev pub Eight : Thread → Type 0
Eight t = length t.vars ≡ 8

-- a list of 64 records, with 162 words beside it, holds a state with its totals; what the records past its threads and the words between its made channels and the totals are is open
pub record Lends (C : Contents) (l : List Thread) (b : List ℕ) (s : State) : Type 0 where
  pub records : length l ≡ 64
  pub words : length b ≡ beside_words
  pub threads : thread_count b ≡ length s.threads
  pub made : made_count b ≡ length s.made
  pub state : state_of l b ≡ s
  pub totals : Totalled C b s

-- choices in a lent list one after the other, up to the first that is refused: the records and words that are left, and the last answer
pub record Left : Type 0 where
  pub records : List Thread
  pub beside : List ℕ
  pub answer : Verdict

unfoldable pub in_turn : List ℕ → List Thread → List ℕ → List ℕ → Left
in_turn f l b [] = record { records = l; beside = b; answer = fine }
in_turn f l b (i ∷ []) = record { records = l; beside = b; answer = fine }
in_turn f l b (i ∷ p ∷ ws) =
    cond (eqb (choosing f l b i p).number 0) (in_turn f (records_over f l b i p) (beside_over f l b i p) ws)
    (record { records = records_over f l b i p; beside = beside_over f l b i p; answer = choosing f l b i p })
