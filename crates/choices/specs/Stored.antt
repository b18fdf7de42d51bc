-- How a choice is stored in the tables.
use Rattle.std.specs.Prelude.{ℕ, ◌≤◌, ◌<◌, ◌≡◌, List, [], ◌∷◌}
use Rattle.choices.specs.declared.Progress.{Progress}
use Rattle.choices.specs.declared.Went.{Went}
use Rattle.steps.specs.declared.Answer.{Answer}
use Rattle.steps.specs.declared.Answer.TheVariants as answers
use Rattle.choices.specs.Choices.{Ran}
use Rattle.steps.specs.declared.Outcome.{Outcome}
use Rattle.steps.specs.Acted.{acted_of}
use Rattle.steps.specs.Beside.{beside_by, start_beside}
use Rattle.steps.specs.Choice.{Clinic, State, Chosen, halts, goes, done, outcome}
use Rattle.steps.specs.Kept.{state_in, Sized, state_left}

-- there is room for what an answer adds to so many threads and made channels, and the partner that it moves is a thread
abbrev pub HasRoom : ℕ → ℕ → ℕ → Answer → Type 0
HasRoom threads made p (answers.Refused n) = Unit {0}
HasRoom threads made p answers.Moves = Unit {0}
HasRoom threads made p answers.Adds = threads < 64
HasRoom threads made p (answers.Makes m) = made < 64
HasRoom threads made p answers.Ends = Unit {0}
HasRoom threads made p answers.Meets = (0 < p) × (p ≤ threads)

-- a choice of thread i with partner p, carried out in the tables: what it comes to is answered, what it leaves stands in them, and `left` beside the threads
abbrev pub Chose : List ℕ → Outcome → ℕ → ℕ → Answer → List ℕ → List ℕ → List ℕ → List ℕ → Type 0
Chose left o i p r w b w' b' =
    (r ≡ (acted_of o).answer) × (state_in w' b' ≡ state_left (state_in w b) (done (state_in w b) i p o)) × (b' ≡ left) × Sized w' b'

-- a run gone through: what it answers, the state that it leaves in the tables, and what it leaves beside the threads
abbrev pub Gone : Ran → List ℕ → Progress → List ℕ → List ℕ → Type 0
Gone R left r w b = (r ≡ record { count = R.count; refusal = R.refusal }) × (state_in w b ≡ R.state) × Sized w b × (b ≡ left)

-- the words beside the threads after a list of choices, and the answer of the last that was tried; before the first a refusal 0
pub record Tried : Type 0 where
  pub beside : List ℕ
  pub last : Answer

abbrev pub untried : List ℕ → Tried
untried b = record { beside = b; last = answers.Refused 0 }

abbrev pub tried_by : (ℕ → ℕ) → List ℕ → Outcome → Tried
tried_by kind b o = record { beside = beside_by kind b o; last = (acted_of o).answer }

abbrev pub on_from : Chosen → Tried → (State → Tried) → Tried
on_from (halts n) t go = t
on_from (goes s') t go = go s'

unfoldable pub tried : (ℕ → ℕ) → Clinic → State → Tried → List ℕ → Tried
tried kind C s t [] = t
tried kind C s t (i ∷ []) = t
tried kind C s t (i ∷ p ∷ ws) =
    let o : Outcome = outcome C s i p in
    on_from (done s i p o) (tried_by kind t.beside o) (λ s'. tried kind C s' (tried_by kind t.beside o) ws)

-- the words that a run keeps beside its threads, from those that stood there before its start
abbrev pub beside_run : (ℕ → ℕ) → Clinic → State → List ℕ → List ℕ → List ℕ
beside_run kind C s b ws = (tried kind C s (untried (start_beside kind b s.threads)) ws).beside

-- a run gone through with the answer of its last choice, and what it leaves beside the threads
abbrev pub Through : Ran → Tried → Went → List ℕ → List ℕ → Type 0
Through R T r w b =
    (r ≡ record { count = R.count; refusal = R.refusal; last = T.last }) × (state_in w b ≡ R.state) × (b ≡ T.beside) × Sized w b
