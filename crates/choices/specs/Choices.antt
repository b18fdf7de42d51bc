-- Lists of choices: the start, and the choices in order up to the first that is refused.
use Rattle.std.specs.Prelude.{ℕ, suc, List, [], ◌∷◌}
use Rattle.format.specs.Contents.{Contents, contents_of}
use Rattle.format.specs.declared.Session.{Session}
use Rattle.steps.specs.declared.Thread.{Thread}
use Rattle.steps.specs.Threads.{zeros}
use Rattle.steps.specs.Choice.{Clinic, clinic_of, State, Chosen, halts, goes, choice}

-- one thread for each session, in order, at its root, with the session's mask, nothing bound and no channel made
unfoldable pub threads_from : List Session → List Thread
threads_from [] = []
threads_from (s ∷ ss) = record { user = s.user; node = s.root; mask = s.mask; vars = zeros } ∷ threads_from ss

abbrev pub start : Contents → State
start C = record { threads = threads_from C.sessions; made = [] }

-- choices done, the refusal (0 if none), the state
pub record Ran : Type 0 where
  pub count : ℕ
  pub refusal : ℕ
  pub state : State

abbrev pub follow : State → Chosen → (State → Ran) → Ran
follow s (halts n) go = record { count = 0; refusal = n; state = s }
follow s (goes s') go = let r : Ran = go s' in record { count = suc r.count; refusal = r.refusal; state = r.state }

-- a list of choices as words, two each
unfoldable pub run : Clinic → State → List ℕ → Ran
run C s [] = record { count = 0; refusal = 0; state = s }
run C s (i ∷ []) = record { count = 0; refusal = 0; state = s }
run C s (i ∷ p ∷ ws) = follow s (choice C s i p) (λ s'. run C s' ws)

-- the run of a file through a list
abbrev pub ran_of : List ℕ → List ℕ → Ran
ran_of f ws = run (clinic_of (contents_of f)) (start (contents_of f)) ws
