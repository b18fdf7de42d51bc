-- How a run starts, where it stops, and which lists of choices the caller may hand over.
use Rattle.std.specs.Prelude.{ℕ, ◌+◌, ◌*◌, ◌%◌, ◌≤◌, ◌<◌, ◌≡◌, ◌⊎◌, List, [], ◌∷◌, length, get_or}
use Rattle.format.specs.declared.Session.{Session}
use Rattle.steps.specs.declared.Thread.{Thread}
use Rattle.steps.specs.Choice.{Clinic, halts, choice}
use Rattle.choices.specs.Choices.{Ran}
use Rattle.running.specs.declared.Ready.{Ready}

-- a session's thread at the start: its user, its root, its mask, and nothing bound
abbrev pub Seated : Session → Thread → Type 0
Seated s t = (t.user ≡ s.user) × (t.node ≡ s.root) × (t.mask ≡ s.mask) × (t.vars ≡ 0 ∷ 0 ∷ 0 ∷ 0 ∷ 0 ∷ 0 ∷ 0 ∷ 0 ∷ [])

-- the next choice of a list after a run is refused with the run's number
abbrev pub Refuses : Clinic → List ℕ → Ran → Type 0
Refuses C ws r = (2 * r.count + 1 < length ws) × (choice C r.state (get_or ws (2 * r.count) 0) (get_or ws (2 * r.count + 1) 0) ≡ halts r.refusal)

-- 17: an odd number of words of choices, or over 65,535 choices; of a run also an output under 1,800 bytes
abbrev pub Unlisted : List ℕ → Type 0
Unlisted ws = (length ws % 2 ≡ 1) ⊎ (131070 < length ws)

abbrev pub Unfit : List ℕ → ℕ → Type 0
Unfit ws room = (room < 1800) ⊎ Unlisted ws

-- an even number of words, of at most 65,535 choices; of a run also 1,800 bytes of output
abbrev pub Listed : List ℕ → Type 0
Listed ws = (length ws % 2 ≡ 0) × (length ws ≤ 131070)

abbrev pub Fit : List ℕ → ℕ → Type 0
Fit ws room = (1800 ≤ room) × Listed ws

-- a refusal in place of a ready pair: 0, 0 beside it
abbrev pub no_pair : ℕ → ℕ → Ready
no_pair n p = record { number = n; place = p; sender = 0; receiver = 0 }
