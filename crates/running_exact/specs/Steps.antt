-- The steps, after Table 3 of 004, as a relation: a state, a choice (thread, partner), the state after it. Premises that Table 3 does not have are 01's.
use Rattle.std.specs.Prelude.{ℕ, ◌+◌, ◌<◌, ◌≡◌, true, List, [], ◌∷◌, length}
use Rattle.masks.specs.Mask.{has, with, without}
use Rattle.format.specs.declared.Node.{Node}
use Rattle.rules.specs.declared.Way.{Way}
use Rattle.rules.specs.declared.Way.TheVariants.{Sends, Receives}
use Rattle.rules.specs.Schema.{Permitted}
use Rattle.steps.specs.declared.Thread.{Thread}
use Rattle.steps.specs.Threads.{value, moved_to, onward, masked, bound}
use Rattle.steps.specs.Choice.{Clinic, State, thread_at, kind_held, changed, added, with_made, removed}
use Rattle.reading_exact.specs.File.{InCount}

-- thread i stands at the node n
abbrev pub StandsAt : Clinic → State → ℕ → Node → Type 0
StandsAt C s i n = InCount (length s.threads) i × InCount C.nodes (thread_at s i).node × (C.node (thread_at s i).node ≡ n)

-- rule 6: one active role of the thread may send, or receive, on the kind of the channel that x stands for
abbrev pub Able : Clinic → State → Thread → Way → ℕ → Type 0
Able C s t way x = Permitted C.schema t.mask way (kind_held C.schema s.made (value t x))

pub data Steps (C : Clinic) (s : State) : ℕ → ℕ → State → Type 0 where
  -- on; 01: of a role assigned to the user
  on : (i : ℕ) (n : Node) → StandsAt C s i n → n.tag ≡ 7 → has (C.schema.assigned (thread_at s i).user) n.f1 ≡ true
      → Steps C s i 0 (changed s i (masked (thread_at s i) (with (thread_at s i).mask n.f1)))
  -- off; 01: of a role that is active
  off : (i : ℕ) (n : Node) → StandsAt C s i n → n.tag ≡ 8 → has (thread_at s i).mask n.f1 ≡ true
      → Steps C s i 0 (changed s i (masked (thread_at s i) (without (thread_at s i).mask n.f1)))
  -- fork: the thread takes the first child, a new last thread the second; 01: at most 64 threads
  fork : (i : ℕ) (n : Node) → StandsAt C s i n → n.tag ≡ 1 → length s.threads < 64
      → Steps C s i 0 (added s i (onward (thread_at s i)) (moved_to (thread_at s i) n.f1))
  -- repeat: the thread stays, a new last thread takes the child; 01: at most 64 threads
  repeat : (i : ℕ) (n : Node) → StandsAt C s i n → n.tag ≡ 2 → length s.threads < 64
      → Steps C s i 0 (added s i (thread_at s i) (onward (thread_at s i)))
  -- new: made channel i has value 384 + i, the thread's user as owner, and kind f1; 01: at most 64 made channels
  new : (i : ℕ) (n : Node) → StandsAt C s i n → n.tag ≡ 3 → length s.made < 64
      → Steps C s i 0 (with_made s i (bound (thread_at s i) (385 + length s.made)) (record { owner = (thread_at s i).user; kind = record { 0 = n.f1 } }))
  -- compare goes on if equal
  compare : (i : ℕ) (n : Node) → StandsAt C s i n → n.tag ≡ 4 → value (thread_at s i) n.f1 ≡ value (thread_at s i) n.f2
      → Steps C s i 0 (changed s i (onward (thread_at s i)))
  -- end removes the thread, those after it move down by one
  end : (i : ℕ) (n : Node) → StandsAt C s i n → n.tag ≡ 0 → Steps C s i 0 (removed s i)
  -- a send with a receiver on the same channel moves both, and the receive's variable takes the value sent; 01: rule 6 on both sides
  meet : (i p : ℕ) (n m : Node) → StandsAt C s i n → n.tag ≡ 6 → StandsAt C s p m → m.tag ≡ 5
      → Able C s (thread_at s i) Sends n.f1 → Able C s (thread_at s p) Receives m.f1
      → value (thread_at s i) n.f1 ≡ value (thread_at s p) m.f1
      → Steps C s i p (changed (changed s i (onward (thread_at s i))) p (bound (thread_at s p) (value (thread_at s i) n.f2)))

-- steps in order, one for each two words of a list of choices
abbrev pub Chain : Clinic → State → List ℕ → State → Type 0
Chain C s [] s'' = s ≡ s''
Chain C s (i ∷ []) s'' = ⊥
Chain C s (i ∷ p ∷ ws) s'' = (s' : State) × Steps C s i p s' × Chain C s' ws s''
