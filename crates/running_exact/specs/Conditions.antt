-- What each refusal of a choice objects to, and the order: 18, 11, 12, 13, 19, 20.
use Rattle.std.specs.Prelude.{ℕ, ◌≤◌, ◌≡◌, ◌⊎◌, ◌≢◌, false, cond, eqb, length}
use Rattle.masks.specs.Mask.{has}
use Rattle.format.specs.declared.Node.{Node}
use Rattle.rules.specs.declared.Way.TheVariants.{Sends, Receives}
use Rattle.steps.specs.Threads.{value}
use Rattle.steps.specs.Choice.{Clinic, State, thread_at}
use Rattle.reading_exact.specs.Order.{Order, FirstAt}
use Rattle.running_exact.specs.Steps.{StandsAt, Able}

-- a lone step: every tag but send and receive
abbrev pub Lone : ℕ → Type 0
Lone tag = (tag ≤ 4) ⊎ ((tag ≡ 7) ⊎ (tag ≡ 8))

pub data Condition (C : Clinic) (s : State) (i p : ℕ) : ℕ → Type 0 where
  -- 18: no such thread, or one that stands at no node
  no_thread_lem : ((n : Node) → StandsAt C s i n → Lone n.tag ⊎ ((n.tag ≡ 5) ⊎ (n.tag ≡ 6)) → ⊥) → Condition C s i p 18
  -- a partner for a lone step
  partner : (n : Node) → StandsAt C s i n → Lone n.tag → p ≢ 0 → Condition C s i p 18
  -- a send whose partner isn't a thread at a receive
  no_receiver : (n : Node) → StandsAt C s i n → n.tag ≡ 6 → ((m : Node) → StandsAt C s p m → m.tag ≡ 5 → ⊥) → Condition C s i p 18
  -- a receive named first
  receive_first : (n : Node) → StandsAt C s i n → n.tag ≡ 5 → Condition C s i p 18
  -- 11: on of a role not assigned
  not_assigned : (n : Node) → StandsAt C s i n → n.tag ≡ 7 → has (C.schema.assigned (thread_at s i).user) n.f1 ≡ false → Condition C s i p 11
  -- 12: off of a role not active
  not_active : (n : Node) → StandsAt C s i n → n.tag ≡ 8 → has (thread_at s i).mask n.f1 ≡ false → Condition C s i p 12
  -- 13: against rule 6, of either side
  sender_unable : (n m : Node) → StandsAt C s i n → n.tag ≡ 6 → StandsAt C s p m → m.tag ≡ 5 → (Able C s (thread_at s i) Sends n.f1 → ⊥) → Condition C s i p 13
  receiver_unable : (n m : Node) → StandsAt C s i n → n.tag ≡ 6 → StandsAt C s p m → m.tag ≡ 5 → (Able C s (thread_at s p) Receives m.f1 → ⊥) → Condition C s i p 13
  -- 19: compare unequal, or channels differ
  unequal : (n : Node) → StandsAt C s i n → n.tag ≡ 4 → value (thread_at s i) n.f1 ≢ value (thread_at s i) n.f2 → Condition C s i p 19
  channels_differ : (n m : Node) → StandsAt C s i n → n.tag ≡ 6 → StandsAt C s p m → m.tag ≡ 5
      → value (thread_at s i) n.f1 ≢ value (thread_at s p) m.f1 → Condition C s i p 19
  -- 20: a 65th thread or made channel
  threads_full : (n : Node) → StandsAt C s i n → (n.tag ≡ 1) ⊎ (n.tag ≡ 2) → 64 ≤ length s.threads → Condition C s i p 20
  channels_full : (n : Node) → StandsAt C s i n → n.tag ≡ 3 → 64 ≤ length s.made → Condition C s i p 20

-- the order: all at one place, 18 first
abbrev pub choice_order : Order
choice_order = record { stage = λ n. 0; turn = λ n. cond (eqb n 18) 0 n }

-- the refusal n is the first of those whose condition holds
abbrev pub FirstRefusal : Clinic → State → ℕ → ℕ → ℕ → Type 0
FirstRefusal C s i p n = FirstAt choice_order (λ m q. Condition C s i p m × (q ≡ 0)) n 0
