-- When a session is midway, and what it is to be alone in a role meanwhile.
use Rattle.std.specs.Prelude.{ℕ, suc, ◌≡◌, ◌⊎◌, ◌≢◌, true, false, List, length}
use Rattle.masks.specs.Mask.{has}
use Rattle.format.specs.Contents.{Contents, contents_of}
use Rattle.format.specs.declared.Node.{Node}
use Rattle.rules.specs.declared.Way.{Way}
use Rattle.rules.specs.declared.Way.TheVariants.{Sends, Receives}
use Rattle.rules.specs.Schema.{Schema, schema_of, permits}
use Rattle.steps.specs.Threads.{value}
use Rattle.steps.specs.Choice.{clinic_of, State, thread_at, kind_held}
use Rattle.reading_exact.specs.File.{File, InCount}
use Rattle.reading_exact.specs.Refusals.{nth, OneChild, Follows}
use Rattle.placing_exact.specs.Promised.{Covers}
use Rattle.running_exact.specs.Steps.{Steps}
use Rattle.seats.specs.Seats.{limited_of, seats_in, SeatedState, owner_of, seated_start}
use Rattle.seats.specs.SeatOrder.{InTreeOf, Always}

-- Node n is node j or stands below it: it is reached from j, from parents to children.
pub data AtOrBelow (ns : List Node) : ℕ → ℕ → Type 0 where
  here : {j : ℕ} → AtOrBelow ns j j
  by_child : {j n : ℕ} → InCount (length ns) j → OneChild (nth ns j).tag → AtOrBelow ns (suc j) n → AtOrBelow ns j n
  by_first : {j n : ℕ} → InCount (length ns) j → (nth ns j).tag ≡ 1 → AtOrBelow ns (suc j) n → AtOrBelow ns j n
  by_second : {j m n : ℕ} → InCount (length ns) j → (nth ns j).tag ≡ 1 → Follows ns (suc j) m → AtOrBelow ns m n
      → AtOrBelow ns j n

-- The node is a receive or a send.
abbrev pub Exchange : Node → Type 0
Exchange n = (n.tag ≡ 5) ⊎ (n.tag ≡ 6)

-- No node on the way from j down to n, both included, is an on step.
abbrev pub NoOnFrom : List Node → ℕ → ℕ → Type 0
NoOnFrom ns j n = (b : ℕ) → AtOrBelow ns j b → AtOrBelow ns b n → (nth ns b).tag ≢ 7

-- A thread that stands at node j has done the step a, and has a send or receive still to do.
pub record PartDone (ns : List Node) (a j : ℕ) : Type 0 where
  pub done : AtOrBelow ns (suc a) j
  pub next : ℕ
  pub exchange : Exchange (nth ns next)
  pub ahead : AtOrBelow ns j next

-- Node a of session k's tree switches the role x on.
pub record SwitchesOn (C : Contents) (k x a : ℕ) : Type 0 where
  pub inside : InTreeOf C k a
  pub tag : (nth C.nodes a).tag ≡ 7
  pub role : (nth C.nodes a).f1 ≡ x

-- Thread i of session k is midway: it has done an on, send or receive of the session, and has a send or receive to do.
pub record Midway (C : Contents) (T : SeatedState) (k i : ℕ) : Type 0 where
  pub thread : InCount (length T.state.threads) i
  pub owner : owner_of T i ≡ k
  pub since : ℕ
  pub inside : InTreeOf C k since
  pub begun : ((nth C.nodes since).tag ≡ 7) ⊎ Exchange (nth C.nodes since)
  pub part : PartDone C.nodes since (thread_at T.state i).node

-- The role r permits every send and receive of session k, and no other role of its user does.
abbrev pub CoversAlone : File → ℕ → ℕ → Type 0
CoversAlone F k r = Covers F k r × ((y : ℕ) → Covers F k y → y ≡ r)

-- No role but x permits sends, or receives, on the kind q, by its own record or through its juniors.
abbrev pub OnlyBy : Schema → ℕ → Way → ℕ → Type 0
OnlyBy D x w q = (y : ℕ) → permits D w (record { 0 = y }) (record { 0 = q }) ≡ true → y ≡ x

-- The kind of the channel on which thread j sends or receives.
abbrev pub kind_used : Contents → State → ℕ → ℕ
kind_used C s j =
    kind_held (schema_of C) s.made (value (thread_at s j) (nth C.nodes (thread_at s j).node).f1)

-- Session k has the role x by its thread i, and no other session has it.
pub record Alone (C : Contents) (T : SeatedState) (k x i : ℕ) : Type 0 where
  pub holds : has (thread_at T.state i).mask x ≡ true
  -- no thread of another session has the role
  pub others : (j : ℕ) → InCount (length T.state.threads) j → owner_of T j ≢ k
      → has (thread_at T.state j).mask x ≡ false
  -- no thread of another session makes a send that only this role permits
  pub sends : (j p : ℕ) (s : State) → Steps (clinic_of C) T.state j p s
      → (nth C.nodes (thread_at T.state j).node).tag ≡ 6 → owner_of T j ≢ k
      → OnlyBy (schema_of C) x Sends (kind_used C T.state j) → ⊥
  -- nor, as the partner of a send, such a receive
  pub receives : (j p : ℕ) (s : State) → Steps (clinic_of C) T.state j p s
      → (nth C.nodes (thread_at T.state j).node).tag ≡ 6 → owner_of T p ≢ k
      → OnlyBy (schema_of C) x Receives (kind_used C T.state p) → ⊥

-- P holds in every state of every run of the file g with this table of seats, whatever the list of choices.
abbrev pub EveryState : List ℕ → List ℕ → (SeatedState → Type 0) → Type 0
EveryState g table P = (ws : List ℕ) → Always P (limited_of (contents_of g) table) (seated_start (contents_of g)) ws

-- While a thread of session k is midway it has the role x.
abbrev pub HoldsWhileMidway : List ℕ → List ℕ → ℕ → ℕ → Type 0
HoldsWhileMidway g table k x =
    EveryState g table (λ T. (i : ℕ) → Midway (contents_of g) T k i → has (thread_at T.state i).mask x ≡ true)

-- While a thread of session k is midway the session is alone in the role x.
abbrev pub AloneWhileMidway : List ℕ → List ℕ → ℕ → ℕ → Type 0
AloneWhileMidway g table k x =
    EveryState g table (λ T. (i : ℕ) → Midway (contents_of g) T k i → Alone (contents_of g) T k x i)

-- Never is a thread of session k and a thread of session m midway.
abbrev pub NeverBothMidway : List ℕ → List ℕ → ℕ → ℕ → Type 0
NeverBothMidway g table k m =
    EveryState g table (λ T. (i j : ℕ) → Midway (contents_of g) T k i → Midway (contents_of g) T m j → ⊥)

-- Session k is alone in the role x from its on step a to each send or receive that no other on step parts from a.
abbrev pub AloneSince : List ℕ → List ℕ → ℕ → ℕ → ℕ → Type 0
AloneSince g table k x a =
    EveryState g table (λ T. (i : ℕ) → InCount (length T.state.threads) i → owner_of T i ≡ k
    → (U : PartDone (contents_of g).nodes a (thread_at T.state i).node)
    → NoOnFrom (contents_of g).nodes (suc a) U.next → Alone (contents_of g) T k x i)

-- Session k of F has at most one on step in the file g, and is midway only below it.
pub record UnderOneOn (g : List ℕ) (F : File) (k : ℕ) : Type 0 where
  -- each of its sends and receives stands below an on step
  pub below : (b : ℕ) → InTreeOf (contents_of g) k b → Exchange (nth (contents_of g).nodes b)
      → (a x : ℕ) × SwitchesOn (contents_of g) k x a × AtOrBelow (contents_of g).nodes (suc a) b
  -- it has no second on step
  pub single : (a b x y : ℕ) → SwitchesOn (contents_of g) k x a → SwitchesOn (contents_of g) k y b → (a ≡ b) × (x ≡ y)
  -- the role of the on step permits every send and receive of the session
  pub covers : (a x : ℕ) → SwitchesOn (contents_of g) k x a → Covers F k x
  -- whoever is midway has that role, with any table of seats
  pub holds : (a x : ℕ) → SwitchesOn (contents_of g) k x a → (table : List ℕ) → HoldsWhileMidway g table k x
  -- and is alone in it where the table has one seat for it
  pub alone : (a x : ℕ) → SwitchesOn (contents_of g) k x a → (table : List ℕ) → seats_in table x ≡ 1
      → AloneWhileMidway g table k x
