-- What a seated choice is, in words; and what holds in every state of a seated run.
use Rattle.std.specs.Prelude.{ℕ, zero, suc, ◌+◌, ◌*◌, ◌-◌, ◌≤◌, ◌<◌, ◌≡◌, ◌⊎◌, ◌↔◌, Bool, true, false, cond, eqb, length, get_or, take, drop}
use mathlib.Core.List.{List, [], ◌∷◌, ◌++◌, Memᴰ, Nodup}
use Rattle.masks.specs.Mask.{has}
use Rattle.format.specs.Contents.{Contents}
use Rattle.format.specs.declared.Node.{Node}
use Rattle.steps.specs.declared.Thread.{Thread}
use Rattle.steps.specs.Choice.{Clinic, State, thread_at, choice, halts}
use Rattle.reading_exact.specs.Lists.{All}
use Rattle.reading_exact.specs.File.{InCount}
use Rattle.reading_exact.specs.Refusals.{Reached}
use Rattle.running_exact.specs.Steps.{Steps}
use Rattle.rounds.specs.Round.{Taken, refuses, waits, steps}
use Rattle.seats.specs.Seats.{Limited, SeatedState, sits, count_to, seats_taken, thread_node, owner_of, in_line, owners_by, lines_left, stand_in_line, seated_choice, seated_run}

-- a session has a role where one of its threads has it active
abbrev pub Sitting : List Thread → List ℕ → ℕ → ℕ → Type 0
Sitting [] os k r = ⊥
Sitting (t ∷ ts) [] k r = ⊥
Sitting (t ∷ ts) (o ∷ os) k r = ((o ≡ k) × (has t.mask r ≡ true)) ⊎ Sitting ts os k r

-- a thread of the list, alone, at an on of a role that is its user's, has a limit, and that its session doesn't have
pub record AsksSeat (L : Limited) (S : SeatedState) (i p : ℕ) : Type 0 where
  pub thread : InCount (length S.state.threads) i
  pub node : InCount L.clinic.nodes (thread_at S.state i).node
  pub alone : p ≡ 0
  pub on : (thread_node L S i).tag ≡ 7
  pub assigned : has (L.clinic.schema.assigned (thread_at S.state i).user) (thread_node L S i).f1 ≡ true
  pub limited : 1 ≤ L.seats (thread_node L S i).f1
  pub without : sits S (owner_of S i) (thread_node L S i).f1 ≡ false

-- no line, or the session is its head
abbrev pub IsNext : List ℕ → ℕ → Type 0
IsNext [] k = Unit {0}
IsNext (x ∷ xs) k = x ≡ k

-- fewer sessions than seats, and no line or the session is its head
abbrev pub GetsSeat : Limited → SeatedState → ℕ → Type 0
GetsSeat L S i = (seats_taken L S (thread_node L S i).f1 < L.seats (thread_node L S i).f1) × IsNext (S.lines (thread_node L S i).f1) (owner_of S i)

-- the four ways of a seated choice
pub data SeatedStep (L : Limited) (S : SeatedState) (i p : ℕ) : Taken SeatedState → Type 0 where
  -- 26
  got_none : AsksSeat L S i p → (GetsSeat L S i → ⊥) → SeatedStep L S i p (waits (stand_in_line L S i))
  -- the head of the line leaves it as it takes its seat; where there is no line, none is left
  took_seat : AsksSeat L S i p → GetsSeat L S i → (s : State) → Steps L.clinic S.state i p s
      → SeatedStep L S i p (steps (record { state = s; owners = owners_by S.owners i (thread_node L S i).tag; lines = lines_left L S i }))
  -- no seat is asked for
  asked_none : (AsksSeat L S i p → ⊥) → (s : State) → Steps L.clinic S.state i p s
      → SeatedStep L S i p (steps (record { state = s; owners = owners_by S.owners i (thread_node L S i).tag; lines = S.lines }))
  refused_plainly : (AsksSeat L S i p → ⊥) → (n : ℕ) → choice L.clinic S.state i p ≡ halts n → SeatedStep L S i p (refuses n)

-- no session twice
abbrev pub Distinct : List ℕ → Type 0
Distinct [] = Unit {0}
Distinct (x ∷ xs) = (in_line x xs ≡ false) × Distinct xs

-- the sessions before k in a line
unfoldable pub ahead : ℕ → List ℕ → List ℕ
ahead k [] = []
ahead k (x ∷ xs) = cond (eqb x k) [] (x ∷ ahead k xs)

-- what a choice does to the line of a role
pub data LineStep (L : Limited) (S S' : SeatedState) (i r : ℕ) : Type 0 where
  line_stays : S'.lines r ≡ S.lines r → LineStep L S S' i r
  -- the session that asked, at the end
  line_joins : r ≡ (thread_node L S i).f1 → in_line (owner_of S i) (S.lines r) ≡ false → S'.lines r ≡ S.lines r ++ (owner_of S i ∷ []) → LineStep L S S' i r
  -- the head, which takes a seat
  line_leaves : r ≡ (thread_node L S i).f1 → S.lines r ≡ owner_of S i ∷ S'.lines r → sits S (owner_of S i) r ≡ false → sits S' (owner_of S i) r ≡ true → LineStep L S S' i r

-- session k has a thread with role r active
abbrev pub HasRole : SeatedState → ℕ → ℕ → Type 0
HasRole S k r = (i : ℕ) × InCount (length S.state.threads) i × (owner_of S i ≡ k) × (has (thread_at S.state i).mask r ≡ true)

-- n is the number of the sessions that have role r: a list of them all, each once, has that length
abbrev pub SessionsIn : SeatedState → ℕ → ℕ → Type 0
SessionsIn S r n = (ks : List ℕ) × Nodup ks × ((k : ℕ) → Memᴰ k ks ↔ HasRole S k r) × (length ks ≡ n)

-- session k's thread i stands at an on of the role r
pub record StandsAtOn (L : Limited) (S : SeatedState) (k r i : ℕ) : Type 0 where
  pub thread : InCount (length S.state.threads) i
  pub owner : owner_of S i ≡ k
  pub on : InCount L.clinic.nodes (thread_at S.state i).node
  pub tag : (thread_node L S i).tag ≡ 7
  pub role : (thread_node L S i).f1 ≡ r

-- node j lies in the tree of session k: it is reached from the node due for k, from parents to children
abbrev pub InTreeOf : Contents → ℕ → ℕ → Type 0
InTreeOf C k j = Reached (λ (c : ℕ) (n : Node). c) C.nodes (length C.sessions) (λ (i : ℕ). i) j k

-- the sessions 1 to k, taken in order, are more than a role with a limit has seats
abbrev pub Overfull : Limited → SeatedState → ℕ → ℕ → Type 0
Overfull L S k r = (1 ≤ L.seats r) × (L.seats r < count_to (λ j. sits S j r) k)

-- session k is the lowest that overfills a role: k sessions do, and fewer don't
abbrev pub FirstOver : Limited → SeatedState → ℕ → Type 0
FirstOver L S k = InCount L.sessions k × ((r : ℕ) × Overfull L S k r) × ((j r : ℕ) → 1 ≤ j → j < k → Overfull L S j r → ⊥)

-- what holds in every state of a seated run
pub record Ordered (L : Limited) (S : SeatedState) : Type 0 where
  -- each thread has a session, one of the file's
  pub owners : length S.owners ≡ length S.state.threads
  pub counted : All (InCount L.sessions) S.owners
  -- never more sessions in a role than its seats
  pub seats : (r : ℕ) → 1 ≤ L.seats r → seats_taken L S r ≤ L.seats r
  -- lines: no session twice, each one of the file's, none that has the role, none for a role without limit
  pub distinct : (r : ℕ) → Distinct (S.lines r)
  pub waiting : (r k : ℕ) → in_line k (S.lines r) ≡ true → InCount L.sessions k × (sits S k r ≡ false)
  pub unlimited : (r : ℕ) → L.seats r ≡ 0 → S.lines r ≡ []

-- what holds of the state after a choice, where there is one
abbrev pub AfterAnswer : Taken SeatedState → (SeatedState → Type 0) → Type 0
AfterAnswer (refuses n) P = Unit {0}
AfterAnswer (steps S') P = P S'
AfterAnswer (waits S') P = P S'

-- what holds in every state that comes up: before the first choice, and after each that is answered
abbrev pub Always : (SeatedState → Type 0) → Limited → SeatedState → List ℕ → Type 0
Always P L S [] = P S
Always P L S (i ∷ []) = P S
Always P L S (i ∷ p ∷ ws) = P S × AfterAnswer (seated_choice L S i p) (λ S'. Always P L S' ws)

-- and what holds between any two such states in a row
abbrev pub Between : (SeatedState → SeatedState → Type 0) → Limited → SeatedState → List ℕ → Type 0
Between Q L S [] = Unit {0}
Between Q L S (i ∷ []) = Unit {0}
Between Q L S (i ∷ p ∷ ws) = AfterAnswer (seated_choice L S i p) (λ S'. Q S S' × Between Q L S' ws)

-- one that waits before and after has the same sessions before it, or the same less the head
abbrev pub NoMoreBefore : SeatedState → SeatedState → Type 0
NoMoreBefore S S' =
    (r k : ℕ) → in_line k (S.lines r) ≡ true → in_line k (S'.lines r) ≡ true
    → (ahead k (S'.lines r) ≡ ahead k (S.lines r)) ⊎ ((x : ℕ) × (ahead k (S.lines r) ≡ x ∷ ahead k (S'.lines r)))

-- what a choice that is done is answered: 26 where it waits, else 0
abbrev pub AnswerWord : Taken SeatedState → ℕ → Type 0
AnswerWord (refuses n) w = ⊥
AnswerWord (waits S') w = w ≡ 26
AnswerWord (steps S') w = w ≡ 0

-- w is what the last choice done of a run through ws was answered, 0 where none was done: the run through the n choices before it stands in T
pub data LastAnswer (L : Limited) (S : SeatedState) (ws : List ℕ) (w : ℕ) : Type 0 where
  none_done : (seated_run L S ws).count ≡ 0 → w ≡ 0 → LastAnswer L S ws w
  last_done : (n : ℕ) (T : SeatedState) → (seated_run L S ws).count ≡ suc n → seated_run L S (take (2 * n) ws) ≡ record { count = n; refusal = 0; seating = T }
      → AnswerWord (seated_choice L T (get_or ws (2 * n) 0) (get_or ws (2 * n + 1) 0)) w → LastAnswer L S ws w
