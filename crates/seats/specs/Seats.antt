-- Seats: how many sessions may have a role active, who has it, the lines, a choice that may have to wait, and runs of such choices.
use Rattle.std.specs.Prelude.{ℕ, zero, suc, ◌+◌, ◌-◌, Bool, true, false, cond, not, ◌&&◌, ◌||◌, List, [], ◌∷◌, ◌++◌, eqb, leb, ltb, length, get_or, take, drop}
use Rattle.masks.specs.Mask.{has}
use Rattle.format.specs.Contents.{Contents, contents_of, in_count}
use Rattle.format.specs.declared.Node.{Node}
use Rattle.steps.specs.declared.Thread.{Thread}
use Rattle.steps.specs.Choice.{Clinic, clinic_of, State, Chosen, halts, goes, thread_at, choice}
use Rattle.choices.specs.Choices.{start, Ran}
use Rattle.running.specs.Ways.{stands_in}
use Rattle.rounds.specs.Round.{Taken, refuses, waits, steps}
use Rattle.rounds.specs.Rounds.{numbers}

-- a clinic with a table of seats: how many sessions it has, and each role's seats, 0 for no limit
pub record Limited : Type 0 where
  pub clinic : Clinic
  pub sessions : ℕ
  pub seats : ℕ → ℕ

-- a lent table: one word a role, from role 1 on
abbrev pub seats_in : List ℕ → ℕ → ℕ
seats_in table r = get_or (0 ∷ table) r 0

abbrev pub limited_of : Contents → List ℕ → Limited
limited_of C table = record { clinic = clinic_of C; sessions = length C.sessions; seats = seats_in table }

-- a state of a seated run: the run's state, each thread's session, and each role's line of sessions
pub record SeatedState : Type 0 where
  pub state : State
  pub owners : List ℕ
  pub lines : ℕ → List ℕ

-- session k has role r active in one of its threads
unfoldable pub occupies : List Thread → List ℕ → ℕ → ℕ → Bool
occupies [] os k r = false
occupies (t ∷ ts) [] k r = false
occupies (t ∷ ts) (o ∷ os) k r = (eqb o k && has t.mask r) || occupies ts os k r

abbrev pub sits : SeatedState → ℕ → ℕ → Bool
sits S k r = occupies S.state.threads S.owners k r

-- how many of 1 to n meet a test
unfoldable pub count_to : (ℕ → Bool) → ℕ → ℕ
count_to q zero = 0
count_to q (suc k) = cond (q (suc k)) 1 0 + count_to q k

-- seats taken: the sessions in a role
abbrev pub seats_taken : Limited → SeatedState → ℕ → ℕ
seats_taken L S r = count_to (λ k. sits S k r) L.sessions

-- the node of thread i, and its session
abbrev pub thread_node : Limited → SeatedState → ℕ → Node
thread_node L S i = L.clinic.node (thread_at S.state i).node

abbrev pub owner_of : SeatedState → ℕ → ℕ
owner_of S i = get_or S.owners (i - 1) 0

-- a choice asks for a seat: a thread of the list, alone, at an on of a role that is its user's, has a limit, and that its session doesn't have
unfoldable pub asks_seat : Limited → SeatedState → ℕ → ℕ → Bool
asks_seat L S i p =
    in_count (length S.state.threads) i
    && (in_count L.clinic.nodes (thread_at S.state i).node
    && (eqb p 0
    && (eqb (thread_node L S i).tag 7
    && (has (L.clinic.schema.assigned (thread_at S.state i).user) (thread_node L S i).f1
    && (ltb 0 (L.seats (thread_node L S i).f1) && not (sits S (owner_of S i) (thread_node L S i).f1))))))

-- there is no line, or the session is its head
unfoldable pub is_next : List ℕ → ℕ → Bool
is_next [] k = true
is_next (x ∷ xs) k = eqb x k

-- one that asks gets a seat: one is free, and there is no line or the session is its head
unfoldable pub gets_seat : Limited → SeatedState → ℕ → Bool
gets_seat L S i =
    ltb (seats_taken L S (thread_node L S i).f1) (L.seats (thread_node L S i).f1) && is_next (S.lines (thread_node L S i).f1) (owner_of S i)

abbrev pub in_line : ℕ → List ℕ → Bool
in_line k line = stands_in k line

-- the session joins once, at the end
unfoldable pub line_with : List ℕ → ℕ → List ℕ
line_with l k = cond (in_line k l) l (l ++ (k ∷ []))

-- the lines with another one for a role
abbrev pub relined : (ℕ → List ℕ) → ℕ → List ℕ → ℕ → List ℕ
relined lines r l x = cond (eqb x r) l (lines x)

-- a new thread has its maker's session; an end takes its away
unfoldable pub owners_by : List ℕ → ℕ → ℕ → List ℕ
owners_by os i tag =
    cond (eqb tag 0) (take (i - 1) os ++ drop i os) (cond (eqb tag 1 || eqb tag 2) (os ++ (get_or os (i - 1) 0 ∷ [])) os)

-- a refused choice; the state after one that is a step
abbrev pub seated_by : List ℕ → (ℕ → List ℕ) → Chosen → Taken SeatedState
seated_by os lines (halts n) = refuses n
seated_by os lines (goes s) = steps (record { state = s; owners = os; lines = lines })

-- the lines once the session of thread i has taken its seat, and once it waits
abbrev pub lines_left : Limited → SeatedState → ℕ → ℕ → List ℕ
lines_left L S i = relined S.lines (thread_node L S i).f1 (drop 1 (S.lines (thread_node L S i).f1))

abbrev pub lines_joined : Limited → SeatedState → ℕ → ℕ → List ℕ
lines_joined L S i = relined S.lines (thread_node L S i).f1 (line_with (S.lines (thread_node L S i).f1) (owner_of S i))

abbrev pub stand_in_line : Limited → SeatedState → ℕ → SeatedState
stand_in_line L S i = record { state = S.state; owners = S.owners; lines = lines_joined L S i }

-- one that asks and doesn't get a seat is answered 26: it waits; any other is the run's choice
unfoldable pub seated_choice : Limited → SeatedState → ℕ → ℕ → Taken SeatedState
seated_choice L S i p =
    cond (asks_seat L S i p && not (gets_seat L S i)) (waits (stand_in_line L S i))
    (seated_by (owners_by S.owners i (thread_node L S i).tag) (cond (asks_seat L S i p) (lines_left L S i) S.lines) (choice L.clinic S.state i p))

-- choices done, those answered 26 among them; the refusal (0 if none); the state
pub record SeatedRan : Type 0 where
  pub count : ℕ
  pub refusal : ℕ
  pub seating : SeatedState

abbrev pub one_done : SeatedRan → SeatedRan
one_done r = record { count = suc r.count; refusal = r.refusal; seating = r.seating }

abbrev pub follow_seated : SeatedState → Taken SeatedState → (SeatedState → SeatedRan) → SeatedRan
follow_seated S (refuses n) go = record { count = 0; refusal = n; seating = S }
follow_seated S (waits S') go = one_done (go S')
follow_seated S (steps S') go = one_done (go S')

unfoldable pub seated_run : Limited → SeatedState → List ℕ → SeatedRan
seated_run L S [] = record { count = 0; refusal = 0; seating = S }
seated_run L S (i ∷ []) = record { count = 0; refusal = 0; seating = S }
seated_run L S (i ∷ p ∷ ws) = follow_seated S (seated_choice L S i p) (λ S'. seated_run L S' ws)

-- what such a run hands back: choices done, refusal, state
abbrev pub plainly : SeatedRan → Ran
plainly r = record { count = r.count; refusal = r.refusal; state = r.seating.state }

-- the list without the choices that are answered 26
abbrev pub steps_by : Taken SeatedState → ℕ → ℕ → List ℕ → (SeatedState → List ℕ) → List ℕ
steps_by (refuses n) i p ws go = i ∷ p ∷ ws
steps_by (waits S') i p ws go = go S'
steps_by (steps S') i p ws go = i ∷ p ∷ go S'

unfoldable pub steps_only : Limited → SeatedState → List ℕ → List ℕ
steps_only L S [] = []
steps_only L S (i ∷ []) = i ∷ []
steps_only L S (i ∷ p ∷ ws) = steps_by (seated_choice L S i p) i p ws (λ S'. steps_only L S' ws)

-- how many are answered 26
abbrev pub waits_by : Taken SeatedState → (SeatedState → ℕ) → ℕ
waits_by (refuses n) go = 0
waits_by (waits S') go = suc (go S')
waits_by (steps S') go = go S'

unfoldable pub waits_in : Limited → SeatedState → List ℕ → ℕ
waits_in L S [] = 0
waits_in L S (i ∷ []) = 0
waits_in L S (i ∷ p ∷ ws) = waits_by (seated_choice L S i p) (λ S'. waits_in L S' ws)

-- what the last choice done is answered: 26 where it waits, else 0; a word stands for no choice done
abbrev pub last_by : Taken SeatedState → ℕ → (ℕ → SeatedState → ℕ) → ℕ
last_by (refuses n) w go = w
last_by (waits S') w go = go 26 S'
last_by (steps S') w go = go 0 S'

unfoldable pub last_in : Limited → SeatedState → ℕ → List ℕ → ℕ
last_in L S w [] = w
last_in L S w (i ∷ []) = w
last_in L S w (i ∷ p ∷ ws) = last_by (seated_choice L S i p) w (λ v S'. last_in L S' v ws)

-- the start: the threads are the sessions' own, 1 to n, and nobody waits
abbrev pub seated_start : Contents → SeatedState
seated_start C = record { state = start C; owners = numbers 1 (length C.sessions); lines = λ r. [] }

-- the sessions 1 to k, taken in order, overfill a role of 1 to m
unfoldable pub overfills : Limited → SeatedState → ℕ → ℕ → Bool
overfills L S zero k = false
overfills L S (suc m) k =
    (ltb 0 (L.seats (suc m)) && ltb (L.seats (suc m)) (count_to (λ j. sits S j (suc m)) k)) || overfills L S m k

-- the lowest of the numbers 1 to n that meets a test, 0 where none does
unfoldable pub lowest_to : (ℕ → Bool) → ℕ → ℕ
lowest_to q zero = 0
lowest_to q (suc k) = let l : ℕ = lowest_to q k in cond (eqb l 0) (cond (q (suc k)) (suc k) 0) l

-- the lowest session that overfills a role at the start, 0 where none does
abbrev pub overfilled_at : Limited → SeatedState → ℕ → ℕ
overfilled_at L S roles = lowest_to (overfills L S roles) L.sessions

-- the run of a file through a list, with a table that fits
abbrev pub seated_ran_of : List ℕ → List ℕ → List ℕ → SeatedRan
seated_ran_of f table ws = seated_run (limited_of (contents_of f) table) (seated_start (contents_of f)) ws
