-- Rounds in literal words: those of small states by their threads' nodes, and those of files with all that is answered and written.
use Rattle.std.specs.Prelude.{ℕ, ◌*◌, ◌-◌, ◌≡◌, List, [], ◌∷◌, ◌++◌, map, length, get_or, replicate}
use Rattle.format.specs.Words.{bytes_of}
use Rattle.format.specs.declared.Node.{Node}
use Rattle.steps.specs.Threads.{zeros}
use Rattle.steps.specs.Choice.{Clinic, State}
use Rattle.running_exact.specs.RunCases.{sevens, desk, three, shows}
use Rattle.dispatching.specs.Dispatch.{round_of, rounding, round_over}

abbrev node : ℕ → ℕ → ℕ → Node
node tag f1 f2 = record { tag = tag; f1 = f1; f2 = f2 }

-- 1 a compare that of_nodes on, 2 a receive, 3 an end; 4 a send on the same channel, 5 an end; 6 a fork whose second child is 2, 7 an end; 8 a compare of two; 9 a repeat; 10 a send on another channel;
-- 11 and 12 receives, 13 an end; 14 a receive, 15 a send, 16 a receive, 17 an end; 18 a receive on the other channel, 19 an end
abbrev nodes : List Node
nodes =
    node 4 1 1 ∷ node 5 257 0 ∷ node 0 0 0 ∷ node 6 257 1 ∷ node 0 0 0 ∷ node 1 2 0 ∷ node 0 0 0 ∷ node 4 1 2 ∷ node 2 0 0 ∷ node 6 258 1
    ∷ node 5 257 0 ∷ node 5 257 0 ∷ node 0 0 0 ∷ node 5 257 0 ∷ node 6 257 1 ∷ node 5 257 0 ∷ node 0 0 0 ∷ node 5 258 0 ∷ node 0 0 0 ∷ []

-- one user with one role, which may send and receive on the kind of both channels
abbrev clinic : Clinic
clinic = record {
  schema = record { users = 1; roles = 1; kinds = 1; channels = 2; assigned = λ u. 1; grants = λ w r. 1; carries = λ k. 0; owner = λ c. 1; kind = λ c. 1 };
  nodes = 19;
  node = λ j. get_or nodes (j - 1) (node 0 0 0);
}

-- threads at nodes
abbrev standing : List ℕ → State
standing js = record { threads = map (λ (j : ℕ). record { user = 1; node = j; mask = 1; vars = zeros }) js; made = [] }

pub data RoundCase : Type 0 where
  -- threads at these nodes, and the round's words
  of_nodes : List ℕ → List ℕ → RoundCase
  -- a file's words, a list of choices, the round's words, and those of the output
  rounds : List ℕ → List ℕ → List ℕ → List ℕ → RoundCase
  -- the number and place that stopped the list, and the words of the output
  stops : List ℕ → List ℕ → ℕ → ℕ → List ℕ → RoundCase
  -- the refusal with an output of so many bytes, where nothing is written
  is_refused : List ℕ → List ℕ → ℕ → ℕ → ℕ → RoundCase

abbrev pub RoundShown : RoundCase → Type 0
RoundShown (of_nodes at words) = (round_of clinic (standing at)).words ≡ words
RoundShown (rounds ws cs rs xs) =
    (rounding (bytes_of ws) cs 1802 ≡ record { number = 0; place = 0; length = 2 * length xs; words = rs ++ replicate (128 - length rs) 0 })
    × (round_over (bytes_of ws) cs (sevens 1802) ≡ bytes_of xs ++ sevens (1802 - 2 * length xs))
RoundShown (stops ws cs n p xs) =
    (rounding (bytes_of ws) cs 1802 ≡ record { number = n; place = p; length = 2 * length xs; words = replicate 128 0 })
    × (round_over (bytes_of ws) cs (sevens 1802) ≡ bytes_of xs ++ sevens (1802 - 2 * length xs))
RoundShown (is_refused ws cs room n p) = (rounding (bytes_of ws) cs room ≡ record { number = n; place = p; length = 0; words = replicate 128 0 }) × (round_over (bytes_of ws) cs (sevens room) ≡ sevens room)

abbrev pub round_cases : List RoundCase
round_cases =
    of_nodes [] []
    -- two ends: numbers are those at each choice
    ∷ of_nodes (3 ∷ 3 ∷ []) (1 ∷ 0 ∷ 1 ∷ 0 ∷ [])
    -- met, then it steps at its own visit
    ∷ of_nodes (4 ∷ 2 ∷ []) (1 ∷ 2 ∷ 2 ∷ 0 ∷ [])
    -- met after its own visit, at which it did nothing
    ∷ of_nodes (2 ∷ 4 ∷ []) (2 ∷ 1 ∷ [])
    -- moved onto a receive in this round: not met
    ∷ of_nodes (1 ∷ 4 ∷ []) (1 ∷ 0 ∷ [])
    -- a thread made at a receive: not met
    ∷ of_nodes (6 ∷ 4 ∷ []) (1 ∷ 0 ∷ [])
    -- an end before later visits
    ∷ of_nodes (3 ∷ 4 ∷ 2 ∷ []) (1 ∷ 0 ∷ 1 ∷ 2 ∷ 2 ∷ 0 ∷ [])
    -- one receiver for two senders: the first has it
    ∷ of_nodes (4 ∷ 4 ∷ 2 ∷ []) (1 ∷ 3 ∷ 3 ∷ 0 ∷ [])
    -- two receivers for one sender: it has the first
    ∷ of_nodes (2 ∷ 2 ∷ 4 ∷ []) (3 ∷ 1 ∷ [])
    -- a receiver on another channel is not met
    ∷ of_nodes (10 ∷ 2 ∷ []) []
    -- refused with 19: nothing in the list
    ∷ of_nodes (8 ∷ 2 ∷ []) []
    -- refused with 20, and a place that falls free for the third
    ∷ of_nodes (9 ∷ 3 ∷ 9 ∷ replicate 61 2) (2 ∷ 0 ∷ 2 ∷ 0 ∷ [])
    ∷ of_nodes (9 ∷ replicate 63 2) []
    -- a receiver that moved onto a receive, and a sender that did: not met
    ∷ of_nodes (4 ∷ 11 ∷ 4 ∷ []) (1 ∷ 2 ∷ [])
    ∷ of_nodes (15 ∷ 2 ∷ 4 ∷ []) (1 ∷ 2 ∷ 2 ∷ 0 ∷ [])
    -- met, then it sends
    ∷ of_nodes (4 ∷ 14 ∷ 2 ∷ []) (1 ∷ 2 ∷ 2 ∷ 3 ∷ 3 ∷ 0 ∷ [])
    -- a receiver on another channel is passed over, and the next is met
    ∷ of_nodes (10 ∷ 2 ∷ 18 ∷ []) (1 ∷ 3 ∷ 3 ∷ 0 ∷ [])
    -- an end between: those that moved are the same threads after it
    ∷ of_nodes (4 ∷ 3 ∷ 11 ∷ 4 ∷ []) (1 ∷ 3 ∷ 2 ∷ 0 ∷ [])
    ∷ of_nodes (1 ∷ 3 ∷ 4 ∷ []) (1 ∷ 0 ∷ 2 ∷ 0 ∷ [])
    -- after fork, repeat and on: the sender meets the receiver, a repeat, a new channel, and the receiver ends; the thread that the repeat made is left
    ∷ rounds desk (1 ∷ 0 ∷ 2 ∷ 0 ∷ 4 ∷ 0 ∷ []) (1 ∷ 4 ∷ 2 ∷ 0 ∷ 3 ∷ 0 ∷ 4 ∷ 0 ∷ [])
    (7 ∷ 0 ∷ 4 ∷ 1 ∷ 1 ∷ 2 ∷ shows 1 3 1 1 0 ++ shows 2 7 1 1 0 ++ shows 1 5 1 1 385 ++ shows 2 8 1 1 0)
    -- three ends
    ∷ rounds three [] (1 ∷ 0 ∷ 1 ∷ 0 ∷ 1 ∷ 0 ∷ []) (3 ∷ 0 ∷ 0 ∷ 0 ∷ [])
    -- a list that stops
    ∷ stops desk (1 ∷ 2 ∷ []) 18 1 (0 ∷ 18 ∷ 2 ∷ 0 ∷ shows 1 1 1 1 0 ++ shows 2 7 1 1 0)
    -- an odd list, too little room, and what is no file
    ∷ is_refused desk (1 ∷ []) 1802 17 0
    ∷ is_refused desk [] 1799 17 0
    ∷ is_refused (1 ∷ []) [] 1802 1 0
    -- zero bytes: nothing can be done
    ∷ rounds [] [] [] (0 ∷ 0 ∷ 0 ∷ 0 ∷ [])
    ∷ []
