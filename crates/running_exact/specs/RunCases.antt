-- Runs in literal words: a file, a list of choices, what is answered and what is written.
use Rattle.std.specs.Prelude.{ℕ, zero, suc, ◌*◌, ◌-◌, ◌≡◌, List, [], ◌∷◌, ◌++◌, length, replicate}
use Rattle.format.specs.Words.{bytes_of}
use Rattle.format.specs.Answers.{fine, refused}
use Rattle.format.specs.declared.Verdict.{Verdict}
use Rattle.running.specs.declared.Ready.{Ready}
use Rattle.running.specs.Run.{running, run_over, ready}

-- a file's words, a list of choices, and what is said of them
pub data RunCase : Type 0 where
  -- the answer and the words of the output
  runs : List ℕ → List ℕ → Verdict → List ℕ → RunCase
  -- the refusal with an output of so many bytes, where nothing is written
  writes_nothing : List ℕ → List ℕ → ℕ → Verdict → RunCase
  -- the ready pair after the list
  readies : List ℕ → List ℕ → Ready → RunCase

-- an output that held 7 in each of so many bytes
abbrev pub sevens : ℕ → List ℕ
sevens n = replicate n 7

abbrev pub RunShown : RunCase → Type 0
RunShown (runs ws cs v xs) =
    (running (bytes_of ws) cs 1802 ≡ v) × (run_over (bytes_of ws) cs (sevens 1802) ≡ bytes_of xs ++ sevens (1802 - 2 * length xs))
RunShown (writes_nothing ws cs n v) = (running (bytes_of ws) cs n ≡ v) × (run_over (bytes_of ws) cs (sevens n) ≡ sevens n)
RunShown (readies ws cs r) = ready (bytes_of ws) cs ≡ r

-- user 1 has role 1, user 2 roles 1 and 2; role 1 may send on kind 1, role 2 may receive; kind 2 carries channels of kind 1; channel 1 of user 2 has kind 1, channel 2 of user 1 kind 2.
-- Session 1, of user 1 with role 1 active: a fork; the one branch sends user 2 on channel 1, the other makes a channel of kind 2 and compares it with channel 2.
-- Session 2, of user 2 with role 1 active: a repeat of: role 2 on, receive on channel 1.
abbrev pub desk : List ℕ
desk =
    1 ∷ 2 ∷ 2 ∷ 2 ∷ 2 ∷ 2 ∷ 10 ∷ 13 ∷ 15 ∷ 23 ∷ 25 ∷ 29 ∷ 35
    ∷ 1 ∷ 3
    ∷ 1 ∷ 0 ∷ 0 ∷ 0 ∷ 0 ∷ 0 ∷ 1 ∷ 0
    ∷ 0 ∷ 1
    ∷ 2 ∷ 1 ∷ 1 ∷ 2
    ∷ 1 ∷ 1 ∷ 1 ∷ 2 ∷ 1 ∷ 7
    ∷ 1 ∷ 4 ∷ 0 ∷ 6 ∷ 257 ∷ 2 ∷ 0 ∷ 0 ∷ 0 ∷ 3 ∷ 2 ∷ 0 ∷ 4 ∷ 512 ∷ 258 ∷ 0 ∷ 0 ∷ 0
    ∷ 2 ∷ 0 ∷ 0 ∷ 7 ∷ 2 ∷ 0 ∷ 5 ∷ 257 ∷ 0 ∷ 0 ∷ 0 ∷ 0 ∷ []

-- three users, the last two with role 1 assigned and active, each with a session that ends
abbrev pub three : List ℕ
three =
    1 ∷ 3 ∷ 1 ∷ 0 ∷ 0 ∷ 3 ∷ 3 ∷ 13 ∷ 16 ∷ 20 ∷ 20 ∷ 20 ∷ 29
    ∷ 0 ∷ 1 ∷ 1
    ∷ 0 ∷ 0 ∷ 0 ∷ 0
    ∷ 1 ∷ 0 ∷ 1 ∷ 2 ∷ 1 ∷ 2 ∷ 3 ∷ 1 ∷ 3
    ∷ 0 ∷ 0 ∷ 0 ∷ 0 ∷ 0 ∷ 0 ∷ 0 ∷ 0 ∷ 0 ∷ []

-- a thread's words: user, node, mask, number of roles, the first variable and seven that are 0
abbrev pub shows : ℕ → ℕ → ℕ → ℕ → ℕ → List ℕ
shows user node mask roles v = user ∷ node ∷ mask ∷ roles ∷ v ∷ 0 ∷ 0 ∷ 0 ∷ 0 ∷ 0 ∷ 0 ∷ 0 ∷ []

-- so many times the same words
unfoldable pub times : ℕ → List ℕ → List ℕ
times zero ws = []
times (suc n) ws = ws ++ times n ws

-- user 1 has role 1, user 2 role 2; role 1 may send on kind 1, role 2 may receive on kind 1; channels 1 to 3 of user 2
-- have kinds 1, 2 and 1.
-- Sessions: 1, of user 1: role 2 on. 2, of user 2 with role 2 active: role 2 off, and off again. 3 and 4, of user 1:
-- send user 1 on channel 1, 3 with role 1 active and 4 with none.
-- 5 to 8, of user 2, receive: on channel 1 with role 2 active, on channel 1 with none, on channel 2 with role 2, on
-- channel 3 with role 2.
abbrev pub barred : List ℕ
barred =
    1 ∷ 2 ∷ 2 ∷ 2 ∷ 3 ∷ 8 ∷ 17 ∷ 13 ∷ 15 ∷ 23 ∷ 25 ∷ 31 ∷ 55
    ∷ 1 ∷ 2
    ∷ 1 ∷ 0 ∷ 0 ∷ 0 ∷ 0 ∷ 0 ∷ 1 ∷ 0
    ∷ 0 ∷ 0
    ∷ 2 ∷ 1 ∷ 2 ∷ 2 ∷ 2 ∷ 1
    ∷ 1 ∷ 1 ∷ 1 ∷ 2 ∷ 2 ∷ 3 ∷ 1 ∷ 1 ∷ 6 ∷ 1 ∷ 0 ∷ 8 ∷ 2 ∷ 2 ∷ 10 ∷ 2 ∷ 0 ∷ 12 ∷ 2 ∷ 2 ∷ 14 ∷ 2 ∷ 2 ∷ 16
    ∷ 7 ∷ 2 ∷ 0 ∷ 0 ∷ 0 ∷ 0
    ∷ 8 ∷ 2 ∷ 0 ∷ 8 ∷ 2 ∷ 0 ∷ 0 ∷ 0 ∷ 0
    ∷ 6 ∷ 257 ∷ 1 ∷ 0 ∷ 0 ∷ 0 ∷ 6 ∷ 257 ∷ 1 ∷ 0 ∷ 0 ∷ 0
    ∷ 5 ∷ 257 ∷ 0 ∷ 0 ∷ 0 ∷ 0 ∷ 5 ∷ 257 ∷ 0 ∷ 0 ∷ 0 ∷ 0 ∷ 5 ∷ 258 ∷ 0 ∷ 0 ∷ 0 ∷ 0 ∷ 5 ∷ 259 ∷ 0 ∷ 0 ∷ 0 ∷ 0 ∷ []

-- halted with a refusal after thread 2's first off: one choice is done, and the state is as that left it
abbrev pub halted_with : ℕ → List ℕ
halted_with n =
    1 ∷ n ∷ 8 ∷ 0
    ∷ shows 1 1 1 1 0 ++ shows 2 4 0 0 0 ++ shows 1 6 1 1 0 ++ shows 1 8 0 0 0
    ++ shows 2 10 2 1 0 ++ shows 2 12 0 0 0 ++ shows 2 14 2 1 0 ++ shows 2 16 2 1 0

-- a user without roles repeats a fork of two ends
abbrev pub crowd : List ℕ
crowd =
    1 ∷ 1 ∷ 0 ∷ 0 ∷ 0 ∷ 1 ∷ 4 ∷ 13 ∷ 14 ∷ 14 ∷ 14 ∷ 14 ∷ 17
    ∷ 0
    ∷ 1 ∷ 0 ∷ 1
    ∷ 2 ∷ 0 ∷ 0 ∷ 1 ∷ 4 ∷ 0 ∷ 0 ∷ 0 ∷ 0 ∷ 0 ∷ 0 ∷ 0 ∷ []

-- a user without roles repeats: make a channel of kind 2, and end
abbrev pub makers : List ℕ
makers =
    1 ∷ 1 ∷ 0 ∷ 2 ∷ 0 ∷ 1 ∷ 3 ∷ 13 ∷ 14 ∷ 14 ∷ 16 ∷ 16 ∷ 19
    ∷ 0
    ∷ 0 ∷ 0
    ∷ 1 ∷ 0 ∷ 1
    ∷ 2 ∷ 0 ∷ 0 ∷ 3 ∷ 2 ∷ 0 ∷ 0 ∷ 0 ∷ 0 ∷ []

abbrev pub run_cases : List RunCase
run_cases =
    -- fork, repeat, on, new, a meeting; the compare is unequal: the sixth choice halts with 19, and the state before it is written
    runs desk (1 ∷ 0 ∷ 2 ∷ 0 ∷ 4 ∷ 0 ∷ 3 ∷ 0 ∷ 1 ∷ 4 ∷ 3 ∷ 0 ∷ []) (refused 19 6)
    (5 ∷ 19 ∷ 4 ∷ 1 ∷ 1 ∷ 2 ∷ shows 1 3 1 1 0 ++ shows 2 7 1 1 0 ++ shows 1 5 1 1 385 ++ shows 2 10 3 2 2)
    -- without the compare: all five are done
    ∷ runs desk (1 ∷ 0 ∷ 2 ∷ 0 ∷ 4 ∷ 0 ∷ 3 ∷ 0 ∷ 1 ∷ 4 ∷ []) fine
    (5 ∷ 0 ∷ 4 ∷ 1 ∷ 1 ∷ 2 ∷ shows 1 3 1 1 0 ++ shows 2 7 1 1 0 ++ shows 1 5 1 1 385 ++ shows 2 10 3 2 2)
    -- after the meeting the receiver ends, third of four, then the sender: the two that are left keep their order
    ∷ runs desk (2 ∷ 0 ∷ 3 ∷ 0 ∷ 1 ∷ 0 ∷ 1 ∷ 3 ∷ 3 ∷ 0 ∷ 1 ∷ 0 ∷ []) fine (6 ∷ 0 ∷ 2 ∷ 0 ∷ shows 2 7 1 1 0 ++ shows 1 4 1 1 0)
    -- a fork with a partner, first of all: nothing is done
    ∷ runs desk (1 ∷ 2 ∷ []) (refused 18 1) (0 ∷ 18 ∷ 2 ∷ 0 ∷ shows 1 1 1 1 0 ++ shows 2 7 1 1 0)
    -- three threads, and the middle one ends
    ∷ runs three [] fine (0 ∷ 0 ∷ 3 ∷ 0 ∷ shows 1 1 0 0 0 ++ shows 2 2 1 1 0 ++ shows 3 3 1 1 0)
    ∷ runs three (2 ∷ 0 ∷ []) fine (1 ∷ 0 ∷ 2 ∷ 0 ∷ shows 1 1 0 0 0 ++ shows 3 3 1 1 0)
    -- 11: on of a role that is not assigned
    ∷ runs barred (2 ∷ 0 ∷ 1 ∷ 0 ∷ []) (refused 11 2) (halted_with 11)
    -- 12: off of a role that is not active, since the first choice put it off
    ∷ runs barred (2 ∷ 0 ∷ 2 ∷ 0 ∷ []) (refused 12 2) (halted_with 12)
    -- 13: the sender has no role; the receiver has none
    ∷ runs barred (2 ∷ 0 ∷ 4 ∷ 5 ∷ []) (refused 13 2) (halted_with 13)
    ∷ runs barred (2 ∷ 0 ∷ 3 ∷ 6 ∷ []) (refused 13 2) (halted_with 13)
    -- 13 before 19, where the channels differ: the sender has no role; the receiver may not receive on its own
    -- channel's kind
    ∷ runs barred (2 ∷ 0 ∷ 4 ∷ 8 ∷ []) (refused 13 2) (halted_with 13)
    ∷ runs barred (2 ∷ 0 ∷ 3 ∷ 7 ∷ []) (refused 13 2) (halted_with 13)
    -- 19 where both may and only the channels differ; with one channel both move
    ∷ runs barred (2 ∷ 0 ∷ 3 ∷ 8 ∷ []) (refused 19 2) (halted_with 19)
    ∷ runs barred (3 ∷ 5 ∷ []) fine
    (1 ∷ 0 ∷ 8 ∷ 0
    ∷ shows 1 1 1 1 0 ++ shows 2 3 2 1 0 ++ shows 1 7 1 1 0 ++ shows 1 8 0 0 0
    ++ shows 2 11 2 1 1 ++ shows 2 12 0 0 0 ++ shows 2 14 2 1 0 ++ shows 2 16 2 1 0)
    -- 20: a 65th thread, of a repeat and of a fork
    ∷ runs crowd (times 64 (1 ∷ 0 ∷ [])) (refused 20 64)
    (63 ∷ 20 ∷ 64 ∷ 0 ∷ shows 1 1 0 0 0 ++ times 63 (shows 1 2 0 0 0))
    ∷ runs crowd (times 63 (1 ∷ 0 ∷ []) ++ (2 ∷ 0 ∷ [])) (refused 20 64)
    (63 ∷ 20 ∷ 64 ∷ 0 ∷ shows 1 1 0 0 0 ++ times 63 (shows 1 2 0 0 0))
    -- a fork gives the 64th thread, the end of thread 2 makes room, and a repeat gives the 64th again
    ∷ runs crowd (times 62 (1 ∷ 0 ∷ []) ++ (2 ∷ 0 ∷ 2 ∷ 0 ∷ 1 ∷ 0 ∷ [])) fine
    (65 ∷ 0 ∷ 64 ∷ 0 ∷ shows 1 1 0 0 0 ++ times 61 (shows 1 2 0 0 0) ++ shows 1 4 0 0 0 ++ shows 1 2 0 0 0)
    -- 20: a 65th made channel, though of the threads that made the others none is left; each stands with its owner, 1,
    -- and its kind, 2
    ∷ runs makers (times 64 (1 ∷ 0 ∷ 2 ∷ 0 ∷ 2 ∷ 0 ∷ []) ++ (1 ∷ 0 ∷ 2 ∷ 0 ∷ [])) (refused 20 194)
    (193 ∷ 20 ∷ 2 ∷ 64 ∷ times 64 (1 ∷ 2 ∷ []) ++ shows 1 1 0 0 0 ++ shows 1 2 0 0 0)
    -- zero bytes: no threads, and a choice names none
    ∷ runs [] [] fine (0 ∷ 0 ∷ 0 ∷ 0 ∷ [])
    ∷ runs [] (1 ∷ 0 ∷ []) (refused 18 1) (0 ∷ 18 ∷ 0 ∷ 0 ∷ [])
    -- an odd list, too little room, and what is no file
    ∷ writes_nothing desk (1 ∷ []) 1802 (refused 17 0)
    ∷ writes_nothing desk [] 1799 (refused 17 0)
    ∷ writes_nothing (1 ∷ []) (1 ∷ 0 ∷ []) 1802 (refused 1 0)
    -- sender 1 and receiver 4; none at the start; a halted list, an odd one, what is no file, and zero bytes
    ∷ readies desk (1 ∷ 0 ∷ 2 ∷ 0 ∷ 4 ∷ 0 ∷ []) (record { number = 0; place = 0; sender = 1; receiver = 4 })
    ∷ readies desk [] (record { number = 0; place = 0; sender = 0; receiver = 0 })
    ∷ readies desk (1 ∷ 0 ∷ 2 ∷ 0 ∷ 4 ∷ 0 ∷ 1 ∷ 0 ∷ []) (record { number = 18; place = 4; sender = 0; receiver = 0 })
    ∷ readies desk (1 ∷ []) (record { number = 17; place = 0; sender = 0; receiver = 0 })
    ∷ readies (1 ∷ []) [] (record { number = 1; place = 0; sender = 0; receiver = 0 })
    ∷ readies [] [] (record { number = 0; place = 0; sender = 0; receiver = 0 })
    ∷ []
