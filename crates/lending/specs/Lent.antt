-- The live desk's own list: records of threads, and beside them the thread count, the number of made channels, owner and kind of 64 made channels, and the totals of the kinds 1 to 32.
use Rattle.std.specs.Prelude.{ℕ, ◌+◌, ◌-◌, Bool, true, false, cond, ◌&&◌, ◌||◌, List, [], ◌∷◌, eqb, leb, ltb, length, get_or, take}
use Rattle.std.proofs.lemmas.List.Edits.{sets}
use Rattle.masks.specs.Mask.{within}
use Rattle.format.specs.Answers.{fine, refused, or_else}
use Rattle.format.specs.Contents.{Contents, no_node, in_count, contents_of}
use Rattle.format.specs.declared.Verdict.{Verdict}
use Rattle.rules.specs.Schema.{Schema, schema_of}
use Rattle.rules.specs.Names.{Bound, is_user, is_channel}
use Rattle.rules.specs.Rules.{Context}
use Rattle.rules.specs.Checking.{reached_in}
use Rattle.checking.specs.Check.{reading_names}
use Rattle.steps.specs.declared.Thread.{Thread}
use Rattle.steps.specs.declared.Made.{Made}
use Rattle.steps.specs.Choice.{clinic_of, kind_held, State, Chosen, halts, goes, choice}
use Rattle.checking_exact.specs.Faults.{nowhere}
use Rattle.naming.specs.Scopes.{awaits}
use Rattle.steps.specs.Beside.{thread_count, made_count, made_of, beside_words, beside_of, first_total, totals_in, totals_for}

-- the context in which a node is reached
abbrev pub context_at : Contents → ℕ → Context
context_at C j = (get_or (reached_in C) (j - 1) (nowhere, no_node)).0

-- a value names a user, a channel or a lent made channel
unfoldable pub is_value : Schema → List Made → ℕ → Bool
is_value D made v = is_user D v || (is_channel D v || (ltb 384 v && leb v (384 + length made)))

-- a variable of the kind that rule 1 gives it, 0 where none is bound
unfoldable pub vars_fit : Schema → List Made → List Bound → List ℕ → Bool
vars_fit D made [] [] = true
vars_fit D made (b ∷ bs) [] = false
vars_fit D made [] (v ∷ vs) = eqb v 0 && vars_fit D made [] vs
vars_fit D made (b ∷ bs) (v ∷ vs) = (is_value D made v && eqb (kind_held D made v) b.sort) && vars_fit D made bs vs

-- a counted thread: its node in count, its user that of the node's session, every role in its mask assigned to that user, its variables
unfoldable pub thread_fits : Contents → List Made → Thread → Bool
thread_fits C made t =
    let c : Context = context_at C t.node in
    in_count (length C.nodes) t.node
    && (eqb t.user c.user && (within t.mask ((schema_of C).assigned t.user) && vars_fit (schema_of C) made c.vars t.vars))

-- a made channel's owner and kind in count
unfoldable pub made_fits : Schema → Made → Bool
made_fits D m = in_count D.users m.owner && in_count D.kinds m.kind.0

unfoldable pub every : {A : Type 0} → (A → Bool) → List A → Bool
every test [] = true
every test (x ∷ xs) = test x && every test xs

-- the state that is lent: records past the count are no part of it, nor are made channels past their number
abbrev pub state_of : List Thread → List ℕ → State
state_of l b = record { threads = take (thread_count b) l; made = made_of b }

-- as many words as stand beside 64 records, and no count above 64
abbrev pub sizes_fit : ℕ → List ℕ → Bool
sizes_fit records b = eqb (length b) beside_words && ((eqb records 64 && leb (thread_count b) 64) && leb (made_count b) 64)

-- two lists of words are the same
unfoldable pub same : List ℕ → List ℕ → Bool
same [] [] = true
same [] (y ∷ ys) = false
same (x ∷ xs) [] = false
same (x ∷ xs) (y ∷ ys) = eqb x y && same xs ys

-- the totals beside the list are those of its threads, of all kinds
abbrev pub totals_fit : Contents → List Thread → List ℕ → Bool
totals_fit C ts b = same (totals_in b) (totals_for (awaits C) ts)

-- what may be lent with a file that 1 to 10 let through
unfoldable pub may_be_lent : Contents → List Thread → List ℕ → Bool
may_be_lent C l b =
    sizes_fit (length l) b
    && (every (made_fits (schema_of C)) (state_of l b).made && (every (thread_fits C (state_of l b).made) (state_of l b).threads && totals_fit C (state_of l b).threads b))

-- what refuses before the choice: the file by 1 to 10, then what is lent, 18 at place 0
unfoldable pub lending : List ℕ → List Thread → List ℕ → Verdict
lending f l b = or_else (reading_names f) (cond (may_be_lent (contents_of f) l b) fine (refused 18 0))

-- the choice itself has place 1
abbrev pub chosen_answer : Chosen → Verdict
chosen_answer (halts n) = refused n 1
chosen_answer (goes s) = fine

abbrev pub chosen_in : List ℕ → List Thread → List ℕ → ℕ → ℕ → Chosen
chosen_in f l b i p = choice (clinic_of (contents_of f)) (state_of l b) i p

unfoldable pub choosing : List ℕ → List Thread → List ℕ → ℕ → ℕ → Verdict
choosing f l b i p = or_else (lending f l b) (chosen_answer (chosen_in f l b i p))

-- the list after a choice, and the words beside it: a refused choice leaves them unchanged; records past the count after the choice keep what they
-- held, and so do the words between the made channels and the totals
abbrev pub records_after : List Thread → Chosen → List Thread
records_after l (halts n) = l
records_after l (goes s) = sets l 0 s.threads

abbrev pub beside_after : Contents → List ℕ → Chosen → List ℕ
beside_after C b (halts n) = b
beside_after C b (goes s) = sets (sets b 0 (beside_of (length s.threads) s.made)) first_total (totals_for (awaits C) s.threads)

unfoldable pub records_over : List ℕ → List Thread → List ℕ → ℕ → ℕ → List Thread
records_over f l b i p = cond (eqb (lending f l b).number 0) (records_after l (chosen_in f l b i p)) l

unfoldable pub beside_over : List ℕ → List Thread → List ℕ → ℕ → ℕ → List ℕ
beside_over f l b i p = cond (eqb (lending f l b).number 0) (beside_after (contents_of f) b (chosen_in f l b i p)) b
