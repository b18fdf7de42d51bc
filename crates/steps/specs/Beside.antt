-- The words beside a list of threads: how many threads there are, how many channels are made, owner and kind of 64 made channels, then for each of the kinds 1 to 32 how many
-- threads wait for it, which is to stand at a receive on a channel of that kind.
use Rattle.std.specs.Prelude.{ℕ, zero, suc, ◌+◌, ◌*◌, ◌-◌, ◌%◌, cond, List, [], ◌∷◌, eqb, length, get_or, set, take, drop, replicate}
use Rattle.std.proofs.lemmas.List.Edits.{sets}
use Rattle.format.specs.Contents.{in_count}
use Rattle.steps.specs.declared.Thread.{Thread}
use Rattle.steps.specs.declared.Made.{Made}
use Rattle.steps.specs.declared.Outcome.{Outcome}
use Rattle.steps.specs.declared.Outcome.TheVariants.{Refused, Moves, Adds, Makes, Ends, Meets}

abbrev pub beside_words : ℕ
beside_words = 162

-- the counts stand first; so many of the words are used where so many channels are made
abbrev pub count_words : ℕ
count_words = 2

abbrev pub used_words : ℕ → ℕ
used_words made = count_words + 2 * made

abbrev pub thread_count : List ℕ → ℕ
thread_count b = get_or b 0 0

abbrev pub made_count : List ℕ → ℕ
made_count b = get_or b 1 0

-- the made channel whose words stand from p on
abbrev pub made_at : List ℕ → ℕ → Made
made_at b p = record { owner = get_or b p 0; kind = record { 0 = get_or b (p + 1) 0 } }

-- so many made channels from p on
unfoldable pub made_in : List ℕ → ℕ → ℕ → List Made
made_in b p zero = []
made_in b p (suc k) = made_at b p ∷ made_in b (p + 2) k

-- the first of them, so many; and all
abbrev pub made_to : List ℕ → ℕ → List Made
made_to b n = made_in b 2 n

abbrev pub made_of : List ℕ → List Made
made_of b = made_to b (made_count b)

-- per made channel owner and kind; and all words beside so many threads and these made channels
unfoldable pub made_words : List Made → List ℕ
made_words [] = []
made_words (m ∷ ms) = m.owner ∷ m.kind.0 ∷ made_words ms

abbrev pub beside_of : ℕ → List Made → List ℕ
beside_of threads made = threads ∷ length made ∷ made_words made

-- how many kinds have a total, where the first stands, and where that of kind k does
abbrev pub total_words : ℕ
total_words = 32

abbrev pub first_total : ℕ
first_total = 130

abbrev pub total_at : ℕ → ℕ
total_at k = 129 + k

-- all totals; and that of kind k, 0 for another kind than 1 to 32 and beside another number of words
abbrev pub totals_in : List ℕ → List ℕ
totals_in b = take total_words (drop first_total b)

unfoldable pub total_in : List ℕ → ℕ → ℕ
total_in b k = cond (in_count total_words k) (cond (eqb (length b) beside_words) (get_or b (total_at k) 0) 0) 0

-- with one more thread that waits for a kind, and one less; a total is a word, and what is no kind has none
unfoldable pub one_more : List ℕ → ℕ → List ℕ
one_more b k = cond (in_count total_words k) (set b (total_at k) ((get_or b (total_at k) 0 + 1) % 65536)) b

unfoldable pub one_less : List ℕ → ℕ → List ℕ
one_less b k = cond (in_count total_words k) (set b (total_at k) ((get_or b (total_at k) 0 + 65535) % 65536)) b

-- with these threads counted among those that wait, by the kind that a thread at each node waits for
unfoldable pub counted : (ℕ → ℕ) → List ℕ → List Thread → List ℕ
counted kind b [] = b
counted kind b (t ∷ ts) = counted kind (one_more b (kind t.node)) ts

-- how many of the threads wait for kind k
unfoldable pub waiting : (ℕ → ℕ) → ℕ → List Thread → ℕ
waiting kind k [] = 0
waiting kind k (t ∷ ts) = cond (eqb (kind t.node) k) 1 0 + waiting kind k ts

-- for each of the kinds k, k + 1, .., so many
unfoldable pub waiting_from : (ℕ → ℕ) → List Thread → ℕ → ℕ → List ℕ
waiting_from kind ts k zero = []
waiting_from kind ts k (suc n) = waiting kind k ts ∷ waiting_from kind ts (suc k) n

abbrev pub totals_for : (ℕ → ℕ) → List Thread → List ℕ
totals_for kind ts = waiting_from kind ts 1 total_words

-- with no thread that waits
unfoldable pub cleared : List ℕ → List ℕ
cleared b = sets b first_total (replicate total_words 0)

-- with so many threads, no channel made and no thread that waits; with another number of threads; with one made channel more
abbrev pub start_words : List ℕ → ℕ → List ℕ
start_words b n = cleared (set (set b 0 n) 1 0)

abbrev pub with_threads : List ℕ → ℕ → List ℕ
with_threads b n = set b 0 n

abbrev pub one_made : List ℕ → Made → List ℕ
one_made b m = set (set (set b (2 * made_count b + 2) m.owner) (2 * made_count b + 3) m.kind.0) 1 (made_count b + 1)

-- with the threads of a start
abbrev pub start_beside : (ℕ → ℕ) → List ℕ → List Thread → List ℕ
start_beside kind b ts = counted kind (start_words b (length ts)) ts

-- what an outcome leaves of the counts and the made channels
abbrev pub counts_by : List ℕ → Outcome → List ℕ
counts_by b (Refused n) = b
counts_by b (Moves t) = b
counts_by b (Adds q) = with_threads b (thread_count b + 1)
counts_by b (Makes q) = one_made b q.made
counts_by b Ends = with_threads b (thread_count b - 1)
counts_by b (Meets q) = b

-- and of the totals: a lone step leaves no receive, a meeting the receiver's, which is the node before the one it reaches; each thread may reach one
abbrev pub totals_by : (ℕ → ℕ) → List ℕ → Outcome → List ℕ
totals_by kind b (Refused n) = b
totals_by kind b (Moves t) = one_more b (kind t.node)
totals_by kind b (Adds q) = one_more (one_more b (kind q.first.node)) (kind q.second.node)
totals_by kind b (Makes q) = one_more b (kind q.thread.node)
totals_by kind b Ends = b
totals_by kind b (Meets q) = one_more (one_more (one_less b (kind (q.second.node - 1))) (kind q.first.node)) (kind q.second.node)

-- and of all
abbrev pub beside_by : (ℕ → ℕ) → List ℕ → Outcome → List ℕ
beside_by kind b o = totals_by kind (counts_by b o) o
