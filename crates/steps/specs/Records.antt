-- Threads as words in a table, twelve words each: user, node, mask, eight variables, and one that is not used.
use Rattle.std.specs.Prelude.{ℕ, zero, suc, ◌+◌, ◌*◌, List, [], ◌∷◌, get_or, set}
use Rattle.steps.specs.declared.Thread.{Thread}

abbrev pub record_words : ℕ
record_words = 12

-- a table of 64 threads
abbrev pub thread_table_words : ℕ
thread_table_words = 768

-- where the words of the thread of an index begin, from 0 on
abbrev pub record_at : ℕ → ℕ
record_at i = 12 * i

-- the thread whose words stand from p on
abbrev pub thread_in : List ℕ → ℕ → Thread
thread_in w p = record {
  user = get_or w p 0;
  node = get_or w (p + 1) 0;
  mask = get_or w (p + 2) 0;
  vars = get_or w (p + 3) 0 ∷ get_or w (p + 4) 0 ∷ get_or w (p + 5) 0 ∷ get_or w (p + 6) 0 ∷ get_or w (p + 7) 0 ∷ get_or w (p + 8) 0 ∷ get_or w (p + 9) 0 ∷ get_or w (p + 10) 0 ∷ [];
}

-- so many threads from p on
unfoldable pub threads_in : List ℕ → ℕ → ℕ → List Thread
threads_in w p zero = []
threads_in w p (suc k) = thread_in w p ∷ threads_in w (p + 12) k

-- a table with another thread from p on
abbrev pub stored : List ℕ → ℕ → Thread → List ℕ
stored w p t =
    set (set (set (set (set (set (set (set (set (set (set w p t.user) (p + 1) t.node) (p + 2) t.mask) (p + 3) (get_or t.vars 0 0)) (p + 4) (get_or t.vars 1 0))
    (p + 5) (get_or t.vars 2 0)) (p + 6) (get_or t.vars 3 0)) (p + 7) (get_or t.vars 4 0)) (p + 8) (get_or t.vars 5 0)) (p + 9) (get_or t.vars 6 0)) (p + 10) (get_or t.vars 7 0)
