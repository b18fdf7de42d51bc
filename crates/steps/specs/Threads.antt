-- Threads: what they hold, and a thread that a step has advanced.
use Rattle.std.specs.Prelude.{ℕ, suc, ◌+◌, ◌-◌, cond, List, [], ◌∷◌, eqb, ltb, get_or, set}
use Rattle.steps.specs.declared.Thread.{Thread}
use Rattle.steps.specs.declared.Made.{Made}

abbrev pub zeros : List ℕ
zeros = 0 ∷ 0 ∷ 0 ∷ 0 ∷ 0 ∷ 0 ∷ 0 ∷ 0 ∷ []

abbrev pub no_thread : Thread
no_thread = record { user = 0; node = 0; mask = 0; vars = zeros }

abbrev pub no_made : Made
no_made = record { owner = 0; kind = record { 0 = 0 } }

-- what an operand stands for in a thread: a user or a channel for itself, 512 to 519 for the variable's value
unfoldable pub value : Thread → ℕ → ℕ
value t x = cond (ltb x 512) x (get_or t.vars (x - 512) 0)

-- the variable that a binder takes: the first of the eight that is 0
unfoldable pub first_free : List ℕ → ℕ
first_free [] = 0
first_free (v ∷ vs) = cond (eqb v 0) 0 (suc (first_free vs))

-- that same thread with its node, mask or variables advanced
abbrev pub moved_to : Thread → ℕ → Thread
moved_to t j = record { user = t.user; node = j; mask = t.mask; vars = t.vars }

abbrev pub onward : Thread → Thread
onward t = moved_to t (t.node + 1)

abbrev pub masked : Thread → ℕ → Thread
masked t m = record { user = t.user; node = t.node + 1; mask = m; vars = t.vars }

abbrev pub bound : Thread → ℕ → Thread
bound t v = record { user = t.user; node = t.node + 1; mask = t.mask; vars = set t.vars (first_free t.vars) v }
