-- What is asked of a node by its number, as one number: the session's user, how many variables are bound, their kinds, and of a receive the kind of its channel.
use Rattle.std.specs.Prelude.{ℕ, ◌+◌, ◌*◌, ◌/◌, ◌%◌, ◌^◌, cond, List, [], ◌∷◌, map, eqb, ltb, get_or}
use Rattle.format.specs.Contents.{Contents}
use Rattle.format.specs.declared.Node.{Node}
use Rattle.rules.specs.Schema.{Schema, schema_of}
use Rattle.rules.specs.Names.{Bound, kind_of}
use Rattle.rules.specs.Rules.{Context}
use Rattle.rules.specs.Checking.{reached_in, rightly}

abbrev pub user_in : ℕ → ℕ
user_in w = w % 64

abbrev pub bound_in : ℕ → ℕ
bound_in w = w / 64 % 16

-- the kind of the variable of an index, from 0 on
abbrev pub kind_at : ℕ → ℕ → ℕ
kind_at w i = w / 2 ^ (10 + 6 * i) % 64

-- with one variable more; none is added to eight
unfoldable pub bind_scope : ℕ → ℕ → ℕ
bind_scope w k = cond (ltb (bound_in w) 8) (w % 2 ^ 58 + 64 + k % 64 * 2 ^ (10 + 6 * bound_in w)) w

-- with the variables of a list more, in order
unfoldable pub scope_from : ℕ → List Bound → ℕ
scope_from w [] = w
scope_from w (b ∷ bs) = scope_from (bind_scope w b.sort) bs

-- what a context is, as one number
unfoldable pub scope_of : Context → ℕ
scope_of c = scope_from (c.user % 64) c.vars

-- the kind of a receive's channel stands above them; 0 for any other node
abbrev pub awaited_in : ℕ → ℕ
awaited_in w = w / 2 ^ 58 % 64

unfoldable pub marked : ℕ → ℕ → ℕ
marked w k = w % 2 ^ 58 + k % 64 * 2 ^ 58

-- by rule 1
abbrev pub awaited : Schema → Context → Node → ℕ
awaited D c n = cond (eqb n.tag 5) (kind_of D c.vars n.f1) 0

-- a node in its context
unfoldable pub node_scope : Schema → Context → Node → ℕ
node_scope D c n = marked (scope_of c) (awaited D c n)

-- of the nodes in order, as far as names and kinds are right
unfoldable pub scopes_in : Contents → List ℕ
scopes_in C = map (λ (r : Context × Node). node_scope (schema_of C) r.0 r.1) (rightly (schema_of C) (reached_in C))

-- the kind that a thread at a node waits for, by a table of these numbers; and by those of a file
abbrev pub awaited_by : List ℕ → ℕ → ℕ
awaited_by table j = awaited_in (get_or table j 0)

abbrev pub awaits : Contents → ℕ → ℕ
awaits C = awaited_by (0 ∷ scopes_in C)
