-- What stands before a node, one at a time.
use Rattle.std.specs.Prelude.{ℕ, List, [], ◌∷◌, cond, eqb}
use Rattle.format.specs.declared.Node.{Node}
use Rattle.groups.specs.Groups.{switch_to}

-- the node that switches a role: none where the state is the parent's, and none for no role
abbrev pub switches : ℕ → ℕ → ℕ → ℕ → List Node
switches tag from to role = cond (eqb from to) [] (cond (eqb role 0) [] (switch_to tag role ∷ []))
