-- The on steps among a file's nodes.
use Rattle.std.specs.Prelude.{ℕ, ◌+◌, cond, List, [], ◌∷◌, eqb}
use Rattle.format.specs.declared.Node.{Node}

-- how many nodes have tag 7
unfoldable pub on_nodes : List Node → ℕ
on_nodes [] = 0
on_nodes (n ∷ ns) = cond (eqb n.tag 7) 1 0 + on_nodes ns
