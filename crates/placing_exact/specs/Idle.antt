-- Idle holding: the nodes of tags 0 to 4 (end, fork, repeat, new, compare) that are reached with a role, which none of them needs.
use Rattle.std.specs.Prelude.{ℕ, ◌+◌, cond, List, [], ◌∷◌, eqb, ltb}
use Rattle.masks.specs.Mask.{with, without}
use Rattle.format.specs.declared.Node.{Node}
use Rattle.reading_exact.specs.Tree.{Step, repeat, new, compare, receive, send, Tree, end, fork, step, switch, on, off}
use Rattle.reading_exact.specs.File.{Routine, File}
use Rattle.placing_exact.specs.Placement.{graft}

-- 1 where an active set has a role, and where a state is one
abbrev pub some_role : ℕ → ℕ
some_role m = cond (eqb m 0) 0 1

-- a step reached with the active set m: receive and send have the tags 5 and 6
abbrev pub idle_step : ℕ → Step → ℕ
idle_step m repeat = some_role m
idle_step m (new k) = some_role m
idle_step m (compare a b) = some_role m
idle_step m (receive c) = 0
idle_step m (send c v) = 0

-- a tree reached with the active set m: its nodes of tags 0 to 4 that are reached with a role in rule 5's active set, each counted once; on and off change the set and don't count
unfoldable pub idle_nodes : ℕ → Tree → ℕ
idle_nodes m end = some_role m
idle_nodes m (fork a b) = some_role m + (idle_nodes m a + idle_nodes m b)
idle_nodes m (step s t) = idle_step m s + idle_nodes m t
idle_nodes m (switch on r t) = idle_nodes (with m r) t
idle_nodes m (switch off r t) = idle_nodes (without m r) t

-- over all sessions: the active set begins as the session's mask
unfoldable pub idle_nodes_of : List Routine → ℕ
idle_nodes_of [] = 0
idle_nodes_of (s ∷ ss) = idle_nodes s.mask s.tree + idle_nodes_of ss

-- of a placement of a file
abbrev pub idle_in : File → List Tree → ℕ
idle_in F ts = idle_nodes_of (graft F ts).sessions

-- by words: of nodes and their states, both in node order, the nodes of tags 0 to 4 in a state other than 0
unfoldable pub idle_among : List Node → List ℕ → ℕ
idle_among [] ss = 0
idle_among (n ∷ ns) [] = 0
idle_among (n ∷ ns) (s ∷ ss) = cond (ltb 4 n.tag) 0 (some_role s) + idle_among ns ss
