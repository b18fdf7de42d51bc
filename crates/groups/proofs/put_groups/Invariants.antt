use Prim.Native.Nat.{◌+◌, ◌≤◌}
use mathlib.Core.Path.{◌≡◌}
use lib.ListN.{length}
use Rattle.format.specs.Contents.{contents_at}
use Rattle.format.specs.Writing.{nodes_put}
use Rattle.groups.specs.Groups.{sizes_of, groups_from, turns_in}
use Rattle.groups.proofs.WriteLaws.{turns_at, groups_at}
use Rattle.groups.proofs.put_groups.Given as goal

abbrev pub invariant-loop-n : goal.invariant-loop-n
invariant-loop-n l = (1 ≤ l.at) × (length l.out ≡ length l.initial.out)
    × (l.at + sizes_of (turns_at l.turns l.n l.head.count.nodes) ≡ 1 + sizes_of (turns_in l.turns l.head.count.nodes))
    × (nodes_put l.whole l.at (groups_at (contents_at l.file l.head).nodes l.head.count.nodes l.turns l.starts l.n) l.out
    ≡ nodes_put l.whole 1 (groups_from l.starts (contents_at l.file l.head).nodes (turns_in l.turns l.head.count.nodes)) l.initial.out)
