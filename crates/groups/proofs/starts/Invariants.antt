use lib.Seq.{sets}
use Rattle.groups.specs.Groups.{starts_from, turns_in}
use Rattle.groups.proofs.WriteLaws.{Starting}
use Rattle.groups.proofs.starts.Given as goal

abbrev pub invariant-loop-i : goal.invariant-loop-i
invariant-loop-i l = Starting l.turns l.fn.nodes (sets l.initial.starts 1 (starts_from 1 (turns_in l.turns l.fn.nodes))) l.i l.at l.ons l.starts
