use Prim.Native.Nat.{◌+◌, ◌≤◌}
use mathlib.Core.Path.{◌≡◌}
use Rattle.groups.specs.Groups.{ons_of}
use Rattle.sheets.proofs.MostLaws.{part}
use Rattle.sheets.proofs.most.ons_between.Given as goal

abbrev pub invariant-loop-i : goal.invariant-loop-i
invariant-loop-i l = (l.ons + l.at ≤ l.i) × (l.ons + ons_of (part l.turns l.i l.end) ≡ ons_of (part l.turns l.at l.end))
