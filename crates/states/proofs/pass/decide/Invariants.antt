use Prim.Native.Nat.{◌+◌, ◌-◌, ◌≤◌}
use mathlib.Core.Path.{◌≡◌}
use mathlib.Core.List.{◌∷◌, ◌++◌}
use lib.ListN.{length, get_or, drop}
use Rattle.format.specs.Contents.{contents_at}
use Rattle.format.specs.Stacks.{stacked}
use Rattle.states.specs.Kept.{no_saving, savings, kept_all}
use Rattle.states.proofs.PassLaws.{Same, labels_from}
use Rattle.states.proofs.pass.decide.Given as goal

abbrev pub invariant-loop-i : goal.invariant-loop-i
invariant-loop-i l = (l.depth ≤ l.head.count.nodes - l.i) × (length l.stack ≡ length l.initial.stack) × (get_or l.stack 0 no_saving ≡ no_saving) × (length l.words ≡ length l.initial.words)
    × Same no_saving (l.row ∷ stacked no_saving l.stack (l.depth + 1)) (savings (labels_from (contents_at l.file l.head).nodes l.roles l.i))
    × (drop l.i l.words ≡ kept_all (labels_from (contents_at l.file l.head).nodes l.roles l.i) ++ drop l.head.count.nodes l.initial.words)
