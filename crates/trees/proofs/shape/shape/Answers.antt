use mathlib.Core.Path.{sym, ap, ◌∙◌}
use lib.Seq.{length-take-le}
use lib.ListN.{replicate}
use Prim.Native.Nat.{◌+◌}
use native.Mathlib.Omega.{arith}
use borrow.Author.Tests.{eqb-true}
use Rattle.trees.proofs.SoundExact.{answer_quiet}
use Rattle.trees.proofs.shape.shape.Goals as goal

pub returns-then-sound_shape : goal.returns-then-sound_shape
returns-then-sound_shape c = sym (answer_quiet _ (eqb-true _ 0 (sym c.sound_shape.ensures ∙ c.if-sound_shape.true)))

pub slice_bounds-shape_by-end : goal.slice_bounds-shape_by-end
slice_bounds-shape_by-end c = sym (length-take-le (c.from-n.result + 2) (replicate 1026 0) (omega arith))

pub shape_by-requires : goal.shape_by-requires
shape_by-requires c =
    (c.requires, length-take-le (c.from-n.result + 2) (replicate 1026 0) (omega arith) ∙ ap (λ k. k + 2) c.from-n.ensures)
