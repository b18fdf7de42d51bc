use Prim.Native.Nat.{ℕ, ◌+◌, ◌*◌}
use mathlib.Core.Path.{ap, ◌∙◌}
use mathlib.Core.List.{List}
use native.Mathlib.Omega.{arith}
use lib.ListN.{get_or, set}
use Rattle.format.proofs.WriteLaws.{copy_turn, copied_words}
use Rattle.merging.proofs.writers.move_words.Goals as goal

pub overflow_mul-out : goal.overflow_mul-out
overflow_mul-out c = omega (arith, c.requires.0 (omega arith))

pub overflow_add-out : goal.overflow_add-out
overflow_add-out c = omega (arith, c.requires.0 (omega arith))

pub bounds-file-from : goal.bounds-file-from
bounds-file-from c = omega (arith, c.requires.0 (omega arith))

pub loop-i-preserved : goal.loop-i-preserved
loop-i-preserved c =
    let a = c.args in
    let l = c.loop-i in
    ap (λ (x : List ℕ). set x (2 * a.at + l.i) (get_or a.file.now (2 * a.from + l.i) 0)) l.invariant
    ∙ copy_turn a.file.now a.out.now (2 * a.from) (2 * a.at) l.i (omega (arith, c.requires.0 (omega arith))) (omega arith)

pub returns : goal.returns
returns c =
    let a = c.args in
    let l = c.loop-i in
    l.invariant
    ∙ copied_words a.file.now a.out.now a.from a.at a.count l.i (λ x. (c.type_inv.file x).fits) (omega arith) c.requires.0 (omega arith)
