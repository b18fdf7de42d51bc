use native.Mathlib.Omega.{arith}
use Prim.Native.Nat.{◌+◌, ◌*◌}
use Rattle.running.proofs.PutLaws.{made_turn, made_end}
use borrow.Author.Rules.{rules}
use Rattle.running.proofs.out.put_made.Goals as goal

pub loop-i-preserved : goal.loop-i-preserved
loop-i-preserved c =
    let a = c.args in
    let l = c.loop-i in
    let it = c.made_at-it in
    let g = c.put_two in (
      search rules,
      made_turn a.beside.now l.out g.new.out _ a.made l.i it.result (omega arith) it.ensures g.ensures l.invariant.1,
    )

pub returns : goal.returns
returns c =
    let a = c.args in
    let l = c.loop-i in
    made_end a.beside.now l.out _ a.made l.i (2 * (4 + 2 * l.i)) (omega arith) l.invariant.1
