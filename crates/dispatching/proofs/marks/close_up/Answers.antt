use Prim.Native.Nat.{◌*◌, ◌-◌, ◌%◌, ◌^◌, ◌<◌}
use mathlib.Core.Path.{◌≡◌, sym, subst}
use native.Mathlib.Omega.{arith}
use lib.Pow.{pow_pos}
use Rattle.masks.proofs.Bits.{one_bit}
use Rattle.dispatching.proofs.MarkLaws.{close_form}
use Rattle.dispatching.proofs.marks.close_up.Goals as goal

pub nonzero_rem-result : goal.nonzero_rem-result
nonzero_rem-result c =
    let e : 1 * 2 ^ (c.args.p - 1) % 2 ^ 64 ≡ 2 ^ (c.args.p - 1) = one_bit 64 (c.args.p - 1) (omega arith) in
    subst (λ x. 0 < x) (sym e) (pow_pos (c.args.p - 1))

pub returns : goal.returns
returns c = close_form c.args.moved c.args.p (omega arith) (omega arith) (omega arith)
