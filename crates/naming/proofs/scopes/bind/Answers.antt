use Prim.Native.Nat.{◌%◌}
use native.Mathlib.Omega.{arith}
use Rattle.naming.proofs.ScopeLaws.{digit_low, digit_kept, binds, binds_none}
use Rattle.naming.proofs.scopes.bind.Goals as goal

pub overflow_add-result-then-bound-lt8-2 : goal.overflow_add-result-then-bound-lt8-2
overflow_add-result-then-bound-lt8-2 c =
    let k = c.args.kind.0 % 64 in
    let b = c.bound_in-bound.result in
    omega (arith, digit_low k b (omega arith) c.if-bound-lt8.true, digit_kept k b (omega arith) c.if-bound-lt8.true)

pub returns-then-bound-lt8 : goal.returns-then-bound-lt8
returns-then-bound-lt8 c =
    let a = c.args in
    let b = c.bound_in-bound.result in
    binds a.w a.kind.0 b _ c.bound_in-bound.ensures c.if-bound-lt8.true (digit_kept (a.kind.0 % 64) b (omega arith) c.if-bound-lt8.true)

pub returns : goal.returns
returns c =
    let a = c.args in
    binds_none a.w a.kind.0 c.bound_in-bound.result c.bound_in-bound.ensures c.if-bound-lt8.false
