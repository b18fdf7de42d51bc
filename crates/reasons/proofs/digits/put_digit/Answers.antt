use mathlib.Core.Path.{sym}
use Prim.Native.Nat.{◌+◌, ◌%◌}
use native.Mathlib.Omega.{arith}
use borrow.Author.Rules.{rules}
use Rattle.reasons.specs.Reasons.{last_digit}
use Rattle.reasons.proofs.PartsWritten.{put_nil, put_one}
use borrow.Author.Tests.{eq-eqb, ne_eqb}
use Rattle.reasons.proofs.digits.put_digit.Goals as goal

pub returns-then-n-eq0 : goal.returns-then-n-eq0
unfolding last_digit
returns-then-n-eq0 c =
    let a = c.args in
    rw (eq-eqb a.n 0 c.if-n-eq0.true) (omega arith, sym (put_nil a.out.now a.at))

pub returns : goal.returns
unfolding last_digit
returns c =
    let a = c.args in
    rw (ne_eqb a.n 0 c.if-n-eq0.false) (omega arith, put_one a.out.now a.at (48 + a.n % 10) (search rules))
