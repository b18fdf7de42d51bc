use Prim.Native.Nat.{◌/◌}
use native.Mathlib.Omega.{arith}
use Rattle.reasons.proofs.PartsWritten.{last_length, five}
use Rattle.reasons.proofs.digits.put_digits.Goals as goal

pub put_digit-b-requires : goal.put_digit-b-requires
put_digit-b-requires c = omega (arith, c.put_digit-a.ensures.0, last_length (c.args.n / 10 / 10 / 10 / 10))

pub put_digit-c-requires : goal.put_digit-c-requires
put_digit-c-requires c = omega (arith, c.put_digit-b.ensures.0, c.put_digit-a.ensures.0, last_length (c.args.n / 10 / 10 / 10), last_length (c.args.n / 10 / 10 / 10 / 10))

pub put_digit-d-requires : goal.put_digit-d-requires
put_digit-d-requires c = omega (arith, c.put_digit-c.ensures.0, c.put_digit-b.ensures.0, c.put_digit-a.ensures.0, last_length (c.args.n / 10 / 10), last_length (c.args.n / 10 / 10 / 10), last_length (c.args.n / 10 / 10 / 10 / 10))

pub put_digit-requires : goal.put_digit-requires
put_digit-requires c = omega (arith, c.put_digit-d.ensures.0, c.put_digit-c.ensures.0, c.put_digit-b.ensures.0, c.put_digit-a.ensures.0, last_length (c.args.n / 10), last_length (c.args.n / 10 / 10), last_length (c.args.n / 10 / 10 / 10), last_length (c.args.n / 10 / 10 / 10 / 10))

pub returns : goal.returns
returns c =
    five c.args.out.now c.put_digit-a.new.out c.put_digit-b.new.out c.put_digit-c.new.out c.put_digit-d.new.out c.put_digit.new.out
    c.args.at c.put_digit-a.result c.put_digit-b.result c.put_digit-c.result c.put_digit-d.result c.put_digit.result c.args.n c.requires
    c.put_digit-a.ensures c.put_digit-b.ensures c.put_digit-c.ensures c.put_digit-d.ensures c.put_digit.ensures
