use Prim.Native.Nat.{ℕ, ◌+◌}
use mathlib.Core.Path.{◌≡◌, ap, ◌∙◌}
use mathlib.Core.List.{List}
use lib.ListN.{length, take}
use lib.Seq.{sets}
use Rattle.streams.specs.Line.{decimal}
use Rattle.streams.proofs.LineLaws.{fewest_few, decimal_by}
use native.Mathlib.Omega.{arith}
use Rattle.streams.proofs.line.put_decimal.Goals as goal

pub put_text-requires : goal.put_text-requires
put_text-requires c =
    let d = c.decimal-digits in
    omega (arith, c.from.ensures, fewest_few c.from.result d.result (omega (arith, c.from.ensures)) d.ensures.len, d.ensures.in_bounds)

pub returns : goal.returns
returns c =
    let a = c.args in
    let d = c.decimal-digits in
    let t = c.put_text in
    let same : take d.result d.new.out ≡ decimal a.number =
    d.ensures.digits ∙ decimal_by c.from.result d.result (omega (arith, c.from.ensures)) d.ensures.len ∙ ap decimal c.from.ensures in
    (t.ensures.0 ∙ ap (sets a.line.now a.at) same, t.ensures.1 ∙ ap (λ (l : List ℕ). a.at + length l) same)
