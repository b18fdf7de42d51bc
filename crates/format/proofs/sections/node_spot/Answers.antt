use Prim.Native.Nat.{◌+◌}
use mathlib.Core.Path.{ap, ◌∙◌}
use native.Mathlib.Omega.{arith}
use Rattle.format.specs.Sections.{spot}
use Rattle.format.proofs.SpotLaws.{product, spot_summed}
use Rattle.format.proofs.sections.node_spot.Goals as goal

pub overflow_mul-result : goal.overflow_mul-result
overflow_mul-result c = omega (arith, product c.apart_in.result c.from-2.result 3 65535 c.apart_in.ensures.1 (omega arith))

pub overflow_add-result : goal.overflow_add-result
overflow_add-result c = omega (arith, product c.apart_in.result c.from-2.result 3 65535 c.apart_in.ensures.1 (omega arith))

pub overflow_mul-result-2 : goal.overflow_mul-result-2
overflow_mul-result-2 c = omega (arith, product c.between_in.result c.args.j 65535 2 (omega arith) c.requires.1)

pub overflow_add-result-2 : goal.overflow_add-result-2
overflow_add-result-2 c =
    omega (
      arith,
      product c.apart_in.result c.from-2.result 3 65535 c.apart_in.ensures.1 (omega arith),
      product c.between_in.result c.args.j 65535 2 (omega arith) c.requires.1,
    )

pub returns : goal.returns
returns c =
    let a = c.args in
    let place = spot_summed a.head.version a.head.count.nodes a.n a.j c.from.result c.apart_in.result c.from-2.result c.between_in.result
    c.apart_in.ensures.0 c.from-2.ensures c.between_in.ensures.0 in (
      place ∙ ap (λ p. p + spot a.head.version a.head.count.nodes a.n a.j) c.from.ensures,
      omega (
        arith,
        product c.apart_in.result c.from-2.result 3 65535 c.apart_in.ensures.1 (omega arith),
        product c.between_in.result a.j 65535 2 (omega arith) c.requires.1,
      ),
    )
