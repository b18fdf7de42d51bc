use Prim.Native.Nat.{◌+◌, ◌*◌, ◌-◌, ◌/◌}
use mathlib.Core.Path.{◌≡◌, ap, ap₂, ◌∙◌}
use native.Mathlib.Omega.{arith}
use Rattle.states.specs.Kept.{rank, highest, left_over, saving_by, word_by}
use Rattle.states.proofs.LaneLaws.{ranked_peak, ranked_above, base_least}
use Rattle.states.proofs.costs.by_rank.Goals as goal
use Rattle.states.proofs.costs.by_rank.Goals.{After-peak-high}

-- the highest rank
high_is : (c : After-peak-high) → c.peak-high.result ≡ highest c.args.base 16 (rank c.args.us.now)
high_is c = c.peak-high.ensures ∙ ranked_peak c.args.us.now c.ranks-ranked.result c.ranks-ranked.ensures c.args.base

pub overflow_sub-least : goal.overflow_sub-least
overflow_sub-least c = omega (arith, high_is (goal.at.overflow_sub-least c).After-peak-high, base_least c.args.base c.args.us.now)

pub returns : goal.returns
unfolding saving_by word_by
returns c =
    let a = c.args in
    let ranked = c.ranks-ranked in (
      c.left_over.ensures ∙ ap (λ h. left_over ((h - 18450) / 18) a.us.now) (high_is (goal.at.returns c).After-peak-high),
      ap₂ (λ m s. 2 * m + 131072 * s) (c.from.ensures ∙ c.lanes_above.ensures ∙ ranked_above a.us.now ranked.result ranked.ensures (c.peak-high.result - 18450)) c.from-2.ensures
          ∙ ap (λ h. word_by h a.us.now) (high_is (goal.at.returns c).After-peak-high),
    )
