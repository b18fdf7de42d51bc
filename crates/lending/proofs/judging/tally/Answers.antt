use Prim.Native.Nat.{ℕ}
use mathlib.Core.Path.{ap, ap₂, ◌∙◌}
use mathlib.Core.Bool.{Bool, ◌&&◌}
use mathlib.Core.List.{List}
use Rattle.lending.specs.Walk.{one_in, tally_on}
use Rattle.lending.proofs.judging.tally.Goals as goal

pub returns : goal.returns
unfolding tally_on
returns c =
    let a = c.args in
    ap₂ (λ (x : Bool) (l : List ℕ). record { fits = a.before.fits && x; totals = l }) c.thread_fits-fits.ensures (c.one_in.ensures ∙ ap (one_in a.before.totals) c.awaited_by.ensures)
