use mathlib.Core.Bool.{cond}
use lib.Dec.{eqb}
use Rattle.rules.specs.declared.Way.TheVariants.{Sends, Receives}
use mathlib.Core.Path.{◌≡◌}
use lib.ListN.{length}
use Rattle.format.specs.Contents.{contents_at}
use Rattle.steps.specs.Choice.{clinic_of}
use Rattle.steps.specs.Beside.{made_of}
use Rattle.running.specs.Ways.{out_of, in_of, OfEach}
use Rattle.running.proofs.pairs.fill_ways.Given as goal

abbrev pub invariant-loop-i : goal.invariant-loop-i
invariant-loop-i l = (length l.outs ≡ 64) × (length l.ins ≡ 64)
    × OfEach (out_of (clinic_of (contents_at l.file l.head)) (made_of l.beside)) l.threads l.i l.outs × OfEach (in_of (clinic_of (contents_at l.file l.head)) (made_of l.beside)) l.threads l.i l.ins

-- a node of tag 6 sends, and one of tag 5 receives
abbrev pub ghost-way_at : goal.ghost-way_at
ghost-way_at a = cond (eqb a.tag 6) Sends Receives
