use mathlib.Core.Path.{sym}
use mathlib.Core.Bool.{and-true, ◌&&◌}
use native.Mathlib.Omega.{arith}
use Rattle.reasons.specs.Reasons.{may_count, is_reason, place_fits, tag_fits}
use borrow.Author.Tests.{le-leb}
use Rattle.reasons.proofs.is_reason.Goals as goal

pub returns : goal.returns
unfolding is_reason place_fits tag_fits
returns c =
    let a = c.args.r in
    rw (c.may_count.ensures, c.at_node-node.ensures, le-leb a.place 65535 (omega arith)) (sym (and-true (may_count a.number a.counts && place_fits a.counts a.place && tag_fits a.number a.counts a.tag)))
