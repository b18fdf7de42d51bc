use Rattle.std.proofs.Common.{◌∙◌, ap, set, get_or, arith}
use Rattle.std.proofs.lemmas.List.{get_or_default}
use Rattle.std.proofs.lemmas.List.Edits.{map_over_more}
use Rattle.masks.specs.Mask.{minus}
use Rattle.placing_at.proofs.close.Goals as goal

pub loop-mask-preserved : goal.loop-mask-preserved
loop-mask-preserved c =
    let a = c.args in
    let l = c.loop-mask in
    ap (set l.roles l.mask-index) c.roles_minus.ensures
    ∙ map_over_more (λ m. minus m a.shut) a.roles.now l.roles l.mask-index (get_or l.roles l.mask-index 0) (omega arith) l.invariant
    (get_or_default l.roles l.mask-index 0 _ (omega arith))
