use Rattle.certifying.proofs.PartLaws.{word_more, none_known_by}
use Rattle.certifying.proofs.parts.known_by.Goals as goal

pub loop-c-init : goal.loop-c-init
loop-c-init c = none_known_by c.args.next.now

pub loop-c-preserved : goal.loop-c-preserved
loop-c-preserved c = word_more c.args.next.now c.loop-c.c c.loop-c.known c.number_at.result _ c.loop-c.invariant c.number_at.ensures.0 c.max-known.ensures
