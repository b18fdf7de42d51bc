use mathlib.Core.Path.{ap, ◌∙◌}
use lib.ListN.{length, set, length-set}
use Rattle.steps.proofs.TotalLaws.{cleared_length}
use Rattle.steps.proofs.beside.start_words.Goals as goal

pub shape_of-beside : goal.shape_of-beside
shape_of-beside c = let a = c.args in ap length c.clear_totals.ensures ∙ cleared_length (set (set a.beside.now 0 a.threads) 1 0) ∙ length-set (set a.beside.now 0 a.threads) 1 0 ∙ length-set a.beside.now 0 a.threads
