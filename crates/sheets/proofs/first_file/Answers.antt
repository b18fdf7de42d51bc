use mathlib.Core.Path.{◌∙◌}
use Rattle.sheets.specs.Files.{said}
use Rattle.sheets.proofs.Loop.{first_got}
use Rattle.sheets.proofs.first_file.Goals as goal

pub returns : goal.returns
unfolding said
returns c = first_got c.args.input.now c.from.result (c.from.ensures ∙ c.word.ensures) c.get.result c.get.ensures.lookup.0
