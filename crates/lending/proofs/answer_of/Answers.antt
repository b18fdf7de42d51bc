use mathlib.Core.Path.{sym, ap}
use Rattle.lending.specs.Walk.{answer_of}
use Rattle.lending.proofs.answer_of.Goals as goal

pub returns-in-Refused : goal.returns-in-Refused
returns-in-Refused c = sym (ap answer_of c.in-Refused.is)
