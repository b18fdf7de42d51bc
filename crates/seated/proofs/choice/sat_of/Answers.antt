use mathlib.Core.Path.{sym, ap}
use Rattle.seated.specs.SeatedTables.{sat_of}
use Rattle.seated.proofs.choice.sat_of.Goals as goal

pub returns-in-Refused : goal.returns-in-Refused
returns-in-Refused c = sym (ap sat_of c.in-Refused.is)
