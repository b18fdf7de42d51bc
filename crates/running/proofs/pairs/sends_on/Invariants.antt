use Rattle.rules.specs.declared.Way.TheVariants.{Sends}
use Rattle.running.proofs.pairs.sends_on.Given as goal

abbrev pub ghost-way_at : goal.ghost-way_at
ghost-way_at a = Sends
