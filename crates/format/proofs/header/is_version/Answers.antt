use Rattle.format.proofs.header.is_version.Goals as goal

pub returns : goal.returns
returns c = rw c.has_juniors.ensures
