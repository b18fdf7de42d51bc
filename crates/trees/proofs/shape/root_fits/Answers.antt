use Rattle.trees.proofs.shape.root_fits.Goals as goal

pub returns-in-Root : goal.returns-in-Root
returns-in-Root c = rw c.in-Root.is
