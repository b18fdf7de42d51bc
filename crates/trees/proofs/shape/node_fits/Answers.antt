use Rattle.trees.specs.Shape.{node_fits}
use Rattle.trees.proofs.shape.node_fits.Goals as goal

pub returns : goal.returns
unfolding node_fits
returns c = cc
