use Rattle.std.proofs.Common.{◌≡◌, ◌++◌, map, take, drop}
use Rattle.masks.specs.Mask.{minus}
use Rattle.placing_at.proofs.close.Given as goal

abbrev pub invariant-loop-mask : goal.invariant-loop-mask
invariant-loop-mask l = l.roles ≡ map (λ m. minus m l.shut) (take l.mask-index l.initial.roles) ++ drop l.mask-index l.initial.roles
