-- Refusal 8 as a pass with the stack of the trees that are due.
use Prim.Native.Nat.{ℕ, ◌-◌}
use mathlib.Core.Path.{◌≡◌, refl, ap, ◌∙◌}
use mathlib.Core.List.{List, ◌∷◌, map}
use native.Mathlib.Omega.{arith}
use lib.ListN.{length, get_or, drop, length-map, get_or-map}
use Rattle.trees.specs.Shape.{bound_of, bound_below}
use Rattle.trees.specs.declared.Due.{Due}
use Rattle.trees.specs.declared.Due.TheVariants.{Root, Child}
use Rattle.reading_exact.specs.File.{InCount}
use Rattle.reading_exact.proofs.FollowedEnds.{from_get}
use Rattle.reading_exact.proofs.ReachedStack.{Pass}

module _ (roots : List ℕ) where
  pub starts : (k : ℕ) → InCount (length roots) k → drop (k - 1) (map Root roots) ≡ Root (get_or roots (k - 1) 0) ∷ drop k (map Root roots)
  starts k c =
      from_get (Root 0) (map Root roots) k (c.0, omega (arith, length-map roots Root)) ∙ ap (◌∷ drop k (map Root roots)) (get_or-map Root roots (k - 1) 0)

  -- a tree that is due stands for the variables bound on the path to it
  abbrev pub dues : Pass Due ℕ
  dues = record {
    waiting = map Root roots;
    sessions = length roots;
    start = λ k. Root (get_or roots (k - 1) 0);
    branch = λ d n. Child (bound_below n.tag (bound_of d));
    only = λ d n. Child (bound_below n.tag (bound_of d));
    of = bound_of;
    below = λ b n. bound_below n.tag b;
    held = length-map roots Root;
    starts = starts;
    branch_of = λ d n t. rw t;
    only_of = λ d n. refl;
  }
