-- The check as a pass with the stack of contexts: each stands for itself.
use Prim.Native.Nat.{◌-◌}
use mathlib.Core.Path.{refl}
use mathlib.Core.List.{List}
use lib.ListN.{length, get_or}
use Rattle.rules.specs.Schema.{Schema}
use Rattle.rules.specs.Rules.{Context, child_of}
use Rattle.reading_exact.proofs.FollowedEnds.{from_get}
use Rattle.reading_exact.proofs.ReachedStack.{Pass}
use Rattle.checking_exact.specs.Faults.{nowhere}

abbrev pub contexts : Schema → List Context → Pass Context Context
contexts D os = record {
  waiting = os;
  sessions = length os;
  start = λ k. get_or os (k - 1) nowhere;
  branch = λ c n. c;
  only = child_of D;
  of = λ c. c;
  below = child_of D;
  held = refl;
  starts = from_get nowhere os;
  branch_of = λ c n t. refl;
  only_of = λ c n. refl;
}
