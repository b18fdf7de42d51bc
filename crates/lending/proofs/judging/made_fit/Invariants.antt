use Prim.Native.Nat.{ℕ}
use mathlib.Core.List.{List}
use mathlib.Core.Path.{◌≡◌}
use lib.ListN.{get_or, drop}
use Rattle.format.specs.Contents.{contents_at}
use Rattle.rules.specs.Schema.{schema_of}
use Rattle.steps.specs.Beside.{made_in}
use Rattle.lending.specs.Lent.{every, made_fits}
use Rattle.lending.proofs.judging.made_fit.Given as goal

abbrev pub invariant-loop-k : goal.invariant-loop-k
invariant-loop-k l = ((bytes : List ℕ) → every (made_fits (schema_of (contents_at bytes l.head))) (drop l.k (made_in l.beside 2 (get_or l.beside 1 0))) ≡ every (made_fits (schema_of (contents_at bytes l.head))) (made_in l.beside 2 (get_or l.beside 1 0)))
