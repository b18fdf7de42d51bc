use mathlib.Core.Path.{◌≡◌}
use lib.ListN.{get_or, drop}
use Rattle.format.specs.Contents.{contents_at}
use Rattle.rules.specs.Rules.{Context}
use Rattle.rules.specs.Schema.{schema_of}
use Rattle.steps.specs.Beside.{made_in}
use Rattle.naming.specs.Scopes.{scope_of}
use Rattle.lending.specs.Scopes.{Narrow}
use Rattle.lending.specs.Lent.{vars_fit}
use Rattle.lending.proofs.judging.vars_fit.Given as goal

abbrev pub invariant-loop-k : goal.invariant-loop-k
invariant-loop-k l = ((x : Context) → l.w ≡ scope_of x → Narrow x
    → vars_fit (schema_of (contents_at l.file l.head)) (made_in l.beside 2 (get_or l.beside 1 0)) (drop l.k x.vars) (drop l.k l.vars) ≡ vars_fit (schema_of (contents_at l.file l.head)) (made_in l.beside 2 (get_or l.beside 1 0)) x.vars l.vars)
