use mathlib.Core.Bool.{true, false}
use mathlib.Core.Path.{◌≡◌, sym, ◌∙◌}
use native.Mathlib.Omega.{arith}
use lib.ListN.{length, get_or}
use borrow.Author.Tests.{ne_eqb, eq-eqb}
use borrow.Author.Rules.{rules}
use Rattle.format.specs.Contents.{contents_at}
use Rattle.rules.specs.Schema.{schema_of}
use Rattle.steps.specs.Beside.{made_in}
use Rattle.lending.proofs.JudgeLaws.{vars_bound, vars_free, vars_done}
use Rattle.lending.proofs.judging.vars_fit.Goals as goal
use Rattle.lending.proofs.judging.vars_fit.Goals.{then-k-bound+else-not-value_fits, else-k-bound+else-v-ne0}

pub returns-then-not-value_fits : goal.returns-then-not-value_fits
returns-then-not-value_fits c =
    let a = c.args in
    let l = c.loop-k in
    let long : length a.vars ≡ 8 = search rules in
    λ x e narrow. sym (vars_bound (schema_of (contents_at a.file.now a.head)) (made_in a.beside.now 2 (get_or a.beside.now 1 0)) a.vars x a.w e narrow l.k false c.value_fits.result c.kind_at.result.0 (omega arith) (omega arith) c.kind_at.ensures c.value_fits.ensures c.if-not-value_fits.true) ∙ l.invariant x e narrow

pub returns-then-v-ne0 : goal.returns-then-v-ne0
returns-then-v-ne0 c =
    let a = c.args in
    let l = c.loop-k in
    let long : length a.vars ≡ 8 = search rules in
    λ x e narrow. sym (vars_free (schema_of (contents_at a.file.now a.head)) (made_in a.beside.now 2 (get_or a.beside.now 1 0)) a.vars x a.w e narrow l.k false (omega arith) (omega arith) (ne_eqb _ 0 c.if-v-ne0.true)) ∙ l.invariant x e narrow

pub loop-k-preserved : goal.loop-k-preserved
loop-k-preserved c =
    let a = c.args in
    let l = c.loop-k in
    let long : length a.vars ≡ 8 = search rules in
    λ x e narrow. elim c.if-k-bound.branch [
      | then-k-bound+else-not-value_fits w ↦
          sym (vars_bound (schema_of (contents_at a.file.now a.head)) (made_in a.beside.now 2 (get_or a.beside.now 1 0)) a.vars x a.w e narrow l.k true w.value_fits.result w.kind_at.result.0 (omega arith) (omega arith) w.kind_at.ensures w.value_fits.ensures w.if-not-value_fits.false) ∙ l.invariant x e narrow
      | else-k-bound+else-v-ne0 w ↦
          sym (vars_free (schema_of (contents_at a.file.now a.head)) (made_in a.beside.now 2 (get_or a.beside.now 1 0)) a.vars x a.w e narrow l.k true (omega arith) (omega arith) (eq-eqb _ 0 w.if-v-ne0.false)) ∙ l.invariant x e narrow
    ]

pub returns : goal.returns
returns c =
    let a = c.args in
    let l = c.loop-k in
    let long : length a.vars ≡ 8 = search rules in
    λ x e narrow. sym (vars_done (schema_of (contents_at a.file.now a.head)) (made_in a.beside.now 2 (get_or a.beside.now 1 0)) a.vars x a.w e narrow l.k (omega arith) (omega arith)) ∙ l.invariant x e narrow
