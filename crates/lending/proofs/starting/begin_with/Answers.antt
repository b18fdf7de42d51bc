use Rattle.std.proofs.lemmas.Result.{err_from_is_err_and}
use mathlib.Core.Path.{sym}
use mathlib.Core.Bool.{and-eq-true_iff}
use lib.Dec.{eqb}
use lib.ListN.{length}
use borrow.Author.Tests.{eqb-true}
use Rattle.lending.proofs.StartingLaws.{begin_names, begin_sizes, begin_fine}
use Rattle.checking.proofs.CheckLaws.{entered_fine}
use Rattle.running.proofs.TableAwaits.{table_awaits}
use Rattle.naming.specs.Scopes.{awaited_by}
use Rattle.lending.proofs.starting.begin_with.Goals as goal

pub returns-then-not-fits : goal.returns-then-not-fits
returns-then-not-fits c =
    let a = c.args in
    begin_sizes a.file.now a.records a.beside.now _ (sym c.in_ok-head.ensures.0) c.unlendable.result c.unlendable.ensures c.if-not-fits.true

pub start_beside-requires : goal.start_beside-requires
start_beside-requires c =
    let a = c.args in
    ((entered_fine a.file.now _ (sym c.in_ok-head.ensures.0)).0, eqb-true (length a.beside.now) 162 ((and-eq-true_iff (eqb a.records 64) (eqb (length a.beside.now) 162)).0 c.if-not-fits.false).1)

pub returns-in_err-head : goal.returns-in_err-head
returns-in_err-head c =
    let a = c.args in
    let p = err_from_is_err_and c.from_residual.result c.from_residual.ensures.1 in
    rw (p.1, p.2) (begin_names a.file.now a.records a.beside.now _ (sym c.in_err-head.ensures.0))

pub returns : goal.returns
returns c =
    let a = c.args in
    let p = c.requires in
    let way = c.in_ok-head in
    begin_fine a.file.now a.records a.beside.now _ (sym c.in_ok-head.ensures.0) (awaited_by c.enter_scoped.new.scopes) (table_awaits a.file.now _ a.table.now c.enter_scoped.new.scopes (sym c.in_ok-head.ensures.0) p.0 p.1 way.ensures.1) _ c.if-not-fits.false c.start_beside.ensures
