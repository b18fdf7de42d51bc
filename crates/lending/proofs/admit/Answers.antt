use Rattle.std.proofs.lemmas.Result.{err_from_is_err_and}
use mathlib.Core.Path.{sym, ◌∙◌}
use Rattle.lending.proofs.SizeLaws.{sizes_true}
use Rattle.lending.proofs.AdmitLaws.{admit_names, admit_sizes, admit_made, admit_fine}
use Rattle.lending.proofs.admit.Goals as goal

pub returns-then-not-sizes_fit : goal.returns-then-not-sizes_fit
returns-then-not-sizes_fit c =
    let a = c.args in
    admit_sizes a.file.now a.records a.beside.now a.table.now _ c.requires.0 c.requires.1 c.in_ok-head.ensures.1 _ (sym c.in_ok-head.ensures.0) c.unlendable.result c.unlendable.ensures (sym c.sizes_fit.ensures ∙ c.if-not-sizes_fit.true)

pub made_fit-requires : goal.made_fit-requires
made_fit-requires c = let (w, r, t, m) = sizes_true c.args.records c.args.beside.now (sym c.sizes_fit.ensures ∙ c.if-not-sizes_fit.false) in (w, m)

pub returns-then-not-made_fit : goal.returns-then-not-made_fit
returns-then-not-made_fit c =
    let a = c.args in
    admit_made a.file.now a.records a.beside.now a.table.now _ c.requires.0 c.requires.1 c.in_ok-head.ensures.1 _ (sym c.in_ok-head.ensures.0) c.unlendable-then-not-made_fit.result c.made_fit.result c.unlendable-then-not-made_fit.ensures (sym c.sizes_fit.ensures ∙ c.if-not-sizes_fit.false) (c.made_fit.ensures a.file.now) c.if-not-made_fit.true

pub returns-in_err-head : goal.returns-in_err-head
returns-in_err-head c =
    let a = c.args in
    let p = err_from_is_err_and c.from_residual.result c.from_residual.ensures.1 in
    rw (p.1, p.2) (admit_names a.file.now a.records a.beside.now a.table.now _ c.requires.0 c.requires.1 c.in_err-head.ensures.1 _ (sym c.in_err-head.ensures.0))

pub returns : goal.returns
returns c =
    let a = c.args in
    admit_fine a.file.now a.records a.beside.now a.table.now _ c.requires.0 c.requires.1 c.in_ok-head.ensures.1 _ (sym c.in_ok-head.ensures.0) c.made_fit.result (sym c.sizes_fit.ensures ∙ c.if-not-sizes_fit.false) (c.made_fit.ensures a.file.now) c.if-not-made_fit.false
