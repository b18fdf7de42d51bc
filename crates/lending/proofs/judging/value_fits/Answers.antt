use mathlib.Core.Path.{sym, ◌∙◌}
use lib.ListN.{get_or}
use Rattle.steps.specs.Beside.{made_in}
use Rattle.steps.proofs.ActLaws.{length_made}
use Rattle.lending.proofs.judging.value_fits.Goals as goal

pub returns-then-not-is_value : goal.returns-then-not-is_value
returns-then-not-is_value c =
    let a = c.args in
    let n = get_or a.beside.now 1 0 in
    let e = sym (c.is_value.ensures a.file.now (made_in a.beside.now 2 n) (length_made a.beside.now 2 n ∙ sym c.made_count.ensures)) ∙ c.if-not-is_value.true in
    rw e

pub returns : goal.returns
returns c =
    let a = c.args in
    let n = get_or a.beside.now 1 0 in
    let e = sym (c.is_value.ensures a.file.now (made_in a.beside.now 2 n) (length_made a.beside.now 2 n ∙ sym c.made_count.ensures)) ∙ c.if-not-is_value.false in
    rw (e, ← c.kind_held.ensures)
