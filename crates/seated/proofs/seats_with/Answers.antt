use mathlib.Core.Path.{sym, ◌∙◌}
use lib.ListN.{length}
use Rattle.checking.proofs.CheckLaws.{entered_fine}
use Rattle.running.proofs.EntryLaws.{listed_word}
use Rattle.seated.proofs.SeatsLaws.{seats_unfit, seats_refused, seats_done}
use Rattle.seated.proofs.seats_with.Goals as goal

pub returns-then-not-is_listed : goal.returns-then-not-is_listed
returns-then-not-is_listed c =
    let a = c.args in
    seats_unfit a.file.now a.choices.now a.seats.now c.no_seats.result (sym c.is_listed.ensures ∙ c.if-not-is_listed.true) c.no_seats.ensures

pub seats_in-requires : goal.seats_in-requires
seats_in-requires c =
    let a = c.args in
    ((entered_fine a.file.now _ (sym c.enter_scoped-answer.ensures.0 ∙ c.in-Ok.is)).0, listed_word (length a.choices.now) (sym c.is_listed.ensures ∙ c.if-not-is_listed.false))

pub returns-in-Err : goal.returns-in-Err
returns-in-Err c =
    let a = c.args in
    seats_refused a.file.now a.choices.now a.seats.now (sym c.is_listed.ensures ∙ c.if-not-is_listed.false) _ c.no_seats-in-Err.result (sym c.enter_scoped-answer.ensures.0 ∙ c.in-Err.is) c.no_seats-in-Err.ensures

pub returns-in-Ok : goal.returns-in-Ok
returns-in-Ok c =
    let a = c.args in
    let p = c.requires in
    seats_done a.file.now a.choices.now a.seats.now (sym c.is_listed.ensures ∙ c.if-not-is_listed.false) _ a.table.now _ c.seats_in.result (sym c.enter_scoped-answer.ensures.0 ∙ c.in-Ok.is) p.0 p.1 c.enter_scoped-answer.ensures.1 c.seats_in.ensures
