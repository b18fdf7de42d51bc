use mathlib.Core.Path.{◌≡◌, sym, ◌∙◌}
use mathlib.Core.Bool.{true}
use lib.ListN.{length}
use Rattle.std.specs.Prelude.{Ok}
use Rattle.checking.specs.Check.{entered}
use Rattle.checking.proofs.CheckLaws.{entered_fine}
use Rattle.running.specs.Run.{listed}
use Rattle.running.proofs.EntryLaws.{listed_word, totals_unfit, totals_refused, totals_done}
use Rattle.running.proofs.totals_with.Goals as goal
use Rattle.running.proofs.totals_with.Lts as lts
use Rattle.running.proofs.totals_with.Tie as tie
use Rattle.running.proofs.totals_with.Reads as reads

-- the list fits
fits : (c : lts.Else1 tie.the-claims reads.Pre reads.Post) → listed (length c.args.choices.now) ≡ true
fits c = sym c.is_listed.ensures ∙ c.if-not-is_listed.false

-- the head that was read
told : (c : lts.Past-After-known_told2 tie.the-claims reads.Pre reads.Post) → entered c.args.file.now ≡ Ok c.in-Ok.head
told c = sym c.enter_scoped-answer.ensures.0 ∙ c.in-Ok.is

pub returns-then-not-is_listed : goal.returns-then-not-is_listed
returns-then-not-is_listed c =
    let a = c.args in
    totals_unfit a.file.now a.choices.now c.no_totals.result (sym c.is_listed.ensures ∙ c.if-not-is_listed.true) c.no_totals.ensures

pub totals_in-requires : goal.totals_in-requires
totals_in-requires c =
    let a = c.args in
    ((entered_fine a.file.now _ (told c.before)).0, listed_word (length a.choices.now) (fits c.before.before.before.before.before.before))

pub returns-in-Err : goal.returns-in-Err
returns-in-Err c =
    let a = c.args in
    totals_refused a.file.now a.choices.now (fits c.before.before.before.before.before.before.before) _ c.no_totals-in-Err.result (sym c.enter_scoped-answer.ensures.0 ∙ c.in-Err.is) c.no_totals-in-Err.ensures

pub returns-in-Ok : goal.returns-in-Ok
returns-in-Ok c =
    let a = c.args in
    let p = c.requires in
    totals_done a.file.now a.choices.now (fits c.before.before.before.before.before.before.before) _ a.table.now _ c.totals_in.result (told c.before.before) p.0 p.1 c.enter_scoped-answer.ensures.1 c.totals_in.ensures
