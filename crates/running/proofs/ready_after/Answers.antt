use mathlib.Core.Path.{◌≡◌, sym, ◌∙◌}
use mathlib.Core.Bool.{true}
use lib.ListN.{length}
use Rattle.std.specs.Prelude.{Ok}
use Rattle.checking.specs.Check.{entered}
use Rattle.checking.proofs.CheckLaws.{entered_fine}
use Rattle.running.specs.Run.{listed}
use Rattle.running.proofs.EntryLaws.{listed_word, ready_unfit, ready_refused, ready_done}
use Rattle.running.proofs.ready_after.Goals as goal
use Rattle.running.proofs.ready_after.Lts as lts
use Rattle.running.proofs.ready_after.Tie as tie
use Rattle.running.proofs.ready_after.Reads as reads

-- the list fits
fits : (c : lts.Else1 tie.the-claims reads.Pre reads.Post) → listed (length c.args.choices.now) ≡ true
fits c = sym c.is_listed.ensures ∙ c.if-not-is_listed.false

-- the head that was read
told : (c : lts.Past-After-known_told2 tie.the-claims reads.Pre reads.Post) → entered c.args.file.now ≡ Ok c.in-Ok.head
told c = sym c.enter-answer.ensures ∙ c.in-Ok.is

pub returns-then-not-is_listed : goal.returns-then-not-is_listed
returns-then-not-is_listed c =
    let a = c.args in
    ready_unfit a.file.now a.choices.now c.no_pair.result (sym c.is_listed.ensures ∙ c.if-not-is_listed.true) c.no_pair.ensures

pub ready_in-requires : goal.ready_in-requires
ready_in-requires c =
    let a = c.args in
    ((entered_fine a.file.now _ (told c.before)).0, listed_word (length a.choices.now) (fits c.before.before.before))

pub returns-in-Err : goal.returns-in-Err
returns-in-Err c =
    let a = c.args in
    ready_refused a.file.now a.choices.now (fits c.before.before.before.before) _ c.no_pair-in-Err.result (sym c.enter-answer.ensures ∙ c.in-Err.is) c.no_pair-in-Err.ensures

pub returns-in-Ok : goal.returns-in-Ok
returns-in-Ok c =
    let a = c.args in
    ready_done a.file.now a.choices.now (fits c.before.before.before.before) _ c.ready_in.result (told c.before.before) c.ready_in.ensures
