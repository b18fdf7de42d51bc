use mathlib.Core.Path.{◌≡◌, ap, sym, ◌∙◌}
use mathlib.Core.Bool.{not, true, ◌&&◌}
use lib.Dec.{leb}
use lib.ListN.{length}
use Rattle.std.specs.Prelude.{Ok}
use Rattle.checking.specs.Check.{entered}
use Rattle.checking.proofs.CheckLaws.{entered_fine}
use Rattle.running.proofs.EntryLaws.{test_fails, test_holds}
use Rattle.dispatching.specs.Dispatch.{round_listed}
use Rattle.dispatching.proofs.EntryLaws.{fits_round}
use Rattle.seated_rounds.proofs.EntryLaws.{round_unfit, round_refused, round_done}
use borrow.Author.Rules.{rules}
use Rattle.seated_rounds.proofs.round_seated.Goals as goal
use Rattle.seated_rounds.proofs.round_seated.Lts as lts
use Rattle.seated_rounds.proofs.round_seated.Tie as tie
use Rattle.seated_rounds.proofs.round_seated.Reads as reads

-- the list and the room fit
fits : (c : lts.Else1 tie.the-claims reads.Pre reads.Post) → round_listed (length c.args.choices.now) && leb 1800 (length c.args.out.now) ≡ true
fits c = test_holds _ _ _ c.is_listed_for_round.ensures (ap not c.if-not-is_listed_for_round-out.false)

-- the head that was read
told : (c : lts.Past-After-known_told2 tie.the-claims reads.Pre reads.Post) → entered c.args.file.now ≡ Ok c.in-Ok.head
told c = sym c.enter-answer.ensures ∙ c.in-Ok.is

pub returns-then-not-is_listed_for_round-out : goal.returns-then-not-is_listed_for_round-out
returns-then-not-is_listed_for_round-out c =
    let a = c.args in
    round_unfit a.file.now a.choices.now a.seats.now a.out.now c.no_round.result (test_fails _ _ _ c.is_listed_for_round.ensures (ap not c.if-not-is_listed_for_round-out.true)) c.no_round.ensures

pub round_into-requires : goal.round_into-requires
round_into-requires c =
    let a = c.args in
    let (list, room) = fits_round (length a.choices.now) (length a.out.now) (fits c.before.before.before.before) in
    ((entered_fine a.file.now _ (told c.before.before)).0, list, room)

pub returns-in-Err : goal.returns-in-Err
returns-in-Err c =
    let a = c.args in
    round_refused a.file.now a.choices.now a.seats.now a.out.now (fits c.before.before.before.before) _ c.no_round-in-Err.result (sym c.enter-answer.ensures ∙ c.in-Err.is) c.no_round-in-Err.ensures

pub returns-in-Ok : goal.returns-in-Ok
returns-in-Ok c =
    let a = c.args in
    let g = c.round_into in
    round_done a.file.now a.choices.now a.seats.now a.out.now (fits c.before.before.before.before.before.before.before) _ g.result _ (told c.before.before.before.before.before) g.ensures.0 g.ensures.1
