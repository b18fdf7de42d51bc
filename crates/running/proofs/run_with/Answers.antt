use mathlib.Core.Path.{ap, ◌≡◌, sym, ◌∙◌}
use mathlib.Core.Bool.{not, true, ◌&&◌}
use lib.Dec.{leb}
use lib.ListN.{length}
use Rattle.std.specs.Prelude.{Ok}
use Rattle.checking.specs.Check.{entered}
use Rattle.checking.proofs.CheckLaws.{entered_fine}
use Rattle.running.specs.Run.{listed}
use Rattle.running.proofs.EntryLaws.{fits_listed, test_fails, test_holds, run_unfit, run_refused, run_done}
use Rattle.running.proofs.run_with.Goals as goal
use Rattle.running.proofs.run_with.Lts as lts
use Rattle.running.proofs.run_with.Tie as tie
use Rattle.running.proofs.run_with.Reads as reads

-- the list and the room fit
fits : (c : lts.Else1 tie.the-claims reads.Pre reads.Post) → listed (length c.args.choices.now) && leb 1800 (length c.args.out.now) ≡ true
fits c = test_holds _ _ _ c.is_listed.ensures (ap not c.if-not-is_listed-out.false)

-- the head that was read
told : (c : lts.Past-After-known_told2 tie.the-claims reads.Pre reads.Post) → entered c.args.file.now ≡ Ok c.in-Ok.head
told c = sym c.enter_scoped-answer.ensures.0 ∙ c.in-Ok.is

pub returns-then-not-is_listed-out : goal.returns-then-not-is_listed-out
returns-then-not-is_listed-out c =
    let a = c.args in
    run_unfit a.file.now a.choices.now a.out.now (test_fails _ _ _ c.is_listed.ensures (ap not c.if-not-is_listed-out.true))

pub run_into-requires : goal.run_into-requires
run_into-requires c =
    let a = c.args in
    let (list, room) = fits_listed (length a.choices.now) (length a.out.now) (fits c.before.before.before.before.before.before.before) in
    ((entered_fine a.file.now _ (told c.before.before)).0, list, room)

pub returns-in-Err : goal.returns-in-Err
returns-in-Err c =
    let a = c.args in
    run_refused a.file.now a.choices.now a.out.now (fits c.before.before.before.before.before.before) _ (sym c.enter_scoped-answer.ensures.0 ∙ c.in-Err.is)

pub returns-in-Ok : goal.returns-in-Ok
returns-in-Ok c =
    let a = c.args in
    let g = c.run_into in
    run_done a.file.now a.choices.now a.out.now (fits c.before.before.before.before.before.before.before.before.before.before) _ g.result g.new.out (told c.before.before.before.before.before) g.ensures.0 g.ensures.1
