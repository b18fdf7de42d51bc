use mathlib.Core.Path.{◌≡◌, sym, ap, ◌∙◌}
use mathlib.Core.Bool.{Bool, true, ◌&&◌}
use lib.Dec.{eqb, leb}
use lib.ListN.{length}
use Rattle.std.proofs.lemmas.Iterator.{YieldsList-from_slice}
use Rattle.std.proofs.lemmas.Iterator.Search.{all_from_yields_List}
use Rattle.seating.specs.SeatedRunning.{small_seats}
use borrow.Author.Tests.{eq-eqb}
use borrow.Author.Tests.{tests}
use borrow.Author.Rules.{rules}
use Rattle.seated.proofs.EntryLaws.{all_small}
use Rattle.seated.proofs.table.fits.Goals as goal

pub returns-then-seats-from : goal.returns-then-seats-from
returns-then-seats-from c =
    let l = c.args.seats.now in
    let long : eqb (length l) c.args.roles ≡ true = eq-eqb (length l) c.args.roles (c.if-seats-from.true ∙ c.from.ensures) in
    all_from_yields_List (λ x. leb x 32) _ _ _ c.all.ensures.ran (YieldsList-from_slice l cc) (λ x b q k. search (rules, tests))
    ∙ all_small l ∙ sym (ap (λ (b : Bool). b && small_seats l) long)
