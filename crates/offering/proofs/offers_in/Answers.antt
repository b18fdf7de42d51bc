use mathlib.Core.Path.{◌≡◌, refl, sym, ap, ◌∙◌}
use borrow.Author.Tests.{not-true, not-false}
use lib.ListN.{length}
use Rattle.format.specs.Contents.{contents_at}
use Rattle.rules.specs.declared.Way.TheVariants.{Sends, Receives}
use Rattle.rules.specs.Schema.{schema_of}
use Rattle.rules.proofs.GrantLaws.{granting}
use Rattle.offering.specs.Offers.{Offering}
use Rattle.offering.proofs.OfferLaws.{state_fits}
use Rattle.offering.proofs.EntryLaws.{no_state, some_state}
use borrow.Author.Rules.{rules}
use Rattle.offering.proofs.offers_in.Goals as goal

pub returns-then-not-load_state : goal.returns-then-not-load_state
returns-then-not-load_state c =
    let a = c.args in
    let refused = no_state (contents_at a.file.now a.head) a.seats.now a.state.now a.out.now (sym c.if-not-load_state.true ∙ c.load_state.ensures.0) in
    (c.none.ensures ∙ ap (λ (x : Offering). x.answer) refused, ap (λ (x : Offering). x.out) refused)

pub offer_threads-noted-requires : goal.offer_threads-noted-requires
offer_threads-noted-requires c =
    let a = c.args in
    let q = c.requires in
    let C = contents_at a.file.now a.head in
    let filled = c.fill_grants.ensures in
    let is_state = c.if-not-load_state.false in (
      q.0,
      granting (schema_of C) Sends _ _ filled.0 refl filled.2,
      granting (schema_of C) Receives _ _ filled.1 refl filled.3,
      q.1,
      state_fits C a.seats.now a.state.now (sym is_state ∙ c.load_state.ensures.0),
      c.load_state.ensures.1 is_state,
    )

pub returns : goal.returns
returns c =
    let a = c.args in
    let made = some_state (contents_at a.file.now a.head) a.seats.now a.state.now a.out.now
    (sym c.if-not-load_state.false ∙ c.load_state.ensures.0) _ c.offer_threads-noted.ensures.0 in
    (c.offers_of.ensures ∙ ap (λ (x : Offering). x.answer) made, ap (λ (x : Offering). x.out) made)
