use mathlib.Core.Path.{sym, ◌∙◌}
use mathlib.Core.Bool.{false≢true}
use lib.ListN.{length}
use borrow.Author.Tests.{not-true, not-false}
use Rattle.format.specs.Contents.{contents_at}
use Rattle.format.proofs.ContentsLaws.{sessions_held}
use Rattle.rows.proofs.FitLaws.{row_fits_iff}
use Rattle.offering.proofs.OfferLaws.{does_not_fit, other_length, other_words, by_order, order_held}
use native.Mathlib.Omega.{arith}
use borrow.Author.Rules.{rules}
use Rattle.offering.proofs.load_state.Goals as goal

pub returns-then-not-row_fits : goal.returns-then-not-row_fits
returns-then-not-row_fits c =
    let a = c.args in
    (does_not_fit (contents_at a.file.now a.head) a.seats.now a.state.now (sym c.row_fits.ensures ∙ c.if-not-row_fits.true), λ e. absurd (false≢true e))

pub load_row-requires : goal.load_row-requires
load_row-requires c =
    let a = c.args in
    let q = c.requires in
    (omega arith, q.1, (row_fits_iff (length a.seats.now) a.state.now 0).0 (sym c.row_fits.ensures ∙ c.if-not-row_fits.false), q.2, q.3, q.4, q.5)

pub row_length-requires : goal.row_length-requires
row_length-requires c = let D = c.load_row.ensures in (D.sized.beside, D.sized.threads, D.sized.made, c.requires.1, D.rows)

pub returns-then-row_length-state : goal.returns-then-row_length-state
returns-then-row_length-state c =
    let a = c.args in
    let D = c.load_row.ensures in
    let fits = sym c.row_fits.ensures ∙ c.if-not-row_fits.false in (
      other_length (contents_at a.file.now a.head) a.seats.now a.state.now fits _ _ _ _ D c.row_length.result c.row_length.ensures.0 c.if-row_length-state.true,
      λ e. absurd (false≢true e),
    )

pub same_row-requires : goal.same_row-requires
same_row-requires c = let D = c.load_row.ensures in (omega arith, c.requires.1, D.sized, D.owners, D.rows)

pub returns-then-not-same_row : goal.returns-then-not-same_row
returns-then-not-same_row c =
    let a = c.args in
    let D = c.load_row.ensures in
    let fits = sym c.row_fits.ensures ∙ c.if-not-row_fits.false in (
      other_words (contents_at a.file.now a.head) a.seats.now a.state.now fits _ _ _ _ D c.row_length.result c.row_length.ensures.0 c.if-row_length-state.false
          (sym c.same_row.ensures ∙ c.if-not-same_row.true),
      λ e. absurd (false≢true e),
    )

pub in_order-requires : goal.in_order-requires
in_order-requires c = let D = c.load_row.ensures in (D.sized, D.owners, D.rows, c.requires.0.sessions)

pub returns : goal.returns
returns c =
    let a = c.args in
    let D = c.load_row.ensures in
    let C = contents_at a.file.now a.head in
    let fits = sym c.row_fits.ensures ∙ c.if-not-row_fits.false in
    let sessions = sessions_held a.file.now a.head in (
      by_order C a.seats.now a.state.now fits _ _ _ _ D c.row_length.result c.row_length.ensures.0 c.if-row_length-state.false a.head.count.sessions sessions c.in_order.result c.in_order.ensures
          (sym c.same_row.ensures ∙ c.if-not-same_row.false),
      order_held C a.seats.now a.state.now fits _ _ _ _ D c.row_length.result c.row_length.ensures.0 c.if-row_length-state.false a.head.count.sessions sessions c.in_order.result c.in_order.ensures c.requires.1,
    )
