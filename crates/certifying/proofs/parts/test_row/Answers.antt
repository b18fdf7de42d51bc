use mathlib.Core.Path.{sym, ◌∙◌}
use lib.ListN.{length}
use Rattle.format.specs.Contents.{contents_at}
use Rattle.format.proofs.ContentsLaws.{sessions_held}
use Rattle.rows.proofs.FitLaws.{row_fits_iff}
use Rattle.certifying.specs.Kept.{certificate_at}
use Rattle.certifying.proofs.ExploreLaws.{loaded_trying}
use Rattle.certifying.proofs.PartLaws.{row_unknown_yet, row_unfit, row_unordered, row_tested_lem, order_tested}
use native.Mathlib.Omega.{arith}
use Rattle.certifying.proofs.parts.test_row.Goals as goal

pub returns-then-search-j : goal.returns-then-search-j
returns-then-search-j c = let a = c.args in row_unknown_yet (certificate_at a.file.now a.head a.seats.now a.states.now a.places.now a.next.now) a.j a.search (omega (arith, c.if-search-j.true))

pub returns-then-not-row_fits : goal.returns-then-not-row_fits
returns-then-not-row_fits c =
    let a = c.args in
    row_unfit (certificate_at a.file.now a.head a.seats.now a.states.now a.places.now a.next.now) a.j a.search (omega (arith, c.if-search-j.false)) c.number_at-at.result c.number_at-at.ensures.0 (sym c.row_fits.ensures ∙ c.if-not-row_fits.true)

pub load_row-requires : goal.load_row-requires
load_row-requires c =
    let a = c.args in
    let q = c.requires in
    let fits = (row_fits_iff (length a.seats.now) a.states.now c.number_at-at.result).0 (sym c.row_fits.ensures ∙ c.if-not-row_fits.false) in
    (c.number_at-at.ensures.1, q.0.roles, fits, q.1, q.2, q.3, q.4)

pub in_order-requires : goal.in_order-requires
in_order-requires c =
    let D = c.load_row.ensures in
    (D.sized, D.owners, D.rows, c.requires.0.laid.sessions)

pub returns-then-not-in_order : goal.returns-then-not-in_order
returns-then-not-in_order c =
    let a = c.args in
    row_unordered (certificate_at a.file.now a.head a.seats.now a.states.now a.places.now a.next.now) a.j a.search (omega (arith, c.if-search-j.false)) c.number_at-at.result c.number_at-at.ensures.0 (sym c.row_fits.ensures ∙ c.if-not-row_fits.false) _
    (sym (sessions_held a.file.now a.head)) _ c.load_row.ensures.state (sym c.in_order.ensures ∙ c.if-not-in_order.true)

pub try_threads-requires : goal.try_threads-requires
try_threads-requires c =
    let a = c.args in
    let q = c.requires in
    let fits = (row_fits_iff (length a.seats.now) a.states.now c.number_at-at.result).0 (sym c.row_fits.ensures ∙ c.if-not-row_fits.false) in (
      q.0,
      loaded_trying (certificate_at a.file.now a.head a.seats.now a.states.now a.places.now a.next.now) c.number_at-at.result fits
          (order_tested (contents_at a.file.now a.head) a.seats.now q.0.roles _ (sym (sessions_held a.file.now a.head)) a.states.now c.number_at-at.result _ _ _ _ c.load_row.ensures (sym c.in_order.ensures ∙ c.if-not-in_order.false))
          c.number_at-at.ensures.1 _ _ _ _ c.load_row.ensures,
    )

pub returns : goal.returns
returns c =
    let a = c.args in
    row_tested_lem (certificate_at a.file.now a.head a.seats.now a.states.now a.places.now a.next.now) a.j a.search (omega (arith, c.if-search-j.false)) c.number_at-at.result c.number_at-at.ensures.0 (sym c.row_fits.ensures ∙ c.if-not-row_fits.false) _
    (sym (sessions_held a.file.now a.head)) _ c.load_row.ensures.state (sym c.in_order.ensures ∙ c.if-not-in_order.false) c.try_threads.result c.try_threads.ensures.answered
