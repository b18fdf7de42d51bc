use Prim.Native.Nat.{◌+◌, ◌*◌}
use mathlib.Core.Path.{refl, sym, ◌∙◌}
use Rattle.steps.specs.Beside.{thread_count, made_count}
use Rattle.seated.specs.SeatedTables.{seated_in}
use Rattle.offering.specs.Offers.{Offer}
use Rattle.offering.proofs.WriteLaws.{row_long}
use Rattle.offering.proofs.OfferLaws.{no_room, has_room, offer_put_lem}
use native.Mathlib.Omega.{arith}
use borrow.Author.Rules.{rules}
use Rattle.offering.proofs.choose.put_offer.Goals as goal

pub returns-then-out-end : goal.returns-then-out-end
returns-then-out-end c =
    let a = c.args in
    let q = c.requires in
    let b = a.beside.now in
    let o : Offer = record { thread = a.i; partner = a.p; answer = a.answer; seating = seated_in a.threads.now b a.owners.now a.lines.now } in
    let long = c.row_length-n.ensures.0 ∙ sym (row_long a.threads.now b a.owners.now a.lines.now q.3 q.4 a.roles (2 + 2 * made_count b) (thread_count b) refl refl) in
    (no_room a.roles a.noted a.out.now o c.row_length-n.result long (omega arith), record { few = omega arith; short = omega arith; within = omega arith })

pub returns : goal.returns
returns c =
    let a = c.args in
    let q = c.requires in
    let b = a.beside.now in
    let o : Offer = record { thread = a.i; partner = a.p; answer = a.answer; seating = seated_in a.threads.now b a.owners.now a.lines.now } in
    let long = c.row_length-n.ensures.0 ∙ sym (row_long a.threads.now b a.owners.now a.lines.now q.3 q.4 a.roles (2 + 2 * made_count b) (thread_count b) refl refl) in
    let put = offer_put_lem a.roles o c.narrow.result (c.narrow.ensures ∙ long) a.out.now _ _ a.noted.length (omega arith) c.copy_words.ensures c.put_row.ensures in
    (has_room a.roles a.noted a.out.now o c.row_length-n.result long _ (omega arith) put, record { few = omega arith; short = omega (arith, c.row_length-n.ensures.1); within = search rules })
