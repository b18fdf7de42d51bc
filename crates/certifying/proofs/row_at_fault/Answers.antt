use mathlib.Core.Path.{refl, ◌∙◌}
use Rattle.format.specs.Contents.{contents_at}
use Rattle.format.proofs.ContentsLaws.{sessions_held}
use Rattle.certifying.proofs.EntryLaws.{asked_some, start_differs, start-known, start-same}
use native.Mathlib.Omega.{arith}
use Rattle.certifying.proofs.row_at_fault.Goals as goal

pub run_seated_by-requires : goal.run_seated_by-requires
run_seated_by-requires c =
    let q = c.requires in
    (q.0, refl, refl, refl, refl, refl, refl, refl, refl, q.1, omega arith, q.3)

pub begins_fine-requires : goal.begins_fine-requires
begins_fine-requires c =
    let Z = c.run_seated_by.ensures.0.kept in
    let q = c.requires in
    (asked_some _ _ c.args.asked q.2, q.1, Z.sized, Z.owners, Z.rows)

pub returns-then-not-begins_fine : goal.returns-then-not-begins_fine
returns-then-not-begins_fine c =
    let a = c.args in
    let R = c.run_seated_by in
    (start_differs (contents_at a.file.now a.head) a.seats.now a.states.now a.places.now a.next.now _ _ _ _ _ _ _ R.ensures.0 a.asked c.from_asked-from.result c.from_asked-from.ensures c.begins_fine.result c.begins_fine.ensures c.if-not-begins_fine.true, omega arith)

pub try_asked-requires : goal.try_asked-requires
try_asked-requires c =
    let a = c.args in
    let q = c.requires in
    let R = c.run_seated_by in
    let Z = R.ensures.0.kept in (
      record { laid = q.0; may_send = R.ensures.1; may_receive = R.ensures.2; roles = q.1 },
      Z.sized.words,
      Z.sized.beside,
      Z.owners,
      Z.rows.words,
      q.2,
      start-known (contents_at a.file.now a.head) a.seats.now a.states.now a.places.now a.next.now _ _ _ _ _ _ _ R.ensures.0 a.asked c.from_asked-from.result c.from_asked-from.ensures c.begins_fine.result c.begins_fine.ensures c.if-not-begins_fine.false
          (omega (arith, sessions_held a.file.now a.head, q.0.sessions)) (asked_some _ _ a.asked q.2),
    )

pub returns : goal.returns
returns c =
    let a = c.args in
    let R = c.run_seated_by in
    let t = c.try_asked in
    (t.ensures.0 ∙ start-same (contents_at a.file.now a.head) a.seats.now a.states.now a.places.now a.next.now _ _ _ _ _ _ _ R.ensures.0 a.asked c.from_asked-from.result c.from_asked-from.ensures c.begins_fine.result c.begins_fine.ensures c.if-not-begins_fine.false, t.ensures.1)
