use Rattle.std.proofs.Common.{◌∙◌, ap, sym, refl}
use Rattle.std.proofs.Math.Seq.{paste}
use native.Mathlib.Omega.{arith}
use Rattle.format.specs.Contents.{contents_at}
use Rattle.choices.specs.Choices.{start}
use Rattle.lending.proofs.StartingLaws.{started_fine, started_refused}
use Rattle.engine.proofs.pilzdamo_start.Goals as goal

-- it refuses, and the list and the words stay
pub returns-in-Err : goal.returns-in-Err
returns-in-Err c =
    let a = c.args in
    let (answer, records) = started_refused a.file.now a.threads.now a.beside.now c.in-Err.first (sym c.in-Err.ensures.0) in
    (sym answer, sym records, c.in-Err.ensures.1 a.threads.now refl)

-- the records can be stored
pub start_records-requires : goal.start_records-requires
start_records-requires c =
    let a = c.args in
    let (laid, quiet, long, left) = started_fine a.file.now a.threads.now a.beside.now c.in-Ok.head (sym c.in-Ok.ensures.0) in
    (omega (arith, laid.sessions, long, c.from.ensures), omega (arith, c.from.ensures), λ _. laid)

-- and are then as they start
pub returns-in-Ok : goal.returns-in-Ok
returns-in-Ok c =
    let a = c.args in
    let h = c.in-Ok.head in
    let (laid, quiet, long, left) = started_fine a.file.now a.threads.now a.beside.now h (sym c.in-Ok.ensures.0) in (
      sym quiet,
      c.start_records.ensures ∙ ap (paste a.threads.now 0 (start (contents_at a.file.now h)).threads) c.from.ensures ∙ sym left,
      c.in-Ok.ensures.1 a.threads.now refl,
    )
