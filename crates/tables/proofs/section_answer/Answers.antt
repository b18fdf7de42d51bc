use Rattle.format.proofs.HeadLaws.{place_fits_lem}
use Rattle.format.proofs.AnswerLaws.{first_stops, first_goes_on, first_ends, first_last}
use Rattle.tables.specs.Records.{section_answer, count_in}
use Rattle.tables.proofs.RecordLaws.{counted}
use Rattle.format.specs.Contents.{contents_at}
use Rattle.format.specs.Sections.{part}
use native.Mathlib.Omega.{arith}
use Prim.Native.Nat.{◌+◌, ◌-◌}
use mathlib.Core.Path.{◌≡◌, sym, ◌∙◌}
use Rattle.tables.proofs.section_answer.Goals as goal

pub loop-n-init : goal.loop-n-init
unfolding section_answer
loop-n-init c =
    let a = c.args in
    let all : part a.section a.head.count + 1 - 1 ≡ count_in a.section (contents_at a.file.now a.head) =
    omega (arith, counted a.file.now a.head a.section) in
    rw all

pub refusal_of-requires : goal.refusal_of-requires
refusal_of-requires c =
    let a = c.args in
    (omega arith, place_fits_lem a.file.now a.head c.requires a.section c.loop-n.n (omega arith))

pub returns-then-not-record_fits : goal.returns-then-not-record_fits
returns-then-not-record_fits c =
    let a = c.args in
    c.refusal_of.ensures
    ∙ sym (first_stops _ _ c.loop-n.n (part a.section a.head.count) (omega arith) (sym c.record_fits.ensures ∙ c.if-not-record_fits.true))
    ∙ c.loop-n.invariant

pub loop-n-preserved : goal.loop-n-preserved
loop-n-preserved c =
    let a = c.args in
    sym (first_goes_on _ _ c.loop-n.n (part a.section a.head.count) (omega arith) (sym c.record_fits.ensures ∙ c.if-not-record_fits.false))
    ∙ c.loop-n.invariant

pub returns : goal.returns
returns c =
    let a = c.args in
    sym (first_ends _ _ c.loop-n.n (part a.section a.head.count) (omega arith)) ∙ c.loop-n.invariant

pub returns-else-not-record_fits : goal.returns-else-not-record_fits
returns-else-not-record_fits c =
    let a = c.args in
    sym (first_last _ _ c.loop-n.n (part a.section a.head.count) (omega arith) (sym c.record_fits.ensures ∙ c.if-not-record_fits.false))
    ∙ c.loop-n.invariant
