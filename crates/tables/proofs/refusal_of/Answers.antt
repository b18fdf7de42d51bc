use Rattle.tables.specs.Records.{number_of, by_offset}
use Rattle.format.specs.Answers.{refused}
use mathlib.Core.Bool.{Bool}
use mathlib.Core.Path.{◌≡◌, sym, ap, ap₂, ◌∙◌}
use Rattle.tables.proofs.refusal_of.Goals as goal
use Rattle.tables.proofs.refusal_of.Lts as lts
use Rattle.tables.proofs.refusal_of.Tie as tie
use Rattle.tables.proofs.refusal_of.Reads as reads

tested : (c : lts.After-by_offset tie.the-claims reads.Pre reads.Post) {b : Bool} → c.by_offset.result ≡ b → by_offset (number_of c.args.section) ≡ b
tested c h = sym (ap by_offset c.number_of-number.ensures) ∙ sym c.by_offset.ensures ∙ h

pub returns-then-by_offset : goal.returns-then-by_offset
returns-then-by_offset c =
    rw (tested c.before.before.before c.if-by_offset.true)
    (ap₂ refused c.number_of-number.ensures (c.narrow.ensures ∙ c.place_of.ensures.0))

pub returns : goal.returns
returns c = rw (tested c.before c.if-by_offset.false) (ap (λ k. refused k c.args.n) c.number_of-number.ensures)
