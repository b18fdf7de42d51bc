use Rattle.tables.specs.Records.{record_fits, refusal_of, section_answer}
use Rattle.format.specs.Contents.{contents_at}
use Rattle.format.specs.Sections.{part}
use Rattle.format.specs.Answers.{first_of}
use Prim.Native.Nat.{◌+◌, ◌-◌}
use mathlib.Core.Path.{◌≡◌}
use Rattle.tables.proofs.section_answer.Given as goal

abbrev pub invariant-loop-n : goal.invariant-loop-n
invariant-loop-n l = first_of (record_fits (contents_at l.file l.head) l.section) (refusal_of l.head l.section) l.n (part l.section l.head.count + 1 - l.n)
    ≡ section_answer l.head (contents_at l.file l.head) l.section
