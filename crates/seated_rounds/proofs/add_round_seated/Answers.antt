use Rattle.format.specs.Contents.{contents_at}
use Rattle.seats.specs.Seats.{limited_of}
use Rattle.seated_rounds.proofs.EntryLaws.{none_added, round_added}
use borrow.Author.Rules.{rules}
use Rattle.seated_rounds.proofs.add_round_seated.Goals as goal

pub returns-then-refusal-ne0 : goal.returns-then-refusal-ne0
returns-then-refusal-ne0 c =
    let a = c.args in
    none_added (limited_of (contents_at a.file.now a.head) a.seats.now) a.refusal a.threads.now a.beside.now a.owners.now a.lines.now a.words.now c.if-refusal-ne0.true c.requires.4 c.requires.5

pub returns : goal.returns
returns c =
    let a = c.args in
    round_added (limited_of (contents_at a.file.now a.head) a.seats.now) a.refusal c.go_round_seated.result _ _ _ _ _ _ c.if-refusal-ne0.false c.go_round_seated.ensures
