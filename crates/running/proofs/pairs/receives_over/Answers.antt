use Rattle.format.specs.Contents.{contents_at}
use Rattle.steps.specs.Beside.{made_of}
use Rattle.running.proofs.WayLaws.{over_elsewhere, over_other, over_there}
use Rattle.running.proofs.pairs.receives_over.Goals as goal

pub returns-then-it-ne5 : goal.returns-then-it-ne5
returns-then-it-ne5 c =
    let a = c.args in
    let some = c.requires.4 in
    let n = c.node-it in
    over_elsewhere (contents_at a.file.now a.head) (made_of a.beside.now) a.t n.result a.over some n.ensures c.if-it-ne5.true

pub returns-then-value-over : goal.returns-then-value-over
returns-then-value-over c =
    let a = c.args in
    let some = c.requires.4 in
    let n = c.node-it in
    over_other (contents_at a.file.now a.head) (made_of a.beside.now) a.t n.result a.over some n.ensures c.value.result c.if-it-ne5.false c.value.ensures c.if-value-over.true

pub returns : goal.returns
returns c =
    let a = c.args in
    let some = c.requires.4 in
    let n = c.node-it in
    over_there (contents_at a.file.now a.head) (made_of a.beside.now) a.t n.result a.over some n.ensures a.receives.now c.value.result c.kind_held.result.0 c.may.result c.if-it-ne5.false c.value.ensures c.if-value-over.false c.requires.1 c.kind_held.ensures c.may.ensures.0
