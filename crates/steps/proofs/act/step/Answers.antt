use mathlib.Core.Path.{ap, ◌∙◌}
use Rattle.format.specs.Contents.{contents_at}
use Rattle.steps.specs.declared.Answer.TheVariants as answers
use Rattle.steps.specs.Choice.{clinic_of}
use Rattle.steps.proofs.ActLaws.{answered, leaving, lone_end, lone_fork, lone_repeat, lone_new, lone_compare, lone_on, lone_off, lone_other}
use Rattle.steps.proofs.act.step.Goals as goal

pub returns-in-0 : goal.returns-in-0
returns-in-0 c =
    let a = c.args in
    answered (lone_end (clinic_of (contents_at a.file.now a.head)) a.threads a.made a.own a.it c.in-0.is) (c.sole.ensures ∙ ap (leaving answers.Ends) c.no_thread.ensures)

pub returns-in-1 : goal.returns-in-1
returns-in-1 c =
    let a = c.args in
    answered (lone_fork (clinic_of (contents_at a.file.now a.head)) a.threads a.made a.own a.it c.in-1.is c.onward.result c.moved_to.result c.onward.ensures c.moved_to.ensures) c.adds.ensures

pub returns-in-2 : goal.returns-in-2
returns-in-2 c =
    let a = c.args in
    answered (lone_repeat (clinic_of (contents_at a.file.now a.head)) a.threads a.made a.own a.it c.in-2.is c.onward-in-2.result c.onward-in-2.ensures) c.adds-in-2.ensures

pub returns-in-3 : goal.returns-in-3
returns-in-3 c =
    let a = c.args in
    answered (lone_new (clinic_of (contents_at a.file.now a.head)) a.threads a.made a.own a.it c.in-3.is) c.makes.ensures

pub returns-in-4 : goal.returns-in-4
returns-in-4 c =
    let a = c.args in
    answered (lone_compare (clinic_of (contents_at a.file.now a.head)) a.threads a.made a.own a.it c.in-4.is c.value.result c.value-in-4.result c.onward-in-4.result c.value.ensures c.value-in-4.ensures c.onward-in-4.ensures) c.moves_if.ensures

pub returns-in-7 : goal.returns-in-7
returns-in-7 c =
    let a = c.args in
    answered (lone_on (clinic_of (contents_at a.file.now a.head)) a.threads a.made a.own a.it c.in-7.is) c.switches_on.ensures

pub returns-in-8 : goal.returns-in-8
returns-in-8 c =
    let a = c.args in
    answered (lone_off (clinic_of (contents_at a.file.now a.head)) a.threads a.made a.own a.it c.in-8.is c.has_role.result c.off.result c.has_role.ensures c.off.ensures) c.moves_if-in-8.ensures

pub returns-in_default : goal.returns-in_default
returns-in_default c =
    let g = c.in_default.in_default-own.rest in
    let a = c.args in
    answered (lone_other (clinic_of (contents_at a.file.now a.head)) a.threads a.made a.own a.it g.0.0.0.0.0.0.1 g.0.0.0.0.0.1 g.0.0.0.0.1 g.0.0.0.1 g.0.0.1 g.0.1 g.1) c.refused.ensures
