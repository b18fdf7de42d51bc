use Prim.Native.Nat.{◌≤◌}
use mathlib.Core.Path.{refl, sym, ◌∙◌}
use mathlib.Core.Logic.{inl, inr}
use mathlib.Core.List.{[], ◌∷◌}
use native.Mathlib.Omega.{arith}
use types.Run.{OneOf, miss}
use denote.Enum.Declared.{tag_of}
use Rattle.format.specs.Contents.{contents_at}
use Rattle.steps.specs.declared.Answer.{Answer}
use Rattle.steps.specs.declared.Answer.TheVariants as answers
use Rattle.steps.specs.contracts.Answer.{the_type}
use Rattle.steps.specs.Choice.{clinic_of}
use Rattle.steps.specs.Beside.{thread_count}
use Rattle.dispatching.proofs.ReceiverLaws.{no_lone, not_sending}
use Rattle.dispatching.proofs.VisitLaws.{StaysOn, told_still, told_meeting, lone_refused, lone_ends, lone_goes}
use borrow.Enum.Refused.{opened}
use Rattle.dispatching.proofs.visits.visit.Goals as goal

-- the last arm of the match has neither a refusal nor an end
going_on : (x : Answer) → OneOf (1 ∷ 2 ∷ 3 ∷ 5 ∷ []) (tag_of the_type x) → StaysOn x
going_on (answers.Refused n) h = miss (1 ∷ 2 ∷ 3 ∷ 5 ∷ []) 0 tt h
going_on answers.Moves h = tt
going_on answers.Adds h = tt
going_on (answers.Makes m) h = tt
going_on answers.Ends h = miss (1 ∷ 2 ∷ 3 ∷ 5 ∷ []) 4 tt h
going_on answers.Meets h = tt

pub returns-then-tag-eq6 : goal.returns-then-tag-eq6
returns-then-tag-eq6 c =
    let a = c.args in
    let q = c.requires in
    let here : a.i ≤ thread_count a.beside.now = omega (arith, q.5, q.6) in
    told_meeting (clinic_of (contents_at a.file.now a.head)) a.threads.now a.beside.now q.3 a.i a.there a.moved q.4 q.5 q.6 18 (no_lone (clinic_of (contents_at a.file.now a.head)) a.threads.now a.beside.now a.i q.4 here (inl (sym c.tag_at-tag.ensures ∙ c.if-tag-eq6.true))) c.meet.result _ _ c.meet.ensures

pub returns-then-tag-eq5 : goal.returns-then-tag-eq5
returns-then-tag-eq5 c =
    let a = c.args in
    let q = c.requires in
    let here : a.i ≤ thread_count a.beside.now = omega (arith, q.5, q.6) in
    let tag = sym c.tag_at-tag.ensures ∙ c.if-tag-eq5.true in
    told_still (clinic_of (contents_at a.file.now a.head)) a.threads.now a.beside.now q.3 a.i a.there a.moved q.4 q.5 q.6 18 (no_lone (clinic_of (contents_at a.file.now a.head)) a.threads.now a.beside.now a.i q.4 here (inr tag)) (not_sending (clinic_of (contents_at a.file.now a.head)) a.threads.now a.beside.now a.i q.4 here a.moved a.there q.6 (λ e. omega (arith, e, tag))) c.pass_by.result _ _ c.pass_by.ensures q.3 refl

pub returns-in-Refused : goal.returns-in-Refused
returns-in-Refused c =
    let a = c.args in
    let q = c.requires in
    let here : a.i ≤ thread_count a.beside.now = omega (arith, q.5, q.6) in
    let g = c.go_through-went in
    let silent = not_sending (clinic_of (contents_at a.file.now a.head)) a.threads.now a.beside.now a.i q.4 here a.moved a.there q.6 (λ e. c.if-tag-eq6.false (c.tag_at-tag.ensures ∙ e)) in
    lone_refused (clinic_of (contents_at a.file.now a.head)) a.threads.now a.beside.now q.3 a.i a.there a.moved q.4 q.5 q.6 _ g.result _ _ g.ensures c.in-Refused.field-0 c.pass_by-in-Refused.result c.in-Refused.is silent c.pass_by-in-Refused.ensures

pub returns-in-Ends : goal.returns-in-Ends
returns-in-Ends c =
    let a = c.args in
    let q = c.requires in
    let g = c.go_through-went in
    lone_ends (clinic_of (contents_at a.file.now a.head)) a.threads.now a.beside.now q.3 a.i a.there a.moved q.4 q.5 q.6 _ g.result _ _ g.ensures c.close_up.result c.in-Ends.is c.close_up.ensures

pub returns-in_default : goal.returns-in_default
returns-in_default c =
    let a = c.args in
    let q = c.requires in
    let g = c.go_through-went in
    lone_goes (clinic_of (contents_at a.file.now a.head)) a.threads.now a.beside.now q.3 a.i a.there a.moved q.4 q.5 q.6 _ g.result _ _ g.ensures c.with_moved.result (going_on g.result.last (opened c.in_default.in_default-own.keys3)) c.with_moved.ensures
