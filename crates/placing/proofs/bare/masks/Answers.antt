use Prim.Native.Nat.{◌+◌, ◌-◌}
use mathlib.Core.Path.{◌≡◌, sym, ap, ◌∙◌}
use native.Mathlib.Omega.{arith}
use borrow.Author.Tests.{ne_eqb, eq-eqb}
use Rattle.format.specs.declared.Session.{Session}
use Rattle.format.proofs.AnswerLaws.{first_stops, first_goes_on, first_ends, first_last}
use Rattle.format.proofs.ContentsLaws.{sessions_held}
use Rattle.placing.specs.Placing.{masks_answer}
use Rattle.placing.proofs.bare.masks.Goals as goal

pub loop-n-init : goal.loop-n-init
unfolding masks_answer
loop-n-init c =
    let all : c.args.head.count.sessions + 1 - 1 ≡ c.args.head.count.sessions = omega arith in
    rw (all, sessions_held c.args.file.now c.args.head)

pub returns-then-session-ne0 : goal.returns-then-session-ne0
returns-then-session-ne0 c =
    let wrong = ne_eqb _ 0 (λ z. c.if-session-ne0.true (ap (λ (s : Session). s.mask) c.session.ensures ∙ z)) in
    sym (first_stops _ _ c.loop-n.n c.args.head.count.sessions (omega arith) wrong) ∙ c.loop-n.invariant

pub loop-n-preserved : goal.loop-n-preserved
loop-n-preserved c =
    let right = eq-eqb _ 0 (sym (ap (λ (s : Session). s.mask) c.session.ensures) ∙ c.if-session-ne0.false) in
    sym (first_goes_on _ _ c.loop-n.n c.args.head.count.sessions (omega arith) right) ∙ c.loop-n.invariant

pub returns : goal.returns
returns c = sym (first_ends _ _ c.loop-n.n c.args.head.count.sessions (omega arith)) ∙ c.loop-n.invariant

pub returns-else-session-ne0 : goal.returns-else-session-ne0
returns-else-session-ne0 c =
    let right = eq-eqb _ 0 (sym (ap (λ (s : Session). s.mask) c.session.ensures) ∙ c.if-session-ne0.false) in
    sym (first_last _ _ c.loop-n.n c.args.head.count.sessions (omega arith) right) ∙ c.loop-n.invariant
