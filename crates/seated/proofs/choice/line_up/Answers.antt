use Prim.Native.Nat.{◌-◌}
use mathlib.Core.Path.{refl, sym, ◌∙◌}
use native.Mathlib.Omega.{arith}
use Rattle.seated.proofs.WaitLaws.{up_none, up_left, up_first, up_joined, up_in, up_room}
use Rattle.seated.proofs.choice.line_up.Goals as goal

pub returns-then-answer-eq0 : goal.returns-then-answer-eq0
returns-then-answer-eq0 c =
    let a = c.args in
    let q = c.requires in
    up_none a.lines.now a.role a.k a.answer (a.role - 1) q.0 q.1 q.2 refl c.if-answer-eq0.true

pub returns-then-lines-row-gt0 : goal.returns-then-lines-row-gt0
returns-then-lines-row-gt0 c =
    let a = c.args in
    let q = c.requires in
    up_left a.lines.now a.role a.k a.answer c.from-row.result q.0 q.1 q.2 c.from-row.ensures _ c.if-answer-eq1.true c.if-lines-row-gt0.true c.leave.ensures

pub returns-else-lines-row-gt0 : goal.returns-else-lines-row-gt0
returns-else-lines-row-gt0 c =
    let a = c.args in
    let q = c.requires in
    up_first a.lines.now a.role a.k a.answer c.from-row.result q.0 q.1 q.2 c.from-row.ensures c.if-answer-eq1.true (omega (arith, c.if-lines-row-gt0.false))

pub join-requires : goal.join-requires
join-requires c =
    let a = c.args in
    let q = c.requires in
    let out = sym c.in_line.ensures ∙ c.if-not-in_line.true in
    (q.0, omega (arith, c.from-row.ensures, q.1, q.2), up_room a.lines.now a.role a.k a.answer c.from-row.result q.0 q.1 q.2 c.from-row.ensures out (q.3 c.if-answer-eq0.false c.if-answer-eq1.false))

pub returns-then-not-in_line : goal.returns-then-not-in_line
returns-then-not-in_line c =
    let a = c.args in
    let q = c.requires in
    let out = sym c.in_line.ensures ∙ c.if-not-in_line.true in
    let room = up_room a.lines.now a.role a.k a.answer c.from-row.result q.0 q.1 q.2 c.from-row.ensures out (q.3 c.if-answer-eq0.false c.if-answer-eq1.false) in
    up_joined a.lines.now a.role a.k a.answer c.from-row.result q.0 q.1 q.2 c.from-row.ensures _ c.if-answer-eq0.false c.if-answer-eq1.false out room c.join.ensures

pub returns-else-not-in_line : goal.returns-else-not-in_line
returns-else-not-in_line c =
    let a = c.args in
    let q = c.requires in
    up_in a.lines.now a.role a.k a.answer c.from-row.result q.0 q.1 q.2 c.from-row.ensures c.if-answer-eq0.false c.if-answer-eq1.false (sym c.in_line.ensures ∙ c.if-not-in_line.false)
