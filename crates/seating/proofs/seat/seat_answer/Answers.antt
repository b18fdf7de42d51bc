use Prim.Native.Nat.{ℕ}
use mathlib.Core.Path.{sym, ap, ◌∙◌}
use mathlib.Core.Bool.{true, false}
use native.Mathlib.Omega.{arith}
use Rattle.steps.specs.Records.{threads_in}
use Rattle.seats.specs.Seats.{is_next}
use Rattle.seating.specs.SeatTables.{line_row, line_in}
use Rattle.seating.proofs.SeatLaws.{seat_has, seat_full, seat_free}
use Rattle.seating.proofs.seat.seat_answer.Goals as goal

pub returns-then-has_session : goal.returns-then-has_session
returns-then-has_session c =
    let a = c.args in
    let ts = threads_in a.threads.now 0 a.count in
    let e = c.sessions_in-sessions.ensures in
    seat_has ts a.owners.now (line_in a.lines.now a.role.0) a.role.0 a.limit a.k c.sessions_in-sessions.result e (sym c.has_session.ensures ∙ c.if-has_session.true)

pub returns-then-limit-session_count : goal.returns-then-limit-session_count
returns-then-limit-session_count c =
    let a = c.args in
    let ts = threads_in a.threads.now 0 a.count in
    let e = c.sessions_in-sessions.ensures in
    seat_full ts a.owners.now (line_in a.lines.now a.role.0) a.role.0 a.limit a.k c.sessions_in-sessions.result e (sym c.has_session.ensures ∙ c.if-has_session.false) (omega (arith, c.session_count.ensures))

pub returns-then-is_next : goal.returns-then-is_next
returns-then-is_next c =
    let a = c.args in
    let ts = threads_in a.threads.now 0 a.count in
    let e = c.sessions_in-sessions.ensures in
    seat_free ts a.owners.now (line_in a.lines.now a.role.0) a.role.0 a.limit a.k c.sessions_in-sessions.result e true (sym c.has_session.ensures ∙ c.if-has_session.false) (omega (arith, c.session_count.ensures))
    (ap (λ (x : ℕ). is_next (line_row a.lines.now x) a.k) (sym c.from.ensures) ∙ sym c.is_next.ensures ∙ c.if-is_next.true)

pub returns : goal.returns
returns c =
    let a = c.args in
    let ts = threads_in a.threads.now 0 a.count in
    let e = c.sessions_in-sessions.ensures in
    seat_free ts a.owners.now (line_in a.lines.now a.role.0) a.role.0 a.limit a.k c.sessions_in-sessions.result e false (sym c.has_session.ensures ∙ c.if-has_session.false) (omega (arith, c.session_count.ensures))
    (ap (λ (x : ℕ). is_next (line_row a.lines.now x) a.k) (sym c.from.ensures) ∙ sym c.is_next.ensures ∙ c.if-is_next.false)
