use Prim.Native.Nat.{ℕ, ◌≤◌}
use mathlib.Core.Path.{◌≡◌, refl, sym, ◌∙◌, subst}
use mathlib.Core.List.{List}
use mathlib.Core.Bool.{false}
use native.Mathlib.Omega.{arith}
use lib.ListN.{length}
use Rattle.format.specs.Header.{Laid}
use Rattle.format.specs.declared.Head.{Head}
use Rattle.format.specs.Contents.{contents_at}
use Rattle.format.proofs.ContentsLaws.{sessions_held}
use Rattle.steps.specs.Kept.{state_in}
use Rattle.steps.specs.Beside.{thread_count}
use Rattle.steps.proofs.TableLaws.{threads_length}
use Rattle.seats.specs.Seats.{limited_of, in_line}
use Rattle.seating.specs.SeatTables.{line_in}
use Rattle.seated.proofs.RoleLaws.{role_some}
use Rattle.seated.proofs.WaitLaws.{no_role, role_low, answer_is, seat_room, waited}
use Rattle.seated.proofs.choice.has_to_wait.Goals as goal

few : (f : List ℕ) (h : Head) → Laid f h → length (contents_at f h).sessions ≤ 32
few f h laid = omega (arith, sessions_held f h, laid.sessions)

pub returns-then-role-eq0 : goal.returns-then-role-eq0
returns-then-role-eq0 c =
    let a = c.args in
    let q = c.requires in
    no_role (contents_at a.file.now a.head) a.seats.now a.threads.now a.beside.now a.owners.now a.lines.now (few a.file.now a.head q.0) q.1 q.2 a.i a.p (sym c.role_asked-role.ensures ∙ c.if-role-eq0.true)

pub overflow_sub-i : goal.overflow_sub-i
overflow_sub-i c =
    let a = c.args in
    let asked = role_some (limited_of (contents_at a.file.now a.head) a.seats.now) (state_in a.threads.now a.beside.now) a.i a.p c.role_asked-role.result c.role_asked-role.ensures c.if-role-eq0.false in
    omega (arith, asked.thread.0)

pub bounds-owners-from : goal.bounds-owners-from
bounds-owners-from c =
    let a = c.args in
    let q = c.requires in
    let asked = role_some (limited_of (contents_at a.file.now a.head) a.seats.now) (state_in a.threads.now a.beside.now) a.i a.p c.role_asked-role.result c.role_asked-role.ensures c.if-role-eq0.false in
    omega (arith, asked.thread.0, asked.thread.1, threads_length a.threads.now 0 (thread_count a.beside.now), q.2.sized.threads, q.2.owners, c.from.ensures)

pub seat_answer-answer-requires : goal.seat_answer-answer-requires
seat_answer-answer-requires c =
    let a = c.args in
    let q = c.requires in
    let asked = role_some (limited_of (contents_at a.file.now a.head) a.seats.now) (state_in a.threads.now a.beside.now) a.i a.p c.role_asked-role.result c.role_asked-role.ensures c.if-role-eq0.false in
    let (one, low) = role_low (contents_at a.file.now a.head) a.seats.now a.threads.now a.beside.now a.owners.now a.lines.now (few a.file.now a.head q.0) q.1 q.2 a.i a.p c.role_asked-role.result asked in
    let count = c.from-2.ensures ∙ c.thread_count-count.ensures in
    (omega (arith, count, q.2.sized.threads, q.2.sized.words), omega (arith, count, q.2.sized.threads, q.2.owners), q.2.rows, one, low)

pub line_up-requires : goal.line_up-requires
line_up-requires c =
    let a = c.args in
    let q = c.requires in
    let asked = role_some (limited_of (contents_at a.file.now a.head) a.seats.now) (state_in a.threads.now a.beside.now) a.i a.p c.role_asked-role.result c.role_asked-role.ensures c.if-role-eq0.false in
    let (one, low) = role_low (contents_at a.file.now a.head) a.seats.now a.threads.now a.beside.now a.owners.now a.lines.now (few a.file.now a.head q.0) q.1 q.2 a.i a.p c.role_asked-role.result asked in
    let (mine, is) = answer_is (contents_at a.file.now a.head) a.seats.now a.threads.now a.beside.now a.owners.now a.lines.now (few a.file.now a.head q.0) q.1 q.2 a.i a.p c.role_asked-role.result asked c.seat_answer-answer.result c.from-2.result c.seats_of-limit.result _ c.from.result c.seat_answer-answer.ensures (c.from-2.ensures ∙ c.thread_count-count.ensures) c.seats_of-limit.ensures refl c.from.ensures in
    (q.2.rows, one, low, λ none first out. seat_room (contents_at a.file.now a.head) a.seats.now a.threads.now a.beside.now a.owners.now a.lines.now (few a.file.now a.head q.0) q.1 q.2 a.i a.p c.role_asked-role.result asked c.seat_answer-answer.result is none first (subst (λ (k : ℕ). in_line k (line_in a.lines.now c.role_asked-role.result) ≡ false) mine out))

pub returns : goal.returns
returns c =
    let a = c.args in
    let q = c.requires in
    let asked = role_some (limited_of (contents_at a.file.now a.head) a.seats.now) (state_in a.threads.now a.beside.now) a.i a.p c.role_asked-role.result c.role_asked-role.ensures c.if-role-eq0.false in
    let (mine, is) = answer_is (contents_at a.file.now a.head) a.seats.now a.threads.now a.beside.now a.owners.now a.lines.now (few a.file.now a.head q.0) q.1 q.2 a.i a.p c.role_asked-role.result asked c.seat_answer-answer.result c.from-2.result c.seats_of-limit.result _ c.from.result c.seat_answer-answer.ensures (c.from-2.ensures ∙ c.thread_count-count.ensures) c.seats_of-limit.ensures refl c.from.ensures in
    waited (contents_at a.file.now a.head) a.seats.now a.threads.now a.beside.now a.owners.now a.lines.now (few a.file.now a.head q.0) q.1 q.2 a.i a.p c.role_asked-role.result asked c.seat_answer-answer.result is _ _ mine c.line_up.ensures
