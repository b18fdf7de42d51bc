use mathlib.Core.Path.{refl}
use native.Mathlib.Omega.{arith}
use Rattle.format.specs.Contents.{contents_at}
use Rattle.naming.specs.Scopes.{awaited_by}
use Rattle.seats.specs.Seats.{limited_of}
use Rattle.seated.proofs.OneLaws.{one_refused, one_waits, one_ends, one_steps}
use Rattle.seated.proofs.list.choose_one.Goals as goal

pub returns-then-went-ne0 : goal.returns-then-went-ne0
returns-then-went-ne0 c =
    let a = c.args in
    let g = c.go_seated-went in
    one_refused (awaited_by a.table.now) (limited_of (contents_at a.file.now a.head) a.seats.now) a.threads.now a.beside.now a.owners.now a.lines.now a.i a.p g.result _ _ _ _ g.ensures g.result.refusal refl c.if-went-ne0.true

pub returns-then-went-ne0-2 : goal.returns-then-went-ne0-2
returns-then-went-ne0-2 c =
    let a = c.args in
    let g = c.go_seated-went in
    one_waits (awaited_by a.table.now) (limited_of (contents_at a.file.now a.head) a.seats.now) a.threads.now a.beside.now a.owners.now a.lines.now a.i a.p g.result _ _ _ _ g.ensures c.if-went-ne0-2.true

pub returns-then-thread_count-count : goal.returns-then-thread_count-count
returns-then-thread_count-count c =
    let a = c.args in
    let g = c.go_seated-went in
    one_ends (awaited_by a.table.now) (limited_of (contents_at a.file.now a.head) a.seats.now) a.threads.now a.beside.now a.owners.now a.lines.now a.i a.p g.result _ _ _ _ g.ensures c.if-went-ne0.false c.if-went-ne0-2.false (omega (arith, c.if-thread_count-count.true, c.thread_count.ensures, c.thread_count-count.ensures))

pub returns : goal.returns
returns c =
    let a = c.args in
    let g = c.go_seated-went in
    one_steps (awaited_by a.table.now) (limited_of (contents_at a.file.now a.head) a.seats.now) a.threads.now a.beside.now a.owners.now a.lines.now a.i a.p g.result _ _ _ _ g.ensures c.if-went-ne0.false c.if-went-ne0-2.false
    (λ less. omega (arith, less, c.if-thread_count-count.false, c.thread_count.ensures, c.thread_count-count.ensures))
