use native.Mathlib.Omega.{arith}
use Rattle.format.specs.Contents.{contents_at}
use Rattle.naming.specs.Scopes.{awaited_by}
use Rattle.seats.specs.Seats.{limited_of}
use Rattle.seated.specs.SeatedTables.{seated_in}
use Rattle.seated.proofs.ListLaws.{left_begin, go_halts, go_waits, go_ends, go_steps, left_ends}
use Rattle.seated.proofs.list.go_seated.Goals as goal
use Rattle.seated.proofs.list.go_seated.Goals.{in-Waits, in-Ends, in-Steps}

pub loop-k-init : goal.loop-k-init
loop-k-init c =
    let a = c.args in
    let p = c.requires in
    (p.5, left_begin (awaited_by a.table.now) (limited_of (contents_at a.file.now a.head) a.seats.now) (seated_in a.threads.now a.beside.now a.owners.now a.lines.now) a.beside.now a.choices.now)

pub returns-in-Refused : goal.returns-in-Refused
returns-in-Refused c =
    let a = c.args in
    let l = c.loop-k in
    let g = c.choose_seated-sat in
    go_halts (awaited_by a.table.now) (limited_of (contents_at a.file.now a.head) a.seats.now) (seated_in a.threads.now a.beside.now a.owners.now a.lines.now) a.beside.now a.choices.now l.k l.threads l.beside l.owners l.lines _ _ _ _ l.waited l.last (omega (arith, c.loop-k-test.true)) l.invariant.1 g.result g.ensures c.in-Refused.refusal c.narrow.result c.in-Refused.is (omega (arith, c.narrow.ensures))

pub loop-k-preserved : goal.loop-k-preserved
loop-k-preserved c =
    let a = c.args in
    let l = c.loop-k in
    let g = c.choose_seated-sat in (
      g.ensures.kept,
      elim c.match-sat.branch [
        | in-Waits w ↦ rw (w.waited-is, w.last-is) (go_waits (awaited_by a.table.now) (limited_of (contents_at a.file.now a.head) a.seats.now) (seated_in a.threads.now a.beside.now a.owners.now a.lines.now) a.beside.now a.choices.now l.k l.threads l.beside l.owners l.lines _ _ _ _ l.waited l.last (omega (arith, c.loop-k-test.true)) l.invariant.1 g.result g.ensures w.in-Waits.is)
        | in-Ends w ↦ rw (w.waited-is, w.last-is) (go_ends (awaited_by a.table.now) (limited_of (contents_at a.file.now a.head) a.seats.now) (seated_in a.threads.now a.beside.now a.owners.now a.lines.now) a.beside.now a.choices.now l.k l.threads l.beside l.owners l.lines _ _ _ _ l.waited l.last (omega (arith, c.loop-k-test.true)) l.invariant.1 g.result g.ensures w.in-Ends.is)
        | in-Steps w ↦ rw (w.waited-is, w.last-is) (go_steps (awaited_by a.table.now) (limited_of (contents_at a.file.now a.head) a.seats.now) (seated_in a.threads.now a.beside.now a.owners.now a.lines.now) a.beside.now a.choices.now l.k l.threads l.beside l.owners l.lines _ _ _ _ l.waited l.last (omega (arith, c.loop-k-test.true)) l.invariant.1 g.result g.ensures w.in-Steps.is)
      ],
    )

pub returns : goal.returns
returns c =
    let a = c.args in
    let l = c.loop-k in
    left_ends (awaited_by a.table.now) (limited_of (contents_at a.file.now a.head) a.seats.now) (seated_in a.threads.now a.beside.now a.owners.now a.lines.now) a.beside.now a.choices.now l.k c.narrow-2.result l.threads l.beside l.owners l.lines l.waited l.last (omega arith) l.invariant.1 (omega (arith, c.narrow-2.ensures)) l.invariant.0
