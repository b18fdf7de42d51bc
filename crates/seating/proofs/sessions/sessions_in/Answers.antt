use Prim.Native.Nat.{ℕ, ◌+◌, ◌-◌}
use mathlib.Core.Path.{sym, ap, ◌∙◌}
use native.Mathlib.Omega.{arith}
use lib.ListN.{drop}
use Rattle.steps.specs.Records.{threads_in, record_at}
use Rattle.seating.specs.SeatTables.{gathered}
use Rattle.seating.proofs.GatherLaws.{gather_step, gather_end}
use Rattle.seating.proofs.sessions.sessions_in.Goals as goal

pub loop-i-preserved : goal.loop-i-preserved
loop-i-preserved c =
    let a = c.args in
    let l = c.loop-i in
    ap (λ (x : ℕ). gathered (threads_in a.threads.now (record_at (l.i + 1)) (a.count - (l.i + 1))) (drop (l.i + 1) a.owners.now) a.role.0 x) c.put_session-m.ensures
    ∙ gather_step a.threads.now a.owners.now a.count l.i a.role.0 l.m (omega arith) (omega arith) ∙ l.invariant

pub returns : goal.returns
returns c =
    let a = c.args in
    let l = c.loop-i in
    sym (gather_end a.threads.now (drop l.i a.owners.now) a.count l.i (record_at l.i) a.role.0 l.m (omega arith)) ∙ l.invariant
