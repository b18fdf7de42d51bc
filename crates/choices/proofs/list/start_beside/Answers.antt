use Prim.Native.Nat.{◌+◌, ◌-◌}
use mathlib.Core.Path.{◌≡◌, ap, ◌∙◌}
use native.Mathlib.Omega.{arith}
use lib.ListN.{length}
use Rattle.format.specs.Contents.{contents_at}
use Rattle.format.proofs.ContentsLaws.{sessions_held}
use Rattle.naming.specs.Scopes.{awaited_by}
use Rattle.steps.proofs.TotalLaws.{more_length}
use Rattle.choices.proofs.RunLaws.{counting_on, counting_ends, none_counted}
use Rattle.choices.proofs.list.start_beside.Goals as goal

pub returns-then-table-eq0 : goal.returns-then-table-eq0
returns-then-table-eq0 c =
    let a = c.args in
    none_counted (contents_at a.file.now a.head) a.table.now c.if-table-eq0.true a.beside.now _ a.head.count.sessions (sessions_held a.file.now a.head) c.start_words.ensures

pub loop-k-preserved : goal.loop-k-preserved
loop-k-preserved c =
    let a = c.args in
    let l = c.loop-k in
    let it = c.session-it in
    let e = c.reach.ensures in
    let on = counting_on (contents_at a.file.now a.head) (awaited_by a.table.now) _ l.beside _ (l.k - 1) l.k it.result (omega (arith, sessions_held a.file.now a.head)) (omega arith) it.ensures e l.invariant.1 in
    let next : l.k ≡ l.k + 1 - 1 = omega arith in
    (ap length e ∙ more_length l.beside (awaited_by a.table.now it.result.root) ∙ l.invariant.0, rw (← next) on)

pub returns-else-table-eq0 : goal.returns-else-table-eq0
returns-else-table-eq0 c =
    let a = c.args in
    let l = c.loop-k in
    counting_ends (contents_at a.file.now a.head) (awaited_by a.table.now) a.beside.now _ l.beside (l.k - 1) a.head.count.sessions (sessions_held a.file.now a.head) (omega arith) c.start_words.ensures l.invariant.1

pub returns-else-table-eq0-2 : goal.returns-else-table-eq0-2
returns-else-table-eq0-2 c =
    let a = c.args in
    let l = c.loop-k in
    let C = contents_at a.file.now a.head in
    let on = counting_on C (awaited_by a.table.now) _ l.beside _ (l.k - 1) l.k c.session-it.result (omega (arith, sessions_held a.file.now a.head)) (omega arith) c.session-it.ensures c.reach.ensures l.invariant.1 in
    counting_ends C (awaited_by a.table.now) a.beside.now _ _ l.k a.head.count.sessions (sessions_held a.file.now a.head) (omega arith) c.start_words.ensures on
