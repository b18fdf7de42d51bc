use Prim.Native.Nat.{ℕ}
use mathlib.Core.Path.{◌≡◌, ap, ◌∙◌}
use native.Mathlib.Omega.{arith}
use Rattle.masks.specs.Mask.{has, held}
use Rattle.seating.specs.SeatTables.{gathered, line_row}
use Rattle.steps.specs.Records.{threads_in}
use Rattle.steps.specs.Beside.{thread_count}
use Rattle.ordering.specs.Order.{line_fits}
use Rattle.ordering.proofs.OrderLaws.{no_limit, too_many, by_line}
use Rattle.ordering.proofs.role_fits.Goals as goal

pub returns-then-limit-eq0 : goal.returns-then-limit-eq0
returns-then-limit-eq0 c =
    let a = c.args in
    let q = c.requires in
    no_limit a.threads.now a.beside.now a.owners.now a.lines.now q.2 a.n q.3 q.4 a.limit a.role c.from-row.result c.from-row.ensures q.5 q.6 c.if-limit-eq0.true

pub returns-then-limit-session_count : goal.returns-then-limit-session_count
returns-then-limit-session_count c =
    let a = c.args in
    let q = c.requires in
    let mask : c.sessions_in-mask.result ≡ gathered (threads_in a.threads.now 0 (thread_count a.beside.now)) a.owners.now a.role 0 =
    c.sessions_in-mask.ensures ∙ ap (λ (x : ℕ). gathered (threads_in a.threads.now 0 x) a.owners.now a.role 0) (c.from-count.ensures ∙ c.thread_count.ensures) in
    too_many a.threads.now a.beside.now a.owners.now a.lines.now q.2 a.n q.3 q.4 a.limit a.role c.from-row.result c.from-row.ensures q.5 q.6 c.if-limit-eq0.false (omega (arith, c.session_count.ensures, ap (held 32) mask))

pub returns : goal.returns
returns c =
    let a = c.args in
    let q = c.requires in
    let mask : c.sessions_in-mask.result ≡ gathered (threads_in a.threads.now 0 (thread_count a.beside.now)) a.owners.now a.role 0 =
    c.sessions_in-mask.ensures ∙ ap (λ (x : ℕ). gathered (threads_in a.threads.now 0 x) a.owners.now a.role 0) (c.from-count.ensures ∙ c.thread_count.ensures) in
    c.line_fits.ensures ∙ ap (λ (m : ℕ). line_fits a.n (has m) (line_row a.lines.now c.from-row.result)) mask
    ∙ by_line a.threads.now a.beside.now a.owners.now a.lines.now q.2 a.n q.3 q.4 a.limit a.role c.from-row.result c.from-row.ensures q.5 q.6 c.if-limit-eq0.false (omega (arith, c.session_count.ensures, ap (held 32) mask))
