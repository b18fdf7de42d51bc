use Prim.Native.Nat.{ℕ, ◌+◌, ◌*◌}
use mathlib.Core.Path.{ap, ◌∙◌}
use Rattle.offering.proofs.WriteLaws.{row_put}
use native.Mathlib.Omega.{arith}
use Rattle.offering.proofs.write.put_row.Goals as goal

pub returns : goal.returns
returns c =
    let a = c.args in
    let q = c.requires in
    let used = ap (λ (x : ℕ). 2 + 2 * x) (c.from.ensures ∙ c.made_count.ensures) in
    let n = c.from-n.ensures ∙ c.thread_count.ensures in
    row_put a.threads.now a.beside.now a.owners.now a.lines.now q.1 q.2 a.roles (2 + 2 * c.from.result) c.from-n.result used n
    a.out.now _ _ _ _ a.at (omega (arith, used, n, q.4)) c.copy_words.ensures c.put_threads.ensures c.copy_words-2.ensures c.put_lines.ensures
