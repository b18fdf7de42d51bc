use Prim.Native.Nat.{ℕ, ◌+◌, ◌*◌}
use mathlib.Core.Path.{ap, ◌∙◌}
use Rattle.steps.specs.Records.{stored}
use Rattle.steps.specs.Beside.{with_threads}
use Rattle.choices.proofs.StateLaws.{add_state}
use Rattle.choices.proofs.state.add_thread.Goals as goal

pub returns : goal.returns
returns c =
    let a = c.args in
    let p = c.requires in
    let put = c.put_thread.ensures in
    let count = c.thread_count-n.ensures in
    let beside = c.set_threads.ensures ∙ ap (λ (n : ℕ). with_threads a.beside.now (n + 1)) count in
    let added = add_state a.threads.now _ a.beside.now _ a.t p.0 p.1 put.1
    (put.0 ∙ ap (λ (x : ℕ). stored a.threads.now (12 * x) a.t) (c.from.ensures ∙ count)) beside in
    (added.0, beside, added.1)
