use Prim.Native.Nat.{ℕ, ◌*◌, ◌-◌}
use mathlib.Core.Path.{ap, ap₂, ◌∙◌}
use Rattle.steps.specs.Beside.{with_threads}
use Rattle.steps.proofs.TableLaws.{down}
use Rattle.choices.proofs.StateLaws.{remove_state}
use borrow.Author.Rules.{rules}
use Rattle.choices.proofs.state.remove_thread.Goals as goal

pub returns : goal.returns
returns c =
    let a = c.args in
    let p = c.requires in
    let count = c.thread_count-n.ensures in
    let beside = c.set_threads.ensures ∙ ap (λ (n : ℕ). with_threads a.beside.now (n - 1)) count in
    let moved = c.close_gap.ensures
    ∙ ap₂ (λ (n i : ℕ). down a.threads.now (12 * i) 12 (12 * (n - 1) - 12 * i)) (c.from.ensures ∙ count) c.from-2.ensures in
    let gone = remove_state a.threads.now _ a.beside.now _ a.i p.0 p.1 p.2 (search rules) moved beside in
    (gone.0, beside, gone.1)
