use Prim.Native.Nat.{◌+◌}
use mathlib.Core.Path.{sym, ◌∙◌}
use native.Mathlib.Omega.{arith}
use Rattle.certifying.proofs.ExploreLaws.{held_count, thread_fails, thread_passes, threads_end}
use Rattle.certifying.proofs.explore.try_threads.Goals as goal

pub returns-in_err-on : goal.returns-in_err-on
returns-in_err-on c =
    let l = c.loop-i in
    let t = c.try_partners in
    let n = c.thread_count-count in
    rw c.from_residual.ensures (record {
      answered = thread_fails _ _ l.i n.result l.on (omega arith) (held_count _ _ _ _ _ _ c.requires.1 _ n.ensures) t.result t.ensures.answered c.in_err-on.was ∙ sym l.invariant.1;
      trying = t.ensures.trying;
    })

pub loop-i-preserved : goal.loop-i-preserved
loop-i-preserved c =
    let l = c.loop-i in
    let t = c.try_partners in
    let n = c.thread_count-count in
    (t.ensures.trying, l.invariant.1 ∙ thread_passes _ _ l.i n.result l.on (omega arith) (held_count _ _ _ _ _ _ c.requires.1 _ n.ensures) t.result _ t.ensures.answered c.in_ok-on.was)

-- no thread
pub returns : goal.returns
returns c =
    let l = c.loop-i in
    record { answered = threads_end _ _ l.i c.thread_count-count.result l.on (omega arith) ∙ sym l.invariant.1; trying = l.invariant.0 }

-- after the last thread
pub returns-in_ok-on : goal.returns-in_ok-on
returns-in_ok-on c =
    let l = c.loop-i in
    let t = c.try_partners in
    let n = c.thread_count-count in
    record {
      answered = threads_end _ _ (l.i + 1) n.result _ (omega arith) ∙ sym (l.invariant.1 ∙ thread_passes _ _ l.i n.result l.on (omega arith) (held_count _ _ _ _ _ _ c.requires.1 _ n.ensures) t.result _ t.ensures.answered c.in_ok-on.was);
      trying = t.ensures.trying;
    }
