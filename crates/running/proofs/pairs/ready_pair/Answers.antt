use native.Mathlib.Omega.{arith}
use Prim.Native.Nat.{ℕ, ◌+◌}
use mathlib.Core.Path.{◌∙◌}
use mathlib.Core.List.{List}
use lib.ListN.{get_or}
use Rattle.format.specs.Contents.{contents_at}
use Rattle.steps.specs.Choice.{clinic_of}
use Rattle.steps.specs.Kept.{state_in}
use Rattle.running.specs.Run.{ready_pair}
use Rattle.running.proofs.PairLaws.{two, are_alike, left_begin, no_pair_lem, first_pair}
use Rattle.running.proofs.pairs.ready_pair.Goals as goal

pub loop-j-init : goal.loop-j-init
loop-j-init c =
    let outs : List ℕ = c.fill_ways.new.outs in
    let ins : List ℕ = c.fill_ways.new.ins in
    let s = c.senders in
    let (le, some, none) = left_begin ins (get_or outs s.i 0) c.from-count.result c.left_out-j.result (omega arith) c.left_out-j.ensures in
    (s.invariant.0, s.invariant.1, some, none)

pub returns-after-senders : goal.returns-after-senders
returns-after-senders c =
    let outs : List ℕ = c.fill_ways.new.outs in
    let ins : List ℕ = c.fill_ways.new.ins in
    let a = c.args in
    let s = c.senders in
    let C = clinic_of (contents_at a.file.now a.head) in
    let n = c.from-count.ensures ∙ c.thread_count.ensures in
    let f = c.fill_ways.ensures in
    rw (s.invariant.0, s.invariant.1) (two (ready_pair C (state_in a.threads.now a.beside.now)) 0 0
    (no_pair_lem C a.threads.now a.beside.now outs ins f.0 f.1 (λ k h j l. s.invariant.2 k (omega (arith, n)) j (omega (arith, n)))))

pub returns-then-ins-j : goal.returns-then-ins-j
returns-then-ins-j c =
    let outs : List ℕ = c.fill_ways.new.outs in
    let ins : List ℕ = c.fill_ways.new.ins in
    let a = c.args in
    let s = c.senders in
    let l = c.loop-j in
    let C = clinic_of (contents_at a.file.now a.head) in
    let n = c.from-count.ensures ∙ c.thread_count.ensures in
    let f = c.fill_ways.ensures in
    let h = c.loop-j-test.true in
    rw (c.narrow-sender.ensures, c.narrow-receiver.ensures) (two (ready_pair C (state_in a.threads.now a.beside.now)) (s.i + 1) (l.j + 1)
    (first_pair C a.threads.now a.beside.now outs ins f.0 f.1 s.i l.j (omega (arith, n)) (omega (arith, n)) (λ k b j q. s.invariant.2 k b j (omega (arith, n))) l.invariant.3
    (are_alike (get_or outs s.i 0) (get_or ins l.j 0) (l.invariant.2 h) c.if-ins-j.true)))
