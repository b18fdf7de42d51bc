use Prim.Native.Nat.{ℕ, ◌+◌, ◌*◌}
use mathlib.Core.Path.{ap, ap₂, ◌∙◌}
use lib.Seq.{sets}
use Rattle.format.specs.Words.{bytes_of}
use Rattle.running.specs.Run.{thread_words}
use Rattle.steps.specs.Records.{threads_in}
use Rattle.steps.specs.Beside.{made_in, made_words}
use Rattle.running.proofs.PutLaws.{state_put}
use Rattle.running.proofs.out.put_state.Goals as goal

pub returns : goal.returns
returns c =
    let a = c.args in
    let one = c.put_four in
    let two = c.put_made in
    let three = c.put_threads in
    let made = c.made_count-made in
    let threads = c.thread_count-count in
    let b = a.beside.now in
    let w = a.threads.now in
    let second = two.ensures ∙ ap (λ (m : ℕ). sets one.new.out 8 (bytes_of (made_words (made_in b 2 m)))) c.from.ensures in
    let third = three.ensures
    ∙ ap₂ (λ (m n : ℕ). sets two.new.out (2 * (4 + 2 * m)) (bytes_of (thread_words (threads_in w 0 n)))) c.from-3.ensures c.from-2.ensures in
    state_put w b a.out.now one.new.out two.new.out three.new.out a.progress.count a.progress.refusal
    made.result threads.result made.ensures threads.ensures one.ensures second third
