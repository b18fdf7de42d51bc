use Prim.Native.Nat.{ℕ, ◌+◌}
use mathlib.Core.List.{[]}
use mathlib.Core.Path.{◌≡◌, refl, ap, ap₂, ◌∙◌}
use native.Mathlib.Omega.{arith}
use lib.ListN.{length-set}
use Rattle.masks.specs.Mask.{held}
use Rattle.steps.specs.Records.{threads_in}
use Rattle.steps.specs.Beside.{thread_count}
use Rattle.seating.specs.SeatTables.{gathered}
use Rattle.seated.proofs.ReadLaws.{filled_none, filled_more, filled_all}
use Rattle.seated.proofs.read.taken_words.Goals as goal

pub loop-k-init : goal.loop-k-init
loop-k-init c = (refl, filled_none (λ role. held 32 (gathered (threads_in c.args.threads.now 0 (thread_count c.args.beside.now)) c.args.owners.now role 0)) 1 [])

pub loop-k-preserved : goal.loop-k-preserved
loop-k-preserved c =
    let add-comm-one : c.loop-k.k + 1 ≡ 1 + c.loop-k.k = omega arith in
    let l = c.loop-k in
    (length-set l.all l.k _ ∙ l.invariant.0, filled_more (λ role. held 32 (gathered (threads_in c.args.threads.now 0 (thread_count c.args.beside.now)) c.args.owners.now role 0)) 1 l.all l.k _ (omega (arith, l.invariant.0)) (c.session_count.ensures ∙ ap (held 32) (c.sessions_in.ensures ∙ ap₂ (λ (n r : ℕ). gathered (threads_in c.args.threads.now 0 n) c.args.owners.now r 0) (c.from-count.ensures ∙ c.thread_count.ensures) (c.narrow.ensures ∙ add-comm-one))) l.invariant.1)

pub returns : goal.returns
returns c =
    let l = c.loop-k in
    filled_all (λ role. held 32 (gathered (threads_in c.args.threads.now 0 (thread_count c.args.beside.now)) c.args.owners.now role 0)) 1 l.all l.k 16 l.invariant.0 (omega arith) l.invariant.1
