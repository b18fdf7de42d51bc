use Prim.Native.Nat.{ℕ, ◌+◌, ◌*◌}
use mathlib.Core.Path.{◌≡◌, refl, sym, ap, subst, ◌∙◌}
use mathlib.Core.List.{List}
use native.Mathlib.Omega.{arith}
use lib.ListN.{length}
use Rattle.format.specs.Contents.{contents_at, item}
use Rattle.format.proofs.ContentsLaws.{sessions_held}
use Rattle.naming.specs.Scopes.{awaited_by}
use Rattle.steps.specs.Threads.{no_thread}
use Rattle.choices.specs.Choices.{threads_from, start}
use Rattle.steps.specs.Records.{threads_in}
use Rattle.steps.specs.Kept.{state_in, Sized}
use Rattle.steps.proofs.TableLaws.{stored_length}
use Rattle.choices.proofs.RunLaws.{Opened, open_more, opened_item, open_state}
use Rattle.choices.proofs.list.open_threads.Goals as goal

pub loop-i-init : goal.loop-i-init
unfolding threads_in threads_from
loop-i-init c = (c.requires.1, refl)

pub loop-i-preserved : goal.loop-i-preserved
loop-i-preserved c =
    let a = c.args in
    let l = c.loop-i in
    let put = c.put_thread.ensures in
    let t = c.opening.result in
    let ss = (contents_at a.file.now a.head).sessions in
    let is = c.opening.ensures ∙ ap (item no_thread (threads_from ss)) c.narrow.ensures ∙ sym (opened_item ss (l.i + 1)) in
    let held = sessions_held a.file.now a.head in
    let few = c.requires.0.sessions in
    let all = c.from-n.ensures in (
      ap length put.0 ∙ stored_length l.threads (12 * l.i) t ∙ l.invariant.0,
      open_more ss l.threads _ l.i t (omega (arith, few, all, l.invariant.0)) (omega (arith, held, all)) is put l.invariant.1,
    )

pub returns : goal.returns
returns c =
    let a = c.args in
    let p = c.requires in
    let l = c.loop-i in
    let C = contents_at a.file.now a.head in
    let all : l.i ≡ a.head.count.sessions = omega (arith, c.from-n.ensures) in
    let e = c.start_beside.ensures in
    let opened = open_state C (awaited_by a.table.now) l.threads a.beside.now a.head.count.sessions l.invariant.0 p.2 p.0.sessions (sessions_held a.file.now a.head) (subst (Opened C.sessions l.threads) all l.invariant.1) in
    let kept = subst (λ (b : List ℕ). (state_in l.threads b ≡ start C) × Sized l.threads b) (sym e) opened in
    (kept.0, kept.1, e)
