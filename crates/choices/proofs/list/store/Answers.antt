use mathlib.Core.Path.{ap, subst, ◌∙◌}
use native.Mathlib.Omega.{arith}
use lib.ListN.{get_or}
use Rattle.steps.specs.Choice.{State, changed}
use Rattle.steps.specs.Kept.{state_in}
use Rattle.choices.specs.Stored.{HasRoom}
use Rattle.choices.proofs.StateLaws.{put_state, mint_state}
use Rattle.choices.proofs.StoreLaws.{then_added, then_minted, refused_stored, moves_stored, adds_stored, makes_stored, ends_stored, meets_stored}
use Rattle.choices.proofs.list.store.Goals as goal

pub returns-in-Refused : goal.returns-in-Refused
returns-in-Refused c =
    let a = c.args in
    let p = c.requires in
    let w = a.threads.now in
    let b = a.beside.now in
    refused_stored w b a.i a.p a.it c.in-Refused.n c.in-Refused.is p.0

pub returns-in-Moves : goal.returns-in-Moves
returns-in-Moves c =
    let a = c.args in
    let p = c.requires in
    let w = a.threads.now in
    let b = a.beside.now in
    let put = put_state w _ b a.i c.from-at.result a.it.first p.0 p.1 p.2 c.from-at.ensures c.put_thread.ensures in
    moves_stored w b a.i a.p a.it _ c.in-Moves.is put.0 put.1

pub add_thread-requires : goal.add_thread-requires
add_thread-requires c =
    let a = c.args in
    let p = c.requires in
    let w = a.threads.now in
    let b = a.beside.now in
    let put = put_state w _ b a.i c.from-at.result a.it.first p.0 p.1 p.2 c.from-at.ensures c.put_thread-in-Adds.ensures in
    (put.1, subst (HasRoom (get_or b 0 0) (get_or b 1 0) a.p) c.in-Adds.is p.3)

pub returns-in-Adds : goal.returns-in-Adds
returns-in-Adds c =
    let a = c.args in
    let p = c.requires in
    let w = a.threads.now in
    let b = a.beside.now in
    let put = put_state w _ b a.i c.from-at.result a.it.first p.0 p.1 p.2 c.from-at.ensures c.put_thread-in-Adds.ensures in
    let add = c.add_thread.ensures in
    adds_stored w b a.i a.p a.it _ _ c.in-Adds.is (then_added (state_in w b) _ _ a.i a.it.first a.it.second put.0 add.0) add.1 add.2

pub add_made-requires : goal.add_made-requires
add_made-requires c =
    let a = c.args in
    let p = c.requires in
    let w = a.threads.now in
    let b = a.beside.now in
    (p.0.beside, subst (HasRoom (get_or b 0 0) (get_or b 1 0) a.p) c.in-Makes.is p.3)

pub returns-in-Makes : goal.returns-in-Makes
returns-in-Makes c =
    let a = c.args in
    let p = c.requires in
    let w = a.threads.now in
    let b = a.beside.now in
    let put = put_state w _ b a.i c.from-at.result a.it.first p.0 p.1 p.2 c.from-at.ensures c.put_thread-in-Makes.ensures in
    let m = c.in-Makes.made in
    let made = mint_state _ b _ m put.1 (subst (HasRoom (get_or b 0 0) (get_or b 1 0) a.p) c.in-Makes.is p.3) c.add_made.ensures in
    makes_stored w b a.i a.p a.it _ _ m c.in-Makes.is (then_minted (state_in w b) _ _ a.i a.it.first m put.0 made.0) c.add_made.ensures made.1

pub returns-in-Ends : goal.returns-in-Ends
returns-in-Ends c =
    let a = c.args in
    let p = c.requires in
    let w = a.threads.now in
    let b = a.beside.now in
    let gone = c.remove_thread.ensures in
    ends_stored w b a.i a.p a.it _ _ c.in-Ends.is gone.0 gone.1 gone.2

pub overflow_sub-p : goal.overflow_sub-p
overflow_sub-p c =
    let a = c.args in
    let p = c.requires in
    let w = a.threads.now in
    let b = a.beside.now in
    let both = (subst (HasRoom (get_or b 0 0) (get_or b 1 0) a.p) c.in-Meets.is p.3) in
    omega (arith, both.0)

pub put_thread-requires-in-Meets-2 : goal.put_thread-requires-in-Meets-2
put_thread-requires-in-Meets-2 c =
    let a = c.args in
    let p = c.requires in
    let w = a.threads.now in
    let b = a.beside.now in
    let put = put_state w _ b a.i c.from-at.result a.it.first p.0 p.1 p.2 c.from-at.ensures c.put_thread-in-Meets.ensures in
    let both = (subst (HasRoom (get_or b 0 0) (get_or b 1 0) a.p) c.in-Meets.is p.3) in
    omega (arith, both.0, both.1, put.1.words, p.0.threads, c.from.ensures)

pub returns-in-Meets : goal.returns-in-Meets
returns-in-Meets c =
    let a = c.args in
    let p = c.requires in
    let w = a.threads.now in
    let b = a.beside.now in
    let put = put_state w _ b a.i c.from-at.result a.it.first p.0 p.1 p.2 c.from-at.ensures c.put_thread-in-Meets.ensures in
    let both = (subst (HasRoom (get_or b 0 0) (get_or b 1 0) a.p) c.in-Meets.is p.3) in
    let second = put_state _ _ b a.p c.from.result a.it.second put.1 both.0 both.1 c.from.ensures c.put_thread-in-Meets-2.ensures in
    meets_stored w b a.i a.p a.it _ c.in-Meets.is (second.0 ∙ ap (λ (s : State). changed s a.p a.it.second) put.0) second.1
