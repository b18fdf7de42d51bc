use mathlib.Core.Path.{sym, ap, ◌∙◌, subst}
use Prim.Native.Nat.{ℕ, ◌-◌}
use native.Mathlib.Omega.{arith}
use lib.ListN.{get_or, set}
use Rattle.steps.proofs.TableLaws.{down}
use Rattle.seated.specs.SeatedTables.{owners_passed, PassRoom}
use Rattle.seated.proofs.choice.pass_on.Goals as goal

pub overflow_sub-i : goal.overflow_sub-i
overflow_sub-i c =
    let a = c.args in
    let r = subst (PassRoom a.count a.i) c.in-Adds.is c.requires.1 in
    omega (arith, r.0)

pub bounds-owners-from : goal.bounds-owners-from
bounds-owners-from c =
    let a = c.args in
    let r = subst (PassRoom a.count a.i) c.in-Adds.is c.requires.1 in
    omega (arith, r.0, r.1, r.2, c.from.ensures, c.requires.0)

pub offset_bounds-owners-count : goal.offset_bounds-owners-count
offset_bounds-owners-count c =
    let a = c.args in
    let r = subst (PassRoom a.count a.i) c.in-Adds.is c.requires.1 in
    omega (arith, r.2)

pub bounds-owners-count : goal.bounds-owners-count
bounds-owners-count c =
    let a = c.args in
    let r = subst (PassRoom a.count a.i) c.in-Adds.is c.requires.1 in
    omega (arith, r.2, c.requires.0)

pub returns-in-Adds : goal.returns-in-Adds
returns-in-Adds c =
    let a = c.args in
    ap (λ (x : ℕ). set a.owners.now a.count (get_or a.owners.now x 0)) c.from.ensures ∙ sym (ap (owners_passed a.owners.now a.count a.i) c.in-Adds.is)

pub move_down-requires : goal.move_down-requires
move_down-requires c =
    let a = c.args in
    let r = subst (PassRoom a.count a.i) c.in-Ends.is c.requires.1 in
    (omega (arith, r.0, r.1, c.from-in-Ends.ensures), omega (arith, r.2, c.requires.0))

pub returns-in-Ends : goal.returns-in-Ends
returns-in-Ends c =
    let a = c.args in
    c.move_down.ensures
    ∙ ap (λ (x : ℕ). down a.owners.now x 1 (a.count - 1 - x)) c.from-in-Ends.ensures
    ∙ sym (ap (owners_passed a.owners.now a.count a.i) c.in-Ends.is)
