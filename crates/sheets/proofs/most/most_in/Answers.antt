use Prim.Native.Nat.{ℕ, ◌+◌, ◌-◌, max}
use mathlib.Core.Path.{◌≡◌, sym, ap, ◌∙◌, subst}
use native.Mathlib.Omega.{arith}
use Rattle.checking.proofs.CheckLaws.{entered_fine}
use Rattle.groups.specs.Groups.{ons_of}
use Rattle.sheets.proofs.MostLaws.{part, Passed, passed_first, passed_next, passed_last}
use Rattle.sheets.proofs.most.most_in.Goals as goal

pub loop-k-init : goal.loop-k-init
loop-k-init c = let a = c.args in passed_first a.file.now a.head a.turns.now c.requires.0

pub end_of-end-requires : goal.end_of-end-requires
end_of-end-requires c = let a = c.args in ((entered_fine a.file.now a.head c.requires.0).0, omega arith)

pub ons_between-requires : goal.ons_between-requires
ons_between-requires c =
    let a = c.args in
    let l = c.loop-k in
    ((passed_next a.file.now a.head a.turns.now l.most l.at l.k _ c.requires.0 c.requires.1 (omega arith) (omega arith) c.end_of-end.ensures l.invariant).1, c.requires.1)

pub loop-k-preserved : goal.loop-k-preserved
loop-k-preserved c =
    let a = c.args in
    let l = c.loop-k in
    let next = (passed_next a.file.now a.head a.turns.now l.most l.at l.k _ c.requires.0 c.requires.1 (omega arith) (omega arith) c.end_of-end.ensures l.invariant).0 in
    let most : max l.most (ons_of (part a.turns.now l.at c.end_of-end.result)) ≡ c.max-most.result = sym (c.max-most.ensures ∙ ap (max l.most) c.ons_between.ensures) in
    let same : l.k ≡ l.k + 1 - 1 = omega arith in
    subst (λ (k : ℕ). Passed a.file.now a.head a.turns.now c.max-most.result c.end_of-end.result k) same
    (subst (λ (m : ℕ). Passed a.file.now a.head a.turns.now m c.end_of-end.result l.k) most next)

pub returns : goal.returns
returns c =
    let a = c.args in
    let l = c.loop-k in
    passed_last a.file.now a.head a.turns.now l.most l.at (l.k - 1) (omega arith) l.invariant

pub returns-2 : goal.returns-2
returns-2 c =
    let a = c.args in
    let l = c.loop-k in
    let next = (passed_next a.file.now a.head a.turns.now l.most l.at l.k _ c.requires.0 c.requires.1 (omega arith) (omega arith) c.end_of-end.ensures l.invariant).0 in
    c.max-most.ensures ∙ ap (max l.most) c.ons_between.ensures ∙ passed_last a.file.now a.head a.turns.now _ _ l.k (omega arith) next
