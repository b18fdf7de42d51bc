use Prim.Native.Nat.{ℕ, ◌+◌}
use mathlib.Core.Path.{◌≡◌, ap, ◌∙◌}
use mathlib.Core.List.{List}
use native.Mathlib.Omega.{arith}
use lib.ListN.{get_or, set, drop}
use lib.Seq.{paste}
use Rattle.format.proofs.WriteLaws.{copy_turn}
use Rattle.rows.proofs.words.copy_words.Goals as goal

pub loop-k-preserved : goal.loop-k-preserved
loop-k-preserved c =
    let a = c.args in
    let l = c.loop-k in
    ap (λ (x : List ℕ). set x (a.to + l.k) (get_or a.states.now (a.at + l.k) 0)) l.invariant
    ∙ copy_turn a.states.now a.table.now a.at a.to l.k (omega arith) (omega arith)

pub returns : goal.returns
returns c =
    let a = c.args in
    let all : c.loop-k.k ≡ a.n = omega arith in
    c.loop-k.invariant ∙ ap (paste a.table.now a.to (drop a.at a.states.now)) all
