use Prim.Native.Nat.{ℕ, suc, ◌+◌, ◌*◌}
use mathlib.Core.Path.{◌≡◌, ap, ◌∙◌}
use mathlib.Core.List.{List}
use native.Mathlib.Omega.{arith}
use borrow.Author.Rules.{rules}
use lib.ListN.{length, get_or, set, length-set}
use lib.Seq.{paste, paste-suc}
use Rattle.steps.proofs.TableLaws.{stored_paste}
use Rattle.steps.proofs.records.put_thread.Goals as goal

pub loop-k-preserved : goal.loop-k-preserved
loop-k-preserved c =
    let a = c.args in
    let l = c.loop-k in
    let at : ℕ = 12 * a.i + 3 in
    let head : List ℕ = set (set (set a.threads.now (12 * a.i) a.t.user) (12 * a.i + 1) a.t.node) (12 * a.i + 2) a.t.mask in
    let room : length head ≡ length a.threads.now = simp length-set in
    let eight : length a.t.vars ≡ 8 = search rules in
    let one : suc l.k ≡ l.k + 1 = omega arith in
    ap (λ (x : List ℕ). set x (at + l.k) (get_or a.t.vars l.k 0)) l.invariant
    ∙ paste-suc head at a.t.vars l.k 0 (omega (arith, room)) (omega (arith, eight))
    ∙ ap (paste head at a.t.vars) one

pub returns : goal.returns
returns c =
    let a = c.args in
    (c.loop-k.invariant ∙ stored_paste a.threads.now (12 * a.i) c.loop-k.k a.t (omega arith) (search rules) (omega arith), search rules)
