use Prim.Native.Nat.{ℕ, ◌+◌, ◌-◌, ◌≤◌, ◌<◌}
use mathlib.Core.Path.{◌≡◌, sym, ap, ◌∙◌}
use mathlib.Core.Logic.{◌≢◌}
use mathlib.Core.Bool.{Bool, true, ◌&&◌, and-eq-true_iff}
use mathlib.Core.List.{[], ◌∷◌, map}
use native.Mathlib.Omega.{arith}
use borrow.Author.Tests.{eqb-true, eq-eqb, ne_eqb}
use lib.ListN.{length, get_or, set, drop, length-set}
use lib.Dec.{eqb}
use Rattle.format.specs.Contents.{contents_at, item, no_session}
use Rattle.format.proofs.ContentsLaws.{sessions_held, nodes_held, none_past}
use Rattle.format.specs.Stacks.{stacked}
use Rattle.format.proofs.StackLaws.{stacked_more, read_none, read_top}
use Rattle.format.specs.declared.Session.{Session}
use Rattle.trees.specs.Shape.{shape_answer}
use Rattle.trees.proofs.SoundLaws.{waiting, unpack, held, held_push, accepts, waits, waits_push, on_end, off_fields, off_none, off_number, on_fork, off_fork, on_other, off_other, on_last}
use Rattle.trees.proofs.SoundExact.{look_exact}
use Rattle.trees.proofs.sound.sound_by.Goals as goal
use Rattle.trees.proofs.sound.sound_by.Goals.{After-named, in-0+else-not-it+else-depth-eq0+else-named-n, in-1+else-it-ne0, in_default+else-not-goes_on}

-- two tests that both held
both : (a b : Bool) → (a && b) ≡ true → (a ≡ true) × (b ≡ true)
both a b h = (and-eq-true_iff a b).0 h

pub loop-i-init : goal.loop-i-init
unfolding waits stacked
loop-i-init c =
    let a = c.args in
    let n = a.head.count.nodes in
    let none = none_past (contents_at a.file.now a.head).sessions (c.from-sessions.result - 0) (omega (arith, sessions_held a.file.now a.head)) in
    rw none (ap (λ v. held (set a.stack.now 0 v) 1) c.paired.ensures ∙ held_push a.stack.now 0 (n + 1) 0 (omega arith) (omega arith))

pub loop-i-preserved : goal.loop-i-preserved
loop-i-preserved c =
    let a = c.args in
    let l = c.loop-i in
    let s = c.from-sessions.result in
    let x = c.session-it.result.root in
    let ss = (contents_at a.file.now a.head).sessions in
    let all : length ss ≡ s = omega (arith, sessions_held a.file.now a.head) in
    let root : x ≡ (item no_session ss (s - l.i)).root =
    ap (λ (y : Session). y.root) c.session-it.ensures ∙ ap (λ k. (item no_session ss k).root) c.narrow.ensures in
    ap (λ v. held (set l.stack (l.i + 1) v) (l.i + 1 + 1)) c.paired-in-loop-i.ensures
    ∙ waits_push ss s l.i (a.head.count.nodes + 1) x l.stack all (omega arith) (omega (arith, length-set {A = ℕ})) (omega arith) root l.invariant

-- the look from the first node on, with the stack that the sessions leave
look : (c : After-named)
    → (eqb (unpack (get_or c.loop-i.stack c.from-sessions.result 0)).number 1
    && accepts 1 (contents_at c.args.file.now c.args.head).nodes 0 (held c.loop-i.stack c.from-sessions.result))
    ≡ eqb (shape_answer (contents_at c.args.file.now c.args.head)).number 0
unfolding shape_answer
look c =
    let a = c.args in
    let l = c.loop-i in
    let s = c.from-sessions.result in
    let C = contents_at a.file.now a.head in
    let last : l.i ≡ s = omega arith in
    let none : s - s ≡ 0 = omega arith in
    look_exact C.sessions (a.head.count.nodes + 1) C.nodes (unpack (get_or l.stack s 0)) (held l.stack s)
    (sym (ap (map unpack) (stacked_more 0 l.stack s)) ∙ (rw (last, none) at l.invariant)) (omega (arith, nodes_held a.file.now a.head))

pub returns-then-named-ne1 : goal.returns-then-named-ne1
returns-then-named-ne1 c =
    let it = look (goal.at.returns-then-named-ne1 c).After-named in
    rw (ne_eqb (unpack (get_or c.loop-i.stack c.from-sessions.result 0)).number 1 (λ e. c.if-named-ne1.true (c.named.ensures ∙ e))) at it

pub loop-i-2-init : goal.loop-i-2-init
loop-i-2-init c =
    let it = look (goal.at.loop-i-2-init c).After-named in
    (omega arith, rw (eq-eqb (unpack (get_or c.loop-i.stack c.from-sessions.result 0)).number 1 (sym c.named.ensures ∙ c.if-named-ne1.false)) at it)

pub returns-then-not-it : goal.returns-then-not-it
returns-then-not-it c =
    let a = c.args in
    let l = c.loop-i-2 in
    let node = c.node-it.result in
    let ns = (contents_at a.file.now a.head).nodes in
    sym (off_fields ns (l.i + 1) (omega arith) (omega (arith, nodes_held a.file.now a.head)) node c.node-it.ensures l.bound (held l.stack l.depth) c.in-0.is c.if-not-it.true) ∙ l.invariant.1

pub returns-then-depth-eq0 : goal.returns-then-depth-eq0
returns-then-depth-eq0 c =
    let a = c.args in
    let l = c.loop-i-2 in
    let node = c.node-it.result in
    let ns = (contents_at a.file.now a.head).nodes in
    let zeros = both (eqb node.f1 0) (eqb node.f2 0) c.if-not-it.false in
    let empty : held l.stack l.depth ≡ [] = ap (held l.stack) c.if-depth-eq0.true ∙ read_none 0 unpack l.stack in
    sym (ap (accepts (l.i + 1) (drop (l.i + 1 - 1) ns) l.bound) empty ∙ off_none ns (l.i + 1) (omega arith) (omega (arith, nodes_held a.file.now a.head)) node c.node-it.ensures l.bound c.in-0.is (eqb-true _ _ zeros.0) (eqb-true _ _ zeros.1)) ∙ l.invariant.1

pub returns-then-named-n : goal.returns-then-named-n
returns-then-named-n c =
    let a = c.args in
    let l = c.loop-i-2 in
    let node = c.node-it.result in
    let ns = (contents_at a.file.now a.head).nodes in
    let zeros = both (eqb node.f1 0) (eqb node.f2 0) c.if-not-it.false in
    let w = unpack (get_or l.stack (l.depth - 1) 0) in
    let pos : 0 < l.depth = omega arith in
    sym (ap (accepts (l.i + 1) (drop (l.i + 1 - 1) ns) l.bound) (read_top 0 unpack l.stack l.depth pos)
    ∙ off_number ns (l.i + 1) (omega arith) (omega (arith, nodes_held a.file.now a.head)) node c.node-it.ensures l.bound w (held l.stack (l.depth - 1)) c.in-0.is (eqb-true _ _ zeros.0) (eqb-true _ _ zeros.1) (λ e. c.if-named-n.true (c.named-in-0.ensures ∙ e))) ∙ l.invariant.1

pub returns-then-it-ne0 : goal.returns-then-it-ne0
returns-then-it-ne0 c =
    let a = c.args in
    let l = c.loop-i-2 in
    let node = c.node-it.result in
    let ns = (contents_at a.file.now a.head).nodes in
    sym (off_fork ns (l.i + 1) (omega arith) (omega (arith, nodes_held a.file.now a.head)) node c.node-it.ensures l.bound (held l.stack l.depth) c.in-1.is c.if-it-ne0.true) ∙ l.invariant.1

pub returns-then-not-goes_on : goal.returns-then-not-goes_on
returns-then-not-goes_on c =
    let a = c.args in
    let l = c.loop-i-2 in
    let node = c.node-it.result in
    let ns = (contents_at a.file.now a.head).nodes in
    let end : node.tag ≢ 0 = omega arith in
    let fork : node.tag ≢ 1 = omega arith in
    sym (off_other ns (l.i + 1) (omega arith) (omega (arith, nodes_held a.file.now a.head)) node c.node-it.ensures l.bound (held l.stack l.depth) end fork (sym c.goes_on.ensures ∙ c.if-not-goes_on.true)) ∙ l.invariant.1

pub loop-i-2-preserved : goal.loop-i-2-preserved
loop-i-2-preserved c =
    let a = c.args in
    let l = c.loop-i-2 in
    let node = c.node-it.result in
    let ns = (contents_at a.file.now a.head).nodes in
    let here : l.i + 1 ≤ length ns = omega (arith, nodes_held a.file.now a.head) in
    elim c.match-tag.branch [
      | in-0+else-not-it+else-depth-eq0+else-named-n w ↦
          let top = unpack (get_or l.stack (l.depth - 1) 0) in
          let zeros = both (eqb node.f1 0) (eqb node.f2 0) w.if-not-it.false in
          let some : 0 < l.depth = omega arith in
          let number : top.number ≡ l.i + 1 + 1 = sym w.named-in-0.ensures ∙ w.if-named-n.false in (
            omega arith,
            rw (w.stack-is, w.depth-is, w.bound-is, w.bound_above-bound.ensures)
                (on_end ns (l.i + 1) (omega arith) (omega arith) node c.node-it.ensures l.bound top (held l.stack (l.depth - 1)) w.in-0.is (eqb-true _ _ zeros.0) (eqb-true _ _ zeros.1) number
                ∙ sym (ap (accepts (l.i + 1) (drop (l.i + 1 - 1) ns) l.bound) (read_top 0 unpack l.stack l.depth some)) ∙ l.invariant.1),
          )
      | in-1+else-it-ne0 w ↦
          let room : l.depth < length l.stack = omega (arith, length-set {A = ℕ}) in
          let pushed : held (set l.stack l.depth w.paired-in-1.result) (l.depth + 1) ≡ waiting node.f1 l.bound ∷ held l.stack l.depth =
          ap (λ v. held (set l.stack l.depth v) (l.depth + 1)) w.paired-in-1.ensures ∙ held_push l.stack l.depth node.f1 l.bound room (omega arith) in (
            omega arith,
            rw (w.stack-is, w.depth-is, w.bound-is, pushed)
                (on_fork ns (l.i + 1) (omega arith) (omega arith) node c.node-it.ensures l.bound (held l.stack l.depth) w.in-1.is w.if-it-ne0.false ∙ l.invariant.1),
          )
      | in_default+else-not-goes_on w ↦
          let end : node.tag ≢ 0 = omega arith in
          let fork : node.tag ≢ 1 = omega arith in (
            omega arith,
            rw (w.stack-is, w.depth-is, w.bound-is, w.bound_below-bound.ensures)
                (on_other ns (l.i + 1) (omega arith) (omega arith) node c.node-it.ensures l.bound (held l.stack l.depth) end fork
                (sym w.goes_on.ensures ∙ w.if-not-goes_on.false) ∙ l.invariant.1),
          )
    ]

pub returns : goal.returns
returns c =
    let a = c.args in
    let l = c.loop-i-2 in
    on_last (contents_at a.file.now a.head).nodes (l.i + 1) l.bound l.stack l.depth (omega (arith, nodes_held a.file.now a.head)) ∙ l.invariant.1
