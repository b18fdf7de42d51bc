use Prim.Native.Nat.{◌+◌, ◌-◌, ◌<◌}
use mathlib.Core.Path.{◌≡◌, refl, sym, ap, ap₂, ◌∙◌}
use mathlib.Core.Bool.{Bool, cond}
use native.Mathlib.Omega.{arith}
use lib.ListN.{length, get_or, set, drop, length-set}
use Rattle.format.specs.Contents.{contents_at, item, no_session}
use Rattle.format.specs.Answers.{refused}
use Rattle.format.specs.Stacks.{stacked}
use Rattle.format.specs.declared.Session.{Session}
use Rattle.format.proofs.ContentsLaws.{sessions_held, nodes_held, none_past}
use Rattle.format.proofs.StackLaws.{stacked_top}
use Rattle.trees.specs.Shape.{bound_below, bound_of, node_fits, due_after, shape_from, roots, shape_answer}
use Rattle.trees.specs.declared.Due.{Due}
use Rattle.trees.specs.declared.Due.TheVariants.{Root, Child}
use Rattle.trees.proofs.FitsLaws.{fits_room}
use Rattle.trees.proofs.ShapeLaws.{blank, roots_push, due_after_lem, judged, over_empty, over_due, left_over, table_size, depth_most}
use Rattle.trees.proofs.shape.walk.Goals as goal
use Rattle.trees.proofs.shape.walk.Goals.{After-from}

pub loop-i-init : goal.loop-i-init
unfolding roots stacked
loop-i-init c =
    let a = c.args in
    (refl, rw (none_past (contents_at a.file.now a.head).sessions (c.from-sessions.result - 0) (omega (arith, sessions_held a.file.now a.head))))

pub loop-i-preserved : goal.loop-i-preserved
loop-i-preserved c =
    let a = c.args in
    let l = c.loop-i in
    let s = c.from-sessions.result in
    let ss = (contents_at a.file.now a.head).sessions in
    let all : length ss ≡ s = omega (arith, sessions_held a.file.now a.head) in
    let root : c.session-it.result.root ≡ (item no_session ss (s - l.i)).root =
    ap (λ (x : Session). x.root) c.session-it.ensures ∙ ap (λ k. (item no_session ss k).root) c.narrow.ensures in (
      simp length-set l.invariant.0,
      ap (λ x. stacked blank (set l.stack l.i (Root x)) (l.i + 1)) root ∙ roots_push ss s l.i l.stack all (omega arith) (omega arith) l.invariant.1,
    )

pub loop-i-2-init : goal.loop-i-2-init
unfolding shape_answer
loop-i-2-init c =
    let a = c.args in
    let s = c.from-sessions.result in
    let last : c.loop-i.i ≡ s = omega arith in
    let none : s - s ≡ 0 = omega arith in
    (c.loop-i.invariant.0, omega arith, ap (shape_from 1 (contents_at a.file.now a.head).nodes) (rw (last, none) at c.loop-i.invariant.1))

-- what is left by the node, by whether it fits
module _ (c : After-from) where
  abbrev due : Due
  due = get_or c.loop-i-2.stack (c.loop-i-2.depth - 1) blank

  going : (fit : Bool) → fit ≡ node_fits (c.loop-i-2.i + 1) c.node-it.result due (get_or c.args.ends.now (c.from.result + 1) 0)
      → cond fit
      (shape_from (c.loop-i-2.i + 1 + 1) (drop (c.loop-i-2.i + 1 + 1 - 1) (contents_at c.args.file.now c.args.head).nodes)
      (due_after c.node-it.result due (stacked blank c.loop-i-2.stack (c.loop-i-2.depth - 1))))
      (refused 8 (c.loop-i-2.i + 1))
      ≡ shape_answer (contents_at c.args.file.now c.args.head)
  going fit fits =
      let a = c.args in
      let l = c.loop-i-2 in
      let ns = (contents_at a.file.now a.head).nodes in
      let held : length ns ≡ a.head.count.nodes = nodes_held a.file.now a.head in
      judged a.ends.now ns (l.i + 1) due (stacked blank l.stack (l.depth - 1)) (shape_answer (contents_at a.file.now a.head)) c.node-it.result fit
      (get_or a.ends.now (c.from.result + 1) 0) c.requires.1 (omega arith) (omega arith) c.node-it.ensures
      (ap (λ k. get_or a.ends.now (k + 1) 0) c.from.ensures) fits
      (ap (shape_from (l.i + 1) (drop (l.i + 1 - 1) ns)) (sym (stacked_top blank l.stack l.depth (omega arith))) ∙ l.invariant.2)

pub returns-then-depth-eq0 : goal.returns-then-depth-eq0
unfolding stacked
returns-then-depth-eq0 c =
    let a = c.args in
    let l = c.loop-i-2 in
    let ns = (contents_at a.file.now a.head).nodes in
    sym (left_over ns (l.i + 1) (omega arith) (omega (arith, nodes_held a.file.now a.head)))
    ∙ ap (λ d. shape_from (l.i + 1) (drop (l.i + 1 - 1) ns) (stacked blank l.stack d)) (sym c.if-depth-eq0.true) ∙ l.invariant.2

pub bounds-ends-from : goal.bounds-ends-from
bounds-ends-from c =
    let a = c.args in
    omega (arith, table_size a.ends.now (contents_at a.file.now a.head).nodes c.requires.1, nodes_held a.file.now a.head, c.from.ensures)

pub returns-then-not-node_fits : goal.returns-then-not-node_fits
returns-then-not-node_fits c =
    let h = going (goal.at.returns-then-not-node_fits c).After-from c.node_fits.result c.node_fits.ensures in
    rw c.if-not-node_fits.true at h

pub bound_below-requires : goal.bound_below-requires
bound_below-requires c =
    λ b. let l = c.loop-i-2 in
    let small : bound_of (get_or l.stack (l.depth - 1) blank) < 8 =
    fits_room _ _ _ _ (sym c.node_fits.ensures ∙ c.if-not-node_fits.false) b in
    omega (arith, c.bound_of.ensures)

pub loop-i-2-preserved : goal.loop-i-2-preserved
loop-i-2-preserved c =
    let l = c.loop-i-2 in
    let n = c.node-it.result in
    let due = get_or l.stack (l.depth - 1) blank in
    let bound : c.bound_below.result ≡ bound_below n.tag (bound_of due) =
    c.bound_below.ensures ∙ ap (bound_below n.tag) c.bound_of.ensures in
    let pos : 0 < l.depth = omega arith in
    let room : l.depth < length l.stack = omega arith in
    let left = going (goal.at.loop-i-2-preserved c).After-from c.node_fits.result c.node_fits.ensures in (
      simp length-set l.invariant.0,
      omega (arith, c.depth_after-depth.ensures, depth_most n.tag l.depth),
      ap (shape_from (l.i + 1 + 1) _)
          (ap₂ (λ x k. stacked blank (set (set l.stack (l.depth - 1) (Child x)) l.depth (Child x)) k) bound c.depth_after-depth.ensures
          ∙ due_after_lem n l.stack l.depth due pos room)
          ∙ (rw c.if-not-node_fits.false at left),
    )

pub returns-then-depth-eq0-2 : goal.returns-then-depth-eq0-2
unfolding stacked
returns-then-depth-eq0-2 c =
    let a = c.args in
    let l = c.loop-i-2 in
    let ns = (contents_at a.file.now a.head).nodes in
    sym (over_empty ns (l.i + 1) (omega (arith, nodes_held a.file.now a.head)))
    ∙ ap (λ d. shape_from (l.i + 1) (drop (l.i + 1 - 1) ns) (stacked blank l.stack d)) (sym c.if-depth-eq0-2.true) ∙ l.invariant.2

pub returns : goal.returns
returns c =
    let a = c.args in
    let l = c.loop-i-2 in
    let ns = (contents_at a.file.now a.head).nodes in
    let some : 0 < l.depth = omega arith in
    let last : a.head.count.nodes ≡ l.i = omega arith in
    ap (λ k. refused 8 (k + 1)) last
    ∙ sym (over_due ns (l.i + 1) (get_or l.stack (l.depth - 1) blank) (stacked blank l.stack (l.depth - 1)) (omega (arith, nodes_held a.file.now a.head)))
    ∙ ap (shape_from (l.i + 1) (drop (l.i + 1 - 1) ns)) (sym (stacked_top blank l.stack l.depth some)) ∙ l.invariant.2
