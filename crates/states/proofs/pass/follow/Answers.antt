use Prim.Native.Nat.{◌+◌, ◌*◌, ◌-◌, ◌≤◌}
use mathlib.Core.Path.{◌≡◌, refl, ap, ◌∙◌}
use mathlib.Core.Bool.{cond}
use mathlib.Core.List.{[], ◌∷◌, map}
use native.Mathlib.Omega.{arith}
use lib.Dec.{eqb}
use borrow.Author.Tests.{eq-eqb, ne_eqb}
use lib.ListN.{get_or, drop, set, length-set}
use lib.Seq.{sets}
use Rattle.format.specs.Contents.{item, no_node, contents_at}
use Rattle.format.specs.Stacks.{stacked}
use Rattle.format.proofs.ContentsLaws.{nodes_held}
use Rattle.states.specs.States.{states_after, packed}
use Rattle.states.specs.Kept.{followed}
use Rattle.states.proofs.PassLaws.{Same, Under, under_top, under_onward, under_same, same_followed, left_stack, left_turn, left_begins, left_ends, left_depth, first-kept}
use Rattle.states.proofs.pass.follow.Goals as goal
use Rattle.states.proofs.pass.follow.Goals.{then-tag-eq0, else-tag-eq0}

pub loop-i-init : goal.loop-i-init
unfolding Under stacked
loop-i-init c =
    let a = c.args in
    let z = c.requires.4 in (
      omega arith,
      refl,
      z,
      omega arith,
      (omega arith, (omega (arith, z), tt)),
      ap (λ x. sets a.turns.now 1 (map packed (followed (contents_at a.file.now a.head).nodes a.words.now (0 ∷ x ∷ [])))) z ∙ left_begins (contents_at a.file.now a.head).nodes a.words.now a.turns.now,
    )

pub state_after-to-requires : goal.state_after-to-requires
state_after-to-requires c = let l = c.loop-i in under_top 31 (l.from ∷ stacked 0 l.stack (l.depth + 1)) l.invariant.4

pub overflow_add-turns : goal.overflow_add-turns
overflow_add-turns c =
    let l = c.loop-i in
    let small : l.from ≤ 31 = under_top 31 (l.from ∷ stacked 0 l.stack (l.depth + 1)) l.invariant.4 in
    omega arith

pub loop-i-preserved : goal.loop-i-preserved
loop-i-preserved c =
    let a = c.args in
    let l = c.loop-i in
    let ns = (contents_at a.file.now a.head).nodes in
    let tag = c.node_tag-tag.result in
    let to = c.state_after-to in
    let next = c.if-tag-eq0.from in
    let its : tag ≡ (item no_node ns (l.i + 1)).tag = c.node_tag-tag.ensures ∙ ap (λ n. (item no_node ns n).tag) c.narrow.ensures in
    let left : c.by_tag-depth.result ≡ cond (eqb tag 0) (l.depth - 1) (cond (eqb tag 1) (l.depth + 1) l.depth) =
    c.by_tag-depth.ensures ∙ ap (λ x. cond (eqb tag 0) x (cond (eqb tag 1) (l.depth + 1) l.depth)) c.saturating_sub.ensures in
    let above : next ≡ cond (eqb tag 0) (get_or l.stack l.depth 0) to.result =
    elim c.if-tag-eq0.branch [
      | then-tag-eq0 w ↦ rw (eq-eqb _ _ w.if-tag-eq0.true) w.from-is
      | else-tag-eq0 w ↦ rw (ne_eqb _ _ w.if-tag-eq0.false) w.from-is
    ] in
    let st : Same 0 (next ∷ stacked 0 (set l.stack (l.depth + 1) to.result) (c.by_tag-depth.result + 1)) (states_after tag to.result (stacked 0 l.stack (l.depth + 1))) =
    left_stack tag to.result l.stack l.depth next c.by_tag-depth.result (omega arith) l.invariant.2 above left in (
      omega (arith, left_depth tag l.depth c.by_tag-depth.result left),
      simp length-set l.invariant.1,
      first-kept 0 l.stack (l.depth + 1) to.result (omega arith) ∙ l.invariant.2,
      simp length-set l.invariant.3,
      under_same 31 (next ∷ stacked 0 (set l.stack (l.depth + 1) to.result) (c.by_tag-depth.result + 1)) (states_after tag to.result (stacked 0 l.stack (l.depth + 1))) st
          (under_onward 31 tag to.result (l.from ∷ stacked 0 l.stack (l.depth + 1)) to.ensures.1 l.invariant.4),
      ap (λ ts. sets (set l.turns (l.i + 1) (l.from + 256 * to.result)) (l.i + 1 + 1) (map packed ts))
          (same_followed (drop (l.i + 1) ns) (drop (l.i + 1) a.words.now)
          (next ∷ stacked 0 (set l.stack (l.depth + 1) to.result) (c.by_tag-depth.result + 1)) (states_after tag to.result (stacked 0 l.stack (l.depth + 1))) st)
          ∙ left_turn ns l.i a.words.now l.turns _ (l.from ∷ stacked 0 l.stack (l.depth + 1)) _ tag l.from to.result
          (omega (arith, nodes_held a.file.now a.head)) (omega arith) its refl to.ensures.0 refl l.invariant.5,
    )

pub returns : goal.returns
returns c =
    let a = c.args in
    let l = c.loop-i in
    left_ends (contents_at a.file.now a.head).nodes l.i (drop l.i a.words.now) l.turns (l.from ∷ stacked 0 l.stack (l.depth + 1)) (omega (arith, nodes_held a.file.now a.head)) ∙ l.invariant.5
