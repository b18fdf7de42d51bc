use Prim.Native.Nat.{◌+◌, ◌-◌, ◌≤◌}
use mathlib.Core.Path.{◌≡◌, refl, sym, ap, ◌∙◌}
use mathlib.Core.Bool.{cond}
use mathlib.Core.List.{[], ◌∷◌, ◌++◌}
use native.Mathlib.Omega.{arith}
use lib.Dec.{eqb}
use lib.ListN.{length, get_or, drop, length-set}
use Rattle.format.specs.Contents.{item, no_node, contents_at}
use Rattle.format.specs.Stacks.{stacked}
use Rattle.format.proofs.ContentsLaws.{nodes_held}
use Rattle.states.specs.Kept.{no_saving, savings, kept_all}
use Rattle.states.proofs.PassLaws.{Same, labels_from, right_small, right_savings, right_words, right_begins, right_empty, right_depth, first-kept}
use Rattle.states.proofs.pass.decide.Goals as goal

pub loop-i-init : goal.loop-i-init
unfolding stacked
loop-i-init c =
    let a = c.args in
    let n = c.from-i.result in
    let ns = (contents_at a.file.now a.head).nodes in
    let all : length ns ≤ n = omega (arith, nodes_held a.file.now a.head, c.from-i.ensures) in (
      omega arith,
      refl,
      c.requires.5,
      refl,
      λ k. ap (λ x. get_or (no_saving ∷ x ∷ []) k no_saving) c.requires.5 ∙ right_begins ns a.roles.now n all k,
      ap (λ k. drop k a.words.now) c.from-i.ensures ∙ right_empty ns a.roles.now (drop a.head.count.nodes a.words.now) n all,
    )

pub keep-it-requires : goal.keep-it-requires
keep-it-requires c =
    let a = c.args in
    let l = c.loop-i in
    let i = l.i - 1 in
    let ns = (contents_at a.file.now a.head).nodes in
    let back : i + 1 ≡ l.i = omega arith in
    let (one, two) =
    right_small ns a.roles.now i (omega (arith, nodes_held a.file.now a.head)) (omega arith) l.row l.stack l.depth l.invariant.2
    (λ k. l.invariant.4 k ∙ ap (λ x. get_or (savings (labels_from ns a.roles.now x)) k no_saving) (sym back)) c.node_tag-tag.result
    (c.node_tag-tag.ensures ∙ ap (λ n. (item no_node ns n).tag) c.narrow.ensures) (omega arith) in
    (one, two, c.requires.2)

pub loop-i-preserved : goal.loop-i-preserved
loop-i-preserved c =
    let a = c.args in
    let l = c.loop-i in
    let i = l.i - 1 in
    let ns = (contents_at a.file.now a.head).nodes in
    let rs = a.roles.now in
    let ends = drop a.head.count.nodes a.words.now in
    let tag = c.node_tag-tag.result in
    let it = c.keep-it in
    let back : i + 1 ≡ l.i = omega arith in
    let its : tag ≡ (item no_node ns (i + 1)).tag = c.node_tag-tag.ensures ∙ ap (λ n. (item no_node ns n).tag) c.narrow.ensures in
    let st : Same no_saving (l.row ∷ stacked no_saving l.stack (l.depth + 1)) (savings (labels_from ns rs (i + 1))) = λ k. l.invariant.4 k ∙ ap (λ x. get_or (savings (labels_from ns rs x)) k no_saving) (sym back) in
    let done : drop (i + 1) l.words ≡ kept_all (labels_from ns rs (i + 1)) ++ ends =
    ap (λ x. drop x l.words) back ∙ l.invariant.5 ∙ ap (λ x. kept_all (labels_from ns rs x) ++ ends) (sym back) in
    let held_All = nodes_held a.file.now a.head in
    let left : c.by_tag-depth.result ≡ cond (eqb tag 0) (l.depth + 1) (cond (eqb tag 1) (l.depth - 1) l.depth) =
    c.by_tag-depth.ensures ∙ ap (λ x. cond (eqb tag 0) (l.depth + 1) (cond (eqb tag 1) x l.depth)) c.saturating_sub.ensures in
    let p = c.requires in (
      omega (arith, right_depth tag l.depth c.by_tag-depth.result left),
      simp length-set l.invariant.1,
      first-kept no_saving l.stack (l.depth + 1) l.row (omega arith) ∙ l.invariant.2,
      simp length-set l.invariant.3,
      right_savings ns rs i (omega (arith, held_All)) (omega (arith, p.0.nodes, p.1)) l.row l.stack l.depth l.invariant.2 st tag its (omega (arith, p.3))
          it.result.row c.by_tag-depth.result it.ensures.0 left,
      right_words ns rs i (omega (arith, held_All)) (omega (arith, p.0.nodes, p.1)) l.row l.stack l.depth l.invariant.2 st tag its (omega (arith, p.3))
          l.words ends it.result.word it.ensures.1 (omega (arith, p.4)) done,
    )
