use native.Mathlib.Omega.{arith}
use Prim.Native.Nat.{◌+◌}
use mathlib.Core.Path.{refl, sym, ap, ◌∙◌}
use lib.ListN.{get_or}
use Rattle.format.specs.Contents.{contents_at}
use Rattle.format.specs.Writing.{nodes_put}
use Rattle.format.proofs.ContentsLaws.{nodes_held}
use Rattle.states.specs.States.{unpacked}
use Rattle.groups.specs.Groups.{size_of, sizes_of}
use Rattle.groups.proofs.WriteLaws.{turns_all, sizes_more, groups_all, groups_end, groups_turn}
use borrow.Author.Rules.{rules}
use Rattle.groups.proofs.put_groups.Goals as goal

pub loop-n-init : goal.loop-n-init
loop-n-init c =
    let a = c.args in
    let n = a.head.count.nodes in (
      omega arith,
      refl,
      ap (λ ts. 1 + sizes_of ts) (turns_all a.turns.now n),
      ap (λ ns. nodes_put a.whole 1 ns a.out.now) (groups_all (contents_at a.file.now a.head).nodes n a.turns.now a.starts.now),
    )

pub put_group-at-requires : goal.put_group-at-requires
put_group-at-requires c =
    let a = c.args in
    let l = c.loop-n in
    let more = sizes_more a.turns.now l.n a.head.count.nodes (omega arith) (omega arith) in
    let same = ap (λ k. size_of (unpacked (get_or a.turns.now k 0))) c.from.ensures in
    (omega arith, omega (arith, more, same, l.invariant.2), omega arith, omega arith)

pub loop-n-preserved : goal.loop-n-preserved
loop-n-preserved c =
    let a = c.args in
    let l = c.loop-n in
    let g = c.put_group-at in
    let n = a.head.count.nodes in
    let ns = (contents_at a.file.now a.head).nodes in
    let more = sizes_more a.turns.now l.n n (omega arith) (omega arith) in
    let step = g.ensures.0 ∙ ap (λ k. l.at + size_of (unpacked (get_or a.turns.now k 0))) c.from.ensures in (
      omega (arith, step),
      search rules,
      omega (arith, step, more, l.invariant.2),
      groups_turn a.whole ns a.turns.now a.starts.now l.out g.new.out _ n l.n l.at g.result _ _ (omega arith) (omega arith) (sym (nodes_held a.file.now a.head)) (omega arith)
          c.from.ensures c.node.ensures g.ensures.0 g.ensures.1 l.invariant.3,
    )

pub returns : goal.returns
returns c =
    let a = c.args in
    let l = c.loop-n in
    let ns = (contents_at a.file.now a.head).nodes in
    groups_end a.whole ns a.head.count.nodes a.turns.now a.starts.now l.out _ l.n l.at (omega (arith, nodes_held a.file.now a.head)) l.invariant.3

pub returns-2 : goal.returns-2
returns-2 c =
    let a = c.args in
    let l = c.loop-n in
    let g = c.put_group-at in
    let n = a.head.count.nodes in
    let ns = (contents_at a.file.now a.head).nodes in
    let last = groups_turn a.whole ns a.turns.now a.starts.now l.out g.new.out _ n l.n l.at g.result _ _ (omega arith) (omega arith) (sym (nodes_held a.file.now a.head)) (omega arith)
    c.from.ensures c.node.ensures g.ensures.0 g.ensures.1 l.invariant.3 in
    groups_end a.whole ns n a.turns.now a.starts.now g.new.out _ (l.n + 1) g.result (omega (arith, nodes_held a.file.now a.head)) last
