use mathlib.Core.Path.{ap, ◌∙◌}
use native.Mathlib.Omega.{arith}
use lib.Seq.{sets}
use Rattle.format.specs.Words.{bytes_of}
use Rattle.format.specs.Header.{head_words}
use Rattle.format.specs.Contents.{contents_at}
use Rattle.format.specs.Writing.{nodes_put}
use Rattle.format.specs.declared.Head.{Head}
use Rattle.groups.specs.Groups.{groups_from, with_nodes, turns_in}
use Rattle.groups.proofs.WriteLaws.{turns_counted, file_put}
use Rattle.groups.proofs.put_file.Goals as goal

pub put_groups-requires : goal.put_groups-requires
put_groups-requires c =
    let p = c.requires in
    let is = c.with_nodes-whole.ensures in
    let count = ap (λ (h : Head). h.count.nodes) is in
    let place = ap (λ (h : Head). h.at.nodes) is in
    (p.0, p.1, count ∙ p.3, omega (arith, count), omega (arith, count, place))

pub returns : goal.returns
returns c =
    let a = c.args in
    let pre = c.requires in
    let one = c.put_head in
    let two = c.put_tables in
    let three = c.put_sessions in
    let four = c.put_groups in
    let n = a.head.count.nodes in
    let whole = c.with_nodes-whole.ensures ∙ ap (with_nodes a.head) pre.3 in
    let head = one.ensures ∙ ap (λ h. sets a.out.now 0 (bytes_of (head_words h))) whole in
    let nodes = four.ensures ∙ ap (λ h. nodes_put h 1 (groups_from a.starts.now (contents_at a.file.now a.head).nodes (turns_in a.turns.now n)) three.new.out) whole in
    file_put a.file.now a.head (turns_in a.turns.now n) a.starts.now a.out.now one.new.out two.new.out three.new.out four.new.out
    pre.0 (turns_counted a.turns.now n (omega (arith, pre.0.nodes, pre.1))) head two.ensures three.ensures nodes (omega (arith, pre.3, pre.4))
