use Prim.Native.Nat.{◌<◌}
use mathlib.Core.Path.{sym, ap, ◌∙◌}
use mathlib.Core.List.{List}
use lib.ListN.{length}
use native.Mathlib.Omega.{arith}
use Rattle.format.specs.Contents.{contents_at}
use Rattle.format.specs.declared.Session.{Session}
use Rattle.format.proofs.ContentsLaws.{sessions_held}
use Rattle.sheets.proofs.MostLaws.{end_last, end_next}
use Rattle.sheets.proofs.most.end_of.Goals as goal

pub returns-then-k-head : goal.returns-then-k-head
returns-then-k-head c =
    let a = c.args in
    end_last (contents_at a.file.now a.head).sessions a.k a.head.count.nodes c.from.result (c.if-k-head.true ∙ sym (sessions_held a.file.now a.head)) c.from.ensures

pub returns : goal.returns
returns c =
    let a = c.args in
    let ss : List Session = (contents_at a.file.now a.head).sessions in
    let short : a.k < length ss = omega (arith, sessions_held a.file.now a.head) in
    end_next ss a.k a.head.count.nodes c.from-2.result short (c.from-2.ensures ∙ ap (λ (s : Session). s.root) c.session-next.ensures)
