use mathlib.Core.Path.{ap, ◌∙◌}
use Rattle.format.specs.Contents.{contents_at}
use Rattle.format.specs.declared.Session.{Session}
use Rattle.steps.specs.Threads.{zeros}
use Rattle.choices.proofs.RunLaws.{opened_item}
use Rattle.choices.proofs.list.opening.Goals as goal

pub returns : goal.returns
returns c =
    let a = c.args in
    ap (λ (x : Session). record { user = x.user; node = x.root; mask = x.mask; vars = zeros }) c.session-it.ensures
    ∙ opened_item (contents_at a.file.now a.head).sessions a.k
