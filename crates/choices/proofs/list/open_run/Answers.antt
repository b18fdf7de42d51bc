use Rattle.format.specs.Contents.{contents_at}
use Rattle.rules.specs.declared.Way.TheVariants.{Sends, Receives}
use Rattle.rules.specs.Schema.{schema_of}
use Rattle.rules.proofs.GrantLaws.{granting}
use Rattle.choices.proofs.list.open_run.Goals as goal

pub returns : goal.returns
returns c =
    let a = c.args in
    let p = c.requires in
    let D = schema_of (contents_at a.file.now a.head) in
    let filled = c.fill_grants.ensures in
    let opened = c.open_threads.ensures in
    (opened.0, opened.1, opened.2, granting D Sends _ _ filled.0 p.1 filled.2, granting D Receives _ _ filled.1 p.2 filled.3)
