use Rattle.format.specs.Contents.{contents_at}
use Rattle.rules.specs.declared.Way.TheVariants.{Sends, Receives}
use Rattle.rules.specs.Schema.{schema_of}
use Rattle.rules.proofs.GrantLaws.{granting}
use Rattle.lending.proofs.stepping.step_with.Goals as goal

pub step_in-requires : goal.step_in-requires
step_in-requires c =
    let a = c.args in
    let q = c.requires in
    let D = schema_of (contents_at a.file.now a.head) in
    let filled = c.fill_grants.ensures in (
      q.0,
      granting D Sends _ _ filled.0 q.1 filled.2,
      granting D Receives _ _ filled.1 q.2 filled.3,
      record { words = q.5; beside = q.6; threads = q.7; made = q.8 },
      q.9,
    )
