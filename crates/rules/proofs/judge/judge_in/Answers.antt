use Prim.Native.Nat.{ℕ}
use mathlib.Core.Path.{refl}
use native.Mathlib.Omega.{arith}
use lib.ListN.{length-replicate}
use Rattle.format.specs.Contents.{contents_at}
use Rattle.rules.specs.Schema.{schema_of}
use Rattle.rules.specs.declared.Way.TheVariants.{Sends, Receives}
use Rattle.rules.proofs.GrantLaws.{granting}
use Rattle.rules.proofs.judge.judge_in.Goals as goal

pub walk-requires : goal.walk-requires
walk-requires g c =
    let a = c.args in
    let p = c.requires in
    let D = schema_of (contents_at a.file.now a.head) in
    let filled = c.fill_grants.ensures in
    let names = c.name_all.ensures in (
      p.0,
      p.1,
      granting D Sends _ _ filled.0 refl filled.2,
      granting D Receives _ _ filled.1 refl filled.3,
      omega (arith, names.0, length-replicate {A = ℕ} g.row.NAMES 0, p.2),
      names.1,
      omega (arith, length-replicate {A = ℕ} g.row.STACK 0, p.4),
      p.6,
    )
