use mathlib.Core.Path.{◌≡◌, refl, ap, ◌∙◌}
use Prim.Native.Nat.{◌+◌, ◌<◌}
use native.Mathlib.Omega.{arith}
use lib.ListN.{length}
use Rattle.format.specs.Contents.{contents_at}
use Rattle.format.specs.declared.Role.{Role}
use Rattle.format.proofs.ContentsLaws.{roles_held}
use Rattle.rules.specs.declared.Way.TheVariants.{Sends, Receives}
use Rattle.rules.specs.Schema.{schema_of}
use Rattle.rules.specs.Kept.{add_role}
use Rattle.rules.proofs.GrantLaws.{grants_begin, grants_more, grants_length, beyond_none, beyond_more}
use Rattle.rules.proofs.grants.fill_grants.Goals as goal

pub loop-i-init : goal.loop-i-init
loop-i-init c = let a = c.args in
    let D = schema_of (contents_at a.file.now a.head) in
    let p = c.requires in (
      refl,
      refl,
      p.3 ∙ grants_begin D Sends 0 (length a.sends.now),
      p.4 ∙ grants_begin D Receives 0 (length a.receives.now),
      beyond_none D Sends,
      beyond_none D Receives,
    )

pub loop-i-preserved : goal.loop-i-preserved
loop-i-preserved c =
    let a = c.args in
    let l = c.loop-i in
    let C = contents_at a.file.now a.head in
    let it = c.role-it in
    let j = c.juniors-juniors in
    let added = c.add_role.ensures in
    let within : l.i < length C.roles = omega (arith, roles_held a.file.now a.head) in
    let own-sends = ap (λ (x : Role). x.sends) it.ensures in
    let own-receives = ap (λ (x : Role). x.receives) it.ensures in
    let s = added.0 ∙ ap (add_role it.result.sends j.result (l.i + 1) 0) l.invariant.2
    ∙ grants_more C Sends it.result.sends j.result l.i 0 (length a.sends.now) within own-sends j.ensures in
    let r = added.1 ∙ ap (add_role it.result.receives j.result (l.i + 1) 0) l.invariant.3
    ∙ grants_more C Receives it.result.receives j.result l.i 0 (length a.receives.now) within own-receives j.ensures in (
      ap length s ∙ grants_length (schema_of C) Sends (l.i + 1) 0 (length a.sends.now),
      ap length r ∙ grants_length (schema_of C) Receives (l.i + 1) 0 (length a.receives.now),
      s,
      r,
      beyond_more C Sends it.result.sends j.result l.i within own-sends j.ensures (omega arith) l.invariant.4,
      beyond_more C Receives it.result.receives j.result l.i within own-receives j.ensures (omega arith) l.invariant.5,
    )

pub returns : goal.returns
returns c =
    let a = c.args in
    let l = c.loop-i in
    let held : l.i ≡ length (contents_at a.file.now a.head).roles = omega (arith, roles_held a.file.now a.head) in
    (rw held at l.invariant.2, rw held at l.invariant.3, rw held at l.invariant.4, rw held at l.invariant.5)
