use Prim.Native.Nat.{◌+◌, ◌-◌, ◌<◌}
use mathlib.Core.Path.{◌≡◌, refl, sym, ap, subst, ◌∙◌}
use mathlib.Core.List.{[]}
use native.Mathlib.Omega.{arith}
use lib.ListN.{drop, length-set}
use Rattle.format.specs.Contents.{item, no_session, contents_at}
use Rattle.format.specs.declared.Session.{Session}
use Rattle.format.proofs.ContentsLaws.{sessions_held, from_item, none_past}
use Rattle.format.specs.Stacks.{stacked}
use Rattle.rules.specs.Schema.{schema_of}
use Rattle.rules.specs.Checking.{openings_from}
use Rattle.rules.specs.declared.Point.{Point}
use Rattle.rules.specs.Kept.{unpacking, Given}
use Rattle.rules.proofs.StackLaws.{contexts_push, waits_push, context_bare}
use Rattle.rules.proofs.judge.open_sessions.Goals as goal

pub loop-depth-init : goal.loop-depth-init
unfolding stacked openings_from
loop-depth-init c =
    let a = c.args in
    let none : drop (c.from-sessions.result - 0) (contents_at a.file.now a.head).sessions ≡ [] =
    none_past (contents_at a.file.now a.head).sessions (c.from-sessions.result - 0) (omega (arith, sessions_held a.file.now a.head, c.from-sessions.ensures)) in
    (refl, tt, rw none)

pub loop-depth-preserved : goal.loop-depth-preserved
unfolding openings_from
loop-depth-preserved c =
    let a = c.args in
    let l = c.loop-depth in
    let s = c.from-sessions.result in
    let S = (contents_at a.file.now a.head).sessions in
    let it = c.session-it in
    let more = c.user_roles-assigned in
    let its : it.result ≡ item no_session S (s - l.depth) = it.ensures ∙ ap (item no_session S) c.narrow.ensures in
    let turn = from_item no_session S (s - l.depth) (omega arith) (omega (arith, sessions_held a.file.now a.head, c.from-sessions.ensures)) in
    let one : s - (l.depth + 1) ≡ s - l.depth - 1 = omega arith in
    let p : Point = record { user = it.result.user; assigned = more.result; mask = it.result.mask; bound = 0 } in
    let small : it.result.user < 65534 = subst (λ (x : Session). x.user < 65534) (sym its) (c.requires.1.1 (s - l.depth)) in (
      simp length-set l.invariant.0,
      waits_push unpacking (Given (schema_of (contents_at a.file.now a.head))) 0 l.stack l.depth c.packed.result p (omega arith) c.packed.ensures.1 (omega arith) (more.ensures, small) l.invariant.1,
      rw (one, turn, ← its)
          (contexts_push unpacking [] l.stack l.depth c.packed.result p (omega arith) c.packed.ensures.1 (context_bare p.user p.assigned p.mask) l.invariant.2),
    )
