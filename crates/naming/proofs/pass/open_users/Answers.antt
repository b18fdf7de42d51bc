use Prim.Native.Nat.{◌+◌, ◌-◌, ◌%◌, ◌<◌}
use mathlib.Core.Path.{◌≡◌, refl, sym, ap, ap₂, subst, ◌∙◌}
use mathlib.Core.List.{[], map}
use native.Mathlib.Omega.{arith}
use lib.ListN.{drop, length-set}
use Rattle.format.specs.Contents.{item, no_session, contents_at}
use Rattle.format.specs.declared.Session.{Session}
use Rattle.format.proofs.ContentsLaws.{sessions_held, from_item, none_past}
use Rattle.rules.specs.declared.Point.{Point}
use Rattle.format.specs.Stacks.{stacked}
use Rattle.rules.specs.Schema.{schema_of}
use Rattle.rules.specs.Checking.{openings_from}
use Rattle.naming.specs.Scopes.{scope_from, scope_of}
use Rattle.rules.specs.Kept.{kind_in, owner_in, unmasked, Ownable}
use Rattle.naming.specs.Kept.{bare_point, unpaired}
use Rattle.rules.proofs.StackLaws.{contexts_push, waits_push, context_bare}
use Rattle.naming.proofs.ScopeLaws.{scope_pushed}
use Rattle.naming.proofs.pass.open_users.Goals as goal

pub loop-depth-init : goal.loop-depth-init
unfolding stacked openings_from
loop-depth-init c =
    let a = c.args in
    let none : drop (c.from-sessions.result - 0) (contents_at a.file.now a.head).sessions ≡ [] =
    none_past (contents_at a.file.now a.head).sessions (c.from-sessions.result - 0) (omega (arith, sessions_held a.file.now a.head, c.from-sessions.ensures)) in
    (refl, tt, rw none, refl, rw none)

pub loop-depth-preserved : goal.loop-depth-preserved
unfolding openings_from scope_of scope_from
loop-depth-preserved c =
    let a = c.args in
    let l = c.loop-depth in
    let s = c.from-sessions.result in
    let D = schema_of (contents_at a.file.now a.head) in
    let S = (contents_at a.file.now a.head).sessions in
    let it = c.session-it in
    let its : it.result ≡ item no_session S (s - l.depth) = it.ensures ∙ ap (item no_session S) c.narrow.ensures in
    let turn = from_item no_session S (s - l.depth) (omega arith) (omega (arith, sessions_held a.file.now a.head, c.from-sessions.ensures)) in
    let one : s - (l.depth + 1) ≡ s - l.depth - 1 = omega arith in
    let p : Point = bare_point D it.result.user 0 in
    let low : kind_in c.paired.result ≡ it.result.user = omega (arith, c.paired.ensures) in
    let high : owner_in c.paired.result ≡ 0 = omega (arith, c.paired.ensures) in
    let is : unpaired D c.paired.result ≡ p = ap₂ (bare_point D) low high in
    let small : it.result.user < 65534 = subst (λ (x : Session). x.user < 65534) (sym its) (c.requires.1.1 (s - l.depth)) in (
      simp length-set l.invariant.0,
      waits_push (unpaired D) Ownable 0 l.stack l.depth c.paired.result p (omega arith) is (omega arith) small l.invariant.1,
      rw (one, turn, ← its) (contexts_push (unpaired D) [] l.stack l.depth c.paired.result p (omega arith) is (context_bare p.user p.assigned 0) l.invariant.2),
      simp length-set l.invariant.3,
      rw (one, turn, ← its) (scope_pushed l.waits l.depth (it.result.user % 64) (record { user = it.result.user; mask = 0; vars = [] }) (map unmasked (openings_from (drop (s - l.depth) S))) (omega arith) refl l.invariant.4),
    )
