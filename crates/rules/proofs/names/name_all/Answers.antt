use Prim.Native.Nat.{ℕ, ◌+◌, ◌-◌}
use mathlib.Core.Path.{◌≡◌, refl, ap, ap₂, ◌∙◌}
use native.Mathlib.Omega.{arith}
use borrow.Author.Rules.{rules}
use lib.ListN.{length, take, drop, replicate, length-drop, length-set}
use Rattle.std.proofs.lemmas.List.{length-take}
use Rattle.std.proofs.lemmas.Slice.{drop-put_mid}
use lib.Seq.{drop-set-lt}
use Rattle.format.specs.Contents.{contents_at}
use Rattle.format.specs.declared.Channel.{Channel}
use Rattle.rules.specs.Schema.{schema_of}
use Rattle.rules.specs.Kept.{entry}
use Rattle.rules.proofs.NameLaws.{users_named, channels_more}
use Rattle.rules.proofs.names.name_all.Goals as goal

pub loop-i-init : goal.loop-i-init
loop-i-init c =
    let a = c.args in
    let n = a.head.count.users in
    let few : c.from.result + 1 - 1 ≡ n = omega (arith, c.from.ensures) in
    let long : length (take (c.from.result + 1 - 1) (drop 1 a.names.now)) ≡ n = rw few (omega (arith, length-take n (drop 1 a.names.now), length-drop 1 a.names.now, c.requires.0.users)) in
    let all : c.fill.new.self ≡ replicate n (entry 0 1) = c.fill.ensures.after (λ y e. e) ∙ ap₂ (replicate {A = ℕ}) long c.paired.ensures in
    (refl, users_named (schema_of (contents_at a.file.now a.head)) n _ a.names.now c.fill.new.self c.requires.3 few (omega (arith, c.requires.0.users)) all, refl)

pub loop-i-preserved : goal.loop-i-preserved
loop-i-preserved c =
    let a = c.args in
    let l = c.loop-i in
    let it = c.channel-it in
    let at : c.from-in-loop-i.result ≡ l.i + 1 = c.from-in-loop-i.ensures in (
      simp length-set l.invariant.0,
      rw (at, c.paired-in-loop-i.ensures)
          (channels_more (schema_of (contents_at a.file.now a.head)) a.head.count.users l.i (l.i + 1) it.result.kind.0 (it.result.owner + 2) l.names refl
          c.requires.0.users (omega arith) (ap (λ (x : Channel). x.kind.0) it.ensures) (ap (λ (x : Channel). x.owner + 2) it.ensures) (omega (arith, c.requires.0.channels)) l.invariant.1),
      drop-set-lt 512 l.names (256 + c.from-in-loop-i.result) c.paired-in-loop-i.result (omega (arith, at, c.requires.0.channels)) ∙ l.invariant.2,
    )

pub returns : goal.returns
returns c =
    let a = c.args in
    let l = c.loop-i in
    let long : length c.fill.new.self ≡ c.from.result + 1 - 1 =
    omega (arith, c.fill.ensures.len, length-take (c.from.result + 1 - 1) (drop 1 a.names.now), length-drop 1 a.names.now, c.from.ensures, c.requires.0.users) in
    let past = drop-put_mid 1 (c.from.result + 1 - 1) a.names.now c.fill.new.self 512 (omega (arith, c.from.ensures, c.requires.0.users)) (omega arith) long in
    let all : l.i ≡ c.args.head.count.channels = omega arith in
    (search rules, rw all at l.invariant.1, l.invariant.2 ∙ past)
