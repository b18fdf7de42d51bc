use Prim.Native.Nat.{◌+◌, ◌*◌}
use mathlib.Core.Path.{ap, ap₂}
use native.Mathlib.Omega.{arith}
use Rattle.merging.proofs.JoinLaws.{tables_fit, second_channels, tables_put}
use Rattle.merging.proofs.file.put_tables.Goals as goal

pub move_words-requires : goal.move_words-requires
move_words-requires c =
    let a = c.args in
    let p = c.requires in
    tables_fit a.first.now a.second.now a.one a.two p.0 a.whole p.1 _ (omega arith) _ _ _ c.from-5.ensures c.from-4.ensures
    (ap₂ ◌+◌ (ap₂ (λ x y. 4 * x + y) c.from.ensures c.from-2.ensures) (ap (λ x. 2 * x) c.from-3.ensures))

pub put_channels-requires : goal.put_channels-requires
put_channels-requires c =
    let a = c.args in
    let p = c.requires in
    second_channels a.first.now a.second.now a.one a.two p.0 a.whole p.1 _ (omega (arith, p.2)) _ c.shift_after.ensures

pub returns : goal.returns
returns c =
    let a = c.args in
    let p = c.requires in
    let one = c.put_users in
    let two = c.move_words in
    let three = c.put_channels in
    tables_put a.first.now a.second.now a.one a.two p.0 a.whole p.1 a.out.now one.new.out two.new.out three.new.out _ _ _ _
    (λ x. (c.shared_slice_known-1.given x).fits) c.from-5.ensures c.from-4.ensures
    (ap₂ ◌+◌ (ap₂ (λ x y. 4 * x + y) c.from.ensures c.from-2.ensures) (ap (λ x. 2 * x) c.from-3.ensures)) c.shift_after.ensures
    one.ensures two.ensures three.ensures
