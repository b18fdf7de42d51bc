use Prim.Native.Nat.{◌≤◌}
use mathlib.Core.Path.{refl, sym, ap, ◌∙◌}
use native.Mathlib.Omega.{arith}
use lib.ListN.{length, replicate}
use Rattle.format.specs.Header.{room_for}
use Rattle.checking.specs.declared.Examined.{Examined}
use Rattle.placing.proofs.PlaceLaws.{too_small, over_kept, placing_refused, names_loud, surveyed_labels, answer_from_lem, over_from_lem}
use Rattle.placing.proofs.place.Goals as goal

pub returns-then-out-room_for : goal.returns-then-out-room_for
returns-then-out-room_for c =
    let a = c.args in
    let e = too_small a.file.now (length a.out.now) (omega (arith, c.if-out-room_for.true, c.room_for.ensures)) in
    (c.no_place.ensures ∙ sym e, sym (over_kept a.file.now a.out.now 17 0 (λ z. let no_way : ⊥ = omega (arith, z) in no_way) e))

pub place_body-requires : goal.place_body-requires
place_body-requires c =
    let told = sym (ap (λ (x : Examined). x.names) c.examine.ensures.0) ∙ c.in-Ok.is in
    (told, (surveyed_labels c.args.file.now c.in-Ok.head told (replicate 1025 0) _ c.examine.ensures.1 refl).1, omega (arith, c.if-out-room_for.false, c.room_for.ensures))

pub returns-in-Err : goal.returns-in-Err
returns-in-Err c =
    let a = c.args in
    let w = c.in-Err.first in
    let (e, loud) = names_loud a.file.now w (sym (ap (λ (x : Examined). x.names) c.examine.ensures.0) ∙ c.in-Err.is) in
    let p = placing_refused a.file.now (length a.out.now) w (omega (arith, c.if-out-room_for.false, c.room_for.ensures)) e loud in
    (c.no_place-in-Err.ensures ∙ sym p, sym (over_kept a.file.now a.out.now w.number w.place loud p))

pub returns-in-Ok : goal.returns-in-Ok
returns-in-Ok c =
    let a = c.args in
    let f = a.file.now in
    let h = c.in-Ok.head in
    let told = sym (ap (λ (x : Examined). x.names) c.examine.ensures.0) ∙ c.in-Ok.is in
    let roles = c.examine.new.roles in
    let labels = (surveyed_labels f h told (replicate 1025 0) roles c.examine.ensures.1 refl).0 in
    let wide : room_for f ≤ length a.out.now = omega (arith, c.if-out-room_for.false, c.room_for.ensures) in
    let e = c.place_body.ensures in
    (e.0 ∙ answer_from_lem f h told roles labels (length a.out.now) wide, e.1 ∙ over_from_lem f h told roles labels a.out.now wide)
