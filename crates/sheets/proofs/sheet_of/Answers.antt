use Prim.Native.Nat.{◌<◌}
use mathlib.Core.Path.{refl, sym, ap, ◌∙◌, subst}
use native.Mathlib.Omega.{arith}
use Rattle.sheets.specs.declared.Sheet.{Sheet}
use Rattle.sheets.specs.Sheets.{added, Small}
use Rattle.sheets.specs.Entries.{entry_of}
use Rattle.std.specs.Option.{option_copied}
use Rattle.sheets.proofs.Loop.{Going, small_blank, small_added, stopped, filled, goes_on}
use Rattle.sheets.proofs.sheet_of.Goals as goal
use Rattle.sheets.proofs.sheet_of.Goals.{else-loop-test, then-loop-test+in_default}

pub loop-init : goal.loop-init
loop-init c =
    let e = c.begin-s.ensures in
    record {
      files = ap (λ (s : Sheet). s.files) e;
      small = subst Small (sym e) small_blank;
      going = subst (λ (s : Sheet). Going entry_of c.args.input.now s c.args.input.now) (sym e) refl;
      roles = refl;
      turns = refl;
      starts = refl;
    }

pub loop-preserved : goal.loop-preserved
loop-preserved c =
    let v = c.loop in
    let w = c.entry_of-e in
    let f = c.in-Some.file.now in
    let more : v.s.files < 1000 = omega (arith, v.invariant.files) in
    let e = c.add-s.ensures ∙ ap (added v.s) w.ensures.0 in
    let count = ap (λ (s : Sheet). s.files) e in
    record {
      files = omega (arith, count, v.invariant.files);
      small = subst Small (sym c.add-s.ensures) (small_added v.s w.result v.invariant.small w.ensures.1 more);
      going = goes_on entry_of c.args.input.now v.s c.add-s.result v.rest.now f _ v.invariant.going more c.in-Some.ensures e refl;
      roles = w.auto.roles ∙ v.invariant.roles;
      turns = w.auto.turns ∙ v.invariant.turns;
      starts = w.auto.starts ∙ v.invariant.starts;
    }

pub returns : goal.returns
returns c =
    let v = c.loop in
    c.close.ensures
    ∙ elim c.loop-test.branch [
      | else-loop-test w ↦ filled entry_of c.args.input.now v.s v.rest.now v.invariant.going (omega (arith, v.invariant.files))
      | then-loop-test+in_default w ↦ stopped entry_of c.args.input.now v.s v.rest.now v.invariant.going (ap option_copied (sym w.in_default.is) ∙ w.first_file.ensures)
    ]
