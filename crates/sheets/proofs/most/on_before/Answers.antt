use mathlib.Core.Path.{sym, ◌∙◌}
use mathlib.Core.Bool.{not, ◌&&◌}
use lib.Dec.{eqb}
use Rattle.states.specs.declared.Turn.{Turn}
use Rattle.states.specs.States.{unpacked}
use Rattle.groups.proofs.WriteLaws.{switch_counted, one_at_most, on_switch}
use Rattle.sheets.proofs.most.on_before.Goals as goal

pub returns : goal.returns
returns c =
    let t : Turn = unpacked c.args.turn in
    (switch_counted 7 t.from t.to t.to ∙ sym (on_switch t), one_at_most (not (eqb t.from t.to) && not (eqb t.to 0)))
