use mathlib.Core.Path.{sym, ◌∙◌}
use Rattle.checking.proofs.CheckLaws.{entered_fine, entered_refused}
use Rattle.checking.proofs.read_names.Goals as goal

pub returns-in-Err : goal.returns-in-Err
returns-in-Err c = (entered_refused c.args.file.now _ (sym c.in-Err.ensures)).1

pub returns-in-Ok : goal.returns-in-Ok
returns-in-Ok c = sym (entered_fine c.args.file.now _ (sym c.in-Ok.ensures)).2
