use mathlib.Core.Path.{sym, ap, ◌∙◌}
use Rattle.checking.specs.declared.Examined.{Examined}
use Rattle.checking.proofs.CheckLaws.{check_early, check_late}
use Rattle.checking.proofs.check.Goals as goal

pub returns-in-Err : goal.returns-in-Err
returns-in-Err c = check_early c.args.file.now _ (sym (ap (λ (x : Examined). x.names) c.examine-found.ensures.0) ∙ c.in-Err.is)

pub returns-in-Ok : goal.returns-in-Ok
returns-in-Ok c =
    let found = c.examine-found.ensures.0 in
    ap (λ (x : Examined). x.roles) found ∙ check_late c.args.file.now _ (sym (ap (λ (x : Examined). x.names) found) ∙ c.in-Ok.is)
