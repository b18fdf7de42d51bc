use mathlib.Core.Bool.{true, false}
use Rattle.masks.specs.Mask.{has}
use mathlib.Core.Path.{◌≡◌, sym, ◌∙◌}
use Rattle.seating.proofs.sessions.put_session.Goals as goal

pub returns-then-has_role : goal.returns-then-has_role
returns-then-has_role c =
    let a = c.args in
    let yes : has a.active a.role.0 ≡ true = sym c.has_role.ensures ∙ c.if-has_role.true in
    c.with_session.ensures ∙ sym (rw yes)

pub returns : goal.returns
returns c =
    let a = c.args in
    let no : has a.active a.role.0 ≡ false = sym c.has_role.ensures ∙ c.if-has_role.false in
    sym (rw no)
