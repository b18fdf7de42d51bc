use mathlib.Core.Path.{◌∙◌}
use mathlib.Core.Bool.{and-eq-true_iff}
use lib.Dec.{leb}
use borrow.Author.Tests.{leb-true}
use Rattle.hours.proofs.StepLaws.{put_in, put_not}
use Rattle.hours.proofs.put_if.Goals as goal

pub with_role-requires : goal.with_role-requires
with_role-requires c = let a = c.args in leb-true a.role 16 ((and-eq-true_iff a.yes (leb a.role 16)).0 c.if-yes-role.true).1

pub returns-then-yes-role : goal.returns-then-yes-role
returns-then-yes-role c = let a = c.args in c.with_role.ensures ∙ put_in a.yes a.mask a.role c.if-yes-role.true

pub returns : goal.returns
returns c = let a = c.args in put_not a.yes a.mask a.role c.if-yes-role.false
