use mathlib.Core.Path.{◌∙◌}
use native.Mathlib.Omega.{arith}
use Rattle.masks.proofs.Forms.{with_form}
use Rattle.seating.proofs.GatherLaws.{with_none, with_far, with_one}
use Rattle.seating.proofs.sessions.with_session.Goals as goal

pub returns-then-k-eq0 : goal.returns-then-k-eq0
returns-then-k-eq0 c = let a = c.args in with_none a.mask a.k (omega arith)

pub returns-then-k-gt32 : goal.returns-then-k-gt32
returns-then-k-gt32 c = let a = c.args in with_far a.mask a.k (omega arith)

pub returns : goal.returns
returns c =
    let a = c.args in
    with_form 32 a.mask a.k (omega arith) (omega arith) ∙ with_one a.mask a.k (omega arith) (omega arith)
