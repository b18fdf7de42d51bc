use Rattle.turning.proofs.own_refusal.Goals as goal

pub returns-then-number-version : goal.returns-then-number-version
returns-then-number-version c = rw c.if-number-version.true

pub returns : goal.returns
returns c = rw c.if-number-version.false
