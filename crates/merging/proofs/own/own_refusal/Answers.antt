use Rattle.merging.proofs.own.own_refusal.Goals as goal

pub returns-then-first-version : goal.returns-then-first-version
returns-then-first-version c = rw c.if-first-version.true

pub returns : goal.returns
returns c = rw c.if-first-version.false
