use borrow.Author.Tests.{eq-eqb, ne_eqb, lt-ltb, le-ltb}
use Rattle.checking_at.proofs.sooner.Goals as goal

pub returns-then-first-eq0 : goal.returns-then-first-eq0
returns-then-first-eq0 c = rw (eq-eqb c.args.first.number 0 c.if-first-eq0.true)

pub returns-then-second-eq0 : goal.returns-then-second-eq0
returns-then-second-eq0 c = let a = c.args in rw (ne_eqb a.first.number 0 c.if-first-eq0.false, eq-eqb a.second.number 0 c.if-second-eq0.true)

pub returns-then-second-first : goal.returns-then-second-first
returns-then-second-first c =
    let a = c.args in
    rw (ne_eqb a.first.number 0 c.if-first-eq0.false, ne_eqb a.second.number 0 c.if-second-eq0.false, lt-ltb a.second.place a.first.place c.if-second-first.true)

pub returns : goal.returns
returns c =
    let a = c.args in
    rw (ne_eqb a.first.number 0 c.if-first-eq0.false, ne_eqb a.second.number 0 c.if-second-eq0.false, le-ltb a.second.place a.first.place c.if-second-first.false)
