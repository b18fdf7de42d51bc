use Rattle.hours.specs.Hours.{table_answer}
use Rattle.hours.proofs.table_answer.Goals as goal

pub returns-then-n-minute : goal.returns-then-n-minute
unfolding table_answer
returns-then-n-minute c = rw c.if-n-minute.true

pub returns : goal.returns
unfolding table_answer
returns c = rw c.if-n-minute.false
