-- How code hands back what a choice comes to: the answer, and beside it two threads.
use Rattle.std.specs.Prelude.{ℕ, cond, eqb, leb}
use Rattle.steps.specs.declared.Thread.{Thread}
use Rattle.steps.specs.declared.Partner.{Partner}
use Rattle.steps.specs.declared.Partner.TheVariants.{Alone, With, Missing}
use Rattle.steps.specs.declared.Outcome.{Outcome}
use Rattle.steps.specs.declared.Outcome.TheVariants.{Refused, Moves, Adds, Makes, Ends, Meets}
use Rattle.steps.specs.declared.Answer.{Answer}
use Rattle.steps.specs.declared.Answer.TheVariants as answers
use Rattle.steps.specs.declared.Acted.{Acted}
use Rattle.steps.specs.Threads.{no_thread}

-- the partner that a choice names by its number, where there are so many threads
abbrev pub partner_of : ℕ → ℕ → Thread → Partner
partner_of threads p r = cond (eqb p 0) Alone (cond (leb p threads) (With r) Missing)

-- an outcome; where it leaves fewer than two threads, no thread stands for the rest
abbrev pub acted_of : Outcome → Acted
acted_of (Refused n) = record { answer = answers.Refused n; first = no_thread; second = no_thread }
acted_of (Moves t) = record { answer = answers.Moves; first = t; second = no_thread }
acted_of (Adds q) = record { answer = answers.Adds; first = q.first; second = q.second }
acted_of (Makes q) = record { answer = answers.Makes q.made; first = q.thread; second = no_thread }
acted_of Ends = record { answer = answers.Ends; first = no_thread; second = no_thread }
acted_of (Meets q) = record { answer = answers.Meets; first = q.first; second = q.second }

-- and back
abbrev pub outcome_by : Answer → Thread → Thread → Outcome
outcome_by (answers.Refused n) t u = Refused n
outcome_by answers.Moves t u = Moves t
outcome_by answers.Adds t u = Adds (record { first = t; second = u })
outcome_by (answers.Makes m) t u = Makes (record { thread = t; made = m })
outcome_by answers.Ends t u = Ends
outcome_by answers.Meets t u = Meets (record { first = t; second = u })

abbrev pub outcome_of : Acted → Outcome
outcome_of a = outcome_by a.answer a.first a.second
