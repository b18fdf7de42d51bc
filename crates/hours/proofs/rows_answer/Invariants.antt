use mathlib.Core.Path.{◌≡◌}
use Prim.Native.Nat.{◌+◌, ◌-◌}
use Rattle.format.specs.Answers.{refused, first_of}
use Rattle.hours.specs.Hours.{rows, row_at, row_fits, rows_answer}
use Rattle.hours.proofs.rows_answer.Given as goal

abbrev pub invariant-loop-n : goal.invariant-loop-n
invariant-loop-n l = first_of (λ n. row_fits l.roles (row_at l.hours (n - 1))) (λ n. refused 23 n) l.n (rows l.hours + 1 - l.n) ≡ rows_answer l.roles l.hours
