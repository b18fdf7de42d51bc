-- Which records of a lent list code stores after what a choice comes to, by the numbers of their threads; 0 stands for none.
use Rattle.std.specs.Prelude.{ℕ, ◌+◌, ◌-◌, cond, List, ltb, set, drop}
use Rattle.std.proofs.Math.Seq.{paste}
use Rattle.steps.specs.declared.Thread.{Thread}
use Rattle.steps.specs.declared.Answer.{Answer}
use Rattle.steps.specs.declared.Answer.TheVariants.{Refused, Moves, Adds, Makes, Ends, Meets}

-- the thread whose record takes the first of the two threads that are left, of thread i
abbrev pub first_to : ℕ → Answer → ℕ
first_to i (Refused k) = 0
first_to i Moves = i
first_to i Adds = i
first_to i (Makes m) = i
first_to i Ends = 0
first_to i Meets = i

-- the one whose record takes the second, of n threads and the partner p
abbrev pub second_to : ℕ → ℕ → Answer → ℕ
second_to n p (Refused k) = 0
second_to n p Moves = 0
second_to n p Adds = n + 1
second_to n p (Makes m) = 0
second_to n p Ends = 0
second_to n p Meets = p

-- up to which of n threads those after thread i move down by one; none where that is i
abbrev pub down_to : ℕ → ℕ → Answer → ℕ
down_to n i (Refused k) = i
down_to n i Moves = i
down_to n i Adds = i
down_to n i (Makes m) = i
down_to n i Ends = n
down_to n i Meets = i

-- a list with another record of thread k, and one in which those after thread i up to thread n have moved down by one
abbrev pub put_at : List Thread → ℕ → Thread → List Thread
put_at l k t = cond (ltb 0 k) (set l (k - 1) t) l

abbrev pub closed : List Thread → ℕ → ℕ → List Thread
closed l i n = paste l (i - 1) (drop i l) (n - i)
