-- How much of a long input has to be kept. What is longer than the largest file is answered by its head and by whether its length is odd.
use Rattle.std.specs.Prelude.{ℕ, ◌+◌, ◌-◌, ◌%◌, min}
use Rattle.format.specs.Header.{largest}

-- the number of bytes that stand for so many: all of them, or, of more than the largest file has, one byte more than that for an odd number and two for an even one
abbrev pub enough : ℕ → ℕ
enough n = min n (largest + 2 - n % 2)
