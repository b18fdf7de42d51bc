use Rattle.std.proofs.Common.{ℕ, ◌+◌, drop, ap, ◌∙◌}
use Rattle.std.specs.List.{prefix_len}
use Rattle.std.specs.Char.{is_ascii_digit}
use Rattle.reasons.proofs.DigitsRead.{digits_taken}
use Rattle.reasons.proofs.digits.digits_end.Goals as goal

pub returns : goal.returns
returns c =
    let a = c.args in
    ap (λ (k : ℕ). a.at + k) (c.leading_digits.ensures.value ∙ ap (prefix_len is_ascii_digit) c.five_from.ensures.part ∙ digits_taken 5 (drop a.at a.s.now))
