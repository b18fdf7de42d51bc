use Rattle.std.proofs.Common.{◌≡◌, ℕ, ◌-◌, List, length, drop, take, ap, ◌∙◌, nat_eq, arith}
use Rattle.std.specs.List.{starts_with}
use Rattle.std.proofs.lemmas.List.{drop_min}
use Rattle.std.proofs.lemmas.Slice.{between_is, between_to_end}
use Rattle.phrases.proofs.PhraseLaws.{starts_with-prefix, step_differ, step_short}
use Rattle.phrases.proofs.stands.Goals as goal

pub returns-then-at-s : goal.returns-then-at-s
returns-then-at-s c =
    let a = c.args in
    step_short a.text.now a.s.now a.from a.to a.at (omega arith) (omega arith) (omega arith)

pub returns-then-text-from : goal.returns-then-text-from
returns-then-text-from c =
    let a = c.args in
    step_differ a.text.now a.s.now a.from a.to a.at (omega arith) (omega arith) (omega arith) c.if-text-from.true

pub returns : goal.returns
returns c =
    let a = c.args in
    let rest : take (length a.s.now - c.min.result) (drop c.min.result a.s.now) ≡ drop a.at a.s.now =
    between_to_end a.s.now c.min.result (length a.s.now) (omega arith) ∙ ap (λ (n : ℕ). drop n a.s.now) c.min.ensures ∙ drop_min a.at a.s.now in
    c.starts_with.ensures.value ∙ ap (λ (q : List ℕ). starts_with nat_eq q (take (a.to - a.from) (drop a.from a.text.now))) rest
    ∙ ap (starts_with nat_eq (drop a.at a.s.now)) (between_is a.text.now a.from a.to) ∙ starts_with-prefix _ (drop a.at a.s.now)
