use Rattle.std.proofs.Common.{◌≡◌, ℕ, ◌+◌, ◌-◌, List, length, drop, take, ap, ◌∙◌, nat_eq, arith}
use Rattle.std.specs.List.{starts_with}
use Rattle.std.proofs.lemmas.List.{drop_min}
use Rattle.std.proofs.lemmas.Slice.{between_to_end}
use Rattle.rows.proofs.StandLaws.{starts_with-stands}
use Rattle.rows.proofs.words.same_words.Goals as goal

pub returns : goal.returns
returns c =
    let a = c.args in
    let all : a.from + a.n - a.from ≡ a.n = omega arith in
    let rest : take (length a.states.now - c.min.result) (drop c.min.result a.states.now) ≡ drop a.at a.states.now =
    between_to_end a.states.now c.min.result (length a.states.now) (omega arith) ∙ ap (λ (n : ℕ). drop n a.states.now) c.min.ensures ∙ drop_min a.at a.states.now in
    c.starts_with.ensures.value ∙ ap (λ (q : List ℕ). starts_with nat_eq q (take (a.from + a.n - a.from) (drop a.from a.table.now))) rest
    ∙ ap (λ (m : ℕ). starts_with nat_eq (drop a.at a.states.now) (take m (drop a.from a.table.now))) all
    ∙ starts_with-stands a.states.now (take a.n (drop a.from a.table.now)) a.at
