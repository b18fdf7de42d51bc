use Prim.Native.Nat.{◌<◌}
use mathlib.Core.Path.{subst}
use native.Mathlib.Omega.{arith}
use Rattle.steps.specs.declared.Answer.{Answer}
use Rattle.lending.specs.Walk.{second_at}
use Rattle.lending.proofs.StepLaws.{read_as}
use Rattle.lending.proofs.stepping.read_back.Goals as goal

pub returns-in-Refused : goal.returns-in-Refused
returns-in-Refused c =
    let a = c.args in
    let is = c.in-Refused.is in
    let none = c.no_thread-none.ensures in
    read_as a.words.now a.count a.at a.to a.answer _ _ is (λ j. record { answer = is j; first = none j; second = none j })

pub returns-in-Moves : goal.returns-in-Moves
returns-in-Moves c =
    let a = c.args in
    let is = c.in-Moves.is in
    let none = c.no_thread-none.ensures in
    let own = c.thread_at-own.ensures in
    read_as a.words.now a.count a.at a.to a.answer _ _ is (λ j. record { answer = is j; first = own j; second = none j })

pub thread_at-last-requires : goal.thread_at-last-requires
thread_at-last-requires c =
    let a = c.args in
    let low = subst (λ (x : Answer). second_at a.count a.to x < 64) c.in-Adds.is c.requires.2 in
    omega (arith, c.requires.0, low)

pub returns-in-Adds : goal.returns-in-Adds
returns-in-Adds c =
    let a = c.args in
    let is = c.in-Adds.is in
    let own = c.thread_at-own.ensures in
    let last = c.thread_at-last.ensures in
    read_as a.words.now a.count a.at a.to a.answer _ _ is (λ j. record { answer = is j; first = own j; second = last j })

pub returns-in-Makes : goal.returns-in-Makes
returns-in-Makes c =
    let a = c.args in
    let is = c.in-Makes.is in
    let none = c.no_thread-none.ensures in
    let own = c.thread_at-own.ensures in
    read_as a.words.now a.count a.at a.to a.answer _ _ is (λ j. record { answer = is j; first = own j; second = none j })

pub returns-in-Ends : goal.returns-in-Ends
returns-in-Ends c =
    let a = c.args in
    let is = c.in-Ends.is in
    let none = c.no_thread-none.ensures in
    read_as a.words.now a.count a.at a.to a.answer _ _ is (λ j. record { answer = is j; first = none j; second = none j })

pub thread_at-other-requires : goal.thread_at-other-requires
thread_at-other-requires c =
    let a = c.args in
    let low = subst (λ (x : Answer). second_at a.count a.to x < 64) c.in-Meets.is c.requires.2 in
    omega (arith, c.requires.0, low)

pub returns-in-Meets : goal.returns-in-Meets
returns-in-Meets c =
    let a = c.args in
    let is = c.in-Meets.is in
    let own = c.thread_at-own.ensures in
    let other = c.thread_at-other.ensures in
    read_as a.words.now a.count a.at a.to a.answer _ _ is (λ j. record { answer = is j; first = own j; second = other j })
