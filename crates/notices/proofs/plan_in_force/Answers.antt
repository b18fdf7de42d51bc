use Prim.Native.Nat.{ℕ}
use mathlib.Core.Path.{◌≡◌, sym, ap, ap₂, ◌∙◌}
use mathlib.Core.Bool.{true, false}
use native.Mathlib.Omega.{arith}
use Rattle.format.specs.Words.{word_at}
use Rattle.notices.specs.Notices.{is_sound, second_holds, held}
use Rattle.notices.proofs.NoticeLaws.{first_wrong, second_wrong, second_later, first_later, neither_begun}
use Rattle.notices.proofs.plan_in_force.Goals as goal

pub returns-then-not-is_sound : goal.returns-then-not-is_sound
returns-then-not-is_sound c =
    let a = c.args in
    c.refuse.ensures ∙ first_wrong a.first.now a.second.now a.day (sym c.is_sound.ensures ∙ c.if-not-is_sound.true)

pub returns-then-not-is_sound-2 : goal.returns-then-not-is_sound-2
returns-then-not-is_sound-2 c =
    let a = c.args in
    c.refuse-then-not-is_sound-2.ensures ∙ second_wrong a.first.now a.second.now a.day (sym c.is_sound.ensures ∙ c.if-not-is_sound.false) (sym c.is_sound-2.ensures ∙ c.if-not-is_sound-2.true)

pub returns-then-second_holds : goal.returns-then-second_holds
returns-then-second_holds c =
    let a = c.args in
    let one : is_sound a.first.now ≡ true = sym c.is_sound.ensures ∙ c.if-not-is_sound.false in
    let two : is_sound a.second.now ≡ true = sym c.is_sound-2.ensures ∙ c.if-not-is_sound-2.false in
    let later : second_holds (word_at a.first.now 0) (word_at a.second.now 0) a.day ≡ true = ap₂ (λ (d e : ℕ). second_holds d e a.day) (sym c.word-from.ensures) (sym c.word.ensures) ∙ sym c.second_holds.ensures ∙ c.if-second_holds.true in
    c.hold.ensures ∙ ap (held 2) c.word-then-second_holds.ensures ∙ second_later a.first.now a.second.now a.day one two later

pub returns-then-from-day : goal.returns-then-from-day
returns-then-from-day c =
    let a = c.args in
    let one : is_sound a.first.now ≡ true = sym c.is_sound.ensures ∙ c.if-not-is_sound.false in
    let two : is_sound a.second.now ≡ true = sym c.is_sound-2.ensures ∙ c.if-not-is_sound-2.false in
    let later : second_holds (word_at a.first.now 0) (word_at a.second.now 0) a.day ≡ false = ap₂ (λ (d e : ℕ). second_holds d e a.day) (sym c.word-from.ensures) (sym c.word.ensures) ∙ sym c.second_holds.ensures ∙ c.if-second_holds.false in
    c.hold-then-from-day.ensures ∙ ap (held 1) c.word-then-from-day.ensures ∙ first_later a.first.now a.second.now a.day one two later (omega (arith, c.word-from.ensures, c.if-from-day.true))

pub returns : goal.returns
returns c =
    let a = c.args in
    let one : is_sound a.first.now ≡ true = sym c.is_sound.ensures ∙ c.if-not-is_sound.false in
    let two : is_sound a.second.now ≡ true = sym c.is_sound-2.ensures ∙ c.if-not-is_sound-2.false in
    let later : second_holds (word_at a.first.now 0) (word_at a.second.now 0) a.day ≡ false = ap₂ (λ (d e : ℕ). second_holds d e a.day) (sym c.word-from.ensures) (sym c.word.ensures) ∙ sym c.second_holds.ensures ∙ c.if-second_holds.false in
    c.refuse-2.ensures ∙ neither_begun a.first.now a.second.now a.day one two later (omega (arith, c.word-from.ensures, c.if-from-day.false))
