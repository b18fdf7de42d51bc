use native.Mathlib.Omega.{arith}
use Prim.Native.Nat.{◌+◌}
use mathlib.Core.Path.{◌≡◌, sym, ap, ◌∙◌}
use mathlib.Core.Bool.{false}
use Rattle.format.specs.Words.{word_at}
use Rattle.format.specs.Sections.{session_of}
use Rattle.format.specs.Contents.{in_count, no_session, contents_at}
use Rattle.format.specs.declared.Section.TheVariants.{Sessions}
use Rattle.format.proofs.HeadLaws.{all_there}
use Rattle.format.proofs.ContentsLaws.{in_count_lem, item_there, item_none}
use Rattle.format.proofs.sections.session.Goals as goal

pub returns-then-not-in_count : goal.returns-then-not-in_count
unfolding contents_at
returns-then-not-in_count c =
    let a = c.args in
    let no : in_count a.head.count.sessions a.n ≡ false = sym c.in_count.ensures ∙ c.if-not-in_count.true in
    sym (item_none no_session (session_of a.file.now a.head) a.head.count.sessions a.n no)

pub place_of-at-requires : goal.place_of-at-requires
place_of-at-requires c =
    let a = c.args in
    let (pos, le) = in_count_lem a.head.count.sessions a.n (sym c.in_count.ensures ∙ c.if-not-in_count.false) in
    pos

pub inner_word-requires : goal.inner_word-requires
inner_word-requires c =
    let a = c.args in
    let (pos, le) = in_count_lem a.head.count.sessions a.n (sym c.in_count.ensures ∙ c.if-not-in_count.false) in
    omega (arith, all_there a.file.now a.head c.requires Sessions a.n pos le)

pub inner_word-requires-2 : goal.inner_word-requires-2
inner_word-requires-2 c =
    let a = c.args in
    let (pos, le) = in_count_lem a.head.count.sessions a.n (sym c.in_count.ensures ∙ c.if-not-in_count.false) in
    omega (arith, all_there a.file.now a.head c.requires Sessions a.n pos le)

pub inner_word-requires-3 : goal.inner_word-requires-3
inner_word-requires-3 c =
    let a = c.args in
    let (pos, le) = in_count_lem a.head.count.sessions a.n (sym c.in_count.ensures ∙ c.if-not-in_count.false) in
    omega (arith, all_there a.file.now a.head c.requires Sessions a.n pos le)

pub returns : goal.returns
unfolding contents_at
returns c =
    let a = c.args in
    (λ i. record { user = (c.inner_word.ensures ∙ ap (λ p. word_at a.file.now (p)) c.place_of-at.ensures.0) i; mask = (c.inner_word-2.ensures ∙ ap (λ p. word_at a.file.now (p + 1)) c.place_of-at.ensures.0) i; root = (c.inner_word-3.ensures ∙ ap (λ p. word_at a.file.now (p + 2)) c.place_of-at.ensures.0) i })
    ∙ sym (item_there no_session (session_of a.file.now a.head) a.head.count.sessions a.n (sym c.in_count.ensures ∙ c.if-not-in_count.false))
