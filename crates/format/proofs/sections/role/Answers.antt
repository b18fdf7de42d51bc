use native.Mathlib.Omega.{arith}
use Prim.Native.Nat.{◌+◌, ◌*◌}
use mathlib.Core.Path.{◌≡◌, sym, ap, ap₂, ◌∙◌}
use mathlib.Core.Bool.{false}
use Rattle.format.specs.Words.{word_at, wide_at}
use Rattle.format.specs.Sections.{place_of, role_of}
use Rattle.format.specs.declared.Section.TheVariants.{Roles}
use Rattle.format.specs.Contents.{in_count, no_role, contents_at}
use Rattle.format.proofs.HeadLaws.{all_there}
use Rattle.format.proofs.ContentsLaws.{in_count_lem, item_there, item_none}
use Rattle.format.proofs.sections.role.Goals as goal

pub returns-then-not-in_count : goal.returns-then-not-in_count
unfolding contents_at
returns-then-not-in_count c =
    let a = c.args in
    let no : in_count a.head.count.roles a.n ≡ false = sym c.in_count.ensures ∙ c.if-not-in_count.true in
    sym (item_none no_role (role_of a.file.now a.head) a.head.count.roles a.n no)

pub place_of-at-requires : goal.place_of-at-requires
place_of-at-requires c =
    let a = c.args in
    let (pos, le) = in_count_lem a.head.count.roles a.n (sym c.in_count.ensures ∙ c.if-not-in_count.false) in
    pos

pub inner_word-requires : goal.inner_word-requires
inner_word-requires c =
    let a = c.args in
    let (pos, le) = in_count_lem a.head.count.roles a.n (sym c.in_count.ensures ∙ c.if-not-in_count.false) in
    omega (arith, all_there a.file.now a.head c.requires Roles a.n pos le)

pub inner_word-requires-2 : goal.inner_word-requires-2
inner_word-requires-2 c =
    let a = c.args in
    let (pos, le) = in_count_lem a.head.count.roles a.n (sym c.in_count.ensures ∙ c.if-not-in_count.false) in
    omega (arith, all_there a.file.now a.head c.requires Roles a.n pos le)

pub inner_word-requires-3 : goal.inner_word-requires-3
inner_word-requires-3 c =
    let a = c.args in
    let (pos, le) = in_count_lem a.head.count.roles a.n (sym c.in_count.ensures ∙ c.if-not-in_count.false) in
    omega (arith, all_there a.file.now a.head c.requires Roles a.n pos le)

pub inner_word-requires-4 : goal.inner_word-requires-4
inner_word-requires-4 c =
    let a = c.args in
    let (pos, le) = in_count_lem a.head.count.roles a.n (sym c.in_count.ensures ∙ c.if-not-in_count.false) in
    omega (arith, all_there a.file.now a.head c.requires Roles a.n pos le)

pub returns : goal.returns
unfolding contents_at
returns c =
    let a = c.args in
    let f = a.file.now in
    let at : c.place_of-at.result ≡ place_of a.head Roles a.n = c.place_of-at.ensures.0 in
    let sends : c.paired.result ≡ wide_at f (place_of a.head Roles a.n) =
    c.paired.ensures
    ∙ ap₂ (λ x y. x + 65536 * y) (c.inner_word.ensures ∙ ap (word_at f) at) (c.inner_word-2.ensures ∙ ap (λ p. word_at f (p + 1)) at) in
    let next : c.place_of-at.result + 3 ≡ place_of a.head Roles a.n + 2 + 1 = omega (arith, at) in
    let receives : c.paired-2.result ≡ wide_at f (place_of a.head Roles a.n + 2) =
    c.paired-2.ensures
    ∙ ap₂ (λ x y. x + 65536 * y) (c.inner_word-3.ensures ∙ ap (λ p. word_at f (p + 2)) at) (c.inner_word-4.ensures ∙ ap (word_at f) next) in
    (λ i. record { sends = sends i; receives = receives i })
    ∙ sym (item_there no_role (role_of a.file.now a.head) a.head.count.roles a.n (sym c.in_count.ensures ∙ c.if-not-in_count.false))
