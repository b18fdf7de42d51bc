use mathlib.Core.Path.{◌≡◌, sym, ap, ◌∙◌}
use mathlib.Core.Bool.{true, false}
use Rattle.format.specs.Words.{word_at}
use Rattle.format.specs.Sections.{juniors_of}
use Rattle.format.specs.Contents.{in_count, contents_at}
use Rattle.format.proofs.HeadLaws.{junior_there}
use Rattle.format.proofs.ContentsLaws.{in_count_lem, item_there, item_none}
use Rattle.format.proofs.sections.juniors.Goals as goal

pub returns-then-not-in_count : goal.returns-then-not-in_count
unfolding contents_at
returns-then-not-in_count c =
    let a = c.args in
    let no : in_count a.head.count.roles a.n ≡ false = sym c.in_count.ensures ∙ c.if-not-in_count.true in
    sym (item_none 0 (juniors_of a.file.now a.head) a.head.count.roles a.n no)

pub returns-then-not-has_juniors : goal.returns-then-not-has_juniors
unfolding contents_at
returns-then-not-has_juniors c =
    let a = c.args in
    let there : in_count a.head.count.roles a.n ≡ true = sym c.in_count.ensures ∙ c.if-not-in_count.false in
    sym (item_there 0 (juniors_of a.file.now a.head) a.head.count.roles a.n there ∙ rw (sym c.has_juniors.ensures ∙ c.if-not-has_juniors.true))

pub place_of-requires : goal.place_of-requires
place_of-requires c =
    let a = c.args in
    let (pos, le) = in_count_lem a.head.count.roles a.n (sym c.in_count.ensures ∙ c.if-not-in_count.false) in
    pos

pub inner_word-requires : goal.inner_word-requires
inner_word-requires c =
    let a = c.args in
    let (pos, le) = in_count_lem a.head.count.roles a.n (sym c.in_count.ensures ∙ c.if-not-in_count.false) in
    junior_there a.file.now a.head c.requires (sym c.has_juniors.ensures ∙ c.if-not-has_juniors.false) a.n c.place_of.result pos le c.place_of.ensures.0

pub returns : goal.returns
unfolding contents_at
returns c =
    let a = c.args in
    let there : in_count a.head.count.roles a.n ≡ true = sym c.in_count.ensures ∙ c.if-not-in_count.false in
    c.inner_word.ensures ∙ ap (word_at a.file.now) c.place_of.ensures.0
    ∙ sym (item_there 0 (juniors_of a.file.now a.head) a.head.count.roles a.n there ∙ rw (sym c.has_juniors.ensures ∙ c.if-not-has_juniors.false))
