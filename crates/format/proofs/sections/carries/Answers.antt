use native.Mathlib.Omega.{arith}
use mathlib.Core.Path.{◌≡◌, sym, ap, ◌∙◌}
use mathlib.Core.Bool.{false}
use Rattle.format.specs.Words.{word_at}
use Rattle.format.specs.Sections.{carried}
use Rattle.format.specs.Contents.{in_count, contents_at}
use Rattle.format.specs.declared.Section.TheVariants.{Kinds}
use Rattle.format.proofs.HeadLaws.{all_there}
use Rattle.format.proofs.ContentsLaws.{in_count_lem, item_there, item_none}
use Rattle.format.proofs.sections.carries.Goals as goal

pub returns-then-not-in_count : goal.returns-then-not-in_count
unfolding contents_at
returns-then-not-in_count c =
    let a = c.args in
    let no : in_count a.head.count.kinds a.kind.0 ≡ false = sym c.in_count.ensures ∙ c.if-not-in_count.true in
    sym (item_none 0 (carried a.file.now a.head) a.head.count.kinds a.kind.0 no)

pub place_of-requires : goal.place_of-requires
place_of-requires c =
    let a = c.args in
    let (pos, le) = in_count_lem a.head.count.kinds a.kind.0 (sym c.in_count.ensures ∙ c.if-not-in_count.false) in
    pos

pub inner_word-requires : goal.inner_word-requires
inner_word-requires c =
    let a = c.args in
    let (pos, le) = in_count_lem a.head.count.kinds a.kind.0 (sym c.in_count.ensures ∙ c.if-not-in_count.false) in
    omega (arith, all_there a.file.now a.head c.requires Kinds a.kind.0 pos le)

pub returns : goal.returns
unfolding contents_at
returns c =
    let a = c.args in
    c.inner_word.ensures ∙ ap (word_at a.file.now) c.place_of.ensures.0 ∙ sym (item_there 0 (carried a.file.now a.head) a.head.count.kinds a.kind.0 (sym c.in_count.ensures ∙ c.if-not-in_count.false))
