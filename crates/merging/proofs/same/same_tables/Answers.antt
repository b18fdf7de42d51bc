use Prim.Native.Nat.{◌+◌, ◌*◌}
use mathlib.Core.Path.{◌≡◌, sym, ap₂, ◌∙◌}
use Rattle.format.specs.Contents.{contents_at}
use Rattle.format.specs.Sections.{words_from}
use Rattle.format.proofs.ContentsLaws.{roles_held, kinds_held}
use Rattle.merging.specs.Merged.{same_words}
use Rattle.merging.proofs.TableLaws.{roles_kinds_words, tables_inside, roles_differ, kinds_differ, tables_compared}
use Rattle.merging.proofs.same.same_tables.Goals as goal

pub returns-then-roles-two : goal.returns-then-roles-two
returns-then-roles-two c =
    let a = c.args in
    roles_differ (contents_at a.first.now a.one) (contents_at a.second.now a.two) (λ e. c.if-roles-two.true (sym (roles_held a.first.now a.one) ∙ e ∙ roles_held a.second.now a.two))

pub returns-then-kinds-two : goal.returns-then-kinds-two
returns-then-kinds-two c =
    let a = c.args in
    kinds_differ (contents_at a.first.now a.one) (contents_at a.second.now a.two) (λ e. c.if-kinds-two.true (sym (kinds_held a.first.now a.one) ∙ e ∙ kinds_held a.second.now a.two))

pub same_words-requires : goal.same_words-requires
same_words-requires c =
    let a = c.args in
    let p = c.requires in
    let three = c.from-3.ensures in
    let four = c.from-4.ensures in (
      tables_inside a.first.now a.one p.0 p.2 _ _ _ c.from.ensures three four,
      tables_inside a.second.now a.two p.1 p.3 _ _ _ c.from-2.ensures (three ∙ c.if-roles-two.false) (four ∙ c.if-kinds-two.false),
    )

pub returns : goal.returns
returns c =
    let a = c.args in
    let p = c.requires in
    let roles = c.if-roles-two.false in
    let kinds = c.if-kinds-two.false in
    let count : 4 * c.from-3.result + c.from-4.result ≡ 4 * a.one.count.roles + a.one.count.kinds = ap₂ (λ x y. 4 * x + y) c.from-3.ensures c.from-4.ensures in
    let other : 4 * a.one.count.roles + a.one.count.kinds ≡ 4 * a.two.count.roles + a.two.count.kinds = ap₂ (λ x y. 4 * x + y) roles kinds in
    c.same_words.ensures
    ∙ ap₂ same_words (ap₂ (words_from a.first.now) c.from.ensures count ∙ roles_kinds_words a.first.now a.one p.0 p.2 (λ x. (c.shared_slice_known-1.given x).fits))
    (ap₂ (words_from a.second.now) c.from-2.ensures (count ∙ other) ∙ roles_kinds_words a.second.now a.two p.1 p.3 (λ x. (c.shared_slice_known-2-1.given x).fits))
    ∙ tables_compared (contents_at a.first.now a.one) (contents_at a.second.now a.two) (roles_held a.first.now a.one ∙ roles ∙ sym (roles_held a.second.now a.two))
