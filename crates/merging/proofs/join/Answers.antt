use Prim.Native.Nat.{◌<◌}
use mathlib.Core.Path.{◌≡◌, refl, sym, ap, ap₂, subst, ◌∙◌}
use mathlib.Core.Bool.{true, cond}
use Rattle.format.specs.Answers.{fine, refused, or_else}
use Rattle.format.specs.Contents.{contents_at}
use Rattle.format.specs.Header.{Counted}
use Rattle.merging.specs.Merged.{same_tables}
use Rattle.merging.specs.Writers.{counts_of_both, sums_within, first_head}
use Rattle.merging.proofs.MergeLaws.{first_laid, second_laid, counted, join_refused, join_clean, joining, merged, few_bytes, counted_sums}
use Rattle.merging.proofs.join.Goals as goal
use Rattle.merging.proofs.join.Lts as lts
use Rattle.merging.proofs.join.Tie as tie
use Rattle.merging.proofs.join.Reads as reads

-- 25, then 3; and where neither refuses, the tables are the same and the sums fit
turn : (c : lts.After-or_else tie.the-claims reads.Pre reads.Post) → c.or_else-answer.result ≡ or_else (cond (same_tables (contents_at c.args.first.now c.args.one) (contents_at c.args.second.now c.args.two)) fine (refused 25 0)) (cond (sums_within (counts_of_both c.args.one.count c.args.two.count)) fine (refused 3 0))
turn c =
    c.or_else-answer.ensures
    ∙ ap₂ or_else (c.unless-tables.ensures ∙ ap (λ b. cond b fine (refused 25 0)) c.same_tables.ensures)
    (c.unless-sums.ensures ∙ ap (λ b. cond b fine (refused 3 0)) (c.sums_fit.ensures ∙ ap sums_within c.add_counts-counts.ensures))

clean : (c : lts.Else1 tie.the-claims reads.Pre reads.Post) → (same_tables (contents_at c.args.first.now c.args.one) (contents_at c.args.second.now c.args.two) ≡ true) × (sums_within (counts_of_both c.args.one.count c.args.two.count) ≡ true)
clean c =
    let a = c.args in
    let p = c.requires in
    join_clean a.first.now a.second.now a.out.now a.one a.two p.0 p.1 p.2 c.or_else-answer.result (turn c.before.before) c.if-answer-ne0.false

pub same_tables-requires : goal.same_tables-requires
same_tables-requires c =
    let a = c.args in
    let p = c.requires in
    let one = first_laid a.first.now a.second.now a.out.now a.one a.two p.0 p.1 p.2 in
    let two = second_laid a.first.now a.second.now a.out.now a.one a.two p.0 p.1 p.2 in
    (one.0, two.0, one.1, two.1)

pub add_counts-counts-requires : goal.add_counts-counts-requires
add_counts-counts-requires c =
    let a = c.args in
    let p = c.requires in
    counted a.first.now a.second.now a.out.now a.one a.two p.0 p.1 p.2

pub returns-then-answer-ne0 : goal.returns-then-answer-ne0
returns-then-answer-ne0 c =
    let a = c.args in
    let p = c.requires in
    join_refused a.first.now a.second.now a.out.now a.one a.two p.0 p.1 p.2 c.or_else-answer.result (turn c.before.before.before.before) c.if-answer-ne0.true _ c.not_written.ensures

pub head_for-whole-requires : goal.head_for-whole-requires
head_for-whole-requires c =
    let a = c.args in
    let p = c.requires in
    let (same, fit) = clean c.before in
    subst Counted (sym c.add_counts-counts.ensures) (counted_sums a.first.now a.second.now a.out.now a.one a.two p.0 p.1 p.2 same fit)

pub put_file-requires : goal.put_file-requires
put_file-requires c =
    let a = c.args in
    let p = c.requires in
    let (same, fit) = clean c.before.before.before in
    (joining a.first.now a.second.now a.out.now a.one a.two p.0 p.1 p.2 same fit, c.head_for-whole.ensures ∙ ap first_head c.add_counts-counts.ensures, p.2)

pub narrow-requires : goal.narrow-requires
narrow-requires c =
    let a = c.args in
    let p = c.requires in
    let (same, fit) = clean c.before.before.before.before.before.before.before in
    subst (λ n. n < 65536) (sym c.length_for.ensures.0)
    (few_bytes a.first.now a.second.now a.out.now a.one a.two p.0 p.1 p.2 same fit c.head_for-whole.result (c.head_for-whole.ensures ∙ ap first_head c.add_counts-counts.ensures))

pub returns : goal.returns
returns c =
    let a = c.args in
    let p = c.requires in
    let (same, fit) = clean c.before.before.before.before.before.before.before.before in
    let put = c.put_file in
    merged a.first.now a.second.now a.out.now a.one a.two p.0 p.1 p.2 same fit c.head_for-whole.result (c.head_for-whole.ensures ∙ ap first_head c.add_counts-counts.ensures)
    _ c.narrow.result refl (c.narrow.ensures ∙ c.length_for.ensures.0) put.new.out put.ensures
