use Prim.Native.Nat.{ℕ, ◌+◌, ◌*◌, ◌≤◌}
use mathlib.Core.Path.{◌≡◌, sym, ap, ap₂, ◌∙◌}
use mathlib.Core.Bool.{cond}
use native.Mathlib.Omega.{arith}
use lib.Dec.{eqb, ltb}
use lib.ListN.{get_or}
use borrow.Author.Tests.{ne_eqb}
use Rattle.states.specs.States as states
use Rattle.states.specs.Kept.{no_saving, added, worth_at, worths_of, rank, highest, saving_by, saving_of, word_by, word_of}
use Rattle.states.proofs.LaneLaws.{kids_most, worth_most, extra_most, floor_least, idle_tag, idle_saving, idle_word, end_saving, end_word}
use Rattle.states.proofs.costs.keep.Goals as goal
use Rattle.states.proofs.costs.keep.Goals.{After-kids_of-saving, After-worths-us, After-lanes_above}

-- an end
pub returns-then-tag-eq0 : goal.returns-then-tag-eq0
returns-then-tag-eq0 c =
    let a = c.args in
    let z = c.if-tag-eq0.true in (
      sym (ap (λ t. saving_of t a.roles a.one.now a.two.now) z ∙ end_saving a.roles a.one.now a.two.now),
      sym (ap (λ t. word_of t a.roles a.one.now a.two.now) z ∙ end_word a.roles a.one.now a.two.now),
    )

-- what the children save, and what the states are worth
most-saved : (c : After-kids_of-saving) (q : ℕ) → get_or c.kids_of-saving.result q 0 ≤ 2050
most-saved c q =
    let a = c.args in
    omega (arith, ap (λ d. get_or d q 0) c.kids_of-saving.ensures, kids_most a.one.now a.two.now c.requires.0 c.requires.1 (eqb a.tag 1) q)

pub worths-us-requires : goal.worths-us-requires
worths-us-requires c = (most-saved (goal.at.worths-us-requires c).After-kids_of-saving, omega (arith, c.extra.ensures, extra_most (ltb 4 c.args.tag)), c.requires.2)

us-is : (c : After-worths-us) → c.worths-us.result ≡ worths_of c.args.tag c.args.roles c.args.one.now c.args.two.now
unfolding worths_of
us-is c =
    let a = c.args in
    let no_end = ne_eqb a.tag 0 c.if-tag-eq0.false in
    c.worths-us.ensures
    ∙ ap₂ (λ d m. states.up 0 16 (worth_at a.roles d m)) (c.kids_of-saving.ensures ∙ sym (ap (λ b. cond b no_saving (cond (eqb a.tag 1) (added a.one.now a.two.now) a.one.now)) no_end)) c.extra.ensures

most : (c : After-worths-us) (q : ℕ) → get_or c.worths-us.result q 0 ≤ 3076
most c q =
    omega (
      arith,
      ap (λ u. get_or u q 0) c.worths-us.ensures,
      worth_most c.args.roles c.kids_of-saving.result c.extra.result 3076 (λ q. omega (arith, most-saved c.before.before.before q, c.extra.ensures, extra_most (ltb 4 c.args.tag))) q,
    )

pub by_rank-requires : goal.by_rank-requires
by_rank-requires c = (omega (arith, c.floor.ensures, floor_least (states.needs c.args.tag)), most (goal.at.by_rank-requires c).After-worths-us, c.requires.2)

pub returns-then-tag : goal.returns-then-tag
unfolding saving_of word_of
returns-then-tag c =
    let a = c.args in
    let u = us-is (goal.at.returns-then-tag c).After-worths-us in
    let base = c.floor.ensures in (
      c.by_rank.ensures.0 ∙ ap₂ (λ b u. saving_by (highest b 16 (rank u)) u) base u,
      c.by_rank.ensures.1 ∙ ap₂ (λ b u. word_by (highest b 16 (rank u)) u) base u,
    )

-- no state is worth as much as none
few : (c : After-lanes_above) (q : ℕ) → get_or c.worths-us.result q 0 ≤ 2050
few c q =
    let a = c.args in
    let (one, low, _) = idle_tag a.tag c.if-tag.false in
    let saves : c.kids_of-saving.result ≡ a.one.now = c.kids_of-saving.ensures ∙ ap (λ b. cond b (added a.one.now a.two.now) a.one.now) one in
    let more : c.extra.result ≡ 1025 = c.extra.ensures ∙ ap (λ b. cond b 1026 1025) low in
    omega (
      arith,
      ap (λ u. get_or u q 0) c.worths-us.ensures,
      worth_most a.roles c.kids_of-saving.result c.extra.result 2050 (λ q. omega (arith, ap (λ d. get_or d q 0) saves, more, c.requires.0 q)) q,
    )

pub returns : goal.returns
unfolding saving_of word_of
returns c =
    let a = c.args in
    let us = c.worths-us.result in
    let u = us-is (goal.at.returns c).After-worths-us in
    let less = few (goal.at.returns c).After-lanes_above in
    let free = (idle_tag a.tag c.if-tag.false).2 in (
      c.left_over.ensures ∙ sym (idle_saving a.tag us free less) ∙ ap (λ u. saving_by (highest (18 * cond (states.needs a.tag) 1025 2051 + 17) 16 (rank u)) u) u,
      ap (λ m. 2 * m) (c.from.ensures ∙ c.lanes_above.ensures) ∙ sym (idle_word a.tag us free less) ∙ ap (λ u. word_by (highest (18 * cond (states.needs a.tag) 1025 2051 + 17) 16 (rank u)) u) u,
    )
