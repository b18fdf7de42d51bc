use mathlib.Core.Path.{ap₂, ◌∙◌}
use native.Mathlib.Omega.{arith}
use Rattle.std.specs.Str.{bytes_eq}
use Rattle.format.specs.Sections.{words_from}
use Rattle.merging.specs.Merged.{same_words}
use Rattle.merging.proofs.WordLaws.{block, same_bytes}
use Rattle.merging.proofs.same.same_words.Goals as goal

pub returns-then-count-eq0 : goal.returns-then-count-eq0
unfolding words_from same_words
returns-then-count-eq0 c = rw c.if-count-eq0.true

pub returns : goal.returns
returns c =
    let a = c.args in
    c.eq.ensures ∙ ap₂ bytes_eq (block a.first.now a.from a.count (λ x. (c.type_inv.first x).fits) (omega arith)) (block a.second.now a.other a.count (λ x. (c.type_inv.second x).fits) (omega arith))
    ∙ same_bytes _ _
