use mathlib.Core.Path.{◌≡◌, refl, ◌∙◌}
use Rattle.phrases.specs.Table.{in_words}
use Rattle.phrases.specs.Phrases.{all_text, laid_out, phrases, spelled}
use Rattle.phrases.specs.declared.TheConstants.{TEXT}
use native.Mathlib.Omega.{arith}
use borrow.Author.Rules.{rules}
use Rattle.phrases.proofs.PhraseLaws.{span, part}
use Rattle.std.proofs.lemmas.Slice.{between_is}
use Rattle.phrases.proofs.phrase_of.Goals as goal

pub slice_bounds-result-count : goal.slice_bounds-result-count
slice_bounds-result-count c = omega (arith, (span c.args.i (search rules)).from_to)

pub slice_bounds-result-start : goal.slice_bounds-result-start
slice_bounds-result-start c = omega (arith, (span c.args.i (search rules)).from_to)

pub slice_bounds-result-end : goal.slice_bounds-result-end
slice_bounds-result-end c =
    let w = span c.args.i (search rules) in omega (arith, w.from_to, w.in-text)

text_is : TEXT ≡ all_text
unfolding all_text laid_out phrases spelled in_words
text_is = refl

pub returns : goal.returns
returns c =
    let i = c.args.i in
    between_is TEXT c.start_of.result c.start_of-2.result
    ∙ part TEXT i c.start_of.result c.start_of-2.result (search rules) text_is c.start_of.ensures c.start_of-2.ensures
