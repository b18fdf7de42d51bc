use mathlib.Core.Path.{◌≡◌, refl, ap, ◌∙◌}
use Prim.Native.Nat.{ℕ}
use mathlib.Core.List.{List}
use lib.ListN.{get_or}
use Rattle.phrases.specs.Table.{in_words}
use Rattle.phrases.specs.Phrases.{all_starts, starts_after, phrases, spelled}
use Rattle.phrases.specs.declared.TheConstants.{STARTS}
use Rattle.phrases.proofs.start_of.Goals as goal

starts_are : STARTS ≡ all_starts
unfolding all_starts starts_after phrases spelled in_words
starts_are = refl

pub returns : goal.returns
returns c = c.from.ensures ∙ ap (λ (l : List ℕ). get_or l c.args.i 0) starts_are
