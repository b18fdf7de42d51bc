use Prim.Native.Nat.{◌*◌, ◌/◌, ◌%◌}
use mathlib.Core.Path.{◌≡◌, ap, ◌∙◌}
use native.Mathlib.Omega.{arith}
use mathlib.Core.List.{[], ◌∷◌}
use lib.Seq.{sets}
use Rattle.format.specs.Words.{bytes_of}
use Rattle.format.proofs.PutRuns.{part_put}
use Rattle.format.proofs.words.put_word.Goals as goal

pub returns : goal.returns
unfolding bytes_of
returns c =
    let a = c.args in
    let high : a.value / 256 % 256 ≡ a.value / 256 = omega arith in
    part_put (2 * a.at) _ _ _ (omega arith) (omega arith)
    ∙ ap (sets a.out.now (2 * a.at)) (c.copy_from_slice.ensures.after ∙ c.to_le_bytes.ensures ∙ ap (λ h. a.value % 256 ∷ h ∷ []) high)
