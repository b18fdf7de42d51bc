use mathlib.Core.Path.{◌≡◌, ap, ◌∙◌}
use Prim.Native.Nat.{ℕ, ◌+◌, ◌-◌}
use native.Mathlib.Omega.{arith}
use lib.ListN.{length}
use Rattle.phrases.specs.Phrases.{phrase}
use Rattle.phrases.proofs.PhraseLaws.{put_mid-put}
use borrow.Rule.Slice.PartMut.{put_mid}
use Rattle.phrases.proofs.put_phrase.Goals as goal

pub returns : goal.returns
returns c =
    let a = c.args in
    let e : length c.phrase_of-part.result.now ≡ length (phrase a.i) = ap length c.phrase_of-part.ensures in (
      ap (λ (n : ℕ). a.at + n) e,
      ap (put_mid a.at (a.at + length c.phrase_of-part.result.now - a.at) a.out.now) (c.copy_from_slice.ensures.after ∙ c.phrase_of-part.ensures)
          ∙ put_mid-put a.out.now (phrase a.i) a.at (a.at + length c.phrase_of-part.result.now - a.at) (omega (arith, e)),
    )
