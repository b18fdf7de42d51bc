use mathlib.Core.Path.{refl, ap, ◌∙◌}
use native.Mathlib.Omega.{arith}
use borrow.Rule.Slice.PartMut.{put_mid}
use Rattle.streams.proofs.LineLaws.{text_put}
use Rattle.streams.proofs.line.put_text.Goals as goal

pub returns : goal.returns
returns c =
    let a = c.args in
    (ap (put_mid a.at _ a.line.now) c.copy_from_slice.ensures.after ∙ text_put a.text.now a.line.now a.at _ c.requires (omega arith), refl)
