use Rattle.std.proofs.Common.{rules, ◌∙◌, ℕ, List, refl, sym, replicate, arith}
use Rattle.std.proofs.lemmas.List.Edits.{sets-eq}
use Rattle.std.proofs.lemmas.Slice.{put_mid-paste}
use Rattle.steps.specs.Beside.{cleared}
use Rattle.steps.proofs.beside.clear_totals.Goals as goal

pub returns : goal.returns
unfolding cleared
returns c =
    let zeros : List ℕ = replicate 32 0 in
    let b : List ℕ = c.args.beside.now in
    put_mid-paste 130 32 b c.fill.new.self zeros 32 (search rules) refl refl ∙ sym (sets-eq zeros b 130 (omega (arith, c.requires)))
