use Prim.Native.Nat.{ℕ, ◌+◌, ◌/◌, ◌%◌}
use mathlib.Core.List.{[]}
use mathlib.Core.Path.{◌≡◌, refl, ap, ◌∙◌}
use native.Mathlib.Omega.{arith}
use lib.ListN.{length-set}
use Rattle.seated.specs.ReadWords.{line_word}
use Rattle.seated.proofs.ReadLaws.{filled_none, filled_more, filled_all}
use Rattle.seated.proofs.read.line_words.Goals as goal

pub loop-k-init : goal.loop-k-init
loop-k-init c = (refl, filled_none (λ x. line_word c.args.lines.now (x / 32) (x % 32)) 0 [])

pub loop-k-preserved : goal.loop-k-preserved
loop-k-preserved c =
    let same : c.loop-k.k ≡ 0 + c.loop-k.k = omega arith in
    let l = c.loop-k in
    (length-set l.all l.k _ ∙ l.invariant.0, filled_more (λ x. line_word c.args.lines.now (x / 32) (x % 32)) 0 l.all l.k _ (omega (arith, l.invariant.0)) (c.line_word.ensures ∙ ap (λ (x : ℕ). line_word c.args.lines.now (x / 32) (x % 32)) same) l.invariant.1)

pub returns : goal.returns
returns c =
    let l = c.loop-k in
    filled_all (λ x. line_word c.args.lines.now (x / 32) (x % 32)) 0 l.all l.k 512 l.invariant.0 (omega arith) l.invariant.1
