use Prim.Native.Nat.{ℕ, ◌+◌, ◌-◌}
use mathlib.Core.Path.{◌≡◌, sym, ap, ◌∙◌}
use Rattle.seated.specs.SeatedTables.{lines_in}
use Rattle.rows.specs.Rows.{line_words, stands_at}
use Rattle.rows.proofs.StandLaws.{line_other, line_same, lines_end}
use native.Mathlib.Omega.{arith}
use Rattle.rows.proofs.compare.same_lines.Goals as goal

pub loop-r-init : goal.loop-r-init
loop-r-init c =
    let a = c.args in
    let all : a.roles ≡ a.roles - 0 = omega arith in
    (omega arith, ap (λ (x : ℕ). stands_at a.states.now a.at (line_words (lines_in a.lines.now) 1 x)) all)

pub same_words-requires : goal.same_words-requires
same_words-requires c =
    let l = c.loop-r in
    let few = c.requires.2.few l.r (omega arith) in
    (omega (arith, few, c.from-n.ensures, c.requires.2.words), omega arith)

pub returns-then-not-same_words : goal.returns-then-not-same_words
returns-then-not-same_words c =
    let a = c.args in
    let l = c.loop-r in
    line_other a.states.now a.lines.now c.requires.2 l.r (omega arith) a.roles l.on (c.from-n.result + 1) (omega arith) (ap (λ (x : ℕ). x + 1) c.from-n.ensures) (sym c.same_words.ensures ∙ c.if-not-same_words.true) ∙ sym l.invariant.1

pub loop-r-preserved : goal.loop-r-preserved
loop-r-preserved c =
    let a = c.args in
    let l = c.loop-r in
    let few = c.requires.2.few l.r (omega arith) in
    let same = line_same a.states.now a.lines.now c.requires.2 l.r (omega arith) a.roles l.on (c.from-n.result + 1) (omega arith) (ap (λ (x : ℕ). x + 1) c.from-n.ensures) (sym c.same_words.ensures ∙ c.if-not-same_words.false) in
    (omega (arith, few, c.from-n.ensures), l.invariant.1 ∙ same)

pub returns : goal.returns
returns c =
    let a = c.args in
    let l = c.loop-r in
    lines_end a.states.now (lines_in a.lines.now) l.on l.r a.roles (omega arith) ∙ sym l.invariant.1
