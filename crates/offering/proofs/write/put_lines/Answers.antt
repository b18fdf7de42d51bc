use Prim.Native.Nat.{ℕ, ◌+◌, ◌*◌}
use mathlib.Core.Path.{sym, ap, ◌∙◌}
use lib.ListN.{length}
use lib.Seq.{sets}
use Rattle.seated.specs.SeatedTables.{lines_in}
use Rattle.rows.proofs.LoadLaws.{paste_long}
use Rattle.offering.proofs.WriteLaws.{line_length, line_turn, lines_begin, lines_over}
use native.Mathlib.Omega.{arith}
use Rattle.offering.proofs.write.put_lines.Goals as goal

pub loop-r-init : goal.loop-r-init
loop-r-init c =
    let a = c.args in
    let all = lines_begin (lines_in a.lines.now) a.roles in
    (omega (arith, ap length all, c.requires.2), sym (ap (sets a.out.now a.at) all))

pub bounds-lines-r : goal.bounds-lines-r
bounds-lines-r c = let l = c.loop-r in omega (arith, c.requires.1.words)

pub overflow_add-n : goal.overflow_add-n
overflow_add-n c = let l = c.loop-r in omega (arith, c.requires.1.few l.r (omega arith))

pub copy_words-requires : goal.copy_words-requires
copy_words-requires c =
    let a = c.args in
    let l = c.loop-r in
    let few = c.requires.1.few l.r (omega arith) in
    let more = line_length a.lines.now c.requires.1 a.roles l.r (c.from-n.result + 1) c.requires.0 (omega arith) (ap (λ (x : ℕ). x + 1) c.from-n.ensures) in
    (omega (arith, few, c.from-n.ensures, c.requires.1.words), omega (arith, more, l.invariant.0))

pub overflow_add-on : goal.overflow_add-on
overflow_add-on c =
    let a = c.args in
    let l = c.loop-r in
    let more = line_length a.lines.now c.requires.1 a.roles l.r (c.from-n.result + 1) c.requires.0 (omega arith) (ap (λ (x : ℕ). x + 1) c.from-n.ensures) in
    omega (arith, more, l.invariant.0)

pub loop-r-preserved : goal.loop-r-preserved
loop-r-preserved c =
    let a = c.args in
    let l = c.loop-r in
    let n = ap (λ (x : ℕ). x + 1) c.from-n.ensures in
    let more = line_length a.lines.now c.requires.1 a.roles l.r (c.from-n.result + 1) c.requires.0 (omega arith) n in
    let few = c.requires.1.few l.r (omega arith) in
    let same = paste_long l.out _ a.lines.now l.on (33 * l.r) (c.from-n.result + 1) (omega (arith, few, c.from-n.ensures, c.requires.1.words)) (omega (arith, more, l.invariant.0)) c.copy_words.ensures in (
      omega (arith, more, l.invariant.0, same),
      line_turn a.lines.now c.requires.1 a.roles l.r (c.from-n.result + 1) c.requires.0 (omega arith) n l.out _ _ l.on c.copy_words.ensures (omega (arith, more, l.invariant.0)) l.invariant.1,
    )

pub returns : goal.returns
returns c =
    let a = c.args in
    let l = c.loop-r in
    sym (ap (sets l.out l.on) (lines_over (lines_in a.lines.now) l.r a.roles (omega arith))) ∙ l.invariant.1
