use Prim.Native.Nat.{ℕ, ◌+◌}
use mathlib.Core.Path.{ap}
use Rattle.rows.proofs.LoadLaws.{lines_begin, some_line, line_fits, lines_more, lines_done}
use native.Mathlib.Omega.{arith}
use Rattle.rows.proofs.load.load_lines.Goals as goal

pub loop-r-init : goal.loop-r-init
loop-r-init c =
    let a = c.args in
    let cleared = c.clear_lines.ensures in
    lines_begin a.states.now a.at a.roles _ c.requires.1 cleared.0 cleared.1

pub bounds-states-on : goal.bounds-states-on
bounds-states-on c =
    let l = c.loop-r in
    let fits = some_line c.args.states.now c.args.at c.args.roles l.on l.r l.lines l.invariant (omega arith) in
    omega (arith, fits)

pub copy_words-requires : goal.copy_words-requires
copy_words-requires c =
    let a = c.args in
    let l = c.loop-r in
    let n = ap (λ (x : ℕ). x + 1) c.from-n.ensures in
    let fits = line_fits a.states.now a.at a.roles l.on l.r l.lines l.invariant (omega arith) c.requires.0 (c.from-n.result + 1) n in
    (omega (arith, fits.0, n), omega (arith, fits.1, n, l.invariant.rows.words))

pub loop-r-preserved : goal.loop-r-preserved
loop-r-preserved c =
    let a = c.args in
    let l = c.loop-r in
    let n = ap (λ (x : ℕ). x + 1) c.from-n.ensures in
    let more = lines_more a.states.now a.at a.roles l.on l.r l.lines l.invariant (omega arith) c.requires.0 (c.from-n.result + 1) n _ c.copy_words.ensures in
    more

pub returns : goal.returns
returns c =
    let a = c.args in
    let l = c.loop-r in
    lines_done a.states.now a.at a.roles l.on l.r l.lines l.invariant (omega arith) c.requires.0
