use Prim.Native.Nat.{ℕ, ◌+◌, ◌*◌}
use mathlib.Core.Path.{◌≡◌, ap, subst}
use Rattle.rows.specs.Rows.{lines_from, LinesFit}
use Rattle.rows.proofs.LoadLaws.{loaded}
use native.Mathlib.Omega.{arith}
use Rattle.rows.proofs.load.load_row.Goals as goal

pub load_lines-requires : goal.load_lines-requires
load_lines-requires c =
    let a = c.args in
    let q = c.requires in
    let s = a.states.now in
    let place : lines_from s a.at ≡ a.at + (2 + 2 * c.from.result) + 12 * c.from-n.result + c.from-n.result = omega (arith, c.from-n.ensures, c.from.ensures) in
    (q.1, subst (λ (x : ℕ). LinesFit s x a.roles) place q.2.lines, q.6)

pub returns : goal.returns
returns c =
    let a = c.args in
    let q = c.requires in
    loaded a.roles a.states.now a.at q.2 _ a.beside.now _ a.owners.now _ _ c.from-n.result (2 + 2 * c.from.result) c.from-n.ensures (ap (λ (x : ℕ). 2 + 2 * x) c.from.ensures) q.4 q.5
    c.copy_words.ensures c.copy_words-2.ensures c.load_threads.ensures.0 c.load_threads.ensures.1 c.load_lines.ensures
