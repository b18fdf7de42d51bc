use Prim.Native.Nat.{◌*◌, ◌-◌}
use mathlib.Core.Path.{◌≡◌, ap, ap₂, ◌∙◌}
use native.Mathlib.Omega.{arith}
use lib.Seq.{sets}
use Rattle.format.specs.Words.{bytes_of}
use Rattle.format.specs.Sections.{words_from}
use Rattle.format.proofs.HeadLaws.{some_there}
use Rattle.format.proofs.WriteLaws.{sessions_words}
use Rattle.format.proofs.writing.put_sessions.Goals as goal

pub put_words-requires : goal.put_words-requires
put_words-requires c =
    let a = c.args in
    (omega arith, λ some. omega (arith, some, some_there a.file.now a.head c.requires.0 (omega (arith, some))), omega arith)

pub returns : goal.returns
returns c =
    let a = c.args in
    let l = c.requires.0 in
    let size : a.head.at.nodes - a.head.at.sessions ≡ 3 * a.head.count.sessions = omega (arith, l) in
    c.put_words.ensures
    ∙ ap₂ (λ p q. sets a.out.now (2 * p) (bytes_of (words_from a.file.now p (q - p)))) c.from.ensures c.from-2.ensures
    ∙ ap (λ ws. sets a.out.now (2 * a.head.at.sessions) (bytes_of ws)) (ap (words_from a.file.now a.head.at.sessions) size ∙ sessions_words a.file.now a.head)
