use Prim.Native.Nat.{◌+◌, ◌*◌, ◌-◌}
use mathlib.Core.Path.{◌≡◌, refl, ap}
use native.Mathlib.Omega.{arith}
use lib.Seq.{sets}
use Rattle.format.specs.Words.{bytes_of}
use Rattle.format.specs.Contents.{contents_at}
use Rattle.format.specs.Writing.{session_words}
use Rattle.format.proofs.ContentsLaws.{sessions_held}
use Rattle.groups.specs.Groups.{sessions_from}
use Rattle.groups.proofs.WriteLaws.{sessions_turn, sessions_end}
use borrow.Author.Rules.{rules}
use Rattle.groups.proofs.put_sessions.Goals as goal

pub loop-n-init : goal.loop-n-init
loop-n-init c =
    let a = c.args in
    let here : a.head.at.sessions + 3 * (1 - 1) ≡ a.head.at.sessions = omega arith in
    (refl, ap (λ p. sets a.out.now (2 * p) (bytes_of (session_words (sessions_from a.starts.now (contents_at a.file.now a.head).sessions)))) here)

pub loop-n-preserved : goal.loop-n-preserved
loop-n-preserved c =
    let a = c.args in
    let l = c.loop-n in
    let it = c.session-it in (
      search rules,
      sessions_turn (contents_at a.file.now a.head).sessions a.starts.now l.out c.put_session.new.out _ a.head.at.sessions l.n it.result _
          (omega arith) (omega (arith, sessions_held a.file.now a.head)) it.ensures c.renamed.ensures c.put_session.ensures l.invariant.1,
    )

pub returns : goal.returns
returns c =
    let a = c.args in
    let l = c.loop-n in
    sessions_end (contents_at a.file.now a.head).sessions a.starts.now l.out _ _ l.n (omega (arith, sessions_held a.file.now a.head)) l.invariant.1

pub returns-2 : goal.returns-2
returns-2 c =
    let a = c.args in
    let l = c.loop-n in
    let it = c.session-it in
    let ss = (contents_at a.file.now a.head).sessions in
    sessions_end ss a.starts.now c.put_session.new.out _ _ (l.n + 1) (omega (arith, sessions_held a.file.now a.head))
    (sessions_turn ss a.starts.now l.out c.put_session.new.out _ a.head.at.sessions l.n it.result _
    (omega arith) (omega (arith, sessions_held a.file.now a.head)) it.ensures c.renamed.ensures c.put_session.ensures l.invariant.1)
