use Prim.Native.Nat.{◌+◌, ◌*◌, ◌-◌}
use mathlib.Core.Path.{◌≡◌}
use lib.ListN.{length, drop}
use lib.Seq.{sets}
use Rattle.format.specs.Words.{bytes_of}
use Rattle.format.specs.Contents.{contents_at}
use Rattle.format.specs.Writing.{session_words}
use Rattle.groups.specs.Groups.{sessions_from}
use Rattle.groups.proofs.put_sessions.Given as goal

abbrev pub invariant-loop-n : goal.invariant-loop-n
invariant-loop-n l = (length l.out ≡ length l.initial.out)
    × (sets l.out (2 * (l.head.at.sessions + 3 * (l.n - 1))) (bytes_of (session_words (sessions_from l.starts (drop (l.n - 1) (contents_at l.file l.head).sessions))))
    ≡ sets l.initial.out (2 * l.head.at.sessions) (bytes_of (session_words (sessions_from l.starts (contents_at l.file l.head).sessions))))
