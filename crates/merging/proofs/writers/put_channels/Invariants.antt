use Prim.Native.Nat.{◌+◌, ◌*◌}
use mathlib.Core.Path.{◌≡◌}
use mathlib.Core.List.{map}
use lib.ListN.{length, drop}
use lib.Seq.{sets}
use Rattle.format.specs.Words.{bytes_of}
use Rattle.format.specs.Contents.{contents_at}
use Rattle.format.specs.Writing.{channel_words}
use Rattle.merging.specs.Merged.{moved_channel}
use Rattle.merging.specs.Writers.{shifts_by}
use Rattle.merging.proofs.writers.put_channels.Given as goal

abbrev pub invariant-loop-i : goal.invariant-loop-i
invariant-loop-i l = (length l.out ≡ length l.initial.out)
    × (sets l.out (2 * (l.whole.at.channels + 2 * (l.others + l.i))) (bytes_of (channel_words (map (moved_channel (shifts_by l.by)) (drop l.i (contents_at l.file l.head).channels))))
    ≡ sets l.initial.out (2 * (l.whole.at.channels + 2 * l.others)) (bytes_of (channel_words (map (moved_channel (shifts_by l.by)) (contents_at l.file l.head).channels))))
