use borrow.Author.Tests.{lt-ltb, le-ltb}
use native.Mathlib.Omega.{arith}
use mathlib.Core.Path.{sym, ap, ◌∙◌}
use lib.ListN.{length}
use Rattle.format.specs.Header.{has_juniors}
use Rattle.format.proofs.header.room_for.Goals as goal

pub returns-then-file-lt2 : goal.returns-then-file-lt2
returns-then-file-lt2 c = rw (le-ltb 1 (length c.args.file.now) (omega (arith, c.if-file-lt2.true)))

pub returns-then-has_juniors : goal.returns-then-has_juniors
returns-then-has_juniors c = rw (lt-ltb 1 (length c.args.file.now) (omega (arith, c.if-file-lt2.false)), sym (ap has_juniors c.word.ensures) ∙ sym c.has_juniors.ensures ∙ c.if-has_juniors.true)

pub returns : goal.returns
returns c = rw (lt-ltb 1 (length c.args.file.now) (omega (arith, c.if-file-lt2.false)), sym (ap has_juniors c.word.ensures) ∙ sym c.has_juniors.ensures ∙ c.if-has_juniors.false)
