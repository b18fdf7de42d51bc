use native.Mathlib.Omega.{arith}
use Rattle.notices.proofs.NoticeLaws.{wrong_length, right_length}
use Rattle.notices.proofs.is_sound.Goals as goal

pub returns-then-notice-from : goal.returns-then-notice-from
returns-then-notice-from c =
    wrong_length c.args.notice.now (λ e. c.if-notice-from.true (omega (arith, e, c.from.ensures, c.word.ensures)))

pub returns : goal.returns
returns c =
    right_length c.args.notice.now (omega (arith, c.if-notice-from.false, c.from.ensures, c.word.ensures)) c.read_names-verdict.result c.read_names-verdict.ensures
