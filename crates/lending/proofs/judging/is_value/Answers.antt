use mathlib.Core.Path.{sym, ◌∙◌}
use Rattle.format.specs.Contents.{contents_at}
use Rattle.format.proofs.ContentsLaws.{users_held, channels_held}
use Rattle.rules.specs.Schema.{schema_of}
use Rattle.lending.proofs.JudgeLaws.{value_user, value_low, value_channel, value_made}
use Rattle.lending.proofs.judging.is_value.Goals as goal

pub returns-then-in_count : goal.returns-then-in_count
returns-then-in_count c =
    let a = c.args in
    λ bytes them m. value_user (schema_of (contents_at bytes a.head)) them a.v a.head.count.users a.head.count.channels (users_held bytes a.head) (channels_held bytes a.head) (sym c.in_count.ensures ∙ c.if-in_count.true)

pub returns-then-v-le256 : goal.returns-then-v-le256
returns-then-v-le256 c =
    let a = c.args in
    λ bytes them m. value_low (schema_of (contents_at bytes a.head)) them a.v a.head.count.users a.head.count.channels (users_held bytes a.head) (channels_held bytes a.head) (sym c.in_count.ensures ∙ c.if-in_count.false) c.if-v-le256.true

pub returns-then-v-head : goal.returns-then-v-head
returns-then-v-head c =
    let a = c.args in
    λ bytes them m. value_channel (schema_of (contents_at bytes a.head)) them a.v a.head.count.users a.head.count.channels (users_held bytes a.head) (channels_held bytes a.head) (sym c.in_count.ensures ∙ c.if-in_count.false) c.if-v-le256.false c.if-v-head.true

pub returns : goal.returns
returns c =
    let a = c.args in
    λ bytes them m. value_made (schema_of (contents_at bytes a.head)) them a.v a.head.count.users a.head.count.channels (users_held bytes a.head) (channels_held bytes a.head) a.made m (sym c.in_count.ensures ∙ c.if-in_count.false) c.if-v-le256.false c.if-v-head.false
