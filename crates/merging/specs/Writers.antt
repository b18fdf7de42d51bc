-- What merging's code says of heads, shifts and the way into a file.
use Rattle.format.specs.declared.Verdict.{Verdict}
use Rattle.std.specs.Prelude.{ℕ, ◌+◌, ◌*◌, ◌≤◌, ◌≡◌, Bool, true, ◌&&◌, List, leb, Result}
use Rattle.format.specs.Header.{head_at, Laid}
use Rattle.format.specs.Contents.{Contents, item, no_channel, no_session, no_node, contents_at}
use Rattle.format.specs.declared.Six.{Six}
use Rattle.format.specs.declared.Head.{Head}
use Rattle.reading.specs.Reading.{with_head}
use Rattle.merging.specs.Merged.{Shifts}
use Rattle.merging.specs.Merging.{own_answer}
use Rattle.merging.specs.declared.Shift.{Shift}

-- the counts of two files together: roles and kinds are the same tables
abbrev pub counts_of_both : Six → Six → Six
counts_of_both m n = record {
  users = m.users + n.users;
  roles = m.roles;
  kinds = m.kinds;
  channels = m.channels + n.channels;
  sessions = m.sessions + n.sessions;
  nodes = m.nodes + n.nodes;
}

-- no sum is beyond a count's limit
abbrev pub sums_within : Six → Bool
sums_within n = ((leb n.users 32 && leb n.channels 64) && leb n.sessions 32) && leb n.nodes 1024

-- the head of a file of version 1 with these counts
abbrev pub first_head : Six → Head
first_head n = record {
  version = 1;
  count = n;
  at = record {
    users = 13;
    roles = 13 + n.users;
    juniors = 13 + n.users + 4 * n.roles;
    kinds = 13 + n.users + 4 * n.roles;
    channels = 13 + n.users + 4 * n.roles + n.kinds;
    sessions = 13 + n.users + 4 * n.roles + n.kinds + 2 * n.channels;
    nodes = 13 + n.users + 4 * n.roles + n.kinds + 2 * n.channels + 3 * n.sessions;
  };
}

-- the shifts that the code carries
abbrev pub shifts_by : Shift → Shifts
shifts_by s = record { users = s.users; channels = s.channels; nodes = s.nodes }

abbrev pub shift_after : Six → Shift
shift_after n = record { users = n.users; channels = n.channels; nodes = n.nodes }

-- no shift is beyond a count's limit
abbrev pub FewBefore : Shift → Type 0
FewBefore s = (s.users ≤ 32) × (s.channels ≤ 64) × (s.nodes ≤ 1024)

-- what 6 to 8 leave: users and nodes that are named are within the limits (a tree past the last node would begin at 1,025)
pub record Limited (C : Contents) : Type 0 where
  pub owners : (n : ℕ) → (item no_channel C.channels n).owner ≤ 32
  pub users : (n : ℕ) → (item no_session C.sessions n).user ≤ 32
  pub roots : (n : ℕ) → (item no_session C.sessions n).root ≤ 1025
  pub forks : (n : ℕ) → (item no_node C.nodes n).tag ≡ 1 → (item no_node C.nodes n).f1 ≤ 1025

-- two files of version 1 that 1 to 8 leave, with sums that fit
pub record Joining (f g : List ℕ) (one two : Head) : Type 0 where
  pub first : Laid f one
  pub second : Laid g two
  pub first_version : one.version ≡ 1
  pub second_version : two.version ≡ 1
  pub first_limited : Limited (contents_at f one)
  pub second_limited : Limited (contents_at g two)
  pub fit : sums_within (counts_of_both one.count two.count) ≡ true

-- the way into a file that is merged: its head, or its own refusal
unfoldable pub own_entered : List ℕ → Result Head Verdict
own_entered f = with_head (head_at f) (own_answer f)
