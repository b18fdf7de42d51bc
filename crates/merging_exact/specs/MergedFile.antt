-- Two files in one, as data: the first file's users, channels and sessions, then the second's with their numbers shifted. Trees hold no numbers of nodes.
use Rattle.std.specs.Prelude.{ℕ, ◌+◌, ◌++◌, map, length}
use Rattle.format.specs.declared.Channel.{Channel}
use Rattle.merging.specs.Merged.{shifted}
use Rattle.reading_exact.specs.File.{Routine, File}
use Rattle.merging_exact.specs.Moved.{moved_tree}

-- after so many users, and channels
abbrev pub later_channel : ℕ → Channel → Channel
later_channel users c = record { owner = users + c.owner; kind = c.kind }

abbrev pub later_session : ℕ → ℕ → Routine → Routine
later_session users channels s = record { user = users + s.user; mask = s.mask; tree = moved_tree (shifted users channels) s.tree }

abbrev pub merged_file : File → File → File
merged_file F G = record {
  users = F.users ++ G.users;
  grants = F.grants;
  kinds = F.kinds;
  channels = F.channels ++ map (later_channel (length F.users)) G.channels;
  sessions = F.sessions ++ map (later_session (length F.users) (length F.channels)) G.sessions;
}
