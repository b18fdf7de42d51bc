-- Two clinics in one house: the first file's users, channels, sessions and nodes, then the second's, with all numbers shifted.
use Rattle.std.specs.Prelude.{ℕ, ◌+◌, Bool, true, false, cond, ◌&&◌, ◌||◌, List, [], ◌∷◌, ◌++◌, map, eqb, leb, ltb, length}
use Rattle.format.specs.Contents.{Contents, in_count}
use Rattle.format.specs.Writing.{role_words}
use Rattle.format.specs.declared.Channel.{Channel}
use Rattle.format.specs.declared.Session.{Session}
use Rattle.format.specs.declared.Node.{Node}

-- how far the numbers of users, channels and nodes are shifted
pub record Shifts : Type 0 where
  pub users : ℕ
  pub channels : ℕ
  pub nodes : ℕ

-- the second file's stand after those of the first
abbrev pub behind : Contents → Shifts
behind C = record { users = length C.users; channels = length C.channels; nodes = length C.nodes }

-- an operand: 1 to 32 a user, 257 to 320 a channel; variables, and what names nothing, stay
unfoldable pub shifted : ℕ → ℕ → ℕ → ℕ
shifted users channels x = cond (in_count 32 x) (users + x) (cond (ltb 256 x && leb x 320) (channels + x) x)

-- a channel's owner; its kind stays
abbrev pub moved_channel : Shifts → Channel → Channel
moved_channel s c = record { owner = s.users + c.owner; kind = c.kind }

-- a session's user and root; its mask stays
abbrev pub moved_session : Shifts → Session → Session
moved_session s x = record { user = s.users + x.user; mask = x.mask; root = s.nodes + x.root }

-- a fork's second child; both operands of compare and send, and receive's channel; kinds of new and roles stay
unfoldable pub moved_node : Shifts → Node → Node
moved_node s n =
    cond (eqb n.tag 1) (record { tag = n.tag; f1 = s.nodes + n.f1; f2 = n.f2 })
    (cond (eqb n.tag 4 || eqb n.tag 6) (record { tag = n.tag; f1 = shifted s.users s.channels n.f1; f2 = shifted s.users s.channels n.f2 })
    (cond (eqb n.tag 5) (record { tag = n.tag; f1 = shifted s.users s.channels n.f1; f2 = n.f2 }) n))

-- roles and kinds are the same tables in both
unfoldable pub merged_contents : Contents → Contents → Contents
merged_contents C D = record {
  users = C.users ++ D.users;
  roles = C.roles;
  juniors = C.juniors;
  kinds = C.kinds;
  channels = C.channels ++ map (moved_channel (behind C)) D.channels;
  sessions = C.sessions ++ map (moved_session (behind C)) D.sessions;
  nodes = C.nodes ++ map (moved_node (behind C)) D.nodes;
}

unfoldable pub same_words : List ℕ → List ℕ → Bool
same_words [] [] = true
same_words [] (y ∷ ys) = false
same_words (x ∷ xs) [] = false
same_words (x ∷ xs) (y ∷ ys) = eqb x y && same_words xs ys

-- "Roles and kinds must be the same tables in both"
unfoldable pub same_tables : Contents → Contents → Bool
same_tables C D = same_words (role_words C.roles) (role_words D.roles) && same_words C.kinds D.kinds

-- no sum is beyond a count's limit: users 32, channels 64, sessions 32, nodes 1,024
abbrev pub sums_fit : Contents → Contents → Bool
sums_fit C D =
    ((leb (length C.users + length D.users) 32 && leb (length C.channels + length D.channels) 64)
    && leb (length C.sessions + length D.sessions) 32)
    && leb (length C.nodes + length D.nodes) 1024
