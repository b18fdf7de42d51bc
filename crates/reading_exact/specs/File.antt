-- The clinic file as data, when it is well formed, its bytes, and which bytes read as it.
use Rattle.std.specs.Prelude.{ℕ, suc, ◌-◌, ◌≤◌, ◌<◌, ◌≡◌, true, List, [], ◌∷◌, map, length, get_or}
use Rattle.format.specs.Contents.{Contents}
use Rattle.format.specs.Writing.{encoded}
use Rattle.masks.specs.Mask.{has, NamesOnly, Within}
use Rattle.format.specs.declared.Role.{Role}
use Rattle.format.specs.declared.Channel.{Channel}
use Rattle.format.specs.declared.Session.{Session}
use Rattle.format.specs.declared.Node.{Node}
use Rattle.reading_exact.specs.Lists.{All}
use Rattle.reading_exact.specs.Tree.{Tree, past, flatten, height, Worded}

-- a session with its tree
pub record Routine : Type 0 where
  pub user : ℕ
  pub mask : ℕ
  pub tree : Tree

-- a role of a file of version 2 or 3: what its own record permits, and the mask of its juniors
pub record Senior : Type 0 where
  pub own : Role
  pub juniors : ℕ

-- the roles, by the version of the file: version 2 adds a mask of junior roles to each, and version 3 has the same, with its nodes by column
pub data Grants : Type 0 where
  first : List Role → Grants
  second : List Senior → Grants
  third : List Senior → Grants

abbrev pub version_of : Grants → ℕ
version_of (first rs) = 1
version_of (second rs) = 2
version_of (third rs) = 3

abbrev pub roles_of : Grants → List Role
roles_of (first rs) = rs
roles_of (second rs) = map (λ (r : Senior). r.own) rs
roles_of (third rs) = map (λ (r : Senior). r.own) rs

-- version 1 reads as if all masks were 0
abbrev pub juniors_of : Grants → List ℕ
juniors_of (first rs) = map (λ (r : Role). 0) rs
juniors_of (second rs) = map (λ (r : Senior). r.juniors) rs
juniors_of (third rs) = map (λ (r : Senior). r.juniors) rs

-- each user's mask of roles, the roles, what each kind carries, the channels, the sessions
pub record File : Type 0 where
  pub users : List ℕ
  pub grants : Grants
  pub kinds : List ℕ
  pub channels : List Channel
  pub sessions : List Routine

abbrev pub nodes_of : File → List Node
nodes_of F = flatten 1 (map (λ (s : Routine). s.tree) F.sessions)

-- an item of 1 to n
abbrev pub InCount : ℕ → ℕ → Type 0
InCount n x = (1 ≤ x) × (x ≤ n)

-- every junior has a lower number than its senior; the roles are numbered from i on
abbrev pub LowerFrom : ℕ → List ℕ → Type 0
LowerFrom i [] = Unit {0}
LowerFrom i (m ∷ ms) = ((x : ℕ) → has m x ≡ true → x < i) × LowerFrom (suc i) ms

-- counts in range; records that name only what exists; juniors lower than their senior; each session's user exists, and its starting roles are assigned to that user;
-- at most 8 variables on a path; operands that are words
pub record WellFormed (F : File) : Type 0 where
  pub few_users : length F.users ≤ 32
  pub few_roles : length (roles_of F.grants) ≤ 16
  pub few_kinds : length F.kinds ≤ 32
  pub few_channels : length F.channels ≤ 64
  pub few_sessions : length F.sessions ≤ 32
  pub few_nodes : length (nodes_of F) ≤ 1024
  pub users_fit : All (λ m. NamesOnly (length (roles_of F.grants)) m) F.users
  pub roles_fit : All (λ r. NamesOnly (length F.kinds) r.sends × NamesOnly (length F.kinds) r.receives) (roles_of F.grants)
  pub juniors_fit : LowerFrom 1 (juniors_of F.grants)
  pub kinds_fit_lem : All (λ k. k ≤ length F.kinds) F.kinds
  pub channels_fit : All (λ c. InCount (length F.users) c.owner × InCount (length F.kinds) c.kind.0) F.channels
  pub sessions_fit : All (λ s. InCount (length F.users) s.user × Within s.mask (get_or F.users (s.user - 1) 0)) F.sessions
  pub trees_fit : All (λ s. (height s.tree ≤ 8) × Worded s.tree) F.sessions

-- the sessions' records: session 1's root is 1, and each root follows the tree before it
unfoldable pub rooted : ℕ → List Routine → List Session
rooted at [] = []
rooted at (s ∷ ss) = record { user = s.user; mask = s.mask; root = at } ∷ rooted (past at s.tree) ss

-- what the file holds: its trees as nodes
abbrev pub contents_for : File → Contents
contents_for F = record {
  users = F.users;
  roles = roles_of F.grants;
  juniors = juniors_of F.grants;
  kinds = F.kinds;
  channels = F.channels;
  sessions = rooted 1 F.sessions;
  nodes = nodes_of F;
}

-- "Version 1 still reads, as if all masks were 0": the same file in version 2
abbrev pub masks_none : Grants → Grants
masks_none (first rs) = second (map (λ (r : Role). record { own = r; juniors = 0 }) rs)
masks_none (second rs) = second rs
masks_none (third rs) = second rs

abbrev pub as_second : File → File
as_second F = record { users = F.users; grants = masks_none F.grants; kinds = F.kinds; channels = F.channels; sessions = F.sessions }

-- its bytes
unfoldable pub encode : File → List ℕ
encode F = encoded (version_of F.grants) (contents_for F)

-- "the version 1 file with all counts 0"
abbrev pub unplanned : File
unplanned = record { users = []; grants = first []; kinds = []; channels = []; sessions = [] }

-- bytes read as a file: they are its bytes, or there are none and it is the file with nothing planned
pub data ReadsAs (f : List ℕ) (F : File) : Type 0 where
  sent : encode F ≡ f → ReadsAs f F
  nothing_sent : f ≡ [] → F ≡ unplanned → ReadsAs f F
