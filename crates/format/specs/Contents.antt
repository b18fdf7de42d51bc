-- What a file holds, by the counts of its head: its tables, its sessions and its nodes. Items are numbered from 1; what is out of count is nothing.
use Rattle.std.specs.Prelude.{ℕ, zero, suc, Bool, ◌&&◌, List, [], ◌∷◌, leb, ltb, get_or}
use Rattle.format.specs.Header.{head_at}
use Rattle.format.specs.Sections.{user_roles, role_of, juniors_of, carried, channel_of, session_of, node_of}
use Rattle.format.specs.declared.Head.{Head}
use Rattle.format.specs.declared.Role.{Role}
use Rattle.format.specs.declared.Channel.{Channel}
use Rattle.format.specs.declared.Session.{Session}
use Rattle.format.specs.declared.Node.{Node}

-- each user's mask of roles, the roles, the mask of each role's juniors, what each kind carries, the channels, the sessions, the nodes
pub record Contents : Type 0 where
  pub users : List ℕ
  pub roles : List Role
  pub juniors : List ℕ
  pub kinds : List ℕ
  pub channels : List Channel
  pub sessions : List Session
  pub nodes : List Node

-- so many items from the number i on, each by its number
unfoldable pub tabled : {A : Type 0} → (ℕ → A) → ℕ → ℕ → List A
tabled g i zero = []
tabled g i (suc k) = g i ∷ tabled g (suc i) k

-- an item of 1 to n
abbrev pub in_count : ℕ → ℕ → Bool
in_count n x = ltb 0 x && leb x n

-- the item of a number, and nothing where there is none
unfoldable pub item : {A : Type 0} → A → List A → ℕ → A
item nothing xs zero = nothing
item nothing xs (suc n) = get_or xs n nothing

abbrev pub no_role : Role
no_role = record { sends = 0; receives = 0 }

abbrev pub no_channel : Channel
no_channel = record { owner = 0; kind = record { 0 = 0 } }

abbrev pub no_session : Session
no_session = record { user = 0; mask = 0; root = 0 }

abbrev pub no_node : Node
no_node = record { tag = 0; f1 = 0; f2 = 0 }

-- the one function from bytes to what they hold, by a head
unfoldable pub contents_at : List ℕ → Head → Contents
contents_at f h = record {
  users = tabled (user_roles f h) 1 h.count.users;
  roles = tabled (role_of f h) 1 h.count.roles;
  juniors = tabled (juniors_of f h) 1 h.count.roles;
  kinds = tabled (carried f h) 1 h.count.kinds;
  channels = tabled (channel_of f h) 1 h.count.channels;
  sessions = tabled (session_of f h) 1 h.count.sessions;
  nodes = tabled (node_of f h) 1 h.count.nodes;
}

-- by the file's own head
abbrev pub contents_of : List ℕ → Contents
contents_of f = contents_at f (head_at f)
