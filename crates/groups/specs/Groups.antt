-- The nodes of a placed file: each old node with the off and on before it, and what names it renamed.
use Rattle.std.specs.Prelude.{ℕ, zero, suc, ◌+◌, List, [], ◌∷◌, ◌++◌, map, cond, eqb, length, get_or, take, drop}
use Rattle.format.specs.Contents.{Contents}
use Rattle.format.specs.declared.Head.{Head}
use Rattle.format.specs.declared.Session.{Session}
use Rattle.format.specs.declared.Node.{Node}
use Rattle.states.specs.declared.Turn.{Turn}
use Rattle.states.specs.States.{unpacked}

-- tags 7 and 8
abbrev pub switch_to : ℕ → ℕ → Node
switch_to tag role = record { tag = tag; f1 = role; f2 = 0 }

abbrev pub offs : ℕ → List Node
offs zero = []
offs (suc r) = switch_to 8 (suc r) ∷ []

abbrev pub ons : ℕ → List Node
ons zero = []
ons (suc r) = switch_to 7 (suc r) ∷ []

-- a node whose state differs from its parent's gets, before it, off for the parent's role if there was one, then on for its own if any
unfoldable pub before : Turn → List Node
before t = cond (eqb t.from t.to) [] (offs t.from ++ ons t.to)

-- how many nodes stand for one, and how many for all
abbrev pub size_of : Turn → ℕ
size_of t = suc (length (before t))

unfoldable pub sizes_of : List Turn → ℕ
sizes_of [] = 0
sizes_of (t ∷ ts) = size_of t + sizes_of ts

-- the on steps
abbrev pub on_of : Turn → ℕ
on_of t = cond (eqb t.from t.to) 0 (length (ons t.to))

unfoldable pub ons_of : List Turn → ℕ
ons_of [] = 0
ons_of (t ∷ ts) = on_of t + ons_of ts

-- the number at which each node's group starts, the first at a number
unfoldable pub starts_from : ℕ → List Turn → List ℕ
starts_from at [] = []
starts_from at (t ∷ ts) = at ∷ starts_from (at + size_of t) ts

-- by old number; 0 is no node
abbrev pub starts_of : List Turn → List ℕ
starts_of ts = 0 ∷ starts_from 1 ts

-- a fork's second child has a new number
abbrev pub moved : List ℕ → Node → Node
moved starts n = record { tag = n.tag; f1 = cond (eqb n.tag 1) (get_or starts n.f1 0) n.f1; f2 = n.f2 }

unfoldable pub groups_from : List ℕ → List Node → List Turn → List Node
groups_from starts [] ts = []
groups_from starts (n ∷ ns) [] = []
groups_from starts (n ∷ ns) (t ∷ ts) = before t ++ moved starts n ∷ groups_from starts ns ts

-- the sessions: each root has a new number
abbrev pub rerooted : List ℕ → Session → Session
rerooted starts s = record { user = s.user; mask = s.mask; root = get_or starts s.root 0 }

unfoldable pub sessions_from : List ℕ → List Session → List Session
sessions_from starts [] = []
sessions_from starts (s ∷ ss) = rerooted starts s ∷ sessions_from starts ss

-- a head with another number of nodes: no section stands after them
abbrev pub with_nodes : Head → ℕ → Head
with_nodes h n = record {
  version = h.version;
  count = record {
    users = h.count.users;
    roles = h.count.roles;
    kinds = h.count.kinds;
    channels = h.count.channels;
    sessions = h.count.sessions;
    nodes = n;
  };
  at = h.at;
}

-- the whole file with new nodes and new node numbers: tables, users and masks stay
abbrev pub placed_contents : Contents → List Turn → List ℕ → Contents
placed_contents C ts starts = record {
  users = C.users;
  roles = C.roles;
  juniors = C.juniors;
  kinds = C.kinds;
  channels = C.channels;
  sessions = sessions_from starts C.sessions;
  nodes = groups_from starts C.nodes ts;
}

-- the turns of so many nodes, as a table holds them from 1 on
unfoldable pub turns_in : List ℕ → ℕ → List Turn
turns_in table n = map unpacked (take n (drop 1 table))
