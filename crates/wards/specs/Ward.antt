-- Two files with one session in common, in the words of document 02, K14, and that session's nodes counted from its own root.
use Rattle.std.specs.Prelude.{ℕ, ◌-◌, ◌≡◌, cond, List, map, eqb, length, get_or, take, drop}
use Rattle.format.specs.Contents.{Contents, item, no_session}
use Rattle.format.specs.declared.Node.{Node}
use Rattle.reading_exact.specs.Tree.{words}
use Rattle.reading_exact.specs.File.{File, InCount}
use Rattle.placing_exact.specs.Promised.{session}

-- "Two files .. agree on roles, kinds, channels, and one session's user number, that user's mask, and its tree counted from its own root": session i of the one and session j of the other. A tree holds no numbers of
-- nodes, so that it is counted from its own root. "Other users' masks and other sessions differ freely", and so do the numbers of users and of sessions.
pub record SameWard (F G : File) (i j : ℕ) : Type 0 where
  pub here : InCount (length F.sessions) i
  pub there : InCount (length G.sessions) j
  pub roles : F.grants ≡ G.grants
  pub kinds : F.kinds ≡ G.kinds
  pub channels : F.channels ≡ G.channels
  pub user : (session F i).user ≡ (session G j).user
  pub mask : item 0 F.users (session F i).user ≡ item 0 G.users (session F i).user
  pub tree : (session F i).tree ≡ (session G j).tree

-- a node counted from a root: a fork's f1 less the root's number, every other word as it is
unfoldable pub counted : ℕ → Node → Node
counted root x = cond (eqb x.tag 1) (words 1 (x.f1 - root) x.f2) x

-- so many nodes of session i from its root on, counted from it
unfoldable pub from_root : Contents → ℕ → ℕ → List Node
from_root C i size = let r = (get_or C.sessions (i - 1) no_session).root in map (counted r) (take size (drop (r - 1) C.nodes))
