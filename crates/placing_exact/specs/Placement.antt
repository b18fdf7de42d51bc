-- A placement of a file, of the kind that demand 3 compares: one predicate for what is answered and for every rival, and the same by rules 5 and 6 alone.
use Rattle.std.specs.Prelude.{ℕ, suc, ◌+◌, ◌≡◌, false, List, [], ◌∷◌, map}
use Rattle.masks.specs.Mask.{has, with, without, AtMostOne}
use Rattle.reading_exact.specs.Lists.{All}
use Rattle.reading_exact.specs.Tree.{Tree, end, fork, step, switch, on, off}
use Rattle.reading_exact.specs.File.{Routine, File}
use Rattle.checking_exact.specs.Tables.{schema_for}
use Rattle.checking_exact.specs.Typing.{ByRoles, Obeys}

-- each on and off node replaced by its child
unfoldable pub plain : Tree → Tree
plain end = end
plain (fork a b) = fork (plain a) (plain b)
plain (step s t) = step s (plain t)
plain (switch w r t) = plain t

-- the on steps: nodes of tag 7, each counted once
unfoldable pub on_steps : Tree → ℕ
on_steps end = 0
on_steps (fork a b) = on_steps a + on_steps b
on_steps (step s t) = on_steps t
on_steps (switch on r t) = suc (on_steps t)
on_steps (switch off r t) = on_steps t

-- over all trees
unfoldable pub on_steps_of : List Tree → ℕ
on_steps_of [] = 0
on_steps_of (t ∷ ts) = on_steps t + on_steps_of ts

-- no role
abbrev pub None : ℕ → Type 0
None m = (x : ℕ) → has m x ≡ false

-- at each node a branch holds rule 5's active set as it stands when that node is reached: at most one role at every node, none at an end
unfoldable pub Holds : ℕ → Tree → Type 0
Holds m end = None m
Holds m (fork a b) = AtMostOne m × Holds m a × Holds m b
Holds m (step s t) = AtMostOne m × Holds m t
Holds m (switch on r t) = AtMostOne m × Holds (with m r) t
Holds m (switch off r t) = AtMostOne m × Holds (without m r) t

-- sessions with other trees, one each
unfoldable pub grafted : List Routine → List Tree → List Routine
grafted [] ts = []
grafted (s ∷ ss) [] = []
grafted (s ∷ ss) (t ∷ ts) = record { user = s.user; mask = s.mask; tree = t } ∷ grafted ss ts

-- the file with other trees: tables, users and masks stay
abbrev pub graft : File → List Tree → File
graft F ts = record { users = F.users; grants = F.grants; kinds = F.kinds; channels = F.channels; sessions = grafted F.sessions ts }

-- any list of trees that gives the file's trees back, passes by the check's own judgement, and holds at most one role, none at an end
pub record Placement (F : File) (ts : List Tree) : Type 0 where
  pub back : map plain ts ≡ map (λ (s : Routine). s.tree) F.sessions
  pub passes : Obeys (graft F ts)
  pub holds : All (λ (s : Routine). Holds s.mask s.tree) (graft F ts).sessions

-- A placement as the paper words it: "it passes if rules 5 and 6 hold". Nothing else is asked of a rival here.
pub record PlacementByRoles (F : File) (ts : List Tree) : Type 0 where
  pub back : map plain ts ≡ map (λ (s : Routine). s.tree) F.sessions
  -- rule 5: the active set begins as the session's mask
  pub passes : All (λ (s : Routine). ByRoles (schema_for F) s.user [] s.mask s.tree) (graft F ts).sessions
  pub holds : All (λ (s : Routine). Holds s.mask s.tree) (graft F ts).sessions
