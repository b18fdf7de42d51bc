-- What a file adds to the sheet: its refusal's number, or what placing it by itself comes to.
use Rattle.std.specs.Prelude.{ℕ, ◌+◌, max, List, [], ◌∷◌, cond, eqb, length}
use Rattle.format.specs.Contents.{Contents, contents_of}
use Rattle.format.specs.declared.Session.{Session}
use Rattle.format.specs.declared.Node.{Node}
use Rattle.format.specs.declared.Verdict.{Verdict}
use Rattle.trees.specs.Shape.{depth_after}
use Rattle.states.specs.States.{turns_of}
use Rattle.states.specs.declared.Turn.{Turn}
use Rattle.groups.specs.Groups.{on_of, ons_of}
use Rattle.placing.specs.Placing.{labels_from, turns_for, placeable_by, judging}
use Rattle.sheets.specs.declared.Entry.{Entry}

-- The most on steps in one session, from the left over the nodes, each with its turn: the trees that are due (1 before a session's root), the on steps
-- of the session so far, and the most so far.
unfoldable pub most_from : ℕ → ℕ → ℕ → List Node → List Turn → ℕ
most_from due sum most [] ts = most
most_from due sum most (n ∷ ns) [] = most
most_from due sum most (n ∷ ns) (t ∷ ts) =
    cond (eqb (depth_after n.tag due) 0) (most_from 1 0 (max most (sum + on_of t)) ns ts) (most_from (depth_after n.tag due) (sum + on_of t) most ns ts)

-- where the sessions before these end: at the root of the first of them, or else at a number
abbrev pub end_by : ℕ → List Session → ℕ
end_by last [] = last
end_by last (s ∷ ss) = s.root

-- "A refused file adds to the files and to its refusal only"
abbrev pub refused_at : ℕ → Entry
refused_at n = record { number = n; sessions = 0; on_steps = 0; most = 0 }

abbrev pub entry_by : Contents → List Turn → Verdict → Entry
entry_by C ts v = cond (eqb v.number 0) (record { number = 0; sessions = length C.sessions; on_steps = ons_of ts; most = most_from 1 0 0 C.nodes ts }) (refused_at v.number)

-- of a file that 1 to 10 leave clean, with each node's roles in a table
abbrev pub entry_from : Contents → List ℕ → Entry
entry_from C roles = entry_by C (turns_of (labels_from C roles)) (placeable_by C (labels_from C roles))

unfoldable pub entry_of : List ℕ → Entry
entry_of f = entry_by (contents_of f) (turns_for (contents_of f)) (judging f)
