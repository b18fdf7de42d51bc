-- What the pass for 9 and 10 keeps: the active set plays no part, and of a context only its user and its variables are kept.
use Rattle.std.specs.Prelude.{ℕ, cond, eqb, List, map}
use Rattle.format.specs.Stacks.{stacked}
use Rattle.format.specs.declared.Node.{Node}
use Rattle.rules.specs.declared.Point.{Point}
use Rattle.rules.specs.declared.RuleStep.{RuleStep}
use Rattle.naming.specs.declared.NameStep.{NameStep}
use Rattle.rules.specs.Schema.{Schema}
use Rattle.rules.specs.Kept.{kind_in, owner_in, look, step_of}

abbrev pub bare_point : Schema → ℕ → ℕ → Point
bare_point D u b = record { user = u; assigned = D.assigned u; mask = 0; bound = b }

-- a tree that waits, as one number
abbrev pub unpaired : Schema → ℕ → Point
unpaired D w = bare_point D (kind_in w) (owner_in w)

abbrev pub queued : Schema → List ℕ → ℕ → List Point
queued D a d = map (unpaired D) (stacked 0 a d)

-- the kind of a receive's channel, by the table of names; 0 for any other node
abbrev pub awaited_at : List ℕ → ℕ → Node → ℕ
awaited_at t b n = cond (eqb n.tag 5) (kind_in (look t b n.f1)) 0

-- a node that is no end and no fork
abbrev pub naming_from : ℕ → RuleStep → NameStep
naming_from kind s = record { wrong = s.wrong; binding = s.binding; bound = s.child.bound; awaits = kind }

abbrev pub naming_of : Schema → List ℕ → ℕ → ℕ → Node → NameStep
naming_of D t u b n = naming_from (awaited_at t b n) (step_of D t (bare_point D u b) n)
