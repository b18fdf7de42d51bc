-- Trees without on and off: those that are left as they are where each on and off node is replaced by its child.
use mathlib.Core.Path.{◌≡◌, refl, ap, ap₂, subst}
use mathlib.Core.Logic.{◌↔◌}
use Rattle.reading_exact.specs.Lists.{All}
use Rattle.reading_exact.specs.Tree.{Tree, end, fork, step, switch}
use Rattle.reading_exact.specs.File.{File}
use Rattle.reading_exact.proofs.AllLaws.{all_map}
use Rattle.placing_exact.specs.Placement.{plain}
use Rattle.placing_exact.specs.Placed.{Bare}

-- no node of the tree is on or off
abbrev pub Free : Tree → Type 0
Free end = Unit {0}
Free (fork a b) = Free a × Free b
Free (step s t) = Free t
Free (switch w r t) = ⊥

plain_free : (t : Tree) → Free (plain t)
unfolding plain
plain_free end = tt
plain_free (fork a b) = (plain_free a, plain_free b)
plain_free (step s t) = plain_free t
plain_free (switch w r t) = plain_free t

free_plain : (t : Tree) → Free t → plain t ≡ t
unfolding plain
free_plain end h = refl
free_plain (fork a b) h = ap₂ fork (free_plain a h.0) (free_plain b h.1)
free_plain (step s t) h = ap (step s) (free_plain t h)
free_plain (switch w r t) h = absurd h

pub free_iff : (t : Tree) → (plain t ≡ t) ↔ Free t
free_iff t = (λ e. subst Free e (plain_free t), free_plain t)

-- what 14 leaves has no on or off
pub bare_free : (F : File) → Bare F → All (λ s. Free s.tree) F.sessions
bare_free F b = all_map (λ s h. (free_iff s.tree).0 h.1) F.sessions b
