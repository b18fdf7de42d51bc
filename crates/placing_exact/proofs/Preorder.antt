-- The nodes of a tree of labels in node order, and what becomes of each: its parent's state and its own.
use Prim.Native.Nat.{ℕ}
use mathlib.Core.Path.{◌≡◌, refl, ap, ◌∙◌}
use mathlib.Core.List.{List, [], ◌∷◌, map}
use Rattle.optimum.specs.Optimum.{Bin, nil, node, States, listed}
use Rattle.states.specs.declared.Turn.{Turn}
use Rattle.states.specs.States.{Label}
use Rattle.rules.specs.Schema.{Schema}
use Rattle.reading_exact.specs.File.{Routine}
use Rattle.placing_exact.specs.Placed.{labels, AllStates, listed_all}

abbrev pub turn : ℕ → ℕ → Turn
turn p s = record { from = p; to = s }

module _ {N : Type 0} where
  -- before those that follow
  unfoldable pub spread : Bin N → List N → List N
  spread nil ls = ls
  spread (node n l r) ls = n ∷ spread l (spread r ls)

  -- the turns of the states, where the node above has the state p
  unfoldable pub walked : (t : Bin N) → ℕ → States t → List Turn → List Turn
  walked nil p a ts = ts
  walked (node n l r) p a ts = turn p a.0 ∷ walked l a.0 a.1 (walked r a.0 a.2 ts)

  pub walked_states : (t : Bin N) (p : ℕ) (a : States t) (ts : List Turn)
      → map (λ (t : Turn). t.to) (walked t p a ts) ≡ listed t a (map (λ (t : Turn). t.to) ts)
  unfolding walked listed
  walked_states nil p a ts = refl
  walked_states (node n l r) p a ts =
      ap {B = List ℕ} (λ x. a.0 ∷ x)
      (walked_states l a.0 a.1 (walked r a.0 a.2 ts) ∙ ap (listed l a.1) (walked_states r a.0 a.2 ts))

-- over all sessions
unfoldable pub spread_all : Schema → List Routine → List Label
spread_all D [] = []
spread_all D (s ∷ ss) = spread (labels D s.user [] s.tree) (spread_all D ss)

unfoldable pub walked_all : (D : Schema) (ss : List Routine) → AllStates D ss → List Turn
walked_all D [] a = []
walked_all D (s ∷ ss) a = walked (labels D s.user [] s.tree) 0 a.0 (walked_all D ss a.1)

pub all_states : (D : Schema) (ss : List Routine) (a : AllStates D ss) → map (λ (t : Turn). t.to) (walked_all D ss a) ≡ listed_all D ss a
unfolding walked_all listed_all
all_states D [] a = refl
all_states D (s ∷ ss) a =
    let t : Bin Label = labels D s.user [] s.tree in
    walked_states t 0 a.0 (walked_all D ss a.1) ∙ ap (listed t a.0) (all_states D ss a.1)
