-- The nodes that a file holds as placing sees them are the nodes of its trees, in node order.
use Prim.Native.Nat.{ℕ, suc}
use mathlib.Core.Path.{◌≡◌, refl, ap, ◌∙◌, subst}
use mathlib.Core.List.{List, [], ◌∷◌, map}
use borrow.Author.Tests.{eq-eqb}
use Rattle.format.specs.declared.Node.{Node}
use Rattle.rules.specs.Schema.{Schema}
use Rattle.rules.specs.Names.{Bound}
use Rattle.rules.specs.Rules.{Context, names_fit, kinds_fit, wrong, child_of, waiting_after}
use Rattle.rules.specs.Checking.{reached, rightly}
use Rattle.rules.specs.Candidates.{candidates, candidates_in}
use Rattle.states.specs.States.{Label, labelled}
use Rattle.reading_exact.specs.Lists.{All}
use Rattle.reading_exact.proofs.AllLaws.{all_map}
use Rattle.reading_exact.specs.Tree.{Step, repeat, new, compare, receive, send, Tree, end, fork, step, switch, words, step_node, past, write, flatten}
use Rattle.reading_exact.specs.File.{Routine, File, WellFormed, nodes_of, contents_for}
use Rattle.checking_exact.specs.Tables.{schema_for}
use Rattle.checking_exact.specs.Typing.{WellKinded}
use Rattle.checking_exact.proofs.ClearTrees.{opening, Clear}
use Rattle.checking_exact.proofs.TreeRules.{kinded_iff}
use Rattle.checking_exact.proofs.FileRules.{openings_for, ranged}
use Rattle.placing.specs.Placing.{labels_in}
use Rattle.placing_exact.specs.Placed.{label, vars_below, labels, Bare}
use Rattle.placing_exact.proofs.SwitchFree.{Free, bare_free}
use Rattle.placing_exact.proofs.Preorder.{spread, spread_all}
use Rattle.placing_exact.proofs.StateRules.{at, child_step}

module _ (D : Schema) where
  -- the labels of nodes in their contexts
  abbrev read : List Node → List Context → List Label
  read ns st = labelled ns (map (λ (r : Context × Node). candidates D r.0 r.1) (rightly D (reached D ns st)))

  one_label : (n : Node) (ns : List Node) (c : Context) (st : List Context) → wrong D c n ≡ 0
      → read (n ∷ ns) (c ∷ st) ≡ record { tag = n.tag; roles = candidates D c n } ∷ read ns (waiting_after D c n st)
  unfolding labelled reached rightly
  one_label n ns c st e = rw (eq-eqb (wrong D c n) 0 e)

  module _ (u m : ℕ) where
    step_after : (vs : List Bound) (s : Step) (st : List Context) → waiting_after D (at u vs m) (step_node s) st ≡ at u (vars_below D u vs s) m ∷ st
    unfolding child_of
    step_after vs repeat st = refl
    step_after vs (new k) st = refl
    step_after vs (compare a b) st = refl
    step_after vs (receive x) st = refl
    step_after vs (send x v) st = refl

    -- the starting mask and the roles on the path do not matter
    tree_labels : (i : ℕ) (vs : List Bound) (t : Tree) (ns : List Node) (st : List Context) → Free t → Clear D (wrong D) (at u vs m) t
        → read (write i t ns) (at u vs m ∷ st) ≡ spread (labels D u vs t) (read ns st)
    unfolding write spread Clear candidates wrong names_fit kinds_fit
    tree_labels i vs end ns st h w = one_label (words 0 0 0) ns (at u vs m) st refl
    tree_labels i vs (fork a b) ns st h w =
        let k : ℕ = past (suc i) a in
        one_label (words 1 k 0) (write (suc i) a (write k b ns)) (at u vs m) st refl
        ∙ ap {B = List Label} (λ l. label D u vs (words 1 0 0) ∷ l)
        (tree_labels (suc i) vs a (write k b ns) (at u vs m ∷ st) h.0 w.0 ∙ ap (spread (labels D u vs a)) (tree_labels k vs b ns st h.1 w.1))
    tree_labels i vs (step s t) ns st h w =
        one_label (step_node s) (write (suc i) t ns) (at u vs m) st w.0
        ∙ ap {B = List Label} (λ l. label D u vs (step_node s) ∷ l)
        (ap (read (write (suc i) t ns)) (step_after vs s st)
        ∙ tree_labels (suc i) (vars_below D u vs s) t ns st h (subst (λ (c : Context). Clear D (wrong D) c t) (child_step D u vs s m) w.1))
    tree_labels i vs (switch w r t) ns st h c = absurd h

  all_labels : (i : ℕ) (ss : List Routine) → All (λ s. Free s.tree) ss → All (λ s. Clear D (wrong D) (opening s) s.tree) ss
      → read (flatten i (map (λ (s : Routine). s.tree) ss)) (map opening ss) ≡ spread_all D ss
  unfolding flatten spread_all labelled
  all_labels i [] h w = refl
  all_labels i (s ∷ ss) h w =
      let ts : List Tree = map (λ (s : Routine). s.tree) ss in
      tree_labels s.user s.mask i [] s.tree (flatten (past i s.tree) ts) (map opening ss) h.0 w.0
      ∙ ap (spread (labels D s.user [] s.tree)) (all_labels (past i s.tree) ss h.1 w.1)

module _ (F : File) (W : WellFormed F) (N : WellKinded F) (B : Bare F) where
  abbrev D : Schema
  D = schema_for F

  -- 9 and 10 find nothing all over the trees
  clear : All (λ s. Clear D (wrong D) (opening s) s.tree) F.sessions
  clear = all_map (λ s h. (kinded_iff D (ranged F W) s.user [] s.mask s.tree).1 h) F.sessions N

  pub labels_read : labels_in (contents_for F) ≡ spread_all (schema_for F) F.sessions
  unfolding candidates_in
  labels_read = ap (read D (nodes_of F)) (openings_for F) ∙ all_labels D 1 F.sessions (bare_free F B) clear
