-- A tree with at most one on step has at most one node of tag 7.
use Prim.Native.Nat.{ℕ, zero, suc, ◌+◌, ◌-◌, ◌≤◌, ◌<◌}
use mathlib.Core.Path.{◌≡◌, refl, sym, ap, ◌∙◌}
use mathlib.Core.Bool.{Bool, true, false}
use mathlib.Core.List.{List, [], ◌∷◌}
use native.Mathlib.Omega.{arith}
use lib.Dec.{ltb}
use lib.ListN.{get_or, drop}
use lib.Seq.{get_or-drop}
use borrow.Author.Tests.{eq-eqb, ltb-true, ltb-false}
use Rattle.format.specs.Contents.{no_node}
use Rattle.format.specs.declared.Node.{Node}
use Rattle.format.proofs.ContentsLaws.{item_get}
use Rattle.reading_exact.specs.Tree.{Tree, past, write}
use Rattle.reading_exact.specs.Refusals.{nth}
use Rattle.reading_exact.proofs.TreeEnds.{write_rest}
use Rattle.placing_exact.specs.Placement.{on_steps}
use Rattle.placing_exact.specs.Counts.{on_nodes}
use Rattle.placing_exact.proofs.OnNodes.{tree_on_nodes}
use Rattle.exclusion.proofs.SessionNodes.{WrittenAt, InSpan}

-- nodes of tag 7 among the first n of a list: none or more, one or more, two or more
none_in : (l : List Node) (n : ℕ) → on_nodes (drop n l) ≤ on_nodes l
unfolding on_nodes
none_in [] zero = omega arith
none_in [] (suc n) = omega arith
none_in (x ∷ l) zero = omega arith
none_in (x ∷ l) (suc n) = omega (arith, none_in l n)

one_in : (l : List Node) (n q : ℕ) → q < n → (get_or l q no_node).tag ≡ 7 → 1 + on_nodes (drop n l) ≤ on_nodes l
unfolding on_nodes
one_in [] n q l t = let never : ⊥ = omega (arith, t) in absurd never
one_in (x ∷ xs) zero q l t = let never : ⊥ = omega (arith, l) in absurd never
one_in (x ∷ xs) (suc n) zero l t = rw (eq-eqb x.tag 7 t) (omega (arith, none_in xs n))
one_in (x ∷ xs) (suc n) (suc q) l t = omega (arith, one_in xs n q (omega (arith, l)) t)

two_in : (l : List Node) (n p q : ℕ) → p < q → q < n → (get_or l p no_node).tag ≡ 7 → (get_or l q no_node).tag ≡ 7
    → 2 + on_nodes (drop n l) ≤ on_nodes l
unfolding on_nodes
two_in [] n p q k l s t = let never : ⊥ = omega (arith, t) in absurd never
two_in (x ∷ xs) zero p q k l s t = let never : ⊥ = omega (arith, l) in absurd never
two_in (x ∷ xs) (suc n) zero zero k l s t = let never : ⊥ = omega (arith, k) in absurd never
two_in (x ∷ xs) (suc n) zero (suc q) k l s t =
    rw (eq-eqb x.tag 7 s) (omega (arith, one_in xs n q (omega (arith, l)) t))
two_in (x ∷ xs) (suc n) (suc p) zero k l s t = let never : ⊥ = omega (arith, k) in absurd never
two_in (x ∷ xs) (suc n) (suc p) (suc q) k l s t =
    omega (arith, two_in xs n p q (omega (arith, k)) (omega (arith, l)) s t)

module _ (ns : List Node) (t : Tree) (i : ℕ) (W : WrittenAt ns t i) where
  abbrev nodes : List Node
  nodes = write i t W.more

  -- a node of the tree in what is written for it
  in-nodes : (a : ℕ) → InSpan t i a → get_or nodes (a - i) no_node ≡ nth ns a
  in-nodes a s =
      let e : i - 1 + (a - i) ≡ a - 1 = omega (arith, s.0, W.positive) in
      ap (λ (l : List Node). get_or l (a - i) no_node) (sym W.written) ∙ get_or-drop (i - 1) ns (a - i) no_node
      ∙ ap (λ (m : ℕ). get_or ns m no_node) e ∙ sym (item_get no_node ns a (omega (arith, s.0, W.positive)))

  on_tag : (a : ℕ) → InSpan t i a → (nth ns a).tag ≡ 7 → (get_or nodes (a - i) no_node).tag ≡ 7
  on_tag a s e = ap (λ (n : Node). n.tag) (in-nodes a s) ∙ e

  counted : on_nodes nodes ≡ on_steps t + on_nodes (drop (past i t - i) nodes)
  counted = rw (write_rest i t W.more) (tree_on_nodes i t W.more)

  -- a node of tag 7 is an on step, and two are two
  pub some_on : (a : ℕ) → InSpan t i a → (nth ns a).tag ≡ 7 → 1 ≤ on_steps t
  some_on a s e = omega (arith, counted, one_in nodes (past i t - i) (a - i) (omega (arith, s)) (on_tag a s e))

  two_ons : (a b : ℕ) → a < b → InSpan t i a → InSpan t i b → (nth ns a).tag ≡ 7 → (nth ns b).tag ≡ 7 → 2 ≤ on_steps t
  two_ons a b l s u d e =
      let first : a - i < b - i = omega (arith, l, s) in
      let last : b - i < past i t - i = omega (arith, u) in
      omega (arith, counted, two_in nodes (past i t - i) (a - i) (b - i) first last (on_tag a s d) (on_tag b u e))

  -- so one on step at most is one node of tag 7 at most
  pub one_on : on_steps t ≤ 1 → (a b : ℕ) → InSpan t i a → InSpan t i b → (nth ns a).tag ≡ 7 → (nth ns b).tag ≡ 7 → a ≡ b
  one_on few a b s u d e = go (ltb a b) refl (ltb b a) refl
    where
      go : (p : Bool) → ltb a b ≡ p → (q : Bool) → ltb b a ≡ q → a ≡ b
      go true f q h = let never : ⊥ = omega (arith, few, two_ons a b (ltb-true a b f) s u d e) in absurd never
      go false f true h = let never : ⊥ = omega (arith, few, two_ons b a (ltb-true b a h) u s e d) in absurd never
      go false f false h = omega (arith, ltb-false a b f, ltb-false b a h)
