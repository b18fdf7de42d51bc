-- 15 finds nothing exactly where each send and receive has a role of the user that permits it.
use Prim.Native.Nat.{ℕ, zero, suc, ◌≤◌}
use mathlib.Core.Path.{◌≡◌, refl, sym, ap, ◌∙◌}
use mathlib.Core.Logic.{◌↔◌}
use mathlib.Core.Bool.{Bool, true, false, cond, not, ◌&&◌, false≢true, and-eq-true_iff}
use mathlib.Core.List.{List, [], ◌∷◌}
use native.Mathlib.Omega.{arith}
use lib.Dec.{eqb}
use lib.ListN.{length}
use borrow.Author.Tests.{eqb-false, ne_eqb}
use Rattle.masks.specs.Mask.{has, NamesOnly}
use Rattle.masks.proofs.Laws.{has_pos, has_none}
use Rattle.masks.proofs.Meets.{some_item}
use Rattle.format.specs.Answers.{fine, refused}
use Rattle.format.specs.declared.Verdict.{Verdict}
use Rattle.format.specs.declared.Node.{Node}
use Rattle.rules.specs.Schema.{Schema}
use Rattle.rules.specs.Names.{Bound}
use Rattle.rules.specs.Candidates.{candidates}
use Rattle.optimum.specs.Optimum.{any_to, Bin, nil, node, served}
use Rattle.optimum.proofs.Served.{served_some, some_served}
use Rattle.states.specs.States.{Label, needs, suits}
use Rattle.placing.specs.Placing.{unserved_from}
use Rattle.reading_exact.specs.Lists.{All}
use Rattle.reading_exact.specs.Tree.{Tree, end, fork, step, switch, words, step_node}
use Rattle.reading_exact.specs.File.{Routine, File, InCount, WellFormed}
use Rattle.reading_exact.proofs.AllLaws.{all_map, all_both}
use Rattle.checking_exact.specs.Tables.{schema_for}
use Rattle.placing_exact.specs.Placed.{context, vars_below, labels, served_all}
use Rattle.placing_exact.proofs.StateRules.{candidate_role}
use Rattle.placing_exact.proofs.SoundSessions.{roles_fit}
use Rattle.placing_exact.proofs.Preorder.{spread, spread_all}

-- one of the states 0 to k that the node may have
any-iff : {N : Type 0} (ok : N → ℕ → Bool) (k : ℕ) (n : N) → (any_to k (ok n) ≡ true) ↔ ((s : ℕ) × (s ≤ k) × (ok n s ≡ true))
unfolding served
any-iff ok k n = (
  λ h. let (a, p, q) = served_some ok k (node n nil nil) ((and-eq-true_iff (any_to k (ok n)) true).1 (h, refl)) in (a.0, p.0, q.0),
  λ (s, l, h). ((and-eq-true_iff (any_to k (ok n)) true).0 (some_served ok k (node n nil nil) (s, tt, tt) (l, tt, tt) (h, tt, tt))).0,
)

-- a node that some role of its user permits, or that needs none
abbrev Open : Label → Type 0
Open l = (needs l.tag && eqb l.roles 0) ≡ false

abbrev Served : Label → Type 0
Served l = any_to 16 (suits l) ≡ true

-- its roles are of 1 to 16
abbrev Few : Label → Type 0
Few l = NamesOnly 16 l.roles

open_served : (l : Label) → Few l → Open l → Served l
unfolding suits
open_served l few h = (any-iff suits 16 l).1 (go (needs l.tag) refl h)
  where
    by_role : (x : ℕ) → has l.roles x ≡ true → (s : ℕ) × (s ≤ 16) × (suits l s ≡ true)
    by_role zero m = let no_way : ⊥ = omega (arith, has_pos l.roles 0 m) in absurd no_way
    by_role (suc r) m = (suc r, few (suc r) m, m)

    go : (b : Bool) → needs l.tag ≡ b → (b && eqb l.roles 0) ≡ false → (s : ℕ) × (s ≤ 16) × (suits l s ≡ true)
    go false e k = (0, omega arith, ap not e)
    go true e k = let (x, m) = some_item l.roles (eqb-false l.roles 0 k) in by_role x m

served_open : (l : Label) → Served l → Open l
unfolding suits
served_open l h = let (s, i, k) = (any-iff suits 16 l).0 h in go s k
  where
    none : (b c : Bool) → not b ≡ true → (b && c) ≡ false
    none false c k = refl
    none true c k = absurd (false≢true k)

    last : (b c : Bool) → c ≡ false → (b && c) ≡ false
    last false c k = refl
    last true c k = k

    go : (s : ℕ) → suits l s ≡ true → Open l
    go zero k = none (needs l.tag) (eqb l.roles 0) k
    go (suc r) k =
        last (needs l.tag) (eqb l.roles 0)
        (ne_eqb l.roles 0 (λ e. false≢true (sym (has_none (suc r)) ∙ sym (ap (λ (m : ℕ). has m (suc r)) e) ∙ k)))

unserved_iff : (i : ℕ) (ls : List Label) → (unserved_from i ls ≡ fine) ↔ All Open ls
unfolding unserved_from
unserved_iff i [] = (λ h. tt, λ h. refl)
unserved_iff i (l ∷ ls) =
    let more = unserved_iff (suc i) ls in
    (λ h. go (needs l.tag && eqb l.roles 0) more.0 h, λ h. ap (λ (b : Bool). cond b (refused 15 i) (unserved_from (suc i) ls)) h.0 ∙ more.1 h.1)
  where
    go : (b : Bool) → (unserved_from (suc i) ls ≡ fine → All Open ls) → cond b (refused 15 i) (unserved_from (suc i) ls) ≡ fine → (b ≡ false) × All Open ls
    go true more h = let no_way : ⊥ = omega (arith, ap (λ (v : Verdict). v.number) h) in absurd no_way
    go false more h = (refl, more h)

-- all nodes of a tree, and of all trees
spread_served : (t : Bin Label) (ls : List Label) → ((served suits 16 t ≡ true) × All Served ls) ↔ All Served (spread t ls)
unfolding served spread
spread_served nil ls = (λ h. h.1, λ h. (refl, h))
spread_served (node n l r) ls =
    let left = spread_served l (spread r ls) in
    let right = spread_served r ls in
    let one = and-eq-true_iff (any_to 16 (suits n)) (served suits 16 l && served suits 16 r) in
    let two = and-eq-true_iff (served suits 16 l) (served suits 16 r) in (
      λ h. let (a, b) = one.0 h.0 in let (c, d) = two.0 b in (a, left.0 (c, right.0 (d, h.1))),
      λ h. let (c, e) = left.1 h.1 in let (d, g) = right.1 e in (one.1 (h.0, two.1 (c, d)), g),
    )

all_served : (D : Schema) (ss : List Routine) → (served_all D ss ≡ true) ↔ All Served (spread_all D ss)
unfolding served_all spread_all
all_served D [] = (λ h. tt, λ h. refl)
all_served D (s ∷ ss) =
    let t : Bin Label = labels D s.user [] s.tree in
    let one = and-eq-true_iff (served suits 16 t) (served_all D ss) in
    let tree = spread_served t (spread_all D ss) in
    let more = all_served D ss in (
      λ h. let (a, b) = one.0 h in tree.0 (a, more.0 b),
      λ h. let (a, b) = tree.1 h in one.1 (a, more.1 b),
    )

-- the roles that a node may be given are the user's
module _ (D : Schema) (u : ℕ) (few : NamesOnly 16 (D.assigned u)) where
  candidates_few : (vs : List Bound) (n : Node) → NamesOnly 16 (candidates D (context u vs) n)
  candidates_few vs n x m = few x (candidate_role D u vs n x m)

  tree_few : (vs : List Bound) (t : Tree) (ls : List Label) → All Few ls → All Few (spread (labels D u vs t) ls)
  unfolding spread
  tree_few vs end ls h = (candidates_few vs (words 0 0 0), h)
  tree_few vs (fork a b) ls h = (candidates_few vs (words 1 0 0), tree_few vs a (spread (labels D u vs b) ls) (tree_few vs b ls h))
  tree_few vs (step s t) ls h = (candidates_few vs (step_node s), tree_few (vars_below D u vs s) t ls h)
  tree_few vs (switch w r t) ls h = tree_few vs t ls h

all_few : (D : Schema) (ss : List Routine) → All (λ s. NamesOnly 16 (D.assigned s.user)) ss → All Few (spread_all D ss)
unfolding spread_all
all_few D [] h = tt
all_few D (s ∷ ss) h = tree_few D s.user h.0 [] s.tree (spread_all D ss) (all_few D ss h.1)

module _ (F : File) (W : WellFormed F) where
  user_few : (u : ℕ) → InCount (length F.users) u → NamesOnly 16 ((schema_for F).assigned u)
  user_few u c x m = let i = roles_fit F W u c x m in omega (arith, W.few_roles)

  pub served_iff : (i : ℕ) → (unserved_from i (spread_all (schema_for F) F.sessions) ≡ fine) ↔ (served_all (schema_for F) F.sessions ≡ true)
  served_iff i =
      let D : Schema = schema_for F in
      let ls : List Label = spread_all D F.sessions in
      let few : All Few ls = all_few D F.sessions (all_map (λ s h. user_few s.user h.0) F.sessions W.sessions_fit) in
      let tests = unserved_iff i ls in
      let all = all_served D F.sessions in (
        λ h. all.1 (all_map (λ l h. open_served l h.0 h.1) ls (all_both Few Open ls few (tests.0 h))),
        λ h. tests.1 (all_map served_open ls (all.0 h)),
      )
