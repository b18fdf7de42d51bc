-- The nodes of trees are passed by a rule exactly where the rule holds all over each tree.
use Prim.Native.Nat.{ℕ, suc}
use mathlib.Core.Path.{◌≡◌, refl, ap, ◌∙◌, sym}
use mathlib.Core.Logic.{◌↔◌}
use mathlib.Core.Bool.{Bool, true, false, cond}
use mathlib.Core.List.{List, [], ◌∷◌, map}
use lib.Dec.{eqb}
use borrow.Author.Tests.{eqb-true, eqb-false, eq-eqb}
use Rattle.format.specs.Answers.{fine, refused}
use Rattle.format.specs.declared.Verdict.{Verdict}
use Rattle.format.specs.declared.Node.{Node}
use Rattle.rules.specs.Schema.{Schema}
use Rattle.rules.specs.Rules.{Context, child_of, waiting_after}
use Rattle.rules.specs.Checking.{reached, first_by}
use Rattle.reading_exact.specs.Lists.{All}
use Rattle.reading_exact.specs.Tree.{Step, repeat, new, compare, receive, send, Switch, on, off, Tree, end, fork, step, switch, words, step_node, switch_node, past, write, flatten}
use Rattle.reading_exact.specs.File.{Routine}

-- what waits after a node with one child
step_after : (D : Schema) (c : Context) (s : Step) (st : List Context) → waiting_after D c (step_node s) st ≡ child_of D c (step_node s) ∷ st
step_after D c repeat st = refl
step_after D c (new k) st = refl
step_after D c (compare a b) st = refl
step_after D c (receive x) st = refl
step_after D c (send x v) st = refl

switch_after : (D : Schema) (c : Context) (w : Switch) (r : ℕ) (st : List Context) → waiting_after D c (switch_node w r) st ≡ child_of D c (switch_node w r) ∷ st
switch_after D c on r st = refl
switch_after D c off r st = refl

-- a session begins with its user, its starting mask and nothing bound
abbrev pub opening : Routine → Context
opening s = record { user = s.user; mask = s.mask; vars = [] }

module _ (D : Schema) (rule : Context → Node → ℕ) where
  -- the rule holds all over a tree, in the context of each node; ends and forks are not asked
  unfoldable pub Clear : Context → Tree → Type 0
  Clear c end = Unit {0}
  Clear c (fork a b) = Clear c a × Clear c b
  Clear c (step s t) = (rule c (step_node s) ≡ 0) × Clear (child_of D c (step_node s)) t
  Clear c (switch w r t) = (rule c (switch_node w r) ≡ 0) × Clear (child_of D c (switch_node w r)) t

  -- a node is passed where the rule holds at it
  pub passed_iff : (i : ℕ) (n : Node) (ns : List Node) (c : Context) (st : List Context)
      → (first_by rule i (reached D (n ∷ ns) (c ∷ st)) ≡ fine) ↔ ((rule c n ≡ 0) × (first_by rule (suc i) (reached D ns (waiting_after D c n st)) ≡ fine))
  unfolding reached first_by
  passed_iff i n ns c st = (to (eqb (rule c n) 0) refl, λ h. rw (eq-eqb (rule c n) 0 h.0) h.1)
    where
      to : (b : Bool) → eqb (rule c n) 0 ≡ b → cond b (first_by rule (suc i) (reached D ns (waiting_after D c n st))) (refused (rule c n) i) ≡ fine
          → (rule c n ≡ 0) × (first_by rule (suc i) (reached D ns (waiting_after D c n st)) ≡ fine)
      to true e h = (eqb-true (rule c n) 0 e, h)
      to false e h = absurd (eqb-false (rule c n) 0 e (ap (λ (v : Verdict). v.number) h))

  module _ (ends : (c : Context) → rule c (words 0 0 0) ≡ 0) (forks : (c : Context) (j : ℕ) → rule c (words 1 j 0) ≡ 0) where
    pub clear_iff : (i : ℕ) (t : Tree) (ns : List Node) (c : Context) (st : List Context)
        → (first_by rule i (reached D (write i t ns) (c ∷ st)) ≡ fine) ↔ (Clear c t × (first_by rule (past i t) (reached D ns st) ≡ fine))
    unfolding write past Clear
    clear_iff i end ns c st =
        let one = passed_iff i (words 0 0 0) ns c st in
        (λ h. (tt, (one.0 h).1), λ h. one.1 (ends c, h.1))
    clear_iff i (fork a b) ns c st =
        let k : ℕ = past (suc i) a in
        let one = passed_iff i (words 1 k 0) (write (suc i) a (write k b ns)) c st in
        let left = clear_iff (suc i) a (write k b ns) c (c ∷ st) in
        let right = clear_iff k b ns c st in (
          λ h. let (p, q) = left.0 (one.0 h).1 in let (r, s) = right.0 q in ((p, r), s),
          λ ((p, r), s). one.1 (forks c k, left.1 (p, right.1 (r, s))),
        )
    clear_iff i (step s t) ns c st =
        let n : Node = step_node s in
        let one = passed_iff i n (write (suc i) t ns) c st in
        let more = clear_iff (suc i) t ns (child_of D c n) st in
        let same = ap (λ (l : List Context). first_by rule (suc i) (reached D (write (suc i) t ns) l)) (step_after D c s st) in (
          λ h. let (p, q) = more.0 (sym same ∙ (one.0 h).1) in (((one.0 h).0, p), q),
          λ ((z, p), q). one.1 (z, same ∙ more.1 (p, q)),
        )
    clear_iff i (switch w r t) ns c st =
        let n : Node = switch_node w r in
        let one = passed_iff i n (write (suc i) t ns) c st in
        let more = clear_iff (suc i) t ns (child_of D c n) st in
        let same = ap (λ (l : List Context). first_by rule (suc i) (reached D (write (suc i) t ns) l)) (switch_after D c w r st) in (
          λ h. let (p, q) = more.0 (sym same ∙ (one.0 h).1) in (((one.0 h).0, p), q),
          λ ((z, p), q). one.1 (z, same ∙ more.1 (p, q)),
        )

    -- tree after tree
    pub all_clear : (i : ℕ) (ss : List Routine)
        → (first_by rule i (reached D (flatten i (map (λ (s : Routine). s.tree) ss)) (map opening ss)) ≡ fine) ↔ All (λ s. Clear (opening s) s.tree) ss
    unfolding flatten reached first_by
    all_clear i [] = (λ h. tt, λ h. refl)
    all_clear i (s ∷ ss) =
        let ts : List Tree = map (λ (s : Routine). s.tree) ss in
        let one = clear_iff i s.tree (flatten (past i s.tree) ts) (opening s) (map opening ss) in
        let more = all_clear (past i s.tree) ss in
        (λ h. let (p, q) = one.0 h in (p, more.0 q), λ h. one.1 (h.0, more.1 h.1))
