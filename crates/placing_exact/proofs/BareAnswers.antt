-- 14 finds nothing exactly where all starting masks are 0 and no tree has on or off.
use Prim.Native.Nat.{ℕ, suc, ◌<◌}
use mathlib.Core.Path.{◌≡◌, refl}
use mathlib.Core.Logic.Iff
use mathlib.Core.Logic.{◌↔◌}
use mathlib.Core.Bool.{true}
use mathlib.Core.List.{List, [], ◌∷◌}
use native.Mathlib.Omega.{arith}
use lib.Dec.{eqb, ltb}
use borrow.Author.Tests.{ltb-true}
use Rattle.format.specs.Contents.{Contents, no_session, no_node}
use Rattle.format.specs.Answers.{fine, refused}
use Rattle.format.specs.declared.Node.{Node}
use Rattle.format.specs.declared.Session.{Session}
use Rattle.format.proofs.BoolLaws.{eq_iff}
use Rattle.reading_exact.specs.Lists.{All}
use Rattle.reading_exact.specs.Tree.{Step, repeat, new, compare, receive, send, Switch, on, off, Tree, end, fork, step, switch, step_node, switch_node, past, write, flatten}
use Rattle.reading_exact.specs.File.{Routine, File, contents_for}
use Rattle.reading_exact.proofs.AllLaws.{all-iff}
use Rattle.reading_exact.proofs.FirstLaws.{number_of}
use Rattle.reading_exact.proofs.RecordsJudged.{section_iff}
use Rattle.reading_exact.proofs.FileContents.{trees_of, all_rooted, all_trees}
use Rattle.placing.specs.Placing.{masks_answer, switches_answer}
use Rattle.placing_exact.specs.Placement.{plain}
use Rattle.placing_exact.proofs.SwitchFree.{Free, free_iff}
use Rattle.placing_exact.proofs.AnswerStages.{among_fine, masks_among, switches_among}

-- every mask is 0, every tag below 7
module _ (C : Contents) where
  masks_in : (masks_answer C ≡ fine) ↔ All (λ (s : Session). eqb s.mask 0 ≡ true) C.sessions
  unfolding masks_answer
  masks_in =
      let (to, from) = section_iff no_session (λ s. eqb s.mask 0) (λ n. refused 14 0) (λ n. omega arith) C.sessions in
      (λ e. to (number_of e), λ h. among_fine 28 28 (masks_answer C) (omega arith) (masks_among C) (from h))

  switches_in : (switches_answer C ≡ fine) ↔ All (λ (n : Node). ltb n.tag 7 ≡ true) C.nodes
  unfolding switches_answer
  switches_in =
      let (to, from) = section_iff no_node (λ n. ltb n.tag 7) (λ n. refused 14 n) (λ n. omega arith) C.nodes in
      (λ e. to (number_of e), λ h. among_fine 28 28 (switches_answer C) (omega arith) (switches_among C) (from h))

-- a tree has no on or off exactly where its tags are below 7
abbrev Low : Node → Type 0
Low n = ltb n.tag 7 ≡ true

step_low : (s : Step) → Low (step_node s)
step_low repeat = refl
step_low (new k) = refl
step_low (compare a b) = refl
step_low (receive c) = refl
step_low (send c v) = refl

switch_high : (w : Switch) (r : ℕ) → Low (switch_node w r) → ⊥
switch_high on r h = let no_way : 7 < 7 = ltb-true 7 7 h in omega arith
switch_high off r h = let no_way : 8 < 7 = ltb-true 8 7 h in omega arith

low_tree : (i : ℕ) (t : Tree) (ns : List Node) → All Low (write i t ns) ↔ (Free t × All Low ns)
unfolding write
low_tree i end ns = (λ h. (tt, h.1), λ h. (refl, h.1))
low_tree i (fork a b) ns =
    let k : ℕ = past (suc i) a in
    let left = low_tree (suc i) a (write k b ns) in
    let right = low_tree k b ns in (
      λ h. let (p, q) = left.0 h.1 in let (r, s) = right.0 q in ((p, r), s),
      λ h. (refl, left.1 (h.0.0, right.1 (h.0.1, h.1))),
    )
low_tree i (step s t) ns = let more = low_tree (suc i) t ns in (λ h. more.0 h.1, λ h. (step_low s, more.1 h))
low_tree i (switch w r t) ns = (λ h. absurd (switch_high w r h.0), λ h. absurd h.0)

low_trees : (i : ℕ) (ts : List Tree) → All Low (flatten i ts) ↔ All Free ts
unfolding flatten
low_trees i [] = (λ h. tt, λ h. tt)
low_trees i (t ∷ ts) =
    let one = low_tree i t (flatten (past i t) ts) in
    let more = low_trees (past i t) ts in
    (λ h. let (p, q) = one.0 h in (p, more.0 q), λ h. one.1 (h.0, more.1 h.1))

module _ (F : File) where
  pub masks_bare : (masks_answer (contents_for F) ≡ fine) ↔ All (λ (s : Routine). s.mask ≡ 0) F.sessions
  masks_bare =
      Iff.trans (masks_in (contents_for F))
      (Iff.trans (all_rooted (λ u m. eqb m 0 ≡ true) 1 F.sessions) (all-iff F.sessions (λ (s : Routine). eq_iff s.mask 0)))

  pub switches_bare : (switches_answer (contents_for F) ≡ fine) ↔ All (λ (s : Routine). plain s.tree ≡ s.tree) F.sessions
  switches_bare =
      let (is_free, is_plain) = all-iff F.sessions (λ (s : Routine). free_iff s.tree) in
      Iff.trans (switches_in (contents_for F))
      (Iff.trans (low_trees 1 (trees_of F.sessions)) (Iff.trans (all_trees Free F.sessions) (is_plain, is_free)))
