-- The ends that `following` computes from the right are the ends of which `Follows` speaks.
use Prim.Native.Nat.{ℕ, zero, suc, ◌-◌, ◌≤◌, ◌<◌}
use mathlib.Core.Path.{◌≡◌, refl, sym, ap, ◌∙◌, subst}
use mathlib.Core.Logic.{◌≢◌}
use mathlib.Core.List.{List, [], ◌∷◌}
use mathlib.Core.Bool.{Bool, true, false, cond}
use native.Mathlib.Omega.{arith}
use lib.ListN.{length, get_or, drop, drop_of_length-le}
use lib.Seq.{drop-cons}
use lib.Dec.{eqb, leb}
use borrow.Author.Tests.{eqb-true, eqb-false, leb-true, ne_eqb, le-leb}
use Rattle.format.specs.Stacks.{top, rest}
use Rattle.trees.specs.Ends.{grown, following}
use Rattle.format.specs.Contents.{no_node}
use Rattle.format.specs.declared.Node.{Node}
use Rattle.format.proofs.ContentsLaws.{from_item}
use Rattle.reading_exact.specs.File.{InCount}
use Rattle.reading_exact.specs.Tree.{Tree, past, write}
use Rattle.reading_exact.specs.Refusals.{nth, OneChild, Follows, at-end, at_step, at_fork}
use Rattle.reading_exact.proofs.TreeEnds.{past_more, following_write}

-- a tree ends after its first node, and no tree ends at 0
pub follows_on : {ns : List Node} {i e : ℕ} → Follows ns i e → i < e
follows_on (at-end c t) = omega arith
follows_on (at_step c t h) = omega (arith, follows_on h)
follows_on (at_fork c t h k) = omega (arith, follows_on h, follows_on k)

grown_one : (t i : ℕ) (es : List ℕ) → OneChild t → grown t i es ≡ es
grown_one t i es o = rw (ne_eqb t 0 (λ e. omega arith), ne_eqb t 1 (λ e. omega arith), le-leb t 8 o.1)

-- the item of a number and those after it
pub from_get : {A : Type 0} (z : A) (xs : List A) (i : ℕ) → InCount (length xs) i → drop (i - 1) xs ≡ get_or xs (i - 1) z ∷ drop i xs
from_get z xs zero c = absurd (omega arith)
from_get z xs (suc j) c = let e : suc j - 1 ≡ j = omega arith in rw e (drop-cons xs j z (omega arith))

module _ (ns : List Node) where
  pub at_node_lem : (i : ℕ) → InCount (length ns) i → drop (i - 1) ns ≡ nth ns i ∷ drop i ns
  at_node_lem i c = from_item no_node ns i c.0 c.1

  -- where the trees from node i on end
  unfoldable pub ends_from : ℕ → List ℕ
  ends_from i = following i (drop (i - 1) ns)

  ends_step : (i : ℕ) → InCount (length ns) i → ends_from i ≡ grown (nth ns i).tag i (ends_from (suc i))
  unfolding ends_from following
  ends_step i c = let e : suc i - 1 ≡ i = omega arith in rw (at_node_lem i c, e)

  follows_ends : {i e : ℕ} → Follows ns i e → ends_from i ≡ e ∷ ends_from e
  follows_ends (at-end {i = i} c t) = ends_step i c ∙ rw t
  follows_ends (at_step {i = i} c o h) = ends_step i c ∙ grown_one (nth ns i).tag i _ o ∙ follows_ends h
  follows_ends (at_fork {i = i} c t h k) = ends_step i c ∙ rw (t, follows_ends h, follows_ends k)

  -- each of the ends is where the tree from the one before on ends
  abbrev Run : ℕ → List ℕ → Type 0
  Run i [] = Unit {0}
  Run i (e ∷ es) = Follows ns i e × Run e es

  run_fork : (i : ℕ) (es : List ℕ) → InCount (length ns) i → (nth ns i).tag ≡ 1 → Run (suc i) es → Run i (rest es)
  run_fork i [] c t h = tt
  run_fork i (k ∷ []) c t h = tt
  run_fork i (k ∷ e ∷ es) c t h = (at_fork c t h.0 h.1.0, h.1.1)

  run_one : (i : ℕ) (es : List ℕ) → InCount (length ns) i → OneChild (nth ns i).tag → Run (suc i) es → Run i es
  run_one i [] c o h = tt
  run_one i (e ∷ es) c o h = (at_step c o h.0, h.1)

  run_grown : (i : ℕ) (es : List ℕ) → InCount (length ns) i → Run (suc i) es → Run i (grown (nth ns i).tag i es)
  run_grown i es c h = go (eqb t 0) refl (eqb t 1) refl (leb t 8) refl
    where
      t : ℕ
      t = (nth ns i).tag

      go : (a : Bool) → eqb t 0 ≡ a → (b : Bool) → eqb t 1 ≡ b → (l : Bool) → leb t 8 ≡ l
          → Run i (cond a (suc i ∷ es) (cond b (rest es) (cond l es [])))
      go true e b f l g = (at-end c (eqb-true t 0 e), h)
      go false e true f l g = run_fork i es c (eqb-true t 1 f) h
      go false e false f true g = run_one i es c (omega (arith, eqb-false t 0 e, eqb-false t 1 f), leb-true t 8 g) h
      go false e false f false g = tt

  past_all : (i : ℕ) → length ns < i → ends_from i ≡ []
  unfolding ends_from following
  past_all i h = rw (drop_of_length-le ns {i = i - 1} (omega arith))

  -- by the number k of nodes from i on
  run_from : (k i : ℕ) → 1 ≤ i → suc (length ns) - i ≡ k → Run i (ends_from i)
  run_from zero i p e = subst (Run i) (sym (past_all i (omega arith))) tt
  run_from (suc k) i p e =
      subst (Run i) (sym (ends_step i (p, omega arith))) (run_grown i (ends_from (suc i)) (p, omega arith) (run_from k (suc i) (omega arith) (omega arith)))

  pub ends_follow : (i e : ℕ) → 1 ≤ i → top (ends_from i) ≡ e → e ≢ 0 → Follows ns i e
  ends_follow i e p h z = go (ends_from i) (run_from _ i p refl) h
    where
      go : (es : List ℕ) → Run i es → top es ≡ e → Follows ns i e
      go [] r h = absurd (z (sym h))
      go (x ∷ es) r h = subst (Follows ns i) h r.0

  pub follows_top : {i e : ℕ} → Follows ns i e → top (ends_from i) ≡ e
  follows_top h = ap top (follows_ends h)

  -- a tree is followed to one end
  pub one_end : {i d e : ℕ} → Follows ns i d → Follows ns i e → d ≡ e
  one_end h g = sym (follows_top h) ∙ follows_top g

  -- a written tree is followed to where it is written to
  pub written_follows : (i : ℕ) (t : Tree) (more : List Node) → 1 ≤ i → drop (i - 1) ns ≡ write i t more → Follows ns i (past i t)
  unfolding ends_from
  written_follows i t more pos w =
      ends_follow i (past i t) pos (rw (w, following_write i t more)) (λ z. omega (arith, z, past_more i t))
