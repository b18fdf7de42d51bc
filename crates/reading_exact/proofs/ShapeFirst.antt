-- Refusal 8: `shape_from` refuses exactly where something is misshapen, and at the first such place.
use Prim.Native.Nat.{ℕ, suc, ◌-◌, ◌≤◌}
use mathlib.Core.Path.{◌≡◌, refl, sym, ap, ◌∙◌}
use mathlib.Core.Logic.{◌⊎◌, inl, inr}
use mathlib.Core.Bool.{Bool, true, false, cond}
use mathlib.Core.List.{List, [], ◌∷◌, map}
use native.Mathlib.Omega.{arith}
use lib.ListN.{length, drop}
use lib.Dec.{leb}
use borrow.Author.Tests.{leb-true, leb-false}
use Rattle.format.specs.Answers.{refused}
use Rattle.format.specs.Stacks.{top}
use Rattle.trees.specs.Ends.{following}
use Rattle.trees.specs.Shape.{bound_of, due_after, node_fits, shape_from}
use Rattle.format.specs.declared.Node.{Node}
use Rattle.trees.specs.declared.Due.{Due}
use Rattle.trees.specs.declared.Due.TheVariants.{Root}
use Rattle.trees.proofs.FitsLaws.{fits_apart}
use Rattle.reading_exact.specs.File.{InCount}
use Rattle.reading_exact.specs.Order.{First}
use Rattle.reading_exact.specs.Refusals.{nth, ReachedWith, Misshapen, not_due, bad_tag, unused_f1, unused_f2, second, past_last, left_over, ninth, reading_order}
use Rattle.reading_exact.proofs.FirstLaws.{FirstFrom, first_on, first_here}
use Rattle.reading_exact.proofs.FollowedEnds.{ends_from}
use Rattle.reading_exact.proofs.ReachedStack.{none_reached, TopReached, along}
use Rattle.reading_exact.proofs.DueStack.{dues}
use Rattle.reading_exact.proofs.NodesObjected.{fits_none, unfit_some}

module _ (ns : List Node) (roots : List ℕ) where
  -- a place is a node that is there, or the number after the last
  abbrev NodePlaced : ℕ → Type 0
  NodePlaced p = InCount (length ns) p ⊎ ((b : ℕ) × ReachedWith ns (length roots) p b × (p ≡ suc (length ns)))

  placed : (p : ℕ) → Misshapen ns roots p → NodePlaced p
  placed p (not_due k q b c ne) = inl c
  placed p (bad_tag c t) = inl c
  placed p (unused_f1 c t ne) = inl c
  placed p (unused_f2 c t t' t'' ne) = inl c
  placed p (second e c t h ne) = inl c
  placed p (past_last b r e) = inr (b, r, e)
  placed p (left_over b c) = inl c
  placed p (ninth b r x c t) = inl c

  numbered : (p : ℕ) → NodePlaced p → 1 ≤ p
  numbered p (inl c) = c.0
  numbered p (inr (b, r, e)) = omega arith

  -- where nothing is, tags are 0 to 8
  pub low_tag_lem : ((p : ℕ) → Misshapen ns roots p → ⊥) → (i : ℕ) → InCount (length ns) i → (nth ns i).tag ≤ 8
  low_tag_lem none i c = go (leb (nth ns i).tag 8) refl
    where
      go : (b : Bool) → leb (nth ns i).tag 8 ≡ b → (nth ns i).tag ≤ 8
      go true e = leb-true (nth ns i).tag 8 e
      go false e = absurd (none i (bad_tag c (leb-false (nth ns i).tag 8 e)))

  -- what 8 objects to
  abbrev pub BadShape : ℕ → ℕ → Type 0
  BadShape n p = (n ≡ 8) × Misshapen ns roots p

  abbrev Answers : ℕ → List Node → List Due → Type 0
  Answers i l st = FirstFrom reading_order BadShape i (shape_from i l st)

  abbrev Standing : ℕ → List Due → Type 0
  Standing = TopReached (dues roots) ns

  refuse : (i : ℕ) → Misshapen ns roots i → FirstFrom reading_order BadShape i (refused 8 i)
  refuse i m = first_here reading_order BadShape 8 i (refl, m) (λ n q (e, _). ap reading_order.stage (sym e)) (λ n (e, _). omega arith)

  over : (i : ℕ) (st : List Due) → i ≡ suc (length ns) → Standing i st → Answers i [] st
  unfolding shape_from
  over i [] e (s, h) low = inl (refl, λ n q (z, m). past q (low n q (z, m)) (placed q m))
    where
      past : (q : ℕ) → i ≤ q → NodePlaced q → ⊥
      past q l (inl c) = omega arith
      past q l (inr (b, r, _)) = none_reached (dues roots) ns (omega arith) l s r
  over i (d ∷ st) e (s, h) low = refuse i (past_last (bound_of d) h.0 e) low

  pass : (i : ℕ) (d : Due) (l : List Node) (st : List Due) → InCount (length ns) i → drop i ns ≡ l → Standing i (d ∷ st)
      → ((nth ns i).tag ≤ 8 → Answers (suc i) l (due_after (nth ns i) d st)) → Answers i (nth ns i ∷ l) (d ∷ st)
  unfolding shape_from ends_from
  pass i d l st c left (s, h) rest = go (node_fits i (nth ns i) d (top (following (suc i) l))) refl
    where
      test : node_fits i (nth ns i) d (top (ends_from ns (suc i))) ≡ node_fits i (nth ns i) d (top (following (suc i) l))
      test = let z : suc i - 1 ≡ i = omega arith in rw (z, left)

      go : (t : Bool) → node_fits i (nth ns i) d (top (following (suc i) l)) ≡ t
          → FirstFrom reading_order BadShape i (cond t (shape_from (suc i) l (due_after (nth ns i) d st)) (refused 8 i))
      go true f =
          let k = (fits_apart i (nth ns i) d _).0 (test ∙ f) in
          first_on reading_order BadShape i _ (λ n (_, m). fits_none ns roots i d st c s k m) (rest k.1)
      go false f = refuse i (unfit_some ns roots i d st c (s, h) (test ∙ f))

  pub shape_first : First reading_order BadShape (shape_from 1 ns (map Root roots))
  unfolding shape_from
  shape_first =
      along (dues roots) ns Answers over (λ i x l c (s, b). refuse i (left_over b c)) pass (λ n q (_, m). numbered q (placed q m))
