-- A node that fits is objected to by nothing, and one that does not fit is objected to.
use Prim.Native.Nat.{ℕ, suc, ◌-◌, ◌≤◌}
use mathlib.Core.Path.{◌≡◌, refl, subst}
use mathlib.Core.Bool.{true, false, ◌||◌, and-eq-true_iff, true≢false}
use mathlib.Core.List.{List, ◌∷◌}
use native.Mathlib.Omega.{arith}
use lib.ListN.{length, get_or}
use lib.Dec.{eqb, leb, ltb}
use borrow.Author.Tests.{eqb-true, eqb-false, leb-true, leb-false, ltb-false, not-false}
use Rattle.format.specs.Stacks.{top}
use Rattle.trees.specs.Shape.{bound_of, root_fits, used, unused_fit, second_fits, variable_fits, node_fits}
use Rattle.format.specs.declared.Node.{Node}
use Rattle.trees.specs.declared.Due.{Due}
use Rattle.format.proofs.BoolLaws.{and_fails, or_fails, or_resolve}
use Rattle.trees.proofs.FitsLaws.{Fitting, room, second_iff}
use Rattle.reading_exact.specs.File.{InCount}
use Rattle.reading_exact.specs.Refusals.{nth, ReachedWith, Misshapen, not_due, bad_tag, unused_f1, unused_f2, second, past_last, left_over, ninth}
use Rattle.reading_exact.proofs.TagTests.{one_of, no_field, one_field}
use Rattle.reading_exact.proofs.FollowedEnds.{ends_from, follows_on, follows_top, ends_follow}
use Rattle.reading_exact.proofs.ReachedStack.{stack_at, top_root, top_reached, left_none, top_by, TopReached}
use Rattle.reading_exact.proofs.DueStack.{dues}

module _ (ns : List Node) (roots : List ℕ) where
  -- a node that fits
  pub fits_none : (i : ℕ) (d : Due) (st : List Due) → InCount (length ns) i → stack_at (dues roots) ns i ≡ d ∷ st
      → Fitting i (nth ns i) d (top (ends_from ns (suc i))) → Misshapen ns roots i → ⊥
  fits_none i d st c s f (not_due k q b _ ne) =
      ne (eqb-true (get_or roots (k - 1) 0) i (subst (λ x. root_fits i x ≡ true) (top_root (dues roots) ns s b q) f.0))
  fits_none i d st c s f (bad_tag _ l) = omega (arith, f.1)
  fits_none i d st c s f (unused_f1 _ t ne) =
      let n = nth ns i in
      let h = ((and-eq-true_iff (ltb 0 (used n.tag) || eqb n.f1 0) (ltb 1 (used n.tag) || eqb n.f2 0)).0 f.2).0 in
      ne (eqb-true n.f1 0 (or_resolve _ _ h ((no_field n.tag).1 t)))
  fits_none i d st c s f (unused_f2 _ l t t' ne) =
      let n = nth ns i in
      let h = ((and-eq-true_iff (ltb 0 (used n.tag) || eqb n.f1 0) (ltb 1 (used n.tag) || eqb n.f2 0)).0 f.2).1 in
      ne (eqb-true n.f2 0 (or_resolve _ _ h ((one_field n.tag).1 (t, t'))))
  fits_none i d st c s f (second e _ t h ne) =
      let n = nth ns i in
      let e' : top (ends_from ns (suc i)) ≡ e = follows_top ns h in
      ne ((second_iff n e t (omega (arith, follows_on h))).0 (subst (λ z. second_fits n z ≡ true) e' f.3))
  fits_none i d st c s f (past_last b r e) = omega arith
  fits_none i d st c s f (left_over b _) = left_none (dues roots) ns s b
  fits_none i d st c s f (ninth b r l _ t) =
      let n = nth ns i in
      omega (arith, top_reached (dues roots) ns s r, room n d f.4 ((one_of n.tag 3 5).1 t))

  -- a node that does not fit
  bad_root : (i : ℕ) (d : Due) (st : List Due) → InCount (length ns) i → TopReached (dues roots) ns i (d ∷ st) → root_fits i d ≡ false → Misshapen ns roots i
  bad_root i d st c (s, h) =
      top_by (dues roots) ns (λ (x : Due). root_fits i x ≡ false → Misshapen ns roots i) (λ k q b f. not_due k q b c (eqb-false (get_or roots (k - 1) 0) i f))
      (λ y n f. absurd (true≢false f)) (λ y n f. absurd (true≢false f)) s h.0

  bad_unused : (i : ℕ) → InCount (length ns) i → (nth ns i).tag ≤ 8 → unused_fit (nth ns i) ≡ false → Misshapen ns roots i
  bad_unused i c l f = and_fails _ _ f first second_field
    where
      n : Node
      n = nth ns i

      first : (ltb 0 (used n.tag) || eqb n.f1 0) ≡ false → Misshapen ns roots i
      first h = let p = or_fails _ _ h in unused_f1 c ((no_field n.tag).0 p.0) (eqb-false n.f1 0 p.1)

      second_field : (ltb 0 (used n.tag) || eqb n.f1 0) ≡ true → (ltb 1 (used n.tag) || eqb n.f2 0) ≡ false → Misshapen ns roots i
      second_field _ h =
          let p = or_fails _ _ h in
          let q = (one_field n.tag).0 p.0 in
          unused_f2 c l q.0 q.1 (eqb-false n.f2 0 p.1)

  bad_second : (i : ℕ) → InCount (length ns) i → second_fits (nth ns i) (top (ends_from ns (suc i))) ≡ false → Misshapen ns roots i
  bad_second i c f =
      let n = nth ns i in
      let e : ℕ = top (ends_from ns (suc i)) in
      let p = or_fails _ _ f in
      let q = or_fails _ _ p.1 in
      second e c (eqb-true n.tag 1 (not-false _ p.0)) (ends_follow ns (suc i) e (omega arith) refl (eqb-false e 0 q.0)) (eqb-false n.f1 e q.1)

  bad_room : (i : ℕ) (d : Due) → InCount (length ns) i → ReachedWith ns (length roots) i (bound_of d) → variable_fits (nth ns i) d ≡ false → Misshapen ns roots i
  bad_room i d c h f =
      let n = nth ns i in
      let p = or_fails _ _ f in
      ninth (bound_of d) h (ltb-false (bound_of d) 8 p.1) c ((one_of n.tag 3 5).0 (not-false _ p.0))

  pub unfit_some : (i : ℕ) (d : Due) (st : List Due) → InCount (length ns) i → TopReached (dues roots) ns i (d ∷ st) → node_fits i (nth ns i) d (top (ends_from ns (suc i))) ≡ false → Misshapen ns roots i
  unfolding node_fits
  unfit_some i d st c h f =
      let n = nth ns i in
      and_fails _ _ f
      (λ f. and_fails _ _ f
      (λ f. and_fails _ _ f
      (λ f. and_fails _ _ f (bad_root i d st c h) (λ _ x. bad_tag c (leb-false n.tag 8 x)))
      (λ t. bad_unused i c (leb-true n.tag 8 ((and-eq-true_iff (root_fits i d) (leb n.tag 8)).0 t).1)))
      (λ _. bad_second i c))
      (λ _. bad_room i d c h.1.0)
