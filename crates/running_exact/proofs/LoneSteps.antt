-- A lone step leaves threads that fit, or is refused by what may come.
use Prim.Native.Nat.{ℕ, suc, ◌+◌, ◌≤◌}
use mathlib.Core.Path.{◌≡◌, sym, ap, ◌∙◌, subst}
use mathlib.Core.Logic.{inl, inr}
use mathlib.Core.Bool.{Bool, true, false, cond}
use mathlib.Core.List.{List, [], ◌∷◌, ◌++◌}
use native.Mathlib.Omega.{arith}
use lib.Dec.{eqb, ltb}
use lib.ListN.{length}
use borrow.Author.Tests.{eqb-true, ltb-true}
use Rattle.masks.specs.Mask.{has, with, without, Within}
use Rattle.masks.proofs.Bounds.{within_iff, within_with, within_without}
use Rattle.format.specs.declared.Node.{Node}
use Rattle.rules.specs.Schema.{Schema}
use Rattle.rules.specs.Rules.{Context, bind, activate, child_of}
use Rattle.steps.specs.declared.Thread.{Thread}
use Rattle.steps.specs.declared.Made.{Made}
use Rattle.steps.specs.declared.Outcome.{Outcome}
use Rattle.steps.specs.declared.Outcome.TheVariants.{Refused, Moves, Adds, Makes}
use Rattle.steps.specs.Threads.{value, moved_to, onward, masked, bound}
use Rattle.steps.specs.Choice.{Clinic, lone}
use Rattle.reading_exact.specs.Refusals.{OneChild}
use Rattle.running_exact.specs.Keeps.{Fits}
use Rattle.running_exact.proofs.HeldValues.{value_made}
use Rattle.running_exact.proofs.NodeSteps.{new_names, child_same, child_new, child_on, child_off, on_barred, off_barred}
use Rattle.running_exact.proofs.ThreadSteps.{Lawful, Steady, moved_good, onward_good, masked_good, bound_good, fits_more}
use Rattle.running_exact.proofs.OutcomeClaims.{MayCome, Claimed, refused-told, moves-told, adds-told, makes-told, ends-told, either}

-- an active set with a role of the user more is within the user's roles
with_within : (m all x : ℕ) → Within m all → has all x ≡ true → Within (with m x) all
with_within m all x h e = (within_iff (with m x) all).0 (within_with m all x ((within_iff m all).1 h) e)

-- and so is one with a role less
without_within : (m all x : ℕ) → Within m all → Within (without m x) all
without_within m all x h = (within_iff (without m x) all).0 (within_without m all x ((within_iff m all).1 h))

module _ (C : Clinic) (At : ℕ → Context → Type 0) (L : Lawful C At) (K : ℕ → ℕ → Type 0) (S : Steady K) (R : ℕ → Type 0) (M : MayCome C At K R) (k : ℕ) (made : List Made)
    (t : Thread) (c : Context) (a : At t.node c) (F : Fits C.schema made c t) (e : K t.mask c.mask) where
  abbrev D : Schema
  D = C.schema

  abbrev n : Node
  n = C.node t.node

  abbrev T : Outcome → Type 0
  T = Claimed C At K R k made

  -- the child's context, by the tag
  child_at : (x : ℕ) → n.tag ≡ x → 2 ≤ x → x ≤ 8 → (d : Context) → child_of D c n ≡ d → At (suc t.node) d
  child_at x z p q d h = let o : OneChild n.tag = (omega arith, omega arith) in subst (At (suc t.node)) h (L.child t.node c a o)

  forks : n.tag ≡ 1 → ltb k 64 ≡ true → T (Adds (record { first = onward t; second = moved_to t n.f1 }))
  forks z b =
      adds-told C At K R k made (record { first = onward t; second = moved_to t n.f1 }) (onward_good D At K made t c F (L.first t.node c a z) e)
      (moved_good D At K made t c F n.f1 (L.second t.node c a z) e)
      (ltb-true k 64 b)

  repeats : n.tag ≡ 2 → ltb k 64 ≡ true → T (Adds (record { first = t; second = onward t }))
  repeats z b =
      adds-told C At K R k made (record { first = t; second = onward t }) (c, a, F, e)
      (onward_good D At K made t c F (child_at 2 z (omega arith) (omega arith) c (child_same D c n (inl z))) e)
      (ltb-true k 64 b)

  news : n.tag ≡ 3 → ltb (length made) 64 ≡ true → T (Makes (record { thread = bound t (385 + length made); made = record { owner = t.user; kind = record { 0 = n.f1 } } }))
  news z b =
      let m : Made = record { owner = t.user; kind = record { 0 = n.f1 } } in
      makes-told C At K R k made (record { thread = bound t (385 + length made); made = m })
      (bound_good D At K (made ++ (m ∷ [])) t c (fits_more D At K made t c F L.apart m) L.apart n.f1 (385 + length made) true
      (child_at 3 z (omega arith) (omega arith) (bind c n.f1 true) (child_new D c n z))
      e
      (L.room t.node c a (inl z))
      (value_made D L.apart made m))
      (F.counted, new_names D c n L.ranged (L.clear t.node c a) z)
      (ltb-true (length made) 64 b)

  compares : n.tag ≡ 4 → T (Moves (onward t))
  compares z =
      moves-told C At K R k made (onward t) (onward_good D At K made t c F (child_at 4 z (omega arith) (omega arith) c (child_same D c n (inr (inl z)))) e)

  -- the context's active set changes as the thread's does
  ons : n.tag ≡ 7 → has (D.assigned t.user) n.f1 ≡ true → T (Moves (masked t (with t.mask n.f1)))
  ons z b =
      moves-told C At K R k made (masked t (with t.mask n.f1))
      (masked_good D At K made t c F (with t.mask n.f1) (with c.mask n.f1)
      (child_at 7 z (omega arith) (omega arith) (activate c (with c.mask n.f1)) (child_on D c n z))
      (with_within t.mask (D.assigned t.user) n.f1 F.mask b)
      (S.on t.mask c.mask n.f1 e))

  offs : n.tag ≡ 8 → T (Moves (masked t (without t.mask n.f1)))
  offs z =
      moves-told C At K R k made (masked t (without t.mask n.f1))
      (masked_good D At K made t c F (without t.mask n.f1) (without c.mask n.f1)
      (child_at 8 z (omega arith) (omega arith) (activate c (without c.mask n.f1)) (child_off D c n z))
      (without_within t.mask (D.assigned t.user) n.f1 F.mask)
      (S.off t.mask c.mask n.f1 e))

  -- a refusal is that of the node, with the thread's own active set
  no_on : n.tag ≡ 7 → has (D.assigned t.user) n.f1 ≡ false → T (Refused 11)
  no_on z b =
      let same : has (D.assigned c.user) n.f1 ≡ false = ap (λ (u : ℕ). has (D.assigned u) n.f1) (sym F.user) ∙ b in
      refused-told C At K R k made 11 (M.role t.node c a t.mask e 10 (on_barred D (activate c t.mask) n z same))

  no_off : n.tag ≡ 8 → has t.mask n.f1 ≡ false → T (Refused 12)
  no_off z b = refused-told C At K R k made 12 (M.role t.node c a t.mask e 11 (off_barred D (activate c t.mask) n z b))

  full : T (Refused 20)
  full = refused-told C At K R k made 20 M.full

  -- by the tag
  pub lone-told : T (lone C k (length made) t n)
  unfolding lone
  lone-told =
      test (eqb n.tag 0) _ _ (λ _. ends-told C At K R k made)
      (λ _. test (eqb n.tag 1) _ _ (λ z. test (ltb k 64) _ _ (forks (eqb-true n.tag 1 z)) (λ _. full))
      (λ _. test (eqb n.tag 2) _ _ (λ z. test (ltb k 64) _ _ (repeats (eqb-true n.tag 2 z)) (λ _. full))
      (λ _. test (eqb n.tag 3) _ _ (λ z. test (ltb (length made) 64) _ _ (news (eqb-true n.tag 3 z)) (λ _. full))
      (λ _. test (eqb n.tag 4) _ _
      (λ z. test (eqb (value t n.f1) (value t n.f2)) _ _ (λ _. compares (eqb-true n.tag 4 z)) (λ _. refused-told C At K R k made 19 M.unequal))
      (λ _. test (eqb n.tag 7) _ _
      (λ z. test (has (D.assigned t.user) n.f1) _ _ (ons (eqb-true n.tag 7 z)) (no_on (eqb-true n.tag 7 z)))
      (λ _. test (eqb n.tag 8) _ _
      (λ z. test (has t.mask n.f1) _ _ (λ _. offs (eqb-true n.tag 8 z)) (no_off (eqb-true n.tag 8 z)))
      (λ _. refused-told C At K R k made 18 M.no_thread_lem)))))))
    where
      test : (b : Bool) (x y : Outcome) → (b ≡ true → T x) → (b ≡ false → T y) → T (cond b x y)
      test = either C At K R k made
