-- In a file that 1 to 10 let through every node is reached, in the one context that the nodes before it leave.
use Prim.Native.Nat.{ℕ, zero, suc, ◌+◌, ◌-◌, ◌<◌}
use mathlib.Core.Path.{◌≡◌, refl, sym, ap, ◌∙◌, subst}
use mathlib.Core.List.{List, [], ◌∷◌}
use native.Mathlib.Omega.{arith}
use lib.ListN.{length, get_or}
use Rattle.format.specs.Contents.{Contents, no_node, contents_of}
use Rattle.format.specs.Answers.{fine}
use Rattle.format.specs.declared.Node.{Node}
use Rattle.checking.specs.Check.{reading_names}
use Rattle.rules.specs.Schema.{Schema, schema_of}
use Rattle.rules.specs.Rules.{Context, waiting_after}
use Rattle.rules.specs.Checking.{reached, openings, reached_in}
use Rattle.reading_exact.specs.File.{InCount}
use Rattle.reading_exact.specs.Refusals.{nth, Begins, left_over, misshapen}
use Rattle.reading_exact.proofs.Standing.{roots_in}
use Rattle.reading_exact.proofs.ReachedStack.{reached_single, along}
use Rattle.checking_exact.specs.Faults.{nowhere, InContext}
use Rattle.checking_exact.proofs.ContextStack.{contexts}
use Rattle.running_exact.proofs.FileNodes.{openings_length, roots_length, refusable_none, tag_low, StandsIn}
use Rattle.lending.specs.Lent.{context_at}

module _ (f : List ℕ) (clean : reading_names f ≡ fine) where
  abbrev C : Contents
  C = contents_of f

  abbrev D : Schema
  D = schema_of C

  abbrev ns : List Node
  ns = C.nodes

  abbrev os : List Context
  os = openings C

  -- what holds at the end, and of each node where it holds after it
  pub along_nodes : (P : ℕ → List Node → List Context → Type 0) → ((i : ℕ) (st : List Context) → P i [] st)
      → ((i : ℕ) (c : Context) (l : List Node) (st : List Context) → StandsIn (contents_of f) i c → P (suc i) l (waiting_after D c (nth ns i) st) → P i (nth ns i ∷ l) (c ∷ st))
      → P 1 ns os
  along_nodes P stop pass =
      along (contexts D os) ns P (λ i st e s. stop i st)
      (λ i x l n (s, b). absurd (refusable_none f clean 8 i (misshapen refl (left_over (subst (λ (k : ℕ). Begins ns (suc k) i) paired b) n))))
      (λ i c l st n e (s, h) rec. pass i c l st (n, h.0) (rec (tag_low f clean i n)))
    where
      paired : length os ≡ length (roots_in C.sessions)
      paired = openings_length C.sessions ∙ sym (roots_length C.sessions)

  -- each node is reached
  pub reached_length : length (reached_in C) ≡ length ns
  unfolding reached
  reached_length = along_nodes (λ i l st. length (reached D l st) ≡ length l) (λ i st. refl) (λ i c l st h r. ap suc r)

  -- in its context
  pub contexts_at : (j : ℕ) → InCount (length ns) j → InContext D ns os j (context_at C j)
  unfolding reached
  contexts_at j n =
      let e : 1 + (j - 1) ≡ j = omega arith in
      subst (λ (k : ℕ). InContext D ns os k (context_at C j)) e
      (along_nodes (λ i l st. (k : ℕ) → k < length l → InContext D ns os (i + k) (get_or (reached D l st) k (nowhere, no_node)).0) (λ i st k l. absurd (omega arith)) pass (j - 1)
      (omega arith))
    where
      pass : (i : ℕ) (c : Context) (l : List Node) (st : List Context) → StandsIn (contents_of f) i c
          → ((k : ℕ) → k < length l → InContext D ns os (suc i + k) (get_or (reached D l (waiting_after D c (nth ns i) st)) k (nowhere, no_node)).0)
          → (k : ℕ) → k < length (nth ns i ∷ l) → InContext D ns os (i + k) (get_or (reached D (nth ns i ∷ l) (c ∷ st)) k (nowhere, no_node)).0
      pass i c l st h r zero q = let e : i ≡ i + 0 = omega arith in subst (λ (m : ℕ). InContext D ns os m c) e h.1
      pass i c l st h r (suc k) q =
          let e : suc i + k ≡ i + suc k = omega arith in
          subst (λ (m : ℕ). InContext D ns os m (get_or (reached D l (waiting_after D c (nth ns i) st)) k (nowhere, no_node)).0) e (r k (omega arith))

  -- and in no other
  pub one_context : (j : ℕ) (c : Context) → InCount (length ns) j → InContext D ns os j c → context_at C j ≡ c
  one_context j c n h = reached_single (contexts D os) ns (contexts_at j n) h
