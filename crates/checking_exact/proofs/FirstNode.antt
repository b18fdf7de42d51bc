-- `first_by` refuses the first node that the rule refuses in its context, where the rule's numbers are of one stage.
use Prim.Native.Nat.{ℕ, suc, ◌≤◌}
use mathlib.Core.Path.{◌≡◌, refl, sym, ap, ◌∙◌}
use mathlib.Core.Logic.{inl, ◌≢◌}
use mathlib.Core.Bool.{Bool, true, false, cond}
use mathlib.Core.List.{List, ◌∷◌}
use native.Mathlib.Omega.{arith}
use lib.Dec.{eqb}
use lib.ListN.{length, drop}
use borrow.Author.Tests.{eqb-true, eqb-false}
use Rattle.format.specs.Answers.{fine, refused}
use Rattle.format.specs.declared.Node.{Node}
use Rattle.rules.specs.Schema.{Schema}
use Rattle.rules.specs.Rules.{Context, waiting_after}
use Rattle.rules.specs.Checking.{reached, first_by}
use Rattle.reading_exact.specs.File.{InCount}
use Rattle.reading_exact.specs.Order.{Order, First}
use Rattle.reading_exact.specs.Refusals.{nth}
use Rattle.reading_exact.proofs.FirstLaws.{number_of, first_zero, FirstFrom, first_on, first_here}
use Rattle.reading_exact.proofs.ReachedStack.{none_reached, reached_single, TopReached as Waiting, along}
use Rattle.checking_exact.specs.Faults.{InContext}
use Rattle.checking_exact.proofs.ContextStack.{contexts}

-- node p is there, in the context c
abbrev pub ReachedAt : Schema → List Node → List Context → ℕ → Context → Type 0
ReachedAt D ns os p c = InContext D ns os p c × InCount (length ns) p

module _ (D : Schema) (ns : List Node) (os : List Context) (rule : Context → Node → ℕ) where
  -- the rule refuses node p with the number n, in its context
  abbrev pub Refuses : ℕ → ℕ → Type 0
  Refuses n p = (c : Context) × ReachedAt D ns os p c × (rule c (nth ns p) ≡ n) × (n ≢ 0)

  module _ (o : Order) (low : (i : ℕ) → InCount (length ns) i → (nth ns i).tag ≤ 8) (staged : (n p m q : ℕ) → Refuses n p → Refuses m q → o.stage n ≡ o.stage m) where
    abbrev Answers : ℕ → List Node → List Context → Type 0
    Answers i l st = FirstFrom o Refuses i (first_by rule i (reached D l st))

    pass : (i : ℕ) (c : Context) (l : List Node) (st : List Context) → InCount (length ns) i → drop i ns ≡ l → Waiting (contexts D os) ns i (c ∷ st)
        → ((nth ns i).tag ≤ 8 → Answers (suc i) l (waiting_after D c (nth ns i) st)) → Answers i (nth ns i ∷ l) (c ∷ st)
    unfolding reached first_by
    pass i c l st m left (s, h) rest = go (eqb v 0) refl
      where
        v : ℕ
        v = rule c (nth ns i)

        -- one context a node, and so one number
        same : (k : ℕ) → Refuses k i → v ≡ k
        same k (d, r, w, _) = ap (λ (x : Context). rule x (nth ns i)) (reached_single (contexts D os) ns h.0 r.0) ∙ w

        go : (b : Bool) → eqb v 0 ≡ b → FirstFrom o Refuses i (cond b (first_by rule (suc i) (reached D l (waiting_after D c (nth ns i) st))) (refused v i))
        go true f = first_on o Refuses i _ (λ k b. b.3 (sym (same k b) ∙ eqb-true v 0 f)) (rest (low i m))
        go false f =
            let found : Refuses v i = (c, (h.0, m), refl, eqb-false v 0 f) in
            first_here o Refuses v i found (λ k q b. staged v i k q found b) (λ k b. omega (arith, ap o.turn (same k b)))

    pub first_by_lem : First o Refuses (first_by rule 1 (reached D ns os))
    unfolding reached first_by
    first_by_lem =
        along (contexts D os) ns Answers (λ i st e s n. inl (refl, λ k q b. omega (arith, n k q b, b.1.1)))
        (λ i x l m s n. inl (refl, λ k q b. none_reached (contexts D os) ns m.0 (n k q b) s.0 b.1.0)) pass (λ n q b. b.1.1.0)

  -- where none is refused the rule holds at every node
  pub all_held : ((i : ℕ) → InCount (length ns) i → (nth ns i).tag ≤ 8) → first_by rule 1 (reached D ns os) ≡ fine
      → (p : ℕ) (c : Context) → ReachedAt D ns os p c → rule c (nth ns p) ≡ 0
  all_held low e p c s = go (eqb (rule c (nth ns p)) 0) refl
    where
      flat : Order
      flat = record { stage = λ n. 0; turn = λ n. n }

      go : (b : Bool) → eqb (rule c (nth ns p)) 0 ≡ b → rule c (nth ns p) ≡ 0
      go true z = eqb-true (rule c (nth ns p)) 0 z
      go false z =
          absurd ((first_zero flat Refuses (first_by rule 1 (reached D ns os)) (λ n q b. omega (arith, b.3)) (first_by_lem flat low (λ n p m q a b. refl)) (number_of e)).1
          (rule c (nth ns p)) p (c, s, refl, eqb-false (rule c (nth ns p)) 0 z))
