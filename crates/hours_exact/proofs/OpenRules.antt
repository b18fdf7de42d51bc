-- Where names and kinds are right, 11 to 13 and 24 find nothing exactly where 11 to 13 find nothing in what the file holds with the shut roles taken from every user's mask.
use Prim.Native.Nat.{ℕ, zero, suc, ◌≤◌, ◌<◌}
use mathlib.Core.Path.{◌≡◌, refl, sym, ap, ap₂, ◌∙◌, subst}
use mathlib.Core.Logic.Iff
use mathlib.Core.Logic.{◌↔◌}
use mathlib.Core.Bool.{Bool, true, false, cond, not, ◌&&◌, true≢false, false≢true}
use mathlib.Core.List.{List, [], ◌∷◌, map}
use native.Mathlib.Omega.{arith}
use lib.Bits.{bit_and}
use lib.Dec.{eqb}
use lib.ListN.{length, get_or, length-map}
use borrow.Author.Tests.{eqb-true, eqb-false}
use Rattle.masks.specs.Mask.{has, minus}
use Rattle.masks.proofs.Minus.{has_minus}
use Rattle.format.specs.Contents.{Contents, item, no_node}
use Rattle.format.specs.Answers.{fine, refused}
use Rattle.format.specs.declared.Verdict.{Verdict}
use Rattle.format.specs.declared.Node.{Node}
use Rattle.format.proofs.AnswerLaws.{NoRefusal}
use Rattle.trees.specs.Shape.{shape_answer}
use Rattle.rules.specs.declared.Way.{Way}
use Rattle.rules.specs.declared.Way.TheVariants.{Sends, Receives}
use Rattle.rules.specs.Schema.{Schema, schema_of, permitting}
use Rattle.rules.specs.Names.{kind_of}
use Rattle.rules.specs.Rules.{Context, able, barred, waiting_after}
use Rattle.rules.specs.Checking.{reached, openings, reached_in, first_by, rightly, names_answer, roles_answer}
use Rattle.rules.specs.Candidates.{candidates, candidates_in}
use Rattle.rules.proofs.PassLaws.{by_quiet, all_right}
use Rattle.placing.proofs.CandidateLaws.{candidates_length}
use Rattle.checking_at.specs.CheckAt.{opens_shut, shut_answer, roles_answer_at}
use Rattle.placing_at.specs.PlaceAt.{open_contents}
use Rattle.placing_at.proofs.OpenLaws.{open_schema, open_schema_lem, permitting_same, open_reached}
use Rattle.reading_exact.specs.Lists.{All}
use Rattle.reading_exact.specs.Order.{First}
use Rattle.reading_exact.specs.Refusals.{reading_order}
use Rattle.reading_exact.proofs.AllLaws.{all-iff, all_and, all_get}
use Rattle.reading_exact.proofs.FirstLaws.{number_of, first_zero, first_clear, Unfit, first-of}
use Rattle.hours_exact.proofs.HourOrder.{sooner_fine}

-- 11 to 13 at one node
test_shut : (a b : Bool) → (◌≡◌ {A = ℕ} (cond (a && not b) 0 11) 0) ↔ ((◌≡◌ {A = ℕ} (cond a 0 11) 0) × (b ≡ false))
test_shut true true = (λ h. absurd (omega (arith, h)), λ (_, h). absurd (true≢false h))
test_shut true false = (λ h. (refl, refl), λ h. refl)
test_shut false b = (λ h. absurd (omega (arith, h)), λ (h, _). h)

module _ (s : ℕ) (D : Schema) (c : Context) (n : Node) where
  able_same : (w : Way) (k : ℕ) → able (open_schema s D) c.mask w k ≡ able D c.mask w k
  unfolding able
  able_same w k = ap (λ (g : ℕ). not (eqb (bit_and c.mask g) 0)) (permitting_same s D w k)

  -- at a node that is no on
  barred_same : eqb n.tag 7 ≡ false → barred (open_schema s D) c n ≡ barred D c n
  unfolding barred kind_of
  barred_same e =
      rw e
      (ap₂ (λ (x y : Bool). cond (eqb n.tag 5) (cond x 0 13) (cond (eqb n.tag 6) (cond y 0 13) (cond (eqb n.tag 8) (cond (has c.mask n.f1) 0 12) 0)))
      (able_same Receives (kind_of D c.vars n.f1)) (able_same Sends (kind_of D c.vars n.f1)))

  barred_on : n.tag ≡ 7 → (barred (open_schema s D) c n ≡ 0) ↔ ((barred D c n ≡ 0) × (has s n.f1 ≡ false))
  unfolding barred
  barred_on e = rw (e, has_minus (D.assigned c.user) s n.f1) (test_shut (has (D.assigned c.user) n.f1) (has s n.f1))

  pub barred_open : (barred (open_schema s D) c n ≡ 0) ↔ ((barred D c n ≡ 0) × (opens_shut s n ≡ false))
  barred_open = go (eqb n.tag 7) refl
    where
      go : (b : Bool) → eqb n.tag 7 ≡ b → (barred (open_schema s D) c n ≡ 0) ↔ ((barred D c n ≡ 0) × ((b && has s n.f1) ≡ false))
      go true e = barred_on (eqb-true n.tag 7 e)
      go false e = (λ h. (sym (barred_same e) ∙ h, refl), λ (h, _). barred_same e ∙ h)

-- a rule finds nothing exactly where it holds of all
by_all : (rule : Context → Node → ℕ) (i : ℕ) (rs : List (Context × Node)) → (first_by rule i rs ≡ fine) ↔ All (λ (r : Context × Node). rule r.0 r.1 ≡ 0) rs
unfolding first_by
by_all rule i [] = (λ h. tt, λ h. refl)
by_all rule i (r ∷ rs) = go (eqb (rule r.0 r.1) 0) refl (by_all rule (suc i) rs)
  where
    go : (b : Bool) → eqb (rule r.0 r.1) 0 ≡ b → (first_by rule (suc i) rs ≡ fine) ↔ All (λ (r : Context × Node). rule r.0 r.1 ≡ 0) rs
        → (cond b (first_by rule (suc i) rs) (refused (rule r.0 r.1) i) ≡ fine) ↔ ((rule r.0 r.1 ≡ 0) × All (λ (r : Context × Node). rule r.0 r.1 ≡ 0) rs)
    go true e (to, back) = (λ h. (eqb-true (rule r.0 r.1) 0 e, to h), λ (z, h). back h)
    go false e rest = (λ h. absurd (eqb-false (rule r.0 r.1) 0 e (number_of h)), λ (z, h). absurd (eqb-false (rule r.0 r.1) 0 e z))

-- those reached are the nodes, where all are reached
reached_nodes : (D : Schema) (ns : List Node) (st : List Context) → length (reached D ns st) ≡ length ns → map (λ (r : Context × Node). r.1) (reached D ns st) ≡ ns
unfolding reached
reached_nodes D [] st e = refl
reached_nodes D (n ∷ ns) [] e = absurd (omega (arith, e))
reached_nodes D (n ∷ ns) (c ∷ st) e = ap (λ (l : List Node). n ∷ l) (reached_nodes D ns (waiting_after D c n st) (omega (arith, e)))

all_second : (P : Node → Type 0) (rs : List (Context × Node)) → All P (map (λ (r : Context × Node). r.1) rs) ↔ All (λ (r : Context × Node). P r.1) rs
all_second P [] = (λ h. tt, λ h. tt)
all_second P (r ∷ rs) = let (to, back) = all_second P rs in (λ h. (h.0, to h.1), λ h. (h.0, back h.1))

all_index : (P : Node → Type 0) (xs : List Node) → ((k : ℕ) → k < length xs → P (get_or xs k no_node)) → All P xs
all_index P [] h = tt
all_index P (x ∷ xs) h = (h 0 (omega arith), all_index P xs (λ k l. h (suc k) (omega (arith, l))))

-- 24 finds nothing exactly where no node is on of a shut role
module _ (s : ℕ) (C : Contents) where
  abbrev fits : ℕ → Bool
  fits n = not (opens_shut s (item no_node C.nodes n))

  abbrev Shut : ℕ → ℕ → Type 0
  Shut = Unfit fits 24 (λ n. n) 1 (length C.nodes)

  shut_found : First reading_order Shut (shut_answer s C)
  unfolding shut_answer
  shut_found = first-of reading_order fits 24 (λ n. n) (λ x y l. l) 1 (length C.nodes)

  pub shut_zero : (shut_answer s C).number ≡ 0 → shut_answer s C ≡ fine
  shut_zero z = (first_zero reading_order Shut (shut_answer s C) (λ n p h. omega (arith, h.0)) shut_found z).0

  pub shut_all : (shut_answer s C ≡ fine) ↔ All (λ (n : Node). opens_shut s n ≡ false) C.nodes
  unfolding item
  shut_all = (
    λ e. all_index (λ (n : Node). opens_shut s n ≡ false) C.nodes (λ k l. to (first_zero reading_order Shut (shut_answer s C) (λ n p h. omega (arith, h.0)) shut_found (number_of e)).1 k l),
    λ h. first_clear reading_order Shut (shut_answer s C) shut_found (λ n p u. never h n p u),
  )
    where
      to : ((n p : ℕ) → Shut n p → ⊥) → (k : ℕ) → k < length C.nodes → opens_shut s (get_or C.nodes k no_node) ≡ false
      to none k l = go (opens_shut s (get_or C.nodes k no_node)) refl
        where
          go : (b : Bool) → opens_shut s (get_or C.nodes k no_node) ≡ b → opens_shut s (get_or C.nodes k no_node) ≡ false
          go true e = absurd (none 24 (suc k) (refl, suc k, omega arith, omega (arith, l), ap not e, refl))
          go false e = e

      never : All (λ (n : Node). opens_shut s n ≡ false) C.nodes → (n p : ℕ) → Shut n p → ⊥
      never h n p (a, zero, l, k, q, z) = omega arith
      never h n p (a, suc x, l, k, q, z) = false≢true (sym q ∙ ap not (all_get (λ (n : Node). opens_shut s n ≡ false) C.nodes x no_node (omega (arith, k)) h))

  module _ (shaped : NoRefusal (shape_answer C)) (named : NoRefusal (names_answer C)) where
    abbrev D : Schema
    D = schema_of C

    every : map (λ (r : Context × Node). r.1) (reached_in C) ≡ C.nodes
    unfolding candidates_in names_answer
    every =
        let whole = all_right D 1 (reached_in C) named in
        let told : Context × Node → ℕ = λ r. candidates D r.0 r.1 in
        let long = sym (length-map (reached_in C) told) ∙ ap (λ (rs : List (Context × Node)). length (map told rs)) (sym whole) ∙ candidates_length C shaped named in
        reached_nodes D C.nodes (openings C) long

    both_all : ((roles_answer C ≡ fine) × (shut_answer s C ≡ fine)) ↔ All (λ (r : Context × Node). barred (open_schema s D) r.0 r.1 ≡ 0) (reached_in C)
    unfolding roles_answer
    both_all =
        let nodes : (shut_answer s C ≡ fine) ↔ All (λ (r : Context × Node). opens_shut s r.1 ≡ false) (reached_in C) =
        Iff.trans shut_all (subst (λ (l : List Node). All (λ (n : Node). opens_shut s n ≡ false) l ↔ All (λ (r : Context × Node). opens_shut s r.1 ≡ false) (reached_in C)) every
        (all_second (λ (n : Node). opens_shut s n ≡ false) (reached_in C))) in
        Iff.trans (Iff.and (by_all (barred D) 1 (reached_in C)) nodes)
        (Iff.trans (all_and _ _ (reached_in C)) (all-iff (reached_in C) (λ (r : Context × Node). let (to, back) = barred_open s D r.0 r.1 in (back, to))))

    pub roles_open : (roles_answer_at s C ≡ fine) ↔ (roles_answer (open_contents s C) ≡ fine)
    unfolding roles_answer_at roles_answer
    roles_open =
        let read : roles_answer (open_contents s C) ≡ first_by (barred (open_schema s D)) 1 (reached_in C) =
        ap₂ (λ (E : Schema) (rs : List (Context × Node)). first_by (barred E) 1 rs) (open_schema_lem s C) (open_reached s C) in
        let (to, back) = by_all (barred (open_schema s D)) 1 (reached_in C) in
        let (in_all, from_all) = both_all in
        let (parts, whole) = sooner_fine (roles_answer C) (shut_answer s C) (by_quiet (barred D) 1 (reached_in C)) shut_zero in
        (λ h. read ∙ back (in_all (parts h)), λ h. whole (from_all (to (sym read ∙ h))))
