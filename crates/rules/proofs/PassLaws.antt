-- The pass over the nodes: what is left from a node on gives what the whole gives.
use Prim.Native.Nat.{ℕ, suc, ◌+◌, ◌-◌, ◌≤◌, ◌<◌}
use mathlib.Core.Path.{◌≡◌, refl, sym, ap, ap₂, ◌∙◌}
use mathlib.Core.Bool.{Bool, true, false, cond}
use mathlib.Core.List.{List, [], ◌∷◌, map}
use native.Mathlib.Omega.{arith}
use native.Mathlib.Numerals.{add-one}
use lib.ListN.{length, set, drop}
use lib.Seq.{sets}
use lib.Dec.{eqb}
use borrow.Author.Tests.{eq-eqb, ne_eqb, eqb-false}
use Rattle.masks.specs.Mask.{with, without}
use Rattle.format.specs.Contents.{Contents, item, no_node}
use Rattle.format.specs.Answers.{fine, refused, or_else}
use Rattle.format.specs.declared.Verdict.{Verdict}
use Rattle.format.specs.declared.Node.{Node}
use Rattle.format.proofs.AnswerLaws.{NoRefusal}
use Rattle.format.proofs.ContentsLaws.{from_node, none_past}
use Rattle.rules.specs.Schema.{Schema, schema_of}
use Rattle.rules.specs.Names.{kind_of}
use Rattle.rules.specs.Rules.{Context, names_fit, kinds_fit, wrong, barred, bind, activate, child_of, waiting_after}
use Rattle.rules.specs.Checking.{reached, openings, first_by, rightly, names_answer, roles_answer, judgement}
use Rattle.rules.specs.Candidates.{candidates, candidates_in}
use Rattle.rules.specs.Kept.{answer_at, unmasked}

-- the first refusal is kept
noted : (v r : Verdict) (n i : ℕ) → or_else v (cond (eqb n 0) r (refused n i)) ≡ or_else (or_else v (answer_at n i)) r
noted v r n i = go (eqb v.number 0) (eqb n 0) refl refl
  where
    go : (p q : Bool) → eqb v.number 0 ≡ p → eqb n 0 ≡ q → cond p (cond q r (refused n i)) v ≡ or_else (cond p (cond q fine (refused n i)) v) r
    go true true e g = refl
    go true false e g = rw g
    go false q e g = rw e

noted_quiet : (v : Verdict) (n i : ℕ) → or_else v fine ≡ v → or_else (or_else v (answer_at n i)) fine ≡ or_else v (answer_at n i)
noted_quiet v n i h = go (eqb v.number 0) (eqb n 0) refl refl
  where
    go : (p q : Bool) → eqb v.number 0 ≡ p → eqb n 0 ≡ q → or_else (cond p (cond q fine (refused n i)) v) fine ≡ cond p (cond q fine (refused n i)) v
    go true true e g = refl
    go true false e g = rw g
    go false q e g = h

-- an answer of a rule that refuses nothing is fine
pub by_quiet : (rule : Context → Node → ℕ) (i : ℕ) (rs : List (Context × Node)) → NoRefusal (first_by rule i rs) → first_by rule i rs ≡ fine
unfolding first_by
by_quiet rule i [] q = refl
by_quiet rule i (r ∷ rs) q = go (eqb (rule r.0 r.1) 0) refl q (by_quiet rule (suc i) rs)
  where
    go : (b : Bool) → eqb (rule r.0 r.1) 0 ≡ b → NoRefusal (cond b (first_by rule (suc i) rs) (refused (rule r.0 r.1) i))
        → (NoRefusal (first_by rule (suc i) rs) → first_by rule (suc i) rs ≡ fine) → cond b (first_by rule (suc i) rs) (refused (rule r.0 r.1) i) ≡ fine
    go true e q rec = rec q
    go false e q rec = absurd (eqb-false (rule r.0 r.1) 0 e q)

-- where names and kinds are right at all of them, all are kept
pub all_right : (D : Schema) (i : ℕ) (rs : List (Context × Node)) → NoRefusal (first_by (wrong D) i rs) → rightly D rs ≡ rs
unfolding first_by rightly
all_right D i [] q = refl
all_right D i (r ∷ rs) q = go (eqb (wrong D r.0 r.1) 0) refl q (all_right D (suc i) rs)
  where
    go : (b : Bool) → eqb (wrong D r.0 r.1) 0 ≡ b → NoRefusal (cond b (first_by (wrong D) (suc i) rs) (refused (wrong D r.0 r.1) i))
        → (NoRefusal (first_by (wrong D) (suc i) rs) → rightly D rs ≡ rs) → cond b (r ∷ rightly D rs) [] ≡ r ∷ rs
    go true e q rec = ap (r ∷◌) (rec q)
    go false e q rec = absurd (eqb-false (wrong D r.0 r.1) 0 e q)

-- the contexts that wait after a node with one child
pub after_step : (D : Schema) (c : Context) (n : Node) (st : List Context) {d : Context} {us : List Context} → (n.tag ≡ 0 → ⊥) → (n.tag ≡ 1 → ⊥) → d ≡ child_of D c n → us ≡ st → d ∷ us ≡ waiting_after D c n st
after_step D c n st z o e r = rw (ne_eqb n.tag 0 z, ne_eqb n.tag 1 o) (ap₂ ◌∷◌ e r)

-- the active set plays no part in 9 and 10
module _ (D : Schema) where
  bare_twice : (st : List Context) → map unmasked (map unmasked st) ≡ map unmasked st
  bare_twice [] = refl
  bare_twice (c ∷ st) = ap (λ (us : List Context). unmasked c ∷ us) (bare_twice st)

  abbrev child_by : Node → Context → Bool → Bool → Bool → Bool → Context
  child_by n c p q r s =
      cond p (bind c n.f1 true)
      (cond q (bind c (D.carries (kind_of D c.vars n.f1)) false) (cond r (activate c (with c.mask n.f1)) (cond s (activate c (without c.mask n.f1)) c)))

  bare_child : (c : Context) (n : Node) → unmasked (child_of D (unmasked c) n) ≡ unmasked (child_of D c n)
  unfolding child_of
  bare_child c n = go (eqb n.tag 3) (eqb n.tag 5) (eqb n.tag 7) (eqb n.tag 8)
    where
      go : (p q r s : Bool) → unmasked (child_by n (unmasked c) p q r s) ≡ unmasked (child_by n c p q r s)
      go true q r s = refl
      go false true r s = refl
      go false false true s = refl
      go false false false true = refl
      go false false false false = refl

  pub bare_after : (c : Context) (n : Node) (st : List Context) → map unmasked (waiting_after D (unmasked c) n (map unmasked st)) ≡ map unmasked (waiting_after D c n st)
  bare_after c n st = go (eqb n.tag 0) (eqb n.tag 1)
    where
      go : (p q : Bool) → map unmasked (cond p (map unmasked st) (cond q (unmasked c ∷ unmasked c ∷ map unmasked st) (child_of D (unmasked c) n ∷ map unmasked st)))
          ≡ map unmasked (cond p st (cond q (c ∷ c ∷ st) (child_of D c n ∷ st)))
      go true q = bare_twice st
      go false true = ap (λ (us : List Context). unmasked c ∷ unmasked c ∷ us) (bare_twice st)
      go false false = ap₂ ◌∷◌ (bare_child c n) (bare_twice st)

  bare_first : (i : ℕ) (ns : List Node) (st : List Context) → first_by (wrong D) i (reached D ns (map unmasked st)) ≡ first_by (wrong D) i (reached D ns st)
  unfolding first_by reached wrong
  bare_first i [] st = refl
  bare_first i (n ∷ ns) [] = refl
  bare_first i (n ∷ ns) (c ∷ st) =
      ap (λ (v : Verdict). cond (eqb (wrong D c n) 0) v (refused (wrong D c n) i))
      (sym (bare_first (suc i) ns (waiting_after D (unmasked c) n (map unmasked st))) ∙ ap (λ (us : List Context). first_by (wrong D) (suc i) (reached D ns us)) (bare_after c n st)
      ∙ bare_first (suc i) ns (waiting_after D c n st))

  pub masks_aside : (i : ℕ) (ns : List Node) (st us : List Context) → map unmasked st ≡ map unmasked us
      → first_by (wrong D) i (reached D ns st) ≡ first_by (wrong D) i (reached D ns us)
  masks_aside i ns st us e = sym (bare_first i ns st) ∙ ap (λ (vs : List Context). first_by (wrong D) i (reached D ns vs)) e ∙ bare_first i ns us

-- none is reached where no context waits
pub reached_none : (D : Schema) (ns : List Node) → reached D ns [] ≡ []
unfolding reached
reached_none D [] = refl
reached_none D (n ∷ ns) = refl

module _ (C : Contents) where
  -- the nodes from i on, each with its context, where the contexts st wait
  abbrev pub due : ℕ → List Context → List (Context × Node)
  due i st = reached (schema_of C) (drop (i - 1) C.nodes) st

  -- the first that a rule refuses from the node i on, and what is told of each from there on
  abbrev pub from : (Context → Node → ℕ) → ℕ → List Context → Verdict
  from rule i st = first_by rule i (due i st)

  abbrev pub tells : (Context → Node → ℕ) → ℕ → List Context → List ℕ
  tells g i st = map (λ (r : Context × Node). g r.0 r.1) (rightly (schema_of C) (due i st))

  abbrev roles_from : ℕ → List Context → List ℕ
  roles_from i st = tells (candidates (schema_of C)) i st

  due_at : (i : ℕ) (c : Context) (st : List Context) (n : Node) → 1 ≤ i → i ≤ length C.nodes → n ≡ item no_node C.nodes i
      → due i (c ∷ st) ≡ (c, n) ∷ due (i + 1) (waiting_after (schema_of C) c n st)
  unfolding reached
  due_at i c st n pos le e = rw (from_node C.nodes i n pos le e)

  pub none_left : (i : ℕ) (st : List Context) → length C.nodes < i → due i st ≡ []
  unfolding reached
  none_left i st past = rw (none_past C.nodes (i - 1) (omega arith))

  pub none_waits : (i : ℕ) → due i [] ≡ []
  none_waits i = reached_none (schema_of C) (drop (i - 1) C.nodes)

  turn : (rule : Context → Node → ℕ) (i : ℕ) (c : Context) (st : List Context) (n : Node) → 1 ≤ i → i ≤ length C.nodes → n ≡ item no_node C.nodes i
      → from rule i (c ∷ st) ≡ cond (eqb (rule c n) 0) (from rule (i + 1) (waiting_after (schema_of C) c n st)) (refused (rule c n) i)
  unfolding first_by
  turn rule i c st n pos le e = rw (due_at i c st n pos le e, add-one i)

  pub tells_at : (g : Context → Node → ℕ) (i : ℕ) (c : Context) (st : List Context) (n : Node) → 1 ≤ i → i ≤ length C.nodes → n ≡ item no_node C.nodes i → wrong (schema_of C) c n ≡ 0
      → tells g i (c ∷ st) ≡ g c n ∷ tells g (i + 1) (waiting_after (schema_of C) c n st)
  unfolding rightly
  tells_at g i c st n pos le e good = rw (due_at i c st n pos le e, eq-eqb (wrong (schema_of C) c n) 0 good)

  pub tells_none : (g : Context → Node → ℕ) (i : ℕ) (c : Context) (st : List Context) (n : Node) → 1 ≤ i → i ≤ length C.nodes → n ≡ item no_node C.nodes i → (wrong (schema_of C) c n ≡ 0 → ⊥)
      → tells g i (c ∷ st) ≡ []
  unfolding rightly
  tells_none g i c st n pos le e bad = rw (due_at i c st n pos le e, ne_eqb (wrong (schema_of C) c n) 0 bad)

  -- where none is left none is refused, and none has candidates
  none_refused : (rule : Context → Node → ℕ) (i : ℕ) (st : List Context) → due i st ≡ [] → from rule i st ≡ fine
  unfolding first_by
  none_refused rule i st e = rw e

  pub none_told : (g : Context → Node → ℕ) (i : ℕ) (st : List Context) → due i st ≡ [] → tells g i st ≡ []
  unfolding rightly
  none_told g i st e = rw e

  -- the first of 9 and 10 from the node i on is that of all
  abbrev pub Names : ℕ → List Context → Type 0
  Names i st = from (wrong (schema_of C)) i st ≡ names_answer C

  pub names_begin : (st : List Context) → st ≡ map unmasked (openings C) → Names 1 st
  unfolding names_answer
  names_begin st e = ap (from (wrong (schema_of C)) 1) e ∙ bare_first (schema_of C) 1 C.nodes (openings C)

  pub names_on : (i : ℕ) (c : Context) (st next : List Context) (n : Node) → 1 ≤ i → i ≤ length C.nodes → n ≡ item no_node C.nodes i → wrong (schema_of C) c n ≡ 0
      → map unmasked next ≡ map unmasked (waiting_after (schema_of C) c n st) → Names i (c ∷ st) → Names (i + 1) next
  names_on i c st next n pos le its good same left =
      let D : Schema = schema_of C in
      masks_aside D (i + 1) (drop (i + 1 - 1) C.nodes) next (waiting_after D c n st) same ∙ (rw (turn (wrong D) i c st n pos le its, eq-eqb (wrong D c n) 0 good) at left)

  pub names_refused : (i : ℕ) (c : Context) (st : List Context) (b : ℕ) (n : Node) → 1 ≤ i → i ≤ length C.nodes → n ≡ item no_node C.nodes i
      → b ≡ wrong (schema_of C) c n → (b ≡ 0 → ⊥) → Names i (c ∷ st) → refused b i ≡ names_answer C
  names_refused i c st b n pos le its e bad left = rw (turn (wrong (schema_of C)) i c st n pos le its, sym e, ne_eqb b 0 bad) at left

  -- none is refused where no context waits, and past the last node
  pub names_out : (i : ℕ) → Names i [] → fine ≡ names_answer C
  names_out i left = sym (none_refused (wrong (schema_of C)) i [] (none_waits i)) ∙ left

  pub names_end : (i : ℕ) (st : List Context) → length C.nodes < i → Names i st → fine ≡ names_answer C
  names_end i st past left = sym (none_refused (wrong (schema_of C)) i st (none_left i st past)) ∙ left

module _ (C : Contents) (out : List ℕ) where
  -- the contexts st wait at the node i; v is the first of 11 to 13 before it, and l the table of candidates so far
  pub record Left (i : ℕ) (st : List Context) (v : Verdict) (l : List ℕ) : Type 0 where
    pub known : or_else v fine ≡ v
    pub names : Names C i st
    pub roles : or_else v (from C (barred (schema_of C)) i st) ≡ roles_answer C
    pub given : sets l i (roles_from C i st) ≡ sets out 1 (candidates_in C)

  pub begins : (st : List Context) → st ≡ openings C → Left 1 st fine out
  unfolding names_answer roles_answer candidates_in
  begins st e = record { known = refl; names = rw e; roles = rw e; given = rw e }

  -- a node that is not refused for its names
  pub goes_on : (i : ℕ) (c : Context) (st next : List Context) (v : Verdict) (l : List ℕ) (b r : ℕ) (n : Node) → 1 ≤ i → i ≤ length C.nodes → n ≡ item no_node C.nodes i
      → wrong (schema_of C) c n ≡ 0 → b ≡ barred (schema_of C) c n → r ≡ candidates (schema_of C) c n → next ≡ waiting_after (schema_of C) c n st
      → Left i (c ∷ st) v l → Left (i + 1) next (or_else v (answer_at b i)) (set l i r)
  goes_on i c st next v l b r n pos le its good bar can after' left =
      let D : Schema = schema_of C in
      let roles : or_else v (cond (eqb b 0) (from C (barred D) (i + 1) (waiting_after D c n st)) (refused b i)) ≡ roles_answer C =
      rw (turn C (barred D) i c st n pos le its, sym bar) at left.roles in
      let shape : roles_from C i (c ∷ st) ≡ candidates D c n ∷ roles_from C (i + 1) (waiting_after D c n st) =
      tells_at C (candidates D) i c st n pos le its good in
      let given : sets l i (candidates D c n ∷ roles_from C (i + 1) (waiting_after D c n st)) ≡ sets out 1 (candidates_in C) = ap (sets l i) (sym shape) ∙ left.given in
      record {
        known = noted_quiet v b i left.known;
        names = names_on C i c st next n pos le its good (ap (map unmasked) after') left.names;
        roles = ap (λ s. or_else (or_else v (answer_at b i)) (from C (barred D) (i + 1) s)) after' ∙ sym (noted v (from C (barred D) (i + 1) (waiting_after D c n st)) b i) ∙ roles;
        given = ap (λ s. sets (set l i r) (i + 1) (roles_from C (i + 1) s)) after' ∙ ap (λ k. sets (set l i r) k (roles_from C (i + 1) (waiting_after D c n st))) (add-one i)
            ∙ ap (λ x. sets (set l i x) (suc i) (roles_from C (i + 1) (waiting_after D c n st))) can ∙ given;
      }

  -- the pass is over: at a node that is refused for its names, where no context waits, and past the last node
  abbrev pub Over : Verdict → Verdict → List ℕ → Type 0
  Over n r l = (record { names = n; roles = r } ≡ judgement C) × (l ≡ sets out 1 (candidates_in C))

  pub refuses : (i : ℕ) (c : Context) (st : List Context) (v : Verdict) (l : List ℕ) (b : ℕ) (n : Node) → 1 ≤ i → i ≤ length C.nodes → n ≡ item no_node C.nodes i
      → b ≡ wrong (schema_of C) c n → (b ≡ 0 → ⊥) → Left i (c ∷ st) v l → Over (answer_at b i) fine l
  refuses i c st v l b n pos le its e bad left =
      let D : Schema = schema_of C in
      let names = names_refused C i c st b n pos le its e bad left.names in
      let none : roles_from C i (c ∷ st) ≡ [] = tells_none C (candidates D) i c st n pos le its (λ z. bad (e ∙ z)) in
      (rw (sym names, ne_eqb b 0 bad), ap (sets l i) (sym none) ∙ left.given)

  quiet : (v : Verdict) → fine ≡ names_answer C → v ≡ roles_answer C → record { names = fine; roles = v } ≡ judgement C
  quiet v a b = rw (sym a, sym b)

  over : (i : ℕ) (st : List Context) (v : Verdict) (l : List ℕ) → due C i st ≡ [] → Left i st v l → Over fine v l
  over i st v l none left =
      let D : Schema = schema_of C in (
        quiet v (sym (none_refused C (wrong D) i st none) ∙ left.names) (sym left.known ∙ ap (or_else v) (sym (none_refused C (barred D) i st none)) ∙ left.roles),
        ap (sets l i) (sym (none_told C (candidates D) i st none)) ∙ left.given,
      )

  pub runs_out : (i : ℕ) (v : Verdict) (l : List ℕ) → Left i [] v l → Over fine v l
  runs_out i v l left = over i [] v l (none_waits C i) left

  pub ends : (i : ℕ) (st : List Context) (v : Verdict) (l : List ℕ) → length C.nodes < i → Left i st v l → Over fine v l
  ends i st v l past left = over i st v l (none_left C i st past) left

  -- an end and a fork
  pub ends_tree : (i : ℕ) (c : Context) (st : List Context) (v : Verdict) (l : List ℕ) (r : ℕ) (n : Node) → 1 ≤ i → i ≤ length C.nodes → n ≡ item no_node C.nodes i
      → n.tag ≡ 0 → r ≡ (schema_of C).assigned c.user → Left i (c ∷ st) v l → Left (i + 1) st v (set l i r)
  unfolding wrong names_fit kinds_fit barred candidates
  ends_tree i c st v l r n pos le its t can left =
      let on = goes_on i c st st v l 0 r n pos le its (rw t) (rw t) (can ∙ rw t) (rw t) left in
      record { known = left.known; names = on.names; roles = ap (λ x. or_else x (from C (barred (schema_of C)) (i + 1) st)) (sym left.known) ∙ on.roles; given = on.given }

  pub forks : (i : ℕ) (c : Context) (st : List Context) (v : Verdict) (l : List ℕ) (r : ℕ) (n : Node) → 1 ≤ i → i ≤ length C.nodes → n ≡ item no_node C.nodes i
      → n.tag ≡ 1 → r ≡ (schema_of C).assigned c.user → Left i (c ∷ st) v l → Left (i + 1) (c ∷ c ∷ st) v (set l i r)
  unfolding wrong names_fit kinds_fit barred candidates
  forks i c st v l r n pos le its t can left =
      let on = goes_on i c st (c ∷ c ∷ st) v l 0 r n pos le its (rw t) (rw t) (can ∙ rw t) (rw t) left in
      record { known = left.known; names = on.names; roles = ap (λ x. or_else x (from C (barred (schema_of C)) (i + 1) (c ∷ c ∷ st))) (sym left.known) ∙ on.roles; given = on.given }
