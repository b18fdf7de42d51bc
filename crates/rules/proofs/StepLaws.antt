-- The rules at one node, tag by tag, as the code goes by tags.
use Prim.Native.Nat.{ℕ, zero, suc, ◌+◌, ◌≤◌, ◌<◌}
use mathlib.Core.Path.{◌≡◌, refl, sym, ap, ap₂, subst, ◌∙◌}
use mathlib.Core.Bool.{Bool, true, false, cond, ◌&&◌, and-eq-true_iff}
use mathlib.Core.List.{List, [], ◌∷◌, ◌++◌}
use native.Mathlib.Omega.{arith}
use lib.ListN.{length, set}
use lib.Dec.{eqb, ltb}
use borrow.Author.Tests.{eq-eqb, ne_eqb, eqb-true, eqb-false, lt-ltb}
use Rattle.masks.specs.Mask.{has, with, without}
use Rattle.format.specs.Contents.{in_count}
use Rattle.format.specs.declared.Node.{Node}
use Rattle.rules.specs.declared.Point.{Point}
use Rattle.rules.specs.declared.RuleStep.{RuleStep}
use Rattle.rules.specs.Schema.{Schema}
use Rattle.rules.specs.Names.{Bound, named, kind_of, mine}
use Rattle.rules.specs.Rules.{Context, names_fit, kinds_fit, able, wrong, barred, child_of}
use Rattle.rules.specs.Candidates.{candidates}
use Rattle.rules.specs.Kept.{kind_in, owner_in, entry, NameTable, variable, vars_of, look, context_of, graded, something, staying, binding, turning, new_step, compare_step, receive_step, send_step, on_at, off_at, step_of}
use Rattle.rules.proofs.NameLaws.{Held, held_same, held_more, vars_kept, vars_more, said}

-- the definition at each tag
module _ (D : Schema) (t : List ℕ) (p : Point) (n : Node) where
  pub step_repeat : n.tag ≡ 2 → staying p 0 0 p.assigned ≡ step_of D t p n
  unfolding step_of
  step_repeat e = rw e

  pub step_new : {k : ℕ} → D.kinds ≡ k → n.tag ≡ 3 → new_step k p n.f1 ≡ step_of D t p n
  unfolding step_of
  step_new m e = rw (e, m)

  pub step_compare : n.tag ≡ 4 → compare_step p (look t p.bound n.f1) (look t p.bound n.f2) ≡ step_of D t p n
  unfolding step_of
  step_compare e = rw e

  pub step_receive : n.tag ≡ 5 → receive_step D p (look t p.bound n.f1) ≡ step_of D t p n
  unfolding step_of
  step_receive e = rw e

  pub step_send : n.tag ≡ 6 → send_step D p (look t p.bound n.f1) (look t p.bound n.f2) ≡ step_of D t p n
  unfolding step_of
  step_send e = rw e

  pub step_on : {k : ℕ} → D.roles ≡ k → n.tag ≡ 7 → on_at k p n.f1 ≡ step_of D t p n
  unfolding step_of
  step_on m e = rw (e, m)

  pub step_off : {k : ℕ} → D.roles ≡ k → n.tag ≡ 8 → off_at k p n.f1 ≡ step_of D t p n
  unfolding step_of
  step_off m e = rw (e, m)

  pub step_other : {k : ℕ} → D.roles ≡ k → (n.tag ≡ 2 → ⊥) → (n.tag ≡ 3 → ⊥) → (n.tag ≡ 4 → ⊥) → (n.tag ≡ 5 → ⊥) → (n.tag ≡ 6 → ⊥) → (n.tag ≡ 7 → ⊥) → (n.tag ≡ 8 → ⊥)
      → staying p (graded (in_count k n.f1) true) 0 p.assigned ≡ step_of D t p n
  unfolding step_of
  step_other m a b c d e f g =
      rw (m, ne_eqb n.tag 2 a, ne_eqb n.tag 3 b, ne_eqb n.tag 4 c, ne_eqb n.tag 5 d, ne_eqb n.tag 6 e, ne_eqb n.tag 7 f, ne_eqb n.tag 8 g)

-- what is not refused
named_zero : (a b : Bool) → graded a b ≡ 0 → a ≡ true
named_zero true b e = refl
named_zero false b e = let no : ⊥ = omega arith in absurd no

graded_same : (a b d : Bool) → (a ≡ true → b ≡ d) → graded a b ≡ graded a d
graded_same true b d h = ap (graded true) (h refl)
graded_same false b d h = refl

same_context : {u x m y : ℕ} {vs ws : List Bound} → u ≡ x → m ≡ y → vs ≡ ws
    → ◌≡◌ {A = Context} (record { user = u; mask = m; vars = vs }) (record { user = x; mask = y; vars = ws })
same_context a b c = rw (a, b, c)

-- a node whose names are not refused: its refusal for roles, its candidates, and its child's context
pub record Goes (D : Schema) (t : List ℕ) (p : Point) (n : Node) (s : RuleStep) : Type 0 where
  pub barred : s.barred ≡ barred D (context_of t p) n
  pub roles : s.roles ≡ candidates D (context_of t p) n
  pub child : context_of (set t (512 + p.bound) s.binding) s.child ≡ child_of D (context_of t p) n
  pub user : s.child.user ≡ p.user
  pub assigned : s.child.assigned ≡ p.assigned
  pub least : p.bound ≤ s.child.bound
  pub most : s.child.bound ≤ p.bound + 1
  pub held : Held (set t (512 + p.bound) s.binding) s.child.bound

pub record Right (D : Schema) (t : List ℕ) (p : Point) (n : Node) (s : RuleStep) : Type 0 where
  pub wrong : s.wrong ≡ wrong D (context_of t p) n
  pub goes : s.wrong ≡ 0 → Goes D t p n s

nine : (k : ℕ) → 8 < suc (suc (suc (suc (suc (suc (suc (suc (suc k))))))))
nine k = omega arith

above : (k : ℕ) → (k ≡ 0 → ⊥) → (k ≡ 1 → ⊥) → (k ≡ 2 → ⊥) → (k ≡ 3 → ⊥) → (k ≡ 4 → ⊥) → (k ≡ 5 → ⊥) → (k ≡ 6 → ⊥) → (k ≡ 7 → ⊥) → (k ≡ 8 → ⊥) → 8 < k
above zero x0 x1 x2 x3 x4 x5 x6 x7 x8 = absurd (x0 refl)
above (suc zero) x0 x1 x2 x3 x4 x5 x6 x7 x8 = absurd (x1 refl)
above (suc (suc zero)) x0 x1 x2 x3 x4 x5 x6 x7 x8 = absurd (x2 refl)
above (suc (suc (suc zero))) x0 x1 x2 x3 x4 x5 x6 x7 x8 = absurd (x3 refl)
above (suc (suc (suc (suc zero)))) x0 x1 x2 x3 x4 x5 x6 x7 x8 = absurd (x4 refl)
above (suc (suc (suc (suc (suc zero))))) x0 x1 x2 x3 x4 x5 x6 x7 x8 = absurd (x5 refl)
above (suc (suc (suc (suc (suc (suc zero)))))) x0 x1 x2 x3 x4 x5 x6 x7 x8 = absurd (x6 refl)
above (suc (suc (suc (suc (suc (suc (suc zero))))))) x0 x1 x2 x3 x4 x5 x6 x7 x8 = absurd (x7 refl)
above (suc (suc (suc (suc (suc (suc (suc (suc zero)))))))) x0 x1 x2 x3 x4 x5 x6 x7 x8 = absurd (x8 refl)
above (suc (suc (suc (suc (suc (suc (suc (suc (suc k))))))))) x0 x1 x2 x3 x4 x5 x6 x7 x8 = nine k

module _ (D : Schema) (t : List ℕ) (p : Point) (n : Node) (users : D.users ≤ 32) (channels : D.channels ≤ 64) (its : NameTable D D.users D.channels t)
    (long : 512 + p.bound < length t) (held : Held t p.bound) (own : p.assigned ≡ D.assigned p.user) where
  abbrev c : Context
  c = context_of t p

  at : (x : ℕ) → (something (look t p.bound x) ≡ named D c.vars x)
      × (named D c.vars x ≡ true → kind_in (look t p.bound x) ≡ kind_of D c.vars x)
      × (eqb (owner_in (look t p.bound x)) (p.user + 2) ≡ mine D p.user c.vars x)
  at x = said D p.user p.bound t users channels its (omega arith) held x

  kept : (v : ℕ) → vars_of p.user (set t (512 + p.bound) v) p.bound ≡ c.vars
  kept v = vars_kept p.user t p.bound p.bound v (omega arith)

  stays : (w b r : ℕ) → b ≡ barred D c n → r ≡ candidates D c n → c ≡ child_of D c n → Goes D t p n (staying p w b r)
  stays w b r eb er ec = record {
    barred = eb;
    roles = er;
    child = same_context refl refl (kept 0) ∙ ec;
    user = refl;
    assigned = refl;
    least = omega arith;
    most = omega arith;
    held = held_same t p.bound 0 held;
  }

  binds : (w b r v : ℕ) (k : Bound) → b ≡ barred D c n → r ≡ candidates D c n → variable p.user v ≡ k → 0 < owner_in v
      → record { user = p.user; mask = p.mask; vars = c.vars ++ (k ∷ []) } ≡ child_of D c n → Goes D t p n (binding p w b r v)
  binds w b r v k eb er ev pos ec = record {
    barred = eb;
    roles = er;
    child = same_context refl refl (vars_more p.user t p.bound v long ∙ ap (λ (y : Bound). c.vars ++ (y ∷ [])) ev) ∙ ec;
    user = refl;
    assigned = refl;
    least = omega arith;
    most = omega arith;
    held = held_more t p.bound v long pos held;
  }

  turns : (b m : ℕ) → b ≡ barred D c n → p.assigned ≡ candidates D c n → record { user = p.user; mask = m; vars = c.vars } ≡ child_of D c n → Goes D t p n (turning p b m)
  turns b m eb er ec = record {
    barred = eb;
    roles = er;
    child = same_context refl refl (kept 0) ∙ ec;
    user = refl;
    assigned = refl;
    least = omega arith;
    most = omega arith;
    held = held_same t p.bound 0 held;
  }

  on_repeat : n.tag ≡ 2 → Right D t p n (staying p 0 0 p.assigned)
  unfolding wrong names_fit kinds_fit barred candidates child_of
  on_repeat e = record { wrong = rw e; goes = λ z. stays 0 0 p.assigned (rw e) (own ∙ rw e) (rw e) }

  on_new : n.tag ≡ 3 → n.f1 < 65536 → Right D t p n (new_step D.kinds p n.f1)
  unfolding wrong names_fit kinds_fit barred candidates child_of
  on_new e small =
      let low : kind_in (entry n.f1 (p.user + 2)) ≡ n.f1 = omega arith in
      let high : owner_in (entry n.f1 (p.user + 2)) ≡ p.user + 2 = omega arith in
      let new : variable p.user (entry n.f1 (p.user + 2)) ≡ record { sort = n.f1; fresh = true } = rw (low, high, eq-eqb (p.user + 2) (p.user + 2) refl) in
      record { wrong = rw e; goes = λ z. binds _ 0 p.assigned (entry n.f1 (p.user + 2)) _ (rw e) (own ∙ rw e) new (omega (arith, high)) (rw e) }

  on_compare : n.tag ≡ 4 → Right D t p n (compare_step p (look t p.bound n.f1) (look t p.bound n.f2))
  unfolding wrong names_fit kinds_fit barred candidates child_of
  on_compare e =
      let d : ℕ = look t p.bound n.f1 in
      let f : ℕ = look t p.bound n.f2 in
      let one = at n.f1 in
      let two = at n.f2 in
      let kinds : (named D c.vars n.f1 && named D c.vars n.f2) ≡ true → eqb (kind_in d) (kind_in f) ≡ eqb (kind_of D c.vars n.f1) (kind_of D c.vars n.f2) =
      λ z. let q = (and-eq-true_iff (named D c.vars n.f1) (named D c.vars n.f2)).0 z in ap₂ eqb (one.1 q.0) (two.1 q.1) in
      let same = graded_same (named D c.vars n.f1 && named D c.vars n.f2) (eqb (kind_in d) (kind_in f)) (eqb (kind_of D c.vars n.f1) (kind_of D c.vars n.f2)) kinds in
      record {
        wrong = ap₂ (λ x y. graded (x && y) (eqb (kind_in d) (kind_in f))) one.0 two.0 ∙ same ∙ rw e;
        goes = λ z. stays _ 0 p.assigned (rw e) (own ∙ rw e) (rw e);
      }

  on_receive : n.tag ≡ 5 → D.carries (kind_in (look t p.bound n.f1)) < 65536 → Right D t p n (receive_step D p (look t p.bound n.f1))
  unfolding wrong names_fit kinds_fit barred candidates child_of able
  on_receive e small =
      let d : ℕ = look t p.bound n.f1 in
      let one = at n.f1 in
      let low : kind_in (entry (D.carries (kind_in d)) 1) ≡ D.carries (kind_in d) = omega arith in
      let high : owner_in (entry (D.carries (kind_in d)) 1) ≡ 1 = omega arith in
      let got : variable p.user (entry (D.carries (kind_in d)) 1) ≡ record { sort = D.carries (kind_in d); fresh = false } =
      rw (low, high, ne_eqb 1 (p.user + 2) (λ q. let bad : 1 ≡ p.user + 2 = q in omega arith)) in
      let kind : graded (something d) (eqb (owner_in d) (p.user + 2)) ≡ 0 → kind_in d ≡ kind_of D c.vars n.f1 =
      λ z. one.1 (sym one.0 ∙ named_zero (something d) (eqb (owner_in d) (p.user + 2)) z) in
      record {
        wrong = ap₂ graded one.0 one.2 ∙ rw e;
        goes = λ z. binds _ _ _ (entry (D.carries (kind_in d)) 1) _ (rw (e, ← kind z)) (rw (e, ← kind z, own)) got (omega (arith, high)) (rw (e, ← kind z));
      }

  on_send : n.tag ≡ 6 → Right D t p n (send_step D p (look t p.bound n.f1) (look t p.bound n.f2))
  unfolding wrong names_fit kinds_fit barred candidates child_of able
  on_send e =
      let d : ℕ = look t p.bound n.f1 in
      let f : ℕ = look t p.bound n.f2 in
      let one = at n.f1 in
      let two = at n.f2 in
      let fits : Bool = ltb 0 (kind_in d) && eqb (kind_in f) (D.carries (kind_in d)) in
      let due : Bool = ltb 0 (kind_of D c.vars n.f1) && eqb (kind_of D c.vars n.f2) (D.carries (kind_of D c.vars n.f1)) in
      let kinds : (named D c.vars n.f1 && named D c.vars n.f2) ≡ true → fits ≡ due =
      λ z. let q = (and-eq-true_iff (named D c.vars n.f1) (named D c.vars n.f2)).0 z in
      ap₂ (λ x y. ltb 0 x && eqb y (D.carries x)) (one.1 q.0) (two.1 q.1) in
      let kind : graded (something d && something f) fits ≡ 0 → kind_in d ≡ kind_of D c.vars n.f1 =
      λ z. one.1 (sym one.0 ∙ ((and-eq-true_iff (something d) (something f)).0 (named_zero (something d && something f) fits z)).0) in
      record {
        wrong = ap₂ (λ x y. graded (x && y) fits) one.0 two.0 ∙ graded_same (named D c.vars n.f1 && named D c.vars n.f2) fits due kinds ∙ rw e;
        goes = λ z. stays _ _ _ (rw (e, ← kind z)) (rw (e, ← kind z, own)) (rw e);
      }

  on_on : n.tag ≡ 7 → Right D t p n (on_at D.roles p n.f1)
  unfolding wrong names_fit kinds_fit barred candidates child_of
  on_on e = go (in_count D.roles n.f1) refl
    where
      go : (q : Bool) → in_count D.roles n.f1 ≡ q → Right D t p n (cond q (turning p (cond (has p.assigned n.f1) 0 11) (with p.mask n.f1)) (staying p 9 0 0))
      go true q = record { wrong = rw (e, q); goes = λ z. turns _ _ (rw (e, own)) (own ∙ rw e) (rw e) }
      go false q = record { wrong = rw (e, q); goes = λ z. let no : ⊥ = omega (arith, z) in absurd no }

  on_off : n.tag ≡ 8 → Right D t p n (off_at D.roles p n.f1)
  unfolding wrong names_fit kinds_fit barred candidates child_of
  on_off e = go (in_count D.roles n.f1) refl
    where
      go : (q : Bool) → in_count D.roles n.f1 ≡ q → Right D t p n (cond q (turning p (cond (has p.mask n.f1) 0 12) (without p.mask n.f1)) (staying p 9 0 0))
      go true q = record { wrong = rw (e, q); goes = λ z. turns _ _ (rw e) (own ∙ rw e) (rw e) }
      go false q = record { wrong = rw (e, q); goes = λ z. let no : ⊥ = omega (arith, z) in absurd no }

  on_other : 8 < n.tag → Right D t p n (staying p (graded (in_count D.roles n.f1) true) 0 p.assigned)
  unfolding wrong names_fit kinds_fit barred candidates child_of
  on_other e =
      let no : (k : ℕ) → k ≤ 8 → eqb n.tag k ≡ false = λ k le. ne_eqb n.tag k (λ q. let z : n.tag ≡ k = q in omega arith) in
      let t3 = no 3 (omega arith) in
      let t4 = no 4 (omega arith) in
      let t5 = no 5 (omega arith) in
      let t6 = no 6 (omega arith) in
      let t7 = no 7 (omega arith) in
      let t8 = no 8 (omega arith) in
      record { wrong = rw (t3, t4, t5, t6, lt-ltb 6 n.tag (omega arith)); goes = λ z. stays _ 0 p.assigned (rw (t5, t6, t7, t8)) (own ∙ rw (t5, t6)) (rw (t3, t5, t7, t8)) }

  abbrev Done : Type 0
  Done = Right D t p n (step_of D t p n)

  -- all of them: neither an end nor a fork
  pub step_right : (n.tag ≡ 0 → ⊥) → (n.tag ≡ 1 → ⊥) → n.f1 < 65536 → (n.tag ≡ 5 → D.carries (kind_in (look t p.bound n.f1)) < 65536) → Right D t p n (step_of D t p n)
  step_right a b small carried = go2 (eqb n.tag 2) refl
    where
      moved : (s : RuleStep) → s ≡ step_of D t p n → Right D t p n s → Done
      moved s e r = subst (λ (x : RuleStep). Right D t p n x) e r

      go8 : (n.tag ≡ 2 → ⊥) → (n.tag ≡ 3 → ⊥) → (n.tag ≡ 4 → ⊥) → (n.tag ≡ 5 → ⊥) → (n.tag ≡ 6 → ⊥) → (n.tag ≡ 7 → ⊥) → (q : Bool) → eqb n.tag 8 ≡ q → Done
      go8 x2 x3 x4 x5 x6 x7 true e = let y = eqb-true n.tag 8 e in moved _ (step_off D t p n refl y) (on_off y)
      go8 x2 x3 x4 x5 x6 x7 false e =
          let x8 = eqb-false n.tag 8 e in
          moved _ (step_other D t p n refl x2 x3 x4 x5 x6 x7 x8) (on_other (above n.tag a b x2 x3 x4 x5 x6 x7 x8))

      go7 : (n.tag ≡ 2 → ⊥) → (n.tag ≡ 3 → ⊥) → (n.tag ≡ 4 → ⊥) → (n.tag ≡ 5 → ⊥) → (n.tag ≡ 6 → ⊥) → (q : Bool) → eqb n.tag 7 ≡ q → Done
      go7 x2 x3 x4 x5 x6 true e = let y = eqb-true n.tag 7 e in moved _ (step_on D t p n refl y) (on_on y)
      go7 x2 x3 x4 x5 x6 false e = go8 x2 x3 x4 x5 x6 (eqb-false n.tag 7 e) (eqb n.tag 8) refl

      go6 : (n.tag ≡ 2 → ⊥) → (n.tag ≡ 3 → ⊥) → (n.tag ≡ 4 → ⊥) → (n.tag ≡ 5 → ⊥) → (q : Bool) → eqb n.tag 6 ≡ q → Done
      go6 x2 x3 x4 x5 true e = let y = eqb-true n.tag 6 e in moved _ (step_send D t p n y) (on_send y)
      go6 x2 x3 x4 x5 false e = go7 x2 x3 x4 x5 (eqb-false n.tag 6 e) (eqb n.tag 7) refl

      go5 : (n.tag ≡ 2 → ⊥) → (n.tag ≡ 3 → ⊥) → (n.tag ≡ 4 → ⊥) → (q : Bool) → eqb n.tag 5 ≡ q → Done
      go5 x2 x3 x4 true e = let y = eqb-true n.tag 5 e in moved _ (step_receive D t p n y) (on_receive y (carried y))
      go5 x2 x3 x4 false e = go6 x2 x3 x4 (eqb-false n.tag 5 e) (eqb n.tag 6) refl

      go4 : (n.tag ≡ 2 → ⊥) → (n.tag ≡ 3 → ⊥) → (q : Bool) → eqb n.tag 4 ≡ q → Done
      go4 x2 x3 true e = let y = eqb-true n.tag 4 e in moved _ (step_compare D t p n y) (on_compare y)
      go4 x2 x3 false e = go5 x2 x3 (eqb-false n.tag 4 e) (eqb n.tag 5) refl

      go3 : (n.tag ≡ 2 → ⊥) → (q : Bool) → eqb n.tag 3 ≡ q → Done
      go3 x2 true e = let y = eqb-true n.tag 3 e in moved _ (step_new D t p n refl y) (on_new y small)
      go3 x2 false e = go4 x2 (eqb-false n.tag 3 e) (eqb n.tag 4) refl

      go2 : (q : Bool) → eqb n.tag 2 ≡ q → Done
      go2 true e = let y = eqb-true n.tag 2 e in moved _ (step_repeat D t p n y) (on_repeat y)
      go2 false e = go3 (eqb-false n.tag 2 e) (eqb n.tag 3) refl
