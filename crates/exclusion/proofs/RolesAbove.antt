-- In a file that passes the check: a role in the active set at a node comes from an on step above it, and is active
-- until the last send or receive that needs it.
use Prim.Native.Nat.{ℕ, suc, ◌-◌, ◌≤◌}
use mathlib.Core.Path.{◌≡◌, refl, sym, ap, ◌∙◌}
use mathlib.Core.Logic.{◌⊎◌, inl, inr}
use mathlib.Core.Bool.{Bool, true, false, false≢true}
use mathlib.Core.List.{List}
use native.Mathlib.Omega.{arith}
use lib.Dec.{eqb, leb, ltb}
use lib.ListN.{length, get_or}
use borrow.Author.Tests.{eqb-true, eqb-false, leb-true, leb-false, ltb-true, ltb-false}
use Rattle.masks.specs.Mask.{has, with, Within}
use Rattle.masks.proofs.Laws.{has_none, has_with_other}
use Rattle.format.specs.Answers.{fine}
use Rattle.format.specs.Contents.{Contents, contents_of, item, no_session, no_node}
use Rattle.format.specs.declared.Node.{Node}
use Rattle.checking.specs.Check.{reading_names, checking}
use Rattle.rules.specs.declared.Way.{Way}
use Rattle.rules.specs.declared.Way.TheVariants.{Sends, Receives}
use Rattle.rules.specs.Schema.{Schema, schema_of}
use Rattle.rules.specs.Names.{kind_of}
use Rattle.rules.specs.Rules.{Context, able, child_of}
use Rattle.rules.specs.Checking.{openings}
use Rattle.rules.proofs.PermittedRoles.{able_iff}
use Rattle.reading_exact.specs.File.{InCount}
use Rattle.reading_exact.specs.Refusals.{nth, OneChild, root, child, first_child, second_child}
use Rattle.reading_exact.proofs.RecordWords.{item_out}
use Rattle.checking_exact.specs.Faults.{InContext, nowhere}
use Rattle.running_exact.proofs.FileNodes.{openings_length, opening_get, roles_clear}
use Rattle.running_exact.proofs.NodeSteps.{receive_barred, send_barred}
use Rattle.running_exact.proofs.RunSafe.{passes_names}
use Rattle.seats.specs.SeatOrder.{InTreeOf}
use Rattle.seats.proofs.StepOwners.{fewer}
use Rattle.exclusion.specs.Exclusion.{AtOrBelow, here, by_child, by_first, by_second, Exchange, NoOnFrom}
use Rattle.exclusion.specs.Exclusion.{PartDone, SwitchesOn}
use Rattle.exclusion.proofs.NodesBelow.{below_join}

-- the role y was active above node n, or n switches it on
abbrev Before : ℕ → Node → ℕ → Type 0
Before m n y = (has m y ≡ true) ⊎ ((n.tag ≡ 7) × (n.f1 ≡ y))

-- what is active at a child was so before
child_mask : (D : Schema) (c : Context) (n : Node) (y : ℕ) → has (child_of D c n).mask y ≡ true → Before c.mask n y
unfolding child_of
child_mask D c n y = go (eqb n.tag 3) refl (eqb n.tag 5) refl (eqb n.tag 7) refl (eqb n.tag 8) refl
  where
    added : n.tag ≡ 7 → has (with c.mask n.f1) y ≡ true → Before c.mask n y
    added t h = by (eqb n.f1 y) refl
      where
        by : (b : Bool) → eqb n.f1 y ≡ b → Before c.mask n y
        by true z = inr (t, eqb-true n.f1 y z)
        by false z = inl (sym (has_with_other c.mask n.f1 y (eqb-false n.f1 y z)) ∙ h)

    go : (p : Bool) → eqb n.tag 3 ≡ p → (q : Bool) → eqb n.tag 5 ≡ q → (u : Bool) → eqb n.tag 7 ≡ u
        → (v : Bool) → eqb n.tag 8 ≡ v → has (child_of D c n).mask y ≡ true → Before c.mask n y
    go true e q f u g v d h = inl (rw e at h)
    go false e true f u g v d h = inl (rw (e, f) at h)
    go false e false f true g v d h = added (eqb-true n.tag 7 g) (rw (e, f, g) at h)
    go false e false f false g true d h = inl (fewer c.mask n.f1 y (rw (e, f, g, d) at h))
    go false e false f false g false d h = inl (rw (e, f, g, d) at h)

-- a node with a tag other than 0 is there
pub there : (ns : List Node) (n : ℕ) → 1 ≤ (nth ns n).tag → InCount (length ns) n
there ns n l = go (ltb 0 n) refl (leb n (length ns)) refl
  where
    out : (InCount (length ns) n → ⊥) → InCount (length ns) n
    out h = let never : ⊥ = omega (arith, l, ap (λ (m : Node). m.tag) (item_out no_node ns n h)) in absurd never

    go : (p : Bool) → ltb 0 n ≡ p → (q : Bool) → leb n (length ns) ≡ q → InCount (length ns) n
    go true e true d = (ltb-true 0 n e, leb-true n (length ns) d)
    go true e false d = out (λ c. omega (arith, c.1, leb-false n (length ns) d))
    go false e q d = out (λ c. omega (arith, c.0, ltb-false 0 n e))

-- nothing but its own role is active at an on step
abbrev pub LoneOns : Contents → Type 0
LoneOns C =
    (n : ℕ) (c : Context) → InContext (schema_of C) C.nodes (openings C) n c → (nth C.nodes n).tag ≡ 7
    → (y : ℕ) → has c.mask y ≡ true → y ≡ (nth C.nodes n).f1

module _ (g : List ℕ) (passes : checking g ≡ fine) where
  abbrev C : Contents
  C = contents_of g

  abbrev D : Schema
  D = schema_of C

  abbrev ns : List Node
  ns = C.nodes

  abbrev In : ℕ → Context → Type 0
  In = InContext D ns (openings C)

  clean : reading_names g ≡ fine
  clean = passes_names g passes

  -- where a role in the active set comes from: an on of it, in the same session's tree, above the node
  abbrev Comes : ℕ → ℕ → Context → Type 0
  Comes k j c = (y : ℕ) → has c.mask y ≡ true → (a : ℕ) × SwitchesOn C k y a × AtOrBelow ns (suc a) j

  lower : (k i j : ℕ) (c : Context) → AtOrBelow ns i j → Comes k i c → Comes k j c
  lower k i j c l from y w = let (a, on, m) = from y w in (a, on, below_join m l)

  pub come_from : {j k : ℕ} → InTreeOf C k j → (item no_session C.sessions k).mask ≡ 0
      → (c : Context) × In j c × Comes k j c
  come_from (root {k = k} {i = i} c b) bare =
      (get_or (openings C) (k - 1) nowhere, root (c.0, omega (arith, c.1, openings_length C.sessions)) b, none)
    where
      none : Comes k i (get_or (openings C) (k - 1) nowhere)
      none y h =
          let z : (get_or (openings C) (k - 1) nowhere).mask ≡ 0 =
          ap (λ (d : Context). d.mask) (opening_get C.sessions k c.0) ∙ bare in
          absurd (false≢true (sym (has_none y) ∙ (rw z at h)))
  come_from {k = k} (child {i = i} n o r) bare =
      let (c, h, from) = come_from r bare in
      (child_of D c (nth ns i), child n o h, λ y w. go c from y (child_mask D c (nth ns i) y w))
    where
      go : (c : Context) → Comes k i c → (y : ℕ) → Before c.mask (nth ns i) y
          → (a : ℕ) × SwitchesOn C k y a × AtOrBelow ns (suc a) (suc i)
      go c from y (inl w) = lower k i (suc i) c (by_child n o here) from y w
      go c from y (inr (t, e)) = (i, record { inside = r; tag = t; role = e }, here)
  come_from {k = k} (first_child {i = i} n t r) bare =
      let (c, h, from) = come_from r bare in
      (c, first_child n t h, lower k i (suc i) c (by_first n t here) from)
  come_from {k = k} (second_child {i = i} {k = m} n t r e) bare =
      let (c, h, from) = come_from r bare in
      (c, second_child n t h e, lower k i m c (by_second n t e here) from)

  -- at a send or receive some role is active
  able_some : (m : ℕ) (w : Way) (q : ℕ) → (able D m w q ≡ false → ⊥) → (y : ℕ) × (has m y ≡ true)
  able_some m w q not = go (able D m w q) refl
    where
      go : (b : Bool) → able D m w q ≡ b → (y : ℕ) × (has m y ≡ true)
      go true e = let (y, _, h, _) = (able_iff D m w q).0 e in (y, h)
      go false e = absurd (not e)

  pub some_role : (n : ℕ) (c : Context) → In n c → Exchange (nth ns n) → (y : ℕ) × (has c.mask y ≡ true)
  some_role n c h (inl t) =
      let clear = roles_clear g clean passes n c (there ns n (omega (arith, t)), h) in
      able_some c.mask Receives (kind_of D c.vars (nth ns n).f1)
      (λ e. omega (arith, receive_barred D c (nth ns n) t e, clear))
  some_role n c h (inr t) =
      let clear = roles_clear g clean passes n c (there ns n (omega (arith, t)), h) in
      able_some c.mask Sends (kind_of D c.vars (nth ns n).f1)
      (λ e. omega (arith, send_barred D c (nth ns n) t e, clear))

  -- with no on step on the way to it, it is active before it too
  kept_role : {j n : ℕ} → AtOrBelow ns j n → (c : Context) → In j c → NoOnFrom ns j n → Exchange (nth ns n)
      → (y : ℕ) × (has c.mask y ≡ true)
  kept_role {j} here c h stop x = some_role j c h x
  kept_role {j} {n} (by_child i o l) c h stop x =
      let (y, w) = kept_role l (child_of D c (nth ns j)) (child i o h) (λ b g u t. stop b (by_child i o g) u t) x in
      (y, go y (child_mask D c (nth ns j) y w))
    where
      go : (y : ℕ) → Before c.mask (nth ns j) y → has c.mask y ≡ true
      go y (inl w) = w
      go y (inr (t, e)) = absurd (stop j here (by_child i o l) t)
  kept_role (by_first i t l) c h stop x = kept_role l c (first_child i t h) (λ b g u z. stop b (by_first i t g) u z) x
  kept_role (by_second i t e l) c h stop x =
      kept_role l c (second_child i t h e) (λ b g u z. stop b (by_second i t e g) u z) x

  -- and nothing else comes in
  none_added : {i j n : ℕ} → AtOrBelow ns i j → AtOrBelow ns j n → (c : Context) → In i c → NoOnFrom ns i n
      → (d : Context) × In j d × Within d.mask c.mask
  none_added here ahead c h stop = (c, h, λ y w. w)
  none_added {i} {n = n} (by_child m o l) ahead c h stop =
      let after : NoOnFrom ns (suc i) n = λ b g u t. stop b (by_child m o g) u t in
      let (d, k, w) = none_added l ahead (child_of D c (nth ns i)) (child m o h) after in
      (d, k, λ y v. go y (child_mask D c (nth ns i) y (w y v)))
    where
      go : (y : ℕ) → Before c.mask (nth ns i) y → has c.mask y ≡ true
      go y (inl w) = w
      go y (inr (t, e)) = absurd (stop i here (by_child m o (below_join l ahead)) t)
  none_added (by_first m t l) ahead c h stop =
      none_added l ahead c (first_child m t h) (λ b g u z. stop b (by_first m t g) u z)
  none_added (by_second m t e l) ahead c h stop =
      none_added l ahead c (second_child m t h e) (λ b g u z. stop b (by_second m t e g) u z)

  -- So where nothing else is active at an on step, its role is active from there to each send or receive below it
  -- that no other on step parts from it.
  pub held_through : LoneOns C → (k a x : ℕ) → (item no_session C.sessions k).mask ≡ 0 → SwitchesOn C k x a
      → (j : ℕ) → (U : PartDone ns a j) → NoOnFrom ns (suc a) U.next
      → (c : Context) × In j c × (has c.mask x ≡ true)
  held_through lone k a x bare on j U stop =
      let (c, h, _) = come_from on.inside bare in
      let one : OneChild (nth ns a).tag = (omega (arith, on.tag), omega (arith, on.tag)) in
      let below : In (suc a) (child_of D c (nth ns a)) = child (there ns a (omega (arith, on.tag))) one h in
      let (d, g, within) = none_added U.done U.ahead (child_of D c (nth ns a)) below stop in
      let (y, w) = kept_role U.ahead d g (λ b l u. stop b (below_join U.done l) u) U.exchange in
      let same : y ≡ x = go c h y (child_mask D c (nth ns a) y (within y w)) in
      (d, g, rw same at w)
    where
      go : (c : Context) → In a c → (y : ℕ) → Before c.mask (nth ns a) y → y ≡ x
      go c h y (inl w) = lone a c h on.tag y w ∙ on.role
      go c h y (inr (t, e)) = sym e ∙ on.role
