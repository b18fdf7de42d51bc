-- The role for which a choice may ask for a seat.
use Prim.Native.Nat.{ℕ, zero, suc, ◌+◌, ◌-◌, ◌≤◌}
use mathlib.Core.Path.{◌≡◌, refl, sym, ap, ap₂, ◌∙◌}
use mathlib.Core.Bool.{Bool, true, false, not, ◌&&◌, and-eq-true_iff, false≢true}
use mathlib.Core.List.{List, [], ◌∷◌}
use native.Mathlib.Omega.{arith}
use lib.Dec.{eqb, ltb}
use lib.ListN.{length, get_or}
use borrow.Author.Tests.{eq-eqb, ne_eqb, eqb-true, eqb-false, ltb-true, ltb-false, not-true, not-false}
use Rattle.masks.specs.Mask.{has}
use Rattle.format.specs.Contents.{Contents, item, no_node, in_count}
use Rattle.format.specs.declared.Node.{Node}
use Rattle.format.proofs.ContentsLaws.{in_count_iff, in_count_lem, item_zero, item_past}
use Rattle.steps.specs.declared.Thread.{Thread}
use Rattle.steps.specs.Choice.{State, thread_at}
use Rattle.steps.specs.Kept.{state_in}
use Rattle.steps.specs.Records.{thread_in, record_at}
use Rattle.steps.specs.Beside.{thread_count}
use Rattle.steps.proofs.TableLaws.{threads_length, thread_get}
use Rattle.reading_exact.specs.File.{InCount}
use Rattle.seats.specs.Seats.{Limited, limited_of, seats_in, SeatedState, sits, thread_node, owner_of, asks_seat}
use Rattle.seats.proofs.SeatedTold.{asks_iff}
use Rattle.seated.specs.SeatedTables.{role_asked}

-- the seats of a role, as code looks them up
pub seats_none : (table : List ℕ) (r : ℕ) → r ≡ 0 → 0 ≡ seats_in table r
seats_none table r e = ap (seats_in table) (sym e)

pub seats_at : (table : List ℕ) (r at : ℕ) → (r ≡ 0 → ⊥) → suc at ≡ r → get_or table at 0 ≡ seats_in table r
seats_at table r at z e = ap (seats_in table) e

pub seats_past : (table : List ℕ) (r at : ℕ) → suc at ≡ r → length table ≤ at → 0 ≡ seats_in table r
seats_past table r at e l = sym (none table at l) ∙ ap (seats_in table) e
  where
    none : (t : List ℕ) (j : ℕ) → length t ≤ j → get_or t j 0 ≡ 0
    none [] j h = refl
    none (x ∷ t) zero h = let no : ⊥ = omega (arith, h) in absurd no
    none (x ∷ t) (suc j) h = none t j (omega (arith, h))

-- a choice that stands at an on of a role with a limit
pub record Asked (L : Limited) (s : State) (i p r : ℕ) : Type 0 where
  pub thread : (1 ≤ i) × (i ≤ length s.threads)
  pub alone : p ≡ 0
  pub tag : (L.clinic.node (thread_at s i).node).tag ≡ 7
  pub assigned : has (L.clinic.schema.assigned (thread_at s i).user) (L.clinic.node (thread_at s i).node).f1 ≡ true
  pub limited : 1 ≤ L.seats (L.clinic.node (thread_at s i).node).f1
  pub role : r ≡ (L.clinic.node (thread_at s i).node).f1

module _ (L : Limited) (s : State) (i p : ℕ) where
  abbrev node : Node
  node = L.clinic.node (thread_at s i).node

  abbrev mine : Bool
  mine = has (L.clinic.schema.assigned (thread_at s i).user) node.f1

  pub role_out : (in_count (length s.threads) i && eqb p 0) ≡ false → 0 ≡ role_asked L s i p
  unfolding role_asked
  role_out e = sym (rw e)

  pub role_other : (in_count (length s.threads) i && eqb p 0) ≡ true → eqb node.tag 7 ≡ false → 0 ≡ role_asked L s i p
  unfolding role_asked
  role_other e f = sym (rw (e, f))

  pub role_stranger : (in_count (length s.threads) i && eqb p 0) ≡ true → eqb node.tag 7 ≡ true → mine ≡ false → 0 ≡ role_asked L s i p
  unfolding role_asked
  role_stranger e f g = sym (rw (e, f, g))

  pub role_free : (in_count (length s.threads) i && eqb p 0) ≡ true → eqb node.tag 7 ≡ true → mine ≡ true → eqb (L.seats node.f1) 0 ≡ true → 0 ≡ role_asked L s i p
  unfolding role_asked
  role_free e f g h = sym (rw (e, f, g, h))

  pub role_named : (in_count (length s.threads) i && eqb p 0) ≡ true → eqb node.tag 7 ≡ true → mine ≡ true → eqb (L.seats node.f1) 0 ≡ false → node.f1 ≡ role_asked L s i p
  unfolding role_asked
  role_named e f g h = sym (rw (e, f, g, h))

  pub role_some : (r : ℕ) → r ≡ role_asked L s i p → (r ≡ 0 → ⊥) → Asked L s i p r
  role_some r e z = go1 (in_count (length s.threads) i && eqb p 0) refl
    where
      go4 : (in_count (length s.threads) i && eqb p 0) ≡ true → eqb node.tag 7 ≡ true → mine ≡ true → (b : Bool) → eqb (L.seats node.f1) 0 ≡ b → Asked L s i p r
      go4 a t m true d = absurd (z (e ∙ sym (role_free a t m d)))
      go4 a t m false d =
          let both = (and-eq-true_iff (in_count (length s.threads) i) (eqb p 0)).0 a in
          let pos : (L.seats node.f1 ≡ 0) → ⊥ = eqb-false (L.seats node.f1) 0 d in
          record {
            thread = in_count_lem (length s.threads) i both.0;
            alone = eqb-true p 0 both.1;
            tag = eqb-true node.tag 7 t;
            assigned = m;
            limited = omega (arith, pos);
            role = e ∙ sym (role_named a t m d);
          }

      go3 : (in_count (length s.threads) i && eqb p 0) ≡ true → eqb node.tag 7 ≡ true → (b : Bool) → mine ≡ b → Asked L s i p r
      go3 a t true m = go4 a t m (eqb (L.seats node.f1) 0) refl
      go3 a t false m = absurd (z (e ∙ sym (role_stranger a t m)))

      go2 : (in_count (length s.threads) i && eqb p 0) ≡ true → (b : Bool) → eqb node.tag 7 ≡ b → Asked L s i p r
      go2 a true t = go3 a t mine refl
      go2 a false t = absurd (z (e ∙ sym (role_other a t)))

      go1 : (b : Bool) → (in_count (length s.threads) i && eqb p 0) ≡ b → Asked L s i p r
      go1 true a = go2 a (eqb node.tag 7) refl
      go1 false a = absurd (z (e ∙ sym (role_out a)))

-- what stands at a number out of count is no on
node_in : (ns : List Node) (j : ℕ) → (item no_node ns j).tag ≡ 7 → InCount (length ns) j
node_in ns zero e = let no : ⊥ = omega (arith, sym (ap (λ (x : Node). x.tag) (item_zero no_node ns)) ∙ e) in absurd no
node_in ns (suc j) e = go (ltb (length ns) (suc j)) refl
  where
    go : (b : Bool) → ltb (length ns) (suc j) ≡ b → InCount (length ns) (suc j)
    go true h = let no : ⊥ = omega (arith, sym (ap (λ (x : Node). x.tag) (item_past no_node ns (suc j) (ltb-true (length ns) (suc j) h))) ∙ e) in absurd no
    go false h = (omega arith, ltb-false (length ns) (suc j) h)

-- a choice asks for a seat where it stands at such an on and its session doesn't have the role
module _ (C : Contents) (table : List ℕ) (S : SeatedState) (i p : ℕ) where
  abbrev L : Limited
  L = limited_of C table

  pub asks_none : role_asked L S.state i p ≡ 0 → asks_seat L S i p ≡ false
  asks_none e = go (asks_seat L S i p) refl
    where
      go : (b : Bool) → asks_seat L S i p ≡ b → b ≡ false
      go false h = refl
      go true h =
          let A = (asks_iff L S i p).0 h in
          let there = (and-eq-true_iff (in_count (length S.state.threads) i) (eqb p 0)).1 ((in_count_iff (length S.state.threads) i).1 A.thread, eq-eqb p 0 A.alone) in
          let f : (thread_node L S i).f1 ≡ 0 =
          role_named L S.state i p there (eq-eqb (thread_node L S i).tag 7 A.on) A.assigned
          (ne_eqb (L.seats (thread_node L S i).f1) 0 (λ z. omega (arith, z, A.limited))) ∙ e in
          let no : ⊥ = omega (arith, A.limited, ap (seats_in table) f) in
          absurd no

  pub asks_some : (r : ℕ) → Asked L S.state i p r → asks_seat L S i p ≡ not (sits S (owner_of S i) r)
  asks_some r N = go (sits S (owner_of S i) r) refl
    where
      same : sits S (owner_of S i) r ≡ sits S (owner_of S i) (thread_node L S i).f1
      same = ap (sits S (owner_of S i)) N.role

      not_so : sits S (owner_of S i) r ≡ true → (b : Bool) → asks_seat L S i p ≡ b → b ≡ false
      not_so h false a = refl
      not_so h true a = absurd (false≢true (sym ((asks_iff L S i p).0 a).without ∙ sym same ∙ h))

      go : (b : Bool) → sits S (owner_of S i) r ≡ b → asks_seat L S i p ≡ not b
      go true h = not_so h (asks_seat L S i p) refl
      go false h =
          (asks_iff L S i p).1
          (record {
            thread = N.thread;
            node = node_in C.nodes (thread_at S.state i).node N.tag;
            alone = N.alone;
            on = N.tag;
            assigned = N.assigned;
            limited = N.limited;
            without = sym same ∙ h;
          })

-- the role, by what code reads
module _ (C : Contents) (table w b : List ℕ) (i p : ℕ) (t : Bool) (count : ℕ) (et : t ≡ in_count count i) (ec : count ≡ thread_count b) where
  abbrev limits : Limited
  limits = limited_of C table

  abbrev s : State
  s = state_in w b

  test : (t && eqb p 0) ≡ (in_count (length s.threads) i && eqb p 0)
  test = ap (λ (x : Bool). x && eqb p 0) (et ∙ ap (λ (x : ℕ). in_count x i) (ec ∙ sym (threads_length w 0 (thread_count b))))

  pub asked_out : not (t && eqb p 0) ≡ true → 0 ≡ role_asked limits s i p
  asked_out h = role_out limits s i p (sym test ∙ not-true (t && eqb p 0) h)

  pub asked_there : not (t && eqb p 0) ≡ false → (1 ≤ i) × (i ≤ thread_count b)
  asked_there h =
      let (one, most) = in_count_lem (length s.threads) i ((and-eq-true_iff (in_count (length s.threads) i) (eqb p 0)).0 (sym test ∙ not-false (t && eqb p 0) h)).0 in
      (one, omega (arith, most, threads_length w 0 (thread_count b)))

  module _ (yes : not (t && eqb p 0) ≡ false) (at : ℕ) (own : Thread) (nd : Node) (ea : at ≡ i - 1) (eo : own ≡ thread_in w (record_at at)) (en : nd ≡ item no_node C.nodes own.node) where
    in_list : (in_count (length s.threads) i && eqb p 0) ≡ true
    in_list = sym test ∙ not-false (t && eqb p 0) yes

    own_is : own ≡ thread_at s i
    own_is =
        let e : record_at at ≡ 0 + record_at (i - 1) = omega (arith, ea) in
        eo ∙ ap (thread_in w) e ∙ sym (thread_get w 0 (thread_count b) (i - 1) (omega (arith, (asked_there yes).0, (asked_there yes).1)))

    node_is : nd ≡ limits.clinic.node (thread_at s i).node
    node_is = en ∙ ap (λ (x : Thread). item no_node C.nodes x.node) own_is

    pub asked_other : (nd.tag ≡ 7 → ⊥) → 0 ≡ role_asked limits s i p
    asked_other h = role_other limits s i p in_list (ap (λ (x : Node). eqb x.tag 7) (sym node_is) ∙ ne_eqb nd.tag 7 h)

    module _ (seven : nd.tag ≡ 7) (roles : ℕ) (h : Bool) (er : roles ≡ item 0 C.users own.user) (eh : h ≡ has roles nd.f1) where
      on : eqb (limits.clinic.node (thread_at s i).node).tag 7 ≡ true
      on = ap (λ (x : Node). eqb x.tag 7) (sym node_is) ∙ eq-eqb nd.tag 7 seven

      mine_is : has (limits.clinic.schema.assigned (thread_at s i).user) (limits.clinic.node (thread_at s i).node).f1 ≡ h
      mine_is = sym (eh ∙ ap₂ (λ (x : ℕ) (y : Node). has x y.f1) (er ∙ ap (λ (x : Thread). item 0 C.users x.user) own_is) node_is)

      pub asked_stranger : not h ≡ true → 0 ≡ role_asked limits s i p
      asked_stranger n = role_stranger limits s i p in_list on (mine_is ∙ not-true h n)

      module _ (mine : not h ≡ false) (limit : ℕ) (el : limit ≡ seats_in table nd.f1) where
        limit_is : seats_in table (limits.clinic.node (thread_at s i).node).f1 ≡ limit
        limit_is = sym (el ∙ ap (λ (x : Node). seats_in table x.f1) node_is)

        pub asked_free : limit ≡ 0 → 0 ≡ role_asked limits s i p
        asked_free z = role_free limits s i p in_list on (mine_is ∙ not-false h mine) (eq-eqb _ 0 (limit_is ∙ z))

        pub asked_named : (limit ≡ 0 → ⊥) → nd.f1 ≡ role_asked limits s i p
        asked_named z =
            ap (λ (x : Node). x.f1) node_is ∙ role_named limits s i p in_list on (mine_is ∙ not-false h mine) (ne_eqb (seats_in table (limits.clinic.node (thread_at s i).node).f1) 0 (λ q. z (sym limit_is ∙ q)))
