-- What is kept of a node gives its row, and the state taken after each state of its parent.
use Prim.Native.Nat.{ℕ, zero, suc, ◌+◌, ◌*◌, ◌-◌, ◌/◌, ◌%◌, ◌^◌, ◌≤◌, ◌<◌}
use mathlib.Core.Path.{◌≡◌, refl, sym, ap, ap₂, ◌∙◌}
use mathlib.Core.Logic.{◌⊎◌, inl, inr}
use mathlib.Core.Bool.{Bool, true, false, cond, ◌&&◌, ◌||◌}
use mathlib.Core.List.{List}
use native.Mathlib.Omega.{arith}
use lib.Dec.{eqb, ltb}
use lib.ListN.{get_or}
use borrow.Author.Tests.{eqb-true, eqb-false, eq-eqb, ne_eqb, ltb-true, ltb-false, lt-ltb, le-ltb}
use Rattle.masks.specs.Mask.{has}
use Rattle.masks.proofs.Bits.{bit}
use Rattle.optimum.specs.Optimum.{scan}
use Rattle.optimum.proofs.Optimal.{Least, scan_least}
use Rattle.states.specs.States.{Label, needs, suits, idle, row_of, taken}
use Rattle.states.specs.Kept.{extra, rank, floor, peak, gather, stays, word_by, state_after}
use Rattle.states.proofs.ShiftLaws.{bit_below, bit_even_zero, bit_next}
use Rattle.states.proofs.BitLaws.{Peak, highest_is, some_bit, gather_lt, gather_bit}
use Rattle.states.proofs.KeptLaws.{stay, enter, least_unique, taken_is, row_is}

-- state 0 against send and receive
needs_late : (tag : ℕ) → needs tag ≡ true → 4 < tag
needs_late tag h = go (eqb tag 5) refl (eqb tag 6) refl h
  where
    go : (x : Bool) → eqb tag 5 ≡ x → (y : Bool) → eqb tag 6 ≡ y → (x || y) ≡ true → 4 < tag
    go true e y g h = omega (arith, eqb-true tag 5 e)
    go false e true g h = omega (arith, eqb-true tag 6 g)
    go false e false g h =
        let z : ◌≡◌ {A = ℕ} 0 1 = ap (λ b. cond b 1 0) h in
        let no_way : ⊥ = omega (arith, z) in
        absurd no_way

-- a node: its children cost kids s in state s, and save k q in the state q + 1; us has what the states are worth
module _ (l : Label) (kids k : ℕ → ℕ) (us : List ℕ) (fits : l.roles < 65536) (served : needs l.tag ≡ true → l.roles ≡ 0 → ⊥)
    (sums : (q : ℕ) → q < 16 → (kids (suc q) + k q ≡ kids 0) × (k q ≤ 2050))
    (worths : (q : ℕ) → q < 16 → get_or us q 0 ≡ cond (suits l (suc q)) (k q + extra l.tag) 0) where
  abbrev u : ℕ → ℕ
  u q = get_or us q 0

  abbrev high : ℕ
  high = peak l.tag us

  abbrev e : ℕ
  e = 17 - high % 18

  abbrev c : ℕ
  c = kids 0 + 2051 - high / 18

  i : Peak (floor l.tag) 16 (rank us) high
  i = highest_is (floor l.tag) 16 (rank us)

  high_least : 18467 ≤ high
  high_least = omega (arith, i.above, go (needs l.tag))
    where
      go : (b : Bool) → 1025 ≤ cond b 1025 2051
      go true = omega arith
      go false = omega arith

  not-zero : (q : ℕ) → eqb (suc q) 0 ≡ false
  not-zero q = ne_eqb (suc q) 0 (λ z. let z' : suc q ≡ 0 = z in omega arith)

  idle_extra : (q : ℕ) → idle l (suc q) + extra l.tag ≡ 1026
  idle_extra q = rw (not-zero q) (go (ltb 4 l.tag))
    where
      go : (b : Bool) → cond b 0 1 + cond b 1026 1025 ≡ 1026
      go true = refl
      go false = refl

  -- a state that the node may have, and one that it may not
  may : (q : ℕ) → q < 16 → suits l (suc q) ≡ true
      → (stay l kids (suc q) + u q ≡ kids 0 + 1026) × (enter l kids (suc q) + u q ≡ kids 0 + 2051) × (u q ≡ k q + extra l.tag)
  may q h y =
      let w : u q ≡ k q + extra l.tag = worths q h ∙ ap (λ b. cond b (k q + extra l.tag) 0) y in
      let s : stay l kids (suc q) ≡ idle l (suc q) + kids (suc q) = ap (λ b. cond b (idle l (suc q)) 1050625 + kids (suc q)) y in
      let n : enter l kids (suc q) ≡ 1025 * 1 + idle l (suc q) + kids (suc q) =
      ap₂ (λ b z. cond b (1025 * cond z 0 1 + idle l (suc q)) 1050625 + kids (suc q)) y (not-zero q) in
      (omega (arith, w, s, idle_extra q, (sums q h).0), omega (arith, w, n, idle_extra q, (sums q h).0), w)

  may_not : (q : ℕ) → q < 16 → suits l (suc q) ≡ false
      → (u q ≡ 0) × (1048575 + kids 0 ≤ stay l kids (suc q)) × (1048575 + kids 0 ≤ enter l kids (suc q))
  may_not q h y =
      let w : u q ≡ 0 = worths q h ∙ ap (λ b. cond b (k q + extra l.tag) 0) y in
      let s : stay l kids (suc q) ≡ 1050625 + kids (suc q) = ap (λ b. cond b (idle l (suc q)) 1050625 + kids (suc q)) y in
      let n : enter l kids (suc q) ≡ 1050625 + kids (suc q) = ap (λ b. cond b (1025 * cond (eqb (suc q) 0) 0 1 + idle l (suc q)) 1050625 + kids (suc q)) y in
      (w, omega (arith, s, (sums q h).0, (sums q h).1), omega (arith, n, (sums q h).0, (sums q h).1))

  -- state 0
  free : needs l.tag ≡ false → (stay l kids 0 ≡ kids 0) × (enter l kids 0 ≡ kids 0) × (36935 ≤ high)
  unfolding suits
  free y =
      let f : ◌≡◌ {A = ℕ} (cond (needs l.tag) 1025 2051) 2051 = ap (λ b. cond b 1025 2051) y in
      (rw y (omega arith), rw y (omega arith), omega (arith, i.above, f))

  bound : needs l.tag ≡ true → (stay l kids 0 ≡ 1050625 + kids 0) × (enter l kids 0 ≡ 1050625 + kids 0)
  unfolding suits
  bound y = (rw y refl, rw y refl)

  -- which state it is best to enter
  abbrev Winner : Type 0
  Winner = ((high ≡ 36935) × (needs l.tag ≡ false)) ⊎ ((q : ℕ) × (q < 16) × (high ≡ rank us q) × (suits l (suc q) ≡ true))

  winner : Winner
  unfolding suits has
  winner = go i.some
    where
      none : (b : Bool) → needs l.tag ≡ b → high ≡ floor l.tag → Winner
      none true y t =
          let r = some_bit 16 l.roles fits (served y) in
          let m = may r.0 r.1 (eq-eqb (bit l.roles r.0) 1 r.2) in
          let f : ◌≡◌ {A = ℕ} (cond (needs l.tag) 1025 2051) 1025 = ap (λ b. cond b 1025 2051) y in
          let x : ◌≡◌ {A = ℕ} (extra l.tag) 1026 = ap (λ b. cond b 1026 1025) (lt-ltb 4 l.tag (needs_late l.tag y)) in
          let no_way : ⊥ = omega (arith, i.most r.0 r.1, m.2, f, x, t) in
          absurd no_way
      none false y t =
          let f : ◌≡◌ {A = ℕ} (cond (needs l.tag) 1025 2051) 2051 = ap (λ b. cond b 1025 2051) y in
          inl (omega (arith, t, f), y)

      one : (q : ℕ) → q < 16 → high ≡ rank us q → (b : Bool) → suits l (suc q) ≡ b → Winner
      one q h t true y = inr (q, h, t, y)
      one q h t false y = let no_way : ⊥ = omega (arith, (may_not q h y).0, t, high_least) in absurd no_way

      go : (high ≡ floor l.tag) ⊎ ((q : ℕ) × (q < 16) × (high ≡ rank us q)) → Winner
      go (inl t) = none (needs l.tag) refl t
      go (inr r) = one r.0 r.1 r.2 (suits l (suc r.0)) refl

  high_c : c + high / 18 ≡ kids 0 + 2051
  high_c = go winner
    where
      go : Winner → c + high / 18 ≡ kids 0 + 2051
      go (inl w) = omega (arith, w.0)
      go (inr w) = omega (arith, w.2, (may w.0 w.1 w.3).1)

  -- by whether the node may have a state
  module _ (q : ℕ) (h : q < 16) where
    enter_least : c ≤ enter l kids (suc q)
    enter_least = go (suits l (suc q)) refl
      where
        go : (b : Bool) → suits l (suc q) ≡ b → c ≤ enter l kids (suc q)
        go true y = omega (arith, (may q h y).1, i.most q h, high_c)
        go false y = omega (arith, (may_not q h y).2, high_c, high_least)

    enter_first : (p : ℕ) → p < 16 → q < p → high ≡ rank us p → c < enter l kids (suc q)
    enter_first p j k t = go (suits l (suc q)) refl
      where
        go : (b : Bool) → suits l (suc q) ≡ b → c < enter l kids (suc q)
        go true y = omega (arith, (may q h y).1, i.most q h, high_c, t)
        go false y = omega (arith, (may_not q h y).2, high_c, high_least)

  zero_least : c ≤ enter l kids 0
  zero_least = go (needs l.tag) refl
    where
      go : (b : Bool) → needs l.tag ≡ b → c ≤ enter l kids 0
      go true y = omega (arith, (bound y).1, high_c)
      go false y = omega (arith, (free y).1, (free y).2, high_c)

  zero_first : (p : ℕ) → p < 16 → high ≡ rank us p → c < enter l kids 0
  zero_first p j t = go (needs l.tag) refl
    where
      go : (b : Bool) → needs l.tag ≡ b → c < enter l kids 0
      go true y = omega (arith, (bound y).1, high_c, high_least)
      go false y = omega (arith, (free y).1, (free y).2, high_c, t)

  -- staying in it is no cheaper than entering it
  stay_zero : c ≤ stay l kids 0
  stay_zero = go (needs l.tag) refl
    where
      go : (b : Bool) → needs l.tag ≡ b → c ≤ stay l kids 0
      go true y = omega (arith, (bound y).0, high_c)
      go false y = omega (arith, (free y).0, (free y).2, high_c)

  stay_first : 0 < e → c < stay l kids 0
  stay_first h = go (needs l.tag) refl
    where
      go : (b : Bool) → needs l.tag ≡ b → c < stay l kids 0
      go true y = omega (arith, (bound y).0, high_c, high_least)
      go false y = omega (arith, (free y).0, (free y).2, high_c, h)

  lowest_least : (s : ℕ) → s ≤ 16 → c ≤ enter l kids s
  lowest_least zero h = zero_least
  lowest_least (suc q) h = enter_least q (omega arith)

  -- the state that it is best to enter
  pub entered : scan 16 (enter l kids) ≡ (e, c)
  entered = go winner
    where
      is : (r : ℕ × ℕ) → Least 16 (enter l kids) r → scan 16 (enter l kids) ≡ r
      is r h = least_unique 16 (enter l kids) (scan 16 (enter l kids)) r (scan_least 16 (enter l kids)) h

      go : Winner → scan 16 (enter l kids) ≡ (e, c)
      go (inl w) =
          let e0 : 0 ≡ e = omega (arith, w.0) in
          is (0, c) (record {
            value = omega (arith, (free w.1).1, w.0);
            within = omega arith;
            least = lowest_least;
            first = λ s h. let no_way : ⊥ = omega arith in absurd no_way;
          })
          ∙ ap (λ x. (x, c)) e0
      go (inr w) =
          let e1 : suc w.0 ≡ e = omega (arith, w.2, w.1) in
          is (suc w.0, c) (record {
            value = omega (arith, (may w.0 w.1 w.3).1, w.2, w.1, high_c);
            within = omega (arith, w.1);
            least = lowest_least;
            first = before w.0 w.1 w.2;
          })
          ∙ ap (λ x. (x, c)) e1
        where
          before : (p : ℕ) → p < 16 → high ≡ rank us p → (s : ℕ) → s < suc p → c < enter l kids s
          before p j t zero h = zero_first p j t
          before p j t (suc q) h = enter_first q (omega arith) p j (omega arith) t

  -- the row
  row_zero : get_or (row_of l kids) 0 0 ≡ c
  row_zero = row_is l kids e c entered 0 (omega arith) ∙ (rw (le-ltb (stay l kids 0) c stay_zero))

  row_next : (q : ℕ) → q < 16 → get_or (row_of l kids) (suc q) 0 + (u q - (high - 18450) / 18) ≡ c
  row_next q h = ap (λ x. x + (u q - (high - 18450) / 18)) (row_is l kids e c entered (suc q) (omega arith)) ∙ go (suits l (suc q)) refl (ltb (stay l kids (suc q)) c) refl
    where
      go : (b : Bool) → suits l (suc q) ≡ b → (x : Bool) → ltb (stay l kids (suc q)) c ≡ x
          → cond x (stay l kids (suc q)) c + (u q - (high - 18450) / 18) ≡ c
      go true y true t = omega (arith, (may q h y).0, ltb-true (stay l kids (suc q)) c t, high_c, high_least)
      go true y false t = omega (arith, (may q h y).0, ltb-false (stay l kids (suc q)) c t, high_c, high_least)
      go false y true t = let no_way : ⊥ = omega (arith, (may_not q h y).1, ltb-true (stay l kids (suc q)) c t, high_c, high_least) in absurd no_way
      go false y false t = omega (arith, (may_not q h y).0)

  pub saves : (q : ℕ) → q < 16 → get_or (row_of l kids) (suc q) 0 + (u q - (high - 18450) / 18) ≡ get_or (row_of l kids) 0 0
  saves q h = row_next q h ∙ sym row_zero

  -- the state taken
  keeps : (q : ℕ) → q < 16 → (ltb (stay l kids (suc q)) c || (eqb (stay l kids (suc q)) c && ltb (suc q) e)) ≡ stays high us q
  keeps q h = go (suits l (suc q)) refl (ltb (stay l kids (suc q)) c) refl (eqb (stay l kids (suc q)) c) refl (ltb (suc q) e) refl
    where
      w : ℕ
      w = stay l kids (suc q)

      no : rank us q ≤ high - 18450 → false ≡ stays high us q
      no n = sym (le-ltb (high - 18450) (rank us q) n)

      yes : high - 18450 < rank us q → true ≡ stays high us q
      yes n = sym (lt-ltb (high - 18450) (rank us q) n)

      go : (b : Bool) → suits l (suc q) ≡ b → (x : Bool) → ltb (stay l kids (suc q)) c ≡ x → (y : Bool) → eqb (stay l kids (suc q)) c ≡ y → (z : Bool) → ltb (suc q) e ≡ z
          → (x || (y && z)) ≡ stays high us q
      go true b true x y g z j = yes (omega (arith, (may q h b).0, ltb-true (stay l kids (suc q)) c x, high_c, high_least))
      go true b false x true g true j = yes (omega (arith, (may q h b).0, eqb-true (stay l kids (suc q)) c g, ltb-true (suc q) e j, high_c, high_least))
      go true b false x true g false j = no (omega (arith, (may q h b).0, eqb-true (stay l kids (suc q)) c g, ltb-false (suc q) e j, high_c, high_least))
      go true b false x false g z j = no (omega (arith, (may q h b).0, eqb-false (stay l kids (suc q)) c g, ltb-false (stay l kids (suc q)) c x, high_c, high_least))
      go false b true x y g z j = let no_way : ⊥ = omega (arith, (may_not q h b).1, ltb-true (stay l kids (suc q)) c x, high_c, high_least) in absurd no_way
      go false b false x true g z j = let no_way : ⊥ = omega (arith, (may_not q h b).1, eqb-true (stay l kids (suc q)) c g, high_c, high_least) in absurd no_way
      go false b false x false g z j = no (omega (arith, (may_not q h b).0, high_least))

  abbrev kept : ℕ
  kept = gather 16 (stays high us)

  kept_small : kept < 65536
  kept_small = gather_lt 16 (stays high us)

  word_low : (p : ℕ) → p ≤ 16 → bit (word_by high us) p ≡ bit (2 * kept) p
  unfolding word_by
  word_low p h =
      let low : (2 * kept + 131072 * e) % 2 ^ 17 ≡ 2 * kept = omega (arith, kept_small) in
      sym (bit_below (2 * kept + 131072 * e) 17 p (omega arith)) ∙ ap (λ x. bit x p) low

  word_next : (q : ℕ) → q < 16 → bit (word_by high us) (suc q) ≡ cond (stays high us q) 1 0
  word_next q h =
      let half : 2 * kept / 2 ≡ kept = omega arith in
      word_low (suc q) (omega arith) ∙ bit_next (2 * kept) q ∙ ap (λ x. bit x q) half ∙ gather_bit 16 (stays high us) q h

  pub word_after : (p : ℕ) → p ≤ 16 → state_after (word_by high us) p ≡ taken l kids p
  unfolding word_by
  word_after p h =
      let top : (2 * kept + 131072 * e) / 131072 % 32 ≡ e = omega (arith, kept_small) in
      ap (λ y. cond (eqb (bit (word_by high us) p) 1) p y) top ∙ ap (λ t. cond t p e) (same p h) ∙ taken_is l kids e c entered p h
    where
      one : (b : Bool) → eqb (cond b 1 0) 1 ≡ b
      one true = refl
      one false = refl

      here : (x y z : Bool) → ltb (stay l kids 0) c ≡ x → eqb (stay l kids 0) c ≡ y → ltb 0 e ≡ z → false ≡ (x || (y && z))
      here true y z a b d = let no_way : ⊥ = omega (arith, stay_zero, ltb-true (stay l kids 0) c a) in absurd no_way
      here false true true a b d = let no_way : ⊥ = omega (arith, stay_first (ltb-true 0 e d), eqb-true (stay l kids 0) c b) in absurd no_way
      here false true false a b d = refl
      here false false z a b d = refl

      same : (p : ℕ) → p ≤ 16 → eqb (bit (word_by high us) p) 1 ≡ (ltb (stay l kids p) c || (eqb (stay l kids p) c && ltb p e))
      same zero h = ap (λ x. eqb x 1) (word_low 0 h ∙ bit_even_zero kept) ∙ here (ltb (stay l kids 0) c) (eqb (stay l kids 0) c) (ltb 0 e) refl refl refl
      same (suc q) h = ap (λ x. eqb x 1) (word_next q (omega arith)) ∙ one (stays high us q) ∙ sym (keeps q (omega arith))
