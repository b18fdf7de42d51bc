-- Loops over the lanes, and what is kept of a node without ranks where it needs none.
use Prim.Native.Nat.{ℕ, zero, suc, ◌+◌, ◌*◌, ◌-◌, ◌/◌, ◌%◌, ◌^◌, ◌≤◌, ◌<◌, max}
use mathlib.Core.Path.{◌≡◌, refl, sym, ap, ap₂, ◌∙◌}
use mathlib.Core.Logic.{◌⊎◌, inl, inr}
use mathlib.Core.Bool.{Bool, true, false, cond, not, ◌||◌, true≢false}
use mathlib.Core.List.{List, [], ◌∷◌, ◌++◌}
use native.Mathlib.Omega.{arith}
use native.Mathlib.Numerals.{add-one}
use native.Mathlib.Nat.{zero-div}
use lib.Dec.{eqb, ltb}
use lib.Bits.{bit_and}
use lib.Pow.{pow_mono}
use lib.ListN.{length, get_or, take, set}
use lib.Seq.{take-suc-set}
use borrow.Author.Tests.{eqb-true, eqb-false, ne_eqb, ltb-true, ltb-false, lt-ltb, le-ltb}
use Rattle.masks.proofs.Bits.{bit, bit_lt, bit_and_lem, bit_same, bit_other, same_bits}
use Rattle.states.specs.States.{up, needs}
use Rattle.states.specs.Kept.{Small, no_saving, added, worth_at, worths_of, rank, floor, highest, peak, gather, powers, above, stays, left_over, saving_by, word_by, saving_of, word_of}
use Rattle.states.proofs.BitLaws.{gather_lt, highest_is}
use Rattle.states.proofs.AgreeLaws.{lane, up_past, none_saved}

up_snoc : (i n : ℕ) (f : ℕ → ℕ) → up i (suc n) f ≡ up i n f ++ (f (i + n) ∷ [])
unfolding up
up_snoc i zero f = let z : i + 0 ≡ i = omega arith in rw z
up_snoc i (suc n) f = let z : suc i + n ≡ i + suc n = omega arith in ap (f i ∷◌) (rw z at (up_snoc (suc i) n f))

-- one more lane
pub fill_more : (l : List ℕ) (i v : ℕ) (f : ℕ → ℕ) → i < length l → take i l ≡ up 0 i f → v ≡ f i → take (i + 1) (set l i v) ≡ up 0 (i + 1) f
fill_more l i v f h e w =
    let z : 0 + i ≡ i = omega arith in
    rw (add-one, take-suc-set l i v h, e, w) (sym (rw z at (up_snoc 0 i f)))

pub highest_more : (base k : ℕ) (f : ℕ → ℕ) (t v r : ℕ) → t ≡ highest base k f → v ≡ f k → r ≡ max t v → r ≡ highest base (k + 1) f
unfolding highest
highest_more base k f t v r e g h = h ∙ ap₂ max e g ∙ sym (ap (λ j. highest base j f) (add-one k))

pub gather_more : (k : ℕ) (f : ℕ → Bool) (t v : ℕ) → t ≡ gather k f → v ≡ cond (f k) (2 ^ k) 0 → t + v ≡ gather (k + 1) f
unfolding gather
gather_more k f t v e g = ap₂ ◌+◌ e g ∙ sym (ap (λ j. gather j f) (add-one k))

pub gather_fits : (k : ℕ) (f : ℕ → Bool) → k < 16 → (t v : ℕ) → t ≡ gather k f → v ≡ cond (f k) (2 ^ k) 0 → t + v < 65536
gather_fits k f h t v e g = omega (arith, gather_more k f t v e g, gather_lt (k + 1) f, pow_mono {i = k + 1} {j = 16} (omega arith))

-- lanes that are the same
pub up_same : (i n : ℕ) (f g : ℕ → ℕ) → ((q : ℕ) → q < n → f (i + q) ≡ g (i + q)) → up i n f ≡ up i n g
unfolding up
up_same i zero f g e = refl
up_same i (suc n) f g e =
    let z : i + 0 ≡ i = omega arith in
    ap₂ {C = List ℕ} (λ x xs. x ∷ xs) (rw z at (e 0 (omega arith))) (up_same (suc i) n f g (λ q h. let s : i + suc q ≡ suc i + q = omega arith in rw s at (e (suc q) (omega arith))))

pub highest_same : (base k : ℕ) (f g : ℕ → ℕ) → ((q : ℕ) → q < k → f q ≡ g q) → highest base k f ≡ highest base k g
unfolding highest
highest_same base zero f g e = refl
highest_same base (suc k) f g e = ap₂ max (highest_same base k f g (λ q h. e q (omega arith))) (e k (omega arith))

pub gather_same : (k : ℕ) (f g : ℕ → Bool) → ((q : ℕ) → q < k → f q ≡ g q) → gather k f ≡ gather k g
unfolding gather
gather_same zero f g e = refl
gather_same (suc k) f g e = ap₂ (λ x b. x + cond b (2 ^ k) 0) (gather_same k f g (λ q h. e q (omega arith))) (e k (omega arith))

gather_none : (k : ℕ) → gather k (λ q. false) ≡ 0
unfolding gather
gather_none zero = refl
gather_none (suc k) = omega (arith, gather_none k)

-- a lane's bit, and the test of it
power_at : (bits : List ℕ) → bits ≡ powers → (q : ℕ) → q < 16 → get_or bits q 0 ≡ 2 ^ q
power_at bits e q h = ap (λ (b : List ℕ). get_or b q 0) e ∙ lane (λ q. 2 ^ q) q h

pub lane_bit : (bits : List ℕ) → bits ≡ powers → (test : Bool) (q : ℕ) → q < 16 → cond test (get_or bits q 0) 0 ≡ cond test (2 ^ q) 0
lane_bit bits e test q h = ap (λ (b : ℕ). cond test b 0) (power_at bits e q h)

-- it is there exactly if the mask has it
bit_test : (m q : ℕ) → not (eqb (bit_and m (2 ^ q)) 0) ≡ eqb (bit m q) 1
bit_test m q = go (eqb (bit_and m (2 ^ q)) 0) refl (eqb (bit m q) 1) refl
  where
    none : (j : ℕ) → bit 0 j ≡ 0
    none j = ap (λ x. x % 2) (zero-div (2 ^ j))

    here : bit (bit_and m (2 ^ q)) q ≡ bit m q
    here = bit_and_lem m (2 ^ q) q ∙ omega (arith, bit_same q, bit_lt m q)

    each : bit m q ≡ 0 → (j : ℕ) (b : Bool) → eqb q j ≡ b → bit (bit_and m (2 ^ q)) j ≡ bit 0 j
    each z j true e = let s : j ≡ q = sym (eqb-true q j e) in rw s (here ∙ z ∙ sym (none q))
    each z j false e = bit_and_lem m (2 ^ q) j ∙ omega (arith, bit_other q j (eqb-false q j e), none j)

    go : (x : Bool) → eqb (bit_and m (2 ^ q)) 0 ≡ x → (y : Bool) → eqb (bit m q) 1 ≡ y → not x ≡ y
    go true e true g =
        let no_way : ⊥ = omega (arith, here, ap (λ x. bit x q) (eqb-true (bit_and m (2 ^ q)) 0 e), none q, eqb-true (bit m q) 1 g) in absurd no_way
    go true e false g = refl
    go false e true g = refl
    go false e false g =
        absurd (eqb-false (bit_and m (2 ^ q)) 0 e (same_bits (bit_and m (2 ^ q)) 0 (λ j. each (omega (arith, eqb-false (bit m q) 1 g, bit_lt m q)) j (eqb q j) refl)))

pub lane_test : (bits : List ℕ) → bits ≡ powers → (m q : ℕ) → q < 16 → not (eqb (bit_and m (get_or bits q 0)) 0) ≡ eqb (bit m q) 1
lane_test bits e m q h = ap (λ (b : ℕ). not (eqb (bit_and m b) 0)) (power_at bits e q h) ∙ bit_test m q

-- the ranks in lanes
module _ (us ranked : List ℕ) (e : ranked ≡ up 0 16 (rank us)) where
  ranked_at : (q : ℕ) → q < 16 → get_or ranked q 0 ≡ rank us q
  ranked_at q h = ap (λ (l : List ℕ). get_or l q 0) e ∙ lane (rank us) q h

  pub ranked_peak : (base : ℕ) → highest base 16 (λ q. get_or ranked q 0) ≡ highest base 16 (rank us)
  ranked_peak base = highest_same base 16 (λ q. get_or ranked q 0) (rank us) ranked_at

  pub ranked_above : (least : ℕ) → above least ranked ≡ gather 16 (λ q. ltb least (rank us q))
  ranked_above least = gather_same 16 (λ q. ltb least (get_or ranked q 0)) (λ q. ltb least (rank us q)) (λ q h. ap (ltb least) (ranked_at q h))

pub base_least : (base : ℕ) (us : List ℕ) → base ≤ highest base 16 (rank us)
base_least base us = (highest_is base 16 (rank us)).above

-- how much the children save, and what no state is worth more than
pub kids_most : (one two : List ℕ) → Small one → Small two → (b : Bool) (q : ℕ) → get_or (cond b (added one two) one) q 0 ≤ 2050
kids_most one two h k false q = omega (arith, h q)
kids_most one two h k true q = go (ltb q 16) refl
  where
    f : ℕ → ℕ
    f q = get_or one q 0 + get_or two q 0

    go : (b : Bool) → ltb q 16 ≡ b → get_or (up 0 16 f) q 0 ≤ 2050
    go true e = omega (arith, lane f q (ltb-true q 16 e), h q, k q)
    go false e = omega (arith, up_past 0 16 f q (ltb-false q 16 e))

pub worth_most : (roles : ℕ) (saving : List ℕ) (more most : ℕ) → ((q : ℕ) → get_or saving q 0 + more ≤ most) → (q : ℕ) → get_or (up 0 16 (worth_at roles saving more)) q 0 ≤ most
worth_most roles saving more most h q = go (ltb q 16) refl
  where
    each : (q : ℕ) (t : Bool) → cond t (get_or saving q 0 + more) 0 ≤ most
    each q true = h q
    each q false = omega arith

    go : (b : Bool) → ltb q 16 ≡ b → get_or (up 0 16 (worth_at roles saving more)) q 0 ≤ most
    go true e = omega (arith, lane (worth_at roles saving more) q (ltb-true q 16 e), each q (eqb (roles / 2 ^ q % 2) 1))
    go false e = omega (arith, up_past 0 16 (worth_at roles saving more) q (ltb-false q 16 e))

pub extra_most : (t : Bool) → cond t 1026 1025 ≤ 1026
extra_most true = omega arith
extra_most false = omega arith

-- the rank of state 0
pub floor_least : (t : Bool) → 18467 ≤ 18 * cond t 1025 2051 + 17
floor_least true = omega arith
floor_least false = omega arith

-- what the test of a node with one child that needs no role says
pub idle_tag : (tag : ℕ) → (eqb tag 1 || ltb 4 tag) ≡ false → (eqb tag 1 ≡ false) × (ltb 4 tag ≡ false) × (needs tag ≡ false)
idle_tag tag h = go (eqb tag 1) refl (ltb 4 tag) refl h
  where
    go : (x : Bool) → eqb tag 1 ≡ x → (y : Bool) → ltb 4 tag ≡ y → (x || y) ≡ false → (eqb tag 1 ≡ false) × (ltb 4 tag ≡ false) × (needs tag ≡ false)
    go true e y g h = absurd (true≢false h)
    go false e true g h = absurd (true≢false h)
    go false e false g h =
        let low : tag ≤ 4 = ltb-false 4 tag g in
        (e, g, rw (ne_eqb tag 5 (λ z. let z' : tag ≡ 5 = z in omega arith), ne_eqb tag 6 (λ z. let z' : tag ≡ 6 = z in omega arith)))

-- A node that needs no role, and has no state of more worth than 2,050: state 0 is entered, and a state is stayed in for what it saves.
module _ (tag : ℕ) (us : List ℕ) (free : needs tag ≡ false) (few : (q : ℕ) → get_or us q 0 ≤ 2050) where
  peak_floor : peak tag us ≡ 36935
  peak_floor = go (highest_is (floor tag) 16 (rank us)).some
    where
      base : floor tag ≡ 36935
      base = ap (λ (b : Bool). 18 * cond b 1025 2051 + 17) free

      go : (peak tag us ≡ floor tag) ⊎ ((q : ℕ) × (q < 16) × (peak tag us ≡ rank us q)) → peak tag us ≡ 36935
      go (inl e) = e ∙ base
      go (inr (q, h, e)) = let no_way : ⊥ = omega (arith, e, few q, base, (highest_is (floor tag) 16 (rank us)).above) in absurd no_way

  pub idle_saving : saving_by (peak tag us) us ≡ left_over 1026 us
  unfolding saving_by
  idle_saving = ap (λ (h : ℕ). left_over ((h - 18450) / 18) us) peak_floor

  pub idle_word : word_by (peak tag us) us ≡ 2 * above 1026 us
  unfolding word_by
  idle_word =
      ap (λ (h : ℕ). 2 * gather 16 (stays h us) + 131072 * (17 - h % 18)) peak_floor
      ∙ omega (arith, gather_same 16 (stays 36935 us) (λ q. ltb 1026 (get_or us q 0)) same)
    where
      same : (q : ℕ) → q < 16 → ltb 18485 (18 * get_or us q 0 + (16 - q)) ≡ ltb 1026 (get_or us q 0)
      same q h = go (ltb 1026 (get_or us q 0)) refl
        where
          go : (b : Bool) → ltb 1026 (get_or us q 0) ≡ b → ltb 18485 (18 * get_or us q 0 + (16 - q)) ≡ b
          go true e = lt-ltb 18485 (18 * get_or us q 0 + (16 - q)) (omega (arith, ltb-true 1026 (get_or us q 0) e))
          go false e = le-ltb 18485 (18 * get_or us q 0 + (16 - q)) (omega (arith, ltb-false 1026 (get_or us q 0) e))

-- An end: it saves nothing, and nothing is stayed in.
module _ (roles : ℕ) (one two : List ℕ) where
  abbrev us : List ℕ
  us = worths_of 0 roles one two

  end_worth : (q : ℕ) → get_or us q 0 ≤ 1025
  unfolding worths_of
  end_worth q = worth_most roles no_saving 1025 1025 (λ q. omega (arith, none_saved q)) q

  pub end_saving : saving_of 0 roles one two ≡ no_saving
  unfolding saving_of up
  end_saving =
      idle_saving 0 us refl (λ q. omega (arith, end_worth q))
      ∙ up_same 0 16 (λ q. get_or us q 0 - 1026) (λ q. 0) (λ q h. let z : get_or us (0 + q) 0 - 1026 ≡ 0 = omega (arith, end_worth (0 + q)) in z) ∙ zeros
    where
      zeros : up 0 16 (λ q. 0) ≡ no_saving
      zeros = refl

  pub end_word : word_of 0 roles one two ≡ 0
  unfolding word_of
  end_word =
      idle_word 0 us refl (λ q. omega (arith, end_worth q))
      ∙ omega (arith, gather_same 16 (λ q. ltb 1026 (get_or us q 0)) (λ q. false) (λ q h. le-ltb 1026 (get_or us q 0) (omega (arith, end_worth q))), gather_none 16)
