-- The savings agree with the rows.
use Prim.Native.Nat.{ℕ, zero, suc, ◌+◌, ◌-◌, ◌/◌, ◌≤◌, ◌<◌}
use mathlib.Core.Path.{◌≡◌, refl, ap, ◌∙◌}
use mathlib.Core.Bool.{Bool, true, false, cond}
use mathlib.Core.List.{List, [], ◌∷◌}
use native.Mathlib.Omega.{arith}
use lib.Dec.{eqb, ltb}
use lib.ListN.{get_or, replicate}
use borrow.Author.Tests.{ltb-true, ltb-false}
use Rattle.masks.specs.Mask.{has}
use Rattle.format.specs.Stacks.{rest}
use Rattle.states.specs.States.{Label, needs, suits, first, below, beyond, up, row_of, rows, taken}
use Rattle.states.specs.Kept.{Served, Small, no_saving, saving, added, kids, extra, worth_at, worths_of, rank, floor, peak, saving_by, saving_of, word_of, state_after, savings}
use Rattle.states.proofs.KeptLaws.{up_at}
use Rattle.states.proofs.BitLaws.{highest_is}
use Rattle.states.proofs.RankLaws.{saves, word_after}

-- no role is above 16
unfoldable pub Roled : List Label → Type 0
Roled [] = Unit {0}
Roled (l ∷ ls) = (l.roles < 65536) × Roled ls

-- past the lanes
pub up_past : (i n : ℕ) (f : ℕ → ℕ) (s : ℕ) → n ≤ s → get_or (up i n f) s 0 ≡ 0
unfolding up
up_past i zero f s h = refl
up_past i (suc n) f zero h = let no_way : ⊥ = omega arith in absurd no_way
up_past i (suc n) f (suc s) h = up_past (suc i) n f s (omega arith)

pub lane : (f : ℕ → ℕ) (q : ℕ) → q < 16 → get_or (up 0 16 f) q 0 ≡ f q
lane f q h = let z : 0 + q ≡ q = omega arith in rw z at (up_at 0 16 f q h)

-- no lane saves more than an on step, whatever the states are worth
pub saving_small : (tag : ℕ) (us : List ℕ) → Small (saving_by (peak tag us) us)
unfolding saving_by
saving_small tag us q = go (ltb q 16) refl
  where
    f : ℕ → ℕ
    f q = get_or us q 0 - (peak tag us - 18450) / 18

    go : (b : Bool) → ltb q 16 ≡ b → get_or (up 0 16 f) q 0 ≤ 1025
    go true e =
        let h : q < 16 = ltb-true q 16 e in
        omega (arith, lane f q h, (highest_is (floor tag) 16 (rank us)).most q h)
    go false e = omega (arith, up_past 0 16 f q (ltb-false q 16 e))

-- zeros hold nothing else
pub zeros : (n q : ℕ) → ◌≡◌ {A = ℕ} (get_or (replicate n 0) q 0) 0
zeros zero q = refl
zeros (suc n) zero = refl
zeros (suc n) (suc q) = zeros n q

pub none_saved : (q : ℕ) → get_or no_saving q 0 ≡ 0
none_saved q = zeros 16 q

-- the savings d are those of the row r
pub record Says (d r : List ℕ) : Type 0 where
  pub each : (q : ℕ) → q < 16 → get_or r (suc q) 0 + get_or d q 0 ≡ get_or r 0 0
  pub small : Small d

unfoldable pub Agree : List (List ℕ) → List (List ℕ) → Type 0
Agree [] [] = Unit {0}
Agree [] (r ∷ rs) = ⊥
Agree (d ∷ ds) [] = ⊥
Agree (d ∷ ds) (r ∷ rs) = Says d r × Agree ds rs

no_row : Says no_saving []
no_row = record { each = λ q h. omega (arith, none_saved q); small = λ q. omega (arith, none_saved q) }

agree_top : (ds rs : List (List ℕ)) → Agree ds rs → Says (saving ds) (first rs)
unfolding Agree
agree_top [] [] h = no_row
agree_top [] (r ∷ rs) h = absurd h
agree_top (d ∷ ds) [] h = absurd h
agree_top (d ∷ ds) (r ∷ rs) h = h.0

agree_rest : (ds rs : List (List ℕ)) → Agree ds rs → Agree (rest ds) (rest rs)
unfolding Agree
agree_rest [] [] h = tt
agree_rest [] (r ∷ rs) h = absurd h
agree_rest (d ∷ ds) [] h = absurd h
agree_rest (d ∷ ds) (r ∷ rs) h = h.1

agree_past : (tag : ℕ) (ds rs : List (List ℕ)) → Agree ds rs → Agree (beyond tag ds) (beyond tag rs)
agree_past tag ds rs h = go (eqb tag 0) (eqb tag 1)
  where
    go : (x y : Bool) → Agree (cond x ds (cond y (rest (rest ds)) (rest ds))) (cond x rs (cond y (rest (rest rs)) (rest rs)))
    go true y = h
    go false true = agree_rest (rest ds) (rest rs) (agree_rest ds rs h)
    go false false = agree_rest ds rs h

-- a node's children
module _ (tag : ℕ) (ds rs : List (List ℕ)) (h : Agree ds rs) where
  abbrev one : Says (saving ds) (first rs)
  one = agree_top ds rs h

  abbrev two : Says (saving (rest ds)) (first (rest rs))
  two = agree_top (rest ds) (rest rs) (agree_rest ds rs h)

  abbrev both : ℕ → ℕ
  both q = get_or (kids tag (saving ds) (saving (rest ds))) q 0

  kids_sum : (q : ℕ) → q < 16 → (below tag rs (suc q) + both q ≡ below tag rs 0) × (both q ≤ 2050)
  kids_sum q k = go (eqb tag 0) refl (eqb tag 1) refl
    where
      sum : get_or (added (saving ds) (saving (rest ds))) q 0 ≡ get_or (saving ds) q 0 + get_or (saving (rest ds)) q 0
      sum = lane (λ q. get_or (saving ds) q 0 + get_or (saving (rest ds)) q 0) q k

      go : (x : Bool) → eqb tag 0 ≡ x → (y : Bool) → eqb tag 1 ≡ y
          → (cond x 0 (cond y (get_or (first rs) (suc q) 0 + get_or (first (rest rs)) (suc q) 0) (get_or (first rs) (suc q) 0))
          + get_or (cond x no_saving (cond y (added (saving ds) (saving (rest ds))) (saving ds))) q 0
          ≡ cond x 0 (cond y (get_or (first rs) 0 0 + get_or (first (rest rs)) 0 0) (get_or (first rs) 0 0)))
          × (get_or (cond x no_saving (cond y (added (saving ds) (saving (rest ds))) (saving ds))) q 0 ≤ 2050)
      go true e y g = (omega (arith, none_saved q), omega (arith, none_saved q))
      go false e true g = (omega (arith, sum, one.each q k, two.each q k), omega (arith, sum, one.small q, two.small q))
      go false e false g = (omega (arith, one.each q k), omega (arith, one.small q))

module _ (l : Label) (ds rs : List (List ℕ)) (f : l.roles < 65536) (s : needs l.tag ≡ true → l.roles ≡ 0 → ⊥) (h : Agree ds rs) where
  abbrev us : List ℕ
  us = worths_of l.tag l.roles (saving ds) (saving (rest ds))

  worths : (q : ℕ) → q < 16 → get_or us q 0 ≡ cond (suits l (suc q)) (both l.tag ds rs h q + extra l.tag) 0
  unfolding worths_of suits has
  worths q k = lane (worth_at l.roles (kids l.tag (saving ds) (saving (rest ds))) (extra l.tag)) q k

  -- its savings
  row_says : Says (saving_of l.tag l.roles (saving ds) (saving (rest ds))) (row_of l (below l.tag rs))
  unfolding saving_of saving_by
  row_says =
      record {
        each = λ q k. each q k;
        small = saving_small l.tag us;
      }
    where
      each : (q : ℕ) → q < 16 → get_or (row_of l (below l.tag rs)) (suc q) 0 + get_or (saving_by (peak l.tag us) us) q 0 ≡ get_or (row_of l (below l.tag rs)) 0 0
      each q k =
          ap (λ x. get_or (row_of l (below l.tag rs)) (suc q) 0 + x) (lane (λ q. get_or us q 0 - (peak l.tag us - 18450) / 18) q k)
          ∙ saves l (below l.tag rs) (both l.tag ds rs h) us f s (kids_sum l.tag ds rs h) worths q k

  -- the state read is the one taken
  pub after_taken : (p : ℕ) → p ≤ 16 → state_after (word_of l.tag l.roles (saving ds) (saving (rest ds))) p ≡ taken l (below l.tag rs) p
  unfolding word_of
  after_taken p k = word_after l (below l.tag rs) (both l.tag ds rs h) us f s (kids_sum l.tag ds rs h) worths p k

pub agrees : (ls : List Label) → Roled ls → Served ls → Agree (savings ls) (rows ls)
unfolding Agree Roled Served savings rows
agrees [] f s = tt
agrees (l ∷ ls) f s =
    let h : Agree (savings ls) (rows ls) = agrees ls f.1 s.1 in
    (row_says l (savings ls) (rows ls) f.0 s.0 h, agree_past l.tag (savings ls) (rows ls) h)

-- every row of savings is small
unfoldable pub AllSmall : List (List ℕ) → Type 0
AllSmall [] = Unit {0}
AllSmall (d ∷ ds) = Small d × AllSmall ds

pub small_first : (ds : List (List ℕ)) → AllSmall ds → Small (saving ds)
unfolding AllSmall
small_first [] h q = omega (arith, none_saved q)
small_first (d ∷ ds) h q = h.0 q

pub small_rest : (ds : List (List ℕ)) → AllSmall ds → AllSmall (rest ds)
unfolding AllSmall
small_rest [] h = tt
small_rest (d ∷ ds) h = h.1

pub all_small : (ls : List Label) → AllSmall (savings ls)
unfolding AllSmall savings saving_of
all_small [] = tt
all_small (l ∷ ls) = (saving_small l.tag (worths_of l.tag l.roles (saving (savings ls)) (saving (rest (savings ls)))), past (savings ls) (all_small ls) (eqb l.tag 0) (eqb l.tag 1))
  where
    past : (ds : List (List ℕ)) → AllSmall ds → (x y : Bool) → AllSmall (cond x ds (cond y (rest (rest ds)) (rest ds)))
    past ds h true y = h
    past ds h false true = small_rest (rest ds) (small_rest ds h)
    past ds h false false = small_rest ds h
