-- Grants: a lookup, a mask of roles, and the table of these masks.
use Prim.Native.Nat.{ℕ, zero, suc, ◌+◌, ◌^◌, ◌≤◌, ◌<◌}
use mathlib.Core.Path.{◌≡◌, refl, sym, ap, ◌∙◌}
use mathlib.Core.Bool.{Bool, true, false, cond, not, ◌||◌}
use mathlib.Core.List.{List, [], ◌∷◌, ◌++◌, append_assoc, append-nil}
use native.Mathlib.Omega.{arith}
use native.Mathlib.Numerals.{add-one}
use lib.ListN.{length, get_or, take, drop, set, replicate, drop_of_length-le, get_or-eq_default}
use lib.Bits.{bit_and, and_zero_l}
use lib.Dec.{eqb, ltb}
use lib.Seq.{take_all, drop-cons, take-suc-set, drop-set-lt}
use borrow.Author.Tests.{ltb-true, ltb-false}
use Rattle.masks.specs.Mask.{with}
use Rattle.masks.proofs.Laws.{has_above}
use Rattle.masks.specs.declared.ChannelKind.{ChannelKind}
use Rattle.format.specs.Contents.{Contents}
use Rattle.rules.specs.declared.Way.{Way}
use Rattle.rules.specs.Schema.{Schema, own_grants, juniors_in, schema_of, permits, permitting_to, permitting}
use Rattle.rules.specs.Kept.{grants_to, grants_from, joins, joined, add_role, Beyond, Granting}
use Rattle.rules.proofs.JuniorGrants.{joins_permits}

-- one role more
pub permitting_more : (D : Schema) (w : Way) (k : ChannelKind) (n m : ℕ) (can : Bool) → m ≡ permitting_to D w k n → can ≡ permits D w (record { 0 = n + 1 }) k
    → cond can (with m (n + 1)) m ≡ permitting_to D w k (n + 1)
unfolding permitting_to
permitting_more D w k n m can e y = rw (e, y, add-one n)

-- the masks with a role more from the kind k on, and as they are below it
abbrev pub add_from : ℕ → ℕ → ℕ → ℕ → List ℕ → List ℕ
add_from g j r k l = take k l ++ add_role g j r k (drop k l)

-- one kind done, the rest to do
pub add_next : (g j r : ℕ) (l : List ℕ) (k v : ℕ) → k < length l → v ≡ joined g j r k (get_or l k 0) → add_from g j r (k + 1) (set l k v) ≡ add_from g j r k l
unfolding add_role
add_next g j r l k v lt e =
    rw (add-one k, take-suc-set l k v lt, drop-set-lt (suc k) l k v (omega arith), drop-cons l k 0 lt, e)
    (append_assoc (take k l) (joined g j r k (get_or l k 0) ∷ []) (add_role g j r (suc k) (drop (suc k) l)))

-- and all done
pub add_done : (g j r : ℕ) (l : List ℕ) (k : ℕ) → length l ≤ k → add_from g j r k l ≡ l
unfolding add_role
add_done g j r l k le = rw (take_all k l le, drop_of_length-le l {i = k} le) (append-nil l)

-- a role more in all of them
pub grants_more : (C : Contents) (w : Way) (g j r k n : ℕ) → r < length C.roles → g ≡ own_grants C w (r + 1) → j ≡ juniors_in C (r + 1)
    → add_role g j (r + 1) k (grants_to (schema_of C) w r k n) ≡ grants_to (schema_of C) w (r + 1) k n
unfolding add_role grants_to
grants_more C w g j r k zero l eg ej = refl
grants_more C w g j r k (suc n) l eg ej =
    let K : ChannelKind = record { 0 = k } in
    let m : ℕ = permitting_to (schema_of C) w K r in
    let first : joined g j (r + 1) k m ≡ permitting_to (schema_of C) w K (r + 1) =
    permitting_more (schema_of C) w K r m (joins g j m k) refl (joins_permits C w K r g j l eg ej) in
    rw (first, grants_more C w g j r (suc k) n l eg ej)

-- no role yet
pub grants_begin : (D : Schema) (w : Way) (k n : ℕ) → replicate n 0 ≡ grants_to D w 0 k n
unfolding grants_to permitting_to
grants_begin D w k zero = refl
grants_begin D w k (suc n) = ap (λ (x : List ℕ). 0 ∷ x) (grants_begin D w (suc k) n)

-- a look into the table
grant_at : (D : Schema) (w : Way) (k n i : ℕ) → i < n → get_or (grants_from D w k n) i 0 ≡ permitting D w (k + i)
unfolding grants_to
grant_at D w k zero i h = let no : ⊥ = omega arith in absurd no
grant_at D w k (suc n) zero h = let z : k + 0 ≡ k = omega arith in rw z
grant_at D w k (suc n) (suc i) h = let s : suc k + i ≡ k + suc i = omega arith in rw s at (grant_at D w (suc k) n i (omega arith))

pub grants_length : (D : Schema) (w : Way) (r k n : ℕ) → length (grants_to D w r k n) ≡ n
unfolding grants_to
grants_length D w r k zero = refl
grants_length D w r k (suc n) = ap suc (grants_length D w r (suc k) n)

-- kinds above 32: none of them is in a mask of 32 bits
pub beyond_none : (D : Schema) (w : Way) → Beyond D w 0
unfolding permitting_to
beyond_none D w k h = refl

pub beyond_more : (C : Contents) (w : Way) (g j r : ℕ) → r < length C.roles → g ≡ own_grants C w (r + 1) → j ≡ juniors_in C (r + 1) → g < 2 ^ 32
    → Beyond (schema_of C) w r → Beyond (schema_of C) w (r + 1)
beyond_more C w g j r l eg ej small ih k above =
    let K : ChannelKind = record { 0 = k } in
    let m : ℕ = permitting_to (schema_of C) w K r in
    let none : joins g j m k ≡ false =
    ap (λ b. b || not (eqb (bit_and m j) 0)) (has_above 32 g k small above)
    ∙ ap (λ (x : ℕ). not (eqb (bit_and x j) 0)) (ih k above)
    ∙ ap (λ (x : ℕ). not (eqb x 0)) (and_zero_l j) in
    sym (permitting_more (schema_of C) w K r m (joins g j m k) refl (joins_permits C w K r g j l eg ej)) ∙ rw none (ih k above)

pub granting : (D : Schema) (w : Way) (l : List ℕ) (n : ℕ) → l ≡ grants_from D w 0 n → n ≡ 33 → Beyond D w D.roles → Granting D w l
granting D w l n e all past k = go (ltb k n) refl
  where
    go : (b : Bool) → ltb k n ≡ b → get_or l k 0 ≡ permitting D w k
    go true t = let z : 0 + k ≡ k = omega arith in ap (λ x. get_or x k 0) e ∙ (rw z at (grant_at D w 0 n k (ltb-true k n t)))
    go false t =
        let above : n ≤ k = ltb-false k n t in
        get_or-eq_default l 0 (omega (arith, ap length e, grants_length D w D.roles 0 n)) ∙ sym (past k (omega arith))
