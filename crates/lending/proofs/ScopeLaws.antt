-- A context's user, number of variables and kinds, read back from the one number that keeps them.
use Prim.Native.Nat.{ℕ, zero, suc, ◌+◌, ◌*◌, ◌/◌, ◌%◌, ◌^◌, ◌≤◌, ◌<◌}
use mathlib.Core.Path.{◌≡◌, refl, sym, ap, ◌∙◌}
use mathlib.Core.List.{List, [], ◌∷◌, ◌++◌, append_assoc, append-nil}
use native.Mathlib.Nat.{mul_left_comm, mod-eq_of_lt}
use native.Mathlib.Omega.{arith}
use lib.ListN.{length, get_or, length-append}
use lib.Pow.{shr-shr, pow-add, pow_mono}
use borrow.Author.Tests.{lt-ltb}
use Rattle.rules.specs.Names.{Bound, unbound}
use Rattle.rules.specs.Rules.{Context}
use Rattle.naming.specs.Scopes.{user_in, bound_in, kind_at, bind_scope, scope_from, scope_of}
use Rattle.reading_exact.specs.Lists.{All}
use Rattle.reading_exact.proofs.AllLaws.{all_append}
use Rattle.lending.specs.Scopes.{Narrow}

-- kinds below 64 as one number, the first lowest
unfoldable digits : List Bound → ℕ
digits [] = 0
digits (b ∷ bs) = b.sort + 64 * digits bs

abbrev Low : List Bound → Type 0
Low bs = All (λ (b : Bound). b.sort < 64) bs

-- one of them, the first at index 0
digit_at : (bs : List Bound) (i : ℕ) → i < length bs → Low bs → digits bs / 2 ^ (6 * i) % 64 ≡ (get_or bs i unbound).sort
unfolding digits
digit_at [] i h a = absurd (omega arith)
digit_at (b ∷ bs) zero h a = omega (arith, a.0)
digit_at (b ∷ bs) (suc i) h a =
    let all : ℕ = b.sort + 64 * digits bs in
    let rest : all / 2 ^ 6 ≡ digits bs = omega (arith, a.0) in
    let up : 6 * suc i ≡ 6 + 6 * i = omega arith in
    rw (up, ← shr-shr all 6 (6 * i), rest) (digit_at bs i (omega arith) a.1)

-- one more has the next place
place_next : (n : ℕ) → 2 ^ (6 * suc n) ≡ 64 * 2 ^ (6 * n)
place_next n = let e : 6 * suc n ≡ 6 + 6 * n = omega arith in ap (λ (k : ℕ). 2 ^ k) e ∙ pow-add 2 6 (6 * n)

digits_below : (bs : List Bound) → Low bs → digits bs < 2 ^ (6 * length bs)
unfolding digits
digits_below [] h = omega arith
digits_below (b ∷ bs) h = rw (place_next (length bs)) (omega (arith, h.0, digits_below bs h.1))

digits_more : (bs : List Bound) (b : Bound) → digits (bs ++ (b ∷ [])) ≡ digits bs + b.sort * 2 ^ (6 * length bs)
unfolding digits
digits_more [] b = omega arith
digits_more (x ∷ bs) b =
    rw (place_next (length bs), digits_more bs b)
    (omega (arith, mul_left_comm b.sort 64 (2 ^ (6 * length bs))))

-- a user, the number of variables and their kinds
abbrev packed : ℕ → List Bound → ℕ
packed u bs = u + 64 * length bs + 1024 * digits bs

packed_bound : (u : ℕ) (bs : List Bound) → u < 64 → length bs ≤ 8 → bound_in (packed u bs) ≡ length bs
packed_bound u bs small few =
    let up : packed u bs / 64 ≡ length bs + 16 * digits bs = omega arith in
    ap (λ (k : ℕ). k % 16) up ∙ omega arith

-- a number below the ninth place takes one variable more
bind_below : (w k n : ℕ) → bound_in w ≡ n → n < 8 → w < 2 ^ 58 → k < 64 → bind_scope w k ≡ w + 64 + k * 2 ^ (10 + 6 * n)
unfolding bind_scope
bind_below w k n e room small l =
    let a : w % 2 ^ 58 ≡ w = mod-eq_of_lt small in
    let b : k % 64 ≡ k = mod-eq_of_lt l in
    rw (e, lt-ltb n 8 room, a, b)

packed_more : (u : ℕ) (bs : List Bound) (b : Bound) → u < 64 → length bs < 8 → Low bs → b.sort < 64 → bind_scope (packed u bs) b.sort ≡ packed u (bs ++ (b ∷ []))
packed_more u bs b user room low kind = bind_below (packed u bs) b.sort n (packed_bound u bs user (omega arith)) room small kind ∙ more
  where
    n : ℕ
    n = length bs

    small : packed u bs < 2 ^ 58
    small =
        let few : 2 ^ (6 * n) ≤ 2 ^ 42 = pow_mono {i = 6 * n} {j = 42} (omega arith) in
        omega (arith, few, digits_below bs low)

    more : packed u bs + 64 + b.sort * 2 ^ (10 + 6 * n) ≡ packed u (bs ++ (b ∷ []))
    more = rw (pow-add 2 10 (6 * n), length-append bs (b ∷ []), digits_more bs b) (omega (arith, mul_left_comm b.sort 1024 (2 ^ (6 * n))))

-- and one after the other
packed_all : (u : ℕ) (bs cs : List Bound) → u < 64 → length bs + length cs ≤ 8 → Low bs → Low cs → scope_from (packed u bs) cs ≡ packed u (bs ++ cs)
unfolding scope_from
packed_all u bs [] user few low kinds = ap (packed u) (sym (append-nil bs))
packed_all u bs (c ∷ cs) user few low kinds =
    let longer : length (bs ++ (c ∷ [])) ≡ length bs + 1 = length-append bs (c ∷ []) in
    ap (λ (w : ℕ). scope_from w cs) (packed_more u bs c user (omega arith) low kinds.0)
    ∙ packed_all u (bs ++ (c ∷ [])) cs user (omega (arith, longer)) (all_append (λ (b : Bound). b.sort < 64) bs (c ∷ []) low (kinds.0, tt)) kinds.1
    ∙ ap (packed u) (append_assoc bs (c ∷ []) cs)

-- a context that is kept as w
module _ (c : Context) (w : ℕ) (its : w ≡ scope_of c) (narrow : Narrow c) where
  sum : w ≡ packed c.user c.vars
  unfolding scope_of digits
  sum =
      let first : c.user % 64 ≡ packed c.user [] = omega (arith, narrow.user) in
      its ∙ ap (λ (k : ℕ). scope_from k c.vars) first ∙ packed_all c.user [] c.vars narrow.user (omega (arith, narrow.bound)) tt narrow.kinds

  -- its user
  pub user_in_lem : user_in w ≡ c.user
  user_in_lem = omega (arith, sum, narrow.user)

  -- how many variables are bound
  pub bound_in_lem : bound_in w ≡ length c.vars
  bound_in_lem = ap bound_in sum ∙ packed_bound c.user c.vars narrow.user narrow.bound

  -- the kind of one of them
  pub kind_at_lem : (i : ℕ) → i < length c.vars → kind_at w i ≡ (get_or c.vars i unbound).sort
  kind_at_lem i h =
      let up : w / 2 ^ 10 ≡ digits c.vars = omega (arith, sum, narrow.user, narrow.bound) in
      rw (← shr-shr w 10 (6 * i), up) (digit_at c.vars i h narrow.kinds)

-- it keeps below the place of the kind that a thread waits for
pub scope_low : (c : Context) → Narrow c → scope_of c < 2 ^ 58
scope_low c narrow =
    let is = sum c (scope_of c) refl narrow in
    let few : 2 ^ (6 * length c.vars) ≤ 2 ^ 48 = pow_mono {i = 6 * length c.vars} {j = 48} (omega (arith, narrow.bound)) in
    omega (arith, is, few, digits_below c.vars narrow.kinds, narrow.user, narrow.bound)
