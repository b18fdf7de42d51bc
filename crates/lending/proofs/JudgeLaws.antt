-- What is lent, judged item by item as the code goes.
use Prim.Native.Nat.{ℕ, ◌+◌, ◌*◌, ◌≤◌, ◌<◌, ◌%◌, ◌^◌}
use mathlib.Core.Path.{◌≡◌, sym, ap, ◌∙◌}
use mathlib.Core.Bool.{Bool, true, false, ◌&&◌}
use mathlib.Core.List.{List, []}
use native.Mathlib.Omega.{arith}
use native.Mathlib.Numerals.{add-one}
use lib.Dec.{eqb, leb, ltb}
use lib.ListN.{length, get_or, take, drop, drop_of_length-le}
use lib.Seq.{drop-cons, length-take-le, get_or-take}
use borrow.Author.Tests.{eq-eqb, ne_eqb, lt-ltb, le-ltb, le-leb, lt-leb}
use Rattle.masks.specs.Mask.{within}
use Rattle.format.specs.Contents.{Contents, in_count}
use Rattle.rules.specs.Schema.{Schema, schema_of}
use Rattle.rules.specs.Names.{unbound}
use Rattle.rules.specs.Rules.{Context}
use Rattle.naming.specs.Scopes.{user_in, bound_in, kind_at, scope_of}
use Rattle.steps.specs.declared.Thread.{Thread}
use Rattle.steps.specs.declared.Made.{Made}
use Rattle.steps.specs.Threads.{no_made}
use Rattle.steps.specs.Beside.{made_in, made_at}
use Rattle.steps.specs.Choice.{kind_held}
use Rattle.steps.proofs.ActLaws.{length_made, made_get}
use Rattle.lending.specs.Lent.{context_at, is_value, vars_fit, thread_fits, made_fits, every}
use Rattle.lending.specs.Scopes.{Narrow, Scoped}
use Rattle.lending.proofs.ScopeLaws.{user_in_lem, bound_in_lem, kind_at_lem}

-- a test of all elements, from one of them on, and with none left
every_step : {A : Type 0} (test : A → Bool) (l : List A) (k : ℕ) (d : A) → k < length l → every test (drop k l) ≡ (test (get_or l k d) && every test (drop (k + 1) l))
unfolding every
every_step test l k d h = rw (drop-cons l k d h, add-one k)

every_done : {A : Type 0} (test : A → Bool) (l : List A) (k : ℕ) → length l ≤ k → every test (drop k l) ≡ true
unfolding every
every_done test l k h = rw (drop_of_length-le l h)

-- the same of the first n: r tells whether the one at k passes
pub first_step : {A : Type 0} (test : A → Bool) (l : List A) (n k : ℕ) (d : A) (b r : Bool) → k < n → n ≤ length l → r ≡ test (get_or l k d) → r ≡ b
    → every test (drop k (take n l)) ≡ (b && every test (drop (k + 1) (take n l)))
first_step test l n k d b r h le e f =
    every_step test (take n l) k d (omega (arith, length-take-le n l le)) ∙ rw (get_or-take n l k d h, ← e, f)

pub first_done : {A : Type 0} (test : A → Bool) (l : List A) (n k : ℕ) → n ≤ k → n ≤ length l → every test (drop k (take n l)) ≡ true
first_done test l n k h le = every_done test (take n l) k (omega (arith, length-take-le n l le))

-- the made channels in the words beside a list: one of them, and no more of them
module _ (D : Schema) (b : List ℕ) (n k u q : ℕ) (users : D.users ≡ u) (kinds : D.kinds ≡ q) where
  abbrev made_from : ℕ → Bool
  made_from i = every (made_fits D) (drop i (made_in b 2 n))

  pub made_done : n ≤ k → made_from k ≡ true
  made_done h = every_done (made_fits D) (made_in b 2 n) k (omega (arith, length_made b 2 n))

  module _ (it : Made) (read : it ≡ made_at b (2 * k + 2)) (h : k < n) where
    made_step : made_from k ≡ ((in_count u it.owner && in_count q it.kind.0) && made_from (k + 1))
    unfolding made_fits
    made_step =
        every_step (made_fits D) (made_in b 2 n) k no_made (omega (arith, h, length_made b 2 n))
        ∙ ap (λ (m : Made). made_fits D m && made_from (k + 1)) (made_get b 2 n k h ∙ sym read)
        ∙ rw (users, kinds)

    pub made_owner : in_count u it.owner ≡ false → made_from k ≡ false
    made_owner e = made_step ∙ rw e

    pub made_kind : in_count u it.owner ≡ true → in_count q it.kind.0 ≡ false → made_from k ≡ false
    made_kind e g = made_step ∙ rw (e, g)

    pub made_fits_lem : in_count u it.owner ≡ true → in_count q it.kind.0 ≡ true → made_from k ≡ made_from (k + 1)
    made_fits_lem e g = made_step ∙ rw (e, g)

-- what may be a value: a user, a channel of the file, a made channel
module _ (D : Schema) (made : List Made) (v u c : ℕ) (users : D.users ≡ u) (channels : D.channels ≡ c) where
  pub value_user : in_count u v ≡ true → true ≡ is_value D made v
  unfolding is_value
  value_user e = rw (users, e)

  pub value_low : in_count u v ≡ false → v ≤ 256 → false ≡ is_value D made v
  unfolding is_value
  value_low e h = rw (users, e, le-ltb 256 v h, le-ltb 384 v (omega arith))

  pub value_channel : in_count u v ≡ false → 256 < v → v ≤ 256 + c → true ≡ is_value D made v
  unfolding is_value
  value_channel e h l = rw (users, channels, e, lt-ltb 256 v h, le-leb v (256 + c) l)

  pub value_made : (n : ℕ) → length made ≡ n → in_count u v ≡ false → 256 < v → 256 + c < v → (ltb 384 v && leb v (384 + n)) ≡ is_value D made v
  unfolding is_value
  value_made n m e h l = rw (users, channels, e, lt-ltb 256 v h, lt-leb v (256 + c) l, m)

-- a thread's variables in a context that is kept as w: a bound one, one that is not bound, and no more of them
module _ (D : Schema) (made : List Made) (vs : List ℕ) (c : Context) (w : ℕ) (its : w ≡ scope_of c) (narrow : Narrow c) (k : ℕ) where
  abbrev fit_from : ℕ → Bool
  fit_from i = vars_fit D made (drop i c.vars) (drop i vs)

  vars_step : k < length c.vars → k < length vs
      → fit_from k ≡ ((is_value D made (get_or vs k 0) && eqb (kind_held D made (get_or vs k 0)) (get_or c.vars k unbound).sort) && fit_from (k + 1))
  unfolding vars_fit
  vars_step h l = rw (drop-cons c.vars k unbound h, drop-cons vs k 0 l, add-one k)

  -- r tells whether the value is one of the kind
  pub vars_bound : (b r : Bool) (kind : ℕ) → k < bound_in w → k < length vs → kind ≡ kind_at w k
      → r ≡ (is_value D made (get_or vs k 0) && eqb (kind_held D made (get_or vs k 0)) kind) → r ≡ b → fit_from k ≡ (b && fit_from (k + 1))
  vars_bound b r kind h l q e f =
      let short : k < length c.vars = omega (arith, bound_in_lem c w its narrow) in
      let same : kind ≡ (get_or c.vars k unbound).sort = q ∙ kind_at_lem c w its narrow k short in
      vars_step short l ∙ rw (← same, ← e, f)

  pub vars_free : (b : Bool) → bound_in w ≤ k → k < length vs → eqb (get_or vs k 0) 0 ≡ b → fit_from k ≡ (b && fit_from (k + 1))
  unfolding vars_fit
  vars_free b h l e =
      let all : length c.vars ≤ k = omega (arith, bound_in_lem c w its narrow) in
      let none : drop (k + 1) c.vars ≡ [] = drop_of_length-le c.vars {i = k + 1} (omega arith) in
      rw (drop_of_length-le c.vars all, none, drop-cons vs k 0 l, add-one k, e)

  pub vars_done : 8 ≤ k → length vs ≤ k → fit_from k ≡ true
  unfolding vars_fit
  vars_done h l =
      let all : length c.vars ≤ k = omega (arith, narrow.bound) in
      rw (drop_of_length-le c.vars all, drop_of_length-le vs l)

-- a thread: at no node in count; and at one, by a table that has what its node asks
pub thread_nowhere : (C : Contents) (made : List Made) (t : Thread) → in_count (length C.nodes) t.node ≡ false → false ≡ thread_fits C made t
unfolding thread_fits
thread_nowhere C made t e = rw e

module _ (C : Contents) (made : List Made) (t : Thread) (table : List ℕ) (j : ℕ) (its : Scoped C table) (at : j ≡ t.node)
    (node : in_count (length C.nodes) t.node ≡ true) (w : ℕ) (is : w ≡ get_or table j 0 % 2 ^ 58) where
  kept : (w ≡ scope_of (context_at C t.node)) × Narrow (context_at C t.node)
  kept = let q = its.contexts t.node node in (is ∙ ap (λ (i : ℕ). get_or table i 0 % 2 ^ 58) at ∙ q.0, q.1)

  user : user_in w ≡ (context_at C t.node).user
  user = user_in_lem (context_at C t.node) w kept.0 kept.1

  pub thread_user : (t.user ≡ user_in w → ⊥) → false ≡ thread_fits C made t
  unfolding thread_fits
  thread_user d = rw (node, ne_eqb t.user (context_at C t.node).user (λ e. d (e ∙ sym user)))

  pub thread_mask : t.user ≡ user_in w → within t.mask ((schema_of C).assigned t.user) ≡ false → false ≡ thread_fits C made t
  unfolding thread_fits
  thread_mask e m = rw (node, eq-eqb t.user (context_at C t.node).user (e ∙ user), m)

  pub thread_vars : (r : Bool) → t.user ≡ user_in w → within t.mask ((schema_of C).assigned t.user) ≡ true
      → ((c : Context) → w ≡ scope_of c → Narrow c → r ≡ vars_fit (schema_of C) made c.vars t.vars) → r ≡ thread_fits C made t
  unfolding thread_fits
  thread_vars r e m v =
      rw (node, eq-eqb t.user (context_at C t.node).user (e ∙ user), m) (v (context_at C t.node) kept.0 kept.1)
