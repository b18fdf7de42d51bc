-- Rule 1: the tests of operands say which of them have a kind, and which.
use Prim.Native.Nat.{ℕ, ◌+◌, ◌-◌, ◌≤◌, ◌<◌}
use mathlib.Core.Path.{◌≡◌, refl, sym, ap, ◌∙◌}
use mathlib.Core.Logic.{◌↔◌}
use mathlib.Core.Bool.{Bool, true, false, ◌&&◌, ◌||◌, and-eq-true_iff}
use mathlib.Core.List.{List}
use native.Mathlib.Omega.{arith}
use lib.Dec.{eqb, leb}
use lib.ListN.{length, get_or}
use borrow.Author.Tests.{eqb-true, eq-eqb, ltb-true, lt-ltb, lt-leb}
use Rattle.format.specs.Header.{Laid}
use Rattle.format.specs.Contents.{contents_at}
use Rattle.format.specs.declared.Head.{Head}
use Rattle.format.proofs.BoolLaws.{le_iff, and_iff}
use Rattle.format.proofs.ContentsLaws.{in_count_iff, users_held, channels_held}
use Rattle.rules.specs.Schema.{Schema, schema_of}
use Rattle.rules.specs.Names.{Bound, unbound, is_user, is_channel, is_variable, named, kind_of, mine}
use Rattle.reading_exact.specs.File.{InCount}
use Rattle.checking_exact.specs.Typing.{HasKind, a_user, a_channel, a_variable, Receivable, own_channel, own_new}

or_cases : (a b : Bool) (P : Type 0) → (a ≡ true → P) → (b ≡ true → P) → (a || b) ≡ true → P
or_cases true b P f g h = f refl
or_cases false b P f g h = g h

or_left : (a b : Bool) → a ≡ true → (a || b) ≡ true
or_left a b h = rw h

or_right : (a b : Bool) → b ≡ true → (a || b) ≡ true
or_right true b h = refl
or_right false b h = h

-- the ranges of users and channels do not meet
pub record Ranged (D : Schema) : Type 0 where
  pub users : D.users ≤ 256
  pub channels : D.channels ≤ 255

-- as in every file whose head is laid out
pub laid_ranged : (f : List ℕ) (h : Head) → Laid f h → Ranged (schema_of (contents_at f h))
laid_ranged f h l = record { users = omega (arith, users_held f h); channels = omega (arith, channels_held f h) }

module _ (D : Schema) where
  channel_iff : (x : ℕ) → (is_channel D x ≡ true) ↔ ((256 < x) × (x ≤ 256 + D.channels))
  channel_iff x = and_iff (ltb-true 256 x, lt-ltb 256 x) (λ l. le_iff x (256 + D.channels))

  variable_iff : (vs : List Bound) (x : ℕ) → (is_variable vs x ≡ true) ↔ ((511 < x) × (x < 512 + length vs))
  variable_iff vs x = and_iff (ltb-true 511 x, lt-ltb 511 x) (λ l. (ltb-true x (512 + length vs), lt-ltb x (512 + length vs)))

  pub mine_iff : (u : ℕ) (vs : List Bound) (x : ℕ) → (mine D u vs x ≡ true) ↔ Receivable D u vs x
  unfolding mine
  mine_iff u vs x = (to, back)
    where
      to : mine D u vs x ≡ true → Receivable D u vs x
      to =
          or_cases (is_channel D x && eqb (D.owner (x - 256)) u) (is_variable vs x && (get_or vs (x - 512) unbound).fresh) (Receivable D u vs x)
          (λ h.
          let (c, o) = (and-eq-true_iff (is_channel D x) (eqb (D.owner (x - 256)) u)).0 h in
          let (a, b) = (channel_iff x).0 c in
          own_channel (x - 256) (omega arith, omega arith) (omega arith) (eqb-true (D.owner (x - 256)) u o))
          (λ h.
          let (c, o) = (and-eq-true_iff (is_variable vs x) (get_or vs (x - 512) unbound).fresh).0 h in
          let (a, b) = (variable_iff vs x).0 c in
          own_new (x - 512) (omega arith) (omega arith) o)

      back : Receivable D u vs x → mine D u vs x ≡ true
      back (own_channel c n e o) =
          let d : x - 256 ≡ c = omega arith in
          or_left (is_channel D x && eqb (D.owner (x - 256)) u) _
          ((and-eq-true_iff (is_channel D x) (eqb (D.owner (x - 256)) u)).1
          ((channel_iff x).1 (omega arith, omega arith), eq-eqb (D.owner (x - 256)) u (ap D.owner d ∙ o)))
      back (own_new i l e o) =
          let d : x - 512 ≡ i = omega arith in
          or_right (is_channel D x && eqb (D.owner (x - 256)) u) _
          ((and-eq-true_iff (is_variable vs x) (get_or vs (x - 512) unbound).fresh).1
          ((variable_iff vs x).1 (omega arith, omega arith), ap (λ (j : ℕ). (get_or vs j unbound).fresh) d ∙ o))

  module _ (R : Ranged D) where
    user_kind : (vs : List Bound) (x : ℕ) → InCount D.users x → kind_of D vs x ≡ 0
    unfolding kind_of
    user_kind vs x c = rw ((in_count_iff D.users x).1 c)

    not_user : (x : ℕ) → 256 < x → is_user D x ≡ false
    not_user x l = let no : leb x D.users ≡ false = lt-leb x D.users (omega (arith, R.users)) in rw (lt-ltb 0 x (omega arith), no)

    channel_kind : (vs : List Bound) (c : ℕ) → InCount D.channels c → kind_of D vs (256 + c) ≡ D.kind c
    unfolding kind_of
    channel_kind vs c n =
        let d : 256 + c - 256 ≡ c = omega arith in
        rw (not_user (256 + c) (omega arith), (channel_iff (256 + c)).1 (omega arith, omega arith), d)

    variable_kind : (vs : List Bound) (i : ℕ) → kind_of D vs (512 + i) ≡ (get_or vs i unbound).sort
    unfolding kind_of
    variable_kind vs i =
        let d : 512 + i - 512 ≡ i = omega arith in
        let no : leb (512 + i) (256 + D.channels) ≡ false = lt-leb (512 + i) (256 + D.channels) (omega (arith, R.channels)) in
        rw (not_user (512 + i) (omega arith), lt-ltb 256 (512 + i) (omega arith), no, d)

    -- the kind computed is the kind had
    pub kind_at_lem : (vs : List Bound) (x k : ℕ) → HasKind D vs x k → kind_of D vs x ≡ k
    kind_at_lem vs x k (a_user c e) = user_kind vs x c ∙ sym e
    kind_at_lem vs x k (a_channel c n e f) = ap (kind_of D vs) e ∙ channel_kind vs c n ∙ sym f
    kind_at_lem vs x k (a_variable i l e f) = ap (kind_of D vs) e ∙ variable_kind vs i ∙ sym f

    pub named_kind : (vs : List Bound) (x : ℕ) → named D vs x ≡ true → HasKind D vs x (kind_of D vs x)
    unfolding named
    named_kind vs x =
        or_cases (is_user D x) (is_channel D x || is_variable vs x) (HasKind D vs x (kind_of D vs x))
        (λ h. let c = (in_count_iff D.users x).0 h in a_user c (user_kind vs x c))
        (or_cases (is_channel D x) (is_variable vs x) (HasKind D vs x (kind_of D vs x))
        (λ h.
        let (a, b) = (channel_iff x).0 h in
        let e : x ≡ 256 + (x - 256) = omega arith in
        let c : InCount D.channels (x - 256) = (omega arith, omega arith) in
        a_channel (x - 256) c e (ap (kind_of D vs) e ∙ channel_kind vs (x - 256) c))
        (λ h.
        let (a, b) = (variable_iff vs x).0 h in
        let e : x ≡ 512 + (x - 512) = omega arith in
        a_variable (x - 512) (omega arith) e (ap (kind_of D vs) e ∙ variable_kind vs (x - 512))))

    pub kind_named : (vs : List Bound) (x k : ℕ) → HasKind D vs x k → named D vs x ≡ true
    unfolding named
    kind_named vs x k (a_user c e) = or_left (is_user D x) _ ((in_count_iff D.users x).1 c)
    kind_named vs x k (a_channel c n e f) = or_right (is_user D x) _ (or_left (is_channel D x) _ ((channel_iff x).1 (omega arith, omega arith)))
    kind_named vs x k (a_variable i l e f) = or_right (is_user D x) _ (or_right (is_channel D x) _ ((variable_iff vs x).1 (omega arith, omega arith)))
