-- Laws of lines.
use Prim.Native.Nat.{ℕ, zero, suc}
use mathlib.Core.Path.{◌≡◌, refl, sym, ap, ◌∙◌}
use mathlib.Core.Logic.{◌↔◌, ◌⊎◌, inl, inr}
use mathlib.Core.Bool.{Bool, true, false, cond, ◌||◌, true≢false, false≢true}
use mathlib.Core.List.{List, [], ◌∷◌, ◌++◌}
use lib.Dec.{eqb}
use borrow.Author.Tests.{eqb-true, eqb-false, eq-eqb, ne_eqb}
use Rattle.format.proofs.BoolLaws.{or_fails}
use Rattle.running.specs.Ways.{stands_in}
use Rattle.rounds.specs.Rounds.{In}
use Rattle.seats.specs.Seats.{in_line, line_with}
use Rattle.seats.specs.SeatOrder.{Distinct, ahead}

-- of two tests one holds
pub or_splits : (a b : Bool) → (a || b) ≡ true → (a ≡ true) ⊎ (b ≡ true)
or_splits true b h = inl refl
or_splits false b h = inr h

pub either_right : (a b : Bool) → b ≡ true → (a || b) ≡ true
either_right true b h = refl
either_right false b h = h

pub either_left : (a b : Bool) → a ≡ true → (a || b) ≡ true
either_left true b h = refl
either_left false b h = absurd (false≢true h)

-- a session is in line exactly where it is one of the line's
member_of : (k : ℕ) (l : List ℕ) → in_line k l ≡ true → In k l
unfolding stands_in
member_of k [] h = absurd (false≢true h)
member_of k (y ∷ ys) h = go (eqb y k) refl h (member_of k ys)
  where
    go : (b : Bool) → eqb y k ≡ b → (b || in_line k ys) ≡ true → (in_line k ys ≡ true → In k ys) → (k ≡ y) ⊎ In k ys
    go true e q r = inl (sym (eqb-true y k e))
    go false e q r = inr (r q)

of_member : (k : ℕ) (l : List ℕ) → In k l → in_line k l ≡ true
unfolding stands_in
of_member k [] h = absurd h
of_member k (y ∷ ys) (inl e) = either_left (eqb y k) (in_line k ys) (eq-eqb y k (sym e))
of_member k (y ∷ ys) (inr r) = either_right (eqb y k) (in_line k ys) (of_member k ys r)

pub in-line-member : (k : ℕ) (l : List ℕ) → (in_line k l ≡ true) ↔ In k l
in-line-member k l = (member_of k l, of_member k l)

pub never : {A : Type 0} {b : Bool} → b ≡ true → b ≡ false → A
never h e = absurd (true≢false (sym h ∙ e))

pub in-none : (k : ℕ) → in_line k [] ≡ true → ⊥
unfolding stands_in
in-none k x = false≢true x

-- one more at the end
pub in-snoc : (k x : ℕ) (l : List ℕ) → in_line k (l ++ (x ∷ [])) ≡ true → (in_line k l ≡ true) ⊎ (k ≡ x)
unfolding stands_in
in-snoc k x [] h = go (or_splits (eqb x k) false h)
  where
    go : (eqb x k ≡ true) ⊎ (false ≡ true) → (false ≡ true) ⊎ (k ≡ x)
    go (inl e) = inr (sym (eqb-true x k e))
    go (inr e) = inl e
in-snoc k x (y ∷ l) h = go (or_splits (eqb y k) (in_line k (l ++ (x ∷ []))) h) (in-snoc k x l)
  where
    go : (eqb y k ≡ true) ⊎ (in_line k (l ++ (x ∷ [])) ≡ true) → (in_line k (l ++ (x ∷ [])) ≡ true → (in_line k l ≡ true) ⊎ (k ≡ x))
        → ((eqb y k || in_line k l) ≡ true) ⊎ (k ≡ x)
    go (inl e) f = inl (either_left (eqb y k) (in_line k l) e)
    go (inr e) f = back (f e)
      where
        back : (in_line k l ≡ true) ⊎ (k ≡ x) → ((eqb y k || in_line k l) ≡ true) ⊎ (k ≡ x)
        back (inl d) = inl (either_right (eqb y k) (in_line k l) d)
        back (inr d) = inr d

-- all but the one that joins stay out
out_snoc : (k x : ℕ) (l : List ℕ) → in_line k l ≡ false → (k ≡ x → ⊥) → in_line k (l ++ (x ∷ [])) ≡ false
out_snoc k x l h n = go (in_line k (l ++ (x ∷ []))) refl
  where
    go : (b : Bool) → in_line k (l ++ (x ∷ [])) ≡ b → b ≡ false
    go false e = refl
    go true e = no (in-snoc k x l e)
      where
        no : (in_line k l ≡ true) ⊎ (k ≡ x) → true ≡ false
        no (inl d) = never d h
        no (inr d) = absurd (n d)

pub distinct_snoc : (l : List ℕ) (x : ℕ) → Distinct l → in_line x l ≡ false → Distinct (l ++ (x ∷ []))
unfolding stands_in
distinct_snoc [] x d h = (refl, tt)
distinct_snoc (y ∷ l) x d h =
    let (a, b) = or_fails (eqb y x) (in_line x l) h in
    (out_snoc y x l d.0 (eqb-false y x a), distinct_snoc l x d.1 b)

pub in_tail : (k x : ℕ) (l : List ℕ) → in_line k l ≡ true → in_line k (x ∷ l) ≡ true
unfolding stands_in
in_tail k x l h = either_right (eqb x k) (in_line k l) h

-- those before k stay the same where another joins
pub ahead_snoc : (k x : ℕ) (l : List ℕ) → in_line k l ≡ true → ahead k (l ++ (x ∷ [])) ≡ ahead k l
unfolding stands_in ahead
ahead_snoc k x [] h = absurd (false≢true h)
ahead_snoc k x (y ∷ l) h = go (eqb y k) h (ahead_snoc k x l)
  where
    go : (b : Bool) → (b || in_line k l) ≡ true → (in_line k l ≡ true → ahead k (l ++ (x ∷ [])) ≡ ahead k l)
        → ◌≡◌ {A = List ℕ} (cond b [] (y ∷ ahead k (l ++ (x ∷ [])))) (cond b [] (y ∷ ahead k l))
    go true e f = refl
    go false e f = ap {B = List ℕ} (λ m. y ∷ m) (f e)

-- and are the same less the head where the head leaves
pub ahead_head : (k x : ℕ) (l : List ℕ) → Distinct (x ∷ l) → in_line k l ≡ true → ahead k (x ∷ l) ≡ x ∷ ahead k l
unfolding ahead
ahead_head k x l d h = go (eqb x k) refl
  where
    go : (b : Bool) → eqb x k ≡ b → ◌≡◌ {A = List ℕ} (cond b [] (x ∷ ahead k l)) (x ∷ ahead k l)
    go true e = never h (ap (λ (z : ℕ). in_line z l) (sym (eqb-true x k e)) ∙ d.0)
    go false e = refl
