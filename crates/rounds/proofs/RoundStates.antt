-- The marks of a computed round beside the labels and the set of the relation.
use Prim.Native.Nat.{ℕ, suc, ◌+◌, ◌≤◌, ◌<◌}
use mathlib.Core.Path.{◌≡◌, refl, sym, ap, ◌∙◌, subst}
use mathlib.Core.Logic.{◌↔◌, inl, inr, ◌≢◌}
use mathlib.Core.Bool.{Bool, true, false, false≢true}
use mathlib.Core.List.{List, [], ◌∷◌, ◌++◌}
use native.Mathlib.Omega.{arith}
use lib.Dec.{eqb, ltb}
use lib.ListN.{length, get_or, set, replicate, length-set, length-replicate, get_or-replicate}
use lib.Seq.{get_or-set_same, get_or-set_other}
use borrow.Author.Tests.{ltb-true, ltb-false, eqb-true, eqb-false}
use Rattle.rounds.specs.Round.{without_item}
use Rattle.rounds.specs.Rounds.{In, numbers}
use Rattle.rounds.proofs.PlaceLaws.{without_item_below, without_item_above, get_d_snoc, length_without_item, numbers_at, numbers_past}

-- k threads are left to visit, the first in place a, with the number v at the start
pub record Keeping (k a : ℕ) (ms : List Bool) (v : ℕ) (ls : List ℕ) (moved : List ℕ) : Type 0 where
  pub sum : a + k ≡ length ms
  pub number : 1 ≤ v
  pub from_start : (j : ℕ) → j < length ms → 1 ≤ get_or ls j 0
  pub made : (j : ℕ) → length ms ≤ j → get_or ls j 0 ≡ 0
  pub rising : (x y : ℕ) → x < y → y < length ms → get_or ls x 0 < get_or ls y 0
  pub unvisited : (b : ℕ) → a ≤ b → b < length ms → get_or ls b 0 + a ≡ v + b
  pub marked : (j : ℕ) → j < length ms → (get_or ms j false ≡ true) ↔ In (get_or ls j 0) moved

module _ {k a v : ℕ} {ms : List Bool} {ls moved : List ℕ} (K : Keeping k a ms v ls moved) where
  -- a label that is not 0 is that of a thread of the start
  pub inside : (j u : ℕ) → 1 ≤ u → get_or ls j 0 ≡ u → j < length ms
  inside j u l e = go (ltb j (length ms)) refl
    where
      go : (b : Bool) → ltb j (length ms) ≡ b → j < length ms
      go true t = ltb-true j (length ms) t
      go false t = let z : get_or ls j 0 ≡ 0 = K.made j (ltb-false j (length ms) t) in let never : ⊥ = omega (arith, z, e, l) in absurd never

  -- and at one only
  pub injective : (x y : ℕ) → x < length ms → y < length ms → get_or ls x 0 ≡ get_or ls y 0 → x ≡ y
  injective x y lx ly e = go (ltb x y) (ltb y x) refl refl
    where
      go : (b c : Bool) → ltb x y ≡ b → ltb y x ≡ c → x ≡ y
      go true c p q = let h : get_or ls x 0 < get_or ls y 0 = K.rising x y (ltb-true x y p) ly in let never : ⊥ = omega (arith, h, e) in absurd never
      go false true p q = let h : get_or ls y 0 < get_or ls x 0 = K.rising y x (ltb-true y x q) lx in let never : ⊥ = omega (arith, h, e) in absurd never
      go false false p q = let h : y ≤ x = ltb-false x y p in let h' : x ≤ y = ltb-false y x q in omega (arith, h, h')

  pub unmarked : (j : ℕ) → j < length ms → get_or ms j false ≡ false → In (get_or ls j 0) moved → ⊥
  unmarked j l e h = false≢true (sym e ∙ (K.marked j l).1 h)

  pub not_marked : (j : ℕ) → j < length ms → (In (get_or ls j 0) moved → ⊥) → get_or ms j false ≡ false
  not_marked j l f = go (get_or ms j false) refl
    where
      go : (b : Bool) → get_or ms j false ≡ b → b ≡ false
      go true e = absurd (f ((K.marked j l).0 e))
      go false e = refl

  -- nothing moved
  pub skip : (k' : ℕ) → k ≡ suc k' → Keeping k' (suc a) ms (suc v) ls moved
  skip k' e = record {
    sum = omega (arith, e, K.sum);
    number = omega arith;
    from_start = K.from_start;
    made = K.made;
    rising = K.rising;
    unvisited = λ b l h. omega (arith, K.unvisited b (omega (arith, l)) h);
    marked = K.marked;
  }

  -- a thread moved
  pub mark : (x u : ℕ) → x < length ms → get_or ls x 0 ≡ u → Keeping k a (set ms x true) v ls (u ∷ moved)
  mark x u l e =
      let n : length (set ms x true) ≡ length ms = length-set ms x true in
      record {
        sum = K.sum ∙ sym n;
        number = K.number;
        from_start = λ j h. K.from_start j (omega (arith, h, n));
        made = λ j h. K.made j (omega (arith, h, n));
        rising = λ y z h h'. K.rising y z h (omega (arith, h', n));
        unvisited = λ b h h'. K.unvisited b h (omega (arith, h', n));
        marked = λ j h. at j (omega (arith, h, n)) (eqb j x) refl;
      }
    where
      at : (j : ℕ) → j < length ms → (b : Bool) → eqb j x ≡ b → (get_or (set ms x true) j false ≡ true) ↔ In (get_or ls j 0) (u ∷ moved)
      at j h true t =
          let same : j ≡ x = eqb-true j x t in (
            λ _. inl (ap (λ (y : ℕ). get_or ls y 0) same ∙ e),
            λ _. ap (λ (y : ℕ). get_or (set ms x true) y false) same ∙ get_or-set_same ms x true false l,
          )
      at j h false t =
          let other : j ≢ x = eqb-false j x t in
          let m : get_or (set ms x true) j false ≡ get_or ms j false = get_or-set_other ms x j true false other in
          (λ p. inr ((K.marked j h).0 (sym m ∙ p)), back m other)
        where
          back : get_or (set ms x true) j false ≡ get_or ms j false → j ≢ x → In (get_or ls j 0) (u ∷ moved) → get_or (set ms x true) j false ≡ true
          back m other (inl p) = absurd (other (injective j x h l (p ∙ sym e)))
          back m other (inr p) = m ∙ (K.marked j h).1 p

  -- a label more, of a thread that was made
  pub longer : Keeping k a ms v (ls ++ (0 ∷ [])) moved
  longer = record {
    sum = K.sum;
    number = K.number;
    from_start = λ j h. subst (λ (x : ℕ). 1 ≤ x) (sym (get_d_snoc 0 ls j)) (K.from_start j h);
    made = λ j h. get_d_snoc 0 ls j ∙ K.made j h;
    rising = λ x y h h'. omega (arith, get_d_snoc 0 ls x, get_d_snoc 0 ls y, K.rising x y h h');
    unvisited = λ b h h'. omega (arith, get_d_snoc 0 ls b, K.unvisited b h h');
    marked = λ j h. subst (λ (x : ℕ). (get_or ms j false ≡ true) ↔ In x moved) (sym (get_d_snoc 0 ls j)) (K.marked j h);
  }

  -- the thread in place a is gone, after it has moved
  pub shorter : (k' : ℕ) → k ≡ suc k' → Keeping k' a (without_item ms a) (suc v) (without_item ls a) (v ∷ moved)
  shorter k' e =
      let n : suc (length (without_item ms a)) ≡ length ms = length_without_item ms a here in
      record {
        sum = omega (arith, e, K.sum, n);
        number = omega arith;
        from_start = λ j h. first j (omega (arith, h, n)) (ltb j a) refl;
        made = λ j h. past j (omega (arith, h, n)) (omega (arith, h, n, K.sum, e));
        rising = λ x y h h'. up x y h (omega (arith, h', n)) (ltb x a) (ltb y a) refl refl;
        unvisited = λ b h h'. next b h (omega (arith, h', n));
        marked = λ j h. is_marked j (omega (arith, h, n)) (ltb j a) refl;
      }
    where
      here : a < length ms
      here = omega (arith, e, K.sum)

      below : (j : ℕ) → ltb j a ≡ true → get_or (without_item ls a) j 0 ≡ get_or ls j 0
      below j t = without_item_below 0 ls a j (ltb-true j a t)

      above : (j : ℕ) → ltb j a ≡ false → get_or (without_item ls a) j 0 ≡ get_or ls (suc j) 0
      above j t = without_item_above 0 ls a j (ltb-false j a t)

      first : (j : ℕ) → suc j < length ms → (b : Bool) → ltb j a ≡ b → 1 ≤ get_or (without_item ls a) j 0
      first j h true t = subst (λ (x : ℕ). 1 ≤ x) (sym (below j t)) (K.from_start j (omega (arith, h)))
      first j h false t = subst (λ (x : ℕ). 1 ≤ x) (sym (above j t)) (K.from_start (suc j) h)

      past : (j : ℕ) → length ms ≤ suc j → a ≤ j → get_or (without_item ls a) j 0 ≡ 0
      past j h l = without_item_above 0 ls a j l ∙ K.made (suc j) h

      up : (x y : ℕ) → x < y → suc y < length ms → (b c : Bool) → ltb x a ≡ b → ltb y a ≡ c → get_or (without_item ls a) x 0 < get_or (without_item ls a) y 0
      up x y h h' true true p q = omega (arith, below x p, below y q, K.rising x y h (omega (arith, h')))
      up x y h h' true false p q = omega (arith, below x p, above y q, K.rising x (suc y) (omega (arith, h)) h')
      up x y h h' false true p q = let m : a ≤ x = ltb-false x a p in let m' : y < a = ltb-true y a q in let never : ⊥ = omega (arith, m, m', h) in absurd never
      up x y h h' false false p q = omega (arith, above x p, above y q, K.rising (suc x) (suc y) (omega (arith, h)) h')

      next : (b : ℕ) → a ≤ b → suc b < length ms → get_or (without_item ls a) b 0 + a ≡ suc v + b
      next b h h' = omega (arith, without_item_above 0 ls a b h, K.unvisited (suc b) (omega (arith, h)) h')

      label : get_or ls a 0 ≡ v
      label = omega (arith, K.unvisited a (omega arith) here)

      more : (j : ℕ) → j < length ms → j ≢ a → (get_or ms j false ≡ true) ↔ In (get_or ls j 0) (v ∷ moved)
      more j h other = (λ p. inr ((K.marked j h).0 p), back)
        where
          back : In (get_or ls j 0) (v ∷ moved) → get_or ms j false ≡ true
          back (inl p) = absurd (other (injective j a h here (p ∙ sym label)))
          back (inr p) = (K.marked j h).1 p

      is_marked : (j : ℕ) → suc j < length ms → (b : Bool) → ltb j a ≡ b → (get_or (without_item ms a) j false ≡ true) ↔ In (get_or (without_item ls a) j 0) (v ∷ moved)
      is_marked j h true t =
          let l : j < a = ltb-true j a t in
          let m : get_or (without_item ms a) j false ≡ get_or ms j false = without_item_below false ms a j l in
          subst (λ (x : ℕ). (get_or (without_item ms a) j false ≡ true) ↔ In x (v ∷ moved)) (sym (below j t))
          (subst (λ (x : Bool). (x ≡ true) ↔ In (get_or ls j 0) (v ∷ moved)) (sym m) (more j (omega (arith, h)) (λ z. omega (arith, z, l))))
      is_marked j h false t =
          let l : a ≤ j = ltb-false j a t in
          let m : get_or (without_item ms a) j false ≡ get_or ms (suc j) false = without_item_above false ms a j l in
          subst (λ (x : ℕ). (get_or (without_item ms a) j false ≡ true) ↔ In x (v ∷ moved)) (sym (above j t))
          (subst (λ (x : Bool). (x ≡ true) ↔ In (get_or ls (suc j) 0) (v ∷ moved)) (sym m) (more (suc j) h (λ z. omega (arith, z, l))))

-- at the start
pub keeping_start : (n : ℕ) → Keeping n 0 (replicate n false) 1 (numbers 1 n) []
keeping_start n =
    let e : length (replicate n false) ≡ n = length-replicate n false in
    record {
      sum = omega (arith, e);
      number = omega arith;
      from_start = λ j h. omega (arith, numbers_at 1 n j (omega (arith, h, e)));
      made = λ j h. numbers_past 1 n j (omega (arith, h, e));
      rising = λ x y h h'. omega (arith, h, numbers_at 1 n x (omega (arith, h, h', e)), numbers_at 1 n y (omega (arith, h', e)));
      unvisited = λ b h h'. omega (arith, numbers_at 1 n b (omega (arith, h', e)));
      marked = λ j h. (λ p. false≢true (sym (get_or-replicate n j false false (omega (arith, h, e))) ∙ p), λ p. absurd p);
    }
