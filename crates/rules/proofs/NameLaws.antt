-- Operands: the table of names, and the variables kept in it.
use Prim.Native.Nat.{ℕ, zero, suc, ◌+◌, ◌-◌, ◌≤◌, ◌<◌}
use mathlib.Core.Path.{◌≡◌, refl, sym, ap, subst, ◌∙◌}
use mathlib.Core.Bool.{Bool, true, false, not, ◌&&◌, ◌||◌, and-eq-true_iff, false≢true}
use mathlib.Core.List.{List, [], ◌∷◌, ◌++◌, map, map-append}
use native.Mathlib.Omega.{arith}
use native.Mathlib.Numerals.{add-one}
use lib.ListN.{length, get_or, take, drop, set, replicate, length-map, length-drop, length-replicate, get_or-map}
use lib.Seq.{paste, length-take-le, take-set-le, take-suc-set, get_or-take, get_or-drop, drop-set-add, get_or-set_same, get_or-set_other}
use lib.Dec.{eqb, leb, ltb}
use borrow.Author.Tests.{ltb-true, ltb-false, leb-true, lt-ltb, le-ltb, le-leb, eqb-true, eqb-false, eq-eqb, ne_eqb}
use borrow.Rule.Slice.PartMut.{put_mid}
use Rattle.std.proofs.lemmas.Slice.{put_mid-paste}
use Rattle.std.proofs.lemmas.List.Edits.{paste_none, length-paste, fill_from_more}
use Rattle.rules.specs.Schema.{Schema}
use Rattle.rules.specs.Names.{unbound, is_user, is_channel, is_variable, named, kind_of, mine}
use Rattle.rules.specs.Kept.{kind_in, owner_in, entry, is_named_channel, kind_to, owner_to, NameTable, variable, vars_of, look, something}

or-false : (b : Bool) → (b || false) ≡ b
or-false true = refl
or-false false = refl

shifted : (a u : ℕ) → eqb (a + 2) (u + 2) ≡ eqb a u
shifted a u = go (eqb a u) refl
  where
    go : (p : Bool) → eqb a u ≡ p → eqb (a + 2) (u + 2) ≡ eqb a u
    go true e = eq-eqb (a + 2) (u + 2) (ap (λ k. k + 2) (eqb-true a u e)) ∙ sym e
    go false e = ne_eqb (a + 2) (u + 2) (λ q. eqb-false a u e (omega (arith, q))) ∙ sym e

-- a test of two bounds
pub between : (a n x : ℕ) → (ltb a x && leb x n) ≡ true → (a < x) × (x ≤ n)
between a n x h = let p = (and-eq-true_iff (ltb a x) (leb x n)).0 h in (ltb-true a x p.0, leb-true x n p.1)

inside : (a n x : ℕ) → a < x → x ≤ n → (ltb a x && leb x n) ≡ true
inside a n x low high = (and-eq-true_iff (ltb a x) (leb x n)).1 (lt-ltb a x low, le-leb x n high)

outside : (a n x : ℕ) → (a < x → x ≤ n → ⊥) → (ltb a x && leb x n) ≡ false
outside a n x h = go (ltb a x && leb x n) refl
  where
    go : (b : Bool) → (ltb a x && leb x n) ≡ b → (ltb a x && leb x n) ≡ false
    go true e = let p = between a n x e in absurd (h p.0 p.1)
    go false e = e

-- one item more changes the test at that item only
grown : (a n m x : ℕ) → m ≡ n + 1 → (x ≡ m → ⊥) → (ltb a x && leb x n) ≡ (ltb a x && leb x m)
grown a n m x e other = go (ltb a x && leb x m) refl
  where
    go : (b : Bool) → (ltb a x && leb x m) ≡ b → (ltb a x && leb x n) ≡ (ltb a x && leb x m)
    go true h =
        let p = between a m x h in
        let le : x ≤ n = omega (arith, p.1, e, other) in
        inside a n x p.0 le ∙ sym h
    go false h = outside a n x (λ low high. false≢true (sym h ∙ inside a m x low (omega (arith, high, e)))) ∙ sym h

pub made_none : (x : ℕ) → is_named_channel 0 x ≡ false
made_none x = outside 256 (256 + 0) x (λ low high. omega (arith, low, high))

-- an empty table names nothing
zeros : (m x : ℕ) → ◌≡◌ {A = ℕ} (get_or (replicate m 0) x 0) 0
zeros zero x = refl
zeros (suc m) zero = refl
zeros (suc m) (suc x) = zeros m x

named_none : (D : Schema) (t : List ℕ) → t ≡ replicate (length t) 0 → NameTable D 0 0 t
named_none D t e x h =
    let z : get_or t x 0 ≡ 0 = ap (λ (l : List ℕ). get_or l x 0) e ∙ zeros (length t) x in
    rw (z, made_none x, outside 0 0 x (λ low high. omega (arith, low, high))) (refl, refl)

-- one user more, all users, one channel more
users_more : (D : Schema) (n m : ℕ) (t : List ℕ) → m ≡ n + 1 → m < length t → NameTable D n 0 t → NameTable D m 0 (set t m (entry 0 1))
users_more D n m t e long its x h = go (eqb x m) refl
  where
    go : (b : Bool) → eqb x m ≡ b → (kind_in (get_or (set t m (entry 0 1)) x 0) ≡ kind_to D 0 x) × (owner_in (get_or (set t m (entry 0 1)) x 0) ≡ owner_to D m 0 x)
    go true q =
        let at : x ≡ m = eqb-true x m q in
        let got : get_or (set t m (entry 0 1)) x 0 ≡ entry 0 1 = ap (λ j. get_or (set t m (entry 0 1)) j 0) at ∙ get_or-set_same t m (entry 0 1) 0 long in
        rw (got, made_none x, inside 0 m x (omega (arith, at, e)) (omega (arith, at))) (refl, refl)
    go false q =
        let other = eqb-false x m q in
        rw (get_or-set_other t m x (entry 0 1) 0 other, ← grown 0 n m x e other) (its x h)

users_pasted : (D : Schema) (n : ℕ) (t : List ℕ) → t ≡ replicate (length t) 0 → n + 1 ≤ length t → NameTable D n 0 (paste t 1 (replicate n (entry 0 1)) n)
users_pasted D zero t e h = subst (λ (l : List ℕ). NameTable D 0 0 l) (paste_none t 1 (replicate 0 (entry 0 1))) (named_none D t e)
users_pasted D (suc n) t e h =
    let P : List ℕ = paste t 1 (replicate n (entry 0 1)) n in
    let long : length P ≡ length t = length-paste t 1 (replicate n (entry 0 1)) n (omega arith) (omega (arith, length-replicate {A = ℕ} n (entry 0 1))) in
    let next : 1 + n ≡ n + 1 = omega arith in
    let more : set P (n + 1) (entry 0 1) ≡ paste t 1 (replicate (n + 1) (entry 0 1)) (n + 1) = ap (λ k. set P k (entry 0 1)) (sym next) ∙ fill_from_more t 1 n (entry 0 1) (omega arith) in
    subst (λ k. NameTable D k 0 (paste t 1 (replicate k (entry 0 1)) k)) (add-one n)
    (subst (λ (l : List ℕ). NameTable D (n + 1) 0 l) more (users_more D n (n + 1) P refl (omega (arith, long)) (users_pasted D n t e (omega arith))))

pub users_named : (D : Schema) (n k : ℕ) (t ys : List ℕ) → t ≡ replicate (length t) 0 → k ≡ n → n + 1 ≤ length t → ys ≡ replicate n (entry 0 1) → NameTable D n 0 (put_mid 1 k t ys)
users_named D n k t ys e is h all =
    subst (λ (l : List ℕ). NameTable D n 0 l) (sym (put_mid-paste 1 k t ys (replicate n (entry 0 1)) n all (sym is) (sym (length-replicate {A = ℕ} n (entry 0 1))))) (users_pasted D n t e h)

pub channels_more : (D : Schema) (u n m k o : ℕ) (t : List ℕ) → m ≡ n + 1 → u ≤ 32 → k < 65536 → k ≡ D.kind m → o ≡ D.owner m + 2 → 256 + m < length t
    → NameTable D u n t → NameTable D u m (set t (256 + m) (entry k o))
channels_more D u n m k o t e few small kind owner long its x h = go (eqb x (256 + m)) refl
  where
    go : (b : Bool) → eqb x (256 + m) ≡ b → (kind_in (get_or (set t (256 + m) (entry k o)) x 0) ≡ kind_to D m x) × (owner_in (get_or (set t (256 + m) (entry k o)) x 0) ≡ owner_to D u m x)
    go true q =
        let at : x ≡ 256 + m = eqb-true x (256 + m) q in
        let got : get_or (set t (256 + m) (entry k o)) x 0 ≡ entry k o = ap (λ j. get_or (set t (256 + m) (entry k o)) j 0) at ∙ get_or-set_same t (256 + m) (entry k o) 0 long in
        let low : kind_in (entry k o) ≡ k = omega arith in
        let high : owner_in (entry k o) ≡ o = omega arith in
        let back : x - 256 ≡ m = omega (arith, at) in
        rw (got, outside 0 u x (λ a b. omega (arith, at, b)), inside 256 (256 + m) x (omega (arith, at, e)) (omega (arith, at)), back) (low ∙ kind, high ∙ owner)
    go false q =
        let other = eqb-false x (256 + m) q in
        rw (get_or-set_other t (256 + m) x (entry k o) 0 other, ← grown 256 (256 + n) (256 + m) x (omega (arith, e)) other) (its x h)

-- the variables as they are kept
pub vars_length : (u : ℕ) (t : List ℕ) (b : ℕ) → 512 + b ≤ length t → length (vars_of u t b) ≡ b
unfolding vars_of
vars_length u t b h = length-map (take b (drop 512 t)) (variable u) ∙ length-take-le b (drop 512 t) (omega (arith, length-drop 512 t))

nothing : (u : ℕ) → variable u 0 ≡ unbound
nothing u = rw (ne_eqb 0 (u + 2) (λ e. let bad : 0 ≡ u + 2 = e in omega arith))

vars_at : (u : ℕ) (t : List ℕ) (b x : ℕ) → 512 ≤ x → x < 512 + b → variable u (get_or t x 0) ≡ get_or (vars_of u t b) (x - 512) unbound
unfolding vars_of
vars_at u t b x low high =
    let back : 512 + (x - 512) ≡ x = omega arith in
    sym (ap (get_or (map (variable u) (take b (drop 512 t))) (x - 512)) (sym (nothing u)) ∙ get_or-map (variable u) (take b (drop 512 t)) (x - 512) 0 ∙ ap (variable u) (get_or-take b (drop 512 t) (x - 512) 0 (omega arith) ∙ get_or-drop 512 t (x - 512) 0 ∙ ap (λ j. get_or t j 0) back))

pub vars_none : (u : ℕ) (t : List ℕ) → vars_of u t 0 ≡ []
unfolding vars_of
vars_none u t = refl

-- a store past them leaves them, and one at their end adds one
pub vars_kept : (u : ℕ) (t : List ℕ) (b i v : ℕ) → b ≤ i → vars_of u (set t (512 + i) v) b ≡ vars_of u t b
unfolding vars_of
vars_kept u t b i v h = ap (λ l. map (variable u) (take b l)) (drop-set-add 512 t i v) ∙ ap (map (variable u)) (take-set-le b (drop 512 t) i v h)

pub vars_more : (u : ℕ) (t : List ℕ) (b v : ℕ) → 512 + b < length t → vars_of u (set t (512 + b) v) (b + 1) ≡ vars_of u t b ++ (variable u v ∷ [])
unfolding vars_of
vars_more u t b v h =
    ap (λ l. map (variable u) (take (b + 1) l)) (drop-set-add 512 t b v) ∙ ap (λ k. map (variable u) (take k (set (drop 512 t) b v))) (add-one b)
    ∙ ap (map (variable u)) (take-suc-set (drop 512 t) b v (omega (arith, length-drop 512 t))) ∙ map-append (variable u) (take b (drop 512 t)) (v ∷ [])

-- a bound variable names something
abbrev pub Held : List ℕ → ℕ → Type 0
Held t b = (j : ℕ) → 512 ≤ j → j < 512 + b → 0 < owner_in (get_or t j 0)

pub held_less : (t : List ℕ) (b d : ℕ) → d ≤ b → Held t b → Held t d
held_less t b d le h j low high = h j low (omega arith)

pub held_same : (t : List ℕ) (b v : ℕ) → Held t b → Held (set t (512 + b) v) b
held_same t b v h j low high = rw (get_or-set_other t (512 + b) j v 0 (λ e. let z : j ≡ 512 + b = e in omega arith)) (h j low high)

pub held_more : (t : List ℕ) (b v : ℕ) → 512 + b < length t → 0 < owner_in v → Held t b → Held (set t (512 + b) v) (b + 1)
held_more t b v long pos h j low high = go (eqb j (512 + b)) refl
  where
    go : (q : Bool) → eqb j (512 + b) ≡ q → 0 < owner_in (get_or (set t (512 + b) v) j 0)
    go true e = let at : j ≡ 512 + b = eqb-true j (512 + b) e in rw (at, get_or-set_same t (512 + b) v 0 long) pos
    go false e = let other = eqb-false j (512 + b) e in rw (get_or-set_other t (512 + b) j v 0 other) (h j low (omega (arith, other)))

-- a store at 512 or above leaves the names below
pub named_kept : (D : Schema) (u c : ℕ) (t : List ℕ) (b v : ℕ) → NameTable D u c t → NameTable D u c (set t (512 + b) v)
named_kept D u c t b v its x h = rw (get_or-set_other t (512 + b) x v 0 (λ e. let z : x ≡ 512 + b = e in omega arith)) (its x h)

module _ (D : Schema) (u b : ℕ) (t : List ℕ) (users : D.users ≤ 32) (channels : D.channels ≤ 64) (its : NameTable D D.users D.channels t) (long : 512 + b ≤ length t) (held : Held t b) (x : ℕ) where
  abbrev Said : Type 0
  Said = (something (look t b x) ≡ named D (vars_of u t b) x)
      × (named D (vars_of u t b) x ≡ true → kind_in (look t b x) ≡ kind_of D (vars_of u t b) x)
      × (eqb (owner_in (look t b x)) (u + 2) ≡ mine D u (vars_of u t b) x)

  count : length (vars_of u t b) ≡ b
  count = vars_length u t b long

  -- below 512: a user, a channel, or nothing
  low_said : x < 512 → Said
  unfolding named kind_of mine
  low_said h = go (is_user D x) refl (is_channel D x) refl
    where
      seen : look t b x ≡ get_or t x 0
      seen = rw (lt-ltb x (512 + b) (omega arith))

      no_variable : is_variable (vars_of u t b) x ≡ false
      no_variable = rw (le-ltb 511 x (omega arith))

      go : (p : Bool) → is_user D x ≡ p → (q : Bool) → is_channel D x ≡ q → Said
      go true p true q = let a = between 0 D.users x p in let c = between 256 (256 + D.channels) x q in let no : ⊥ = omega (arith, a.1, c.0) in absurd no
      go true p false q =
          let o : owner_in (get_or t x 0) ≡ 1 = (its x h).1 ∙ rw p in
          let k : kind_in (get_or t x 0) ≡ 0 = (its x h).0 ∙ rw q in
          rw (seen, o, p, q, no_variable) (refl, (λ z. k), ne_eqb 1 (u + 2) (λ e. let bad : 1 ≡ u + 2 = e in omega arith))
      go false p true q =
          let o : owner_in (get_or t x 0) ≡ D.owner (x - 256) + 2 = (its x h).1 ∙ rw (p, q) in
          let k : kind_in (get_or t x 0) ≡ D.kind (x - 256) = (its x h).0 ∙ rw q in
          rw (seen, o, p, q, no_variable) (ap not (ne_eqb (D.owner (x - 256) + 2) 0 (λ e. let bad : D.owner (x - 256) + 2 ≡ 0 = e in omega arith)), (λ z. k), shifted (D.owner (x - 256)) u ∙ sym (or-false (eqb (D.owner (x - 256)) u)))
      go false p false q =
          let o : owner_in (get_or t x 0) ≡ 0 = (its x h).1 ∙ rw (p, q) in
          rw (seen, o, p, q, no_variable) (refl, (λ z. absurd (false≢true z)), ne_eqb 0 (u + 2) (λ e. let bad : 0 ≡ u + 2 = e in omega arith))

  high_said : 512 ≤ x → x < 512 + b → Said
  unfolding named kind_of mine
  high_said low high =
      let seen : look t b x ≡ get_or t x 0 = rw (lt-ltb x (512 + b) high) in
      let v : variable u (get_or t x 0) ≡ get_or (vars_of u t b) (x - 512) unbound = vars_at u t b x low high in
      let p : is_user D x ≡ false = outside 0 D.users x (λ a c. omega (arith, c)) in
      let q : is_channel D x ≡ false = outside 256 (256 + D.channels) x (λ a c. omega (arith, c)) in
      let some : something (get_or t x 0) ≡ true = ap not (ne_eqb (owner_in (get_or t x 0)) 0 (λ e. let z : owner_in (get_or t x 0) ≡ 0 = e in omega (arith, held x low high))) in
      rw (seen, p, q, count, lt-ltb 511 x (omega arith), lt-ltb x (512 + b) high, some, ← v) (refl, (λ z. refl), refl)

  past_said : 512 + b ≤ x → Said
  unfolding named kind_of mine
  past_said far =
      let seen : look t b x ≡ 0 = rw (le-ltb x (512 + b) far) in
      let p : is_user D x ≡ false = outside 0 D.users x (λ a c. omega (arith, c)) in
      let q : is_channel D x ≡ false = outside 256 (256 + D.channels) x (λ a c. omega (arith, c)) in
      rw (seen, p, q, count, le-ltb x (512 + b) far, lt-ltb 511 x (omega arith)) (refl, (λ z. absurd (false≢true z)), ne_eqb 0 (u + 2) (λ e. let bad : 0 ≡ u + 2 = e in omega arith))

  pub said : Said
  said = go (ltb x 512) refl (ltb x (512 + b)) refl
    where
      go : (p : Bool) → ltb x 512 ≡ p → (q : Bool) → ltb x (512 + b) ≡ q → Said
      go true p q r = low_said (ltb-true x 512 p)
      go false p true r = high_said (ltb-false x 512 p) (ltb-true x (512 + b) r)
      go false p false r = past_said (ltb-false x (512 + b) r)
