-- Tables of words: a run of stores, words that move down, and the threads and made channels that stand in a table.
use Prim.Native.Nat.{ℕ, zero, suc, ◌+◌, ◌*◌, ◌-◌, ◌≤◌, ◌<◌}
use mathlib.Core.Path.{◌≡◌, refl, sym, ap, ap₂, ◌∙◌}
use mathlib.Core.List.{List, [], ◌∷◌, ◌++◌}
use native.Mathlib.Omega.{arith}
use lib.ListN.{length, get_or, set, take, drop, length-set, length-append, length-drop, get_or-append, drop_of_length-le}
use lib.Seq.{sets, sets-eq, paste, paste-suc, drop-paste, get_or-drop, get_or-take, get_or-set_other, get_or-append-add, length-take-le, drop-cons, take_all}
use Rattle.steps.specs.declared.Thread.{Thread}
use Rattle.steps.specs.Threads.{no_thread}
use Rattle.steps.specs.Records.{thread_in, threads_in}
use Rattle.steps.specs.Records.{stored}

module _ {A : Type 0} where
  -- a look past a run of stores, and into it
  pub sets_other : (vs l : List A) (p m : ℕ) (d : A) → ((k : ℕ) → k < length vs → m ≡ p + k → ⊥) → get_or (sets l p vs) m d ≡ get_or l m d
  sets_other [] l p m d h = refl
  sets_other (a ∷ vs) l p m d h =
      sets_other vs (set l p a) (suc p) m d (λ k lt e. h (suc k) (omega (arith, lt)) (omega (arith, e)))
      ∙ get_or-set_other l p m a d (λ e. h 0 (omega arith) (omega (arith, e)))

  pub sets_in : (vs l : List A) (p k : ℕ) (d : A) → k < length vs → p + length vs ≤ length l → get_or (sets l p vs) (p + k) d ≡ get_or vs k d
  sets_in vs l p k d lt fits =
      let long : length (take p l) ≡ p = length-take-le p l (omega (arith, fits)) in
      let there : length (take p l) + k ≡ p + k = omega (arith, long) in
      ap (λ (x : List A). get_or x (p + k) d) (sets-eq vs l p fits)
      ∙ get_or-append (take p l ++ vs) (drop (p + length vs) l) d (p + k) (omega (arith, length-append (take p l) vs, long, lt))
      ∙ ap (λ (x : ℕ). get_or (take p l ++ vs) x d) (sym there)
      ∙ get_or-append-add (take p l) vs k d

  -- those from p + g on have moved down by g, j of them
  abbrev pub down : List A → ℕ → ℕ → ℕ → List A
  down l p g j = paste l p (drop (p + g) l) j

  past : (l : List A) (p g j : ℕ) (z : A) → p + j + g < length l → get_or (down l p g j) (p + j + g) z ≡ get_or (drop (p + g) l) j z
  past l p g j z h =
      let e : p + j + g ≡ p + g + j = omega arith in
      sym (get_or-drop (p + j) (down l p g j) g z)
      ∙ ap (λ (r : List A). get_or r g z) (drop-paste l p (drop (p + g) l) j (omega (arith, h)) (omega (arith, h, length-drop (p + g) l)))
      ∙ get_or-drop (p + j) l g z
      ∙ ap (λ (k : ℕ). get_or l k z) e
      ∙ sym (get_or-drop (p + g) l j z)

  one_down : (l : List A) (p g j : ℕ) (z : A) → p + j + g < length l → set (down l p g j) (p + j) (get_or (down l p g j) (p + j + g) z) ≡ down l p g (suc j)
  one_down l p g j z h =
      ap (set (down l p g j) (p + j)) (past l p g j z h) ∙ paste-suc l p (drop (p + g) l) j z (omega (arith, h)) (omega (arith, h, length-drop (p + g) l))

  -- a turn of the loop, at the index that it writes
  pub down_more : (l m : List A) (p g k : ℕ) (z : A) → p ≤ k → k + g < length l → m ≡ down l p g (k - p) → set m k (get_or m (k + g) z) ≡ down l p g (k + 1 - p)
  down_more l m p g k z le h e =
      let q : k ≡ p + (k - p) = omega (arith, le) in
      let n : suc (k - p) ≡ k + 1 - p = omega (arith, le) in
      ap₂ (λ (r : List A) (x : ℕ). set r x (get_or r (x + g) z)) e q ∙ one_down l p g (k - p) z (omega (arith, h, le)) ∙ ap (down l p g) n

  -- a look below the gap, and above it
  pub down_below : (l : List A) (p g j m : ℕ) (z : A) → m < p → p + g + j ≤ length l → get_or (down l p g j) m z ≡ get_or l m z
  down_below l p g j m z lt fits =
      let long : length (take p l) ≡ p = length-take-le p l (omega (arith, fits)) in
      let s : List A = take j (drop (p + g) l) in
      get_or-append (take p l ++ s) (drop (p + j) l) z m (omega (arith, length-append (take p l) s, long, lt))
      ∙ get_or-append (take p l) s z m (omega (arith, long, lt))
      ∙ get_or-take p l m z lt

  pub down_above : (l : List A) (p g j m : ℕ) (z : A) → m < j → p + g + j ≤ length l → get_or (down l p g j) (p + m) z ≡ get_or l (p + g + m) z
  down_above l p g j m z lt fits =
      let long : length (take p l) ≡ p = length-take-le p l (omega (arith, fits)) in
      let s : List A = take j (drop (p + g) l) in
      let full : length s ≡ j = length-take-le j (drop (p + g) l) (omega (arith, fits, length-drop (p + g) l)) in
      let there : length (take p l) + m ≡ p + m = omega (arith, long) in
      get_or-append (take p l ++ s) (drop (p + j) l) z (p + m) (omega (arith, length-append (take p l) s, long, full, lt))
      ∙ ap (λ (x : ℕ). get_or (take p l ++ s) x z) (sym there)
      ∙ get_or-append-add (take p l) s m z
      ∙ get_or-take j (drop (p + g) l) m z lt
      ∙ get_or-drop (p + g) l m z

-- a list of eight
pub eight : (l : List ℕ) → length l ≡ 8
    → get_or l 0 0 ∷ get_or l 1 0 ∷ get_or l 2 0 ∷ get_or l 3 0 ∷ get_or l 4 0 ∷ get_or l 5 0 ∷ get_or l 6 0 ∷ get_or l 7 0 ∷ [] ≡ l
eight l e =
    let e8 : [] ≡ drop 8 l = sym (drop_of_length-le l {i = 8} (omega (arith, e))) in
    let e7 : get_or l 7 0 ∷ [] ≡ drop 7 l = ap (λ (x : List ℕ). get_or l 7 0 ∷ x) e8 ∙ sym (drop-cons l 7 0 (omega (arith, e))) in
    let e6 : get_or l 6 0 ∷ get_or l 7 0 ∷ [] ≡ drop 6 l = ap (λ (x : List ℕ). get_or l 6 0 ∷ x) e7 ∙ sym (drop-cons l 6 0 (omega (arith, e))) in
    let e5 : get_or l 5 0 ∷ get_or l 6 0 ∷ get_or l 7 0 ∷ [] ≡ drop 5 l = ap (λ (x : List ℕ). get_or l 5 0 ∷ x) e6 ∙ sym (drop-cons l 5 0 (omega (arith, e))) in
    let e4 : get_or l 4 0 ∷ get_or l 5 0 ∷ get_or l 6 0 ∷ get_or l 7 0 ∷ [] ≡ drop 4 l = ap (λ (x : List ℕ). get_or l 4 0 ∷ x) e5 ∙ sym (drop-cons l 4 0 (omega (arith, e))) in
    ap (λ (x : List ℕ). get_or l 0 0 ∷ get_or l 1 0 ∷ get_or l 2 0 ∷ get_or l 3 0 ∷ x) e4
    ∙ ap (λ (x : List ℕ). get_or l 0 0 ∷ get_or l 1 0 ∷ get_or l 2 0 ∷ x) (sym (drop-cons l 3 0 (omega (arith, e))))
    ∙ ap (λ (x : List ℕ). get_or l 0 0 ∷ get_or l 1 0 ∷ x) (sym (drop-cons l 2 0 (omega (arith, e))))
    ∙ ap (λ (x : List ℕ). get_or l 0 0 ∷ x) (sym (drop-cons l 1 0 (omega (arith, e))))
    ∙ sym (drop-cons l 0 0 (omega (arith, e)))

-- threads by their words
abbrev words_of : Thread → List ℕ
words_of t =
    t.user ∷ t.node ∷ t.mask ∷ get_or t.vars 0 0 ∷ get_or t.vars 1 0 ∷ get_or t.vars 2 0 ∷ get_or t.vars 3 0 ∷ get_or t.vars 4 0 ∷ get_or t.vars 5 0 ∷ get_or t.vars 6 0 ∷ get_or t.vars 7 0 ∷ []

pub thread_same : (w v : List ℕ) (p q : ℕ) → ((j : ℕ) → j < 11 → get_or w (p + j) 0 ≡ get_or v (q + j) 0) → thread_in w p ≡ thread_in v q
thread_same w v p q h =
    let zp : p ≡ p + 0 = omega arith in
    let zq : q + 0 ≡ q = omega arith in
    let e0 : get_or w p 0 ≡ get_or v q 0 = ap (λ (x : ℕ). get_or w x 0) zp ∙ h 0 (omega arith) ∙ ap (λ (x : ℕ). get_or v x 0) zq in
    let e1 = h 1 (omega arith) in
    let e2 = h 2 (omega arith) in
    let e3 = h 3 (omega arith) in
    let e4 = h 4 (omega arith) in
    let e5 = h 5 (omega arith) in
    let e6 = h 6 (omega arith) in
    let e7 = h 7 (omega arith) in
    let e8 = h 8 (omega arith) in
    let e9 = h 9 (omega arith) in
    let e10 = h 10 (omega arith) in
    λ i. record {
      user = e0 i;
      node = e1 i;
      mask = e2 i;
      vars = e3 i ∷ e4 i ∷ e5 i ∷ e6 i ∷ e7 i ∷ e8 i ∷ e9 i ∷ e10 i ∷ [];
    }

pub stored_sets : (w : List ℕ) (p : ℕ) (t : Thread) → stored w p t ≡ sets w p (words_of t)
stored_sets w p t =
    let a1 : p + 1 ≡ suc p = omega arith in
    let a2 : p + 2 ≡ suc (suc p) = omega arith in
    let a3 : p + 3 ≡ suc (suc (suc p)) = omega arith in
    let a4 : p + 4 ≡ suc (suc (suc (suc p))) = omega arith in
    let a5 : p + 5 ≡ suc (suc (suc (suc (suc p)))) = omega arith in
    let a6 : p + 6 ≡ suc (suc (suc (suc (suc (suc p))))) = omega arith in
    let a7 : p + 7 ≡ suc (suc (suc (suc (suc (suc (suc p)))))) = omega arith in
    let a8 : p + 8 ≡ suc (suc (suc (suc (suc (suc (suc (suc p))))))) = omega arith in
    let a9 : p + 9 ≡ suc (suc (suc (suc (suc (suc (suc (suc (suc p)))))))) = omega arith in
    let a10 : p + 10 ≡ suc (suc (suc (suc (suc (suc (suc (suc (suc (suc p))))))))) = omega arith in
    rw (a1, a2, a3, a4, a5, a6, a7, a8, a9, a10)

-- three words stored and then the eight variables, one after the other, store the thread
pub stored_paste : (w : List ℕ) (p k : ℕ) (t : Thread) → k ≡ 8 → length t.vars ≡ 8 → p + 11 ≤ length w
    → paste (set (set (set w p t.user) (p + 1) t.node) (p + 2) t.mask) (p + 3) t.vars k ≡ stored w p t
stored_paste w p k t wide long fits =
    let q : ℕ = p + 3 in
    let head : List ℕ = set (set (set w p t.user) (p + 1) t.node) (p + 2) t.mask in
    let room : length head ≡ length w = simp length-set in
    let a1 : p + 1 ≡ suc p = omega arith in
    let a2 : p + 2 ≡ suc (suc p) = omega arith in
    let a3 : p + 3 ≡ suc (suc (suc p)) = omega arith in
    let begun : head ≡ set (set (set w p t.user) (suc p) t.node) (suc (suc p)) t.mask = rw (a1, a2) in
    ap (paste head q t.vars) wide
    ∙ ap₂ (λ (x : List ℕ) (n : ℕ). take q head ++ x ++ drop (q + n) head) (take_all 8 t.vars (omega (arith, long))) (sym long)
    ∙ sym (sets-eq t.vars head q (omega (arith, room, long)))
    ∙ ap (sets head q) (sym (eight t.vars long))
    ∙ ap₂ (λ (l : List ℕ) (x : ℕ). sets l x (drop 3 (words_of t))) begun a3
    ∙ sym (stored_sets w p t)

-- the thread stored is there, and others stay
pub stored_same : (w : List ℕ) (p : ℕ) (t : Thread) → p + 11 ≤ length w → length t.vars ≡ 8 → thread_in (stored w p t) p ≡ t
stored_same w p t fits e =
    let vs = eight t.vars e in
    let z : (j : ℕ) → j ≡ 0 + j = λ j. omega arith in
    ap (λ (x : List ℕ). thread_in x p) (stored_sets w p t)
    ∙ thread_same (sets w p (words_of t)) (words_of t) p 0 (λ j lt. sets_in (words_of t) w p j 0 (omega (arith, lt)) (omega (arith, fits)) ∙ ap (λ (x : ℕ). get_or (words_of t) x 0) (z j))
    ∙ ap (λ (x : List ℕ). record { user = t.user; node = t.node; mask = t.mask; vars = x }) vs

pub stored_other : (w : List ℕ) (p m : ℕ) (t : Thread) → ((k : ℕ) → k < 11 → m ≡ p + k → ⊥) → get_or (stored w p t) m 0 ≡ get_or w m 0
stored_other w p m t h = ap (λ (x : List ℕ). get_or x m 0) (stored_sets w p t) ∙ sets_other (words_of t) w p m 0 h

pub stored_length : (w : List ℕ) (p : ℕ) (t : Thread) → length (stored w p t) ≡ length w
stored_length w p t = simp length-set

-- threads in a row
pub threads_length : (w : List ℕ) (p k : ℕ) → length (threads_in w p k) ≡ k
unfolding threads_in
threads_length w p zero = refl
threads_length w p (suc k) = ap suc (threads_length w (p + 12) k)

pub thread_get : (w : List ℕ) (p k j : ℕ) → j < k → get_or (threads_in w p k) j no_thread ≡ thread_in w (p + 12 * j)
unfolding threads_in
thread_get w p zero j lt = let none : ⊥ = omega (arith, lt) in absurd none
thread_get w p (suc k) zero lt = let e : p ≡ p + 12 * 0 = omega arith in ap (thread_in w) e
thread_get w p (suc k) (suc j) lt =
    let e : p + 12 + 12 * j ≡ p + 12 * suc j = omega arith in
    thread_get w (p + 12) k j (omega (arith, lt)) ∙ ap (thread_in w) e

pub threads_same : (w v : List ℕ) (p q k : ℕ) → ((j : ℕ) → j < 12 * k → get_or w (p + j) 0 ≡ get_or v (q + j) 0) → threads_in w p k ≡ threads_in v q k
unfolding threads_in
threads_same w v p q zero h = refl
threads_same w v p q (suc k) h =
    ap₂ (λ (t : Thread) (ts : List Thread). t ∷ ts) (thread_same w v p q (λ j lt. h j (omega (arith, lt))))
    (threads_same w v (p + 12) (q + 12) k (λ j lt. ap (λ (x : ℕ). get_or w x 0) (there p j) ∙ h (12 + j) (omega (arith, lt)) ∙ ap (λ (x : ℕ). get_or v x 0) (sym (there q j))))
  where
    there : (p j : ℕ) → p + 12 + j ≡ p + (12 + j)
    there p j = omega arith

pub threads_split : (w : List ℕ) (p a b : ℕ) → threads_in w p (a + b) ≡ threads_in w p a ++ threads_in w (p + 12 * a) b
unfolding threads_in
threads_split w p zero b =
    let e : 0 + b ≡ b = omega arith in
    let q : p ≡ p + 12 * 0 = omega arith in
    ap₂ (threads_in w) refl e ∙ ap (λ (x : ℕ). threads_in w x b) q
threads_split w p (suc a) b =
    let e : suc a + b ≡ suc (a + b) = omega arith in
    let q : p + 12 + 12 * a ≡ p + 12 * suc a = omega arith in
    ap (threads_in w p) e ∙ ap (λ (ts : List Thread). thread_in w p ∷ ts) (threads_split w (p + 12) a b ∙ ap (λ (x : ℕ). threads_in w (p + 12) a ++ threads_in w x b) q)
