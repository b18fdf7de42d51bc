-- A list of records and the words beside it, after what a choice comes to is stored.
use Prim.Native.Nat.{ℕ, zero, suc, ◌+◌, ◌*◌, ◌-◌, ◌≤◌, ◌<◌}
use mathlib.Core.Path.{◌≡◌, refl, sym, ap, ap₂, ◌∙◌}
use mathlib.Core.List.{List, [], ◌∷◌, ◌++◌}
use native.Mathlib.Omega.{arith}
use lib.ListN.{length, get_or, set, take, drop, replicate, length-replicate, length-append, length-drop, length-set, take-append-drop}
use lib.Seq.{sets, sets-eq, paste, length-take-le, take-take, take-add, drop_at, drop-cons, take-set-lt, drop-set-lt, set-append_left, get_or-set_same, get_or-set_other}
use Rattle.steps.specs.declared.Made.{Made}
use Rattle.steps.specs.Choice.{State, Chosen, halts, goes}
use Rattle.steps.specs.Beside.{thread_count, made_count, made_in, made_of, one_made, made_words, beside_of}
use Rattle.steps.specs.Kept.{Sized}
use Rattle.steps.proofs.ActLaws.{length_made}
use Rattle.choices.proofs.StateLaws.{mint_state}

module _ {A : Type 0} where
  -- a run of stores from the front on
  pub sets_front : (l vs : List A) (n : ℕ) → length vs ≡ n → n ≤ length l → sets l 0 vs ≡ vs ++ drop n l
  sets_front l vs n e h =
      let there : 0 + length vs ≡ n = omega (arith, e) in
      sets-eq vs l 0 (omega (arith, e, h)) ∙ ap (λ (k : ℕ). vs ++ drop k l) there

  -- one more
  sets_more : (vs l : List A) (p : ℕ) (t : A) → sets l p (vs ++ (t ∷ [])) ≡ set (sets l p vs) (p + length vs) t
  sets_more [] l p t = let z : p ≡ p + 0 = omega arith in ap (λ (k : ℕ). set l k t) z
  sets_more (v ∷ vs) l p t =
      let e : suc p + length vs ≡ p + suc (length vs) = omega arith in
      sets_more vs (set l p v) (suc p) t ∙ ap (λ (k : ℕ). set (sets (set l p v) (suc p) vs) k t) e

-- two words from a place on
two_words : (b : List ℕ) (p : ℕ) → p + 2 ≤ length b → drop p b ≡ get_or b p 0 ∷ get_or b (p + 1) 0 ∷ drop (p + 2) b
two_words b p fits =
    let one : suc p ≡ p + 1 = omega arith in
    let two : suc (p + 1) ≡ p + 2 = omega arith in
    drop-cons b p 0 (omega (arith, fits))
    ∙ ap (λ (x : List ℕ). get_or b p 0 ∷ x) (ap (λ (j : ℕ). drop j b) one ∙ drop-cons b (p + 1) 0 (omega (arith, fits)) ∙ ap (λ (j : ℕ). get_or b (p + 1) 0 ∷ drop j b) two)

-- the made channels' words as they stand
made_words_lem : (b : List ℕ) (p k : ℕ) → p + 2 * k ≤ length b → take (2 * k) (drop p b) ≡ made_words (made_in b p k)
unfolding made_in made_words
made_words_lem b p zero fits = refl
made_words_lem b p (suc k) fits =
    let more : 2 * suc k ≡ suc (suc (2 * k)) = omega arith in
    ap₂ (λ (j : ℕ) (x : List ℕ). take j x) more (two_words b p (omega (arith, fits)))
    ∙ ap (λ (x : List ℕ). get_or b p 0 ∷ get_or b (p + 1) 0 ∷ x) (made_words_lem b (p + 2) k (omega (arith, fits)))

-- the counts and the made channels that stand in one table, copied into another
beside_copied : (b d : List ℕ) → length b ≡ 162 → length d ≡ 162 → get_or d 1 0 ≤ 64
    → paste b 0 d (2 + 2 * get_or d 1 0) ≡ sets b 0 (get_or d 0 0 ∷ get_or d 1 0 ∷ made_words (made_in d 2 (get_or d 1 0)))
beside_copied b d hb hd few =
    let m : ℕ = get_or d 1 0 in
    let n : ℕ = 2 + 2 * m in
    let more : n ≡ suc (suc (2 * m)) = omega arith in
    let whole : take n d ≡ get_or d 0 0 ∷ m ∷ made_words (made_in d 2 m) =
    ap₂ (λ (j : ℕ) (x : List ℕ). take j x) more (two_words d 0 (omega (arith, hd)))
    ∙ ap (λ (x : List ℕ). get_or d 0 0 ∷ m ∷ x) (made_words_lem d 2 m (omega (arith, hd, few))) in
    let same : 0 + n ≡ n = omega arith in
    ap₂ (λ (x : List ℕ) (j : ℕ). x ++ drop j b) whole same
    ∙ sym (sets_front b (get_or d 0 0 ∷ m ∷ made_words (made_in d 2 m)) n (ap length (sym whole) ∙ length-take-le n d (omega (arith, hd, few))) (omega (arith, hb, few)))

-- changes among the first n of a list, in the whole list
module _ {A : Type 0} (l : List A) (n : ℕ) (le : n ≤ length l) where
  first_long : length (take n l) ≡ n
  first_long = length-take-le n l le

  pub one_set : (i : ℕ) (t : A) → i < n → sets l 0 (set (take n l) i t) ≡ set l i t
  one_set i t lt =
      sets_front l (set (take n l) i t) n (length-set (take n l) i t ∙ first_long) le
      ∙ sym (set-append_left (take n l) (drop n l) i t (omega (arith, lt, first_long)))
      ∙ ap (λ (x : List A). set x i t) (take-append-drop n l)

  pub two_set : (i j : ℕ) (t u : A) → i < n → j < n → sets l 0 (set (set (take n l) i t) j u) ≡ set (set l i t) j u
  two_set i j t u lt less =
      let k : List A = set l i t in
      let long : length (take n k) ≡ n = length-take-le n k (omega (arith, le, length-set l i t)) in
      sets_front l (set (set (take n l) i t) j u) n (length-set (set (take n l) i t) j u ∙ length-set (take n l) i t ∙ first_long) le
      ∙ ap₂ (λ (x y : List A). set x j u ++ y) (sym (take-set-lt n l i t lt)) (sym (drop-set-lt n l i t lt))
      ∙ sym (set-append_left (take n k) (drop n k) j u (omega (arith, less, long)))
      ∙ ap (λ (x : List A). set x j u) (take-append-drop n k)

  -- with a new last one
  pub set_and_last : (i : ℕ) (t u : A) → i < n → sets l 0 (set (take n l) i t ++ (u ∷ [])) ≡ set (set l i t) n u
  set_and_last i t u lt =
      let at : 0 + length (set (take n l) i t) ≡ n = omega (arith, length-set (take n l) i t, first_long) in
      sets_more (set (take n l) i t) l 0 u ∙ ap₂ (λ (x : List A) (k : ℕ). set x k u) (one_set i t lt) at

  -- without one, those after it moved down
  abbrev pub without : ℕ → List A
  without i = take (i - 1) (take n l) ++ drop i (take n l)

  rest-is : (i : ℕ) → i ≤ n → drop i (take n l) ≡ take (n - i) (drop i l)
  rest-is i up =
      let all : n ≡ i + (n - i) = omega (arith, up) in
      ap (λ (k : ℕ). drop i (take k l)) all
      ∙ ap (drop i) (take-add i (n - i) l)
      ∙ drop_at (take i l) (take (n - i) (drop i l)) i (length-take-le i l (omega (arith, up, le)))

  pub without_long : (i : ℕ) → 1 ≤ i → i ≤ n → length (without i) ≡ n - 1
  without_long i pos up =
      let low : length (take (i - 1) (take n l)) ≡ i - 1 = length-take-le (i - 1) (take n l) (omega (arith, first_long, up)) in
      let high : length (drop i (take n l)) ≡ n - i = length-drop i (take n l) ∙ ap (λ (k : ℕ). k - i) first_long in
      length-append (take (i - 1) (take n l)) (drop i (take n l)) ∙ omega (arith, low, high, pos, up)

  pub one_removed : (i : ℕ) → 1 ≤ i → i ≤ n → sets l 0 (without i) ≡ paste l (i - 1) (drop i l) (n - i)
  one_removed i pos up =
      let there : n - 1 ≡ i - 1 + (n - i) = omega (arith, pos, up) in
      sets_front l (without i) (n - 1) (without_long i pos up) (omega (arith, le))
      ∙ ap₂ (λ (x y : List A). x ++ y ++ drop (n - 1) l) (take-take (i - 1) n l (omega (arith, up))) (rest-is i up)
      ∙ ap (λ (k : ℕ). take (i - 1) l ++ take (n - i) (drop i l) ++ drop k l) there

-- the counts and the made channels after a choice
abbrev pub counts_after : List ℕ → Chosen → List ℕ
counts_after b (halts n) = b
counts_after b (goes s) = sets b 0 (beside_of (length s.threads) s.made)

-- words beside a list that hold a state's counts and made channels, and past them what stood there
pub words_are : (b d : List ℕ) (s : State) → length b ≡ 162 → length d ≡ 162 → made_count d ≤ 64 → thread_count d ≡ length s.threads → made_of d ≡ s.made
    → drop (2 + 2 * made_count d) d ≡ drop (2 + 2 * made_count d) b → d ≡ counts_after b (goes s)
words_are b d s hb hd few threads made past =
    let k : ℕ = 2 + 2 * made_count d in
    let here : k ≡ 0 + k = omega arith in
    let number : made_count d ≡ length s.made = sym (length_made d 2 (made_count d)) ∙ ap length made in
    sym (take-append-drop k d)
    ∙ ap (λ (x : List ℕ). take k d ++ x) (past ∙ ap (λ (j : ℕ). drop j b) here)
    ∙ beside_copied b d hb hd few
    ∙ (λ j. sets b 0 (threads j ∷ number j ∷ made_words (made j)))

-- the made channels stay where the number of threads changes
made_kept : (b : List ℕ) (v p k : ℕ) → (p ≡ 0 → ⊥) → made_in (set b 0 v) p k ≡ made_in b p k
unfolding made_in
made_kept b v p zero h = refl
made_kept b v p (suc k) h =
    ap₂ (λ (m : Made) (ms : List Made). m ∷ ms)
    (ap₂ (λ (x y : ℕ). record { owner = x; kind = record { 0 = y } }) (get_or-set_other b 0 p v 0 h) (get_or-set_other b 0 (p + 1) v 0 (λ e. omega (arith, e))))
    (made_kept b v (p + 2) k (λ e. omega (arith, e)))

module _ (b : List ℕ) (long : length b ≡ 162) (few : thread_count b ≤ 64) (room : made_count b ≤ 64) where
  pub threads-told : (v : ℕ) (s : State) → v ≡ length s.threads → s.made ≡ made_of b → set b 0 v ≡ counts_after b (goes s)
  threads-told v s e same =
      let d : List ℕ = set b 0 v in
      let count : get_or d 1 0 ≡ get_or b 1 0 = get_or-set_other b 0 1 v 0 (λ q. omega (arith, q)) in
      words_are b d s long (length-set b 0 v ∙ long) (omega (arith, count, room))
      (get_or-set_same b 0 v 0 (omega (arith, long)) ∙ e)
      (ap (made_in d 2) count ∙ made_kept b v 2 (made_count b) (λ q. omega (arith, q)) ∙ sym same)
      (drop-set-lt (2 + 2 * made_count d) b 0 v (omega arith))

  pub made_told : (x : Made) (s : State) → made_count b < 64 → thread_count b ≡ length s.threads → s.made ≡ made_of b ++ (x ∷ []) → one_made b x ≡ counts_after b (goes s)
  made_told x s more e same =
      let m : ℕ = made_count b in
      let low : List ℕ = set b (2 * m + 2) x.owner in
      let both : List ℕ = set low (2 * m + 3) x.kind.0 in
      let d : List ℕ = one_made b x in
      let w : List ℕ = replicate 768 0 in
      let z : Sized w b = record { words = length-replicate {A = ℕ} 768 0; beside = long; threads = few; made = room } in
      let (state, size) = mint_state w b d x z more refl in
      let count : get_or d 0 0 ≡ get_or b 0 0 =
      get_or-set_other both 1 0 (m + 1) 0 (λ q. omega (arith, q)) ∙ get_or-set_other low (2 * m + 3) 0 x.kind.0 0 (λ q. omega (arith, q))
      ∙ get_or-set_other b (2 * m + 2) 0 x.owner 0 (λ q. omega (arith, q)) in
      let wide : 1 < length both = omega (arith, long, length-set low (2 * m + 3) x.kind.0, length-set b (2 * m + 2) x.owner) in
      let number : get_or d 1 0 ≡ m + 1 = get_or-set_same both 1 (m + 1) 0 wide in
      let k : ℕ = 2 + 2 * made_count d in
      words_are b d s long size.beside size.made (count ∙ e) (ap (λ (y : State). y.made) state ∙ sym same)
      (drop-set-lt k both 1 (m + 1) (omega arith) ∙ drop-set-lt k low (2 * m + 3) x.kind.0 (omega (arith, number)) ∙ drop-set-lt k b (2 * m + 2) x.owner (omega (arith, number)))
