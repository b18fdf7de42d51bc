-- Runs of stores of words of the tables.
use Prim.Native.Nat.{ℕ, suc, ◌+◌, ◌*◌, ◌-◌, ◌≤◌, ◌<◌}
use mathlib.Core.Path.{◌≡◌, sym, ap, ap₂, ◌∙◌}
use mathlib.Core.List.{List, [], ◌∷◌, ◌++◌, append-nil}
use native.Mathlib.Omega.{arith}
use lib.ListN.{length, get_or, take, drop, length-append, length-drop}
use lib.Seq.{sets, sets-eq, length-sets, paste, length-take-le}
use Rattle.masks.specs.Mask.{held}
use Rattle.format.proofs.PutRuns.{sets_join}
use Rattle.steps.specs.declared.Thread.{Thread}
use Rattle.steps.specs.Records.{thread_in, threads_in}
use Rattle.steps.specs.Beside.{thread_count, made_count}
use Rattle.steps.specs.Kept.{Sized}
use Rattle.steps.proofs.TableLaws.{eight}
use Rattle.running.specs.Run.{thread_words}
use Rattle.seating.specs.SeatTables.{LineRows}
use Rattle.seated.specs.SeatedTables.{lines_in, seated_in}
use Rattle.rows.specs.Rows.{line_words, row_words}
use Rattle.rows.proofs.StandLaws.{line_words_lem, row_words_lem, thread_words_length}

-- a copy is a run of stores
pub copied : (l m s : List ℕ) (to at n : ℕ) → at + n ≤ length s → to + n ≤ length l → m ≡ paste l to (drop at s) n → m ≡ sets l to (take n (drop at s))
copied l m s to at n from fits e =
    let long : length (take n (drop at s)) ≡ n = length-take-le n (drop at s) (omega (arith, from, length-drop at s)) in
    e ∙ sym (sets-eq (take n (drop at s)) l to (omega (arith, long, fits)) ∙ ap (λ (x : ℕ). take to l ++ take n (drop at s) ++ drop (to + x) l) long)

-- one run after another
pub joined : (l m q : List ℕ) (i j : ℕ) (vs ws : List ℕ) → m ≡ sets l i vs → j ≡ i + length vs → q ≡ sets m j ws → q ≡ sets l i (vs ++ ws)
joined l m q i j vs ws e k h = h ∙ ap₂ (λ (x : List ℕ) (y : ℕ). sets x y ws) e k ∙ sets_join l i vs ws

-- a turn of a loop: those still to come
pub turned : (l m whole : List ℕ) (i j : ℕ) (vs ws all : List ℕ) → m ≡ sets l i vs → j ≡ i + length vs → all ≡ vs ++ ws → sets l i all ≡ whole → sets m j ws ≡ whole
turned l m whole i j vs ws all e k a h = ap₂ (λ (x : List ℕ) (y : ℕ). sets x y ws) e k ∙ sets_join l i vs ws ∙ ap (sets l i) (sym a) ∙ h

-- a thread's words, as code lists them
pub thread_listed : (t : Thread) (roles : ℕ) → length t.vars ≡ 8 → roles ≡ held 16 t.mask
    → (t.user ∷ t.node ∷ t.mask ∷ roles ∷ get_or t.vars 0 0 ∷ get_or t.vars 1 0 ∷ get_or t.vars 2 0 ∷ get_or t.vars 3 0
    ∷ get_or t.vars 4 0 ∷ get_or t.vars 5 0 ∷ get_or t.vars 6 0 ∷ get_or t.vars 7 0 ∷ []) ≡ thread_words (t ∷ [])
unfolding thread_words
thread_listed t roles long is = ap₂ (λ (x : ℕ) (l : List ℕ). t.user ∷ t.node ∷ t.mask ∷ x ∷ l) is (eight t.vars long ∙ sym (append-nil t.vars))

-- threads
threads_more : (w : List ℕ) (n k : ℕ) → k < n → thread_words (threads_in w (12 * k) (n - k)) ≡ thread_words (thread_in w (12 * k) ∷ []) ++ thread_words (threads_in w (12 * (k + 1)) (n - (k + 1)))
unfolding thread_words threads_in
threads_more w n k h =
    let c : n - k ≡ suc (n - (k + 1)) = omega arith in
    let z : 12 * k + 12 ≡ 12 * (k + 1) = omega arith in
    rw (c, z)

pub threads_begin : (w out : List ℕ) (at n : ℕ) → sets out (at + 12 * 0) (thread_words (threads_in w (12 * 0) (n - 0))) ≡ sets out at (thread_words (threads_in w 0 n))
threads_begin w out at n =
    let c : n - 0 ≡ n = omega arith in
    let z : at + 12 * 0 ≡ at = omega arith in
    ap₂ (λ (x y : ℕ). sets out x (thread_words (threads_in w 0 y))) z c

pub threads_turn : (w l m whole : List ℕ) (at n k : ℕ) (t : Thread) → k < n → t ≡ thread_in w (12 * k) → m ≡ sets l (at + 12 * k) (thread_words (t ∷ []))
    → sets l (at + 12 * k) (thread_words (threads_in w (12 * k) (n - k))) ≡ whole → sets m (at + 12 * (k + 1)) (thread_words (threads_in w (12 * (k + 1)) (n - (k + 1)))) ≡ whole
unfolding thread_words
threads_turn w l m whole at n k t h et e inv =
    turned l m whole (at + 12 * k) (at + 12 * (k + 1)) (thread_words (thread_in w (12 * k) ∷ [])) (thread_words (threads_in w (12 * (k + 1)) (n - (k + 1)))) (thread_words (threads_in w (12 * k) (n - k)))
    (e ∙ ap (λ (x : Thread). sets l (at + 12 * k) (thread_words (x ∷ []))) et) (omega arith) (threads_more w n k h) inv

pub threads_end : (w l whole : List ℕ) (n k p : ℕ) → n ≤ k → sets l p (thread_words (threads_in w (12 * k) (n - k))) ≡ whole → l ≡ whole
unfolding thread_words threads_in
threads_end w l whole n k p h inv = let z : n - k ≡ 0 = omega arith in rw z at inv

-- lines
module _ (ls : List ℕ) (R : LineRows ls) (roles r n : ℕ) (few : roles ≤ 16) (lt : r < roles) (is : n ≡ get_or ls (33 * r) 0 + 1) where
  low : r < 16
  low = omega (arith, lt, few)

  part : length (take n (drop (33 * r) ls)) ≡ n
  part = length-take-le n (drop (33 * r) ls) (omega (arith, is, R.few r low, R.words, low, length-drop (33 * r) ls))

  pub line_length : length (line_words (lines_in ls) (suc r) (roles - r)) ≡ n + length (line_words (lines_in ls) (suc (r + 1)) (roles - (r + 1)))
  line_length =
      ap length (line_words_lem [] ls R r low roles n lt is)
      ∙ length-append (take n (drop (33 * r) ls)) (line_words (lines_in ls) (suc (r + 1)) (roles - (r + 1)))
      ∙ ap (λ (x : ℕ). x + length (line_words (lines_in ls) (suc (r + 1)) (roles - (r + 1)))) part

  pub line_turn : (l m whole : List ℕ) (on : ℕ) → m ≡ paste l on (drop (33 * r) ls) n → on + n ≤ length l
      → sets l on (line_words (lines_in ls) (suc r) (roles - r)) ≡ whole → sets m (on + n) (line_words (lines_in ls) (suc (r + 1)) (roles - (r + 1))) ≡ whole
  line_turn l m whole on e fits inv =
      turned l m whole on (on + n) (take n (drop (33 * r) ls)) (line_words (lines_in ls) (suc (r + 1)) (roles - (r + 1))) (line_words (lines_in ls) (suc r) (roles - r))
      (copied l m ls on (33 * r) n (omega (arith, is, R.few r low, R.words, low)) fits e) (omega (arith, part)) (line_words_lem [] ls R r low roles n lt is) inv

pub lines_over : (f : ℕ → List ℕ) (r roles : ℕ) → roles ≤ r → line_words f (suc r) (roles - r) ≡ []
unfolding line_words
lines_over f r roles le = let none : roles - r ≡ 0 = omega (arith, le) in ap (line_words f (suc r)) none

pub lines_begin : (f : ℕ → List ℕ) (roles : ℕ) → line_words f 1 roles ≡ line_words f (suc 0) (roles - 0)
lines_begin f roles = let all : roles ≡ roles - 0 = omega arith in ap (line_words f 1) all

-- the whole row
module _ (w b os ls : List ℕ) (Z : Sized w b) (long : length os ≡ 64) (roles used n : ℕ) (is-used : used ≡ 2 + 2 * made_count b) (is-n : n ≡ thread_count b) where
  abbrev A : List ℕ
  A = take used (drop 0 b)

  abbrev B : List ℕ
  B = thread_words (threads_in w 0 n)

  abbrev O : List ℕ
  O = take n (drop 0 os)

  abbrev D : List ℕ
  D = line_words (lines_in ls) 1 roles

  long_a : length A ≡ used
  long_a = let few : made_count b ≤ 64 = Z.made in length-take-le used b (omega (arith, is-used, few, Z.beside))

  long_b : length B ≡ 12 * n
  long_b = thread_words_length w 0 n

  long_o : length O ≡ n
  long_o = let few : thread_count b ≤ 64 = Z.threads in length-take-le n os (omega (arith, is-n, few, long))

  words : row_words roles (seated_in w b os ls) ≡ A ++ (B ++ (O ++ D))
  words = row_words_lem [] w b os ls Z long 0 roles used n is-used is-n

  pub row_long : length (row_words roles (seated_in w b os ls)) ≡ 2 + 2 * made_count b + 13 * thread_count b + length D
  row_long =
      let whole : length (row_words roles (seated_in w b os ls)) ≡ length A + (length B + (length O + length D)) =
      ap length words ∙ length-append A (B ++ (O ++ D))
      ∙ ap (λ (x : ℕ). length A + x) (length-append B (O ++ D) ∙ ap (λ (x : ℕ). length B + x) (length-append O D)) in
      omega (arith, whole, long_a, long_b, long_o, is-used, is-n)

  pub row_put : (l l₁ l₂ l₃ l₄ : List ℕ) (at : ℕ) → at + (used + 12 * n + n) ≤ length l
      → l₁ ≡ paste l at (drop 0 b) used → l₂ ≡ sets l₁ (at + used) B → l₃ ≡ paste l₂ (at + used + 12 * n) (drop 0 os) n → l₄ ≡ sets l₃ (at + used + 12 * n + n) D
      → l₄ ≡ sets l at (row_words roles (seated_in w b os ls))
  row_put l l₁ l₂ l₃ l₄ at fits e₁ e₂ e₃ e₄ =
      let few_made : made_count b ≤ 64 = Z.made in
      let few : thread_count b ≤ 64 = Z.threads in
      let a : l₁ ≡ sets l at A = copied l l₁ b at 0 used (omega (arith, is-used, few_made, Z.beside)) (omega (arith, fits)) e₁ in
      let n₂ : length l₂ ≡ length l = ap length e₂ ∙ length-sets l₁ (at + used) B ∙ ap length a ∙ length-sets l at A in
      let c : l₃ ≡ sets l₂ (at + used + 12 * n) O = copied l₂ l₃ os (at + used + 12 * n) 0 n (omega (arith, is-n, few, long)) (omega (arith, fits, n₂)) e₃ in
      let d : l₄ ≡ sets l₂ (at + used + 12 * n) (O ++ D) = joined l₂ l₃ l₄ (at + used + 12 * n) (at + used + 12 * n + n) O D c (omega (arith, long_o)) e₄ in
      let f : l₄ ≡ sets l₁ (at + used) (B ++ (O ++ D)) = joined l₁ l₂ l₄ (at + used) (at + used + 12 * n) B (O ++ D) e₂ (omega (arith, long_b)) d in
      joined l l₁ l₄ at (at + used) A (B ++ (O ++ D)) a (omega (arith, long_a)) f ∙ ap (sets l at) (sym words)
