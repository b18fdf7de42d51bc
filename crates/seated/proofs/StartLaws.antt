-- The start of a run with seats: sessions that start with a role, the lowest that overfills one, and the threads' sessions.
use Prim.Native.Nat.{ℕ, zero, suc, ◌+◌, ◌-◌, ◌≤◌, ◌<◌}
use mathlib.Core.Path.{◌≡◌, refl, sym, ap, ap₂, ◌∙◌}
use mathlib.Core.Bool.{Bool, true, false, cond, ◌&&◌, ◌||◌, false≢true}
use mathlib.Core.List.{List, [], ◌∷◌, ◌++◌}
use native.Mathlib.Omega.{arith}
use mir.Val.{bool_byte}
use lib.Dec.{eqb, ltb}
use lib.ListN.{length, set, take, drop, length-append, length-drop, take-append-drop}
use lib.Seq.{take-suc-set, drop-set-lt, drop-drop, take_at}
use borrow.Author.Tests.{ltb-true, ltb-false, lt-ltb, eqb-true, eqb-false, ne_eqb}
use Rattle.masks.specs.Mask.{has}
use Rattle.masks.proofs.Laws.{has_none}
use Rattle.format.specs.Contents.{Contents, item, no_session}
use Rattle.format.specs.declared.Session.{Session}
use Rattle.format.proofs.ContentsLaws.{item_zero, item_past}
use Rattle.reading_exact.specs.File.{InCount}
use Rattle.rounds.specs.Rounds.{numbers}
use Rattle.seats.specs.Seats.{Limited, SeatedState, sits, count_to, seated_start, overfills, lowest_to}
use Rattle.seats.proofs.SeatedStart.{numbers_length, start_sits}

byte-is : (h : Bool) → bool_byte h ≡ cond h 1 0
byte-is true = refl
byte-is false = refl

pub byte_few : (h : Bool) → bool_byte h ≤ 1
byte_few true = omega arith
byte_few false = omega arith

-- who is out of count starts with no role
session_in : (ss : List Session) (j r : ℕ) → has (item no_session ss j).mask r ≡ true → InCount (length ss) j
session_in ss zero r e = absurd (false≢true (sym (has_none r) ∙ ap (λ (s : Session). has s.mask r) (sym (item_zero no_session ss)) ∙ e))
session_in ss (suc j) r e = go (ltb (length ss) (suc j)) refl
  where
    go : (b : Bool) → ltb (length ss) (suc j) ≡ b → InCount (length ss) (suc j)
    go true h = absurd (false≢true (sym (has_none r) ∙ ap (λ (s : Session). has s.mask r) (sym (item_past no_session ss (suc j) (ltb-true (length ss) (suc j) h))) ∙ e))
    go false h = (omega arith, ltb-false (length ss) (suc j) h)

-- a session has a role at the start where its mask has it
pub starts_with : (C : Contents) (j r : ℕ) → has (item no_session C.sessions j).mask r ≡ sits (seated_start C) j r
starts_with C j r = go (has (item no_session C.sessions j).mask r) refl (sits (seated_start C) j r) refl
  where
    go : (x : Bool) → has (item no_session C.sessions j).mask r ≡ x → (y : Bool) → sits (seated_start C) j r ≡ y → x ≡ y
    go true ex true ey = refl
    go true ex false ey = absurd (false≢true (sym ey ∙ (start_sits C j r).1 (session_in C.sessions j r ex, ex)))
    go false ex true ey = absurd (false≢true (sym ex ∙ ((start_sits C j r).0 ey).1))
    go false ex false ey = refl

pub count-zero : (q : ℕ → Bool) → 0 ≡ count_to q 0
unfolding count_to
count-zero q = refl

pub count_next : (C : Contents) (r n at : ℕ) (s : Session) (h : Bool) → 1 ≤ at → n ≡ count_to (λ x. sits (seated_start C) x r) (at - 1) → s ≡ item no_session C.sessions at → h ≡ has s.mask r
    → n + bool_byte h ≡ count_to (λ x. sits (seated_start C) x r) at
unfolding count_to
count_next C r n zero s h one en es eh = absurd (omega (arith, one))
count_next C r n (suc j) s h one en es eh =
    let back : suc j - 1 ≡ j = omega arith in
    let it : h ≡ sits (seated_start C) (suc j) r = eh ∙ ap (λ (x : Session). has x.mask r) es ∙ starts_with C (suc j) r in
    let swap : n + bool_byte h ≡ cond h 1 0 + n = omega (arith, byte-is h) in
    swap ∙ ap₂ (λ (x : Bool) (y : ℕ). cond x 1 0 + y) it (en ∙ ap (count_to (λ x. sits (seated_start C) x r)) back)

-- one role more
pub over_none : (L : Limited) (S : SeatedState) (k : ℕ) → false ≡ overfills L S 0 k
unfolding overfills
over_none L S k = refl

pub over_next : (L : Limited) (S : SeatedState) (k limit at : ℕ) (was is : Bool) → 1 ≤ at → was ≡ overfills L S (at - 1) k → limit ≡ L.seats at → is ≡ (ltb 0 limit && ltb limit (count_to (λ j. sits S j at) k))
    → (is || was) ≡ overfills L S at k
unfolding overfills
over_next L S k limit zero was is one ew el ei = absurd (omega (arith, one))
over_next L S k limit (suc r) was is one ew el ei =
    let back : suc r - 1 ≡ r = omega arith in
    ap₂ (λ (x y : Bool). x || y) (ei ∙ ap (λ (x : ℕ). ltb 0 x && ltb x (count_to (λ j. sits S j (suc r)) k)) el) (ew ∙ ap (λ (x : ℕ). overfills L S x k) back)

-- the lowest that meets a test: none yet, and none at k either; or k
pub lowest_none : (q : ℕ → Bool) → lowest_to q 0 ≡ 0
unfolding lowest_to
lowest_none q = refl

lowest_step : (q : ℕ → Bool) (k : ℕ) → lowest_to q k ≡ 0 → lowest_to q (suc k) ≡ cond (q (suc k)) (suc k) 0
unfolding lowest_to
lowest_step q k e = ap (λ (x : ℕ). cond (eqb x 0) (cond (q (suc k)) (suc k) 0) x) e

pub lowest_not : (q : ℕ → Bool) (k : ℕ) → 1 ≤ k → lowest_to q (k - 1) ≡ 0 → q k ≡ false → lowest_to q k ≡ 0
lowest_not q zero one e f = absurd (omega (arith, one))
lowest_not q (suc k) one e f =
    let back : k ≡ suc k - 1 = omega arith in
    lowest_step q k (ap (lowest_to q) back ∙ e) ∙ ap (λ (x : Bool). cond x (suc k) 0) f

pub lowest_here : (q : ℕ → Bool) (k n : ℕ) → 1 ≤ k → k ≤ n → lowest_to q (k - 1) ≡ 0 → q k ≡ true → k ≡ lowest_to q n
unfolding lowest_to
lowest_here q k zero one le e f = absurd (omega (arith, one, le))
lowest_here q k (suc n) one le e f = go (λ l. lowest_here q k n one l e f) (eqb k (suc n)) refl
  where
    go : (k ≤ n → k ≡ lowest_to q n) → (b : Bool) → eqb k (suc n) ≡ b → k ≡ lowest_to q (suc n)
    go lower true h =
        let here : k ≡ suc n = eqb-true k (suc n) h in
        let back : n ≡ k - 1 = omega (arith, here) in
        here ∙ sym (lowest_step q n (ap (lowest_to q) back ∙ e) ∙ ap (λ (x : Bool). cond x (suc n) 0) (ap q (sym here) ∙ f))
    go lower false h =
        let past : (k ≡ suc n) → ⊥ = eqb-false k (suc n) h in
        let before : k ≡ lowest_to q n = lower (omega (arith, le, past)) in
        before ∙ sym (ap (λ (x : Bool). cond x (cond (q (suc n)) (suc n) 0) (lowest_to q n)) (ne_eqb (lowest_to q n) 0 (λ z. omega (arith, one, before, z))))

-- the threads' sessions, one after the other
pub numbered_none : (l : List ℕ) → take 0 l ≡ numbers 1 0
unfolding numbers
numbered_none l = refl

numbers_snoc : (v k : ℕ) → numbers v k ++ ((v + k) ∷ []) ≡ numbers v (suc k)
unfolding numbers
numbers_snoc v zero = let e : v + 0 ≡ v = omega arith in ap (λ (x : ℕ). x ∷ []) e
numbers_snoc v (suc k) = let e : v + suc k ≡ suc v + k = omega arith in ap (λ (x : ℕ). v ∷ numbers (suc v) k ++ (x ∷ [])) e ∙ ap (λ (l : List ℕ). v ∷ l) (numbers_snoc (suc v) k)

pub numbered_more : (l : List ℕ) (k v : ℕ) → k < length l → v ≡ k + 1 → take k l ≡ numbers 1 k → take (k + 1) (set l k v) ≡ numbers 1 (k + 1)
numbered_more l k v lt ev have =
    let one : suc k ≡ k + 1 = omega arith in
    let last : v ≡ 1 + k = omega (arith, ev) in
    ap (λ (x : ℕ). take x (set l k v)) (sym one) ∙ take-suc-set l k v lt ∙ ap₂ (λ (x : List ℕ) (y : ℕ). x ++ (y ∷ [])) have last ∙ numbers_snoc 1 k ∙ ap (numbers 1) one

-- and the words past them stay
pub kept_more : (l l₀ : List ℕ) (k v : ℕ) → drop k l ≡ drop k l₀ → drop (k + 1) (set l k v) ≡ drop (k + 1) l₀
kept_more l l₀ k v have = drop-set-lt (k + 1) l k v (omega arith) ∙ sym (drop-drop 1 k l) ∙ ap (drop 1) have ∙ drop-drop 1 k l₀

pub numbered_all : (l l₀ : List ℕ) (n k : ℕ) → n ≡ k → take k l ≡ numbers 1 k → drop k l ≡ drop k l₀ → l ≡ numbers 1 n ++ drop n l₀
numbered_all l l₀ n k e first rest =
    sym (take-append-drop k l) ∙ ap₂ (λ (x y : List ℕ). x ++ y) first rest ∙ ap (λ (x : ℕ). numbers 1 x ++ drop x l₀) (sym e)

pub numbered_first : (l l₀ : List ℕ) (n : ℕ) → l ≡ numbers 1 n ++ drop n l₀ → take n l ≡ numbers 1 n
numbered_first l l₀ n e = ap (take n) e ∙ take_at (numbers 1 n) (drop n l₀) n (numbers_length 1 n)

pub numbered_length : (l l₀ : List ℕ) (n : ℕ) → n ≤ length l₀ → l ≡ numbers 1 n ++ drop n l₀ → length l ≡ length l₀
numbered_length l l₀ n h e = omega (arith, ap length e, length-append (numbers 1 n) (drop n l₀), numbers_length 1 n, length-drop n l₀)

-- the test of one role
pub not_over : (limit n : ℕ) → limit ≡ 0 → false ≡ (ltb 0 limit && ltb limit n)
not_over limit n e = sym (ap (λ (x : ℕ). ltb 0 x && ltb x n) e)

pub over_by : (limit n m : ℕ) → (limit ≡ 0 → ⊥) → n ≡ m → ltb limit n ≡ (ltb 0 limit && ltb limit m)
over_by limit n m z e = ap (ltb limit) e ∙ sym (ap (λ (x : Bool). x && ltb limit m) (lt-ltb 0 limit (omega (arith, z))))
