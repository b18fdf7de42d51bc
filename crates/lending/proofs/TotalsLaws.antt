-- The totals beside a lent list: as words, as counts, and judged record by record.
use Prim.Native.Nat.{ℕ, zero, suc, ◌+◌, ◌-◌, ◌%◌, ◌≤◌, ◌<◌}
use mathlib.Core.Path.{◌≡◌, refl, sym, ap, ap₂, ◌∙◌, fun_ext}
use mathlib.Core.Bool.{Bool, true, false, cond, ◌&&◌, and-eq-true_iff, false≢true}
use mathlib.Core.List.{List, [], ◌∷◌}
use native.Mathlib.Omega.{arith}
use lib.Dec.{eqb, ltb}
use lib.ListN.{length, get_or, set, take, drop, length-set, drop_of_length-le}
use lib.Seq.{sets, length-sets, ext_get_or, get_or-set_same, get_or-set_other, get_or-take, set-get_or, length-take-le, drop-cons}
use mir.Val.{bool_byte}
use borrow.Author.Tests.{eqb-true, eqb-false, eq-eqb, ltb-true, ltb-false}
use Rattle.format.specs.Contents.{Contents, in_count}
use Rattle.format.proofs.ContentsLaws.{in_count_lem, in_count_iff}
use Rattle.naming.specs.Scopes.{awaited_by, awaits}
use Rattle.steps.specs.Threads.{no_thread}
use Rattle.steps.specs.declared.Thread.{Thread}
use Rattle.steps.specs.declared.Made.{Made}
use Rattle.steps.specs.Beside.{thread_count, made_of, waiting, waiting_from, totals_in, totals_for}
use Rattle.steps.proofs.TableLaws.{sets_other, sets_in}
use Rattle.steps.proofs.TotalLaws.{Aside, length-replicate, all_zero}
use Rattle.reading_exact.specs.File.{InCount}
use Rattle.running_exact.proofs.TotalWords.{hit, hit_small}
use Rattle.lending.specs.declared.Tally.{Tally}
use Rattle.lending.specs.Lent.{thread_fits, every, same}
use Rattle.lending.specs.Walk.{no_tally, one_in, tally_on, tally_all, tally_fits, threads_fit}

-- the totals as a list of numbers
waiting_long : (kind : ℕ → ℕ) (ts : List Thread) (k n : ℕ) → length (waiting_from kind ts k n) ≡ n
unfolding waiting_from
waiting_long kind ts k zero = refl
waiting_long kind ts k (suc n) = ap suc (waiting_long kind ts (suc k) n)

waiting_get : (kind : ℕ → ℕ) (ts : List Thread) (k n j : ℕ) → j < n → get_or (waiting_from kind ts k n) j 0 ≡ waiting kind (k + j) ts
unfolding waiting_from
waiting_get kind ts k zero j lt = let no : ⊥ = omega (arith, lt) in absurd no
waiting_get kind ts k (suc n) zero lt = let z : k ≡ k + 0 = omega arith in ap (λ (x : ℕ). waiting kind x ts) z
waiting_get kind ts k (suc n) (suc j) lt = let z : suc k + j ≡ k + suc j = omega arith in waiting_get kind ts (suc k) n j (omega (arith, lt)) ∙ ap (λ (x : ℕ). waiting kind x ts) z

module _ (kind : ℕ → ℕ) (ts : List Thread) where
  pub totals_long : length (totals_for kind ts) ≡ 32
  totals_long = waiting_long kind ts 1 32

  pub totals_get : (j : ℕ) → j < 32 → get_or (totals_for kind ts) j 0 ≡ waiting kind (1 + j) ts
  totals_get j lt = waiting_get kind ts 1 32 j lt

  -- words that hold them
  pub totals_words : (d e : List ℕ) → length d ≡ 162 → Aside d e → ((k : ℕ) → InCount 32 k → get_or e (129 + k) 0 ≡ waiting kind k ts) → e ≡ sets d 130 (totals_for kind ts)
  totals_words d e long aside have = ext_get_or 0 e (sets d 130 (totals_for kind ts)) (aside.long ∙ sym (length-sets d 130 (totals_for kind ts))) (λ j lt. at j (omega (arith, lt, aside.long, long)) (ltb j 130) refl)
    where
      at : (j : ℕ) → j < 162 → (b : Bool) → ltb j 130 ≡ b → get_or e j 0 ≡ get_or (sets d 130 (totals_for kind ts)) j 0
      at j lt true q = let low = ltb-true j 130 q in aside.same j low ∙ sym (sets_other (totals_for kind ts) d 130 j 0 (λ k small z. omega (arith, low, z)))
      at j lt false q =
          let high = ltb-false j 130 q in
          let a : j ≡ 129 + (j - 129) = omega (arith, high) in
          let b : 130 + (j - 130) ≡ j = omega (arith, high) in
          let c : 1 + (j - 130) ≡ j - 129 = omega (arith, high) in
          ap (λ (x : ℕ). get_or e x 0) a ∙ have (j - 129) (omega (arith, high), omega (arith, lt)) ∙ ap (λ (x : ℕ). waiting kind x ts) (sym c) ∙ sym (totals_get (j - 130) (omega (arith, high, lt)))
          ∙ sym (sets_in (totals_for kind ts) d 130 (j - 130) 0 (omega (arith, high, lt, totals_long)) (omega (arith, long, totals_long))) ∙ ap (λ (x : ℕ). get_or (sets d 130 (totals_for kind ts)) x 0) b

-- two lists that are the same
pub same_true : (xs ys : List ℕ) → same xs ys ≡ true → xs ≡ ys
unfolding same
same_true [] [] e = refl
same_true [] (y ∷ ys) e = absurd (false≢true e)
same_true (x ∷ xs) [] e = absurd (false≢true e)
same_true (x ∷ xs) (y ∷ ys) e = let (a, b) = (and-eq-true_iff (eqb x y) (same xs ys)).0 e in ap₂ ◌∷◌ (eqb-true x y a) (same_true xs ys b)

pub same_refl : (xs : List ℕ) → same xs xs ≡ true
unfolding same
same_refl [] = refl
same_refl (x ∷ xs) = (and-eq-true_iff (eqb x x) (same xs xs)).1 (eq-eqb x x refl, same_refl xs)

-- compared from an index on
pub same_step : (xs ys : List ℕ) (a : Bool) (k : ℕ) → k < length xs → length xs ≡ length ys
    → (a && eqb (get_or xs k 0) (get_or ys k 0)) && same (drop (k + 1) xs) (drop (k + 1) ys) ≡ a && same (drop k xs) (drop k ys)
unfolding same
same_step xs ys a k lt e =
    let one : k + 1 ≡ suc k = omega arith in
    ap (λ (j : ℕ). (a && eqb (get_or xs k 0) (get_or ys k 0)) && same (drop j xs) (drop j ys)) one
    ∙ assoc a (eqb (get_or xs k 0) (get_or ys k 0)) (same (drop (suc k) xs) (drop (suc k) ys))
    ∙ sym (ap₂ (λ (u v : List ℕ). a && same u v) (drop-cons xs k 0 lt) (drop-cons ys k 0 (omega (arith, lt, e))))
  where
    assoc : (a b c : Bool) → (a && b) && c ≡ a && (b && c)
    assoc true b c = refl
    assoc false b c = refl

pub same_end : (xs ys : List ℕ) (a : Bool) (k : ℕ) → length xs ≤ k → length ys ≤ k → a ≡ a && same (drop k xs) (drop k ys)
unfolding same
same_end xs ys a k h g = sym (ap₂ (λ (u v : List ℕ). a && same u v) (drop_of_length-le xs {i = k} h) (drop_of_length-le ys {i = k} g) ∙ whole a)
  where
    whole : (a : Bool) → a && true ≡ a
    whole true = refl
    whole false = refl

-- one more where the kind is among the first k
abbrev pub one_upto : List ℕ → ℕ → ℕ → List ℕ
one_upto l a k = cond (in_count k a) (set l (a - 1) ((get_or l (a - 1) 0 + 1) % 65536)) l

pub one_none : (l : List ℕ) (a : ℕ) → l ≡ one_upto l a 0
one_none l a = go (in_count 0 a) refl
  where
    go : (b : Bool) → in_count 0 a ≡ b → l ≡ cond b (set l (a - 1) ((get_or l (a - 1) 0 + 1) % 65536)) l
    go true q = let some = in_count_lem 0 a q in let no : ⊥ = omega (arith, some.0, some.1) in absurd no
    go false q = refl

-- so for the next one: its total gets 1 where it is the kind, and else 0
pub one_on : (l m : List ℕ) (a k at v w : ℕ) → m ≡ one_upto l a k → at ≡ k → v ≡ get_or m at 0 → v < 65536 → w ≡ bool_byte (eqb a (k + 1)) → set m at ((v + w) % 65536) ≡ one_upto l a (k + 1)
one_on l m a k at v w e there is small one = go (eqb a (k + 1)) refl
  where
    held : v ≡ get_or m k 0
    held = is ∙ ap (λ (x : ℕ). get_or m x 0) there

    count_off : (n : ℕ) → (InCount n a → ⊥) → in_count n a ≡ false
    count_off n h = off (in_count n a) refl
      where
        off : (b : Bool) → in_count n a ≡ b → b ≡ false
        off true q = absurd (h (in_count_lem n a q))
        off false q = refl

    go : (b : Bool) → eqb a (k + 1) ≡ b → set m at ((v + w) % 65536) ≡ one_upto l a (k + 1)
    go true q =
        let kind : a ≡ k + 1 = eqb-true a (k + 1) q in
        let before : a - 1 ≡ k = omega (arith, kind) in
        let none : in_count k a ≡ false = count_off k (λ h. omega (arith, h.1, kind)) in
        let all : m ≡ l = e ∙ ap (λ (p : Bool). cond p (set l (a - 1) ((get_or l (a - 1) 0 + 1) % 65536)) l) none in
        let first : w ≡ 1 = one ∙ ap bool_byte q in
        ap₂ (λ (x y : ℕ). set m x ((y + w) % 65536)) (there ∙ sym before) (held ∙ ap (λ (x : ℕ). get_or m x 0) (sym before))
        ∙ ap₂ (λ (x : List ℕ) (y : ℕ). set x (a - 1) ((get_or x (a - 1) 0 + y) % 65536)) all first
        ∙ ap (λ (p : Bool). cond p (set l (a - 1) ((get_or l (a - 1) 0 + 1) % 65536)) l) (sym ((in_count_iff (k + 1) a).1 (omega (arith, kind), omega (arith, kind))))
    go false q =
        let other : a ≡ k + 1 → ⊥ = eqb-false a (k + 1) q in
        let zero_more : w ≡ 0 = one ∙ ap bool_byte q in
        let stays : (v + w) % 65536 ≡ get_or m k 0 = let z : (v + w) % 65536 ≡ v = omega (arith, zero_more, small) in z ∙ held in
        ap₂ (set m) there stays ∙ set-get_or m k 0 ∙ e
        ∙ ap (λ (p : Bool). cond p (set l (a - 1) ((get_or l (a - 1) 0 + 1) % 65536)) l) (same_count (in_count k a) refl)
      where
        same_count : (b : Bool) → in_count k a ≡ b → b ≡ in_count (k + 1) a
        same_count true h = let some = in_count_lem k a h in sym ((in_count_iff (k + 1) a).1 (some.0, omega (arith, some.1)))
        same_count false h = sym (count_off (k + 1) (λ some. false≢true (sym h ∙ (in_count_iff k a).1 (some.0, small_one (eqb-false a (k + 1) q) some.1))))
          where
            small_one : (a ≡ k + 1 → ⊥) → a ≤ k + 1 → a ≤ k
            small_one n h = omega (arith, n, h)

-- one more in a total
in-long : (l : List ℕ) (k : ℕ) → length (one_in l k) ≡ length l
unfolding one_in
in-long l k = go (in_count 32 k)
  where
    go : (b : Bool) → length (cond b (set l (k - 1) ((get_or l (k - 1) 0 + 1) % 65536)) l) ≡ length l
    go true = length-set l (k - 1) ((get_or l (k - 1) 0 + 1) % 65536)
    go false = refl

in-get : (l : List ℕ) (a j : ℕ) → length l ≡ 32 → j < 32 → get_or l j 0 < 65535 → get_or (one_in l a) j 0 ≡ get_or l j 0 + hit a (1 + j)
unfolding one_in
in-get l a j long lt small = go (eqb a (1 + j)) refl
  where
    v : ℕ
    v = (get_or l (a - 1) 0 + 1) % 65536

    apart : (p : Bool) → in_count 32 a ≡ p → (a ≡ 1 + j → ⊥) → get_or (cond p (set l (a - 1) v) l) j 0 ≡ get_or l j 0
    apart true e n = let some = in_count_lem 32 a e in get_or-set_other l (a - 1) j v 0 (λ q. n (omega (arith, q, some.0)))
    apart false e n = refl

    go : (p : Bool) → eqb a (1 + j) ≡ p → get_or (cond (in_count 32 a) (set l (a - 1) v) l) j 0 ≡ get_or l j 0 + cond p 1 0
    go true e =
        let is : a ≡ 1 + j = eqb-true a (1 + j) e in
        let inside : in_count 32 a ≡ true = (in_count_iff 32 a).1 (omega (arith, is), omega (arith, is, lt)) in
        let there : a - 1 ≡ j = omega (arith, is) in
        let word : v ≡ get_or l j 0 + 1 = let old : get_or l (a - 1) 0 ≡ get_or l j 0 = ap (λ (x : ℕ). get_or l x 0) there in omega (arith, old, small) in
        ap (λ (p : Bool). get_or (cond p (set l (a - 1) v) l) j 0) inside ∙ ap (λ (x : ℕ). get_or (set l (a - 1) v) x 0) (sym there) ∙ get_or-set_same l (a - 1) v 0 (omega (arith, there, lt, long)) ∙ word
    go false e = let z : get_or l j 0 ≡ get_or l j 0 + 0 = omega arith in apart (in_count 32 a) refl (eqb-false a (1 + j) e) ∙ z

-- all records judged
module _ (C : Contents) (table : List ℕ) (made : List Made) where
  fits_all : (ts : List Thread) (s : Tally) → (tally_all C table made s ts).fits ≡ s.fits && every (thread_fits C made) ts
  unfolding tally_all tally_on every
  fits_all [] s = whole s.fits
    where
      whole : (a : Bool) → a ≡ a && true
      whole true = refl
      whole false = refl
  fits_all (t ∷ ts) s = fits_all ts (tally_on C table made s t) ∙ assoc s.fits (thread_fits C made t) (every (thread_fits C made) ts)
    where
      assoc : (a b c : Bool) → (a && b) && c ≡ a && (b && c)
      assoc true b c = refl
      assoc false b c = refl

  totals_all : (ts : List Thread) (s : Tally) → length s.totals ≡ 32
      → (length (tally_all C table made s ts).totals ≡ 32)
      × ((j : ℕ) → j < 32 → get_or s.totals j 0 + length ts < 65536 → get_or (tally_all C table made s ts).totals j 0 ≡ get_or s.totals j 0 + waiting (awaited_by table) (1 + j) ts)
  unfolding tally_all tally_on waiting
  totals_all [] s long = (long, λ j lt few. omega arith)
  totals_all (t ∷ ts) s long =
      let a : ℕ = awaited_by table t.node in
      let rest = totals_all ts (tally_on C table made s t) (in-long s.totals a ∙ long) in (
        rest.0,
        λ j lt few.
            let one = in-get s.totals a j long lt (omega (arith, few)) in
            let h = hit_small (awaited_by table) (1 + j) t in
            let more = rest.1 j lt (omega (arith, one, few, h)) in
            omega (arith, one, more),
      )

  pub tally_is : (ts : List Thread) → length ts ≤ 64 → tally_all C table made no_tally ts ≡ record { fits = every (thread_fits C made) ts; totals = totals_for (awaited_by table) ts }
  tally_is ts few =
      let all = totals_all ts no_tally (length-replicate 32) in
      let each : (j : ℕ) → j < 32 → get_or (tally_all C table made no_tally ts).totals j 0 ≡ get_or (totals_for (awaited_by table) ts) j 0 =
      λ j lt. let z = all_zero 32 j in let more = all.1 j lt (omega (arith, few, z)) in let e : get_or (tally_all C table made no_tally ts).totals j 0 ≡ waiting (awaited_by table) (1 + j) ts = omega (arith, more, z) in e ∙ sym (totals_get (awaited_by table) ts j lt) in
      ap₂ (λ (x : Bool) (l : List ℕ). record { fits = x; totals = l }) (fits_all ts no_tally)
      (ext_get_or 0 (tally_all C table made no_tally ts).totals (totals_for (awaited_by table) ts) (all.0 ∙ sym (totals_long (awaited_by table) ts)) (λ j lt. each j (omega (arith, lt, all.0))))

  -- one record more, and the last
  pub tally_step : (ys : List Thread) (n k : ℕ) (s y : Tally) → k < n → n ≤ length ys → y ≡ tally_on C table made s (get_or ys k no_thread)
      → tally_all C table made y (drop (k + 1) (take n ys)) ≡ tally_all C table made s (drop k (take n ys))
  unfolding tally_all
  tally_step ys n k s y lt fits e =
      let one : k + 1 ≡ suc k = omega arith in
      let long : length (take n ys) ≡ n = length-take-le n ys fits in
      let here : get_or (take n ys) k no_thread ≡ get_or ys k no_thread = get_or-take n ys k no_thread lt in
      ap₂ (λ (x : Tally) (j : ℕ). tally_all C table made x (drop j (take n ys))) (e ∙ ap (tally_on C table made s) (sym here)) one
      ∙ ap (tally_all C table made s) (sym (drop-cons (take n ys) k no_thread (omega (arith, lt, long))))

  pub tally_done : (ys : List Thread) (n k : ℕ) (s : Tally) → n ≤ k → tally_all C table made s (drop k (take n ys)) ≡ s
  unfolding tally_all
  tally_done ys n k s past = ap (tally_all C table made s) (drop_of_length-le (take n ys) {i = k} (omega (arith, past, taken n ys)))
    where
      taken : (n : ℕ) (l : List Thread) → length (take n l) ≤ n
      taken zero l = omega arith
      taken (suc n) [] = omega arith
      taken (suc n) (x ∷ l) = let h = taken n l in omega (arith, h)

  pub tally_long : (ts : List Thread) → length (tally_all C table made no_tally ts).totals ≡ 32
  tally_long ts = (totals_all ts no_tally (length-replicate 32)).0

-- what the tally of all counted records comes to
pub tallied_fit : (C : Contents) (table : List ℕ) (ys : List Thread) (b : List ℕ) (n : ℕ) → n ≡ thread_count b → n ≤ 64 → n ≤ length ys → ((j : ℕ) → awaited_by table j ≡ awaits C j)
    → tally_fits b (tally_all C table (made_of b) no_tally (take n ys)) ≡ threads_fit C ys b
tallied_fit C table ys b n count few fits kinds =
    ap (tally_fits b) (tally_is C table (made_of b) (take n ys) (omega (arith, length-take-le n ys fits, few)))
    ∙ ap₂ (λ (κ : ℕ → ℕ) (m : ℕ). every (thread_fits C (made_of b)) (take m ys) && same (totals_in b) (totals_for κ (take m ys))) (fun_ext kinds) count
