-- The state that stands in the tables, after a thread is stored, added or removed, and after a channel is made.
use Prim.Native.Nat.{ℕ, zero, suc, ◌+◌, ◌*◌, ◌-◌, ◌≤◌, ◌<◌}
use mathlib.Core.Path.{◌≡◌, refl, sym, ap, ap₂, ◌∙◌}
use mathlib.Core.Bool.{Bool, true, false}
use mathlib.Core.List.{List, [], ◌∷◌, ◌++◌}
use native.Mathlib.Omega.{arith}
use lib.Dec.{eqb}
use lib.ListN.{length, get_or, set, take, drop, length-set}
use lib.Seq.{get_or-set_same, get_or-set_other, take_at, drop_at, ext_get_or}
use borrow.Author.Tests.{eqb-true, eqb-false}
use Rattle.steps.specs.declared.Thread.{Thread}
use Rattle.steps.specs.declared.Made.{Made}
use Rattle.steps.specs.Threads.{no_thread}
use Rattle.steps.specs.Choice.{State, changed, removed}
use Rattle.steps.specs.Records.{thread_in, threads_in}
use Rattle.steps.specs.Beside.{made_at, made_in}
use Rattle.steps.specs.Kept.{state_in, Sized}
use Rattle.steps.specs.Records.{stored}
use Rattle.steps.proofs.TableLaws.{down, down_below, down_above, thread_same, stored_same, stored_other, stored_length, threads_length, thread_get, threads_same, threads_split}

-- a thread stored in place of another
threads_put : (w : List ℕ) (n i : ℕ) (t : Thread) → i < n → 12 * n ≤ length w → length t.vars ≡ 8 → threads_in (stored w (12 * i) t) 0 n ≡ set (threads_in w 0 n) i t
threads_put w n i t lt fits e =
    let v : List ℕ = stored w (12 * i) t in
    ext_get_or no_thread (threads_in v 0 n) (set (threads_in w 0 n) i t)
    (threads_length v 0 n ∙ sym (length-set (threads_in w 0 n) i t ∙ threads_length w 0 n))
    (λ j inside. at j (omega (arith, inside, threads_length v 0 n)) (eqb j i) refl)
  where
    at : (j : ℕ) → j < n → (b : Bool) → eqb j i ≡ b → get_or (threads_in (stored w (12 * i) t) 0 n) j no_thread ≡ get_or (set (threads_in w 0 n) i t) j no_thread
    at j inside true q =
        let same : j ≡ i = eqb-true j i q in
        let there : 0 + 12 * j ≡ 12 * i = omega (arith, same) in
        thread_get (stored w (12 * i) t) 0 n j inside
        ∙ ap (thread_in (stored w (12 * i) t)) there
        ∙ stored_same w (12 * i) t (omega (arith, lt, fits)) e
        ∙ sym (ap (λ (x : ℕ). get_or (set (threads_in w 0 n) i t) x no_thread) same ∙ get_or-set_same (threads_in w 0 n) i t no_thread (omega (arith, lt, threads_length w 0 n)))
    at j inside false q =
        let apart : j ≡ i → ⊥ = eqb-false j i q in
        thread_get (stored w (12 * i) t) 0 n j inside
        ∙ thread_same (stored w (12 * i) t) w (0 + 12 * j) (0 + 12 * j) (λ k small. stored_other w (12 * i) (0 + 12 * j + k) t (λ m less q'. apart (omega (arith, small, less, q'))))
        ∙ sym (get_or-set_other (threads_in w 0 n) i j t no_thread apart ∙ thread_get w 0 n j inside)

-- a new last thread
pub threads_add : (w : List ℕ) (n : ℕ) (t : Thread) → 12 * n + 12 ≤ length w → length t.vars ≡ 8 → threads_in (stored w (12 * n) t) 0 (n + 1) ≡ threads_in w 0 n ++ (t ∷ [])
unfolding threads_in
threads_add w n t fits e =
    let v : List ℕ = stored w (12 * n) t in
    let there : 0 + 12 * n ≡ 12 * n = omega arith in
    threads_split v 0 n 1
    ∙ ap₂ (λ (a b : List Thread). a ++ b)
    (threads_same v w 0 0 n (λ j lt. stored_other w (12 * n) (0 + j) t (λ k small q. let none : ⊥ = omega (arith, lt, q) in absurd none)))
    (ap (λ (x : ℕ). thread_in v x ∷ []) there ∙ ap (λ (x : Thread). x ∷ []) (stored_same w (12 * n) t (omega (arith, fits)) e))

-- a thread removed
threads_remove : (w : List ℕ) (n i : ℕ) → i < n → 12 * n ≤ length w
    → threads_in (down w (12 * i) 12 (12 * (n - 1) - 12 * i)) 0 (n - 1) ≡ take i (threads_in w 0 n) ++ drop (suc i) (threads_in w 0 n)
threads_remove w n i lt fits =
    let v : List ℕ = down w (12 * i) 12 (12 * (n - 1) - 12 * i) in
    let rest : ℕ = n - suc i in
    let a : n - 1 ≡ i + rest = omega (arith, lt) in
    let b : n ≡ i + suc rest = omega (arith, lt) in
    let c : n ≡ suc i + rest = omega (arith, lt) in
    let before : threads_in v 0 i ≡ threads_in w 0 i =
    threads_same v w 0 0 i (λ j less. down_below w (12 * i) 12 (12 * (n - 1) - 12 * i) (0 + j) 0 (omega (arith, less)) (omega (arith, lt, fits))) in
    let after : threads_in v (0 + 12 * i) rest ≡ threads_in w (0 + 12 * suc i) rest =
    threads_same v w (0 + 12 * i) (0 + 12 * suc i) rest (λ j less. moved j (omega (arith, less, lt))) in
    let first : take i (threads_in w 0 n) ≡ threads_in w 0 i =
    ap (λ (x : ℕ). take i (threads_in w 0 x)) b ∙ ap (take i) (threads_split w 0 i (suc rest)) ∙ take_at (threads_in w 0 i) (threads_in w (0 + 12 * i) (suc rest)) i (threads_length w 0 i) in
    let last : drop (suc i) (threads_in w 0 n) ≡ threads_in w (0 + 12 * suc i) rest =
    ap (λ (x : ℕ). drop (suc i) (threads_in w 0 x)) c ∙ ap (drop (suc i)) (threads_split w 0 (suc i) rest) ∙ drop_at (threads_in w 0 (suc i)) (threads_in w (0 + 12 * suc i) rest) (suc i) (threads_length w 0 (suc i)) in
    ap (threads_in v 0) a ∙ threads_split v 0 i rest ∙ ap₂ (λ (x y : List Thread). x ++ y) (before ∙ sym first) (after ∙ sym last)
  where
    moved : (j : ℕ) → j < 12 * (n - 1) - 12 * i → get_or (down w (12 * i) 12 (12 * (n - 1) - 12 * i)) (0 + 12 * i + j) 0 ≡ get_or w (0 + 12 * suc i + j) 0
    moved j less =
        let from : 0 + 12 * i + j ≡ 12 * i + j = omega arith in
        let to : 12 * i + 12 + j ≡ 0 + 12 * suc i + j = omega arith in
        ap (λ (x : ℕ). get_or (down w (12 * i) 12 (12 * (n - 1) - 12 * i)) x 0) from
        ∙ down_above w (12 * i) 12 (12 * (n - 1) - 12 * i) j 0 less (omega (arith, lt, fits))
        ∙ ap (λ (x : ℕ). get_or w x 0) to

-- made channels in a row
made_same : (b d : List ℕ) (p q k : ℕ) → ((j : ℕ) → j < 2 * k → get_or b (p + j) 0 ≡ get_or d (q + j) 0) → made_in b p k ≡ made_in d q k
unfolding made_in
made_same b d p q zero h = refl
made_same b d p q (suc k) h =
    let zp : p ≡ p + 0 = omega arith in
    let zq : q + 0 ≡ q = omega arith in
    ap₂ (λ (m : Made) (ms : List Made). m ∷ ms)
    (ap₂ (λ (x y : ℕ). record { owner = x; kind = record { 0 = y } }) (ap (λ (x : ℕ). get_or b x 0) zp ∙ h 0 (omega arith) ∙ ap (λ (x : ℕ). get_or d x 0) zq) (h 1 (omega arith)))
    (made_same b d (p + 2) (q + 2) k (λ j lt. ap (λ (x : ℕ). get_or b x 0) (there p j) ∙ h (2 + j) (omega (arith, lt)) ∙ ap (λ (x : ℕ). get_or d x 0) (sym (there q j))))
  where
    there : (p j : ℕ) → p + 2 + j ≡ p + (2 + j)
    there p j = omega arith

made_more : (b : List ℕ) (p k : ℕ) → made_in b p (suc k) ≡ made_in b p k ++ (made_at b (p + 2 * k) ∷ [])
unfolding made_in
made_more b p zero = let e : p ≡ p + 2 * 0 = omega arith in ap (λ (x : ℕ). made_at b x ∷ []) e
made_more b p (suc k) =
    let e : p + 2 + 2 * k ≡ p + 2 * suc k = omega arith in
    ap (λ (ms : List Made). made_at b p ∷ ms) (made_more b (p + 2) k ∙ ap (λ (x : ℕ). made_in b (p + 2) k ++ (made_at b x ∷ [])) e)

-- a made channel more, beside the threads
abbrev pub minting : List ℕ → ℕ → Made → List ℕ
minting b m x = set (set (set b (2 * m + 2) x.owner) (2 * m + 3) x.kind.0) 1 (m + 1)

mint_other : (b : List ℕ) (m j : ℕ) (x : Made) → (j ≡ 1 → ⊥) → (j ≡ 2 * m + 2 → ⊥) → (j ≡ 2 * m + 3 → ⊥) → get_or (minting b m x) j 0 ≡ get_or b j 0
mint_other b m j x h1 h2 h3 =
    get_or-set_other (set (set b (2 * m + 2) x.owner) (2 * m + 3) x.kind.0) 1 j (m + 1) 0 h1
    ∙ get_or-set_other (set b (2 * m + 2) x.owner) (2 * m + 3) j x.kind.0 0 h3
    ∙ get_or-set_other b (2 * m + 2) j x.owner 0 h2

made_add : (b : List ℕ) (m : ℕ) (x : Made) → 2 * m + 4 ≤ length b → made_in (minting b m x) 2 (m + 1) ≡ made_in b 2 m ++ (x ∷ [])
made_add b m x fits =
    let d : List ℕ = minting b m x in
    let one : m + 1 ≡ suc m = omega arith in
    let p : 2 + 2 * m ≡ 2 * m + 2 = omega arith in
    let q : 2 + 2 * m + 1 ≡ 2 * m + 3 = omega arith in
    let low : List ℕ = set b (2 * m + 2) x.owner in
    let both : List ℕ = set low (2 * m + 3) x.kind.0 in
    let owner : get_or d (2 + 2 * m) 0 ≡ x.owner =
    ap (λ (k : ℕ). get_or d k 0) p
    ∙ get_or-set_other both 1 (2 * m + 2) (m + 1) 0 (λ e. omega (arith, e))
    ∙ get_or-set_other low (2 * m + 3) (2 * m + 2) x.kind.0 0 (λ e. omega (arith, e))
    ∙ get_or-set_same b (2 * m + 2) x.owner 0 (omega (arith, fits)) in
    let kind : get_or d (2 + 2 * m + 1) 0 ≡ x.kind.0 =
    ap (λ (k : ℕ). get_or d k 0) q
    ∙ get_or-set_other both 1 (2 * m + 3) (m + 1) 0 (λ e. omega (arith, e))
    ∙ get_or-set_same low (2 * m + 3) x.kind.0 0 (omega (arith, fits, length-set b (2 * m + 2) x.owner)) in
    ap (made_in d 2) one
    ∙ made_more d 2 m
    ∙ ap₂ (λ (a c : List Made). a ++ c)
    (made_same d b 2 2 m (λ j lt. mint_other b m (2 + j) x (λ e. omega (arith, e)) (λ e. omega (arith, e, lt)) (λ e. omega (arith, e, lt))))
    (ap₂ (λ (a c : ℕ). record { owner = a; kind = record { 0 = c } } ∷ []) owner kind)

abbrev state : List Thread → List Made → State
state ts ms = record { threads = ts; made = ms }

-- the same of whole states
pub put_state : (w v b : List ℕ) (i at : ℕ) (t : Thread) → Sized w b → 0 < i → i ≤ get_or b 0 0 → at ≡ i - 1 → (v ≡ stored w (12 * at) t) × (length t.vars ≡ 8)
    → (state_in v b ≡ changed (state_in w b) i t) × Sized v b
put_state w v b i at t z pos le a q =
    let r : v ≡ stored w (12 * (i - 1)) t = q.0 ∙ ap (λ (x : ℕ). stored w (12 * x) t) a in (
      ap (λ (x : List ℕ). state_in x b) r ∙ ap (λ (ts : List Thread). state ts (made_in b 2 (get_or b 1 0))) (threads_put w (get_or b 0 0) (i - 1) t (omega (arith, pos, le)) (omega (arith, z.words, z.threads)) q.1),
      record { words = ap length r ∙ stored_length w (12 * (i - 1)) t ∙ z.words; beside = z.beside; threads = z.threads; made = z.made },
    )

pub add_state : (w v b d : List ℕ) (t : Thread) → Sized w b → get_or b 0 0 < 64 → length t.vars ≡ 8 → v ≡ stored w (12 * get_or b 0 0) t → d ≡ set b 0 (get_or b 0 0 + 1)
    → (state_in v d ≡ state (threads_in w 0 (get_or b 0 0) ++ (t ∷ [])) (made_in b 2 (get_or b 1 0))) × Sized v d
add_state w v b d t z room e q r =
    let n : ℕ = get_or b 0 0 in
    let count : get_or d 0 0 ≡ n + 1 = ap (λ (x : List ℕ). get_or x 0 0) r ∙ get_or-set_same b 0 (n + 1) 0 (omega (arith, z.beside)) in
    let other : (j : ℕ) → (j ≡ 0 → ⊥) → get_or d j 0 ≡ get_or b j 0 = λ j h. ap (λ (x : List ℕ). get_or x j 0) r ∙ get_or-set_other b 0 j (n + 1) 0 h in
    let made : get_or d 1 0 ≡ get_or b 1 0 = other 1 (λ h. omega (arith, h)) in (
      ap₂ state
          (ap₂ (λ (x : List ℕ) (k : ℕ). threads_in x 0 k) q count ∙ threads_add w n t (omega (arith, z.words, room)) e)
          (ap (made_in d 2) made ∙ made_same d b 2 2 (get_or b 1 0) (λ j lt. other (2 + j) (λ h. omega (arith, h)))),
      record {
        words = ap length q ∙ stored_length w (12 * n) t ∙ z.words;
        beside = ap length r ∙ length-set b 0 (n + 1) ∙ z.beside;
        threads = omega (arith, count, room);
        made = omega (arith, made, z.made);
      },
    )

pub mint_state : (w b d : List ℕ) (x : Made) → Sized w b → get_or b 1 0 < 64 → d ≡ minting b (get_or b 1 0) x
    → (state_in w d ≡ state (threads_in w 0 (get_or b 0 0)) (made_in b 2 (get_or b 1 0) ++ (x ∷ []))) × Sized w d
mint_state w b d x z room r =
    let m : ℕ = get_or b 1 0 in
    let low : List ℕ = set b (2 * m + 2) x.owner in
    let both : List ℕ = set low (2 * m + 3) x.kind.0 in
    let count : get_or d 0 0 ≡ get_or b 0 0 = ap (λ (y : List ℕ). get_or y 0 0) r ∙ mint_other b m 0 x (λ h. omega (arith, h)) (λ h. omega (arith, h)) (λ h. omega (arith, h)) in
    let long : length both ≡ 162 = length-set low (2 * m + 3) x.kind.0 ∙ length-set b (2 * m + 2) x.owner ∙ z.beside in
    let made : get_or d 1 0 ≡ m + 1 = ap (λ (y : List ℕ). get_or y 1 0) r ∙ get_or-set_same both 1 (m + 1) 0 (omega (arith, long)) in (
      ap₂ state
          (ap (threads_in w 0) count)
          (ap₂ (λ (y : List ℕ) (k : ℕ). made_in y 2 k) r made ∙ made_add b m x (omega (arith, z.beside, room))),
      record {
        words = z.words;
        beside = ap length r ∙ length-set both 1 (m + 1) ∙ long;
        threads = omega (arith, count, z.threads);
        made = omega (arith, made, room);
      },
    )

pub remove_state : (w v b d : List ℕ) (i : ℕ) → Sized w b → 0 < i → i ≤ get_or b 0 0 → length v ≡ length w
    → v ≡ down w (12 * (i - 1)) 12 (12 * (get_or b 0 0 - 1) - 12 * (i - 1)) → d ≡ set b 0 (get_or b 0 0 - 1)
    → (state_in v d ≡ removed (state_in w b) i) × Sized v d
remove_state w v b d i z pos le same q r =
    let n : ℕ = get_or b 0 0 in
    let next : suc (i - 1) ≡ i = omega (arith, pos) in
    let count : get_or d 0 0 ≡ n - 1 = ap (λ (x : List ℕ). get_or x 0 0) r ∙ get_or-set_same b 0 (n - 1) 0 (omega (arith, z.beside)) in
    let other : (j : ℕ) → (j ≡ 0 → ⊥) → get_or d j 0 ≡ get_or b j 0 = λ j h. ap (λ (x : List ℕ). get_or x j 0) r ∙ get_or-set_other b 0 j (n - 1) 0 h in
    let made : get_or d 1 0 ≡ get_or b 1 0 = other 1 (λ h. omega (arith, h)) in (
      ap₂ state
          (ap₂ (λ (x : List ℕ) (k : ℕ). threads_in x 0 k) q count ∙ threads_remove w n (i - 1) (omega (arith, pos, le)) (omega (arith, z.words, z.threads))
          ∙ ap (λ (k : ℕ). take (i - 1) (threads_in w 0 n) ++ drop k (threads_in w 0 n)) next)
          (ap (made_in d 2) made ∙ made_same d b 2 2 (get_or b 1 0) (λ j lt. other (2 + j) (λ h. omega (arith, h)))),
      record {
        words = same ∙ z.words;
        beside = ap length r ∙ length-set b 0 (n - 1) ∙ z.beside;
        threads = omega (arith, count, z.threads);
        made = omega (arith, made, z.made);
      },
    )
