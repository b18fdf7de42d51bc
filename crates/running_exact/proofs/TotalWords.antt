-- The totals beside the threads, as counts: what one thread more or less makes of a total, and of the number of threads that wait.
use Prim.Native.Nat.{ℕ, zero, suc, ◌+◌, ◌*◌, ◌-◌, ◌%◌, ◌≤◌, ◌<◌}
use mathlib.Core.Path.{◌≡◌, refl, sym, ap, ap₂, ◌∙◌, subst}
use mathlib.Core.Bool.{Bool, true, false, cond}
use mathlib.Core.List.{List, [], ◌∷◌, ◌++◌}
use native.Mathlib.Omega.{arith}
use lib.Dec.{eqb}
use lib.ListN.{length, get_or, set, take, drop, length-set}
use lib.Seq.{get_or-set_same, get_or-set_other}
use borrow.Author.Tests.{eqb-true, eqb-false, eq-eqb, ne_eqb}
use Rattle.format.specs.Contents.{in_count}
use Rattle.format.proofs.ContentsLaws.{in_count_lem, in_count_iff}
use Rattle.steps.specs.declared.Thread.{Thread}
use Rattle.steps.specs.declared.Made.{Made}
use Rattle.steps.specs.Threads.{no_thread}
use Rattle.steps.specs.Beside.{waiting, one_more, one_less, cleared, counted, with_threads, one_made, start_words, start_beside}
use Rattle.steps.proofs.TotalLaws.{more_length, cleared_length, cleared_total}
use Rattle.reading_exact.specs.File.{InCount}

-- whether a thread that waits for kind a is one that waits for kind k
abbrev pub hit : ℕ → ℕ → ℕ
hit a k = cond (eqb a k) 1 0

pub no_hit : (a k : ℕ) → a ≡ 0 → 1 ≤ k → hit a k ≡ 0
no_hit a k e pos = rw (ne_eqb a k (λ q. omega (arith, q, e, pos)))

-- the number of threads that wait, as threads change
module _ (kind : ℕ → ℕ) (k : ℕ) where
  abbrev at : Thread → ℕ
  at t = hit (kind t.node) k

  pub waiting_set : (ts : List Thread) (i : ℕ) (t : Thread) → i < length ts → waiting kind k (set ts i t) + at (get_or ts i no_thread) ≡ waiting kind k ts + at t
  unfolding waiting
  waiting_set [] i t lt = let no : ⊥ = omega (arith, lt) in absurd no
  waiting_set (x ∷ ts) zero t lt = omega arith
  waiting_set (x ∷ ts) (suc i) t lt = let h = waiting_set ts i t (omega (arith, lt)) in omega (arith, h)

  pub waiting_end : (ts : List Thread) (t : Thread) → waiting kind k (ts ++ (t ∷ [])) ≡ waiting kind k ts + at t
  unfolding waiting
  waiting_end [] t = omega arith
  waiting_end (x ∷ ts) t = let h = waiting_end ts t in omega (arith, h)

  pub waiting_gone : (ts : List Thread) (i : ℕ) → i < length ts → waiting kind k (take i ts ++ drop (suc i) ts) + at (get_or ts i no_thread) ≡ waiting kind k ts
  unfolding waiting
  waiting_gone [] i lt = let no : ⊥ = omega (arith, lt) in absurd no
  waiting_gone (x ∷ ts) zero lt = omega arith
  waiting_gone (x ∷ ts) (suc i) lt = let h = waiting_gone ts i (omega (arith, lt)) in omega (arith, h)

  one_at_most : (b : Bool) → cond b 1 0 ≤ 1
  one_at_most true = omega arith
  one_at_most false = omega arith

  pub hit_small : (t : Thread) → at t ≤ 1
  hit_small t = one_at_most (eqb (kind t.node) k)

  pub waiting_few : (ts : List Thread) → waiting kind k ts ≤ length ts
  unfolding waiting
  waiting_few [] = omega arith
  waiting_few (t ∷ ts) = let h = waiting_few ts in let s = hit_small t in omega (arith, h, s)

-- a total, one thread more and one less
module _ (b : List ℕ) (j k : ℕ) (long : length b ≡ 162) (inside : InCount 32 k) where
  total : ℕ
  total = get_or b (129 + k) 0

  pub more_total : get_or b (129 + k) 0 < 65535 → get_or (one_more b j) (129 + k) 0 ≡ get_or b (129 + k) 0 + hit j k
  unfolding one_more
  more_total small = go (eqb j k) refl
    where
      v : ℕ
      v = (get_or b (129 + j) 0 + 1) % 65536

      apart : (p : Bool) → (j ≡ k → ⊥) → get_or (cond p (set b (129 + j) v) b) (129 + k) 0 ≡ get_or b (129 + k) 0
      apart true n = get_or-set_other b (129 + j) (129 + k) v 0 (λ e. n (omega (arith, e)))
      apart false n = refl

      go : (p : Bool) → eqb j k ≡ p → get_or (cond (in_count 32 j) (set b (129 + j) v) b) (129 + k) 0 ≡ get_or b (129 + k) 0 + cond p 1 0
      go true e =
          let same : j ≡ k = eqb-true j k e in
          let in-j : in_count 32 j ≡ true = ap (in_count 32) same ∙ (in_count_iff 32 k).1 inside in
          let there : 129 + k ≡ 129 + j = omega (arith, same) in
          let set_there : get_or (set b (129 + j) v) (129 + k) 0 ≡ v = ap (λ (x : ℕ). get_or (set b (129 + j) v) x 0) there ∙ get_or-set_same b (129 + j) v 0 (omega (arith, long, same, inside.1)) in
          let old : get_or b (129 + j) 0 ≡ get_or b (129 + k) 0 = ap (λ (x : ℕ). get_or b x 0) (sym there) in
          let word : v ≡ get_or b (129 + k) 0 + 1 = omega (arith, old, small) in
          ap (λ (p : Bool). get_or (cond p (set b (129 + j) v) b) (129 + k) 0) in-j ∙ set_there ∙ word
      go false e = let z : get_or b (129 + k) 0 ≡ get_or b (129 + k) 0 + 0 = omega arith in apart (in_count 32 j) (eqb-false j k e) ∙ z

  pub less_total : get_or b (129 + k) 0 < 65536 → hit j k ≤ get_or b (129 + k) 0 → get_or (one_less b j) (129 + k) 0 + hit j k ≡ get_or b (129 + k) 0
  unfolding one_less
  less_total small some = go (eqb j k) refl some
    where
      v : ℕ
      v = (get_or b (129 + j) 0 + 65535) % 65536

      apart : (p : Bool) → (j ≡ k → ⊥) → get_or (cond p (set b (129 + j) v) b) (129 + k) 0 ≡ get_or b (129 + k) 0
      apart true n = get_or-set_other b (129 + j) (129 + k) v 0 (λ e. n (omega (arith, e)))
      apart false n = refl

      go : (p : Bool) → eqb j k ≡ p → cond p 1 0 ≤ get_or b (129 + k) 0 → get_or (cond (in_count 32 j) (set b (129 + j) v) b) (129 + k) 0 + cond p 1 0 ≡ get_or b (129 + k) 0
      go true e some =
          let same : j ≡ k = eqb-true j k e in
          let in-j : in_count 32 j ≡ true = ap (in_count 32) same ∙ (in_count_iff 32 k).1 inside in
          let there : 129 + k ≡ 129 + j = omega (arith, same) in
          let set_there : get_or (set b (129 + j) v) (129 + k) 0 ≡ v = ap (λ (x : ℕ). get_or (set b (129 + j) v) x 0) there ∙ get_or-set_same b (129 + j) v 0 (omega (arith, long, same, inside.1)) in
          let old : get_or b (129 + j) 0 ≡ get_or b (129 + k) 0 = ap (λ (x : ℕ). get_or b x 0) (sym there) in
          let word : v + 1 ≡ get_or b (129 + k) 0 = omega (arith, old, small, some) in
          ap (λ (p : Bool). get_or (cond p (set b (129 + j) v) b) (129 + k) 0 + 1) in-j ∙ ap (λ (x : ℕ). x + 1) set_there ∙ word
      go false e some = let z : get_or b (129 + k) 0 + 0 ≡ get_or b (129 + k) 0 = omega arith in ap (λ (x : ℕ). x + 0) (apart (in_count 32 j) (eqb-false j k e)) ∙ z

-- the counts and the made channels have words of their own
module _ (b : List ℕ) (k : ℕ) (inside : InCount 32 k) where
  pub total_threads : (n : ℕ) → get_or (with_threads b n) (129 + k) 0 ≡ get_or b (129 + k) 0
  total_threads n = get_or-set_other b 0 (129 + k) n 0 (λ e. omega (arith, e))

  pub total_made : (m : Made) → get_or b 1 0 < 64 → get_or (one_made b m) (129 + k) 0 ≡ get_or b (129 + k) 0
  total_made m few =
      let c : ℕ = get_or b 1 0 in
      let low : List ℕ = set b (2 * c + 2) m.owner in
      let both : List ℕ = set low (2 * c + 3) m.kind.0 in
      get_or-set_other both 1 (129 + k) (c + 1) 0 (λ e. omega (arith, e))
      ∙ get_or-set_other low (2 * c + 3) (129 + k) m.kind.0 0 (λ e. omega (arith, e, few, inside.0))
      ∙ get_or-set_other b (2 * c + 2) (129 + k) m.owner 0 (λ e. omega (arith, e, few, inside.0))

-- threads counted in, and a start
pub counted_total : (kind : ℕ → ℕ) (ts : List Thread) (b : List ℕ) (k : ℕ) → length b ≡ 162 → InCount 32 k → get_or b (129 + k) 0 + length ts < 65536
    → get_or (counted kind b ts) (129 + k) 0 ≡ get_or b (129 + k) 0 + waiting kind k ts
unfolding counted waiting
counted_total kind [] b k long inside few = omega arith
counted_total kind (t ∷ ts) b k long inside few =
    let one = more_total b (kind t.node) k long inside (omega (arith, few)) in
    let s = hit_small kind k t in
    let rest = counted_total kind ts (one_more b (kind t.node)) k (more_length b (kind t.node) ∙ long) inside (omega (arith, few, one, s)) in
    omega (arith, rest, one)

pub start_total : (kind : ℕ → ℕ) (ts : List Thread) (b : List ℕ) (k : ℕ) → length b ≡ 162 → length ts ≤ 64 → InCount 32 k
    → get_or (start_beside kind b ts) (129 + k) 0 ≡ waiting kind k ts
start_total kind ts b k long few inside =
    let w : List ℕ = set (set b 0 (length ts)) 1 0 in
    let size : length w ≡ 162 = length-set (set b 0 (length ts)) 1 0 ∙ length-set b 0 (length ts) ∙ long in
    let there : 129 + k ≡ 130 + (k - 1) = omega (arith, inside.0) in
    let none : get_or (start_words b (length ts)) (129 + k) 0 ≡ 0 = ap (λ (x : ℕ). get_or (cleared w) x 0) there ∙ cleared_total w (k - 1) size (omega (arith, inside.0, inside.1)) in
    let all = counted_total kind ts (start_words b (length ts)) k (cleared_length w ∙ size) inside (omega (arith, none, few)) in
    omega (arith, all, none)
