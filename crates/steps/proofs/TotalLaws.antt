-- The totals among the words beside the threads: what clearing them, one more and one less leave of the other words.
use Prim.Native.Nat.{ℕ, zero, suc, ◌+◌, ◌*◌, ◌%◌, ◌≤◌, ◌<◌}
use mathlib.Core.Path.{◌≡◌, refl, sym, ap, ap₂, ◌∙◌}
use mathlib.Core.Bool.{Bool, true, false, cond}
use mathlib.Core.List.{List, [], ◌∷◌}
use native.Mathlib.Omega.{arith}
use lib.ListN.{length, get_or, set, replicate, length-set, get_or-eq_default}
use lib.Seq.{length-sets, get_or-set_other}
use Rattle.format.specs.Contents.{in_count}
use Rattle.format.proofs.ContentsLaws.{in_count_lem}
use Rattle.naming.specs.Scopes.{awaited_in, awaited_by}
use Rattle.steps.specs.declared.Thread.{Thread}
use Rattle.steps.specs.declared.Made.{Made}
use Rattle.steps.specs.declared.Outcome.{Outcome}
use Rattle.steps.specs.declared.Outcome.TheVariants.{Refused, Moves, Adds, Makes, Ends, Meets}
use Rattle.steps.specs.Records.{threads_in}
use Rattle.steps.specs.Beside.{made_in, cleared, one_more, one_less, counted, totals_by}
use Rattle.steps.specs.Kept.{state_in, Sized}
use Rattle.steps.proofs.TableLaws.{sets_other, sets_in}

pub length-replicate : (n : ℕ) → length {A = ℕ} (replicate n 0) ≡ n
length-replicate zero = refl
length-replicate (suc n) = ap suc (length-replicate n)

pub all_zero : (n j : ℕ) → ◌≡◌ {A = ℕ} (get_or (replicate n 0) j 0) 0
all_zero zero j = refl
all_zero (suc n) zero = refl
all_zero (suc n) (suc j) = all_zero n j

pub cleared_length : (b : List ℕ) → length (cleared b) ≡ length b
unfolding cleared
cleared_length b = length-sets b 130 (replicate 32 0)

pub cleared_other : (b : List ℕ) (j : ℕ) → j < 130 → get_or (cleared b) j 0 ≡ get_or b j 0
unfolding cleared
cleared_other b j lt = sets_other (replicate 32 0) b 130 j 0 (λ k small e. omega (arith, lt, e))

pub cleared_total : (b : List ℕ) (k : ℕ) → length b ≡ 162 → k < 32 → get_or (cleared b) (130 + k) 0 ≡ 0
unfolding cleared
cleared_total b k long lt = sets_in (replicate 32 0) b 130 k 0 (omega (arith, lt, length-replicate 32)) (omega (arith, long, length-replicate 32)) ∙ all_zero 32 k

-- a word stored at a total's place, or nowhere
module _ (v : ℕ → ℕ) (b : List ℕ) (k : ℕ) where
  abbrev put : Bool → List ℕ
  put p = cond p (set b (129 + k) (v (get_or b (129 + k) 0))) b

  put_length : (p : Bool) → length (put p) ≡ length b
  put_length true = length-set b (129 + k) (v (get_or b (129 + k) 0))
  put_length false = refl

  put_other : (j : ℕ) → j < 130 → (p : Bool) → in_count 32 k ≡ p → get_or (put p) j 0 ≡ get_or b j 0
  put_other j lt true e = let some = in_count_lem 32 k e in get_or-set_other b (129 + k) j (v (get_or b (129 + k) 0)) 0 (λ q. omega (arith, q, lt, some.0))
  put_other j lt false e = refl

pub more_length : (b : List ℕ) (k : ℕ) → length (one_more b k) ≡ length b
unfolding one_more
more_length b k = put_length (λ x. (x + 1) % 65536) b k (in_count 32 k)

pub more_other : (b : List ℕ) (k j : ℕ) → j < 130 → get_or (one_more b k) j 0 ≡ get_or b j 0
unfolding one_more
more_other b k j lt = put_other (λ x. (x + 1) % 65536) b k j lt (in_count 32 k) refl

pub less_length : (b : List ℕ) (k : ℕ) → length (one_less b k) ≡ length b
unfolding one_less
less_length b k = put_length (λ x. (x + 65535) % 65536) b k (in_count 32 k)

pub less_other : (b : List ℕ) (k j : ℕ) → j < 130 → get_or (one_less b k) j 0 ≡ get_or b j 0
unfolding one_less
less_other b k j lt = put_other (λ x. (x + 65535) % 65536) b k j lt (in_count 32 k) refl

-- by a table without room nobody waits, and nobody is counted
pub kinds_none : (table : List ℕ) → length table ≡ 0 → (j : ℕ) → awaited_by table j ≡ 0
kinds_none table none j = ap awaited_in (get_or-eq_default table 0 {n = j} (omega (arith, none)))

pub more_none : (b : List ℕ) (k : ℕ) → k ≡ 0 → b ≡ one_more b k
unfolding one_more
more_none b k none = ap (one_more b) (sym none)

pub less_none : (b : List ℕ) (k : ℕ) → k ≡ 0 → b ≡ one_less b k
unfolding one_less
less_none b k none = ap (one_less b) (sym none)

-- words that differ in totals only
pub record Aside (b d : List ℕ) : Type 0 where
  pub long : length d ≡ length b
  pub same : (j : ℕ) → j < 130 → get_or d j 0 ≡ get_or b j 0

pub aside_more : (b d : List ℕ) (k : ℕ) → Aside b d → Aside b (one_more d k)
aside_more b d k a = record { long = more_length d k ∙ a.long; same = λ j lt. more_other d k j lt ∙ a.same j lt }

pub aside_less : (b d : List ℕ) (k : ℕ) → Aside b d → Aside b (one_less d k)
aside_less b d k a = record { long = less_length d k ∙ a.long; same = λ j lt. less_other d k j lt ∙ a.same j lt }

pub aside_none : (b : List ℕ) → Aside b b
aside_none b = record { long = refl; same = λ j lt. refl }

pub aside_counted : (kind : ℕ → ℕ) (b d : List ℕ) (ts : List Thread) → Aside b d → Aside b (counted kind d ts)
unfolding counted
aside_counted kind b d [] a = a
aside_counted kind b d (t ∷ ts) a = aside_counted kind b (one_more d (kind t.node)) ts (aside_more b d (kind t.node) a)

pub aside_totals : (kind : ℕ → ℕ) (b : List ℕ) (o : Outcome) → Aside b (totals_by kind b o)
aside_totals kind b (Refused n) = aside_none b
aside_totals kind b (Moves t) = aside_more b b _ (aside_none b)
aside_totals kind b (Adds q) = aside_more b _ _ (aside_more b b _ (aside_none b))
aside_totals kind b (Makes q) = aside_more b b _ (aside_none b)
aside_totals kind b Ends = aside_none b
aside_totals kind b (Meets q) = aside_more b _ _ (aside_more b _ _ (aside_less b b _ (aside_none b)))

-- they hold the same state
made_aside : (b d : List ℕ) (p k : ℕ) → p + 2 * k ≤ 130 → ((j : ℕ) → j < 130 → get_or d j 0 ≡ get_or b j 0) → made_in d p k ≡ made_in b p k
unfolding made_in
made_aside b d p zero le h = refl
made_aside b d p (suc k) le h =
    ap₂ (λ (m : Made) (ms : List Made). m ∷ ms) (ap₂ (λ (x y : ℕ). record { owner = x; kind = record { 0 = y } }) (h p (omega (arith, le))) (h (p + 1) (omega (arith, le))))
    (made_aside b d (p + 2) k (omega (arith, le)) h)

pub aside_state : (w b d : List ℕ) → Sized w b → Aside b d → (state_in w d ≡ state_in w b) × Sized w d
aside_state w b d z a =
    let count : get_or d 0 0 ≡ get_or b 0 0 = a.same 0 (omega arith) in
    let made : get_or d 1 0 ≡ get_or b 1 0 = a.same 1 (omega arith) in (
      ap₂ (λ (ts : List Thread) (ms : List Made). record { threads = ts; made = ms }) (ap (threads_in w 0) count) (ap (made_in d 2) made ∙ made_aside b d 2 (get_or b 1 0) (omega (arith, z.made)) a.same),
      record { words = z.words; beside = a.long ∙ z.beside; threads = omega (arith, count, z.threads); made = omega (arith, made, z.made) },
    )
