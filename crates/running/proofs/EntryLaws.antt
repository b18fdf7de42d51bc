-- Runs and ready pairs of whole files: how many choices a run does, and what each way through the entry points answers.
use Prim.Native.Nat.{ℕ, suc, ◌+◌, ◌*◌, ◌%◌, ◌≤◌, ◌<◌}
use mathlib.Core.Path.{◌≡◌, refl, sym, ap, ap₂, ◌∙◌}
use mathlib.Core.Bool.{Bool, true, false, cond, not, ◌&&◌, and-eq-true_iff}
use mathlib.Core.List.{List, [], ◌∷◌}
use native.Mathlib.Omega.{arith}
use lib.Dec.{eqb, leb}
use lib.ListN.{length, replicate}
use lib.Seq.{sets}
use borrow.Author.Tests.{eq-eqb, ne_eqb, leb-true, not-true, not-false}
use Rattle.format.specs.Contents.{contents_at}
use Rattle.format.specs.Words.{bytes_of}
use Rattle.format.specs.Answers.{fine, refused}
use Rattle.format.specs.declared.Head.{Head}
use Rattle.format.specs.declared.Verdict.{Verdict}
use Rattle.std.specs.Prelude.{Ok, Err}
use Rattle.naming.specs.Scopes.{awaited_by}
use Rattle.checking.specs.Check.{reading_names, entered, scoped}
use Rattle.checking.proofs.CheckLaws.{entered_fine, entered_refused}
use Rattle.running.specs.declared.Ready.{Ready}
use Rattle.running.specs.declared.Totals.{Totals}
use Rattle.choices.specs.declared.Progress.{Progress}
use Rattle.running.specs.declared.Two.{Two}
use Rattle.steps.specs.Choice.{Clinic, clinic_of, State, Chosen, halts, goes, choice}
use Rattle.choices.specs.Choices.{start, Ran, follow, run}
use Rattle.running.specs.Run.{ran_words, listed, stopped, running, run_over, ready_pair, ready_of, ready, totals_of, totals_after}
use Rattle.steps.specs.Beside.{totals_in}
use Rattle.choices.specs.Stored.{beside_run}
use Rattle.running.proofs.TableAwaits.{table_awaits}

-- two words a choice, and a refused one is not done
abbrev Counts : Ran → ℕ → Type 0
Counts r words = (2 * r.count ≤ words) × ((r.refusal ≡ 0 → ⊥) → 2 * r.count < words)

pub run_counts : (C : Clinic) (s : State) (ws : List ℕ) → Counts (run C s ws) (length ws)
unfolding run
run_counts C s [] = (omega arith, λ n. absurd (n refl))
run_counts C s (i ∷ []) = (omega arith, λ n. absurd (n refl))
run_counts C s (i ∷ p ∷ ws) = go (choice C s i p) (λ s'. run_counts C s' ws)
  where
    go : (c : Chosen) → ((s' : State) → Counts (run C s' ws) (length ws)) → Counts (follow s c (λ s'. run C s' ws)) (suc (suc (length ws)))
    go (halts n) later = (omega arith, λ x. omega arith)
    go (goes s') later = let (a, b) = later s' in (omega (arith, a), λ x. omega (arith, b x))

-- what code counts of a run
abbrev pub progress_of : Ran → Progress
progress_of r = record { count = r.count; refusal = r.refusal }

-- the choice's number is a word
pub place_word : (C : Clinic) (s : State) (ws : List ℕ) (k : Progress) → k ≡ progress_of (run C s ws) → length ws ≤ 131070 → (k.refusal ≡ 0 → ⊥) → k.count < 65535
place_word C s ws k e h n =
    let count : k.count ≡ (run C s ws).count = ap (λ (x : Progress). x.count) e in
    let refusal : k.refusal ≡ (run C s ws).refusal = ap (λ (x : Progress). x.refusal) e in
    omega (arith, h, count, (run_counts C s ws).1 (λ z. n (refusal ∙ z)))

-- a run's answer and its output, from what code counts of it and the state that it is left with
module _ (r : Ran) (k : Progress) (e : k ≡ progress_of r) where
  pub stopped_by : (v : Verdict) → v ≡ cond (eqb k.refusal 0) fine (refused k.refusal (k.count + 1)) → v ≡ stopped r
  stopped_by v q = q ∙ ap (λ (x : Progress). cond (eqb x.refusal 0) fine (refused x.refusal (x.count + 1))) e

  pub put_by : (s : State) (l m : List ℕ) → s ≡ r.state → m ≡ sets l 0 (bytes_of (ran_words (record { count = k.count; refusal = k.refusal; state = s })))
      → m ≡ sets l 0 (bytes_of (ran_words r))
  put_by s l m es q = q ∙ ap₂ (λ (x : Progress) (y : State). sets l 0 (bytes_of (ran_words (record { count = x.count; refusal = x.refusal; state = y })))) e es

-- a refusal in place of a pair
abbrev no_pair : Verdict → Ready
no_pair v = record { number = v.number; place = v.place; sender = 0; receiver = 0 }

-- a run's pair, or the refusal that stopped it
module _ (r : Ran) (v : Verdict) (e : v ≡ stopped r) where
  pub pair_stopped : (q : ℕ × ℕ) (y : Ready) → (v.number ≡ 0 → ⊥) → y ≡ no_pair v → y ≡ ready_of (stopped r) q
  pair_stopped q y n ey =
      let loud : no_pair v ≡ ready_of v q = rw (ne_eqb v.number 0 n) in
      ey ∙ loud ∙ ap (λ (x : Verdict). ready_of x q) e

  pub pair_found : (C : Clinic) (s : State) (p : Two) → v.number ≡ 0 → s ≡ r.state → p ≡ record { sender = (ready_pair C s).0; receiver = (ready_pair C s).1 }
      → ◌≡◌ {A = Ready} (record { number = 0; place = 0; sender = p.sender; receiver = p.receiver }) (ready_of (stopped r) (ready_pair C r.state))
  pair_found C s p n es ep =
      let quiet : ◌≡◌ {A = Ready} (record { number = 0; place = 0; sender = (ready_pair C s).0; receiver = (ready_pair C s).1 }) (ready_of v (ready_pair C s)) =
      rw (eq-eqb v.number 0 n) in
      ap (λ (x : Two). record { number = 0; place = 0; sender = x.sender; receiver = x.receiver }) ep
      ∙ quiet
      ∙ ap₂ (λ (x : Verdict) (y : State). ready_of x (ready_pair C y)) e es

-- 17, as code tests it
pub listed_word : (words : ℕ) → listed words ≡ true → words ≤ 131070
listed_word words e = leb-true words 131070 ((and-eq-true_iff (eqb (words % 2) 0) (leb words 131070)).0 e).1

pub fits_listed : (words room : ℕ) → listed words && leb 1800 room ≡ true → (words ≤ 131070) × (1800 ≤ room)
fits_listed words room e = let (a, b) = (and-eq-true_iff (listed words) (leb 1800 room)).0 e in (listed_word words a, leb-true 1800 room b)

pub test_fails : (t u v : Bool) → t ≡ u → not (t && v) ≡ true → u && v ≡ false
test_fails t u v e h = ap (λ (x : Bool). x && v) (sym e) ∙ not-true (t && v) h

pub test_holds : (t u v : Bool) → t ≡ u → not (t && v) ≡ false → u && v ≡ true
test_holds t u v e h = ap (λ (x : Bool). x && v) (sym e) ∙ not-false (t && v) h

module _ (f ws out : List ℕ) (fits : listed (length ws) && leb 1800 (length out) ≡ true) where
  pub run_refused : (v : Verdict) → entered f ≡ Err v → (v ≡ running f ws (length out)) × (out ≡ run_over f ws out)
  unfolding running run_over
  run_refused v e =
      let (loud, same) = entered_refused f v e in
      let test = ne_eqb (reading_names f).number 0 loud in
      (same ∙ rw (fits, test), rw (fits, test))

  pub run_done : (h : Head) (y : Verdict) (out' : List ℕ) → entered f ≡ Ok h → y ≡ stopped (run (clinic_of (contents_at f h)) (start (contents_at f h)) ws)
      → out' ≡ sets out 0 (bytes_of (ran_words (run (clinic_of (contents_at f h)) (start (contents_at f h)) ws))) → (y ≡ running f ws (length out)) × (out' ≡ run_over f ws out)
  unfolding running run_over
  run_done h y out' e ey eo = let (laid, same, clean) = entered_fine f h e in (ey ∙ rw (fits, clean, same), eo ∙ rw (fits, clean, same))

module _ (f ws : List ℕ) (fits : listed (length ws) ≡ true) where
  pub ready_refused : (v : Verdict) (y : Ready) → entered f ≡ Err v → y ≡ no_pair v → y ≡ ready f ws
  unfolding ready
  ready_refused v y e ey =
      let (loud, same) = entered_refused f v e in
      let test = ne_eqb (reading_names f).number 0 loud in
      let whole : no_pair (reading_names f) ≡ ready f ws = rw (fits, test) (rw test) in
      ey ∙ ap no_pair same ∙ whole

  pub ready_done : (h : Head) (y : Ready) → entered f ≡ Ok h
      → y ≡ ready_of (stopped (run (clinic_of (contents_at f h)) (start (contents_at f h)) ws)) (ready_pair (clinic_of (contents_at f h)) (run (clinic_of (contents_at f h)) (start (contents_at f h)) ws).state) → y ≡ ready f ws
  unfolding ready
  ready_done h y e ey = let (laid, same, clean) = entered_fine f h e in ey ∙ rw (fits, clean, same)

pub run_unfit : (f ws out : List ℕ) → listed (length ws) && leb 1800 (length out) ≡ false → (refused 17 0 ≡ running f ws (length out)) × (out ≡ run_over f ws out)
unfolding running run_over
run_unfit f ws out e = (rw e, rw e)

pub ready_unfit : (f ws : List ℕ) (y : Ready) → listed (length ws) ≡ false → y ≡ no_pair (refused 17 0) → y ≡ ready f ws
unfolding ready
ready_unfit f ws y e ey = ey ∙ rw e

pub totals_unfit : (f ws : List ℕ) (y : Totals) → listed (length ws) ≡ false → y ≡ totals_of (refused 17 0) (replicate 32 0) → y ≡ totals_after f ws
unfolding totals_after
totals_unfit f ws y e ey = ey ∙ rw e

module _ (f ws : List ℕ) (fits : listed (length ws) ≡ true) where
  pub totals_refused : (v : Verdict) (y : Totals) → entered f ≡ Err v → y ≡ totals_of v (replicate 32 0) → y ≡ totals_after f ws
  unfolding totals_after
  totals_refused v y e ey =
      let (loud, same) = entered_refused f v e in
      let whole : totals_of (reading_names f) (replicate 32 0) ≡ totals_after f ws = rw (fits, ne_eqb (reading_names f).number 0 loud) in
      ey ∙ ap (λ (x : Verdict). totals_of x (replicate 32 0)) same ∙ whole

  pub totals_done : (h : Head) (old table : List ℕ) (y : Totals) → entered f ≡ Ok h → length old ≡ 1025 → old ≡ replicate (length old) 0 → table ≡ scoped f old
      → y ≡ totals_of (stopped (run (clinic_of (contents_at f h)) (start (contents_at f h)) ws)) (totals_in (beside_run (awaited_by table) (clinic_of (contents_at f h)) (start (contents_at f h)) (replicate 162 0) ws)) → y ≡ totals_after f ws
  unfolding totals_after
  totals_done h old table y e long zeros its ey =
      let (laid, same, clean) = entered_fine f h e in
      ey ∙ ap (λ (kind : ℕ → ℕ). totals_of (stopped (run (clinic_of (contents_at f h)) (start (contents_at f h)) ws)) (totals_in (beside_run kind (clinic_of (contents_at f h)) (start (contents_at f h)) (replicate 162 0) ws)))
      (table_awaits f h old table e long zeros its)
      ∙ rw (fits, clean, same)
