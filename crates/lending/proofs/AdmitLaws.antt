-- Which file and list are let through to the judging of records.
use Prim.Native.Nat.{ℕ}
use mathlib.Core.Path.{◌≡◌, refl, sym, ap, subst, ◌∙◌}
use mathlib.Core.Bool.{Bool, true, false, cond, ◌&&◌, and-eq-true_iff, false≢true}
use mathlib.Core.List.{List}
use native.Mathlib.Omega.{arith}
use lib.Dec.{eqb}
use lib.ListN.{length, replicate}
use lib.Seq.{sets, length-sets}
use borrow.Author.Tests.{ne_eqb}
use Rattle.format.specs.Contents.{contents_at, contents_of}
use Rattle.format.specs.Answers.{fine, refused, or_else}
use Rattle.format.specs.Header.{Laid, head_at}
use Rattle.format.specs.declared.Verdict.{Verdict}
use Rattle.format.specs.declared.Head.{Head}
use Rattle.format.proofs.AnswerLaws.{NoRefusal, loud_first, both_quiet}
use Rattle.reading.specs.Reading.{reading, with_head}
use Rattle.std.specs.Prelude.{Result, Ok, Err}
use Rattle.reading.proofs.ReadingLaws.{head_given, refusal_given}
use Rattle.rules.specs.Schema.{schema_of}
use Rattle.checking.specs.Check.{reading_names, entered, scoped}
use Rattle.checking.proofs.CheckLaws.{entered_fine, entered_refused, names_fine}
use Rattle.steps.specs.declared.Thread.{Thread}
use Rattle.steps.specs.Beside.{made_of}
use Rattle.lending.specs.Lent.{made_fits, every, sizes_fit, may_be_lent, lending, chosen_answer, chosen_in, choosing, records_after, beside_after, records_over, beside_over}
use Rattle.naming.specs.Scopes.{scopes_in}
use Rattle.lending.specs.Scopes.{Scoped}
use Rattle.lending.specs.Walk.{admitted, Fitting, Admits, threads_fit, judged_answer, judged_records, judged_beside}
use Rattle.lending.proofs.SizeLaws.{sizes_true}
use Rattle.lending.proofs.ScopeTable.{entered_scoped}

-- the table keeps its length
scoped_long : (f old table : List ℕ) → length old ≡ 1025 → table ≡ scoped f old → length table ≡ 1025
unfolding scoped
scoped_long f old table long e = ap length e ∙ go (eqb (reading f).number 0) ∙ long
  where
    go : (x : Bool) → length (cond x (sets old 1 (scopes_in (contents_of f))) old) ≡ length old
    go true = length-sets old 1 (scopes_in (contents_of f))
    go false = refl

-- a refusal has no head
pub refused_headless : (v : Verdict) (h : Head) → Err v ≡ Ok h → ⊥
refused_headless v h e = let no : ◌≡◌ {A = ℕ} 0 1 = cc in omega (arith, no)

pub same_head : (k h : Head) → ◌≡◌ {A = Result Head Verdict} (Ok k) (Ok h) → k ≡ h
same_head k h e = cc

-- right sizes
pub fitting : (n : ℕ) (b : List ℕ) → sizes_fit n b ≡ true → Fitting n b
fitting n b e = let (w, r, t, m) = sizes_true n b e in record { list = r; beside = w; threads = t; made = m }

-- of so many records and words beside them, with a table as the way in leaves it
module _ (f : List ℕ) (records : ℕ) (b old table : List ℕ) (long : length old ≡ 1025) (zeros : old ≡ replicate (length old) 0) (its : table ≡ scoped f old) where
  -- what is let through, or why not
  abbrev pub Admitting : Result Head Verdict → Type 0
  Admitting it = (it ≡ admitted f records b) × (length table ≡ 1025) × Admits f records b table it

  headless : (v : Verdict) → Admits f records b table (Err v)
  headless v h e = absurd (refused_headless v h e)

  -- the file by 1 to 10
  pub admit_names : (v : Verdict) → entered f ≡ Err v → Admitting (Err v)
  unfolding admitted
  admit_names v e =
      let (l, same) = entered_refused f v e in
      let loud : NoRefusal v → ⊥ = λ q. l (subst NoRefusal same q) in
      let first : or_else (reading_names f) (cond (sizes_fit records b && every (made_fits (schema_of (contents_of f))) (made_of b)) fine (refused 18 0)) ≡ v =
      loud_first (reading_names f) (cond (sizes_fit records b && every (made_fits (schema_of (contents_of f))) (made_of b)) fine (refused 18 0)) l ∙ sym same in
      (sym (ap (with_head (head_at f)) first ∙ rw (ne_eqb v.number 0 loud)), scoped_long f old table long its, headless v)

  module _ (h : Head) (e : entered f ≡ Ok h) where
    -- by sizes and made channels
    admitted_by : (x : Bool) → (sizes_fit records b && every (made_fits (schema_of (contents_at f h))) (made_of b)) ≡ x → with_head h (cond x fine (refused 18 0)) ≡ admitted f records b
    unfolding admitted
    admitted_by x q =
        let (laid, same, clean) = entered_fine f h e in
        subst (λ (k : Head). (sizes_fit records b && every (made_fits (schema_of (contents_at f k))) (made_of b)) ≡ x → with_head k (cond x fine (refused 18 0)) ≡ admitted f records b) (sym same)
        (λ r. rw (clean, r)) q

    unlent : (v : Verdict) → v ≡ refused 18 0 → (sizes_fit records b && every (made_fits (schema_of (contents_at f h))) (made_of b)) ≡ false → Admitting (Err v)
    unlent v is q = (ap Err is ∙ admitted_by false q, scoped_long f old table long its, headless v)

    pub admit_sizes : (v : Verdict) → v ≡ refused 18 0 → sizes_fit records b ≡ false → Admitting (Err v)
    admit_sizes v is unfit = unlent v is (rw unfit)

    pub admit_made : (v : Verdict) (x : Bool) → v ≡ refused 18 0 → sizes_fit records b ≡ true → x ≡ every (made_fits (schema_of (contents_at f h))) (made_of b) → x ≡ false
        → Admitting (Err v)
    admit_made v x is fit told unfit = unlent v is (rw fit (sym told ∙ unfit))

    -- let through
    pub admit_fine : (x : Bool) → sizes_fit records b ≡ true → x ≡ every (made_fits (schema_of (contents_at f h))) (made_of b) → x ≡ true → Admitting (Ok h)
    admit_fine x fit told fits =
        let (laid, same, clean) = entered_fine f h e in
        let (wide, by_node_lem) = entered_scoped f h old table e long zeros its in (
          admitted_by true (rw fit (sym told ∙ fits)),
          wide,
          λ k q. subst (λ (j : Head). (j ≡ head_at f) × Laid f j × Fitting records b × Scoped (contents_at f j) table) (same_head h k q) (same, laid, fitting records b fit, by_node_lem),
        )

-- a list that is let through: the rest is judging its records and the choice
module _ (f : List ℕ) (l : List Thread) (b : List ℕ) (i p : ℕ) where
  abbrev fits : Bool
  fits = sizes_fit (length l) b && every (made_fits (schema_of (contents_of f))) (made_of b)

  abbrev first : Verdict
  first = or_else (reading_names f) (cond fits fine (refused 18 0))

  quiet_fits : (x : Bool) → NoRefusal (cond x fine (refused 18 0)) → x ≡ true
  quiet_fits true q = refl
  quiet_fits false q = let no : ⊥ = omega (arith, q) in absurd no

  by_records : (x : Bool) (v : Verdict) → or_else (cond x fine (refused 18 0)) v ≡ cond x v (refused 18 0)
  by_records true v = refl
  by_records false v = refl

  by_records_left : {A : Type 0} (x : Bool) (y z : A) → cond (eqb (cond x fine (refused 18 0)).number 0) y z ≡ cond x y z
  by_records_left true y z = refl
  by_records_left false y z = refl

  pub admitted_fine : (h : Head) → admitted f (length l) b ≡ Ok h
      → (choosing f l b i p ≡ judged_answer (contents_at f h) l b i p)
      × (records_over f l b i p ≡ judged_records (contents_at f h) l b i p)
      × (beside_over f l b i p ≡ judged_beside (contents_at f h) l b i p)
  unfolding admitted choosing records_over beside_over lending may_be_lent
  admitted_fine h e =
      let (quiet, same) = head_given (head_at f) first h e in
      let (names, rest) = (both_quiet NoRefusal (reading_names f) (cond fits fine (refused 18 0)) (λ q. q)).0 quiet in
      let (sizes, made) = (and-eq-true_iff (sizes_fit (length l) b) (every (made_fits (schema_of (contents_of f))) (made_of b))).0 (quiet_fits fits rest) in
      let lends : lending f l b ≡ cond (threads_fit (contents_of f) l b) fine (refused 18 0) = rw (names_fine f names, sizes, made) in
      let x : Bool = threads_fit (contents_of f) l b in
      subst (λ (k : Head). (choosing f l b i p ≡ judged_answer (contents_at f k) l b i p) × (records_over f l b i p ≡ judged_records (contents_at f k) l b i p) × (beside_over f l b i p ≡ judged_beside (contents_at f k) l b i p)) (sym same) (
        ap (λ (v : Verdict). or_else v (chosen_answer (chosen_in f l b i p))) lends ∙ by_records x (chosen_answer (chosen_in f l b i p)),
        ap (λ (v : Verdict). cond (eqb v.number 0) (records_after l (chosen_in f l b i p)) l) lends ∙ by_records_left x (records_after l (chosen_in f l b i p)) l,
        ap (λ (v : Verdict). cond (eqb v.number 0) (beside_after (contents_of f) b (chosen_in f l b i p)) b) lends ∙ by_records_left x (beside_after (contents_of f) b (chosen_in f l b i p)) b,
      )

  -- one that is not: that is the answer, and all stays
  fails_more : (x y z : Bool) → (x && y) ≡ false → (x && (y && z)) ≡ false
  fails_more true true z e = absurd (false≢true (sym e))
  fails_more true false z e = refl
  fails_more false y z e = refl

  pub admitted_refused : (v : Verdict) → admitted f (length l) b ≡ Err v → (choosing f l b i p ≡ v) × (records_over f l b i p ≡ l) × (beside_over f l b i p ≡ b)
  unfolding admitted choosing records_over beside_over lending may_be_lent
  admitted_refused v e =
      let (loud, same) = refusal_given (head_at f) first v e in
      let lends : lending f l b ≡ first = go (eqb (reading_names f).number 0) refl fits refl loud in
      let test : eqb (lending f l b).number 0 ≡ false = ap (λ (w : Verdict). eqb w.number 0) lends ∙ ne_eqb first.number 0 loud in
      (rw test (lends ∙ sym same), rw test refl, rw test refl)
    where
      go : (x : Bool) → eqb (reading_names f).number 0 ≡ x → (y : Bool) → fits ≡ y → (NoRefusal first → ⊥) → lending f l b ≡ first
      go false q y r loud = rw q refl
      go true q true r loud = absurd (loud (rw (q, r) refl))
      go true q false r loud = rw (q, r, fails_more (sizes_fit (length l) b) (every (made_fits (schema_of (contents_of f))) (made_of b)) (threads_fit (contents_of f) l b) r) refl
