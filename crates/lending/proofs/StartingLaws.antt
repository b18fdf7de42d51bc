-- The lent list and the words beside it, as a file starts.
use Prim.Native.Nat.{ℕ, ◌+◌, ◌≤◌}
use mathlib.Core.Path.{◌≡◌, refl, sym, ap, ap₂, subst, ◌∙◌}
use mathlib.Core.Bool.{Bool, true, false, cond, ◌&&◌, and-eq-true_iff}
use mathlib.Core.List.{List, ◌++◌}
use native.Mathlib.Omega.{arith}
use native.Mathlib.Numerals.{add-one}
use lib.Dec.{eqb}
use lib.ListN.{length, get_or, set, take, drop, length-set}
use lib.Seq.{sets, paste, take-length}
use borrow.Author.Tests.{eqb-true, ne_eqb}
use Rattle.format.specs.Contents.{Contents, contents_at, contents_of, item}
use Rattle.format.specs.Answers.{fine, refused}
use Rattle.format.specs.Header.{Laid, head_at}
use Rattle.format.specs.declared.Verdict.{Verdict}
use Rattle.format.specs.declared.Head.{Head}
use Rattle.format.proofs.AnswerLaws.{NoRefusal, loud_first, both_quiet}
use Rattle.format.proofs.ContentsLaws.{sessions_held}
use Rattle.reading.specs.Reading.{with_head}
use Rattle.std.specs.Prelude.{Result, Ok, Err}
use Rattle.reading.proofs.ReadingLaws.{head_given, refusal_given}
use Rattle.checking.specs.Check.{reading_names, entered}
use Rattle.checking.proofs.CheckLaws.{entered_fine, entered_refused, names_fine, names_headed}
use Rattle.steps.specs.declared.Thread.{Thread}
use Rattle.steps.specs.Threads.{no_thread}
use Rattle.naming.specs.Scopes.{awaits}
use Rattle.steps.specs.Beside.{made_words, cleared, start_beside, totals_for}
use Rattle.steps.proofs.TotalLaws.{Aside, cleared_length, cleared_other, aside_counted}
use Rattle.running_exact.proofs.TotalWords.{start_total}
use Rattle.lending.proofs.TotalsLaws.{totals_words}
use Rattle.steps.specs.Choice.{goes}
use Rattle.choices.specs.Choices.{start}
use Rattle.running_exact.proofs.StartKept.{threads_length}
use Rattle.lending.specs.Lent.{records_after}
use Rattle.lending.specs.Starting.{starting, records_started, beside_started}
use Rattle.lending.proofs.StoredLaws.{sets_front}

-- the thread of the session after k others
pub opening-is : (ts : List Thread) (k n : ℕ) (t : Thread) → n ≡ k + 1 → t ≡ item no_thread ts n → t ≡ get_or ts k no_thread
unfolding item
opening-is ts k n t e is = is ∙ ap (item no_thread ts) (e ∙ add-one k)

-- one thread for each session
pub start_long : (f : List ℕ) (h : Head) → length (start (contents_at f h)).threads ≡ h.count.sessions
start_long f h = threads_length (contents_at f h).sessions ∙ sessions_held f h

-- the first of two lists, and then what is left of the second, is a copy
copy_whole : {A : Type 0} (l vs : List A) (n : ℕ) → length vs ≡ n → length vs ≤ length l → sets l 0 vs ≡ paste l 0 vs n
copy_whole {A = A} l vs n e fits =
    let here : length vs ≡ 0 + n = omega (arith, e) in
    sets_front l vs (length vs) refl fits ∙ ap₂ (λ (x : List A) (k : ℕ). x ++ drop k l) (sym (ap (λ (k : ℕ). take k vs) (sym e) ∙ take-length vs)) here

-- the words of a start: its counts, no made channel, and its totals
started_words : (kind : ℕ → ℕ) (ts : List Thread) (b : List ℕ) → length b ≡ 162 → length ts ≤ 64 → start_beside kind b ts ≡ sets (set (set b 0 (length ts)) 1 0) 130 (totals_for kind ts)
started_words kind ts b long few =
    let d : List ℕ = set (set b 0 (length ts)) 1 0 in
    let size : length d ≡ 162 = length-set (set b 0 (length ts)) 1 0 ∙ length-set b 0 (length ts) ∙ long in
    let first : Aside d (cleared d) = record { long = cleared_length d; same = cleared_other d } in
    totals_words kind ts d (start_beside kind b ts) size (aside_counted kind d (cleared d) ts first) (λ k inside. start_total kind ts b k long few inside)

-- what the code leaves beside a list of so many records
module _ (f : List ℕ) (records : ℕ) (b : List ℕ) where
  abbrev pub Begun : Result Head Verdict → List ℕ → Type 0
  Begun it d = (it ≡ with_head (head_at f) (starting f records (length b))) × ((l : List Thread) → length l ≡ records → d ≡ beside_started f l b)

  refused_begun : (v : Verdict) → (NoRefusal v → ⊥) → starting f records (length b) ≡ v → Begun (Err v) b
  unfolding beside_started
  refused_begun v loud e = (
    sym (ap (with_head (head_at f)) e ∙ rw (ne_eqb v.number 0 loud)),
    λ l long.
        let test : eqb (starting f (length l) (length b)).number 0 ≡ false =
        ap (λ (n : ℕ). eqb (starting f n (length b)).number 0) long ∙ ap (λ (w : Verdict). eqb w.number 0) e ∙ ne_eqb v.number 0 loud in
        rw test refl,
  )

  -- the file by 1 to 10
  pub begin_names : (v : Verdict) → entered f ≡ Err v → Begun (Err v) b
  unfolding starting
  begin_names v e =
      let (l, same) = entered_refused f v e in
      refused_begun v (λ q. l (subst NoRefusal same q)) (loud_first (reading_names f) (cond (eqb records 64 && eqb (length b) 162) fine (refused 18 0)) l ∙ sym same)

  module _ (h : Head) (e : entered f ≡ Ok h) where
    starting_by : (x : Bool) → (eqb records 64 && eqb (length b) 162) ≡ x → starting f records (length b) ≡ cond x fine (refused 18 0)
    unfolding starting
    starting_by x q = rw ((entered_fine f h e).2, q)

    pub begin_sizes : (v : Verdict) → v ≡ refused 18 0 → (eqb records 64 && eqb (length b) 162) ≡ false → Begun (Err v) b
    begin_sizes v its q =
        refused_begun v (λ z. let no : 18 ≡ 0 = sym (ap (λ (w : Verdict). w.number) its) ∙ z in omega (arith, no)) (starting_by false q ∙ sym its)

    pub begin_fine : (kind : ℕ → ℕ) → kind ≡ awaits (contents_of f) → (d : List ℕ) → (eqb records 64 && eqb (length b) 162) ≡ true → d ≡ start_beside kind b (start (contents_at f h)).threads → Begun (Ok h) d
    unfolding beside_started made_words
    begin_fine kind kinds d q is =
        let same : h ≡ head_at f = (entered_fine f h e).1 in
        let quiet : starting f records (length b) ≡ fine = starting_by true q in (
          ap Ok same ∙ sym (ap (with_head (head_at f)) quiet),
          λ l long.
              let test : eqb (starting f (length l) (length b)).number 0 ≡ true =
              ap (λ (n : ℕ). eqb (starting f n (length b)).number 0) long ∙ ap (λ (w : Verdict). eqb w.number 0) quiet in
              let C : Contents = contents_of f in
              let few : length (start C).threads ≤ 64 = omega (arith, start_long f (head_at f), (entered_fine f h e).0.sessions, ap (λ (k : Head). k.count.sessions) same) in
              let size : length b ≡ 162 = eqb-true (length b) 162 ((and-eq-true_iff (eqb records 64) (eqb (length b) 162)).0 q).1 in
              rw test (is ∙ ap₂ (λ (κ : ℕ → ℕ) (k : Head). start_beside κ b (start (contents_at f k)).threads) kinds same ∙ started_words (awaits C) (start C).threads b size few),
        )

-- what the walk stores in the list
module _ (f : List ℕ) (l : List Thread) (b : List ℕ) where
  quiet_sizes : (x : Bool) → NoRefusal (cond x fine (refused 18 0)) → x ≡ true
  quiet_sizes true q = refl
  quiet_sizes false q = let no : ⊥ = omega (arith, q) in absurd no

  -- nothing is refused: the file, and the sizes
  pub starting_quiet : NoRefusal (starting f (length l) (length b)) → (reading_names f ≡ fine) × (length l ≡ 64) × (length b ≡ 162)
  unfolding starting
  starting_quiet q =
      let (names, rest) = (both_quiet NoRefusal (reading_names f) (cond (eqb (length l) 64 && eqb (length b) 162) fine (refused 18 0)) (λ z. z)).0 q in
      let (records, words) = (and-eq-true_iff (eqb (length l) 64) (eqb (length b) 162)).0 (quiet_sizes (eqb (length l) 64 && eqb (length b) 162) rest) in
      (names_fine f names, eqb-true (length l) 64 records, eqb-true (length b) 162 words)

  pub starting_fine : NoRefusal (starting f (length l) (length b)) → starting f (length l) (length b) ≡ fine
  unfolding starting
  starting_fine q = let (clean, records, words) = starting_quiet q in rw (clean, records, words) refl

  -- a head is given: the sessions' threads, one by one
  pub started_fine : (h : Head) → with_head (head_at f) (starting f (length l) (length b)) ≡ Ok h
      → Laid f h × (starting f (length l) (length b) ≡ fine) × (length l ≡ 64)
      × (records_started f l b ≡ paste l 0 (start (contents_at f h)).threads h.count.sessions)
  unfolding records_started
  started_fine h e =
      let (quiet, same) = head_given (head_at f) (starting f (length l) (length b)) h e in
      let (clean, records, words) = starting_quiet quiet in
      let laid : Laid f h = subst (Laid f) (sym same) (names_headed f (ap (λ (v : Verdict). v.number) clean)).laid in
      let all : sets l 0 (start (contents_at f h)).threads ≡ paste l 0 (start (contents_at f h)).threads h.count.sessions =
      copy_whole l (start (contents_at f h)).threads h.count.sessions (start_long f h) (omega (arith, start_long f h, laid.sessions, records)) in (
        laid,
        starting_fine quiet,
        records,
        ap (λ (v : Verdict). cond (eqb v.number 0) (records_after l (goes (start (contents_of f)))) l) (starting_fine quiet)
            ∙ ap (λ (k : Head). sets l 0 (start (contents_at f k)).threads) (sym same) ∙ all,
      )

  -- it is refused: nothing
  pub started_refused : (v : Verdict) → with_head (head_at f) (starting f (length l) (length b)) ≡ Err v → (starting f (length l) (length b) ≡ v) × (records_started f l b ≡ l)
  unfolding records_started
  started_refused v e =
      let (loud, same) = refusal_given (head_at f) (starting f (length l) (length b)) v e in
      (sym same, ap (λ (x : Bool). cond x (records_after l (goes (start (contents_of f)))) l) (ne_eqb (starting f (length l) (length b)).number 0 loud))
