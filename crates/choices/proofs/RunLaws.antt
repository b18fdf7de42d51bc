-- A run: its start in the tables, and what is left of it after some choices.
use Prim.Native.Nat.{ℕ, zero, suc, ◌+◌, ◌*◌, ◌/◌, ◌≤◌, ◌<◌}
use mathlib.Core.Path.{◌≡◌, refl, sym, ap, ap₂, subst, ◌∙◌}
use mathlib.Core.List.{List, [], ◌∷◌, ◌++◌, append_assoc, append-nil}
use native.Mathlib.Omega.{arith}
use lib.ListN.{length, get_or, set, drop, length-set, length-drop}
use lib.Seq.{drop-cons, get_or-set_same, get_or-set_other}
use Rattle.format.specs.Contents.{Contents, item, no_session}
use Rattle.format.specs.declared.Session.{Session}
use Rattle.format.proofs.ContentsLaws.{next-item, none_past}
use Rattle.naming.specs.Scopes.{awaited_by}
use Rattle.steps.specs.declared.Thread.{Thread}
use Rattle.steps.specs.Threads.{zeros, no_thread}
use Rattle.steps.specs.declared.Outcome.{Outcome}
use Rattle.steps.specs.declared.Outcome.TheVariants.{Refused, Moves, Adds, Makes, Ends, Meets}
use Rattle.steps.specs.declared.Answer.{Answer}
use Rattle.steps.specs.declared.Answer.TheVariants as answers
use Rattle.steps.specs.Acted.{acted_of}
use Rattle.steps.specs.Choice.{Clinic, State, Chosen, goes, done, outcome, choice}
use Rattle.choices.specs.Choices.{threads_from, start, Ran, follow, run}
use Rattle.steps.specs.Records.{threads_in}
use Rattle.steps.specs.Beside.{made_in, start_words, start_beside, one_more, counted}
use Rattle.steps.specs.Kept.{state_in, Sized, state_left}
use Rattle.steps.specs.Records.{stored}
use Rattle.steps.proofs.TotalLaws.{cleared_length, cleared_other, aside_state, aside_counted, aside_none, kinds_none, more_none}
use Rattle.choices.proofs.StateLaws.{threads_add}

-- a run of which some choices are done already
abbrev pub after : ℕ → Ran → Ran
after k r = record { count = k + r.count; refusal = r.refusal; state = r.state }

-- what is left from here gives what the whole gives
abbrev pub Left : Clinic → State → List ℕ → ℕ → State → Type 0
Left C s ws k now = run C s ws ≡ after k (run C now (drop (2 * k) ws))

pub left_begin : (C : Clinic) (s : State) (ws : List ℕ) → Left C s ws 0 s
left_begin C s ws =
    let z : (run C s ws).count ≡ 0 + (run C s ws).count = omega arith in
    ap (λ (k : ℕ). record { count = k; refusal = (run C s ws).refusal; state = (run C s ws).state }) z

-- the next choice of the list
pub next : (ws : List ℕ) (k : ℕ) → k < length ws / 2 → drop (2 * k) ws ≡ get_or ws (2 * k) 0 ∷ get_or ws (2 * k + 1) 0 ∷ drop (2 * (k + 1)) ws
next ws k lt =
    let one : suc (2 * k) ≡ 2 * k + 1 = omega arith in
    let two : suc (2 * k + 1) ≡ 2 * (k + 1) = omega arith in
    drop-cons ws (2 * k) 0 (omega (arith, lt))
    ∙ ap (λ (l : List ℕ). get_or ws (2 * k) 0 ∷ l) (ap (λ (j : ℕ). drop j ws) one ∙ drop-cons ws (2 * k + 1) 0 (omega (arith, lt)) ∙ ap (λ (j : ℕ). get_or ws (2 * k + 1) 0 ∷ drop j ws) two)

-- an answer that is a refusal, and one that is none
abbrev pub Refuses : Answer → Type 0
Refuses (answers.Refused n) = Unit {0}
Refuses answers.Moves = ⊥
Refuses answers.Adds = ⊥
Refuses (answers.Makes m) = ⊥
Refuses answers.Ends = ⊥
Refuses answers.Meets = ⊥

abbrev number_of : Answer → ℕ
number_of (answers.Refused n) = n
number_of answers.Moves = 0
number_of answers.Adds = 0
number_of (answers.Makes m) = 0
number_of answers.Ends = 0
number_of answers.Meets = 0

pub refused_by : (o : Outcome) (n : ℕ) → answers.Refused n ≡ (acted_of o).answer → o ≡ Refused n
refused_by (Refused k) n e = ap Refused (sym (ap number_of e))
refused_by (Moves t) n e = absurd (subst Refuses e tt)
refused_by (Adds q) n e = absurd (subst Refuses e tt)
refused_by (Makes q) n e = absurd (subst Refuses e tt)
refused_by Ends n e = absurd (subst Refuses e tt)
refused_by (Meets q) n e = absurd (subst Refuses e tt)

module _ (C : Clinic) (s : State) (ws : List ℕ) (k : ℕ) (now now' : State) (lt : k < length ws / 2) (left : Left C s ws k now)
    (o : Outcome) (is : o ≡ outcome C now (get_or ws (2 * k) 0) (get_or ws (2 * k + 1) 0))
    (kept : now' ≡ state_left now (done now (get_or ws (2 * k) 0) (get_or ws (2 * k + 1) 0) o)) where
  abbrev chosen : Outcome → Chosen
  chosen x = done now (get_or ws (2 * k) 0) (get_or ws (2 * k + 1) 0) x

  here : run C s ws ≡ after k (follow now (chosen o) (λ x. run C x (drop (2 * (k + 1)) ws)))
  unfolding run choice
  here =
      left ∙ ap (λ (l : List ℕ). after k (run C now l)) (next ws k lt)
      ∙ ap (λ (x : Outcome). after k (follow now (chosen x) (λ y. run C y (drop (2 * (k + 1)) ws)))) (sym is)

  pub left_halts : (n : ℕ) → answers.Refused n ≡ (acted_of o).answer → run C s ws ≡ record { count = k; refusal = n; state = now' }
  unfolding done
  left_halts n e =
      let f : o ≡ Refused n = refused_by o n e in
      let z : k + 0 ≡ k = omega arith in
      let stays : now' ≡ now = kept ∙ ap (λ (x : Outcome). state_left now (chosen x)) f in
      here ∙ ap (λ (x : Outcome). after k (follow now (chosen x) (λ y. run C y (drop (2 * (k + 1)) ws)))) f
      ∙ (λ j. record { count = z j; refusal = n; state = sym stays j })

  pub left_goes : (Refuses (acted_of o).answer → ⊥) → Left C s ws (k + 1) now'
  unfolding done
  left_goes none = go o none kept here
    where
      on : (y : State) → now' ≡ y → run C s ws ≡ after k (follow now (goes y) (λ x. run C x (drop (2 * (k + 1)) ws))) → Left C s ws (k + 1) now'
      on y q h =
          let R : Ran = run C y (drop (2 * (k + 1)) ws) in
          let z : k + suc R.count ≡ k + 1 + R.count = omega arith in
          h ∙ ap (λ (n : ℕ). record { count = n; refusal = R.refusal; state = R.state }) z ∙ ap (λ (x : State). after (k + 1) (run C x (drop (2 * (k + 1)) ws))) (sym q)

      go : (x : Outcome) → (Refuses (acted_of x).answer → ⊥) → now' ≡ state_left now (chosen x)
          → run C s ws ≡ after k (follow now (chosen x) (λ y. run C y (drop (2 * (k + 1)) ws))) → Left C s ws (k + 1) now'
      go (Refused n) f q h = absurd (f tt)
      go (Moves t) f q h = on _ q h
      go (Adds t) f q h = on _ q h
      go (Makes t) f q h = on _ q h
      go Ends f q h = on _ q h
      go (Meets t) f q h = on _ q h

-- at the end no choice is left
pub left_ends : (C : Clinic) (s : State) (ws : List ℕ) (k : ℕ) (now : State) → k ≡ length ws / 2 → Left C s ws k now → run C s ws ≡ record { count = k; refusal = 0; state = now }
unfolding run
left_ends C s ws k now e left = left ∙ go (drop (2 * k) ws) (omega (arith, e, length-drop (2 * k) ws))
  where
    go : (l : List ℕ) → length l ≤ 1 → after k (run C now l) ≡ record { count = k; refusal = 0; state = now }
    go [] h = let z : k + 0 ≡ k = omega arith in ap (λ (n : ℕ). record { count = n; refusal = 0; state = now }) z
    go (x ∷ []) h = let z : k + 0 ≡ k = omega arith in ap (λ (n : ℕ). record { count = n; refusal = 0; state = now }) z
    go (x ∷ y ∷ l) h = let none : ⊥ = omega (arith, h) in absurd none

-- the start: the threads of the first sessions stand in the table, and those of the others follow
abbrev pub Opened : List Session → List ℕ → ℕ → Type 0
Opened ss w i = threads_in w 0 i ++ threads_from (drop i ss) ≡ threads_from ss

pub open_more : (ss : List Session) (w v : List ℕ) (i : ℕ) (t : Thread) → 12 * i + 12 ≤ length w → i < length ss
    → let s = item no_session ss (i + 1) in t ≡ record { user = s.user; node = s.root; mask = s.mask; vars = zeros } → (v ≡ stored w (12 * i) t) × (length t.vars ≡ 8)
    → Opened ss w i → Opened ss v (i + 1)
unfolding threads_from
open_more ss w v i t fits lt is put have =
    ap (λ (x : List ℕ). threads_in x 0 (i + 1) ++ threads_from (drop (i + 1) ss)) put.0
    ∙ ap (λ (ts : List Thread). ts ++ threads_from (drop (i + 1) ss)) (threads_add w i t fits put.1)
    ∙ append_assoc (threads_in w 0 i) (t ∷ []) (threads_from (drop (i + 1) ss))
    ∙ ap (λ (x : Thread). threads_in w 0 i ++ (x ∷ threads_from (drop (i + 1) ss))) is
    ∙ ap (λ (l : List Session). threads_in w 0 i ++ threads_from l) (sym (next-item no_session ss i lt))
    ∙ have

-- the thread of a session's number, and no thread for no session
pub opened_item : (ss : List Session) (k : ℕ) → let s = item no_session ss k in record { user = s.user; node = s.root; mask = s.mask; vars = zeros } ≡ item no_thread (threads_from ss) k
unfolding item threads_from
opened_item ss zero = refl
opened_item [] (suc k) = refl
opened_item (s ∷ ss) (suc zero) = refl
opened_item (s ∷ ss) (suc (suc k)) = opened_item ss (suc k)

pub threads_from_length : (ss : List Session) → length (threads_from ss) ≡ length ss
unfolding threads_from
threads_from_length [] = refl
threads_from_length (s ∷ ss) = ap suc (threads_from_length ss)

-- the counts are written beside
counts_open : (C : Contents) (w b : List ℕ) (n : ℕ) → length w ≡ 768 → length b ≡ 162 → n ≤ 32 → length C.sessions ≡ n → Opened C.sessions w n
    → (state_in w (start_words b n) ≡ start C) × Sized w (start_words b n)
unfolding made_in threads_from
counts_open C w b n words long few e have =
    let d : List ℕ = start_words b n in
    let count : get_or d 0 0 ≡ n = cleared_other (set (set b 0 n) 1 0) 0 (omega arith) ∙ get_or-set_other (set b 0 n) 1 0 0 0 (λ q. omega (arith, q)) ∙ get_or-set_same b 0 n 0 (omega (arith, long)) in
    let none : get_or d 1 0 ≡ 0 = cleared_other (set (set b 0 n) 1 0) 1 (omega arith) ∙ get_or-set_same (set b 0 n) 1 0 0 (omega (arith, long, length-set b 0 n)) in
    let all : threads_in w 0 n ≡ threads_from C.sessions = sym (append-nil (threads_in w 0 n)) ∙ ap (λ (l : List Session). threads_in w 0 n ++ threads_from l) (sym (none_past C.sessions n (omega (arith, e)))) ∙ have in (
      ap₂ (λ (k m : ℕ). record { threads = threads_in w 0 k; made = made_in d 2 m }) count none ∙ ap (λ (ts : List Thread). record { threads = ts; made = [] }) all,
      record {
        words = words;
        beside = cleared_length (set (set b 0 n) 1 0) ∙ length-set (set b 0 n) 1 0 ∙ length-set b 0 n ∙ long;
        threads = omega (arith, count, few);
        made = omega (arith, none);
      },
    )

-- and the totals
module _ (C : Contents) (kind : ℕ → ℕ) where
  pub open_state : (w b : List ℕ) (n : ℕ) → length w ≡ 768 → length b ≡ 162 → n ≤ 32 → length C.sessions ≡ n → Opened C.sessions w n
      → (state_in w (start_beside kind b (start C).threads) ≡ start C) × Sized w (start_beside kind b (start C).threads)
  open_state w b n words long few e have =
      let ts : List Thread = threads_from C.sessions in
      let counts = counts_open C w b (length ts) words long (omega (arith, few, e, threads_from_length C.sessions)) (sym (threads_from_length C.sessions))
      (subst (Opened C.sessions w) (sym (threads_from_length C.sessions ∙ e)) have) in
      let same = aside_state w (start_words b (length ts)) (counted kind (start_words b (length ts)) ts) counts.1 (aside_counted kind (start_words b (length ts)) (start_words b (length ts)) ts (aside_none (start_words b (length ts)))) in
      (same.0 ∙ counts.0, same.1)

  -- one session after the other is counted
  abbrev pub Counting : List ℕ → List ℕ → ℕ → Type 0
  Counting b₀ b k = counted kind b (threads_from (drop k C.sessions)) ≡ counted kind b₀ (start C).threads

  pub counting_on : (b₀ b d : List ℕ) (k j : ℕ) (s : Session) → k < length C.sessions → j ≡ k + 1 → s ≡ item no_session C.sessions j → d ≡ one_more b (kind s.root) → Counting b₀ b k → Counting b₀ d j
  unfolding threads_from counted
  counting_on b₀ b d k j s lt at is e have =
      let its : s ≡ item no_session C.sessions (k + 1) = is ∙ ap (item no_session C.sessions) at in
      ap₂ (λ (l : List ℕ) (x : ℕ). counted kind l (threads_from (drop x C.sessions))) (e ∙ ap (λ (x : Session). one_more b (kind x.root)) its) at
      ∙ ap (λ (ss : List Session). counted kind b (threads_from ss)) (sym (next-item no_session C.sessions k lt)) ∙ have

  pub counting_ends : (old b₀ b : List ℕ) (k n : ℕ) → length C.sessions ≡ n → n ≤ k → b₀ ≡ start_words old n → Counting b₀ b k → b ≡ start_beside kind old (start C).threads
  unfolding threads_from counted
  counting_ends old b₀ b k n e past is have =
      sym (ap (λ (ss : List Session). counted kind b (threads_from ss)) (none_past C.sessions k (omega (arith, e, past)))) ∙ have
      ∙ ap (λ (l : List ℕ). counted kind l (start C).threads) (is ∙ ap (start_words old) (sym (threads_from_length C.sessions ∙ e)))

-- by a table without room nobody is counted
module _ (C : Contents) (table : List ℕ) (none : length table ≡ 0) where
  counted_none : (b : List ℕ) (ts : List Thread) → counted (awaited_by table) b ts ≡ b
  unfolding counted
  counted_none b [] = refl
  counted_none b (t ∷ ts) = ap (λ (l : List ℕ). counted (awaited_by table) l ts) (sym (more_none b (awaited_by table t.node) (kinds_none table none t.node))) ∙ counted_none b ts

  pub none_counted : (old b₀ : List ℕ) (n : ℕ) → length C.sessions ≡ n → b₀ ≡ start_words old n → b₀ ≡ start_beside (awaited_by table) old (start C).threads
  none_counted old b₀ n e is =
      is ∙ ap (start_words old) (sym (threads_from_length C.sessions ∙ e)) ∙ sym (counted_none (start_words old (length (start C).threads)) (start C).threads)
