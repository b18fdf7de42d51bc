-- The ready pair, as two loops over the words of the threads find it.
use Prim.Native.Nat.{ℕ, zero, suc, ◌+◌, ◌*◌, ◌-◌, ◌≤◌, ◌<◌}
use mathlib.Core.Path.{◌≡◌, refl, sym, ap, ap₂, ◌∙◌}
use mathlib.Core.Bool.{Bool, true, false, cond, not, ◌&&◌}
use mathlib.Core.List.{List, [], ◌∷◌}
use native.Mathlib.Omega.{arith}
use native.Mathlib.Numerals.{add-one}
use lib.Dec.{eqb, eqb-suc-zero}
use lib.ListN.{length, get_or}
use borrow.Author.Tests.{eqb-true, eqb-false, eq-eqb, ne_eqb}
use Rattle.steps.specs.declared.Thread.{Thread}
use Rattle.steps.specs.declared.Partner.TheVariants.{With}
use Rattle.steps.specs.Choice.{Clinic, acting}
use Rattle.steps.specs.Records.{thread_in, threads_in}
use Rattle.steps.specs.Beside.{thread_count, made_of}
use Rattle.steps.specs.Kept.{state_in}
use Rattle.running.specs.declared.Two.{Two}
use Rattle.running.specs.Run.{is_meeting, receiver_from, pair_from, ready_pair}
use Rattle.running.specs.Ways.{out_of, in_of, alike, OfEach, stands_in}
use Rattle.steps.proofs.TableLaws.{threads_length}
use Rattle.running.proofs.WayLaws.{ways_meet, stands_not}

-- a pair by its two numbers
pub two : (q : ℕ × ℕ) (s r : ℕ) → q ≡ (s, r) → ◌≡◌ {A = Two} (record { sender = s; receiver = r }) (record { sender = q.0; receiver = q.1 })
two q s r e = ap (λ (x : ℕ × ℕ). record { sender = x.0; receiver = x.1 }) (sym e)

-- none of the first n receives on what is sent on
abbrev pub NoneAlike : List ℕ → ℕ → ℕ → Type 0
NoneAlike ins n over = (k : ℕ) → k < n → alike over (get_or ins k 0) ≡ false

-- a turn of a loop over them
pub none_more : (ins : List ℕ) (j over : ℕ) → (get_or ins j 0 ≡ over → ⊥) → NoneAlike ins j over → NoneAlike ins (j + 1) over
none_more ins j over d none k h = go (eqb k j) refl
  where
    never : (b : Bool) → (b && false) ≡ false
    never true = refl
    never false = refl

    go : (b : Bool) → eqb k j ≡ b → alike over (get_or ins k 0) ≡ false
    go true e = let s : k ≡ j = eqb-true k j e in rw (s, ne_eqb over (get_or ins j 0) (λ q. d (sym q))) (never (not (eqb over 0)))
    go false e = none k (omega (arith, eqb-false k j e))

pub passed_more : (outs ins : List ℕ) (i n : ℕ) → NoneAlike ins n (get_or outs i 0) → ((k : ℕ) → k < i → NoneAlike ins n (get_or outs k 0))
    → (k : ℕ) → k < i + 1 → NoneAlike ins n (get_or outs k 0)
passed_more outs ins i n none before k h = go (eqb k i) refl
  where
    go : (b : Bool) → eqb k i ≡ b → NoneAlike ins n (get_or outs k 0)
    go true e = let s : k ≡ i = eqb-true k i e in rw s none
    go false e = before k (omega (arith, eqb-false k i e))

pub are_alike : (over at : ℕ) → (over ≡ 0 → ⊥) → at ≡ over → alike over at ≡ true
are_alike over at some e = rw (ne_eqb over 0 some, eq-eqb over at (sym e))

-- how many need not be tried
pub left_begin : (ins : List ℕ) (over n j : ℕ) → n ≤ length ins → j ≡ cond (not (eqb over 0) && stands_in over ins) 0 n
    → (j ≤ n) × (j < n → over ≡ 0 → ⊥) × NoneAlike ins j over
left_begin ins over n j long e = go (eqb over 0) (stands_in over ins) refl refl
  where
    go : (x y : Bool) → eqb over 0 ≡ x → stands_in over ins ≡ y → (j ≤ n) × (j < n → over ≡ 0 → ⊥) × NoneAlike ins j over
    go true y p q = let z : j ≡ n = rw p at e in (omega (arith, z), λ h. absurd (omega (arith, z)), λ k h. rw p)
    go false true p q = let z : j ≡ 0 = rw (p, q) at e in (omega (arith, z), λ h. eqb-false over 0 p, λ k h. absurd (omega (arith, z)))
    go false false p q =
        let z : j ≡ n = rw (p, q) at e in
        let apart : (k : ℕ) → k < j → over ≡ get_or ins k 0 → ⊥ = λ k h s. eqb-false (get_or ins k 0) over (stands_not ins over k q (omega (arith, z))) (sym s) in
        (omega (arith, z), λ h. absurd (omega (arith, z)), λ k h. rw (p, ne_eqb over (get_or ins k 0) (apart k h)))

pub left_none : (over n : ℕ) (b : Bool) → over ≡ 0 → n ≡ cond (not (eqb over 0) && b) 0 n
left_none over n b e = rw (eq-eqb over 0 e)

pub left_by : (over n : ℕ) (x b : Bool) → (over ≡ 0 → ⊥) → b ≡ x → cond x 0 n ≡ cond (not (eqb over 0) && b) 0 n
left_by over n x b d e = rw (ne_eqb over 0 d, e)

module _ (C : Clinic) (w b : List ℕ) where
  abbrev n : ℕ
  n = thread_count b

  abbrev thread : ℕ → Thread
  thread i = thread_in w (12 * i)

  -- the threads after i
  abbrev after : ℕ → List Thread
  after i = threads_in w (12 * i) (n - i)

  abbrev meets_with : Thread → Thread → Bool
  meets_with t r = is_meeting (acting C n (made_of b) t (With r))

  all_after : after 0 ≡ threads_in w 0 n
  all_after = let z : n - 0 ≡ n = omega arith in rw z

  some_after : (i : ℕ) → i < n → after i ≡ thread i ∷ after (i + 1)
  unfolding threads_in
  some_after i h =
      let c : n - i ≡ suc (n - (i + 1)) = omega arith in
      let z : 12 * i + 12 ≡ 12 * (i + 1) = omega arith in
      rw (c, z)

  none_after : (i : ℕ) → n ≤ i → after i ≡ []
  unfolding threads_in
  none_after i h = let z : n - i ≡ 0 = omega arith in rw z

  -- the receivers before j are passed over, and j is taken or none is left
  abbrev receiver_of : Thread → ℕ
  receiver_of t = receiver_from C (state_in w b) t 1 (threads_in w 0 n)

  receivers_passed : (t : Thread) (j : ℕ) → j ≤ n → ((k : ℕ) → k < j → meets_with t (thread k) ≡ false) → receiver_from C (state_in w b) t (j + 1) (after j) ≡ receiver_of t
  unfolding receiver_from
  receivers_passed t zero h off = ap (receiver_from C (state_in w b) t 1) all_after
  receivers_passed t (suc j) h off =
      let step : receiver_from C (state_in w b) t (j + 1) (after j) ≡ receiver_from C (state_in w b) t (j + 1 + 1) (after (j + 1)) =
      rw (some_after j (omega arith), threads_length w 0 n, off j (omega arith), add-one (j + 1)) in
      ap (λ (k : ℕ). receiver_from C (state_in w b) t (k + 1) (after k)) (sym (add-one j)) ∙ sym step ∙ receivers_passed t j (omega arith) (λ k l. off k (omega arith))

  receiver_taken : (t : Thread) (j : ℕ) → j < n → ((k : ℕ) → k < j → meets_with t (thread k) ≡ false) → meets_with t (thread j) ≡ true → receiver_of t ≡ j + 1
  unfolding receiver_from
  receiver_taken t j h off on =
      let step : receiver_from C (state_in w b) t (j + 1) (after j) ≡ j + 1 = rw (some_after j h, threads_length w 0 n, on) in
      sym (receivers_passed t j (omega arith) off) ∙ step

  receiver_none : (t : Thread) → ((k : ℕ) → k < n → meets_with t (thread k) ≡ false) → receiver_of t ≡ 0
  unfolding receiver_from
  receiver_none t off =
      let step : receiver_from C (state_in w b) t (n + 1) (after n) ≡ 0 = rw (none_after n (omega arith)) in
      sym (receivers_passed t n (omega arith) off) ∙ step

  -- the same of the senders
  senders_passed : (i : ℕ) → i ≤ n → ((k : ℕ) → k < i → receiver_of (thread k) ≡ 0) → pair_from C (state_in w b) (i + 1) (after i) ≡ ready_pair C (state_in w b)
  unfolding pair_from ready_pair
  senders_passed zero h off = ap (pair_from C (state_in w b) 1) all_after
  senders_passed (suc i) h off =
      let step : pair_from C (state_in w b) (i + 1) (after i) ≡ pair_from C (state_in w b) (i + 1 + 1) (after (i + 1)) =
      rw (some_after i (omega arith), off i (omega arith), add-one (i + 1)) in
      ap (λ (k : ℕ). pair_from C (state_in w b) (k + 1) (after k)) (sym (add-one i)) ∙ sym step ∙ senders_passed i (omega arith) (λ k l. off k (omega arith))

  sender_taken : (i j : ℕ) → i < n → ((k : ℕ) → k < i → receiver_of (thread k) ≡ 0) → receiver_of (thread i) ≡ j + 1 → ready_pair C (state_in w b) ≡ (i + 1, j + 1)
  unfolding pair_from
  sender_taken i j h off on =
      let some : receiver_of (thread i) ≡ suc j = on ∙ add-one j in
      let step : pair_from C (state_in w b) (i + 1) (after i) ≡ (i + 1, j + 1) = rw (some_after i h, some, eqb-suc-zero j, add-one j) in
      sym (senders_passed i (omega arith) off) ∙ step

  sender_none : ((k : ℕ) → k < n → receiver_of (thread k) ≡ 0) → ready_pair C (state_in w b) ≡ (0, 0)
  unfolding pair_from
  sender_none off =
      let step : pair_from C (state_in w b) (n + 1) (after n) ≡ (0, 0) = rw (none_after n (omega arith)) in
      sym (senders_passed n (omega arith) off) ∙ step

  -- by the words of what each may send on, and receive on
  module _ (outs ins : List ℕ) (sends : OfEach (out_of C (made_of b)) w n outs) (receives : OfEach (in_of C (made_of b)) w n ins) where
    meets_alike : (i j : ℕ) (x : Bool) → i < n → j < n → alike (get_or outs i 0) (get_or ins j 0) ≡ x → meets_with (thread i) (thread j) ≡ x
    meets_alike i j x h l e = ways_meet C n (made_of b) (thread i) (thread j) ∙ ap₂ alike (sym (sends i h)) (sym (receives j l)) ∙ e

    no_receiver : (i : ℕ) → i < n → NoneAlike ins n (get_or outs i 0) → receiver_of (thread i) ≡ 0
    no_receiver i h none = receiver_none (thread i) (λ k l. meets_alike i k false h l (none k l))

    pub no_pair_lem : ((k : ℕ) → k < n → NoneAlike ins n (get_or outs k 0)) → ready_pair C (state_in w b) ≡ (0, 0)
    no_pair_lem none = sender_none (λ k h. no_receiver k h (none k h))

    pub first_pair : (i j : ℕ) → i < n → j < n → ((k : ℕ) → k < i → NoneAlike ins n (get_or outs k 0)) → NoneAlike ins j (get_or outs i 0)
        → alike (get_or outs i 0) (get_or ins j 0) ≡ true → ready_pair C (state_in w b) ≡ (i + 1, j + 1)
    first_pair i j h l none before on =
        sender_taken i j h (λ k b. no_receiver k (omega arith) (none k b))
        (receiver_taken (thread i) j l (λ k b. meets_alike i k false h (omega arith) (before k b)) (meets_alike i j true h l on))
