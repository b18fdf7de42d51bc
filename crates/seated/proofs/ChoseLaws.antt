-- A seated choice, carried out in the tables.
use Prim.Native.Nat.{ℕ, suc, ◌+◌, ◌-◌, ◌≤◌}
use mathlib.Core.Path.{◌≡◌, refl, sym, ap, ap₂, ◌∙◌, subst}
use mathlib.Core.Bool.{Bool, true, false, cond, false≢true}
use mathlib.Core.List.{List, [], ◌∷◌, ◌++◌}
use native.Mathlib.Omega.{arith}
use lib.ListN.{length, get_or, set, take, drop, length-set, length-append, length-drop}
use lib.Seq.{length-paste}
use Rattle.format.specs.Contents.{Contents}
use Rattle.steps.specs.declared.Outcome.{Outcome}
use Rattle.steps.specs.declared.Outcome.TheVariants.{Refused, Moves, Adds, Makes, Ends, Meets}
use Rattle.steps.specs.declared.Answer.{Answer}
use Rattle.steps.specs.declared.Answer.TheVariants as answers
use Rattle.steps.specs.Acted.{acted_of}
use Rattle.steps.specs.Choice.{Clinic, clinic_of, State, Chosen, goes, thread_at, removed, done, outcome, choice}
use Rattle.steps.specs.Kept.{state_in, Sized, state_left}
use Rattle.steps.specs.Beside.{thread_count, beside_by}
use Rattle.steps.proofs.TableLaws.{threads_length}
use Rattle.choices.specs.Stored.{Chose}
use Rattle.running_exact.proofs.StepsChosen.{steps_choice}
use Rattle.rounds.specs.Round.{Taken, refuses, waits, steps, is_step}
use Rattle.rounds.proofs.PlaceLaws.{length_without_item}
use Rattle.seats.specs.Seats.{Limited, limited_of, SeatedState, thread_node, asks_seat, owners_by, seated_by, lines_left, lines_joined, stand_in_line, seated_choice}
use Rattle.seats.specs.SeatOrder.{Ordered, AfterAnswer}
use Rattle.seats.proofs.SeatedTold.{put_on, asks_iff, asks_steps}
use Rattle.seats.proofs.SeatedKept.{choice_ordered}
use Rattle.seated.specs.declared.Sat.{Sat}
use Rattle.seated.specs.declared.Sat.TheVariants as sat
use Rattle.seated.specs.SeatedTables.{lines_in, seated_in, Seated, owners_passed, PassRoom, SatTold, sat_of, must_wait, WaitTold, SteppedOn, beside_sat, ChoseSeated}
use Rattle.seated.proofs.OwnerLaws.{Fits, outcome_fits, fits_room, passed_more, passed_gone, passed_same}

passed_length : (os : List ℕ) (n i : ℕ) (a : Answer) → length os ≡ 64 → PassRoom n i a → length (owners_passed os n i a) ≡ 64
passed_length os n i (answers.Refused m) e r = e
passed_length os n i answers.Moves e r = e
passed_length os n i answers.Adds e r = length-set os n (get_or os (i - 1) 0) ∙ e
passed_length os n i (answers.Makes m) e r = e
passed_length os n i answers.Ends e r =
    length-paste os (i - 1) (drop (i - 1 + 1) os) (n - 1 - (i - 1)) (omega (arith, e, r.0, r.1, r.2)) (omega (arith, length-drop (i - 1 + 1) os, e, r.0, r.1, r.2)) ∙ e
passed_length os n i answers.Meets e r = e

-- there is room for the session of a new thread
pub step_room : (kind : ℕ → ℕ) (C : Clinic) (w b w' b' : List ℕ) (i p : ℕ) → Sized w b → (a : Answer)
    → Chose (beside_by kind b (outcome C (state_in w b) i p)) (outcome C (state_in w b) i p) i p a w b w' b' → (count : ℕ) → count ≡ thread_count b → PassRoom count i a
step_room kind C w b w' b' i p Z a chose count e =
    let o : Outcome = outcome C (state_in w b) i p in
    let tag : ℕ = (C.node (thread_at (state_in w b) i).node).tag in
    let fits = subst (λ (x : ℕ). Fits x i tag (acted_of o).answer) (threads_length w 0 (thread_count b) ∙ sym e) (outcome_fits C (state_in w b) i p) in
    subst (PassRoom count i) (sym chose.0) (fits_room count i tag (acted_of o).answer (omega (arith, e, Z.threads)) fits)

module _ (kind : ℕ → ℕ) (C : Clinic) (w b os w' b' os' : List ℕ) (i p : ℕ) (Z : Sized w b) (long : length os ≡ 64) where
  abbrev s : State
  s = state_in w b

  abbrev n : ℕ
  n = thread_count b

  abbrev tag : ℕ
  tag = (C.node (thread_at s i).node).tag

  abbrev before : (ℕ → List ℕ) → SeatedState
  before lines = record { state = s; owners = take n os; lines = lines }

  abbrev after : (ℕ → List ℕ) → SeatedState
  after lines = record { state = state_in w' b'; owners = take (thread_count b') os'; lines = lines }

  abbrev comes : (ℕ → List ℕ) → Taken SeatedState
  comes lines = seated_by (owners_by (take n os) i tag) lines (choice C s i p)

  len : length s.threads ≡ n
  len = threads_length w 0 n

  len' : length (state_in w' b').threads ≡ thread_count b'
  len' = threads_length w' 0 (thread_count b')

  steps-told : (s' : State) (lines : ℕ → List ℕ) → choice C s i p ≡ goes s' → state_in w' b' ≡ s' → take (thread_count b') os' ≡ owners_by (take n os) i tag → comes lines ≡ steps (after lines)
  steps-told s' lines e st eo = ap (seated_by (owners_by (take n os) i tag) lines) e ∙ (λ j. steps (record { state = sym st j; owners = sym eo j; lines = lines }))

  pub stepped : (a : Answer) (r : Sat) → Chose (beside_by kind b (outcome C s i p)) (outcome C s i p) i p a w b w' b' → os' ≡ owners_passed os n i a → r ≡ sat_of a
      → SteppedOn kind C i p r w b os w' b' os'
  unfolding choice done
  stepped a r (ea, st, eb, Z') eo er = record {
    told = λ lines. subst (λ (x : Sat). SatTold x (comes lines) (before lines) (after lines)) (sym (er ∙ ap sat_of ea)) (go (outcome C s i p) refl fits st (eo ∙ ap (owners_passed os n i) ea) lines);
    beside = eb;
    sized = Z';
    owners = ap length (eo ∙ ap (owners_passed os n i) ea) ∙ passed_length os n i (acted_of (outcome C s i p)).answer long (fits_room n i tag (acted_of (outcome C s i p)).answer Z.threads fits);
  }
    where
      fits : Fits n i tag (acted_of (outcome C s i p)).answer
      fits = subst (λ (x : ℕ). Fits x i tag (acted_of (outcome C s i p)).answer) len (outcome_fits C s i p)

      same : (x : List ℕ) → os' ≡ os → length (state_in w' b').threads ≡ length s.threads → 3 ≤ tag → take (thread_count b') os' ≡ owners_by (take n os) i tag
      same x e l t = let q : thread_count b' ≡ n = omega (arith, len, len', l) in ap₂ (λ (k : ℕ) (y : List ℕ). take k y) q e ∙ passed_same os n i tag t

      go : (o : Outcome) → outcome C s i p ≡ o → Fits n i tag (acted_of o).answer → state_in w' b' ≡ state_left s (done s i p o) → os' ≡ owners_passed os n i (acted_of o).answer
          → (lines : ℕ → List ℕ) → SatTold (sat_of (acted_of o).answer) (comes lines) (before lines) (after lines)
      go (Refused m) e f l q lines =
          let k : thread_count b' ≡ n = omega (arith, len, len', ap (λ (x : State). length x.threads) l) in
          let same-owners : take (thread_count b') os' ≡ take n os = ap₂ (λ (x : ℕ) (y : List ℕ). take x y) k q in
          (ap (λ (x : Outcome). seated_by (owners_by (take n os) i tag) lines (done s i p x)) e, λ j. record { state = l j; owners = same-owners j; lines = lines })
      go (Moves t) e f l q lines =
          let size : length (state_in w' b').threads ≡ length s.threads = ap (λ (x : State). length x.threads) l ∙ length-set s.threads (i - 1) t in
          (steps-told _ lines (ap (done s i p) e) l (same [] q size f), omega (arith, size))
      go (Adds t) e f l q lines =
          let size : length (state_in w' b').threads ≡ length s.threads + 1 =
          ap (λ (x : State). length x.threads) l ∙ length-append (set s.threads (i - 1) t.first) (t.second ∷ []) ∙ ap (λ (x : ℕ). x + 1) (length-set s.threads (i - 1) t.first) in
          let k : thread_count b' ≡ n + 1 = omega (arith, len, len', size) in
          (steps-told _ lines (ap (done s i p) e) l (ap₂ (λ (x : ℕ) (y : List ℕ). take x y) k q ∙ passed_more os n i tag long f.3 f.1 f.2 f.0), omega (arith, size))
      go (Makes t) e f l q lines =
          let size : length (state_in w' b').threads ≡ length s.threads = ap (λ (x : State). length x.threads) l ∙ length-set s.threads (i - 1) t.thread in
          (steps-told _ lines (ap (done s i p) e) l (same [] q size f), omega (arith, size))
      go Ends e f l q lines =
          let own : suc (i - 1) ≡ i = omega (arith, f.1) in
          let less : suc (length (removed s i).threads) ≡ length s.threads =
          ap (λ (x : ℕ). suc (length (take (i - 1) s.threads ++ drop x s.threads))) (sym own) ∙ length_without_item s.threads (i - 1) (omega (arith, f.1, f.2, len)) in
          let size : suc (length (state_in w' b').threads) ≡ length s.threads = ap (λ (x : State). suc (length x.threads)) l ∙ less in
          let k : thread_count b' ≡ n - 1 = omega (arith, len, len', size) in
          (steps-told _ lines (ap (done s i p) e) l (ap₂ (λ (x : ℕ) (y : List ℕ). take x y) k q ∙ passed_gone os n i tag long Z.threads f.1 f.2 f.0), size)
      go (Meets t) e f l q lines =
          let size : length (state_in w' b').threads ≡ length s.threads =
          ap (λ (x : State). length x.threads) l ∙ length-set (set s.threads (i - 1) t.first) (p - 1) t.second ∙ length-set s.threads (i - 1) t.first in
          (steps-told _ lines (ap (done s i p) e) l (same [] q size f), omega (arith, size))

module _ (kind : ℕ → ℕ) (C : Contents) (table w b os ls : List ℕ) (K : Seated (limited_of C table) w b os ls) (i p : ℕ) (r : Bool) (v : List ℕ)
    (W : WaitTold (limited_of C table) (seated_in w b os ls) i p r v) where
  abbrev L : Limited
  L = limited_of C table

  abbrev S : SeatedState
  S = seated_in w b os ls

  abbrev plain : (ℕ → List ℕ) → Taken SeatedState
  plain lines = seated_by (owners_by (take (thread_count b) os) i (thread_node L S i).tag) lines (choice L.clinic (state_in w b) i p)

  pub chose_waits : r ≡ true → ChoseSeated kind L i p sat.Waits w b os ls w b os v
  unfolding seated_choice
  chose_waits e =
      let must : must_wait L S i p ≡ true = sym W.answer ∙ e in
      let lines : lines_in v ≡ lines_joined L S i = W.lines ∙ ap (λ (x : Bool). cond x (lines_joined L S i) (cond (asks_seat L S i p) (lines_left L S i) S.lines)) must in
      let told : seated_choice L S i p ≡ waits (seated_in w b os v) =
      ap (λ (x : Bool). cond x (waits (stand_in_line L S i)) (plain (cond (asks_seat L S i p) (lines_left L S i) S.lines))) must
      ∙ (λ j. waits (record { state = state_in w b; owners = take (thread_count b) os; lines = sym lines j })) in
      record {
        told = told;
        beside = sym (ap (λ (x : Bool). cond x b (beside_by kind b (outcome L.clinic (state_in w b) i p))) must);
        kept = record {
          sized = K.sized;
          owners = K.owners;
          rows = W.rows;
          ordered = subst (λ (x : Taken SeatedState). AfterAnswer x (Ordered L)) told (choice_ordered L S K.ordered i p);
        };
      }

  pub chose_steps : r ≡ false → (y : Sat) (w' b' os' : List ℕ) → SteppedOn kind (clinic_of C) i p y w b os w' b' os' → ChoseSeated kind L i p y w b os ls w' b' os' v
  unfolding seated_choice
  chose_steps e y w' b' os' D = go y (D.told (lines_in v))
    where
      must : must_wait L S i p ≡ false
      must = sym W.answer ∙ e

      lines : lines_in v ≡ cond (asks_seat L S i p) (lines_left L S i) S.lines
      lines = W.lines ∙ ap (λ (x : Bool). cond x (lines_joined L S i) (cond (asks_seat L S i p) (lines_left L S i) S.lines)) must

      is : seated_choice L S i p ≡ plain (lines_in v)
      is = ap (λ (x : Bool). cond x (waits (stand_in_line L S i)) (plain (cond (asks_seat L S i p) (lines_left L S i) S.lines))) must ∙ ap plain (sym lines)

      left : List ℕ
      left = beside_by kind b (outcome L.clinic (state_in w b) i p)

      words : b' ≡ beside_sat kind L S b i p
      words = D.beside ∙ sym (ap (λ (x : Bool). cond x b left) must)

      kept : Ordered L (seated_in w' b' os' v) → Seated L w' b' os' v
      kept O = record { sized = D.sized; owners = D.owners; rows = W.rows; ordered = O }

      after : (a : Taken SeatedState) → seated_choice L S i p ≡ a → AfterAnswer a (Ordered L)
      after a q = subst (λ (x : Taken SeatedState). AfterAnswer x (Ordered L)) q (choice_ordered L S K.ordered i p)

      asked : (m : ℕ) → plain (lines_in v) ≡ refuses m → (x : Bool) → asks_seat L S i p ≡ x → asks_seat L S i p ≡ false
      asked m h false q = q
      asked m h true q =
          let go_on = steps_choice L.clinic S.state i p (put_on L S i p) (asks_steps L S i p ((asks_iff L S i p).0 q)) in
          absurd (false≢true (sym (ap is_step h) ∙ ap (λ (c : Chosen). is_step (seated_by (owners_by (take (thread_count b) os) i (thread_node L S i).tag) (lines_in v) c)) go_on))

      go : (x : Sat) → SatTold x (plain (lines_in v)) (record { state = state_in w b; owners = take (thread_count b) os; lines = lines_in v }) (seated_in w' b' os' v)
          → ChoseSeated kind L i p x w b os ls w' b' os' v
      go (sat.Refused m) (h, q) =
          let none = asked m h (asks_seat L S i p) refl in
          let same_lines : lines_in v ≡ lines_in ls = lines ∙ ap (λ (x : Bool). cond x (lines_left L S i) S.lines) none in
          let same : seated_in w' b' os' v ≡ S = q ∙ (λ j. record { state = state_in w b; owners = take (thread_count b) os; lines = same_lines j }) in
          record { told = (is ∙ h, same); beside = words; kept = kept (subst (Ordered L) (sym same) K.ordered) }
      go sat.Waits h = record { told = is ∙ h; beside = words; kept = kept (after _ (is ∙ h)) }
      go sat.Ends (h, q) = record { told = (is ∙ h, q); beside = words; kept = kept (after _ (is ∙ h)) }
      go sat.Steps (h, q) = record { told = (is ∙ h, q); beside = words; kept = kept (after _ (is ∙ h)) }
