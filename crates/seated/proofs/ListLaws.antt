-- A list of seated choices: what is left of it after some of them.
use Prim.Native.Nat.{ℕ, suc, ◌+◌, ◌*◌, ◌/◌, ◌≤◌, ◌<◌}
use mathlib.Core.Path.{◌≡◌, refl, sym, ap, ap₂, ◌∙◌, subst}
use mathlib.Core.List.{List, [], ◌∷◌}
use native.Mathlib.Omega.{arith}
use lib.ListN.{length, get_or, drop, length-drop}
use Rattle.choices.proofs.RunLaws.{next}
use Rattle.rounds.specs.Round.{Taken, refuses, waits, steps}
use Rattle.seats.specs.Seats.{Limited, SeatedState, SeatedRan, follow_seated, seated_choice, seated_run, waits_by, waits_in, last_by, last_in}
use Rattle.seated.specs.declared.Sat.{Sat}
use Rattle.seated.specs.declared.Sat.TheVariants as sat
use Rattle.seated.specs.SeatedTables.{seated_in, Seated, SatTold, beside_sat, ChoseSeated}
use Rattle.seated.specs.SeatedLists.{beside_on, seated_beside, SeatedThrough}

-- a run of which some choices are done already
abbrev after_seated : ℕ → SeatedRan → SeatedRan
after_seated k r = record { count = k + r.count; refusal = r.refusal; seating = r.seating }

-- what is left from here gives what the whole gives
pub record LeftSeated (kind : ℕ → ℕ) (L : Limited) (S : SeatedState) (b₀ ws : List ℕ) (k : ℕ) (now : SeatedState) (b : List ℕ) (waited last : ℕ) : Type 0 where
  pub run : seated_run L S ws ≡ after_seated k (seated_run L now (drop (2 * k) ws))
  pub waits : waits_in L S ws ≡ waited + waits_in L now (drop (2 * k) ws)
  pub lasts : last_in L S 0 ws ≡ last_in L now last (drop (2 * k) ws)
  pub beside : seated_beside kind L S b₀ ws ≡ seated_beside kind L now b (drop (2 * k) ws)
  pub few : waited ≤ k

module _ (kind : ℕ → ℕ) (L : Limited) (S : SeatedState) (b₀ ws : List ℕ) where
  pub left_begin : LeftSeated kind L S b₀ ws 0 S b₀ 0 0
  left_begin =
      let z : (seated_run L S ws).count ≡ 0 + (seated_run L S ws).count = omega arith in
      record {
        run = ap (λ (k : ℕ). record { count = k; refusal = (seated_run L S ws).refusal; seating = (seated_run L S ws).seating }) z;
        waits = omega arith;
        lasts = refl;
        beside = refl;
        few = omega arith;
      }

  module _ (k : ℕ) (now : SeatedState) (b b' : List ℕ) (waited last : ℕ) (lt : k < length ws / 2) (left : LeftSeated kind L S b₀ ws k now b waited last)
      (words : b' ≡ beside_sat kind L now b (get_or ws (2 * k) 0) (get_or ws (2 * k + 1) 0)) where
    abbrev i : ℕ
    i = get_or ws (2 * k) 0

    abbrev p : ℕ
    p = get_or ws (2 * k + 1) 0

    abbrev rest : List ℕ
    rest = drop (2 * (k + 1)) ws

    run_here : (a : Taken SeatedState) → seated_choice L now i p ≡ a → seated_run L S ws ≡ after_seated k (follow_seated now a (λ S'. seated_run L S' rest))
    unfolding seated_run
    run_here a e =
        left.run ∙ ap (λ (l : List ℕ). after_seated k (seated_run L now l)) (next ws k lt)
        ∙ ap (λ (x : Taken SeatedState). after_seated k (follow_seated now x (λ S'. seated_run L S' rest))) e

    waits_here : (a : Taken SeatedState) → seated_choice L now i p ≡ a → waits_in L S ws ≡ waited + waits_by a (λ S'. waits_in L S' rest)
    unfolding waits_in
    waits_here a e =
        left.waits ∙ ap (λ (l : List ℕ). waited + waits_in L now l) (next ws k lt) ∙ ap (λ (x : Taken SeatedState). waited + waits_by x (λ S'. waits_in L S' rest)) e

    lasts_here : (a : Taken SeatedState) → seated_choice L now i p ≡ a → last_in L S 0 ws ≡ last_by a last (λ v S'. last_in L S' v rest)
    unfolding last_in
    lasts_here a e =
        left.lasts ∙ ap (λ (l : List ℕ). last_in L now last l) (next ws k lt) ∙ ap (λ (x : Taken SeatedState). last_by x last (λ v S'. last_in L S' v rest)) e

    beside_here : (a : Taken SeatedState) → seated_choice L now i p ≡ a → seated_beside kind L S b₀ ws ≡ beside_on a b' (λ S'. seated_beside kind L S' b' rest)
    unfolding seated_beside
    beside_here a e =
        left.beside ∙ ap (λ (l : List ℕ). seated_beside kind L now b l) (next ws k lt)
        ∙ ap₂ (λ (x : Taken SeatedState) (y : List ℕ). beside_on x y (λ S'. seated_beside kind L S' y rest)) e (sym words)

    more : (now' : SeatedState) → k + suc (seated_run L now' rest).count ≡ k + 1 + (seated_run L now' rest).count
    more now' = omega arith

    done_one : (now' : SeatedState) → after_seated k (record { count = suc (seated_run L now' rest).count; refusal = (seated_run L now' rest).refusal; seating = (seated_run L now' rest).seating })
        ≡ after_seated (k + 1) (seated_run L now' rest)
    done_one now' = ap (λ (n : ℕ). record { count = n; refusal = (seated_run L now' rest).refusal; seating = (seated_run L now' rest).seating }) (more now')

    -- one that waits
    pub left_waits : (now' : SeatedState) → seated_choice L now i p ≡ waits now' → LeftSeated kind L S b₀ ws (k + 1) now' b' (waited + 1) 26
    left_waits now' e = record {
      run = run_here (waits now') e ∙ done_one now';
      waits = omega (arith, waits_here (waits now') e);
      lasts = lasts_here (waits now') e;
      beside = beside_here (waits now') e;
      few = omega (arith, left.few);
    }

    -- one that is a step
    pub left_steps : (now' : SeatedState) → seated_choice L now i p ≡ steps now' → LeftSeated kind L S b₀ ws (k + 1) now' b' waited 0
    left_steps now' e = record {
      run = run_here (steps now') e ∙ done_one now';
      waits = waits_here (steps now') e;
      lasts = lasts_here (steps now') e;
      beside = beside_here (steps now') e;
      few = omega (arith, left.few);
    }

    -- one that is refused
    pub left_halts : (n c : ℕ) (w' os' ls' : List ℕ) → seated_choice L now i p ≡ refuses n → seated_in w' b' os' ls' ≡ now → c ≡ k → Seated L w' b' os' ls'
        → SeatedThrough kind L S b₀ ws (record { count = c; refusal = n; waited = waited; last = last }) w' b' os' ls'
    left_halts n c w' os' ls' e same ck K =
        let R = run_here (refuses n) e in
        let z : c ≡ k + 0 = omega (arith, ck) in
        let count : c ≡ (seated_run L S ws).count = z ∙ sym (ap (λ (r : SeatedRan). r.count) R) in
        let halt : n ≡ (seated_run L S ws).refusal = sym (ap (λ (r : SeatedRan). r.refusal) R) in
        let wait : waited ≡ waits_in L S ws = omega (arith, waits_here (refuses n) e) in
        record {
          told = λ j. record { count = count j; refusal = halt j; waited = wait j; last = sym (lasts_here (refuses n) e) j };
          state = same ∙ sym (ap (λ (r : SeatedRan). r.seating) R);
          beside = sym (beside_here (refuses n) e);
          kept = K;
        }

  run_none : (now : SeatedState) → seated_run L now [] ≡ record { count = 0; refusal = 0; seating = now }
  unfolding seated_run
  run_none now = refl

  run_one : (now : SeatedState) (x : ℕ) → seated_run L now (x ∷ []) ≡ record { count = 0; refusal = 0; seating = now }
  unfolding seated_run
  run_one now x = refl

  waits_none : (now : SeatedState) → waits_in L now [] ≡ 0
  unfolding waits_in
  waits_none now = refl

  waits_one : (now : SeatedState) (x : ℕ) → waits_in L now (x ∷ []) ≡ 0
  unfolding waits_in
  waits_one now x = refl

  lasts_none : (now : SeatedState) (v : ℕ) → last_in L now v [] ≡ v
  unfolding last_in
  lasts_none now v = refl

  lasts_one : (now : SeatedState) (v x : ℕ) → last_in L now v (x ∷ []) ≡ v
  unfolding last_in
  lasts_one now v x = refl

  beside_none : (now : SeatedState) (b : List ℕ) → seated_beside kind L now b [] ≡ b
  unfolding seated_beside
  beside_none now b = refl

  beside_one : (now : SeatedState) (b : List ℕ) (x : ℕ) → seated_beside kind L now b (x ∷ []) ≡ b
  unfolding seated_beside
  beside_one now b x = refl

  -- at the end no choice is left
  pub left_ends : (k c : ℕ) (w' b' os' ls' : List ℕ) (waited last : ℕ) → k ≡ length ws / 2 → LeftSeated kind L S b₀ ws k (seated_in w' b' os' ls') b' waited last → c ≡ k → Seated L w' b' os' ls'
      → SeatedThrough kind L S b₀ ws (record { count = c; refusal = 0; waited = waited; last = last }) w' b' os' ls'
  left_ends k c w' b' os' ls' waited last e left ck K = go (drop (2 * k) ws) refl (omega (arith, e, length-drop (2 * k) ws))
    where
      now : SeatedState
      now = seated_in w' b' os' ls'

      by : (l : List ℕ) → drop (2 * k) ws ≡ l → seated_run L now l ≡ record { count = 0; refusal = 0; seating = now } → waits_in L now l ≡ 0 → last_in L now last l ≡ last → seated_beside kind L now b' l ≡ b'
          → SeatedThrough kind L S b₀ ws (record { count = c; refusal = 0; waited = waited; last = last }) w' b' os' ls'
      by l d r0 w0 l0 b0 =
          let R : seated_run L S ws ≡ after_seated k (record { count = 0; refusal = 0; seating = now }) =
          left.run ∙ ap (λ (x : List ℕ). after_seated k (seated_run L now x)) d ∙ ap (after_seated k) r0 in
          let z : c ≡ k + 0 = omega (arith, ck) in
          let count : c ≡ (seated_run L S ws).count = z ∙ sym (ap (λ (r : SeatedRan). r.count) R) in
          let halt : 0 ≡ (seated_run L S ws).refusal = sym (ap (λ (r : SeatedRan). r.refusal) R) in
          let wait : waited ≡ waits_in L S ws = omega (arith, left.waits, ap (waits_in L now) d, w0) in
          let final : last ≡ last_in L S 0 ws = sym (left.lasts ∙ ap (last_in L now last) d ∙ l0) in
          record {
            told = λ j. record { count = count j; refusal = halt j; waited = wait j; last = final j };
            state = sym (ap (λ (r : SeatedRan). r.seating) R);
            beside = sym (left.beside ∙ ap (seated_beside kind L now b') d ∙ b0);
            kept = K;
          }

      go : (l : List ℕ) → drop (2 * k) ws ≡ l → length (drop (2 * k) ws) ≤ 1
          → SeatedThrough kind L S b₀ ws (record { count = c; refusal = 0; waited = waited; last = last }) w' b' os' ls'
      go [] d h = by [] d (run_none now) (waits_none now) (lasts_none now last) (beside_none now b')
      go (x ∷ []) d h = by (x ∷ []) d (run_one now x) (waits_one now x) (lasts_one now last x) (beside_one now b' x)
      go (x ∷ y ∷ l) d h = let none : ⊥ = omega (arith, h, ap length d) in absurd none

-- one turn of the loop
module _ (kind : ℕ → ℕ) (L : Limited) (S : SeatedState) (b₀ ws : List ℕ) (k : ℕ) (w b os ls w' b' os' ls' : List ℕ) (waited last : ℕ) (lt : k < length ws / 2)
    (left : LeftSeated kind L S b₀ ws k (seated_in w b os ls) b waited last) (r : Sat)
    (D : ChoseSeated kind L (get_or ws (2 * k) 0) (get_or ws (2 * k + 1) 0) r w b os ls w' b' os' ls') where
  told_as : (x : Sat) → r ≡ x → SatTold x (seated_choice L (seated_in w b os ls) (get_or ws (2 * k) 0) (get_or ws (2 * k + 1) 0)) (seated_in w b os ls) (seated_in w' b' os' ls')
  told_as x e =
      subst (λ (y : Sat). SatTold y (seated_choice L (seated_in w b os ls) (get_or ws (2 * k) 0) (get_or ws (2 * k + 1) 0)) (seated_in w b os ls) (seated_in w' b' os' ls')) e D.told

  pub go_halts : (n c : ℕ) → r ≡ sat.Refused n → c ≡ k → SeatedThrough kind L S b₀ ws (record { count = c; refusal = n; waited = waited; last = last }) w' b' os' ls'
  go_halts n c e ck =
      let (h, same) = told_as (sat.Refused n) e in
      left_halts kind L S b₀ ws k (seated_in w b os ls) b b' waited last lt left D.beside n c w' os' ls' h same ck D.kept

  pub go_waits : r ≡ sat.Waits → LeftSeated kind L S b₀ ws (k + 1) (seated_in w' b' os' ls') b' (waited + 1) 26
  go_waits e = left_waits kind L S b₀ ws k (seated_in w b os ls) b b' waited last lt left D.beside (seated_in w' b' os' ls') (told_as sat.Waits e)

  pub go_ends : r ≡ sat.Ends → LeftSeated kind L S b₀ ws (k + 1) (seated_in w' b' os' ls') b' waited 0
  go_ends e = left_steps kind L S b₀ ws k (seated_in w b os ls) b b' waited last lt left D.beside (seated_in w' b' os' ls') (told_as sat.Ends e).0

  pub go_steps : r ≡ sat.Steps → LeftSeated kind L S b₀ ws (k + 1) (seated_in w' b' os' ls') b' waited 0
  go_steps e = left_steps kind L S b₀ ws k (seated_in w b os ls) b b' waited last lt left D.beside (seated_in w' b' os' ls') (told_as sat.Steps e).0
