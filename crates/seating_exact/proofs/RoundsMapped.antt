-- Rounds over states that keep more: where a choice comes to the same with what is kept besides left out, so does a round.
use Prim.Native.Nat.{ℕ, zero, suc}
use mathlib.Core.Path.{◌≡◌, refl, ap, ap₂, ◌∙◌}
use mathlib.Core.Bool.{Bool, true, false, cond, not, ◌&&◌}
use mathlib.Core.List.{List, [], ◌∷◌, ◌++◌}
use lib.Dec.{eqb, ltb}
use lib.ListN.{set, replicate}
use Rattle.rounds.specs.Round.{Taken, refuses, waits, steps, Visited, nothing_done, waited, alone, met, is_step, lone_else, met_by, without_item, Going, Rounded, receiver_for, meeting_with, visited, going, visit, round_from, round}

module _ {S T : Type 0} (part : S → T) where
  abbrev pub part_taken : Taken S → Taken T
  part_taken (refuses n) = refuses n
  part_taken (waits s) = waits (part s)
  part_taken (steps s) = steps (part s)

  abbrev part_visited : Visited S → Visited T
  part_visited nothing_done = nothing_done
  part_visited (waited s) = waited (part s)
  part_visited (alone s) = alone (part s)
  part_visited (met p s) = met p (part s)

  abbrev part_going : Going S → Going T
  part_going g = record { words = g.words; place = g.place; marks = g.marks; state = part g.state }

  abbrev pub part_rounded : Rounded S → Rounded T
  part_rounded r = record { words = r.words; state = part r.state }

  part_step : (a : Taken S) → is_step a ≡ is_step (part_taken a)
  part_step (refuses n) = refl
  part_step (waits s) = refl
  part_step (steps s) = refl

  part_lone : (a : Taken S) (o : Visited S) → part_visited (lone_else a o) ≡ lone_else (part_taken a) (part_visited o)
  part_lone (refuses n) o = refl
  part_lone (waits s) o = refl
  part_lone (steps s) o = refl

  part_met : (b : Bool) (p : ℕ) (a : Taken S) → part_visited (cond b nothing_done (met_by p a)) ≡ cond b nothing_done (met_by p (part_taken a))
  part_met true p a = refl
  part_met false p (refuses n) = refl
  part_met false p (waits s) = refl
  part_met false p (steps s) = refl

  module _ (count : S → ℕ) (choose : S → ℕ → ℕ → Taken S) (count' : T → ℕ) (choose' : T → ℕ → ℕ → Taken T)
      (counts : (s : S) → count s ≡ count' (part s)) (chooses : (s : S) (i p : ℕ) → part_taken (choose s i p) ≡ choose' (part s) i p) where
    same_receiver : (s : S) (i p : ℕ) (ms : List Bool) → receiver_for count choose s i p ms ≡ receiver_for count' choose' (part s) i p ms
    unfolding receiver_for
    same_receiver s i p [] = refl
    same_receiver s i p (m ∷ ms) =
        ap₂ (λ (b : Bool) (later : ℕ). cond (not m && b) p later) (part_step (choose s i p) ∙ ap (λ (a : Taken T). is_step a) (chooses s i p)) (same_receiver s i (suc p) ms)

    same_visited : (s : S) (a : ℕ) (ms : List Bool) → part_visited (visited count choose s a ms) ≡ visited count' choose' (part s) a ms
    unfolding visited
    same_visited s a ms =
        let p : ℕ = receiver_for count choose s (suc a) 1 ms in
        part_lone (choose s (suc a) 0) (meeting_with count choose s (suc a) p)
        ∙ ap₂ (λ (x : Taken T) (o : Visited T). lone_else x o) (chooses s (suc a) 0)
        (part_met (eqb p 0) p (choose s (suc a) p) ∙ ap (λ (x : Taken T). cond (eqb p 0) nothing_done (met_by p x)) (chooses s (suc a) p)
        ∙ ap (λ (q : ℕ). meeting_with count' choose' (part s) (suc a) q) (same_receiver s (suc a) 1 ms))

    same_going : (s : S) (a : ℕ) (ms : List Bool) (o : Visited S) → part_going (going count choose s a ms o) ≡ going count' choose' (part s) a ms (part_visited o)
    same_going s a ms nothing_done = refl
    same_going s a ms (waited s') = refl
    same_going s a ms (alone s') =
        ap (λ (b : Bool). record { words = suc a ∷ 0 ∷ []; place = cond b a (suc a); marks = cond b (without_item ms a) (set ms a true); state = part s' })
        (ap₂ (λ (m n : ℕ). ltb m n) (counts s') (counts s))
    same_going s a ms (met p s') = refl

    same_visit : (s : S) (a : ℕ) (ms : List Bool) → part_going (visit count choose s a ms) ≡ visit count' choose' (part s) a ms
    unfolding visit
    same_visit s a ms = same_going s a ms (visited count choose s a ms) ∙ ap (λ (o : Visited T). going count' choose' (part s) a ms o) (same_visited s a ms)

    same_from : (k a : ℕ) (ms : List Bool) (s : S) → part_rounded (round_from count choose k a ms s) ≡ round_from count' choose' k a ms (part s)
    unfolding round_from
    same_from zero a ms s = refl
    same_from (suc k) a ms s =
        let g : Going S = visit count choose s a ms in
        ap (λ (r : Rounded T). record { words = g.words ++ r.words; state = r.state }) (same_from k g.place g.marks g.state)
        ∙ ap (λ (h : Going T). record { words = h.words ++ (round_from count' choose' k h.place h.marks h.state).words; state = (round_from count' choose' k h.place h.marks h.state).state }) (same_visit s a ms)

    pub same_round : (s : S) → part_rounded (round count choose s) ≡ round count' choose' (part s)
    unfolding round
    same_round s = same_from (count s) 0 (replicate (count s) false) s ∙ ap (λ (n : ℕ). round_from count' choose' n 0 (replicate n false) (part s)) (counts s)
