-- A round of the dispatcher, computed. What a choice comes to has one case more than a plain one's: a thread that waits.
use Rattle.std.specs.Prelude.{ℕ, zero, suc, ◌-◌, Bool, true, false, cond, not, ◌&&◌, List, [], ◌∷◌, ◌++◌, eqb, ltb, set, take, drop, replicate}

-- a refusal, with its number; a choice that is done and is no step; a step
pub data Taken (S : Type 0) : Type 0 where
  refuses : ℕ → Taken S
  waits : S → Taken S
  steps : S → Taken S

-- what a visit comes to: nothing; a choice that is no step; a lone step; a meeting with the thread of that number
pub data Visited (S : Type 0) : Type 0 where
  nothing_done : Visited S
  waited : S → Visited S
  alone : S → Visited S
  met : ℕ → S → Visited S

abbrev pub is_step : {S : Type 0} → Taken S → Bool
is_step (refuses n) = false
is_step (waits s) = false
is_step (steps s) = true

-- the lone choice where it is done, else the meeting
abbrev pub lone_else : {S : Type 0} → Taken S → Visited S → Visited S
lone_else (refuses n) o = o
lone_else (waits s) o = waited s
lone_else (steps s) o = alone s

abbrev pub met_by : {S : Type 0} → ℕ → Taken S → Visited S
met_by p (refuses n) = nothing_done
met_by p (waits s) = nothing_done
met_by p (steps s) = met p s

-- the list without the item in place i, counted from 0
abbrev pub without_item : {A : Type 0} → List A → ℕ → List A
without_item xs i = take i xs ++ drop (suc i) xs

-- what a visit leaves: the choice that it adds to the round, two words or none; the place of the next visit, counted from 0; marks of the threads of the round's start that are present, in list order, true for one that moved; the state
pub record Going (S : Type 0) : Type 0 where
  pub words : List ℕ
  pub place : ℕ
  pub marks : List Bool
  pub state : S

-- a round: its choices as words, two each, and the state after them
pub record Rounded (S : Type 0) : Type 0 where
  pub words : List ℕ
  pub state : S

-- over any states, their numbers of threads, and choices
module _ {S : Type 0} (count : S → ℕ) (choose : S → ℕ → ℕ → Taken S) where
  -- the first thread from number p on that has not moved and with which the choice of thread i is a step; 0 if there is none
  unfoldable pub receiver_for : S → ℕ → ℕ → List Bool → ℕ
  receiver_for s i p [] = 0
  receiver_for s i p (m ∷ ms) = let later : ℕ = receiver_for s i (suc p) ms in cond (not m && is_step (choose s i p)) p later

  abbrev pub meeting_with : S → ℕ → ℕ → Visited S
  meeting_with s i p = cond (eqb p 0) nothing_done (met_by p (choose s i p))

  -- the visit of the thread in place a
  unfoldable pub visited : S → ℕ → List Bool → Visited S
  visited s a ms = lone_else (choose s (suc a) 0) (meeting_with s (suc a) (receiver_for s (suc a) 1 ms))

  -- a list that got shorter has lost the thread in place a: its mark goes, and the next stands in its place
  abbrev pub going : S → ℕ → List Bool → Visited S → Going S
  going s a ms nothing_done = record { words = []; place = suc a; marks = ms; state = s }
  going s a ms (waited s') = record { words = suc a ∷ 0 ∷ []; place = suc a; marks = ms; state = s' }
  going s a ms (alone s') =
      let shorter : Bool = ltb (count s') (count s) in
      record { words = suc a ∷ 0 ∷ []; place = cond shorter a (suc a); marks = cond shorter (without_item ms a) (set ms a true); state = s' }
  going s a ms (met p s') = record { words = suc a ∷ p ∷ []; place = suc a; marks = set (set ms (p - 1) true) a true; state = s' }

  unfoldable pub visit : S → ℕ → List Bool → Going S
  visit s a ms = going s a ms (visited s a ms)

  -- k visits, from place a on
  unfoldable pub round_from : ℕ → ℕ → List Bool → S → Rounded S
  round_from zero a ms s = record { words = []; state = s }
  round_from (suc k) a ms s =
      let g : Going S = visit s a ms in
      let r : Rounded S = round_from k g.place g.marks g.state in
      record { words = g.words ++ r.words; state = r.state }

  -- a round visits the threads present at its start
  unfoldable pub round : S → Rounded S
  round s = round_from (count s) 0 (replicate (count s) false) s
