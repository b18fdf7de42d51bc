-- Reasons in the words of document 02, K8: a refusal's number, "its place, what the place counts (word, session, node, choice, row or none) and, for 9 to 15 at a node,
-- that node's tag"; K12 "counts it as a notice". Counted is 0 none, 1 word, 2 session, 3 node, 4 choice, 5 row, 6 notice; a tag is 0 to 8, and 9 where none belongs.
use Rattle.std.specs.Prelude.{ℕ, ◌+◌, ◌-◌, ◌*◌, ◌≤◌, ◌≡◌, ◌↔◌, List, [], ◌∷◌}
use Rattle.reasons.specs.declared.Reason.{Reason}

-- what 01 and the requests count at each number
pub data MayCount (n c : ℕ) : Type 0 where
  -- 1 to 5 speak of the whole file
  of_file : 1 ≤ n → n ≤ 5 → c ≡ 0 → MayCount n c
  -- a record's word offset
  of_record : n ≡ 6 → c ≡ 1 → MayCount n c
  of_start : n ≡ 7 → c ≡ 2 → MayCount n c
  of_tree : 8 ≤ n → n ≤ 10 → c ≡ 3 → MayCount n c
  -- a node in the check, a choice in a run
  of_step : 11 ≤ n → n ≤ 13 → c ≡ 3 → MayCount n c
  of_chosen : 11 ≤ n → n ≤ 13 → c ≡ 4 → MayCount n c
  -- a starting role, or an on or off
  of_placing : n ≡ 14 → c ≡ 0 → MayCount n c
  of_placing_node : n ≡ 14 → c ≡ 3 → MayCount n c
  of_unserved : n ≡ 15 → c ≡ 3 → MayCount n c
  of_room : 16 ≤ n → n ≤ 17 → c ≡ 0 → MayCount n c
  -- what is lent, or a choice
  of_lent : n ≡ 18 → c ≡ 0 → MayCount n c
  of_thread : n ≡ 18 → c ≡ 4 → MayCount n c
  of_pair : 19 ≤ n → n ≤ 20 → c ≡ 4 → MayCount n c
  -- K1
  of_junior : n ≡ 21 → c ≡ 1 → MayCount n c
  -- K2
  of_minute : n ≡ 22 → c ≡ 0 → MayCount n c
  of_row : n ≡ 23 → c ≡ 5 → MayCount n c
  of_closed : n ≡ 24 → c ≡ 3 → MayCount n c
  -- K9
  of_joining : n ≡ 25 → c ≡ 0 → MayCount n c
  -- K10: "session or choice"
  of_overfilled : n ≡ 26 → c ≡ 2 → MayCount n c
  of_unseated : n ≡ 26 → c ≡ 4 → MayCount n c
  -- K12
  of_notice : n ≡ 27 → c ≡ 6 → MayCount n c
  of_neither : n ≡ 28 → c ≡ 0 → MayCount n c

-- "A place is 0 exactly with none, else up to 65,535."
abbrev pub PlaceFits : ℕ → ℕ → Type 0
PlaceFits c p = (p ≡ 0 ↔ c ≡ 0) × (p ≤ 65535)

-- "for 9 to 15 at a node"
abbrev pub AtNode : ℕ → ℕ → Type 0
AtNode n c = (9 ≤ n) × (n ≤ 15) × (c ≡ 3)

-- "that node's tag .., any of the nine", exactly there
pub data TagFits (n c t : ℕ) : Type 0 where
  some_tag : AtNode n c → t ≤ 8 → TagFits n c t
  no_tag : (AtNode n c → ⊥) → t ≡ 9 → TagFits n c t

abbrev pub IsReason : Reason → Type 0
IsReason r = MayCount r.number r.counts × PlaceFits r.counts r.place × TagFits r.number r.counts r.tag

-- the number that digits say, after a
unfoldable pub decimal_value : ℕ → List ℕ → ℕ
decimal_value a [] = a
decimal_value a (d ∷ ds) = decimal_value (10 * a + (d - 48)) ds
