-- What gives cause for each of placing's refusals, and where, in the words of the paper; and their order.
use Rattle.std.specs.Prelude.{ℕ, ◌≤◌, ◌<◌, ◌≡◌, ◌⊎◌, ◌≢◌, cond, List, eqb, leb, length}
use Rattle.format.specs.Header.{room_for}
use Rattle.format.specs.Contents.{Contents, item, no_session, contents_of}
use Rattle.format.specs.declared.Node.{Node}
use Rattle.format.specs.Answers.{refused}
use Rattle.format.specs.declared.Verdict.{Verdict}
use Rattle.placing.specs.declared.Placed.{Placed}
use Rattle.rules.specs.declared.Way.TheVariants.{Sends, Receives}
use Rattle.rules.specs.Schema.{schema_of, Permitted}
use Rattle.rules.specs.Rules.{Context}
use Rattle.rules.specs.Checking.{openings}
use Rattle.reading_exact.specs.File.{File, InCount, nodes_of, ReadsAs}
use Rattle.reading_exact.specs.Order.{Order, in_turn, OfFile}
use Rattle.reading_exact.specs.Refusals.{nth}
use Rattle.checking_exact.specs.Tables.{schema_for}
use Rattle.checking_exact.specs.Typing.{HasKind}
use Rattle.checking_exact.specs.Faults.{InContext, Objection}
use Rattle.placing_exact.specs.Placement.{graft, Placement}
use Rattle.placing_exact.specs.Placed.{AllStates, insert_all, Fixed}

-- 14, a starting mask: a session has one that is not 0
abbrev pub SomeMask : Contents → Type 0
SomeMask C = (k : ℕ) × InCount (length C.sessions) k × ((item no_session C.sessions k).mask ≢ 0)

-- 14, on or off present
abbrev pub IsSwitch : List Node → ℕ → Type 0
IsSwitch ns p = InCount (length ns) p × (((nth ns p).tag ≡ 7) ⊎ ((nth ns p).tag ≡ 8))

-- 15: a receive or send, in its context, on a channel of kind k, and no role assigned to the session's user may receive, or send, on k
pub data Unserved (C : Contents) (p : ℕ) : Type 0 where
  no_receiver : (c : Context) (k : ℕ) → InContext (schema_of C) C.nodes (openings C) p c → InCount (length C.nodes) p → (nth C.nodes p).tag ≡ 5
      → HasKind (schema_of C) c.vars (nth C.nodes p).f1 k → (Permitted (schema_of C) ((schema_of C).assigned c.user) Receives k → ⊥) → Unserved C p
  no_sender : (c : Context) (k : ℕ) → InContext (schema_of C) C.nodes (openings C) p c → InCount (length C.nodes) p → (nth C.nodes p).tag ≡ 6
      → HasKind (schema_of C) c.vars (nth C.nodes p).f1 k → (Permitted (schema_of C) ((schema_of C).assigned c.user) Sends k → ⊥) → Unserved C p

-- the file that the tie rule fixes is a placement, and has so many nodes
abbrev pub PlacedWith : (ℕ → Type 0) → List ℕ → Type 0
PlacedWith Size f =
    (F : File) × (states : AllStates (schema_for F) F.sessions) × ReadsAs f F × Fixed F states
    × Placement F (insert_all (schema_for F) F.sessions states) × Size (length (nodes_of (graft F (insert_all (schema_for F) F.sessions states))))

-- a refusal's number and place have their cause in a file and the room for the output
pub data Cause (f : List ℕ) (room n p : ℕ) : Type 0 where
  -- 17: output under 6,874 bytes, or under 6,908 for an input whose first word is 2 or 3
  no_room : n ≡ 17 → p ≡ 0 → room < room_for f → Cause f room n p
  -- 1 to 10, 21 among them
  objected : OfFile n → Objection f n p → Cause f room n p
  -- 14: a starting mask (place 0), or on or off present (place: that node)
  masked : n ≡ 14 → p ≡ 0 → SomeMask (contents_of f) → Cause f room n p
  switched : n ≡ 14 → IsSwitch (contents_of f).nodes p → Cause f room n p
  -- 15: no role of the user permits the node
  unserved : n ≡ 15 → Unserved (contents_of f) p → Cause f room n p
  -- 16: the result has over 1,024 nodes (place 0)
  too_large : n ≡ 16 → p ≡ 0 → PlacedWith (λ k. 1024 < k) f → Cause f room n p

-- the refusal in an answer, and none where there is none
abbrev pub refusal_in : Placed → Verdict
refusal_in a = refused a.number a.place

-- the order: 17, then 1 to 8 by number, 21 after 6, then 9 and 10 together, then 14 (a mask's place 0 before nodes), 15, 16
abbrev pub placing_order : Order
placing_order = record { stage = λ n. cond (eqb n 17) 0 (cond (leb (in_turn n) 16) (in_turn n) (cond (leb n 10) 18 (in_turn n))); turn = λ n. n }
