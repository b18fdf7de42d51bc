-- What each of the refusals 9 to 13 objects to, and where, in the words of the paper; and the order of all the check's refusals.
use Rattle.std.specs.Prelude.{ℕ, ◌-◌, ◌≡◌, ◌⊎◌, ◌≢◌, false, cond, List, [], leb, length, get_or}
use Rattle.masks.specs.Mask.{has}
use Rattle.format.specs.Contents.{contents_of}
use Rattle.format.specs.declared.Node.{Node}
use Rattle.rules.specs.declared.Way.TheVariants.{Sends, Receives}
use Rattle.rules.specs.Schema.{Schema, schema_of, Permitted}
use Rattle.rules.specs.Names.{Bound}
use Rattle.rules.specs.Rules.{Context, child_of}
use Rattle.rules.specs.Checking.{openings}
use Rattle.reading_exact.specs.File.{InCount}
use Rattle.reading_exact.specs.Order.{Order, in_turn}
use Rattle.reading_exact.specs.Refusals.{nth, Reached, Refusable}
pub use Rattle.reading_exact.specs.Refusals.{root, child, first_child, second_child}
use Rattle.checking_exact.specs.Typing.{HasKind, Receivable}

abbrev pub nowhere : Context
nowhere = record { user = 0; mask = 0; vars = [] }

-- a node is reached in a context: a session's root in the session's opening, a child in what rules 1 and 5 leave it
abbrev pub InContext : Schema → List Node → List Context → ℕ → Context → Type 0
InContext D ns os = Reached (child_of D) ns (length os) (λ k. get_or os (k - 1) nowhere)

-- an operand that names nothing
abbrev pub Nothing : Schema → List Bound → ℕ → Type 0
Nothing D vs x = (k : ℕ) → HasKind D vs x k → ⊥

-- 9: a name of nothing, or a role or kind out of count
pub data Nameless (D : Schema) (vs : List Bound) (x : Node) : Type 0 where
  new_kind : x.tag ≡ 3 → (InCount D.kinds x.f1 → ⊥) → Nameless D vs x
  compared : x.tag ≡ 4 → Nothing D vs x.f1 ⊎ Nothing D vs x.f2 → Nameless D vs x
  received : x.tag ≡ 5 → Nothing D vs x.f1 → Nameless D vs x
  sent : x.tag ≡ 6 → Nothing D vs x.f1 ⊎ Nothing D vs x.f2 → Nameless D vs x
  on_role : x.tag ≡ 7 → (InCount D.roles x.f1 → ⊥) → Nameless D vs x
  off_role : x.tag ≡ 8 → (InCount D.roles x.f1 → ⊥) → Nameless D vs x

-- 10: against rules 2 to 4, where every operand has a kind; k and l are the kinds of f1 and f2
pub data Mismatched (D : Schema) (u : ℕ) (vs : List Bound) (x : Node) : Type 0 where
  -- rule 2: f1 is no channel, or f2 is not what its kind carries
  plain_channel : (k l : ℕ) → x.tag ≡ 6 → HasKind D vs x.f1 k → HasKind D vs x.f2 l → k ≡ 0 → Mismatched D u vs x
  not_carried : (k l : ℕ) → x.tag ≡ 6 → HasKind D vs x.f1 k → HasKind D vs x.f2 l → l ≢ D.carries k → Mismatched D u vs x
  -- rule 3
  not_owned : (k : ℕ) → x.tag ≡ 5 → HasKind D vs x.f1 k → (Receivable D u vs x.f1 → ⊥) → Mismatched D u vs x
  -- rule 4
  unlike : (k l : ℕ) → x.tag ≡ 4 → HasKind D vs x.f1 k → HasKind D vs x.f2 l → k ≢ l → Mismatched D u vs x

-- what the refusal of number n objects to at a node, in its context
pub data Fault (D : Schema) (c : Context) (x : Node) (n : ℕ) : Type 0 where
  nameless : n ≡ 9 → Nameless D c.vars x → Fault D c x n
  mismatched : n ≡ 10 → Mismatched D c.user c.vars x → Fault D c x n
  -- on of a role not assigned
  not_assigned : n ≡ 11 → x.tag ≡ 7 → has (D.assigned c.user) x.f1 ≡ false → Fault D c x n
  -- off of a role not active
  not_active : n ≡ 12 → x.tag ≡ 8 → has c.mask x.f1 ≡ false → Fault D c x n
  -- against rule 6
  cannot_receive : (k : ℕ) → n ≡ 13 → x.tag ≡ 5 → HasKind D c.vars x.f1 k → (Permitted D c.mask Receives k → ⊥) → Fault D c x n
  cannot_send : (k : ℕ) → n ≡ 13 → x.tag ≡ 6 → HasKind D c.vars x.f1 k → (Permitted D c.mask Sends k → ⊥) → Fault D c x n

-- a refusal's number and place hold of a file
pub data Objection (f : List ℕ) (n p : ℕ) : Type 0 where
  -- 1 to 8 and 21
  of_file : Refusable f n p → Objection f n p
  -- 9 to 13; the place is the node
  of_node : (c : Context) → InContext (schema_of (contents_of f)) (contents_of f).nodes (openings (contents_of f)) p c → InCount (length (contents_of f).nodes) p
      → Fault (schema_of (contents_of f)) c (nth (contents_of f).nodes p) n → Objection f n p

-- the order: 1 to 8 by number, 21 after 6, then 9 and 10 together, then 11 to 13 together; at one place the lower number
abbrev pub check_order : Order
check_order = record { stage = λ n. cond (leb (in_turn n) 16) (in_turn n) (cond (leb n 10) 18 22); turn = λ n. n }
