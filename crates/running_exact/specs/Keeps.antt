-- What holds in every state of a run.
use Rattle.std.specs.Prelude.{ℕ, suc, ◌+◌, ◌-◌, ◌≤◌, ◌≡◌, List, [], ◌∷◌, length, get_or}
use Rattle.masks.specs.Mask.{Within}
use Rattle.format.specs.Contents.{Contents}
use Rattle.rules.specs.Schema.{Schema, schema_of}
use Rattle.rules.specs.Names.{Bound}
use Rattle.rules.specs.Rules.{Context}
use Rattle.rules.specs.Checking.{openings}
use Rattle.steps.specs.declared.Thread.{Thread}
use Rattle.steps.specs.declared.Made.{Made}
use Rattle.steps.specs.Threads.{no_made}
use Rattle.steps.specs.Choice.{State}
use Rattle.reading_exact.specs.Lists.{All}
use Rattle.reading_exact.specs.File.{InCount}
use Rattle.checking_exact.specs.Faults.{InContext}

-- a value of a kind, 0 for a plain one: a user, a channel, a made channel
pub data HasValue (D : Schema) (made : List Made) (v k : ℕ) : Type 0 where
  a_user : InCount D.users v → k ≡ 0 → HasValue D made v k
  a_channel : (c : ℕ) → InCount D.channels c → v ≡ 256 + c → k ≡ D.kind c → HasValue D made v k
  a_made : (c : ℕ) → InCount (length made) c → v ≡ 384 + c → k ≡ (get_or made (c - 1) no_made).kind.0 → HasValue D made v k

-- each bound variable holds a value of rule 1's kind; those that are not bound are 0
abbrev pub Held : Schema → List Made → List Bound → List ℕ → Type 0
Held D made [] [] = Unit {0}
Held D made [] (v ∷ vs) = (v ≡ 0) × Held D made [] vs
Held D made (b ∷ bs) [] = ⊥
Held D made (b ∷ bs) (v ∷ vs) = HasValue D made v b.sort × Held D made bs vs

-- a thread at a node that is reached in the context c: node in count, user that of its session, mask within the user's roles, variables as rule 1 says
pub record Fits (D : Schema) (made : List Made) (c : Context) (t : Thread) : Type 0 where
  pub user : t.user ≡ c.user
  pub counted : InCount D.users t.user
  pub mask : Within t.mask (D.assigned t.user)
  pub eight : length t.vars ≡ 8
  pub vars : Held D made c.vars t.vars

-- the context of a thread's node in a file
abbrev pub Reaches : Contents → Thread → Context → Type 0
Reaches C t c = InCount (length C.nodes) t.node × InContext (schema_of C) C.nodes (openings C) t.node c

-- a made channel's owner and kind are in count
abbrev pub Formed : Schema → Made → Type 0
Formed D m = InCount D.users m.owner × InCount D.kinds m.kind.0

-- a state of a run: every thread fits the context of its node, and holds exactly that context's active set
pub record Kept (C : Contents) (s : State) : Type 0 where
  pub threads : All (λ (t : Thread). (c : Context) × Reaches C t c × Fits (schema_of C) s.made c t × (t.mask ≡ c.mask)) s.threads
  pub made : All (Formed (schema_of C)) s.made
  pub few_threads : length s.threads ≤ 64
  pub few_made : length s.made ≤ 64
