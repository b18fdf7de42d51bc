-- One choice: thread, partner (0 if alone).
use Rattle.std.specs.Prelude.{ℕ, ◌+◌, ◌-◌, Bool, cond, ◌&&◌, List, [], ◌∷◌, ◌++◌, eqb, leb, ltb, length, get_or, set, take, drop}
use Rattle.masks.specs.Mask.{has, with, without}
use Rattle.format.specs.Contents.{Contents, in_count, item, no_node}
use Rattle.format.specs.declared.Node.{Node}
use Rattle.rules.specs.declared.Way.{Way}
use Rattle.rules.specs.declared.Way.TheVariants.{Sends, Receives}
use Rattle.rules.specs.Schema.{Schema, schema_of}
use Rattle.rules.specs.Rules.{able}
use Rattle.steps.specs.declared.Thread.{Thread}
use Rattle.steps.specs.declared.Made.{Made}
use Rattle.steps.specs.declared.Partner.{Partner}
use Rattle.steps.specs.declared.Partner.TheVariants.{Alone, With, Missing}
use Rattle.steps.specs.declared.Outcome.{Outcome}
use Rattle.steps.specs.declared.Outcome.TheVariants.{Refused, Moves, Adds, Makes, Ends, Meets}
use Rattle.steps.specs.Threads.{no_thread, no_made, value, moved_to, onward, masked, bound}

-- what a run asks of a file: its tables, how many nodes it has, and the node of a number
pub record Clinic : Type 0 where
  pub schema : Schema
  pub nodes : ℕ
  pub node : ℕ → Node

abbrev pub clinic_of : Contents → Clinic
clinic_of C = record { schema = schema_of C; nodes = length C.nodes; node = λ j. item no_node C.nodes j }

-- the kind of a value, 0 for a plain one: made channel i has value 384 + i
unfoldable pub kind_held : Schema → List Made → ℕ → ℕ
kind_held D made v = cond (ltb v 257) 0 (cond (ltb v 385) (D.kind (v - 256)) (get_or made (v - 385) no_made).kind.0)

-- rule 6 for a thread, by the kind of the channel that an operand stands for
abbrev pub is_allowed : Clinic → List Made → Thread → Way → ℕ → Bool
is_allowed C made t way x = able C.schema t.mask way (kind_held C.schema made (value t x))

-- a send with a receive: 13 of either side, then 19 where the channels differ; the receive's variable takes the value sent
unfoldable pub meeting : Clinic → List Made → Thread → Node → Thread → Node → Outcome
meeting C made t n r m =
    cond (is_allowed C made t Sends n.f1 && is_allowed C made r Receives m.f1)
    (cond (eqb (value t n.f1) (value r m.f1)) (Meets (record { first = onward t; second = bound r (value t n.f2) })) (Refused 19)) (Refused 13)

-- a send needs a partner that is a thread at a receive: else 18
unfoldable pub sending : Clinic → List Made → Thread → Node → Partner → Outcome
sending C made t n Alone = Refused 18
sending C made t n Missing = Refused 18
sending C made t n (With r) =
    cond (in_count C.nodes r.node && eqb (C.node r.node).tag 5) (meeting C made t n r (C.node r.node)) (Refused 18)

-- a lone step, by its tag: 11 on of a role not assigned, 12 off of a role not active, 19 compare unequal, 20 a 65th thread or made channel
unfoldable pub lone : Clinic → ℕ → ℕ → Thread → Node → Outcome
lone C threads made t n =
    cond (eqb n.tag 0) Ends
    (cond (eqb n.tag 1) (cond (ltb threads 64) (Adds (record { first = onward t; second = moved_to t n.f1 })) (Refused 20))
    (cond (eqb n.tag 2) (cond (ltb threads 64) (Adds (record { first = t; second = onward t })) (Refused 20))
    (cond (eqb n.tag 3)
    (cond (ltb made 64) (Makes (record { thread = bound t (385 + made); made = record { owner = t.user; kind = record { 0 = n.f1 } } })) (Refused 20))
    (cond (eqb n.tag 4) (cond (eqb (value t n.f1) (value t n.f2)) (Moves (onward t)) (Refused 19))
    (cond (eqb n.tag 7) (cond (has (C.schema.assigned t.user) n.f1) (Moves (masked t (with t.mask n.f1))) (Refused 11))
    (cond (eqb n.tag 8) (cond (has t.mask n.f1) (Moves (masked t (without t.mask n.f1))) (Refused 12)) (Refused 18)))))))

-- a partner for a lone step: 18
unfoldable pub alone_only : Partner → Outcome → Outcome
alone_only Alone o = o
alone_only Missing o = Refused 18
alone_only (With r) o = Refused 18

-- what a choice of a thread comes to, by the thread, its partner and the counts; a receive named first is 18
unfoldable pub acting : Clinic → ℕ → List Made → Thread → Partner → Outcome
acting C threads made t p =
    let n : Node = C.node t.node in
    cond (in_count C.nodes t.node)
    (cond (eqb n.tag 6) (sending C made t n p) (cond (eqb n.tag 5) (Refused 18) (alone_only p (lone C threads (length made) t n)))) (Refused 18)

pub record State : Type 0 where
  pub threads : List Thread
  pub made : List Made

-- a refused choice, or the state after it
pub data Chosen : Type 0 where
  halts : ℕ → Chosen
  goes : State → Chosen

abbrev pub thread_at : State → ℕ → Thread
thread_at s i = get_or s.threads (i - 1) no_thread

abbrev pub partner_at : State → ℕ → Partner
partner_at s p = cond (eqb p 0) Alone (cond (leb p (length s.threads)) (With (thread_at s p)) Missing)

-- the state with one thread changed; with a new last thread; with a made channel; without a thread, those after it moved down by one
abbrev pub changed : State → ℕ → Thread → State
changed s i t = record { threads = set s.threads (i - 1) t; made = s.made }

abbrev pub added : State → ℕ → Thread → Thread → State
added s i t u = record { threads = set s.threads (i - 1) t ++ (u ∷ []); made = s.made }

abbrev pub with_made : State → ℕ → Thread → Made → State
with_made s i t m = record { threads = set s.threads (i - 1) t; made = s.made ++ (m ∷ []) }

abbrev pub removed : State → ℕ → State
removed s i = record { threads = take (i - 1) s.threads ++ drop i s.threads; made = s.made }

unfoldable pub done : State → ℕ → ℕ → Outcome → Chosen
done s i p (Refused n) = halts n
done s i p (Moves t) = goes (changed s i t)
done s i p (Adds q) = goes (added s i q.first q.second)
done s i p (Makes q) = goes (with_made s i q.thread q.made)
done s i p Ends = goes (removed s i)
done s i p (Meets q) = goes (changed (changed s i q.first) p q.second)

-- what a choice of thread i with partner p comes to in a state; 18 where there is no such thread
unfoldable pub outcome : Clinic → State → ℕ → ℕ → Outcome
outcome C s i p =
    cond (in_count (length s.threads) i) (acting C (length s.threads) s.made (thread_at s i) (partner_at s p)) (Refused 18)

unfoldable pub choice : Clinic → State → ℕ → ℕ → Chosen
choice C s i p = done s i p (outcome C s i p)
