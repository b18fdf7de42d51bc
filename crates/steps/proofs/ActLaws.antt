-- What a choice comes to, branch by branch, as the code goes.
use Prim.Native.Nat.{ℕ, zero, suc, ◌+◌, ◌*◌, ◌-◌, ◌≤◌, ◌<◌}
use mathlib.Core.Path.{◌≡◌, refl, sym, ap, ◌∙◌}
use mathlib.Core.Bool.{Bool, true, false, cond, not, ◌&&◌}
use mathlib.Core.List.{List}
use native.Mathlib.Omega.{arith}
use lib.Bits.{bit_and}
use lib.Dec.{eqb, leb, ltb}
use lib.ListN.{length, get_or, get_or-eq_default}
use borrow.Author.Tests.{eq-eqb, ne_eqb, lt-ltb, le-ltb, le-leb, lt-leb}
use Rattle.masks.specs.Mask.{has, with, without}
use Rattle.format.specs.Contents.{in_count}
use Rattle.format.specs.declared.Node.{Node}
use Rattle.masks.proofs.Bounds.{names_only_lt, names_only_iff}
use Rattle.rules.specs.Schema.{Schema}
use Rattle.rules.specs.Rules.{able}
use Rattle.rules.specs.Kept.{Granting}
use Rattle.rules.specs.declared.Way.{Way}
use Rattle.rules.specs.declared.Way.TheVariants.{Sends, Receives}
use Rattle.steps.specs.declared.Made.{Made}
use Rattle.steps.specs.declared.Partner.TheVariants.{With, Missing}
use Rattle.steps.specs.declared.Outcome.{Outcome}
use Rattle.steps.specs.declared.Outcome.TheVariants.{Refused, Moves, Adds, Makes, Ends, Meets}
use Rattle.steps.specs.declared.Answer.{Answer}
use Rattle.steps.specs.declared.Acted.{Acted}
use Rattle.steps.specs.declared.Thread.{Thread}
use Rattle.steps.specs.Threads.{no_thread, no_made, value, moved_to, onward, masked, bound}
use Rattle.steps.specs.Choice.{Clinic, kind_held, is_allowed, meeting, sending, lone, alone_only, acting, State, halts, thread_at, partner_at, done, outcome, choice}
use Rattle.steps.specs.Beside.{made_at, made_in}
use Rattle.steps.specs.Acted.{partner_of, acted_of, outcome_of}

-- what code hands back gives the outcome
pub outcome_acted : (o : Outcome) → outcome_of (acted_of o) ≡ o
outcome_acted (Refused n) = refl
outcome_acted (Moves u) = refl
outcome_acted (Adds q) = refl
outcome_acted (Makes q) = refl
outcome_acted Ends = refl
outcome_acted (Meets q) = refl

-- so code may hand back an outcome for another that it equals
pub answered : {o q : Outcome} {r : Acted} → q ≡ o → r ≡ acted_of o → r ≡ acted_of q
answered e f = f ∙ ap acted_of (sym e)

-- what code hands back where one thread is left at most
abbrev pub leaving : Answer → Thread → Acted
leaving a t = record { answer = a; first = t; second = no_thread }

-- a role of a mask of 16 bits
pub role_low : (m x : ℕ) → m < 65536 → has m x ≡ true → x ≤ 16
role_low m x h p = (names_only_iff 16 m).0 ((names_only_lt 16 m).1 h) x p

-- made channels in a table
pub length_made : (b : List ℕ) (p k : ℕ) → length (made_in b p k) ≡ k
unfolding made_in
length_made b p zero = refl
length_made b p (suc k) = ap suc (length_made b (p + 2) k)

pub made_get : (b : List ℕ) (p k i : ℕ) → i < k → get_or (made_in b p k) i no_made ≡ made_at b (2 * i + p)
unfolding made_in
made_get b p zero i h = absurd (omega arith)
made_get b p (suc k) zero h = let e : p ≡ 2 * 0 + p = omega arith in ap (made_at b) e
made_get b p (suc k) (suc i) h =
    let e : 2 * i + (p + 2) ≡ 2 * suc i + p = omega arith in
    made_get b (p + 2) k i (omega arith) ∙ ap (made_at b) e

-- the kind of a value: plain, of a channel of the file, of a made channel, of none
module _ (D : Schema) (b : List ℕ) (n v : ℕ) where
  pub kind_plain : v < 257 → 0 ≡ kind_held D (made_in b 2 n) v
  unfolding kind_held
  kind_plain h = rw (lt-ltb v 257 h)

  pub kind_channel : 257 ≤ v → v < 385 → D.kind (v - 256) ≡ kind_held D (made_in b 2 n) v
  unfolding kind_held
  kind_channel h l = rw (le-ltb v 257 h, lt-ltb v 385 l)

  pub kind_of_made : (i : ℕ) (m : Made) → 385 ≤ v → i ≡ v - 385 → i < n → m ≡ made_at b (2 * i + 2) → m.kind.0 ≡ kind_held D (made_in b 2 n) v
  unfolding kind_held
  kind_of_made i m h e l f = rw (le-ltb v 257 (omega arith), le-ltb v 385 h, ← e) (ap (λ (x : Made). x.kind.0) (f ∙ sym (made_get b 2 n i l)))

  pub kind_of_none : (i : ℕ) → 385 ≤ v → i ≡ v - 385 → n ≤ i → 0 ≡ kind_held D (made_in b 2 n) v
  unfolding kind_held
  kind_of_none i h e l =
      rw (le-ltb v 257 (omega arith), le-ltb v 385 h, ← e)
      (sym (ap (λ (m : Made). m.kind.0) (get_or-eq_default (made_in b 2 n) no_made {n = i} (omega (arith, length_made b 2 n)))))

-- rule 6 by a table of grants: what a test says, made on the kind k of a value x
pub able_by : (D : Schema) (way : Way) (l : List ℕ) (m : ℕ) (made : List Made) (k x v : ℕ) (p b : Bool)
    → Granting D way l → k ≡ kind_held D made x → x ≡ v → p ≡ not (eqb (bit_and m (get_or l k 0)) 0) → p ≡ b → able D m way (kind_held D made v) ≡ b
unfolding able
able_by D way l m made k x v p b g e f h q = rw (← f, ← e, ← g k) (sym h ∙ q)

-- a send with a receive
module _ (C : Clinic) (made : List Made) (t : Thread) (n : Node) (r : Thread) (m : Node) where
  pub meeting_sender : is_allowed C made t Sends n.f1 ≡ false → meeting C made t n r m ≡ Refused 13
  unfolding meeting
  meeting_sender a = rw a

  pub meeting_receiver : is_allowed C made t Sends n.f1 ≡ true → is_allowed C made r Receives m.f1 ≡ false → meeting C made t n r m ≡ Refused 13
  unfolding meeting
  meeting_receiver a b = rw (a, b)

  pub meeting_apart : is_allowed C made t Sends n.f1 ≡ true → is_allowed C made r Receives m.f1 ≡ true → (value t n.f1 ≡ value r m.f1 → ⊥)
      → meeting C made t n r m ≡ Refused 19
  unfolding meeting
  meeting_apart a b d = rw (a, b, ne_eqb (value t n.f1) (value r m.f1) d)

  pub meeting_both : is_allowed C made t Sends n.f1 ≡ true → is_allowed C made r Receives m.f1 ≡ true → value t n.f1 ≡ value r m.f1
      → meeting C made t n r m ≡ Meets (record { first = onward t; second = bound r (value t n.f2) })
  unfolding meeting
  meeting_both a b e = rw (a, b, eq-eqb (value t n.f1) (value r m.f1) e)

-- a send, by its partner
module _ (C : Clinic) (made : List Made) (t : Thread) (n : Node) (threads p : ℕ) (r : Thread) where
  pub sending_alone : p ≡ 0 → sending C made t n (partner_of threads p r) ≡ Refused 18
  unfolding sending
  sending_alone e = rw (eq-eqb p 0 e)

  pub sending_missing : (p ≡ 0 → ⊥) → threads < p → sending C made t n (partner_of threads p r) ≡ Refused 18
  unfolding sending
  sending_missing d h = rw (ne_eqb p 0 d, lt-leb p threads h)

  sending_with : (p ≡ 0 → ⊥) → p ≤ threads
      → sending C made t n (partner_of threads p r)
      ≡ cond (in_count C.nodes r.node && eqb (C.node r.node).tag 5) (meeting C made t n r (C.node r.node)) (Refused 18)
  unfolding sending
  sending_with d h = rw (ne_eqb p 0 d, le-leb p threads h)

  pub sending_out : (p ≡ 0 → ⊥) → p ≤ threads → in_count C.nodes r.node ≡ false → sending C made t n (partner_of threads p r) ≡ Refused 18
  sending_out d h w = sending_with d h ∙ rw w

  pub sending_elsewhere : (m : Node) → m ≡ C.node r.node → (p ≡ 0 → ⊥) → p ≤ threads → in_count C.nodes r.node ≡ true → (m.tag ≡ 5 → ⊥)
      → sending C made t n (partner_of threads p r) ≡ Refused 18
  sending_elsewhere m k d h w e = sending_with d h ∙ rw (w, ← k, ne_eqb m.tag 5 e)

  pub sending_received : (m : Node) → m ≡ C.node r.node → (p ≡ 0 → ⊥) → p ≤ threads → in_count C.nodes r.node ≡ true → m.tag ≡ 5
      → sending C made t n (partner_of threads p r) ≡ meeting C made t n r m
  sending_received m k d h w e = sending_with d h ∙ rw (w, ← k, eq-eqb m.tag 5 e)

-- a lone step, tag by tag, from what the functions hand back
module _ (C : Clinic) (threads made : ℕ) (t : Thread) (n : Node) where
  pub lone_end : n.tag ≡ 0 → lone C threads made t n ≡ Ends
  unfolding lone
  lone_end e = rw e

  pub lone_fork : n.tag ≡ 1 → (u v : Thread) → u ≡ onward t → v ≡ moved_to t n.f1
      → lone C threads made t n ≡ cond (ltb threads 64) (Adds (record { first = u; second = v })) (Refused 20)
  unfolding lone
  lone_fork e u v f g = rw (e, f, g)

  pub lone_repeat : n.tag ≡ 2 → (u : Thread) → u ≡ onward t
      → lone C threads made t n ≡ cond (ltb threads 64) (Adds (record { first = t; second = u })) (Refused 20)
  unfolding lone
  lone_repeat e u f = rw (e, f)

  pub lone_new : n.tag ≡ 3
      → lone C threads made t n
      ≡ cond (ltb made 64) (Makes (record { thread = bound t (385 + made); made = record { owner = t.user; kind = record { 0 = n.f1 } } })) (Refused 20)
  unfolding lone
  lone_new e = rw e

  pub lone_compare : n.tag ≡ 4 → (x y : ℕ) (u : Thread) → x ≡ value t n.f1 → y ≡ value t n.f2 → u ≡ onward t
      → lone C threads made t n ≡ cond (eqb x y) (Moves u) (Refused 19)
  unfolding lone
  lone_compare e x y u f g h = rw (e, f, g, h)

  pub lone_on : n.tag ≡ 7
      → lone C threads made t n ≡ cond (has (C.schema.assigned t.user) n.f1) (Moves (masked t (with t.mask n.f1))) (Refused 11)
  unfolding lone
  lone_on e = rw e

  pub lone_off : n.tag ≡ 8 → (b : Bool) (u : Thread) → b ≡ has t.mask n.f1 → u ≡ masked t (without t.mask n.f1)
      → lone C threads made t n ≡ cond b (Moves u) (Refused 12)
  unfolding lone
  lone_off e b u f g = rw (e, f, g)

  pub lone_other : (n.tag ≡ 0 → ⊥) → (n.tag ≡ 1 → ⊥) → (n.tag ≡ 2 → ⊥) → (n.tag ≡ 3 → ⊥) → (n.tag ≡ 4 → ⊥) → (n.tag ≡ 7 → ⊥) → (n.tag ≡ 8 → ⊥)
      → lone C threads made t n ≡ Refused 18
  unfolding lone
  lone_other a b c d e f g =
      rw (
        ne_eqb n.tag 0 a,
        ne_eqb n.tag 1 b,
        ne_eqb n.tag 2 c,
        ne_eqb n.tag 3 d,
        ne_eqb n.tag 4 e,
        ne_eqb n.tag 7 f,
        ne_eqb n.tag 8 g,
      )

-- a choice, by the thread's node and its partner
module _ (C : Clinic) (threads : ℕ) (made : List Made) (t : Thread) (p : ℕ) (r : Thread) where
  pub acting_out : in_count C.nodes t.node ≡ false → acting C threads made t (partner_of threads p r) ≡ Refused 18
  unfolding acting
  acting_out w = rw w

  pub acting_send : (n : Node) → n ≡ C.node t.node → in_count C.nodes t.node ≡ true → n.tag ≡ 6
      → acting C threads made t (partner_of threads p r) ≡ sending C made t n (partner_of threads p r)
  unfolding acting
  acting_send n k w e = rw (← k, w, eq-eqb n.tag 6 e)

  pub acting_receive : (n : Node) → n ≡ C.node t.node → in_count C.nodes t.node ≡ true → n.tag ≡ 5
      → acting C threads made t (partner_of threads p r) ≡ Refused 18
  unfolding acting
  acting_receive n k w e = rw (← k, w, e)

  alone : (n : Node) → n ≡ C.node t.node → in_count C.nodes t.node ≡ true → (n.tag ≡ 6 → ⊥) → (n.tag ≡ 5 → ⊥)
      → acting C threads made t (partner_of threads p r) ≡ alone_only (partner_of threads p r) (lone C threads (length made) t n)
  unfolding acting
  alone n k w a b = rw (← k, w, ne_eqb n.tag 6 a, ne_eqb n.tag 5 b)

  pub acting_partner : (n : Node) → n ≡ C.node t.node → in_count C.nodes t.node ≡ true → (n.tag ≡ 6 → ⊥) → (n.tag ≡ 5 → ⊥) → (p ≡ 0 → ⊥)
      → acting C threads made t (partner_of threads p r) ≡ Refused 18
  unfolding alone_only
  acting_partner n k w a b d = alone n k w a b ∙ rw (ne_eqb p 0 d) (either (leb p threads))
    where
      either : (q : Bool) → alone_only (cond q (With r) Missing) (lone C threads (length made) t n) ≡ Refused 18
      either true = refl
      either false = refl

  pub acting_lone : (n : Node) (m : ℕ) → n ≡ C.node t.node → length made ≡ m → in_count C.nodes t.node ≡ true → (n.tag ≡ 6 → ⊥) → (n.tag ≡ 5 → ⊥) → p ≡ 0
      → acting C threads made t (partner_of threads p r) ≡ lone C threads m t n
  unfolding alone_only
  acting_lone n m k l w a b e = alone n k w a b ∙ rw (eq-eqb p 0 e, l)

-- a choice, where there is such a thread and where there is none
pub choice_acting : (C : Clinic) (s : State) (i p : ℕ)
    → choice C s i p ≡ cond (in_count (length s.threads) i) (done s i p (acting C (length s.threads) s.made (thread_at s i) (partner_at s p))) (halts 18)
unfolding choice outcome done
choice_acting C s i p = go (in_count (length s.threads) i)
  where
    o : Outcome
    o = acting C (length s.threads) s.made (thread_at s i) (partner_at s p)

    go : (b : Bool) → done s i p (cond b o (Refused 18)) ≡ cond b (done s i p o) (halts 18)
    go true = refl
    go false = refl
