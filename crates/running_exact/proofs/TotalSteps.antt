-- A choice that is done leaves beside the threads the totals of the threads that it leaves.
use Prim.Native.Nat.{ℕ, zero, suc, ◌+◌, ◌*◌, ◌-◌, ◌%◌, ◌≤◌, ◌<◌}
use mathlib.Core.Path.{◌≡◌, refl, sym, ap, ap₂, ◌∙◌, subst}
use mathlib.Core.Bool.{Bool, true, false, cond, ◌&&◌, and-eq-true_iff}
use mathlib.Core.List.{List, [], ◌∷◌, ◌++◌}
use native.Mathlib.Omega.{arith}
use lib.Dec.{eqb, leb, ltb}
use lib.ListN.{length, get_or, set, take, drop, length-set, length-append, length-drop}
use lib.Seq.{get_or-set_same, get_or-set_other, length-take-le}
use borrow.Author.Tests.{eqb-true, eqb-false, leb-true, ltb-true}
use Rattle.masks.specs.Mask.{has, with, without}
use Rattle.format.specs.Contents.{in_count}
use Rattle.format.specs.declared.Node.{Node}
use Rattle.format.proofs.ContentsLaws.{in_count_lem}
use Rattle.rules.specs.declared.Way.TheVariants.{Sends, Receives}
use Rattle.steps.specs.declared.Thread.{Thread}
use Rattle.steps.specs.declared.Made.{Made}
use Rattle.steps.specs.declared.Partner.{Partner}
use Rattle.steps.specs.declared.Partner.TheVariants.{Alone, With, Missing}
use Rattle.steps.specs.declared.Outcome.{Outcome}
use Rattle.steps.specs.declared.Outcome.TheVariants.{Refused, Moves, Adds, Makes, Ends, Meets}
use Rattle.steps.specs.Threads.{no_thread, value}
use Rattle.steps.specs.Choice.{Clinic, State, Chosen, halts, goes, thread_at, partner_at, is_allowed, meeting, sending, lone, alone_only, acting, outcome, done}
use Rattle.steps.specs.Beside.{waiting, one_more, one_less, counts_by, totals_by, beside_by, with_threads, one_made}
use Rattle.steps.proofs.TotalLaws.{more_length, less_length, aside_totals}
use Rattle.reading_exact.specs.File.{InCount}
use Rattle.running_exact.proofs.TotalWords.{hit, no_hit, waiting_set, waiting_end, waiting_gone, hit_small, waiting_few, more_total, less_total, total_threads, total_made}

-- no thread waits at a node that is no receive
abbrev pub ByReceives : Clinic → (ℕ → ℕ) → Type 0
ByReceives C kind = (j : ℕ) → InCount C.nodes j → ((C.node j).tag ≡ 5 → ⊥) → kind j ≡ 0

-- what an outcome tells of the nodes that are left: of thread t, of so many threads and made channels, with the partner
module _ (kind : ℕ → ℕ) (threads made : ℕ) (t : Thread) where
  abbrev pub Leaves : Partner → Outcome → Type 0
  Leaves p (Refused n) = Unit {0}
  Leaves p (Moves u) = kind t.node ≡ 0
  Leaves p (Adds q) = (kind t.node ≡ 0) × (threads < 64)
  Leaves p (Makes q) = (kind t.node ≡ 0) × (made < 64)
  Leaves p Ends = kind t.node ≡ 0
  Leaves Alone (Meets q) = ⊥
  Leaves Missing (Meets q) = ⊥
  Leaves (With r) (Meets q) = (kind t.node ≡ 0) × (q.second.node ≡ r.node + 1) × (t.node ≡ r.node → ⊥)

pub record Told (kind : ℕ → ℕ) (threads made : ℕ) (t : Thread) (p : Partner) (o : Outcome) : Type 0 where
  pub leaves : Leaves kind threads made t p o

module _ (C : Clinic) (kind : ℕ → ℕ) (by : ByReceives C kind) (threads : ℕ) (made : List Made) (t : Thread) where
  abbrev Says : Partner → Outcome → Type 0
  Says p o = Told kind threads (length made) t p o

  none : (p : Partner) (n : ℕ) → Says p (Refused n)
  none p n = record { leaves = tt }

  either : (p : Partner) (b : Bool) (x y : Outcome) → (b ≡ true → Says p x) → Says p y → Says p (cond b x y)
  either p true x y h k = h refl
  either p false x y h k = k

  lone_leaves : (n : Node) → kind t.node ≡ 0 → Says Alone (lone C threads (length made) t n)
  unfolding lone
  lone_leaves n z =
      either Alone (eqb n.tag 0) _ _ (λ _. record { leaves = z })
      (either Alone (eqb n.tag 1) _ _ (λ _. either Alone (ltb threads 64) _ _ (λ e. record { leaves = (z, ltb-true threads 64 e) }) (none Alone 20))
      (either Alone (eqb n.tag 2) _ _ (λ _. either Alone (ltb threads 64) _ _ (λ e. record { leaves = (z, ltb-true threads 64 e) }) (none Alone 20))
      (either Alone (eqb n.tag 3) _ _ (λ _. either Alone (ltb (length made) 64) _ _ (λ e. record { leaves = (z, ltb-true (length made) 64 e) }) (none Alone 20))
      (either Alone (eqb n.tag 4) _ _ (λ _. either Alone (eqb (value t n.f1) (value t n.f2)) _ _ (λ _. record { leaves = z }) (none Alone 19))
      (either Alone (eqb n.tag 7) _ _ (λ _. either Alone (has (C.schema.assigned t.user) n.f1) _ _ (λ _. record { leaves = z }) (none Alone 11))
      (either Alone (eqb n.tag 8) _ _ (λ _. either Alone (has t.mask n.f1) _ _ (λ _. record { leaves = z }) (none Alone 12)) (none Alone 18)))))))

  sending_leaves : (n : Node) (p : Partner) → kind t.node ≡ 0 → ((C.node t.node).tag ≡ 6) → Says p (sending C made t n p)
  unfolding sending meeting
  sending_leaves n Alone z six = none Alone 18
  sending_leaves n Missing z six = none Missing 18
  sending_leaves n (With r) z six =
      either (With r) (in_count C.nodes r.node && eqb (C.node r.node).tag 5) _ _
      (λ e.
      let five : (C.node r.node).tag ≡ 5 = eqb-true (C.node r.node).tag 5 ((and-eq-true_iff (in_count C.nodes r.node) (eqb (C.node r.node).tag 5)).0 e).1 in
      let apart : t.node ≡ r.node → ⊥ = λ q. let same : (C.node t.node).tag ≡ (C.node r.node).tag = ap (λ (j : ℕ). (C.node j).tag) q in omega (arith, six, five, same) in
      either (With r) (is_allowed C made t Sends n.f1 && is_allowed C made r Receives (C.node r.node).f1) _ _
      (λ _. either (With r) (eqb (value t n.f1) (value r (C.node r.node).f1)) _ _ (λ _. record { leaves = (z, refl, apart) }) (none (With r) 19)) (none (With r) 13))
      (none (With r) 18)

  alone_leaves : (p : Partner) (o : Outcome) → Says Alone o → Says p (alone_only p o)
  unfolding alone_only
  alone_leaves Alone o h = h
  alone_leaves Missing o h = none Missing 18
  alone_leaves (With r) o h = none (With r) 18

  pub acting_leaves : (p : Partner) → Says p (acting C threads made t p)
  unfolding acting
  acting_leaves p =
      either p (in_count C.nodes t.node) _ _
      (λ e. tagged (in_count_lem C.nodes t.node e) (eqb (C.node t.node).tag 6) refl (eqb (C.node t.node).tag 5) refl) (none p 18)
    where
      tagged : InCount C.nodes t.node → (a : Bool) → eqb (C.node t.node).tag 6 ≡ a → (b : Bool) → eqb (C.node t.node).tag 5 ≡ b
          → Says p (cond a (sending C made t (C.node t.node) p) (cond b (Refused 18) (alone_only p (lone C threads (length made) t (C.node t.node)))))
      tagged inside true e b f =
          let six : (C.node t.node).tag ≡ 6 = eqb-true (C.node t.node).tag 6 e in
          sending_leaves (C.node t.node) p (by t.node inside (λ q. omega (arith, six, q))) six
      tagged inside false e true f = none p 18
      tagged inside false e false f =
          alone_leaves p (lone C threads (length made) t (C.node t.node)) (lone_leaves (C.node t.node) (by t.node inside (eqb-false (C.node t.node).tag 5 f)))

-- the words beside the threads of a state, with its totals
pub record Tallied (kind : ℕ → ℕ) (b : List ℕ) (s : State) : Type 0 where
  pub long : length b ≡ 162
  pub few : length s.threads ≤ 64
  pub made : get_or b 1 0 ≡ length s.made
  pub totals : (k : ℕ) → InCount 32 k → get_or b (129 + k) 0 ≡ waiting kind k s.threads

abbrev pub TalliedAfter : (ℕ → ℕ) → List ℕ → Chosen → Type 0
TalliedAfter kind b (halts n) = Unit {0}
TalliedAfter kind b (goes s) = Tallied kind b s

module _ (C : Clinic) (kind : ℕ → ℕ) (by : ByReceives C kind) (b : List ℕ) (s : State) (h : Tallied kind b s) (i p : ℕ) where
  abbrev ts : List Thread
  ts = s.threads

  abbrev own : Thread
  own = thread_at s i

  -- what is left beside keeps its length, and counts the made channels
  sized : (o : Outcome) (n : ℕ) → length (counts_by b o) ≡ 162 → get_or (counts_by b o) 1 0 ≡ n → (length (beside_by kind b o) ≡ 162) × (get_or (beside_by kind b o) 1 0 ≡ n)
  sized o n l m = let a = aside_totals kind (counts_by b o) o in (a.long ∙ l, a.same 1 (omega arith) ∙ m)

  done_tallied : InCount (length ts) i → (q : Partner) → (q ≡ partner_at s p) → (o : Outcome) → Leaves kind (length ts) (length s.made) own q o → TalliedAfter kind (beside_by kind b o) (done s i p o)
  unfolding done
  done_tallied inside q e (Refused n) l = tt
  done_tallied inside q e (Moves t) z =
      let both = sized (Moves t) (length s.made) h.long h.made in record {
        long = both.0;
        few = omega (arith, length-set ts (i - 1) t, h.few);
        made = both.1;
        totals = λ k in-k.
            let w = waiting_set kind k ts (i - 1) t (omega (arith, inside.0, inside.1)) in
            let none = no_hit (kind own.node) k z in-k.0 in
            let few = waiting_few kind k ts in
            let old = h.totals k in-k in
            let more = more_total b (kind t.node) k h.long in-k (omega (arith, old, few, h.few)) in
            omega (arith, w, none, old, more);
      }
  done_tallied inside q e (Adds u) (z, room) =
      let d : List ℕ = with_threads b (get_or b 0 0 + 1) in
      let ld : length d ≡ 162 = length-set b 0 (get_or b 0 0 + 1) ∙ h.long in
      let both = sized (Adds u) (length s.made) ld (get_or-set_other b 0 1 (get_or b 0 0 + 1) 0 (λ q. omega (arith, q)) ∙ h.made) in record {
        long = both.0;
        few = omega (arith, length-append (set ts (i - 1) u.first) (u.second ∷ []), length-set ts (i - 1) u.first, room);
        made = both.1;
        totals = λ k in-k.
            let w = waiting_set kind k ts (i - 1) u.first (omega (arith, inside.0, inside.1)) in
            let last = waiting_end kind k (set ts (i - 1) u.first) u.second in
            let none = no_hit (kind own.node) k z in-k.0 in
            let few = waiting_few kind k ts in
            let old = total_threads b k in-k (get_or b 0 0 + 1) ∙ h.totals k in-k in
            let one = more_total d (kind u.first.node) k ld in-k (omega (arith, old, few, h.few)) in
            let small = hit_small kind k u.first in
            let two = more_total (one_more d (kind u.first.node)) (kind u.second.node) k (more_length d (kind u.first.node) ∙ ld) in-k (omega (arith, one, small, old, few, h.few)) in
            omega (arith, w, last, none, old, one, two);
      }
  done_tallied inside q e (Makes u) (z, room) =
      let m : Made = u.made in
      let c : ℕ = get_or b 1 0 in
      let low : List ℕ = set b (2 * c + 2) m.owner in
      let mid : List ℕ = set low (2 * c + 3) m.kind.0 in
      let lm : length mid ≡ 162 = length-set low (2 * c + 3) m.kind.0 ∙ length-set b (2 * c + 2) m.owner ∙ h.long in
      let ld : length (one_made b m) ≡ 162 = length-set mid 1 (c + 1) ∙ lm in
      let one_more_lem : get_or (one_made b m) 1 0 ≡ length (s.made ++ (m ∷ [])) =
      get_or-set_same mid 1 (c + 1) 0 (omega (arith, lm)) ∙ ap (λ (x : ℕ). x + 1) h.made ∙ sym (length-append s.made (m ∷ [])) in
      let both = sized (Makes u) (length (s.made ++ (m ∷ []))) ld one_more_lem in record {
        long = both.0;
        few = omega (arith, length-set ts (i - 1) u.thread, h.few);
        made = both.1;
        totals = λ k in-k.
            let w = waiting_set kind k ts (i - 1) u.thread (omega (arith, inside.0, inside.1)) in
            let none = no_hit (kind own.node) k z in-k.0 in
            let few = waiting_few kind k ts in
            let old = total_made b k in-k m (omega (arith, room, h.made)) ∙ h.totals k in-k in
            let more = more_total (one_made b m) (kind u.thread.node) k ld in-k (omega (arith, old, few, h.few)) in
            omega (arith, w, none, old, more);
      }
  done_tallied inside q e Ends z =
      let d : List ℕ = with_threads b (get_or b 0 0 - 1) in
      let ld : length d ≡ 162 = length-set b 0 (get_or b 0 0 - 1) ∙ h.long in
      let next : suc (i - 1) ≡ i = omega (arith, inside.0) in
      let both = sized Ends (length s.made) ld (get_or-set_other b 0 1 (get_or b 0 0 - 1) 0 (λ q. omega (arith, q)) ∙ h.made) in record {
        long = both.0;
        few = omega (arith, length-append (take (i - 1) ts) (drop i ts), length-take-le (i - 1) ts (omega (arith, inside.1)), length-drop i ts, h.few);
        made = both.1;
        totals = λ k in-k.
            let w : waiting kind k (take (i - 1) ts ++ drop i ts) + hit (kind own.node) k ≡ waiting kind k ts =
            ap (λ (x : ℕ). waiting kind k (take (i - 1) ts ++ drop x ts) + hit (kind own.node) k) (sym next) ∙ waiting_gone kind k ts (i - 1) (omega (arith, inside.0, inside.1)) in
            let none = no_hit (kind own.node) k z in-k.0 in
            let old = total_threads b k in-k (get_or b 0 0 - 1) ∙ h.totals k in-k in
            omega (arith, w, none, old);
      }
  done_tallied inside Alone e (Meets u) l = absurd l
  done_tallied inside Missing e (Meets u) l = absurd l
  done_tallied inside (With r) e (Meets u) (z, next, apart) =
      let both = sized (Meets u) (length s.made) h.long h.made in
      let its = partner (eqb p 0) refl (leb p (length ts)) refl e in record {
        long = both.0;
        few = omega (arith, length-set (set ts (i - 1) u.first) (p - 1) u.second, length-set ts (i - 1) u.first, h.few);
        made = both.1;
        totals = λ k in-k.
            let mid : List Thread = set ts (i - 1) u.first in
            let lone-p : p ≡ i → ⊥ = λ same. apart (ap (λ (x : ℕ). (thread_at s x).node) (sym same) ∙ ap (λ (x : Thread). x.node) (sym its.1)) in
            let kept : get_or mid (p - 1) no_thread ≡ r =
            get_or-set_other ts (i - 1) (p - 1) u.first no_thread (λ q. lone-p (omega (arith, q, inside.0, its.0.0))) ∙ sym its.1 in
            let w1 = waiting_set kind k ts (i - 1) u.first (omega (arith, inside.0, inside.1)) in
            let w2 = waiting_set kind k mid (p - 1) u.second (omega (arith, its.0, length-set ts (i - 1) u.first)) in
            let w2r : waiting kind k (set mid (p - 1) u.second) + hit (kind r.node) k ≡ waiting kind k mid + hit (kind u.second.node) k =
            ap (λ (x : Thread). waiting kind k (set mid (p - 1) u.second) + hit (kind x.node) k) (sym kept) ∙ w2 in
            let left : kind (u.second.node - 1) ≡ kind r.node = let back : u.second.node - 1 ≡ r.node = omega (arith, next) in ap kind back in
            let there : waiting kind k (take (p - 1) ts ++ drop (suc (p - 1)) ts) + hit (kind r.node) k ≡ waiting kind k ts =
            ap (λ (x : Thread). waiting kind k (take (p - 1) ts ++ drop (suc (p - 1)) ts) + hit (kind x.node) k) its.1 ∙ waiting_gone kind k ts (p - 1) (omega (arith, its.0)) in
            let none = no_hit (kind own.node) k z in-k.0 in
            let few = waiting_few kind k ts in
            let old = h.totals k in-k in
            let less = less_total b (kind r.node) k h.long in-k (omega (arith, old, few, h.few)) (omega (arith, old, there)) in
            let d : List ℕ = one_less b (kind r.node) in
            let ld : length d ≡ 162 = less_length b (kind r.node) ∙ h.long in
            let one = more_total d (kind u.first.node) k ld in-k (omega (arith, less, old, few, h.few)) in
            let small = hit_small kind k u.first in
            let two = more_total (one_more d (kind u.first.node)) (kind u.second.node) k (more_length d (kind u.first.node) ∙ ld) in-k (omega (arith, one, small, less, old, few, h.few)) in
            let shown : get_or (beside_by kind b (Meets u)) (129 + k) 0 ≡ get_or (one_more (one_more d (kind u.first.node)) (kind u.second.node)) (129 + k) 0 =
            ap (λ (x : ℕ). get_or (one_more (one_more (one_less b x) (kind u.first.node)) (kind u.second.node)) (129 + k) 0) left in
            shown ∙ omega (arith, w1, w2r, none, old, less, one, two);
      }
    where
      partner : (a : Bool) → eqb p 0 ≡ a → (c : Bool) → leb p (length ts) ≡ c → With r ≡ cond a Alone (cond c (With (thread_at s p)) Missing) → ((1 ≤ p) × (p ≤ length ts)) × (r ≡ thread_at s p)
      partner true x c y f = absurd (subst IsWith f tt)
        where
          IsWith : Partner → Type 0
          IsWith Alone = ⊥
          IsWith Missing = ⊥
          IsWith (With t) = Unit {0}
      partner false x false y f = absurd (subst IsWith f tt)
        where
          IsWith : Partner → Type 0
          IsWith Alone = ⊥
          IsWith Missing = ⊥
          IsWith (With t) = Unit {0}
      partner false x true y f = ((omega (arith, eqb-false p 0 x), leb-true p (length ts) y), ap thread_of f)
        where
          thread_of : Partner → Thread
          thread_of Alone = r
          thread_of Missing = r
          thread_of (With t) = t

  pub choice_tallied : TalliedAfter kind (beside_by kind b (outcome C s i p)) (done s i p (outcome C s i p))
  unfolding outcome done
  choice_tallied = go (in_count (length ts) i) refl
    where
      go : (a : Bool) → in_count (length ts) i ≡ a
          → let o : Outcome = cond a (acting C (length ts) s.made own (partner_at s p)) (Refused 18) in TalliedAfter kind (beside_by kind b o) (done s i p o)
      go true e = done_tallied (in_count_lem (length ts) i e) (partner_at s p) refl (acting C (length ts) s.made own (partner_at s p)) (acting_leaves C kind by (length ts) s.made own (partner_at s p)).leaves
      go false e = tt
