-- Two threads meet exactly where the one may send on what the other may receive on. Tables of what threads may work on, as code fills and asks them.
use Prim.Native.Nat.{ℕ, zero, suc, ◌+◌, ◌*◌, ◌≤◌, ◌<◌}
use mathlib.Core.Path.{◌≡◌, refl, sym, ap, ◌∙◌}
use mathlib.Core.Bool.{Bool, true, false, cond, not, ◌&&◌, ◌||◌, false≢true, and-eq-true_iff}
use mathlib.Core.List.{List, [], ◌∷◌}
use native.Mathlib.Omega.{arith}
use native.Mathlib.Numerals.{add-one}
use lib.Bits.{bit_and, bit_or, and_zero_r, or_zero_r, and_le_l, or_add_and}
use lib.Dec.{eqb, ltb, eqb-zero-suc}
use lib.ListN.{length, get_or, set, drop, drop_of_length-le}
use lib.Seq.{drop-cons, get_or-set_same, get_or-set_other}
use mir.Val.{bool_byte}
use borrow.Author.Tests.{eqb-true, eqb-false, eq-eqb, ne_eqb, ltb-true, ltb-false}
use Rattle.format.specs.Contents.{Contents, in_count, item, no_node}
use Rattle.format.specs.declared.Node.{Node}
use Rattle.format.proofs.BoolLaws.{or_fails}
use Rattle.format.proofs.ContentsLaws.{in_count_iff, item_zero, item_past}
use Rattle.masks.specs.Mask.{has}
use Rattle.rules.specs.Schema.{Schema, permits, permitting_to}
use Rattle.rules.specs.Rules.{able}
use Rattle.rules.specs.Kept.{Granting}
use Rattle.rules.specs.declared.Way.{Way}
use Rattle.rules.specs.declared.Way.TheVariants.{Sends, Receives}
use Rattle.steps.specs.declared.Thread.{Thread}
use Rattle.steps.specs.declared.Made.{Made}
use Rattle.steps.specs.declared.Outcome.TheVariants.{Refused, Meets}
use Rattle.steps.specs.declared.Partner.TheVariants.{With}
use Rattle.steps.specs.Threads.{value, onward, bound}
use Rattle.steps.specs.Choice.{Clinic, clinic_of, kind_held, is_allowed, meeting, sending, lone, alone_only, acting}
use Rattle.steps.specs.Records.{thread_in}
use Rattle.running.specs.Run.{is_meeting}
use Rattle.running.specs.Ways.{stands_at, works_on, out_of, in_of, alike, OfEach, stands_in}

-- no role permits a step on the kind 0, so none on what is 0
no_kind : (D : Schema) (way : Way) (n : ℕ) → permitting_to D way (record { 0 = 0 }) n ≡ 0
unfolding permitting_to permits has
no_kind D way zero = refl
no_kind D way (suc n) = no_kind D way n

allowed_some : (C : Clinic) (made : List Made) (t : Thread) (way : Way) (x : ℕ) → is_allowed C made t way x ≡ true → value t x ≡ 0 → ⊥
unfolding able kind_held
allowed_some C made t way x h e =
    let none : is_allowed C made t way x ≡ false = rw (e, no_kind C.schema way C.schema.roles, and_zero_r t.mask) in
    false≢true (sym none ∙ h)

-- a thread that is at no send meets none, and none meets one that is at no receive
module _ (C : Clinic) (n : ℕ) (made : List Made) (t r : Thread) where
  meets_none : stands_at C 6 t ≡ false → is_meeting (acting C n made t (With r)) ≡ false
  unfolding acting alone_only
  meets_none = go (in_count C.nodes t.node) (eqb (C.node t.node).tag 6) (eqb (C.node t.node).tag 5)
    where
      go : (x y z : Bool) → x && y ≡ false
          → is_meeting (cond x (cond y (sending C made t (C.node t.node) (With r)) (cond z (Refused 18) (alone_only (With r) (lone C n (length made) t (C.node t.node))))) (Refused 18)) ≡ false
      go false y z e = refl
      go true false true e = refl
      go true false false e = refl
      go true true z e = absurd (false≢true (sym e))

  meets_no_receive : stands_at C 5 r ≡ false → is_meeting (acting C n made t (With r)) ≡ false
  unfolding acting alone_only sending
  meets_no_receive e = rw e (go (in_count C.nodes t.node) (eqb (C.node t.node).tag 6) (eqb (C.node t.node).tag 5))
    where
      go : (x y z : Bool) → is_meeting (cond x (cond y (Refused 18) (cond z (Refused 18) (Refused 18))) (Refused 18)) ≡ false
      go false y z = refl
      go true true z = refl
      go true false true = refl
      go true false false = refl

  meets_meeting : stands_at C 6 t ≡ true → stands_at C 5 r ≡ true
      → is_meeting (acting C n made t (With r)) ≡ is_meeting (meeting C made t (C.node t.node) r (C.node r.node))
  unfolding acting sending
  meets_meeting e f =
      let (x, y) = (and-eq-true_iff (in_count C.nodes t.node) (eqb (C.node t.node).tag 6)).0 e in
      rw (x, y, f)

-- a send with a receive
meeting_ways : (C : Clinic) (made : List Made) (t : Thread) (n : Node) (r : Thread) (m : Node)
    → is_meeting (meeting C made t n r m)
    ≡ alike (works_on C made Sends t n.f1) (works_on C made Receives r m.f1)
unfolding meeting
meeting_ways C made t n r m = go (is_allowed C made t Sends n.f1) (is_allowed C made r Receives m.f1) refl refl
  where
    same : (c : Bool) → is_meeting (cond c (Meets (record { first = onward t; second = bound r (value t n.f2) })) (Refused 19)) ≡ c
    same true = refl
    same false = refl

    go : (a b : Bool) → is_allowed C made t Sends n.f1 ≡ a → is_allowed C made r Receives m.f1 ≡ b
        → is_meeting (meeting C made t n r m)
        ≡ alike (works_on C made Sends t n.f1) (works_on C made Receives r m.f1)
    go false b e f = rw e
    go true false e f = rw (e, f, ne_eqb (value t n.f1) 0 (allowed_some C made t Sends n.f1 e))
    go true true e f =
        rw (e, f, ne_eqb (value t n.f1) 0 (allowed_some C made t Sends n.f1 e)) (same (eqb (value t n.f1) (value r m.f1)))

pub ways_meet : (C : Clinic) (n : ℕ) (made : List Made) (t r : Thread)
    → is_meeting (acting C n made t (With r)) ≡ alike (out_of C made t) (in_of C made r)
unfolding out_of in_of
ways_meet C n made t r = go (stands_at C 6 t) (stands_at C 5 r) refl refl
  where
    never : (b : Bool) → false ≡ (not b && b)
    never true = refl
    never false = refl

    go : (p q : Bool) → stands_at C 6 t ≡ p → stands_at C 5 r ≡ q
        → is_meeting (acting C n made t (With r)) ≡ alike (out_of C made t) (in_of C made r)
    go false q e f = meets_none C n made t r e ∙ rw e
    go true false e f = meets_no_receive C n made t r f ∙ rw (e, f) (never (eqb (works_on C made Sends t (C.node t.node).f1) 0))
    go true true e f = meets_meeting C n made t r e f ∙ meeting_ways C made t (C.node t.node) r (C.node r.node) ∙ rw (e, f)

-- a thread at no node is at nothing, so that the tag alone tells where it stands
stands_by_tag : (ns : List Node) (j k : ℕ) → (in_count (length ns) j && eqb (item no_node ns j).tag (suc k)) ≡ eqb (item no_node ns j).tag (suc k)
stands_by_tag ns j k = go (in_count (length ns) j) refl
  where
    past : in_count (length ns) j ≡ false → item no_node ns j ≡ no_node
    past e = by (ltb (length ns) j) (eqb j 0) refl refl
      where
        by : (p q : Bool) → ltb (length ns) j ≡ p → eqb j 0 ≡ q → item no_node ns j ≡ no_node
        by true q f g = item_past no_node ns j (ltb-true (length ns) j f)
        by false true f g = ap (item no_node ns) (eqb-true j 0 g) ∙ item_zero no_node ns
        by false false f g =
            absurd (false≢true (sym e ∙ (in_count_iff (length ns) j).1 (omega (arith, eqb-false j 0 g), omega (arith, ltb-false (length ns) j f))))

    go : (b : Bool) → in_count (length ns) j ≡ b → (b && eqb (item no_node ns j).tag (suc k)) ≡ eqb (item no_node ns j).tag (suc k)
    go true e = refl
    go false e = rw (past e) (sym (eqb-zero-suc k))

-- what a thread may work on, as code asks the kind's grant, then the node's tag
pub worked_on : (D : Schema) (made : List Made) (l : List ℕ) (m k over v : ℕ) (p b : Bool)
    → over ≡ v → k ≡ kind_held D made over → p ≡ not (eqb (bit_and m (get_or l k 0)) 0) → p ≡ b
    → cond b over 0 ≡ cond (not (eqb (bit_and m (get_or l (kind_held D made v) 0)) 0)) v 0
worked_on D made l m k over v p b e f g h = rw (← e, ← f, ← g, h)

module _ (C : Clinic) (made : List Made) (t : Thread) (way : Way) (l : List ℕ) (n : Node) (tag : ℕ) where
  pub way_elsewhere : (n.tag ≡ tag → ⊥) → 0 ≡ cond (eqb n.tag tag) (works_on C made way t n.f1) 0
  way_elsewhere d = rw (ne_eqb n.tag tag d)

  pub way_there : (r : ℕ) → n.tag ≡ tag → Granting C.schema way l
      → r ≡ cond (not (eqb (bit_and t.mask (get_or l (kind_held C.schema made (value t n.f1)) 0)) 0)) (value t n.f1) 0
      → r ≡ cond (eqb n.tag tag) (works_on C made way t n.f1) 0
  unfolding able
  way_there r e g h = rw (eq-eqb n.tag tag e, ← g (kind_held C.schema made (value t n.f1))) h

module _ (F : Contents) (made : List Made) (t : Thread) (n : Node) (r : ℕ) where
  pub out_held : n ≡ item no_node F.nodes t.node → r ≡ cond (eqb n.tag 6) (works_on (clinic_of F) made Sends t n.f1) 0 → r ≡ out_of (clinic_of F) made t
  unfolding out_of
  out_held e h = rw (stands_by_tag F.nodes t.node 5, ← e) h

  pub in_held : n ≡ item no_node F.nodes t.node → r ≡ cond (eqb n.tag 5) (works_on (clinic_of F) made Receives t n.f1) 0 → r ≡ in_of (clinic_of F) made t
  unfolding in_of
  in_held e h = rw (stands_by_tag F.nodes t.node 4, ← e) h

-- whether it may receive on a value, by the node's tag, what the operand stands for, and then the kind's grant
module _ (F : Contents) (made : List Made) (t : Thread) (n : Node) (over : ℕ) (some : over ≡ 0 → ⊥) (at : n ≡ item no_node F.nodes t.node) where
  abbrev works : ℕ
  works = works_on (clinic_of F) made Receives t n.f1

  in_is : in_of (clinic_of F) made t ≡ cond (eqb n.tag 5) works 0
  in_is = sym (in_held F made t n (cond (eqb n.tag 5) works 0) at refl)

  pub over_elsewhere : (n.tag ≡ 5 → ⊥) → false ≡ eqb over (in_of (clinic_of F) made t)
  over_elsewhere d = sym (ap (eqb over) (in_is ∙ rw (ne_eqb n.tag 5 d)) ∙ ne_eqb over 0 some)

  in-there : n.tag ≡ 5 → in_of (clinic_of F) made t ≡ works
  in-there e = in_is ∙ rw (eq-eqb n.tag 5 e)

  pub over_other : (v : ℕ) → n.tag ≡ 5 → v ≡ value t n.f1 → (v ≡ over → ⊥) → false ≡ eqb over (in_of (clinic_of F) made t)
  over_other v e q d = go (is_allowed (clinic_of F) made t Receives n.f1) refl
    where
      go : (b : Bool) → is_allowed (clinic_of F) made t Receives n.f1 ≡ b → false ≡ eqb over (in_of (clinic_of F) made t)
      go true a = sym (ap (eqb over) (in-there e ∙ rw a (sym q)) ∙ ne_eqb over v (λ z. d (sym z)))
      go false a = sym (ap (eqb over) (in-there e ∙ rw a) ∙ ne_eqb over 0 some)

  pub over_there : (l : List ℕ) (v k : ℕ) (p : Bool) → n.tag ≡ 5 → v ≡ value t n.f1 → v ≡ over → Granting (clinic_of F).schema Receives l
      → k ≡ kind_held (clinic_of F).schema made over → p ≡ not (eqb (bit_and t.mask (get_or l k 0)) 0) → p ≡ eqb over (in_of (clinic_of F) made t)
  unfolding able
  over_there l v k p e q same g ek ep =
      let is : over ≡ value t n.f1 = sym same ∙ q in
      let allowed : p ≡ is_allowed (clinic_of F) made t Receives n.f1 = ep ∙ rw (ek, g (kind_held (clinic_of F).schema made over), is) in
      go p refl ∙ ap (λ (b : Bool). eqb over (cond b over 0)) allowed ∙ ap (λ (x : ℕ). eqb over (cond (is_allowed (clinic_of F) made t Receives n.f1) x 0)) is ∙ ap (eqb over) (sym (in-there e))
    where
      go : (b : Bool) → p ≡ b → b ≡ eqb over (cond b over 0)
      go true z = sym (eq-eqb over over refl)
      go false z = sym (ne_eqb over 0 some)

-- a table with a word of one thread more
pub each_more : (word : Thread → ℕ) (w l : List ℕ) (i v : ℕ) → i < length l → v ≡ word (thread_in w (12 * i)) → OfEach word w i l → OfEach word w (i + 1) (set l i v)
each_more word w l i v h e f k b = go (eqb k i) refl
  where
    go : (x : Bool) → eqb k i ≡ x → get_or (set l i v) k 0 ≡ word (thread_in w (12 * k))
    go true q = let s : k ≡ i = eqb-true k i q in rw s (get_or-set_same l i v 0 h ∙ e)
    go false q = let d : k ≡ i → ⊥ = eqb-false k i q in get_or-set_other l i k v 0 d ∙ f k (omega (arith, d))

-- a word stands in a table: looked for from k on, and then by index
some_or : (a : ℕ) (b : Bool) → not (eqb (bit_or a (bool_byte b)) 0) ≡ (not (eqb a 0) || b)
some_or a true =
    let some : bit_or a 1 ≡ 0 → ⊥ = λ e. omega (arith, or_add_and a 1, and_le_l a 1, e) in
    rw (ne_eqb (bit_or a 1) 0 some) (go (eqb a 0))
  where
    go : (x : Bool) → true ≡ (not x || true)
    go true = refl
    go false = refl
some_or a false = rw (or_zero_r a) (go (eqb a 0))
  where
    go : (x : Bool) → not x ≡ (not x || false)
    go true = refl
    go false = refl

pub stands_turn : (l : List ℕ) (x k found : ℕ) → k < length l
    → (not (eqb (bit_or found (bool_byte (eqb (get_or l k 0) x))) 0) || stands_in x (drop (k + 1) l)) ≡ (not (eqb found 0) || stands_in x (drop k l))
unfolding stands_in
stands_turn l x k found h =
    rw (some_or found (eqb (get_or l k 0) x), drop-cons l k 0 h, add-one k) (go (eqb found 0))
  where
    go : (p : Bool) → ((not p || eqb (get_or l k 0) x) || stands_in x (drop (suc k) l)) ≡ (not p || (eqb (get_or l k 0) x || stands_in x (drop (suc k) l)))
    go true = refl
    go false = refl

pub stands_end : (l : List ℕ) (x k : ℕ) (b : Bool) → length l ≤ k → (b || stands_in x (drop k l)) ≡ b
unfolding stands_in
stands_end l x k b h = rw (drop_of_length-le l {i = k} h) (go b)
  where
    go : (p : Bool) → (p || false) ≡ p
    go true = refl
    go false = refl

pub stands_not : (l : List ℕ) (x k : ℕ) → stands_in x l ≡ false → k < length l → eqb (get_or l k 0) x ≡ false
unfolding stands_in
stands_not [] x k e h = absurd (omega arith)
stands_not (y ∷ ys) x zero e h = (or_fails (eqb y x) (stands_in x ys) e).0
stands_not (y ∷ ys) x (suc k) e h = stands_not ys x k (or_fails (eqb y x) (stands_in x ys) e).1 (omega arith)
