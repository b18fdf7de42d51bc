-- Values have the kinds of rule 1: a value has one kind, an operand stands for a value of its kind, and a binder takes the next variable on the path.
use Prim.Native.Nat.{ℕ, zero, suc, ◌+◌, ◌-◌, ◌≤◌, ◌<◌}
use mathlib.Core.Path.{◌≡◌, refl, sym, ap, ◌∙◌, subst}
use mathlib.Core.List.{List, [], ◌∷◌, ◌++◌}
use native.Mathlib.Omega.{arith}
use lib.ListN.{length, get_or, set, length-append, get_or-append}
use lib.Seq.{get_or-append_seam}
use borrow.Author.Tests.{lt-ltb, le-ltb, eq-eqb, ne_eqb}
use Rattle.rules.specs.Schema.{Schema}
use Rattle.rules.specs.Names.{Bound, unbound}
use Rattle.steps.specs.declared.Thread.{Thread}
use Rattle.steps.specs.declared.Made.{Made}
use Rattle.steps.specs.Threads.{no_made, value, first_free}
use Rattle.steps.specs.Choice.{kind_held}
use Rattle.checking_exact.specs.Typing.{HasKind, a_user, a_channel, a_variable}
use Rattle.running_exact.specs.Keeps.{HasValue, a_user as user-value, a_channel as channel-value, a_made, Held}

-- so few users and channels that users, channels and made channels have values apart
pub record Apart (D : Schema) : Type 0 where
  pub users : D.users ≤ 32
  pub channels : D.channels ≤ 64

module _ (D : Schema) where
  -- a value is not 0
  value_some : (made : List Made) (v k : ℕ) → HasValue D made v k → 1 ≤ v
  value_some made v k (user-value c e) = c.0
  value_some made v k (channel-value c n e f) = omega arith
  value_some made v k (a_made c n e f) = omega arith

  -- the first variable that is 0 is the next on the path
  pub held_free : (made : List Made) (bs : List Bound) (vs : List ℕ) → Held D made bs vs → first_free vs ≡ length bs
  unfolding first_free
  held_free made [] [] h = refl
  held_free made [] (v ∷ vs) h = rw (eq-eqb v 0 h.0)
  held_free made (b ∷ bs) [] h = absurd h
  held_free made (b ∷ bs) (v ∷ vs) h =
      rw (ne_eqb v 0 (λ z. omega (arith, value_some made v b.sort h.0))) (ap suc (held_free made bs vs h.1))

module _ (D : Schema) (S : Apart D) where
  -- the kind computed is the kind had
  pub kind_held_lem : (made : List Made) (v k : ℕ) → HasValue D made v k → kind_held D made v ≡ k
  unfolding kind_held
  kind_held_lem made v k (user-value c e) = rw (lt-ltb v 257 (omega (arith, S.users))) (sym e)
  kind_held_lem made v k (channel-value c n e f) =
      let d : v - 256 ≡ c = omega arith in
      rw (le-ltb v 257 (omega arith), lt-ltb v 385 (omega (arith, S.channels)), d) (sym f)
  kind_held_lem made v k (a_made c n e f) =
      let d : v - 385 ≡ c - 1 = omega arith in
      rw (le-ltb v 257 (omega arith), le-ltb v 385 (omega arith), d) (sym f)

  -- another made channel changes no value
  value_more : (made : List Made) (m : Made) (v k : ℕ) → HasValue D made v k → HasValue D (made ++ (m ∷ [])) v k
  value_more made m v k (user-value c e) = user-value c e
  value_more made m v k (channel-value c n e f) = channel-value c n e f
  value_more made m v k (a_made c n e f) =
      let l : c - 1 < length made = omega arith in
      a_made c (n.0, omega (arith, length-append made (m ∷ []))) e (f ∙ ap (λ (x : Made). x.kind.0) (sym (get_or-append made (m ∷ []) no_made (c - 1) l)))

  -- the new one's value
  pub value_made : (made : List Made) (m : Made) → HasValue D (made ++ (m ∷ [])) (385 + length made) m.kind.0
  value_made made m =
      let d : length made ≡ suc (length made) - 1 = omega arith in
      a_made (suc (length made)) (omega arith, omega (arith, length-append made (m ∷ []))) (omega arith)
      (subst (λ (j : ℕ). m.kind.0 ≡ (get_or (made ++ (m ∷ [])) j no_made).kind.0) d (ap (λ (x : Made). x.kind.0) (sym (get_or-append_seam made m [] no_made))))

  -- nor what a thread holds
  pub held_more : (made : List Made) (m : Made) (bs : List Bound) (vs : List ℕ) → Held D made bs vs → Held D (made ++ (m ∷ [])) bs vs
  held_more made m [] [] h = tt
  held_more made m [] (v ∷ vs) h = (h.0, held_more made m [] vs h.1)
  held_more made m (b ∷ bs) [] h = absurd h
  held_more made m (b ∷ bs) (v ∷ vs) h = (value_more made m v b.sort h.0, held_more made m bs vs h.1)

  held_at : (made : List Made) (bs : List Bound) (vs : List ℕ) (i : ℕ) → i < length bs → Held D made bs vs
      → HasValue D made (get_or vs i 0) (get_or bs i unbound).sort
  held_at made [] vs i l h = absurd (omega arith)
  held_at made (b ∷ bs) [] i l h = absurd h
  held_at made (b ∷ bs) (v ∷ vs) zero l h = h.0
  held_at made (b ∷ bs) (v ∷ vs) (suc i) l h = held_at made bs vs i (omega arith) h.1

  -- a variable bound
  pub held_bound : (made : List Made) (bs : List Bound) (vs : List ℕ) (b : Bound) (v : ℕ) → length bs < length vs → HasValue D made v b.sort
      → Held D made bs vs → Held D made (bs ++ (b ∷ [])) (set vs (length bs) v)
  held_bound made [] [] b v l p h = absurd (omega arith)
  held_bound made [] (w ∷ vs) b v l p h = (p, h.1)
  held_bound made (c ∷ bs) [] b v l p h = absurd h
  held_bound made (c ∷ bs) (w ∷ vs) b v l p h = (h.0, held_bound made bs vs b v (omega arith) p h.1)

  -- an operand stands for a value of the operand's kind
  pub operand_value : (made : List Made) (bs : List Bound) (t : Thread) (x k : ℕ) → Held D made bs t.vars → HasKind D bs x k → HasValue D made (value t x) k
  unfolding value
  operand_value made bs t x k h (a_user c e) = rw (lt-ltb x 512 (omega (arith, S.users))) (user-value c e)
  operand_value made bs t x k h (a_channel c n e f) = rw (lt-ltb x 512 (omega (arith, S.channels))) (channel-value c n e f)
  operand_value made bs t x k h (a_variable i l e f) =
      let d : x - 512 ≡ i = omega arith in
      rw (le-ltb x 512 (omega arith), d, f) (held_at made bs t.vars i l h)
