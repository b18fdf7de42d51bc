-- Offers put into an output, one after the other.
use Prim.Native.Nat.{ℕ, suc, ◌+◌, ◌*◌, ◌-◌, ◌≤◌, ◌<◌}
use mathlib.Core.Path.{◌≡◌, refl, sym, ap, ap₂, ◌∙◌, subst}
use mathlib.Core.Bool.{Bool, true, false, cond, ◌&&◌, and-eq-true_iff}
use mathlib.Core.List.{List, [], ◌∷◌, ◌++◌}
use native.Mathlib.Omega.{arith}
use lib.Dec.{eqb}
use lib.ListN.{length, drop}
use lib.Seq.{sets, paste}
use borrow.Author.Tests.{le-leb, lt-leb, eq-eqb, ne_eqb}
use Rattle.format.specs.Contents.{Contents}
use Rattle.steps.specs.Beside.{thread_count, made_count}
use Rattle.steps.proofs.TableLaws.{threads_length}
use Rattle.rounds.specs.Round.{Taken, refuses, waits, steps}
use Rattle.seats.specs.Seats.{Limited, limited_of, seats_in, SeatedState, seated_choice, follow_seated, seated_run, last_by, last_in}
use Rattle.seats.specs.SeatOrder.{Ordered}
use Rattle.seated.specs.declared.SeatedWent.{SeatedWent}
use Rattle.seated.specs.SeatedLists.{SeatedThrough}
use Rattle.seated.specs.SeatedTables.{lines_in, seated_in}
use Rattle.rows.specs.Rows.{line_words, row_words, stands_at, seated_at, RowFits, Loaded}
use Rattle.rows.specs.Fits.{row_fits}
use Rattle.rows.proofs.FitLaws.{row_fits_iff}
use Rattle.ordering.specs.Order.{in_order}
use Rattle.ordering.proofs.OrderLaws.{tables_ordered}
use Rattle.offering.specs.declared.Noted.{Noted}
use Rattle.offering.proofs.WriteLaws.{copied, joined, row_long}
use Rattle.offering.specs.Offers.{Offer, offer_words, offer_by, partners_offered, threads_offered, Output, output_of, offer_put, offers_put, is_state, Holds}

-- one offer
module _ (roles : ℕ) (n : Noted) (out : List ℕ) (o : Offer) (m : ℕ) (is : m ≡ length (row_words roles o.seating)) where
  pub no_room : length out < n.length + 4 + m → output_of (record { full = true; count = n.count; length = n.length }) out ≡ offer_put roles (output_of n out) o
  unfolding offer_put
  no_room lt =
      let over : length out < n.length + length (offer_words roles o) = omega (arith, lt, is) in
      rw (lt-leb (n.length + length (offer_words roles o)) (length out) over)

  pub has_room : (out' : List ℕ) → n.length + 4 + m ≤ length out → out' ≡ sets out n.length (offer_words roles o)
      → output_of (record { full = false; count = n.count + 1; length = n.length + 4 + m }) out' ≡ offer_put roles (output_of n out) o
  unfolding offer_put
  has_room out' le e =
      let long : n.length + 4 + m ≡ n.length + length (offer_words roles o) = omega (arith, is) in
      let fits : n.length + length (offer_words roles o) ≤ length out = omega (arith, le, is) in
      (λ i. record { full = false; count = n.count + 1; length = long i; out = e i })
      ∙ sym (ap (λ (b : Bool). cond b (record { full = false; count = n.count + 1; length = n.length + length (offer_words roles o); out = sets out n.length (offer_words roles o) })
      (record { full = true; count = n.count; length = n.length; out = out })) (le-leb (n.length + length (offer_words roles o)) (length out) fits))

-- once one has no room, none is put
pub put_full : (roles : ℕ) (B : Output) (os : List Offer) → B.full ≡ true → B ≡ offers_put roles B os
unfolding offers_put
put_full roles B [] e = refl
put_full roles B (o ∷ os) e = sym (ap (λ (b : Bool). cond b B (offers_put roles (offer_put roles B o) os)) e)

pub put_one : (roles : ℕ) (B : Output) (o : Offer) → B.full ≡ false → offer_put roles B o ≡ offers_put roles B (o ∷ [])
unfolding offers_put
put_one roles B o e = sym (ap (λ (b : Bool). cond b B (offer_put roles B o)) e)

pub put_append : (roles : ℕ) (xs : List Offer) (B : Output) (ys : List Offer) → offers_put roles B (xs ++ ys) ≡ offers_put roles (offers_put roles B xs) ys
unfolding offers_put
put_append roles [] B ys = refl
put_append roles (x ∷ xs) B ys = go B.full refl (put_append roles xs (offer_put roles B x) ys)
  where
    go : (b : Bool) → B.full ≡ b → offers_put roles (offer_put roles B x) (xs ++ ys) ≡ offers_put roles (offers_put roles (offer_put roles B x) xs) ys
        → cond b B (offers_put roles (offer_put roles B x) (xs ++ ys)) ≡ offers_put roles (cond b B (offers_put roles (offer_put roles B x) xs)) ys
    go true e ih = put_full roles B ys e
    go false e ih = ih

-- one choice of a run is that choice
module _ (kind : ℕ → ℕ) (L : Limited) (S : SeatedState) (i p : ℕ) (b : List ℕ) (r : SeatedWent) (w' b' os' ls' : List ℕ) (T : SeatedThrough kind L S b (i ∷ p ∷ []) r w' b' os' ls') where
  pub none_done : r.count ≡ 0 → ([] ≡ offer_by i p (seated_choice L S i p)) × (seated_in w' b' os' ls' ≡ S)
  unfolding seated_run
  none_done z = go (seated_choice L S i p) (sym (ap (λ (x : SeatedWent). x.count) T.told) ∙ z) T.state
    where
      go : (a : Taken SeatedState) → (follow_seated S a (λ x. seated_run L x [])).count ≡ 0 → seated_in w' b' os' ls' ≡ (follow_seated S a (λ x. seated_run L x [])).seating
          → ([] ≡ offer_by i p a) × (seated_in w' b' os' ls' ≡ S)
      go (refuses n) e s = (refl, s)
      go (waits x) e s = let no_way : ⊥ = omega (arith, e) in absurd no_way
      go (steps x) e s = let no_way : ⊥ = omega (arith, e) in absurd no_way

  pub one_done : (r.count ≡ 0 → ⊥) → record { thread = i; partner = p; answer = r.last; seating = seated_in w' b' os' ls' } ∷ [] ≡ offer_by i p (seated_choice L S i p)
  unfolding seated_run last_in
  one_done some =
      go (seated_choice L S i p) (λ e. some (ap (λ (x : SeatedWent). x.count) T.told ∙ e)) T.state (ap (λ (x : SeatedWent). x.last) T.told)
    where
      go : (a : Taken SeatedState) → ((follow_seated S a (λ x. seated_run L x [])).count ≡ 0 → ⊥) → seated_in w' b' os' ls' ≡ (follow_seated S a (λ x. seated_run L x [])).seating
          → r.last ≡ last_by a 0 (λ v x. last_in L x v []) → record { thread = i; partner = p; answer = r.last; seating = seated_in w' b' os' ls' } ∷ [] ≡ offer_by i p a
      go (refuses n) e s l = absurd (e refl)
      go (waits x) e s l = λ j. record { thread = i; partner = p; answer = l j; seating = s j } ∷ []
      go (steps x) e s l = λ j. record { thread = i; partner = p; answer = l j; seating = s j } ∷ []

-- partners and threads, as loops try them
module _ (roles : ℕ) (L : Limited) (S : SeatedState) where
  pub partners_turn : (i p n : ℕ) (B B' whole : Output) → p ≤ n → B' ≡ offers_put roles B (offer_by i p (seated_choice L S i p)) → offers_put roles B (partners_offered L S i p (n + 1 - p)) ≡ whole
      → offers_put roles B' (partners_offered L S i (p + 1) (n + 1 - (p + 1))) ≡ whole
  unfolding partners_offered
  partners_turn i p n B B' whole le e inv =
      let some : n + 1 - p ≡ suc (n + 1 - (p + 1)) = omega (arith, le) in
      ap (λ (x : Output). offers_put roles x (partners_offered L S i (p + 1) (n + 1 - (p + 1)))) e
      ∙ sym (put_append roles (offer_by i p (seated_choice L S i p)) B (partners_offered L S i (p + 1) (n + 1 - (p + 1))))
      ∙ sym (ap (λ (x : ℕ). offers_put roles B (partners_offered L S i p x)) some) ∙ inv

  pub partners_end : (i p n : ℕ) (B whole : Output) → n < p → offers_put roles B (partners_offered L S i p (n + 1 - p)) ≡ whole → B ≡ whole
  unfolding partners_offered offers_put
  partners_end i p n B whole lt inv = let none : n + 1 - p ≡ 0 = omega (arith, lt) in rw none at inv

  pub threads_turn : (i n : ℕ) (B B' whole : Output) → i ≤ n → n ≡ length S.state.threads → B' ≡ offers_put roles B (partners_offered L S i 0 (n + 1))
      → offers_put roles B (threads_offered L S i (n + 1 - i)) ≡ whole → offers_put roles B' (threads_offered L S (i + 1) (n + 1 - (i + 1))) ≡ whole
  unfolding threads_offered
  threads_turn i n B B' whole le is e inv =
      let some : n + 1 - i ≡ suc (n + 1 - (i + 1)) = omega (arith, le) in
      ap (λ (x : Output). offers_put roles x (threads_offered L S (i + 1) (n + 1 - (i + 1)))) (e ∙ ap (λ (x : ℕ). offers_put roles B (partners_offered L S i 0 (x + 1))) is)
      ∙ sym (put_append roles (partners_offered L S i 0 (length S.state.threads + 1)) B (threads_offered L S (i + 1) (n + 1 - (i + 1))))
      ∙ sym (ap (λ (x : ℕ). offers_put roles B (threads_offered L S i x)) some) ∙ inv

  pub threads_end : (i n : ℕ) (B whole : Output) → n < i → offers_put roles B (threads_offered L S i (n + 1 - i)) ≡ whole → B ≡ whole
  unfolding threads_offered offers_put
  threads_end i n B whole lt inv = let none : n + 1 - i ≡ 0 = omega (arith, lt) in rw none at inv

-- the tables hold the state again
pub held_again : (L : Limited) (roles : ℕ) (s : List ℕ) (w b os ls w' b' os' ls' : List ℕ) → Holds L (seated_at roles s 0) w b os ls → Loaded roles s 0 w' b' os' ls'
    → Holds L (seated_at roles s 0) w' b' os' ls'
held_again L roles s w b os ls w' b' os' ls' H D = record {
  seated = record { sized = D.sized; owners = D.owners; rows = D.rows; ordered = subst (Ordered L) (H.state ∙ sym D.state) H.seated.ordered };
  state = D.state;
}

-- the lent words by their tests
module _ (C : Contents) (seats s : List ℕ) where
  abbrev S : SeatedState
  S = seated_at (length seats) s 0

  by_tests : (a b c d : Bool) → row_fits (length seats) s 0 ≡ a → eqb (length (row_words (length seats) S)) (length s) ≡ b → stands_at s 0 (row_words (length seats) S) ≡ c
      → in_order (length C.sessions) (seats_in seats) S ≡ d → (a && (b && (c && d))) ≡ is_state C seats s
  unfolding is_state
  by_tests a b c d ea eb ec ed = sym (ap₂ (λ (x y : Bool). x && (y && (stands_at s 0 (row_words (length seats) S) && in_order (length C.sessions) (seats_in seats) S))) ea eb
      ∙ ap₂ (λ (x y : Bool). a && (b && (x && y))) ec ed)

  pub does_not_fit : row_fits (length seats) s 0 ≡ false → false ≡ is_state C seats s
  does_not_fit e = by_tests false _ _ _ e refl refl refl

  module _ (fits : row_fits (length seats) s 0 ≡ true) (w b os ls : List ℕ) (D : Loaded (length seats) s 0 w b os ls) where
    -- the number of words that code counts
    module _ (n : ℕ) (counted : n ≡ 2 + 2 * made_count b + 13 * thread_count b + length (line_words (lines_in ls) 1 (length seats))) where
      is : n ≡ length (row_words (length seats) S)
      is =
          counted ∙ sym (row_long w b os ls D.sized D.owners (length seats) (2 + 2 * made_count b) (thread_count b) refl refl)
          ∙ ap (λ (x : SeatedState). length (row_words (length seats) x)) D.state

      stands_in : stands_at s 0 (row_words (length seats) (seated_in w b os ls)) ≡ stands_at s 0 (row_words (length seats) S)
      stands_in = ap (λ (x : SeatedState). stands_at s 0 (row_words (length seats) x)) D.state

      pub other_length : (n ≡ length s → ⊥) → false ≡ is_state C seats s
      other_length ne = by_tests true false _ _ fits (ne_eqb _ _ (λ e. ne (is ∙ e))) refl refl

      module _ (same : n ≡ length s) where
        whole : eqb (length (row_words (length seats) S)) (length s) ≡ true
        whole = eq-eqb _ _ (sym is ∙ same)

        pub other_words : stands_at s 0 (row_words (length seats) (seated_in w b os ls)) ≡ false → false ≡ is_state C seats s
        other_words e = by_tests true true false _ fits whole (sym stands_in ∙ e) refl

        -- the last test, with the number of sessions as the header has it
        module _ (m : ℕ) (sessions : length C.sessions ≡ m) (d : Bool) (its : d ≡ in_order m (seats_in seats) (seated_in w b os ls)) where
          its_own : d ≡ in_order (length C.sessions) (seats_in seats) (seated_in w b os ls)
          its_own = its ∙ ap (λ (x : ℕ). in_order x (seats_in seats) (seated_in w b os ls)) (sym sessions)

          pub by_order : stands_at s 0 (row_words (length seats) (seated_in w b os ls)) ≡ true → d ≡ is_state C seats s
          by_order e = by_tests true true true d fits whole (sym stands_in ∙ e) (ap (in_order (length C.sessions) (seats_in seats)) (sym D.state) ∙ sym its_own)

          pub order_held : length seats ≤ 16 → d ≡ true → Holds (limited_of C seats) S w b os ls
          order_held few holds = record {
            seated = record { sized = D.sized; owners = D.owners; rows = D.rows; ordered = (tables_ordered C seats few w b os ls).0 (sym its_own ∙ holds) };
            state = D.state;
          }

-- an offer's words: four, and those of the state
pub offer_put_lem : (roles : ℕ) (o : Offer) (m : ℕ) → m ≡ length (row_words roles o.seating) → (l l₁ l₂ : List ℕ) (at : ℕ) → at + 4 ≤ length l
    → l₁ ≡ paste l at (drop 0 (o.thread ∷ o.partner ∷ o.answer ∷ m ∷ [])) 4 → l₂ ≡ sets l₁ (at + 4) (row_words roles o.seating) → l₂ ≡ sets l at (offer_words roles o)
offer_put_lem roles o m is l l₁ l₂ at fits e₁ e₂ =
    joined l l₁ l₂ at (at + 4) (o.thread ∷ o.partner ∷ o.answer ∷ m ∷ []) (row_words roles o.seating)
    (copied l l₁ (o.thread ∷ o.partner ∷ o.answer ∷ m ∷ []) at 0 4 (omega arith) fits e₁) refl e₂
    ∙ ap (λ (x : ℕ). sets l at (o.thread ∷ o.partner ∷ o.answer ∷ x ∷ row_words roles o.seating)) is

-- one choice, from the tables that hold the state
module _ (kind : ℕ → ℕ) (L : Limited) (roles : ℕ) (s : List ℕ) (i p : ℕ) (w b os ls : List ℕ) (H : Holds L (seated_at roles s 0) w b os ls) (r : SeatedWent) (w' b' os' ls' : List ℕ)
    (T : SeatedThrough kind L (seated_in w b os ls) b (i ∷ p ∷ []) r w' b' os' ls') (B : Output) where
  through : SeatedThrough kind L (seated_at roles s 0) b (i ∷ p ∷ []) r w' b' os' ls'
  through = subst (λ (x : SeatedState). SeatedThrough kind L x b (i ∷ p ∷ []) r w' b' os' ls') H.state T

  pub choice_none : r.count ≡ 0 → (B ≡ offers_put roles B (offer_by i p (seated_choice L (seated_at roles s 0) i p))) × Holds L (seated_at roles s 0) w' b' os' ls'
  unfolding offers_put
  choice_none z =
      let (none, same) = none_done kind L (seated_at roles s 0) i p b r w' b' os' ls' through z in
      (ap (offers_put roles B) none, record { seated = T.kept; state = same })

  pub choice_done : (r.count ≡ 0 → ⊥) → B.full ≡ false → (B' : Output)
      → B' ≡ offer_put roles B (record { thread = i; partner = p; answer = r.last; seating = seated_in w' b' os' ls' })
      → B' ≡ offers_put roles B (offer_by i p (seated_choice L (seated_at roles s 0) i p))
  choice_done some free B' e =
      e ∙ put_one roles B (record { thread = i; partner = p; answer = r.last; seating = seated_in w' b' os' ls' }) free
      ∙ ap (offers_put roles B) (one_done kind L (seated_at roles s 0) i p b r w' b' os' ls' through some)

pub held_count : (L : Limited) (S : SeatedState) (w b os ls : List ℕ) → Holds L S w b os ls → (n : ℕ) → n ≡ thread_count b → n ≡ length S.state.threads
held_count L S w b os ls H n is = is ∙ sym (threads_length w 0 (thread_count b)) ∙ ap (λ (x : SeatedState). length x.state.threads) H.state

-- a state's words fit
pub state_fits : (C : Contents) (seats s : List ℕ) → true ≡ is_state C seats s → RowFits (length seats) s 0
unfolding is_state
state_fits C seats s e = (row_fits_iff (length seats) s 0).0 ((and-eq-true_iff (row_fits (length seats) s 0) _).0 (sym e)).0
