-- The offers of a state are its choices that are done.
use Prim.Native.Nat.{ℕ, zero, suc, ◌+◌, ◌*◌, ◌≤◌, ◌<◌}
use mathlib.Core.Path.{◌≡◌, refl, sym, ap, ap₂, ◌∙◌, subst}
use mathlib.Core.Logic.{◌⊎◌, inl, inr, ◌↔◌}
use mathlib.Core.Bool.{Bool, true, false}
use mathlib.Core.List.Memᴰ
use mathlib.Core.List.{List, [], ◌∷◌, ◌++◌, Memᴰ}
use native.Mathlib.Omega.{arith}
use lib.Dec.{eqb, ltb}
use lib.ListN.{length}
use borrow.Author.Tests.{eqb-true, eqb-false, ltb-true, ltb-false}
use Rattle.format.specs.Contents.{contents_of}
use Rattle.reading_exact.specs.Lists.{All}
use Rattle.reading_exact.proofs.AllLaws.{all_append}
use Rattle.rounds.specs.Round.{Taken, refuses, waits, steps}
use Rattle.schedules.specs.Tables.{Yields, Refuses}
use Rattle.seats.specs.Seats.{Limited, limited_of, SeatedState, seated_choice, SeatedRan, follow_seated, seated_run, last_by, last_in, seated_start, seated_ran_of}
use Rattle.seats.specs.SeatOrder.{AnswerWord}
use Rattle.certifying_exact.proofs.ChoiceBounds.{seated_threads, seated_refuses_unknown}
use Rattle.offering.specs.Offers.{Offer, offer_by, partners_offered, threads_offered, offers_of}
use Rattle.offering_exact.specs.Offered.{IsOffer, Before, Ascending, DoesNext}

-- what one choice offers
abbrev By : ℕ → ℕ → Taken SeatedState → Offer → Type 0
By i p a o = (o.thread ≡ i) × (o.partner ≡ p) × (AnswerWord a o.answer × Yields a o.seating)

by_to : (i p : ℕ) (a : Taken SeatedState) (o : Offer) → Memᴰ o (offer_by i p a) → By i p a o
by_to i p (refuses n) o m = absurd (Memᴰ.not-nil m)
by_to i p (waits T) o m =
    let e = Memᴰ.eq_of_singleton m in
    (ap (λ (x : Offer). x.thread) e, ap (λ (x : Offer). x.partner) e, (ap (λ (x : Offer). x.answer) e, sym (ap (λ (x : Offer). x.seating) e)))
by_to i p (steps T) o m =
    let e = Memᴰ.eq_of_singleton m in
    (ap (λ (x : Offer). x.thread) e, ap (λ (x : Offer). x.partner) e, (ap (λ (x : Offer). x.answer) e, sym (ap (λ (x : Offer). x.seating) e)))

by_from : (i p : ℕ) (a : Taken SeatedState) (o : Offer) → By i p a o → Memᴰ o (offer_by i p a)
by_from i p (refuses n) o (et, ep, (w, y)) = absurd w
by_from i p (waits T) o (et, ep, (w, y)) = Memᴰ.head (λ j. record { thread = et j; partner = ep j; answer = w j; seating = sym y j })
by_from i p (steps T) o (et, ep, (w, y)) = Memᴰ.head (λ j. record { thread = et j; partner = ep j; answer = w j; seating = sym y j })

module _ (L : Limited) (S : SeatedState) where
  -- an offer of thread i with a partner from p on, and one of a thread from i on
  abbrev OfThread : ℕ → ℕ → ℕ → Offer → Type 0
  OfThread i p n o = (o.thread ≡ i) × (p ≤ o.partner) × (o.partner < p + n) × IsOffer L S o

  partners_to : (i p n : ℕ) (o : Offer) → Memᴰ o (partners_offered L S i p n) → OfThread i p n o
  unfolding partners_offered
  partners_to i p zero o m = absurd (Memᴰ.not-nil m)
  partners_to i p (suc n) o m = go (Memᴰ.append_cases (offer_by i p (seated_choice L S i p)) m) (partners_to i (p + 1) n o)
    where
      go : Memᴰ o (offer_by i p (seated_choice L S i p)) ⊎ Memᴰ o (partners_offered L S i (p + 1) n) → (Memᴰ o (partners_offered L S i (p + 1) n) → OfThread i (p + 1) n o) → OfThread i p (suc n) o
      go (inl h) ih =
          let (et, ep, is) = by_to i p (seated_choice L S i p) o h in (
            et,
            omega (arith, ep),
            omega (arith, ep),
            subst (λ (x : ℕ). AnswerWord (seated_choice L S x o.partner) o.answer × Yields (seated_choice L S x o.partner) o.seating) (sym et)
                (subst (λ (x : ℕ). AnswerWord (seated_choice L S i x) o.answer × Yields (seated_choice L S i x) o.seating) (sym ep) is),
          )
      go (inr h) ih = let (et, low, high, is) = ih h in (et, omega (arith, low), omega (arith, high), is)

  partners_from : (i p n : ℕ) (o : Offer) → OfThread i p n o → Memᴰ o (partners_offered L S i p n)
  unfolding partners_offered
  partners_from i p zero o h = let no_way : ⊥ = omega (arith, h.1, h.2) in absurd no_way
  partners_from i p (suc n) o h = go (eqb o.partner p) refl (partners_from i (p + 1) n o)
    where
      go : (b : Bool) → eqb o.partner p ≡ b → (OfThread i (p + 1) n o → Memᴰ o (partners_offered L S i (p + 1) n)) → Memᴰ o (offer_by i p (seated_choice L S i p) ++ partners_offered L S i (p + 1) n)
      go true e ih =
          let ep : o.partner ≡ p = eqb-true o.partner p e in
          Memᴰ.append_left (partners_offered L S i (p + 1) n) (by_from i p (seated_choice L S i p) o (
            h.0,
            ep,
            subst (λ (x : ℕ). AnswerWord (seated_choice L S i x) o.answer × Yields (seated_choice L S i x) o.seating) ep
                (subst (λ (x : ℕ). AnswerWord (seated_choice L S x o.partner) o.answer × Yields (seated_choice L S x o.partner) o.seating) h.0 h.3),
          ))
      go false e ih = Memᴰ.append_right (offer_by i p (seated_choice L S i p)) (ih (h.0, omega (arith, h.1, eqb-false o.partner p e), omega (arith, h.2), h.3))

  abbrev n_threads : ℕ
  n_threads = length S.state.threads

  abbrev FromThread : ℕ → ℕ → Offer → Type 0
  FromThread i n o = (i ≤ o.thread) × (o.thread < i + n) × (o.partner ≤ n_threads) × IsOffer L S o

  threads_to : (i n : ℕ) (o : Offer) → Memᴰ o (threads_offered L S i n) → FromThread i n o
  unfolding threads_offered
  threads_to i zero o m = absurd (Memᴰ.not-nil m)
  threads_to i (suc n) o m = go (Memᴰ.append_cases (partners_offered L S i 0 (n_threads + 1)) m) (threads_to (i + 1) n o)
    where
      go : Memᴰ o (partners_offered L S i 0 (n_threads + 1)) ⊎ Memᴰ o (threads_offered L S (i + 1) n) → (Memᴰ o (threads_offered L S (i + 1) n) → FromThread (i + 1) n o) → FromThread i (suc n) o
      go (inl h) ih = let (et, low, high, is) = partners_to i 0 (n_threads + 1) o h in (omega (arith, et), omega (arith, et), omega (arith, high), is)
      go (inr h) ih = let (low, high, few, is) = ih h in (omega (arith, low), omega (arith, high), few, is)

  threads_from : (i n : ℕ) (o : Offer) → FromThread i n o → Memᴰ o (threads_offered L S i n)
  unfolding threads_offered
  threads_from i zero o h = let no_way : ⊥ = omega (arith, h.0, h.1) in absurd no_way
  threads_from i (suc n) o h = go (eqb o.thread i) refl (threads_from (i + 1) n o)
    where
      go : (b : Bool) → eqb o.thread i ≡ b → (FromThread (i + 1) n o → Memᴰ o (threads_offered L S (i + 1) n)) → Memᴰ o (partners_offered L S i 0 (n_threads + 1) ++ threads_offered L S (i + 1) n)
      go true e ih = Memᴰ.append_left (threads_offered L S (i + 1) n) (partners_from i 0 (n_threads + 1) o (eqb-true o.thread i e, omega arith, omega (arith, h.2), h.3))
      go false e ih = Memᴰ.append_right (partners_offered L S i 0 (n_threads + 1)) (ih (omega (arith, h.0, eqb-false o.thread i e), omega (arith, h.1), h.2, h.3))

  -- a choice that is done names threads of the state
  done_not_refused : (a : Taken SeatedState) (w : ℕ) → AnswerWord a w → Refuses a → ⊥
  done_not_refused (refuses n) w done r = done
  done_not_refused (waits T) w done r = r
  done_not_refused (steps T) w done r = r

  numbered : (o : Offer) → IsOffer L S o → (1 ≤ o.thread) × (o.thread ≤ n_threads) × (o.partner ≤ n_threads)
  numbered o (w, y) = (go (ltb 0 o.thread) refl, most (ltb n_threads o.thread) refl, few (ltb n_threads o.partner) refl)
    where
      out : (o.thread ≡ 0) ⊎ ((n_threads < o.thread) ⊎ (n_threads < o.partner)) → ⊥
      out h = done_not_refused (seated_choice L S o.thread o.partner) o.answer w (seated_refuses_unknown L S o.thread o.partner h)

      go : (b : Bool) → ltb 0 o.thread ≡ b → 1 ≤ o.thread
      go true e = ltb-true 0 o.thread e
      go false e = let z : o.thread ≡ 0 = omega (arith, ltb-false 0 o.thread e) in absurd (out (inl z))

      most : (b : Bool) → ltb n_threads o.thread ≡ b → o.thread ≤ n_threads
      most true e = absurd (out (inr (inl (ltb-true n_threads o.thread e))))
      most false e = ltb-false n_threads o.thread e

      few : (b : Bool) → ltb n_threads o.partner ≡ b → o.partner ≤ n_threads
      few true e = absurd (out (inr (inr (ltb-true n_threads o.partner e))))
      few false e = ltb-false n_threads o.partner e

  -- The offers are the choices that are done, whatever their numbers.
  pub offered_exactly : (o : Offer) → Memᴰ o (offers_of L S) ↔ IsOffer L S o
  offered_exactly o = (
    (λ m. (threads_to 1 n_threads o m).3),
    λ is. let (one, most, few) = numbered o is in threads_from 1 n_threads o (one, omega (arith, most), few, is),
  )

  -- their order
  before_all : (o : Offer) (os : List Offer) → ((q : Offer) → Memᴰ q os → Before o q) → All (Before o) os
  before_all o [] h = tt
  before_all o (q ∷ os) h = (h q (Memᴰ.head refl), before_all o os (λ x m. h x (Memᴰ.tail m)))

  joined_order : (xs ys : List Offer) → Ascending xs → Ascending ys → ((x y : Offer) → Memᴰ x xs → Memᴰ y ys → Before x y) → Ascending (xs ++ ys)
  joined_order [] ys a b h = b
  joined_order (x ∷ xs) ys (first, rest) b h =
      (all_append (Before x) xs ys first (before_all x ys (λ y m. h x y (Memᴰ.head refl) m)), joined_order xs ys rest b (λ u v m n. h u v (Memᴰ.tail m) n))

  one_order : (i p : ℕ) (a : Taken SeatedState) → Ascending (offer_by i p a)
  one_order i p (refuses n) = tt
  one_order i p (waits T) = (tt, tt)
  one_order i p (steps T) = (tt, tt)

  partners_order : (i p n : ℕ) → Ascending (partners_offered L S i p n)
  unfolding partners_offered
  partners_order i p zero = tt
  partners_order i p (suc n) =
      joined_order (offer_by i p (seated_choice L S i p)) (partners_offered L S i (p + 1) n) (one_order i p (seated_choice L S i p)) (partners_order i (p + 1) n)
      (λ x y m k.
      let (ex, ep, is) = by_to i p (seated_choice L S i p) x m in
      let (ey, low, high, its) = partners_to i (p + 1) n y k in
      inr (ex ∙ sym ey, omega (arith, ep, low)))

  threads_order : (i n : ℕ) → Ascending (threads_offered L S i n)
  unfolding threads_offered
  threads_order i zero = tt
  threads_order i (suc n) =
      joined_order (partners_offered L S i 0 (n_threads + 1)) (threads_offered L S (i + 1) n) (partners_order i 0 (n_threads + 1)) (threads_order (i + 1) n)
      (λ x y m k.
      let (ex, lx, hx, is) = partners_to i 0 (n_threads + 1) x m in
      let (low, high, few, its) = threads_to (i + 1) n y k in
      inl (omega (arith, ex, low)))

  pub offered_in_order : Ascending (offers_of L S)
  offered_in_order = threads_order 1 n_threads

-- one more choice after a list whose choices are all done
module _ (L : Limited) where
  pub run_more : (ws : List ℕ) (S : SeatedState) (vs : List ℕ) → length ws ≡ 2 * (seated_run L S ws).count
      → ((seated_run L S (ws ++ vs)).count ≡ (seated_run L S ws).count + (seated_run L (seated_run L S ws).seating vs).count)
      × ((seated_run L S (ws ++ vs)).seating ≡ (seated_run L (seated_run L S ws).seating vs).seating)
  unfolding seated_run
  run_more [] S vs e = let z : (seated_run L S vs).count ≡ 0 + (seated_run L S vs).count = omega arith in (z, refl)
  run_more (i ∷ []) S vs e = let no_way : ⊥ = omega (arith, e) in absurd no_way
  run_more (i ∷ p ∷ ws) S vs e = go (seated_choice L S i p) e (run_more ws)
    where
      go : (a : Taken SeatedState) → length (i ∷ p ∷ ws) ≡ 2 * (follow_seated S a (λ x. seated_run L x ws)).count
          → ((x : SeatedState) (vs : List ℕ) → length ws ≡ 2 * (seated_run L x ws).count
          → ((seated_run L x (ws ++ vs)).count ≡ (seated_run L x ws).count + (seated_run L (seated_run L x ws).seating vs).count)
          × ((seated_run L x (ws ++ vs)).seating ≡ (seated_run L (seated_run L x ws).seating vs).seating))
          → ((follow_seated S a (λ x. seated_run L x (ws ++ vs))).count ≡ (follow_seated S a (λ x. seated_run L x ws)).count + (seated_run L (follow_seated S a (λ x. seated_run L x ws)).seating vs).count)
          × ((follow_seated S a (λ x. seated_run L x (ws ++ vs))).seating ≡ (seated_run L (follow_seated S a (λ x. seated_run L x ws)).seating vs).seating)
      go (refuses n) h ih = let no_way : ⊥ = omega (arith, h) in absurd no_way
      go (waits x) h ih = let (c, s) = ih x vs (omega (arith, h)) in (omega (arith, c), s)
      go (steps x) h ih = let (c, s) = ih x vs (omega (arith, h)) in (omega (arith, c), s)

  pub last_more : (ws : List ℕ) (S : SeatedState) (w : ℕ) (vs : List ℕ) → length ws ≡ 2 * (seated_run L S ws).count
      → last_in L S w (ws ++ vs) ≡ last_in L (seated_run L S ws).seating (last_in L S w ws) vs
  unfolding seated_run last_in
  last_more [] S w vs e = refl
  last_more (i ∷ []) S w vs e = let no_way : ⊥ = omega (arith, e) in absurd no_way
  last_more (i ∷ p ∷ ws) S w vs e = go (seated_choice L S i p) e (last_more ws)
    where
      go : (a : Taken SeatedState) → length (i ∷ p ∷ ws) ≡ 2 * (follow_seated S a (λ x. seated_run L x ws)).count
          → ((x : SeatedState) (w : ℕ) (vs : List ℕ) → length ws ≡ 2 * (seated_run L x ws).count → last_in L x w (ws ++ vs) ≡ last_in L (seated_run L x ws).seating (last_in L x w ws) vs)
          → last_by a w (λ v x. last_in L x v (ws ++ vs)) ≡ last_in L (follow_seated S a (λ x. seated_run L x ws)).seating (last_by a w (λ v x. last_in L x v ws)) vs
      go (refuses n) h ih = let no_way : ⊥ = omega (arith, h) in absurd no_way
      go (waits x) h ih = ih x 26 vs (omega (arith, h))
      go (steps x) h ih = ih x 0 vs (omega (arith, h))

-- An offer of the state of a run is what the run does next.
module _ (f seats ws : List ℕ) (all_done : length ws ≡ 2 * (seated_ran_of f seats ws).count) where
  abbrev L : Limited
  L = limited_of (contents_of f) seats

  abbrev T : SeatedState
  T = (seated_ran_of f seats ws).seating

  -- what one choice of a run tells
  abbrev Told : Taken SeatedState → Offer → ℕ → Type 0
  Told a o w =
      ((follow_seated T a (λ x. seated_run L x [])).count ≡ 1) × (last_by a w (λ v x. last_in L x v []) ≡ o.answer)
      × ((follow_seated T a (λ x. seated_run L x [])).seating ≡ o.seating)

  told_to : (a : Taken SeatedState) (o : Offer) (w : ℕ) → AnswerWord a o.answer × Yields a o.seating → Told a o w
  unfolding seated_run last_in
  told_to (refuses n) o w (e, y) = absurd e
  told_to (waits x) o w (e, y) = (refl, sym e, y)
  told_to (steps x) o w (e, y) = (refl, sym e, y)

  told-from : (a : Taken SeatedState) (o : Offer) (w : ℕ) → Told a o w → AnswerWord a o.answer × Yields a o.seating
  unfolding seated_run last_in
  told-from (refuses n) o w (c, e, y) = let no_way : ⊥ = omega (arith, c) in absurd no_way
  told-from (waits x) o w (c, e, y) = (sym e, y)
  told-from (steps x) o w (c, e, y) = (sym e, y)

  pub next_exactly : (o : Offer) → Memᴰ o (offers_of L T) ↔ DoesNext f seats ws o
  unfolding seated_run last_in
  next_exactly o =
      let S : SeatedState = seated_start (contents_of f) in
      let vs : List ℕ = o.thread ∷ o.partner ∷ [] in
      let (count, state) = run_more L ws S vs all_done in
      let last = last_more L ws S 0 vs all_done in
      let a : Taken SeatedState = seated_choice L T o.thread o.partner in (
        (λ m.
            let (c, e, y) = told_to a o (last_in L S 0 ws) ((offered_exactly L T o).0 m) in
            record { done = omega (arith, count, c); answer = last ∙ e; state = state ∙ y }),
        λ D. (offered_exactly L T o).1 (told-from a o (last_in L S 0 ws) (omega (arith, count, D.done), sym last ∙ D.answer, sym state ∙ D.state)),
      )
