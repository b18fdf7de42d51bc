-- As many offers stand in the output as have room.
use Prim.Native.Nat.{ℕ, zero, suc, ◌+◌, ◌≤◌, ◌<◌}
use mathlib.Core.Path.{◌≡◌, refl, sym, ap, ap₂, ◌∙◌, subst}
use mathlib.Core.Logic.{◌↔◌}
use mathlib.Core.Bool.{Bool, true, false, cond, false≢true}
use mathlib.Core.List.{List, [], ◌∷◌, ◌++◌, append_assoc, append-nil}
use native.Mathlib.Omega.{arith}
use lib.Dec.{leb}
use lib.ListN.{length, take, length-append}
use lib.Seq.{sets, length-sets, take_at}
use borrow.Author.Tests.{leb-true, leb-false}
use Rattle.format.proofs.PutRuns.{sets_join}
use Rattle.offering.specs.Offers.{Offer, offer_words, Output, offer_put, offers_put, begun}
use Rattle.offering.proofs.OfferLaws.{put_full}
use Rattle.offering_exact.specs.Offered.{offers_words, OffersStand}

words_append : (roles : ℕ) (xs ys : List Offer) → offers_words roles (xs ++ ys) ≡ offers_words roles xs ++ offers_words roles ys
unfolding offers_words
words_append roles [] ys = refl
words_append roles (x ∷ xs) ys =
    ap (λ (l : List ℕ). offer_words roles x ++ l) (words_append roles xs ys) ∙ sym (append_assoc (offer_words roles x) (offers_words roles xs) (offers_words roles ys))

words_one : (roles : ℕ) (xs : List Offer) (o : Offer) → offers_words roles (xs ++ (o ∷ [])) ≡ offers_words roles xs ++ offer_words roles o
unfolding offers_words
words_one roles xs o = words_append roles xs (o ∷ []) ∙ ap (λ (l : List ℕ). offers_words roles xs ++ l) (append-nil (offer_words roles o))

module _ (roles : ℕ) (out : List ℕ) where
  -- after some offers
  abbrev after : Bool → List Offer → Output
  after b ds = record { full = b; count = length ds; length = length (offers_words roles ds); out = sets out 0 (offers_words roles ds) }

  one_longer : (ds : List Offer) (o : Offer) → length (offers_words roles ds) + length (offer_words roles o) ≡ length (offers_words roles (ds ++ (o ∷ [])))
  one_longer ds o = sym (length-append (offers_words roles ds) (offer_words roles o)) ∙ sym (ap length (words_one roles ds o))

  one_after : (ds : List Offer) (o : Offer) (b : Bool) → leb (length (offers_words roles ds) + length (offer_words roles o)) (length out) ≡ b
      → offer_put roles (after false ds) o ≡ cond b (after false (ds ++ (o ∷ []))) (after true ds)
  unfolding offer_put
  one_after ds o b e =
      let W : List ℕ = offers_words roles ds in
      let count : length ds + 1 ≡ length (ds ++ (o ∷ [])) = sym (length-append ds (o ∷ [])) in
      let z : length W ≡ 0 + length W = omega arith in
      let put : sets (sets out 0 W) (length W) (offer_words roles o) ≡ sets out 0 (offers_words roles (ds ++ (o ∷ []))) =
      ap (λ (x : ℕ). sets (sets out 0 W) x (offer_words roles o)) z ∙ sets_join out 0 W (offer_words roles o) ∙ sym (ap (sets out 0) (words_one roles ds o)) in
      let whole : record { full = false; count = length ds + 1; length = length W + length (offer_words roles o); out = sets (sets out 0 W) (length W) (offer_words roles o) } ≡ after false (ds ++ (o ∷ [])) =
      λ j. record { full = false; count = count j; length = one_longer ds o j; out = put j } in
      ap (λ (x : Bool). cond x (record { full = false; count = length ds + 1; length = length W + length (offer_words roles o); out = sets (sets out 0 W) (length W) (offer_words roles o) }) (after true ds))
      (ap (leb (length W + length (offer_words roles o))) (length-sets out 0 W) ∙ e)
      ∙ ap (λ (x : Output). cond b x (after true ds)) whole

  first_those : (ds os : List Offer) → take (length ds) (ds ++ os) ≡ ds
  first_those ds os = take_at ds os (length ds) refl

  one_more_lem : (ds : List Offer) (o : Offer) (os : List Offer) → take (suc (length ds)) (ds ++ (o ∷ os)) ≡ ds ++ (o ∷ [])
  one_more_lem ds o os =
      let long : length (ds ++ (o ∷ [])) ≡ suc (length ds) = omega (arith, length-append ds (o ∷ [])) in
      ap (take (suc (length ds))) (sym (append_assoc ds (o ∷ []) os)) ∙ take_at (ds ++ (o ∷ [])) os (suc (length ds)) long

  stand : (os ds : List Offer) → length (offers_words roles ds) ≤ length out → OffersStand roles out (ds ++ os) (offers_put roles (after false ds) os)
  unfolding offers_put
  stand [] ds fits =
      let all : take (length ds) (ds ++ []) ≡ ds = first_those ds [] in
      let long : length (ds ++ []) ≡ length ds = ap length (append-nil ds) in
      record {
        some = omega (arith, long);
        words = sym (ap (λ (l : List Offer). length (offers_words roles l)) all);
        written = sym (ap (λ (l : List Offer). sets out 0 (offers_words roles l)) all);
        room = fits;
        full = ((λ e. absurd (false≢true e)), λ lt. let no_way : ⊥ = omega (arith, lt, long) in absurd no_way);
        next = λ lt. let no_way : ⊥ = omega (arith, lt, long) in absurd no_way;
      }
  stand (o ∷ os) ds fits = go (leb (length (offers_words roles ds) + length (offer_words roles o)) (length out)) refl (stand os (ds ++ (o ∷ [])))
    where
      go : (b : Bool) → leb (length (offers_words roles ds) + length (offer_words roles o)) (length out) ≡ b
          → (length (offers_words roles (ds ++ (o ∷ []))) ≤ length out → OffersStand roles out ((ds ++ (o ∷ [])) ++ os) (offers_put roles (after false (ds ++ (o ∷ []))) os))
          → OffersStand roles out (ds ++ (o ∷ os)) (offers_put roles (offer_put roles (after false ds) o) os)
      go true e ih =
          let room : length (offers_words roles (ds ++ (o ∷ []))) ≤ length out = omega (arith, leb-true (length (offers_words roles ds) + length (offer_words roles o)) (length out) e, one_longer ds o) in
          subst (λ (l : List Offer). OffersStand roles out l (offers_put roles (offer_put roles (after false ds) o) os)) (append_assoc ds (o ∷ []) os)
          (subst (λ (B : Output). OffersStand roles out ((ds ++ (o ∷ [])) ++ os) (offers_put roles B os)) (sym (one_after ds o true e)) (ih room))
      go false e ih =
          let over : length out < length (offers_words roles (ds ++ (o ∷ []))) = omega (arith, leb-false (length (offers_words roles ds) + length (offer_words roles o)) (length out) e, one_longer ds o) in
          let all : take (length ds) (ds ++ (o ∷ os)) ≡ ds = first_those ds (o ∷ os) in
          let more : length ds < length (ds ++ (o ∷ os)) = omega (arith, length-append ds (o ∷ os)) in
          let ended : after true ds ≡ offers_put roles (offer_put roles (after false ds) o) os =
          put_full roles (after true ds) os refl ∙ ap (λ (B : Output). offers_put roles B os) (sym (one_after ds o false e)) in
          subst (OffersStand roles out (ds ++ (o ∷ os))) ended
          (record {
            some = omega (arith, more);
            words = sym (ap (λ (l : List Offer). length (offers_words roles l)) all);
            written = sym (ap (λ (l : List Offer). sets out 0 (offers_words roles l)) all);
            room = fits;
            full = ((λ u. more), λ u. refl);
            next = λ u. subst (λ (l : List Offer). length out < length (offers_words roles l)) (sym (one_more_lem ds o os)) over;
          })

  pub offers_stand : (os : List Offer) → OffersStand roles out os (offers_put roles (begun out) os)
  unfolding offers_words
  offers_stand os = stand os [] (omega arith)
