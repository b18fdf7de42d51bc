-- What an offer is, what stands in the output, and which states may be lent, in words.
use Rattle.std.specs.Prelude.{ℕ, suc, ◌≤◌, ◌<◌, ◌≡◌, ◌⊎◌, ◌↔◌, true, List, [], ◌∷◌, ◌++◌, length, take}
use Rattle.std.proofs.lemmas.List.Edits.{sets}
use Rattle.format.specs.Contents.{Contents, contents_of}
use Rattle.reading_exact.specs.Lists.{All}
use Rattle.steps.specs.declared.Thread.{Thread}
use Rattle.schedules.specs.Tables.{Yields}
use Rattle.seats.specs.Seats.{Limited, limited_of, SeatedState, seated_choice, seated_start, seated_ran_of, last_in}
use Rattle.seats.specs.SeatOrder.{Ordered, AnswerWord}
use Rattle.rows.specs.Rows.{row_words}
use Rattle.offering.specs.Offers.{Offer, offer_words, Output}

-- the choice is done, is answered so, and leads to this state
abbrev pub IsOffer : Limited → SeatedState → Offer → Type 0
IsOffer L S o =
    AnswerWord (seated_choice L S o.thread o.partner) o.answer
    × Yields (seated_choice L S o.thread o.partner) o.seating

-- threads outside, partners inside
abbrev pub Before : Offer → Offer → Type 0
Before o q = (o.thread < q.thread) ⊎ ((o.thread ≡ q.thread) × (o.partner < q.partner))

abbrev pub Ascending : List Offer → Type 0
Ascending [] = Unit {0}
Ascending (o ∷ os) = All (Before o) os × Ascending os

-- a run through a list and one more choice does that choice, is answered so, and stands in this state
pub record DoesNext (f seats ws : List ℕ) (o : Offer) : Type 0 where
  pub done :
      (seated_ran_of f seats (ws ++ (o.thread ∷ o.partner ∷ []))).count ≡ suc (seated_ran_of f seats ws).count
  pub answer :
      last_in (limited_of (contents_of f) seats) (seated_start (contents_of f)) 0 (ws ++ (o.thread ∷ o.partner ∷ []))
      ≡ o.answer
  pub state : (seated_ran_of f seats (ws ++ (o.thread ∷ o.partner ∷ []))).seating ≡ o.seating

unfoldable pub offers_words : ℕ → List Offer → List ℕ
offers_words roles [] = []
offers_words roles (o ∷ os) = offer_words roles o ++ offers_words roles os

-- as many offers stand in an output, from its first word on, as have room; the next has none
pub record OffersStand (roles : ℕ) (out : List ℕ) (os : List Offer) (B : Output) : Type 0 where
  pub some : B.count ≤ length os
  pub words : B.length ≡ length (offers_words roles (take B.count os))
  pub written : B.out ≡ sets out 0 (offers_words roles (take B.count os))
  pub room : B.length ≤ length out
  pub full : (B.full ≡ true) ↔ (B.count < length os)
  pub next : B.count < length os → length out < length (offers_words roles (take (suc B.count) os))

-- the words of a state in order, of at most 64 threads and 64 made channels
pub record StateWords (C : Contents) (seats s : List ℕ) (S : SeatedState) : Type 0 where
  pub words : s ≡ row_words (length seats) S
  pub ordered : Ordered (limited_of C seats) S
  pub vars : All (λ (t : Thread). length t.vars ≡ 8) S.state.threads
  pub threads : length S.state.threads ≤ 64
  pub made : length S.state.made ≤ 64
