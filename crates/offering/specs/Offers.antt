-- All choices of one lent state: which are done, and the words in which they are handed back.
use Rattle.std.specs.Prelude.{ℕ, zero, suc, ◌+◌, ◌*◌, ◌≤◌, ◌≡◌, Bool, true, false, cond, ◌&&◌, List, [], ◌∷◌, ◌++◌, eqb, leb, length}
use Rattle.std.proofs.lemmas.List.Edits.{sets}
use Rattle.format.specs.declared.Verdict.{Verdict}
use Rattle.format.specs.Answers.{refused}
use Rattle.format.specs.Contents.{Contents, contents_of}
use Rattle.checking.specs.Check.{reading_names}
use Rattle.rounds.specs.Round.{Taken, refuses, waits, steps}
use Rattle.seats.specs.Seats.{Limited, limited_of, seats_in, SeatedState, seated_choice}
use Rattle.seated.specs.SeatedEntry.{seats_bar}
use Rattle.seated.specs.SeatedTables.{seated_in, Seated}
use Rattle.rows.specs.Rows.{row_words, stands_at, seated_at}
use Rattle.rows.specs.Fits.{row_fits}
use Rattle.ordering.specs.Order.{in_order}
use Rattle.offering.specs.declared.Noted.{Noted}
use Rattle.offering.specs.declared.Offers.{Offers}

-- a choice that is done: thread, partner, answer (26 where it has to wait, else 0), and the state it leads to
pub record Offer : Type 0 where
  pub thread : ℕ
  pub partner : ℕ
  pub answer : ℕ
  pub seating : SeatedState

-- its words: the three numbers, how many words the state has, and these
abbrev pub offer_words : ℕ → Offer → List ℕ
offer_words roles o =
    o.thread ∷ o.partner ∷ o.answer ∷ length (row_words roles o.seating) ∷ row_words roles o.seating

abbrev pub offer_by : ℕ → ℕ → Taken SeatedState → List Offer
offer_by i p (refuses n) = []
offer_by i p (waits S) = record { thread = i; partner = p; answer = 26; seating = S } ∷ []
offer_by i p (steps S) = record { thread = i; partner = p; answer = 0; seating = S } ∷ []

-- the choices of thread i with so many partners from p on
unfoldable pub partners_offered : Limited → SeatedState → ℕ → ℕ → ℕ → List Offer
partners_offered L S i p zero = []
partners_offered L S i p (suc n) = offer_by i p (seated_choice L S i p) ++ partners_offered L S i (p + 1) n

-- so many threads from i on, each alone and with each thread as partner
unfoldable pub threads_offered : Limited → SeatedState → ℕ → ℕ → List Offer
threads_offered L S i zero = []
threads_offered L S i (suc n) =
    partners_offered L S i 0 (length S.state.threads + 1) ++ threads_offered L S (i + 1) n

abbrev pub offers_of : Limited → SeatedState → List Offer
offers_of L S = threads_offered L S 1 (length S.state.threads)

-- An output with offers: how many, how many words, and whether one had no room.
pub record Output : Type 0 where
  pub full : Bool
  pub count : ℕ
  pub length : ℕ
  pub out : List ℕ

abbrev pub output_of : Noted → List ℕ → Output
output_of n out = record { full = n.full; count = n.count; length = n.length; out = out }

-- one more offer, where it has room
unfoldable pub offer_put : ℕ → Output → Offer → Output
offer_put roles B o =
    cond (leb (B.length + length (offer_words roles o)) (length B.out))
    (record {
      full = false;
      count = B.count + 1;
      length = B.length + length (offer_words roles o);
      out = sets B.out B.length (offer_words roles o);
    })
    (record { full = true; count = B.count; length = B.length; out = B.out })

-- offers in order, up to the first that has no room
unfoldable pub offers_put : ℕ → Output → List Offer → Output
offers_put roles B [] = B
offers_put roles B (o ∷ os) = cond B.full B (offers_put roles (offer_put roles B o) os)

-- the lent words are exactly those of a state in order
unfoldable pub is_state : Contents → List ℕ → List ℕ → Bool
is_state C seats state =
    let S : SeatedState = seated_at (length seats) state 0 in
    row_fits (length seats) state 0
    && (eqb (length (row_words (length seats) S)) (length state)
    && (stands_at state 0 (row_words (length seats) S) && in_order (length C.sessions) (seats_in seats) S))

-- what is answered, and the output
pub record Offering : Type 0 where
  pub answer : Offers
  pub out : List ℕ

abbrev pub offering_of : Output → Offering
offering_of B = record {
  answer = record { number = cond B.full 17 0; place = 0; count = B.count; length = B.length };
  out = B.out;
}

abbrev pub refusing : Verdict → List ℕ → Offering
refusing v out = record { answer = record { number = v.number; place = v.place; count = 0; length = 0 }; out = out }

abbrev pub begun : List ℕ → Output
begun out = record { full = false; count = 0; length = 0; out = out }

-- 18: no state in order is lent; 17: an offer has no room
abbrev pub offering_in : Contents → List ℕ → List ℕ → List ℕ → Offering
offering_in C seats state out =
    cond (is_state C seats state)
    (offering_of (offers_put (length seats) (begun out) (offers_of (limited_of C seats) (seated_at (length seats) state 0))))
    (refusing (refused 18 0) out)

-- 17 for the table of seats and 26 for the start, as for a seated run
abbrev pub offering_by : Contents → List ℕ → List ℕ → List ℕ → Offering
offering_by C seats state out =
    cond (eqb (seats_bar C seats).number 0) (offering_in C seats state out) (refusing (seats_bar C seats) out)

-- 1 to 10
unfoldable pub offering : List ℕ → List ℕ → List ℕ → List ℕ → Offering
offering f seats state out =
    cond (eqb (reading_names f).number 0) (offering_by (contents_of f) seats state out) (refusing (reading_names f) out)

-- How the code keeps it.

-- the tables hold a state in order
pub record Holds (L : Limited) (S : SeatedState) (w b os ls : List ℕ) : Type 0 where
  pub seated : Seated L w b os ls
  pub state : seated_in w b os ls ≡ S

-- at most so many offers more, of at most 1,500 words each
pub record Grown (n : ℕ) (before after : Noted) (out : List ℕ) : Type 0 where
  pub few : after.count ≤ before.count + n
  pub short : after.length ≤ before.length + 1500 * n
  pub within : after.length ≤ length out
