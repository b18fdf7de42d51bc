-- A certificate by parts: some of its rows, one after the other, with the words that their choices have in
-- `next`.
use Rattle.std.specs.Prelude.{ℕ, zero, suc, ◌+◌, ◌-◌, Bool, cond, ◌&&◌, ◌||◌, List, eqb, leb, ltb, length, Option, None, Some}
use Rattle.format.specs.Contents.{Contents, contents_of}
use Rattle.seats.specs.Seats.{SeatedState, seated_start}
use Rattle.rows.specs.Fits.{row_fits}
use Rattle.ordering.specs.Order.{in_order}
use Rattle.certifying.specs.declared.Closing.{Closing}
use Rattle.certifying.specs.declared.Search.{Search}
use Rattle.certifying.specs.declared.Part.{Part}
use Rattle.certifying.specs.Known.{known_by}
use Rattle.certifying.specs.Certificate.{Certificate, certificate_of, row_place, row_state, is_row, row_tried, row_onward}
use Rattle.certifying.specs.Certificate.{rows_tried, search_begins, row_at_fault, some_rows, after_seats, after_reading}

-- the rows before a part are not tried: so each row of it is asked whether it is a state in order
abbrev pub is_ordered : Certificate → ℕ → Bool
is_ordered K j =
    row_fits K.roles K.states (row_place K j) && in_order K.limited.sessions K.limited.seats (row_state K j)

-- row j is known, is a state in order, and each of its choices passes
abbrev pub row_tested : Certificate → ℕ → Search → Option Search
row_tested K j q = cond (ltb j q.known && is_ordered K j) (row_tried K (row_state K j) q) None

-- so many rows from j on, whose choices have the words up to `end`: 0, or the number from 1 on of the first at fault,
-- the last one where the words don't end exactly there
unfoldable pub part_tried : Certificate → ℕ → ℕ → ℕ → Search → ℕ
part_tried K end j zero q = cond (eqb q.cursor end) 0 j
part_tried K end j (suc n) q = row_onward (row_tested K j q) j (λ x. part_tried K end (j + 1) n x)

-- the search when so many words are done
abbrev pub search_at : List ℕ → ℕ → Search
search_at next c = record { known = known_by next c; cursor = c }

-- a part that begins with row 0 is asked for the start
unfoldable pub part_at_fault : Certificate → SeatedState → Part → ℕ
part_at_fault K S P =
    cond (ltb 0 P.from || is_row K 0 S)
    (part_tried K P.end P.from (P.to - P.from) (search_at K.next P.begin)) 1

-- 17: as for the whole, or the part is none of so many rows and words
abbrev pub some_part : ℕ → ℕ → Part → Bool
some_part rows words P =
    some_rows rows && ltb P.from P.to && leb P.to rows && leb P.begin P.end && leb P.end words

abbrev pub closing_part_by : Contents → List ℕ → List ℕ → List ℕ → List ℕ → Part → Closing
closing_part_by C seats states places next P =
    after_seats C seats (part_at_fault (certificate_of C seats states places next) (seated_start C) P)

unfoldable pub closing_part : List ℕ → List ℕ → List ℕ → List ℕ → List ℕ → Part → Closing
closing_part f seats states places next P =
    after_reading (some_part (length places) (length next) P) f (closing_part_by (contents_of f) seats states places next P)

-- How the code goes about both: all rows, or only a part of them.

abbrev pub asked_fits : ℕ → ℕ → Option Part → Bool
asked_fits rows words None = some_rows rows
asked_fits rows words (Some P) = some_part rows words P

abbrev pub asked_from : Option Part → ℕ
asked_from None = 0
asked_from (Some P) = P.from

abbrev pub asked_tried : Certificate → Option Part → ℕ
asked_tried K None = rows_tried K 0 (length K.places) search_begins
asked_tried K (Some P) = part_tried K P.end P.from (P.to - P.from) (search_at K.next P.begin)

abbrev pub asked_fault : Certificate → SeatedState → Option Part → ℕ
asked_fault K S None = row_at_fault K S
asked_fault K S (Some P) = part_at_fault K S P

abbrev pub closing_asked_by : Contents → List ℕ → List ℕ → List ℕ → List ℕ → Option Part → Closing
closing_asked_by C seats states places next asked =
    after_seats C seats (asked_fault (certificate_of C seats states places next) (seated_start C) asked)

abbrev pub closing_asked : List ℕ → List ℕ → List ℕ → List ℕ → List ℕ → Option Part → Closing
closing_asked f seats states places next asked =
    after_reading (asked_fits (length places) (length next) asked) f
    (closing_asked_by (contents_of f) seats states places next asked)
