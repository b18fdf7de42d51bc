-- The table of phrases: fixed words, of which every sentence is made.
use Rattle.std.specs.Prelude.{ℕ, ◌+◌, List, [], ◌∷◌}
use Prim.Native.String.{String}

-- The endings of the tags 0 to 8 and of no tag; what is counted, from none on; the meanings of the numbers, from 1 on.
unfoldable pub in_words : List String
in_words =
    ", an end." ∷
    ", a fork." ∷
    ", a repeat." ∷
    ", a new channel." ∷
    ", a compare." ∷
    ", a receive." ∷
    ", a send." ∷
    ", an on." ∷
    ", an off." ∷
    "." ∷
    "; no place" ∷
    " at word " ∷
    " at session " ∷
    " at node " ∷
    " at choice " ∷
    " at row " ∷
    " at notice " ∷
    "Refused 1: the file has 1 to 25 bytes (to 27 in versions 2 and 3), or an odd number" ∷
    "Refused 2: the version is not one that can be read here" ∷
    "Refused 3: a count is out of range" ∷
    "Refused 4: an offset is not the one that the counts give" ∷
    "Refused 5: the length is not the one that the counts give" ∷
    "Refused 6: the record names a role, kind or user that is not there" ∷
    "Refused 7: the session's user is not there, or a starting role is not that user's" ∷
    "Refused 8: the tree's root, tag, field, second child, end or ninth variable is wrong" ∷
    "Refused 9: an operand names nothing, or a role or kind is out of count" ∷
    "Refused 10: the step is against the rules of kinds and owners" ∷
    "Refused 11: the role put on is not assigned to the session's user" ∷
    "Refused 12: the role put off is not active" ∷
    "Refused 13: no active role permits the step" ∷
    "Refused 14: a routine to be placed has an on, an off or a starting role" ∷
    "Refused 15: no role that the user may put on permits the step" ∷
    "Refused 16: the placed file would have over 1,024 nodes" ∷
    "Refused 17: the output is too short, or the list of choices or of seats does not fit" ∷
    "Refused 18: the list lent, the thread or its partner is not one for this step" ∷
    "Refused 19: the values compared are not equal, or the two channels differ" ∷
    "Refused 20: it would be the 65th thread or made channel" ∷
    "Refused 21: a junior role's number is not lower than its senior's" ∷
    "Refused 22: the minute is above 10,079, or the hours are not whole rows, at most 64" ∷
    "Refused 23: the row names no such role, or no stretch of the week" ∷
    "Refused 24: the role put on is closed at that minute" ∷
    "Refused 25: the two files' tables of roles or kinds differ" ∷
    "Refused 26: the role has no free seat, or other sessions are before this one in line" ∷
    "Refused 27: the notice has under 4 bytes, a wrong length word or a refused file" ∷
    "Refused 28: neither notice has begun on that day" ∷ []

-- the last of what is counted, and the last number that has a meaning; how many rows these are, and how many bytes
abbrev pub last_count : ℕ
last_count = 6

abbrev pub last_number : ℕ
last_number = 28

abbrev pub row_count : ℕ
row_count = 45

abbrev pub byte_count : ℕ
byte_count = 1973

-- the row of a tag's ending (9: no tag), of what is counted (0: none), of a number's meaning
abbrev pub ending_row : ℕ → ℕ
ending_row t = t

abbrev pub count_row : ℕ → ℕ
count_row c = 10 + c

abbrev pub meaning_row : ℕ → ℕ
meaning_row n = 16 + n
