-- Sentences in literal words, bytes that are none, and numbers that are no reason.
use Rattle.std.specs.Prelude.{ℕ, zero, suc, ◌-◌, ◌≡◌, cond, List, [], ◌∷◌, ◌++◌, length, replicate}
use Prim.Native.String.{String}
use Rattle.phrases.specs.Phrases.{spelled}
use Rattle.reasons.specs.Reasons.{may_count, reason_of, understood, reason_length, reason_over, meaning_length, meaning_over}

pub data ReasonCase : Type 0 where
  -- a number, what is counted, a place, a tag, and the sentence
  says : ℕ → ℕ → ℕ → ℕ → String → ReasonCase
  -- the same four, and no sentence
  unsaid : ℕ → ℕ → ℕ → ℕ → ReasonCase
  -- bytes that are no sentence
  other : String → ReasonCase
  -- a number and its meaning
  means : ℕ → String → ReasonCase
  -- a number, and all that it counts
  counts : ℕ → List ℕ → ReasonCase

-- an output of bytes that no phrase has
abbrev pub blank : ℕ → List ℕ
blank n = replicate n 7

-- all below a number that a number counts
unfoldable pub counts_below : ℕ → ℕ → List ℕ
counts_below n zero = []
counts_below n (suc c) = counts_below n c ++ cond (may_count n c) (c ∷ []) []

abbrev pub ReasonShown : ReasonCase → Type 0
ReasonShown (says n c p t s) =
    (reason_length (reason_of n c p t) 120 ≡ length (spelled s)) × (reason_over (reason_of n c p t) (blank 120) ≡ spelled s ++ blank (120 - length (spelled s)))
    × (understood (spelled s) ≡ reason_of n c p t)
ReasonShown (unsaid n c p t) = (reason_length (reason_of n c p t) 121 ≡ 0) × (reason_over (reason_of n c p t) (blank 121) ≡ blank 121)
ReasonShown (other s) = understood (spelled s) ≡ reason_of 0 0 0 0
ReasonShown (means n s) = (meaning_length n 120 ≡ length (spelled s)) × (meaning_over n (blank 120) ≡ spelled s ++ blank (120 - length (spelled s)))
ReasonShown (counts n cs) = counts_below n 8 ≡ cs

abbrev pub reason_cases : List ReasonCase
reason_cases =
    says 13 3 4 6 "Refused 13: no active role permits the step at node 4, a send."
    ∷ says 13 4 10 9 "Refused 13: no active role permits the step at choice 10."
    ∷ says 1 0 0 9 "Refused 1: the file has 1 to 25 bytes (to 27 in versions 2 and 3), or an odd number; no place."
    ∷ says 6 1 65535 9 "Refused 6: the record names a role, kind or user that is not there at word 65535."
    ∷ says 7 2 32 9 "Refused 7: the session's user is not there, or a starting role is not that user's at session 32."
    ∷ says 23 5 1 9 "Refused 23: the row names no such role, or no stretch of the week at row 1."
    ∷ says 14 3 100 8 "Refused 14: a routine to be placed has an on, an off or a starting role at node 100, an off."
    ∷ says 14 0 0 9 "Refused 14: a routine to be placed has an on, an off or a starting role; no place."
    ∷ says 24 3 1024 9 "Refused 24: the role put on is closed at that minute at node 1024."
    ∷ says 25 0 0 9 "Refused 25: the two files' tables of roles or kinds differ; no place."
    ∷ says 26 2 3 9 "Refused 26: the role has no free seat, or other sessions are before this one in line at session 3."
    ∷ says 26 4 7 9 "Refused 26: the role has no free seat, or other sessions are before this one in line at choice 7."
    ∷ says 27 6 2 9 "Refused 27: the notice has under 4 bytes, a wrong length word or a refused file at notice 2."
    ∷ says 28 0 0 9 "Refused 28: neither notice has begun on that day; no place."
    -- any of the nine
    ∷ says 9 3 1 0 "Refused 9: an operand names nothing, or a role or kind is out of count at node 1, an end."
    ∷ says 10 3 99 3 "Refused 10: the step is against the rules of kinds and owners at node 99, a new channel."
    ∷ says 10 3 5 1 "Refused 10: the step is against the rules of kinds and owners at node 5, a fork."
    ∷ says 15 3 9 2 "Refused 15: no role that the user may put on permits the step at node 9, a repeat."
    ∷ says 9 3 2 4 "Refused 9: an operand names nothing, or a role or kind is out of count at node 2, a compare."
    ∷ says 15 3 3 5 "Refused 15: no role that the user may put on permits the step at node 3, a receive."
    ∷ says 11 3 8 7 "Refused 11: the role put on is not assigned to the session's user at node 8, an on."
    -- one byte changed, added, left out; a leading zero; a place above 65,535; what is against the rules of counts, places and tags
    ∷ other "Refused 13: no active role permits the step at node 4, a Send."
    ∷ other "Refused 13: no active role permits the step at node 4, a send.."
    ∷ other "Refused 13: no active role permits the step at node 4, a send"
    ∷ other "Refused 13: no active role permits the step at node 04, a send."
    ∷ other "Refused 6: the record names a role, kind or user that is not there at word 65536."
    ∷ other "Refused 13: no active role permits the step; no place."
    ∷ other "Refused 13: no active role permits the step at node 4."
    ∷ other "Refused 13: no active role permits the step at choice 4, a send."
    ∷ other "13 at 4"
    ∷ other ""
    ∷ unsaid 13 0 0 9
    ∷ unsaid 13 3 4 9
    ∷ unsaid 13 4 4 6
    ∷ unsaid 13 3 4 10
    ∷ unsaid 13 3 0 6
    ∷ unsaid 1 0 1 9
    ∷ unsaid 8 3 4 6
    ∷ unsaid 24 3 4 7
    ∷ unsaid 25 2 1 9
    ∷ unsaid 26 0 0 9
    ∷ unsaid 27 0 0 9
    ∷ unsaid 28 6 1 9
    ∷ unsaid 29 0 0 9
    ∷ unsaid 0 0 0 0
    ∷ means 13 "Refused 13: no active role permits the step"
    ∷ means 24 "Refused 24: the role put on is closed at that minute"
    ∷ means 0 ""
    ∷ means 25 "Refused 25: the two files' tables of roles or kinds differ"
    ∷ means 26 "Refused 26: the role has no free seat, or other sessions are before this one in line"
    ∷ means 27 "Refused 27: the notice has under 4 bytes, a wrong length word or a refused file"
    ∷ means 28 "Refused 28: neither notice has begun on that day"
    ∷ means 29 ""
    -- what each number counts, and means
    ∷ counts 0 []
    ∷ counts 1 (0 ∷ [])
    ∷ counts 2 (0 ∷ [])
    ∷ counts 3 (0 ∷ [])
    ∷ counts 4 (0 ∷ [])
    ∷ counts 5 (0 ∷ [])
    ∷ counts 6 (1 ∷ [])
    ∷ counts 7 (2 ∷ [])
    ∷ counts 8 (3 ∷ [])
    ∷ counts 9 (3 ∷ [])
    ∷ counts 10 (3 ∷ [])
    ∷ counts 11 (3 ∷ 4 ∷ [])
    ∷ counts 12 (3 ∷ 4 ∷ [])
    ∷ counts 13 (3 ∷ 4 ∷ [])
    ∷ counts 14 (0 ∷ 3 ∷ [])
    ∷ counts 15 (3 ∷ [])
    ∷ counts 16 (0 ∷ [])
    ∷ counts 17 (0 ∷ [])
    ∷ counts 18 (0 ∷ 4 ∷ [])
    ∷ counts 19 (4 ∷ [])
    ∷ counts 20 (4 ∷ [])
    ∷ counts 21 (1 ∷ [])
    ∷ counts 22 (0 ∷ [])
    ∷ counts 23 (5 ∷ [])
    ∷ counts 24 (3 ∷ [])
    ∷ counts 25 (0 ∷ [])
    ∷ counts 26 (2 ∷ 4 ∷ [])
    ∷ counts 27 (6 ∷ [])
    ∷ counts 28 (0 ∷ [])
    ∷ counts 29 []
    ∷ means 1 "Refused 1: the file has 1 to 25 bytes (to 27 in versions 2 and 3), or an odd number"
    ∷ means 2 "Refused 2: the version is not one that can be read here"
    ∷ means 3 "Refused 3: a count is out of range"
    ∷ means 4 "Refused 4: an offset is not the one that the counts give"
    ∷ means 5 "Refused 5: the length is not the one that the counts give"
    ∷ means 6 "Refused 6: the record names a role, kind or user that is not there"
    ∷ means 7 "Refused 7: the session's user is not there, or a starting role is not that user's"
    ∷ means 8 "Refused 8: the tree's root, tag, field, second child, end or ninth variable is wrong"
    ∷ means 9 "Refused 9: an operand names nothing, or a role or kind is out of count"
    ∷ means 10 "Refused 10: the step is against the rules of kinds and owners"
    ∷ means 11 "Refused 11: the role put on is not assigned to the session's user"
    ∷ means 12 "Refused 12: the role put off is not active"
    ∷ means 14 "Refused 14: a routine to be placed has an on, an off or a starting role"
    ∷ means 15 "Refused 15: no role that the user may put on permits the step"
    ∷ means 16 "Refused 16: the placed file would have over 1,024 nodes"
    ∷ means 17 "Refused 17: the output is too short, or the list of choices or of seats does not fit"
    ∷ means 18 "Refused 18: the list lent, the thread or its partner is not one for this step"
    ∷ means 19 "Refused 19: the values compared are not equal, or the two channels differ"
    ∷ means 20 "Refused 20: it would be the 65th thread or made channel"
    ∷ means 21 "Refused 21: a junior role's number is not lower than its senior's"
    ∷ means 22 "Refused 22: the minute is above 10,079, or the hours are not whole rows, at most 64"
    ∷ means 23 "Refused 23: the row names no such role, or no stretch of the week"
    ∷ []

abbrev pub AllShown : List ReasonCase → Type 0
AllShown [] = Unit {0}
AllShown (x ∷ xs) = ReasonShown x × AllShown xs
