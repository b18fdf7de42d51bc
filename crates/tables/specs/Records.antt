-- Refusals 6, 21 and 7: records that name what isn't there, and juniors that are not lower than their senior.
use Rattle.std.specs.Prelude.{ℕ, ◌-◌, Bool, cond, ◌&&◌, ◌||◌, leb, eqb, length}
use Rattle.masks.specs.Mask.{names_only, within}
use Rattle.format.specs.Answers.{refused, or_else, first_of}
use Rattle.format.specs.Sections.{place_of}
use Rattle.format.specs.Contents.{Contents, in_count, item, no_role, no_channel, no_session}
use Rattle.format.specs.declared.Verdict.{Verdict}
use Rattle.format.specs.declared.Head.{Head}
use Rattle.format.specs.declared.Section.{Section}
use Rattle.format.specs.declared.Section.TheVariants.{Users, Roles, Juniors, Kinds, Channels, Sessions}

-- how many records a section has
abbrev pub count_in : Section → Contents → ℕ
count_in Users C = length C.users
count_in Roles C = length C.roles
count_in Juniors C = length C.juniors
count_in Kinds C = length C.kinds
count_in Channels C = length C.channels
count_in Sessions C = length C.sessions

-- a record names only items that the counts have; of juniors: each has a lower number than the role; of a session: its user exists, and each starting
-- role is assigned to that user
unfoldable pub record_fits : Contents → Section → ℕ → Bool
record_fits C Users n = names_only (length C.roles) (item 0 C.users n)
record_fits C Roles n =
    names_only (length C.kinds) (item no_role C.roles n).sends && names_only (length C.kinds) (item no_role C.roles n).receives
record_fits C Juniors n = names_only (n - 1) (item 0 C.juniors n)
record_fits C Kinds n = leb (item 0 C.kinds n) (length C.kinds)
record_fits C Channels n =
    in_count (length C.users) (item no_channel C.channels n).owner && in_count (length C.kinds) (item no_channel C.channels n).kind.0
record_fits C Sessions n =
    in_count (length C.users) (item no_session C.sessions n).user
    && within (item no_session C.sessions n).mask (item 0 C.users (item no_session C.sessions n).user)

-- what refuses a section's record
abbrev pub number_of : Section → ℕ
number_of Users = 6
number_of Roles = 6
number_of Juniors = 21
number_of Kinds = 6
number_of Channels = 6
number_of Sessions = 7

-- the place of 6 and 21 is an offset in the file, that of any other a number
abbrev pub by_offset : ℕ → Bool
by_offset number = eqb number 6 || eqb number 21

abbrev pub refusal_of : Head → Section → ℕ → Verdict
refusal_of h s n = refused (number_of s) (cond (by_offset (number_of s)) (place_of h s n) n)

-- the first record of a section that does not fit
unfoldable pub section_answer : Head → Contents → Section → Verdict
section_answer h C s = first_of (record_fits C s) (refusal_of h s) 1 (count_in s C)

-- 6, lowest place first, then 21, then 7
unfoldable pub records_answer : Head → Contents → Verdict
records_answer h C =
    or_else (section_answer h C Users)
    (or_else (section_answer h C Roles)
    (or_else (section_answer h C Kinds)
    (or_else (section_answer h C Channels) (or_else (section_answer h C Juniors) (section_answer h C Sessions)))))
