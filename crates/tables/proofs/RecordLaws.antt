-- A section has as many records as the head counts; where 6 and 7 refuse nothing, owners and sessions' users are users.
use Prim.Native.Nat.{ℕ, zero, suc, ◌+◌, ◌≤◌, ◌<◌}
use mathlib.Core.Path.{◌≡◌, refl, sym, subst}
use mathlib.Core.Bool.{Bool, true, false, and-eq-true_iff}
use mathlib.Core.List.{List}
use native.Mathlib.Omega.{arith}
use lib.Dec.{eqb, leb}
use lib.ListN.{length}
use borrow.Author.Tests.{eqb-true, eqb-false, leb-true, leb-false}
use Rattle.format.specs.Answers.{first_of}
use Rattle.format.specs.Contents.{Contents, item, no_channel, no_session, contents_at}
use Rattle.format.specs.declared.Verdict.{Verdict}
use Rattle.format.specs.Sections.{part}
use Rattle.format.specs.declared.Head.{Head}
use Rattle.format.specs.declared.Section.{Section}
use Rattle.format.specs.declared.Section.TheVariants.{Users, Roles, Juniors, Kinds, Channels, Sessions}
use Rattle.format.proofs.AnswerLaws.{NoRefusal, first_quiet, both_quiet}
use Rattle.format.proofs.ContentsLaws.{in_count_lem, item_past, users_held, roles_held, juniors_held, kinds_held, channels_held, sessions_held}
use Rattle.tables.specs.Records.{count_in, record_fits, refusal_of, section_answer, records_answer}

pub counted : (f : List ℕ) (h : Head) (s : Section) → count_in s (contents_at f h) ≡ part s h.count
counted f h Users = users_held f h
counted f h Roles = roles_held f h
counted f h Juniors = juniors_held f h
counted f h Kinds = kinds_held f h
counted f h Channels = channels_held f h
counted f h Sessions = sessions_held f h

-- where none is refused, all of them fit
all_fit : (fits : ℕ → Bool) (refusal : ℕ → Verdict) → ((n : ℕ) → 1 ≤ (refusal n).number) → (i k : ℕ) → NoRefusal (first_of fits refusal i k) → (n : ℕ) → i ≤ n → n < i + k → fits n ≡ true
all_fit fits refusal some i zero q n low high = let no : ⊥ = omega arith in absurd no
all_fit fits refusal some i (suc k) q n low high =
    let both = (first_quiet fits refusal some i k).0 q in
    go (eqb n i) refl both.0 (λ le. all_fit fits refusal some (suc i) k both.1 n le (omega arith))
  where
    go : (b : Bool) → eqb n i ≡ b → fits i ≡ true → (suc i ≤ n → fits n ≡ true) → fits n ≡ true
    go true e here more = rw (eqb-true n i e) here
    go false e here more = more (omega (arith, eqb-false n i e))

-- what holds of the items in count holds of every number, where there is nothing at the others
any_item : {A : Type 0} (z : A) (xs : List A) (P : A → Type 0) → P z → ((n : ℕ) → 1 ≤ n → n ≤ length xs → P (item z xs n)) → (n : ℕ) → P (item z xs n)
unfolding item
any_item z xs P none each zero = none
any_item z xs P none each (suc n) = go (leb (suc n) (length xs)) refl
  where
    go : (b : Bool) → leb (suc n) (length xs) ≡ b → P (item z xs (suc n))
    go true e = each (suc n) (omega arith) (leb-true (suc n) (length xs) e)
    go false e = subst P (sym (item_past z xs (suc n) (leb-false (suc n) (length xs) e))) none

module _ (h : Head) (C : Contents) where
  some : (s : Section) (n : ℕ) → 1 ≤ (refusal_of h s n).number
  some Users n = omega arith
  some Roles n = omega arith
  some Juniors n = omega arith
  some Kinds n = omega arith
  some Channels n = omega arith
  some Sessions n = omega arith

  fitting : (s : Section) → NoRefusal (section_answer h C s) → (n : ℕ) → 1 ≤ n → n ≤ count_in s C → record_fits C s n ≡ true
  unfolding section_answer
  fitting s q n low high = all_fit (record_fits C s) (refusal_of h s) (some s) 1 (count_in s C) q n low (omega arith)

  sections_quiet : NoRefusal (records_answer h C) → NoRefusal (section_answer h C Channels) × NoRefusal (section_answer h C Juniors) × NoRefusal (section_answer h C Sessions)
  unfolding records_answer
  sections_quiet q =
      let after-users = ((both_quiet NoRefusal (section_answer h C Users) _ (λ z. z)).0 q).1 in
      let after-roles = ((both_quiet NoRefusal (section_answer h C Roles) _ (λ z. z)).0 after-users).1 in
      let after-kinds = ((both_quiet NoRefusal (section_answer h C Kinds) _ (λ z. z)).0 after-roles).1 in
      let (channels, after-channels) = (both_quiet NoRefusal (section_answer h C Channels) _ (λ z. z)).0 after-kinds in
      let (juniors, sessions) = (both_quiet NoRefusal (section_answer h C Juniors) (section_answer h C Sessions) (λ z. z)).0 after-channels in
      (channels, juniors, sessions)

  pub owners_are_users : NoRefusal (records_answer h C) → (n : ℕ) → (item no_channel C.channels n).owner ≤ length C.users
  unfolding record_fits
  owners_are_users q =
      any_item no_channel C.channels (λ c. c.owner ≤ length C.users) (omega arith) (λ n low high.
      (in_count_lem (length C.users) _ ((and-eq-true_iff _ _).0 (fitting Channels (sections_quiet q).0 n low high)).0).1)

  pub seated_are_users : NoRefusal (records_answer h C) → (n : ℕ) → (item no_session C.sessions n).user ≤ length C.users
  unfolding record_fits
  seated_are_users q =
      any_item no_session C.sessions (λ s. s.user ≤ length C.users) (omega arith) (λ n low high.
      (in_count_lem (length C.users) _ ((and-eq-true_iff _ _).0 (fitting Sessions (sections_quiet q).2 n low high)).0).1)
