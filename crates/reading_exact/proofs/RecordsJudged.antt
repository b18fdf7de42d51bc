-- Records against the refusals 6, 21 and 7: none is refused where every record names only what exists, and only there.
use Prim.Native.Nat.{ℕ, zero, suc, ◌-◌, ◌≤◌, ◌<◌}
use mathlib.Core.Path.{◌≡◌, refl, subst}
use mathlib.Core.Logic.Iff
use mathlib.Core.Logic.{◌↔◌}
use mathlib.Core.Bool.{Bool, true, ◌&&◌}
use mathlib.Core.List.{List}
use native.Mathlib.Omega.{arith}
use lib.ListN.{length, get_or}
use lib.Dec.{leb}
use Rattle.masks.specs.Mask.{has, names_only, NamesOnly, within, Within}
use Rattle.masks.proofs.Bounds.{names_only_iff, within_iff}
use Rattle.format.specs.Contents.{Contents, tabled, in_count, item, no_role, no_channel, no_session}
use Rattle.format.specs.Answers.{first_of}
use Rattle.tables.specs.Records.{record_fits, refusal_of, section_answer, records_answer}
use Rattle.format.specs.declared.Head.{Head}
use Rattle.format.specs.declared.Verdict.{Verdict}
use Rattle.format.specs.declared.Role.{Role}
use Rattle.format.specs.declared.Channel.{Channel}
use Rattle.format.specs.declared.Session.{Session}
use Rattle.format.specs.declared.Section.TheVariants.{Users, Roles, Juniors, Kinds, Channels, Sessions}
use Rattle.format.proofs.BoolLaws.{le_iff, and_iff}
use Rattle.format.proofs.AnswerLaws.{first_quiet}
use Rattle.format.proofs.ContentsLaws.{in_count_iff, item_get, all_items}
use Rattle.reading_exact.specs.Lists.{All}
use Rattle.reading_exact.specs.File.{InCount, LowerFrom}
use Rattle.reading_exact.proofs.AllLaws.{all-iff}
use Rattle.reading_exact.proofs.FirstLaws.{both_zero}

module _ {A : Type 0} (z : A) where
  module _ (test : A → Bool) (refusal : ℕ → Verdict) (some : (n : ℕ) → 1 ≤ (refusal n).number) where
    all_from : (g : ℕ → A) (i k : ℕ) → ((first_of (λ n. test (g n)) refusal i k).number ≡ 0) ↔ All (λ x. test x ≡ true) (tabled g i k)
    unfolding first_of tabled
    all_from g i zero = (λ e. tt, λ e. refl)
    all_from g i (suc k) =
        let one = first_quiet (λ n. test (g n)) refusal some i k in
        let rest = all_from g (suc i) k in
        (λ e. ((one.0 e).0, rest.0 (one.0 e).1), λ a. one.1 (a.0, rest.1 a.1))

    -- a section is not refused where every record fits, and only there
    pub section_iff : (xs : List A) → ((first_of (λ n. test (item z xs n)) refusal 1 (length xs)).number ≡ 0) ↔ All (λ x. test x ≡ true) xs
    section_iff xs =
        subst (λ (l : List A). ((first_of (λ n. test (item z xs n)) refusal 1 (length xs)).number ≡ 0) ↔ All (λ x. test x ≡ true) l) (all_items z xs)
        (all_from (item z xs) 1 (length xs))

-- a role's juniors have lower numbers
lower_mask : (i m : ℕ) → 1 ≤ i → (names_only (i - 1) m ≡ true) ↔ ((x : ℕ) → has m x ≡ true → x < i)
lower_mask i m pos =
    let (to, back) = names_only_iff (i - 1) m in
    (λ e x p. omega (arith, to e x p), λ h. back (λ x p. omega (arith, h x p)))

lower_from : (refusal : ℕ → Verdict) → ((n : ℕ) → 1 ≤ (refusal n).number) → (g : ℕ → ℕ) (i k : ℕ) → 1 ≤ i
    → ((first_of (λ n. names_only (n - 1) (g n)) refusal i k).number ≡ 0) ↔ LowerFrom i (tabled g i k)
unfolding first_of tabled
lower_from refusal some g i zero pos = (λ e. tt, λ e. refl)
lower_from refusal some g i (suc k) pos =
    let one = first_quiet (λ n. names_only (n - 1) (g n)) refusal some i k in
    let here = lower_mask i (g i) pos in
    let rest = lower_from refusal some g (suc i) k (omega arith) in
    (λ e. (here.0 (one.0 e).0, rest.0 (one.0 e).1), λ a. one.1 (here.1 a.0, rest.1 a.1))

-- a session's user exists, and its starting roles are assigned to that user
abbrev pub Seated : List ℕ → ℕ → ℕ → Type 0
Seated users user mask = InCount (length users) user × Within mask (get_or users (user - 1) 0)

-- records that name only what exists
pub record RecordsFit (C : Contents) : Type 0 where
  pub users_fit : All (λ m. NamesOnly (length C.roles) m) C.users
  pub roles_fit : All (λ r. NamesOnly (length C.kinds) r.sends × NamesOnly (length C.kinds) r.receives) C.roles
  pub juniors_fit : LowerFrom 1 C.juniors
  pub kinds_fit_lem : All (λ k. k ≤ length C.kinds) C.kinds
  pub channels_fit : All (λ c. InCount (length C.users) c.owner × InCount (length C.kinds) c.kind.0) C.channels
  pub sessions_fit : All (λ s. Seated C.users s.user s.mask) C.sessions

module _ (h : Head) (C : Contents) where
  abbrev users : ℕ
  users = length C.users

  abbrev kinds : ℕ
  kinds = length C.kinds

  users_iff : ((section_answer h C Users).number ≡ 0) ↔ All (λ m. NamesOnly (length C.roles) m) C.users
  unfolding section_answer record_fits
  users_iff =
      Iff.trans (section_iff 0 (names_only (length C.roles)) (refusal_of h Users) (λ n. omega arith) C.users)
      (all-iff C.users (names_only_iff (length C.roles)))

  roles_iff : ((section_answer h C Roles).number ≡ 0) ↔ All (λ r. NamesOnly kinds r.sends × NamesOnly kinds r.receives) C.roles
  unfolding section_answer record_fits
  roles_iff =
      let test : Role → Bool = (λ r. names_only kinds r.sends && names_only kinds r.receives) in
      Iff.trans (section_iff no_role test (refusal_of h Roles) (λ n. omega arith) C.roles)
      (all-iff C.roles (λ r. and_iff (names_only_iff kinds r.sends) (λ p. names_only_iff kinds r.receives)))

  juniors_iff : ((section_answer h C Juniors).number ≡ 0) ↔ LowerFrom 1 C.juniors
  unfolding section_answer record_fits
  juniors_iff =
      subst (λ (l : List ℕ). ((first_of (record_fits C Juniors) (refusal_of h Juniors) 1 (length C.juniors)).number ≡ 0) ↔ LowerFrom 1 l) (all_items 0 C.juniors)
      (lower_from (refusal_of h Juniors) (λ n. omega arith) (item 0 C.juniors) 1 (length C.juniors) (omega arith))

  kinds_iff : ((section_answer h C Kinds).number ≡ 0) ↔ All (λ k. k ≤ kinds) C.kinds
  unfolding section_answer record_fits
  kinds_iff =
      Iff.trans (section_iff 0 (λ k. leb k kinds) (refusal_of h Kinds) (λ n. omega arith) C.kinds) (all-iff C.kinds (λ k. le_iff k kinds))

  channels_iff : ((section_answer h C Channels).number ≡ 0) ↔ All (λ c. InCount users c.owner × InCount kinds c.kind.0) C.channels
  unfolding section_answer record_fits
  channels_iff =
      let test : Channel → Bool = (λ c. in_count users c.owner && in_count kinds c.kind.0) in
      Iff.trans (section_iff no_channel test (refusal_of h Channels) (λ n. omega arith) C.channels)
      (all-iff C.channels (λ c. and_iff (in_count_iff users c.owner) (λ p. in_count_iff kinds c.kind.0)))

  -- the roles assigned to a user that exists
  assigned_iff : (x m : ℕ) → InCount users x → (within m (item 0 C.users x) ≡ true) ↔ Within m (get_or C.users (x - 1) 0)
  assigned_iff x m e =
      subst (λ (all : ℕ). (within m (item 0 C.users x) ≡ true) ↔ Within m all) (item_get 0 C.users x e.0) (within_iff m (item 0 C.users x))

  sessions_iff : ((section_answer h C Sessions).number ≡ 0) ↔ All (λ s. Seated C.users s.user s.mask) C.sessions
  unfolding section_answer record_fits
  sessions_iff =
      let test : Session → Bool = (λ s. in_count users s.user && within s.mask (item 0 C.users s.user)) in
      Iff.trans (section_iff no_session test (refusal_of h Sessions) (λ n. omega arith) C.sessions)
      (all-iff C.sessions (λ s. and_iff (in_count_iff users s.user) (assigned_iff s.user s.mask)))

  pub records_iff : ((records_answer h C).number ≡ 0) ↔ RecordsFit C
  unfolding records_answer
  records_iff =
      let from-juniors = Iff.trans (both_zero _ _) (Iff.and juniors_iff sessions_iff) in
      let from-channels = Iff.trans (both_zero _ _) (Iff.and channels_iff from-juniors) in
      let from-kinds = Iff.trans (both_zero _ _) (Iff.and kinds_iff from-channels) in
      let from-roles = Iff.trans (both_zero _ _) (Iff.and roles_iff from-kinds) in
      let all = Iff.trans (both_zero _ _) (Iff.and users_iff from-roles) in (
        λ z.
            let (users, (roles, (kinds, (channels, (juniors, sessions))))) = all.0 z in
            record { users_fit = users; roles_fit = roles; juniors_fit = juniors; kinds_fit_lem = kinds; channels_fit = channels; sessions_fit = sessions },
        λ t. all.1 (t.users_fit, (t.roles_fit, (t.kinds_fit_lem, (t.channels_fit, (t.juniors_fit, t.sessions_fit))))),
      )
