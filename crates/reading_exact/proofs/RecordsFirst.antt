-- Refusals 6, 21 and 7: `records_answer` is the first of what they object to.
use Prim.Native.Nat.{ℕ, ◌≤◌}
use mathlib.Core.Path.{◌≡◌, refl, sym, ap, ◌∙◌, subst}
use mathlib.Core.Logic.{◌⊎◌, inl, inr}
use mathlib.Core.List.{List}
use native.Mathlib.Omega.{arith}
use lib.ListN.{length}
use Rattle.format.specs.Contents.{Contents, contents_at}
use Rattle.format.specs.Answers.{refused}
use Rattle.format.specs.Header.{Laid}
use Rattle.format.specs.Sections.{place_of}
use Rattle.tables.specs.Records.{count_in, record_fits, refusal_of, section_answer, records_answer}
use Rattle.format.specs.declared.Head.{Head}
use Rattle.format.specs.declared.Section.{Section}
use Rattle.format.specs.declared.Section.TheVariants.{Users, Roles, Juniors, Kinds, Channels, Sessions}
use Rattle.format.proofs.ContentsLaws.{users_held, roles_held, kinds_held}
use Rattle.reading_exact.specs.Order.{in_turn, Sooner, First}
use Rattle.reading_exact.specs.Refusals.{Misnamed, Misranked, Unassigned, reading_order}
use Rattle.reading_exact.proofs.FirstLaws.{Both, lowest, first-map, first_or, Unfit, first-of}
use Rattle.reading_exact.proofs.RecordsObjected.{Bad, BadAt, bad_user, bad_role, bad_kind, bad_channel, bad_juniors, bad_session, misnamed_bad, misranked_bad, misseated_bad}

-- 6 of a place before 6 of a later one, before 21, and before 7
six_six : {n p m q : ℕ} → n ≡ 6 → m ≡ 6 → p ≤ q → Sooner reading_order n p m q
six_six a b l = lowest reading_order _ _ _ _ (a ∙ sym b) l

six_seven : {n p m q : ℕ} → n ≡ 6 → m ≡ 7 → Sooner reading_order n p m q
six_seven a b = inl (rw (a, b) (omega arith))

six_ranks : {n p m q : ℕ} → n ≡ 6 → m ≡ 21 → Sooner reading_order n p m q
six_ranks a b = inl (rw (a, b) (omega arith))

ranks_seven : {n p m q : ℕ} → n ≡ 21 → m ≡ 7 → Sooner reading_order n p m q
ranks_seven a b = inl (rw (a, b) (omega arith))

module _ (h : Head) (C : Contents) where
  -- 6 in one section, 21, and 7; what comes from a section on
  abbrev Naming : Section → ℕ → ℕ → Type 0
  Naming s n p = (n ≡ 6) × BadAt h C s p

  abbrev Ranking : ℕ → ℕ → Type 0
  Ranking n p = (n ≡ 21) × BadAt h C Juniors p

  abbrev Seating : ℕ → ℕ → Type 0
  Seating n p = (n ≡ 7) × Bad h C Sessions p

  abbrev FromJuniors : ℕ → ℕ → Type 0
  FromJuniors = Both Ranking Seating

  abbrev FromChannels : ℕ → ℕ → Type 0
  FromChannels = Both (Naming Channels) FromJuniors

  abbrev FromKinds : ℕ → ℕ → Type 0
  FromKinds = Both (Naming Kinds) FromChannels

  abbrev FromRoles : ℕ → ℕ → Type 0
  FromRoles = Both (Naming Roles) FromKinds

  abbrev FromUsers : ℕ → ℕ → Type 0
  FromUsers = Both (Naming Users) FromRoles

  by_place : (s : Section) (k : ℕ) → refusal_of h s ≡ (λ x. refused k (place_of h s x)) → ((x y : ℕ) → x ≤ y → place_of h s x ≤ place_of h s y)
      → First reading_order (λ n p. (n ≡ k) × BadAt h C s p) (section_answer h C s)
  unfolding section_answer
  by_place s k e mono =
      rw e (first-map reading_order _ _ _ (λ n p (e, x, l, u, z, q). (e, (x, ((l, omega arith), z), q))) (λ n p (e, (x, ((l, u), z), q)). (e, x, l, omega arith, z, q))
      (first-of reading_order (record_fits C s) k (place_of h s) mono 1 (count_in s C)))

  seating : First reading_order Seating (section_answer h C Sessions)
  unfolding section_answer
  seating =
      first-map reading_order _ _ _ to back (first-of reading_order (record_fits C Sessions) 7 (λ x. x) (λ x y l. l) 1 (length C.sessions))
    where
      to : (n p : ℕ) → Unfit (record_fits C Sessions) 7 (λ x. x) 1 (length C.sessions) n p → Seating n p
      to n p (e, x, l, u, z, q) = (e, subst (Bad h C Sessions) (sym q) ((l, omega arith), z))

      back : (n p : ℕ) → Seating n p → Unfit (record_fits C Sessions) 7 (λ x. x) 1 (length C.sessions) n p
      back n p (e, ((l, u), z)) = (e, p, l, omega arith, z, refl)

  pos : (s : Section) (n p : ℕ) → Naming s n p → 1 ≤ n
  pos s n p b = omega (arith, b.0)

  module _ (f : List ℕ) (L : Laid f h) (c : C ≡ contents_at f h) where
    users : length C.users ≡ h.count.users
    users = ap (λ (X : Contents). length X.users) c ∙ users_held f h

    roles : length C.roles ≡ h.count.roles
    roles = ap (λ (X : Contents). length X.roles) c ∙ roles_held f h

    kinds : length C.kinds ≡ h.count.kinds
    kinds = ap (λ (X : Contents). length X.kinds) c ∙ kinds_held f h

    users_first : (n p m q : ℕ) → Naming Users n p → FromRoles m q → Sooner reading_order n p m q
    users_first n p m q (a, (x, (c, z), e)) (inl (b, (y, (d, w), g))) = six_six a b (omega (arith, users))
    users_first n p m q (a, (x, (c, z), e)) (inr (inl (b, (y, (d, w), g)))) = six_six a b (omega (arith, users))
    users_first n p m q (a, (x, (c, z), e)) (inr (inr (inl (b, (y, (d, w), g))))) = six_six a b (omega (arith, users))
    users_first n p m q (a, b) (inr (inr (inr (inl (c, d))))) = six_ranks a c
    users_first n p m q (a, b) (inr (inr (inr (inr (c, d))))) = six_seven a c

    roles_first : (n p m q : ℕ) → Naming Roles n p → FromKinds m q → Sooner reading_order n p m q
    roles_first n p m q (a, (x, (c, z), e)) (inl (b, (y, (d, w), g))) = six_six a b (omega (arith, roles))
    roles_first n p m q (a, (x, (c, z), e)) (inr (inl (b, (y, (d, w), g)))) = six_six a b (omega (arith, roles))
    roles_first n p m q (a, b) (inr (inr (inl (c, d)))) = six_ranks a c
    roles_first n p m q (a, b) (inr (inr (inr (c, d)))) = six_seven a c

    kinds_first : (n p m q : ℕ) → Naming Kinds n p → FromChannels m q → Sooner reading_order n p m q
    kinds_first n p m q (a, (x, (c, z), e)) (inl (b, (y, (d, w), g))) = six_six a b (omega (arith, kinds))
    kinds_first n p m q (a, b) (inr (inl (c, d))) = six_ranks a c
    kinds_first n p m q (a, b) (inr (inr (c, d))) = six_seven a c

    channels_first : (n p m q : ℕ) → Naming Channels n p → FromJuniors m q → Sooner reading_order n p m q
    channels_first n p m q (a, b) (inl (c, d)) = six_ranks a c
    channels_first n p m q (a, b) (inr (c, d)) = six_seven a c

    all_first : First reading_order FromUsers (records_answer h C)
    unfolding records_answer
    all_first =
        first_or reading_order (Naming Users) FromRoles _ _ (pos Users) users_first (by_place Users 6 refl (λ x y l. omega arith))
        (λ _. first_or reading_order (Naming Roles) FromKinds _ _ (pos Roles) roles_first (by_place Roles 6 refl (λ x y l. omega arith))
        (λ _. first_or reading_order (Naming Kinds) FromChannels _ _ (pos Kinds) kinds_first (by_place Kinds 6 refl (λ x y l. omega arith))
        (λ _. first_or reading_order (Naming Channels) FromJuniors _ _ (pos Channels) channels_first (by_place Channels 6 refl (λ x y l. omega arith))
        (λ _. first_or reading_order Ranking Seating _ _ (λ n p b. omega (arith, b.0)) (λ n p m q a b. ranks_seven a.0 b.0) (by_place Juniors 21 refl (λ x y l. omega arith)) (λ _. seating)))))

  -- what 6, 21 and 7 object to
  abbrev pub BadRecord : ℕ → ℕ → Type 0
  BadRecord n p = ((n ≡ 6) × Misnamed h C p) ⊎ (((n ≡ 21) × Misranked h C p) ⊎ ((n ≡ 7) × Unassigned C p))

  to_record : (n p : ℕ) → FromUsers n p → BadRecord n p
  to_record n p (inl (a, (x, b, e))) = inl (a, subst (Misnamed h C) (sym e) (bad_user h C x b))
  to_record n p (inr (inl (a, (x, b, e)))) = inl (a, subst (Misnamed h C) (sym e) (bad_role h C x b))
  to_record n p (inr (inr (inl (a, (x, b, e))))) = inl (a, subst (Misnamed h C) (sym e) (bad_kind h C x b))
  to_record n p (inr (inr (inr (inl (a, (x, b, e)))))) = inl (a, subst (Misnamed h C) (sym e) (bad_channel h C x b))
  to_record n p (inr (inr (inr (inr (inl (a, (x, b, e))))))) = inr (inl (a, subst (Misranked h C) (sym e) (bad_juniors h C x b)))
  to_record n p (inr (inr (inr (inr (inr (a, b)))))) = inr (inr (a, bad_session h C p b))

  of_record : (n p : ℕ) → BadRecord n p → FromUsers n p
  of_record n p (inl (a, m)) = go (misnamed_bad h C p m)
    where
      go : BadAt h C Users p ⊎ (BadAt h C Roles p ⊎ (BadAt h C Kinds p ⊎ BadAt h C Channels p)) → FromUsers n p
      go (inl b) = inl (a, b)
      go (inr (inl b)) = inr (inl (a, b))
      go (inr (inr (inl b))) = inr (inr (inl (a, b)))
      go (inr (inr (inr b))) = inr (inr (inr (inl (a, b))))
  of_record n p (inr (inl (a, m))) = inr (inr (inr (inr (inl (a, misranked_bad h C p m)))))
  of_record n p (inr (inr (a, m))) = inr (inr (inr (inr (inr (a, misseated_bad h C p m)))))

  pub records_first : (f : List ℕ) → Laid f h → C ≡ contents_at f h → First reading_order BadRecord (records_answer h C)
  records_first f L c = first-map reading_order FromUsers BadRecord (records_answer h C) to_record of_record (all_first f L c)

  -- their places in the order: 6, 21 and 7
  pub record_turn : (n p : ℕ) → BadRecord n p → (1 ≤ n) × (12 ≤ in_turn n) × (in_turn n ≤ 14)
  record_turn n p (inl r) = rw r.0 (omega arith)
  record_turn n p (inr (inl r)) = rw r.0 (omega arith)
  record_turn n p (inr (inr r)) = rw r.0 (omega arith)
