-- A record that does not fit, and what 6, 21 and 7 object to, are the same.
use Prim.Native.Nat.{ℕ, ◌-◌, ◌<◌}
use mathlib.Core.Path.{◌≡◌, refl, sym, ◌∙◌}
use mathlib.Core.Logic.{◌⊎◌, inl, inr}
use mathlib.Core.Bool.{true, false, and-eq-true_iff, not-eq-not, false≢true}
use native.Mathlib.Omega.{arith}
use lib.ListN.{length}
use borrow.Author.Tests.{leb-false, lt-leb}
use Rattle.masks.specs.Mask.{has, names_only}
use Rattle.masks.proofs.Bounds.{names_only_iff, within_iff}
use Rattle.masks.proofs.Meets.{item_above, item_outside}
use Rattle.format.specs.Contents.{Contents, in_count, item, no_role, no_channel, no_session}
use Rattle.format.specs.Sections.{place_of}
use Rattle.tables.specs.Records.{count_in, record_fits}
use Rattle.format.specs.declared.Head.{Head}
use Rattle.format.specs.declared.Section.{Section}
use Rattle.format.specs.declared.Section.TheVariants.{Users, Roles, Juniors, Kinds, Channels, Sessions}
use Rattle.format.proofs.BoolLaws.{and_fails}
use Rattle.format.proofs.ContentsLaws.{in_count_iff}
use Rattle.reading_exact.specs.File.{InCount}
use Rattle.reading_exact.specs.Refusals.{Misnamed, user, sends, receives, kind, owner, kind_of_lem, Misranked, junior, Unassigned, no_user, not_assigned}

not_in_count : (n x : ℕ) → in_count n x ≡ false → InCount n x → ⊥
not_in_count n x f c = false≢true (sym f ∙ (in_count_iff n x).1 c)

-- a mask with an item above n
item_fails : (n m x : ℕ) → has m x ≡ true → n < x → names_only n m ≡ true → ⊥
item_fails n m x h l e = omega (arith, (names_only_iff n m).0 e x h)

module _ (h : Head) (C : Contents) where
  -- a record of a section does not fit
  abbrev pub Bad : Section → ℕ → Type 0
  Bad s x = InCount (count_in s C) x × (record_fits C s x ≡ false)

  pub bad_user : (x : ℕ) → Bad Users x → Misnamed h C (place_of h Users x)
  unfolding record_fits
  bad_user x (c, e) = let (y, p, l) = item_above _ _ e in user x y c p l refl

  pub bad_role : (x : ℕ) → Bad Roles x → Misnamed h C (place_of h Roles x)
  unfolding record_fits
  bad_role x (c, e) =
      and_fails _ _ e (λ s. let (y, p, l) = item_above _ _ s in sends x y c p l refl) (λ _ r. let (y, p, l) = item_above _ _ r in receives x y c p l refl)

  pub bad_kind : (x : ℕ) → Bad Kinds x → Misnamed h C (place_of h Kinds x)
  unfolding record_fits
  bad_kind x (c, e) = kind x c (leb-false (item 0 C.kinds x) (length C.kinds) e) refl

  pub bad_channel : (x : ℕ) → Bad Channels x → Misnamed h C (place_of h Channels x)
  unfolding record_fits
  bad_channel x (c, e) = and_fails _ _ e (λ o. owner x c (not_in_count _ _ o) refl) (λ _ k. kind_of_lem x c (not_in_count _ _ k) refl)

  pub bad_juniors : (x : ℕ) → Bad Juniors x → Misranked h C (place_of h Juniors x)
  unfolding record_fits
  bad_juniors x (c, e) = let (y, p, l) = item_above _ _ e in junior x y c p (omega (arith, c, l)) refl

  pub bad_session : (x : ℕ) → Bad Sessions x → Unassigned C x
  unfolding record_fits
  bad_session x (c, e) =
      and_fails _ _ e (λ u. no_user c (not_in_count _ _ u)) (λ u m. let (y, p, q) = item_outside _ _ m in not_assigned y c ((in_count_iff _ _).0 u) p q)

  -- some record of a section has the place p
  abbrev pub BadAt : Section → ℕ → Type 0
  BadAt s p = (x : ℕ) × Bad s x × (p ≡ place_of h s x)

  pub misnamed_bad : (p : ℕ) → Misnamed h C p → BadAt Users p ⊎ (BadAt Roles p ⊎ (BadAt Kinds p ⊎ BadAt Channels p))
  unfolding record_fits
  misnamed_bad p (user n x c i l e) = inl (n, (c, not-eq-not.0 (item_fails _ _ x i l)), e)
  misnamed_bad p (sends n x c i l e) = inr (inl (n, (c, not-eq-not.0 (λ t. item_fails _ _ x i l ((and-eq-true_iff _ _).0 t).0)), e))
  misnamed_bad p (receives n x c i l e) = inr (inl (n, (c, not-eq-not.0 (λ t. item_fails _ _ x i l ((and-eq-true_iff (names_only (length C.kinds) (item no_role C.roles n).sends) _).0 t).1)), e))
  misnamed_bad p (kind n c l e) = inr (inr (inl (n, (c, lt-leb (item 0 C.kinds n) (length C.kinds) l), e)))
  misnamed_bad p (owner n c o e) = inr (inr (inr (n, (c, not-eq-not.0 (λ t. o ((in_count_iff _ _).0 ((and-eq-true_iff _ _).0 t).0))), e)))
  misnamed_bad p (kind_of_lem n c o e) = inr (inr (inr (n, (c, not-eq-not.0 (λ t. o ((in_count_iff _ _).0 ((and-eq-true_iff (in_count (length C.users) (item no_channel C.channels n).owner) _).0 t).1))), e)))

  pub misranked_bad : (p : ℕ) → Misranked h C p → BadAt Juniors p
  unfolding record_fits
  misranked_bad p (junior n x c i l e) = (n, (c, not-eq-not.0 (item_fails (n - 1) (item 0 C.juniors n) x i (omega (arith, c, l)))), e)

  pub misseated_bad : (p : ℕ) → Unassigned C p → Bad Sessions p
  unfolding record_fits
  misseated_bad p (no_user c o) = (c, not-eq-not.0 (λ t. o ((in_count_iff _ _).0 ((and-eq-true_iff _ _).0 t).0)))
  misseated_bad p (not_assigned x c u i o) =
      (c, not-eq-not.0 (λ t. false≢true (sym o ∙ (within_iff _ _).0 ((and-eq-true_iff (in_count (length C.users) (item no_session C.sessions p).user) _).0 t).1 x i)))
