-- What the rules ask of a file is what its words say, and what a role may do what its record's words say, and its juniors', through any chain of them.
use Prim.Native.Nat.{ℕ, zero, suc, ◌+◌, ◌*◌, ◌-◌, ◌/◌, ◌%◌, ◌^◌, ◌≤◌, ◌<◌}
use mathlib.Core.Path.{◌≡◌, refl, sym, ap, ◌∙◌}
use mathlib.Core.Logic.{◌↔◌}
use mathlib.Core.Bool.{Bool, true, false, cond, true≢false}
use mathlib.Core.List.{List}
use native.Mathlib.Omega.{arith}
use lib.Dec.{ltb}
use lib.ListN.{length}
use lib.Pow.{shr-shr, field, mod-mod-pow}
use borrow.Author.Tests.{ltb-true, ltb-false}
use Rattle.masks.specs.Mask.{has}
use Rattle.format.specs.Header.{has_juniors}
use Rattle.format.specs.Words.{word_at}
use Rattle.format.specs.Contents.{Contents, contents_of}
use Rattle.format.specs.declared.Role.{Role}
use Rattle.format.specs.declared.Channel.{Channel}
use Rattle.format.proofs.BoolLaws.{eq_iff}
use Rattle.format.proofs.HeadLaws.{juniors_iff}
use Rattle.rules.specs.declared.Way.{Way}
use Rattle.rules.specs.declared.Way.TheVariants.{Sends, Receives}
use Rattle.rules.specs.Juniors.{Granted, Lower}
use Rattle.rules.specs.Schema.{own_grants, juniors_in, schema_of, permits}
use Rattle.rules.proofs.ClosureLaws.{granted_same}
use Rattle.rules.proofs.JuniorGrants.{grants_exactly, grants_own}
use Rattle.reading_exact.specs.Lists.{All}
use Rattle.reading_exact.specs.File.{InCount}
use Rattle.reading_exact.specs.ByWords.{record_word, CountedByWords, ByWords}
use Rattle.reading_exact.specs.Refusals.{Refusable, misranked, junior}
use Rattle.reading_exact.proofs.Bytes.{small_words}
use Rattle.reading_exact.proofs.RecordWords.{counted_by_words, by_words}
use Rattle.checking_exact.specs.ByWords.{TablesByWords, Bit, May, own_mask, junior_mask, GrantedByWords}

pub tables_by_words : (f : List ℕ) → TablesByWords f (schema_of (contents_of f))
tables_by_words f = record {
  users = n.users;
  roles = n.roles;
  kinds = n.kinds;
  channels = n.channels;
  assigned = w.user;
  carries = w.kind;
  owner = λ c within. ap (λ (x : Channel). x.owner) (w.channel c within);
  kind = λ c within. ap (λ (x : Channel). x.kind.0) (w.channel c within);
}
  where
    n : CountedByWords f
    n = counted_by_words f

    w : ByWords f
    w = by_words f

-- an item is a bit, and 0 is none
pub has_bit : (m x : ℕ) → 1 ≤ x → (has m x ≡ true) ↔ Bit m (x - 1)
unfolding has
has_bit m zero h = let no : ⊥ = omega arith in absurd no
has_bit m (suc k) h = let e : suc k - 1 ≡ k = omega arith in rw e (eq_iff (m / 2 ^ k % 2) 1)

pub has_zero : (m : ℕ) → has m 0 ≡ false
unfolding has
has_zero m = refl

-- the bits of two words as one number: those of the low word, then those of the high one
low_bit : (lo hi k : ℕ) → lo < 65536 → k < 16 → (lo + 65536 * hi) / 2 ^ k % 2 ≡ lo / 2 ^ k % 2
low_bit lo hi k small l =
    let n : ℕ = lo + 65536 * hi in
    let j : ℕ = 15 - k in
    let all : suc j + k ≡ 16 = omega (arith, l) in
    let one : suc j ≡ j + 1 = omega arith in
    let own : n % 2 ^ 16 ≡ lo = omega (arith, small) in
    let cut : n / 2 ^ k % 2 ^ suc j ≡ lo / 2 ^ k = sym (field n (suc j) k) ∙ ap (λ x. n % 2 ^ x / 2 ^ k) all ∙ ap (λ x. x / 2 ^ k) own in
    sym (mod-mod-pow (n / 2 ^ k) j 1) ∙ ap (λ x. n / 2 ^ k % 2 ^ x % 2) (sym one) ∙ ap (λ x. x % 2) cut

high_bit : (lo hi k : ℕ) → lo < 65536 → (lo + 65536 * hi) / 2 ^ (16 + k) % 2 ≡ hi / 2 ^ k % 2
high_bit lo hi k small =
    let n : ℕ = lo + 65536 * hi in
    let own : n / 2 ^ 16 ≡ hi = omega (arith, small) in
    ap (λ x. x % 2) (sym (shr-shr n 16 k) ∙ ap (λ x. x / 2 ^ k) own)

module _ (lo hi : ℕ) (small : lo < 65536) where
  low_item : (k : ℕ) → 1 ≤ k → k ≤ 16 → (has (lo + 65536 * hi) k ≡ true) ↔ Bit lo (k - 1)
  low_item k pos le =
      let same = low_bit lo hi (k - 1) small (omega arith) in
      let both = has_bit (lo + 65536 * hi) k pos in
      (λ h. sym same ∙ both.0 h, λ b. both.1 (same ∙ b))

  high_item : (k : ℕ) → 17 ≤ k → k ≤ 32 → (has (lo + 65536 * hi) k ≡ true) ↔ Bit hi (k - 17)
  high_item k pos le =
      let split : k - 1 ≡ 16 + (k - 17) = omega arith in
      let same : (lo + 65536 * hi) / 2 ^ (k - 1) % 2 ≡ hi / 2 ^ (k - 17) % 2 = ap (λ x. (lo + 65536 * hi) / 2 ^ x % 2) split ∙ high_bit lo hi (k - 17) small in
      let both = has_bit (lo + 65536 * hi) k (omega arith) in
      (λ h. sym same ∙ both.0 h, λ b. both.1 (same ∙ b))

module _ (f : List ℕ) where
  abbrev C : Contents
  C = contents_of f

  -- roles in count, by the head's word
  within : (r : ℕ) → r ≤ length C.roles → r ≤ word_at f 2
  within r le = omega (arith, le, (counted_by_words f).roles)

  own_words : (w : Way) (r : ℕ) → 1 ≤ r → r ≤ length C.roles → own_grants C w r ≡ own_mask f w r
  own_words Sends r pos le = ap (λ (x : Role). x.sends) ((by_words f).role r (pos, within r le))
  own_words Receives r pos le = ap (λ (x : Role). x.receives) ((by_words f).role r (pos, within r le))

  junior_words : (r : ℕ) → 1 ≤ r → r ≤ length C.roles → juniors_in C r ≡ junior_mask f r
  junior_words r pos le = go (has_juniors (word_at f 0)) refl
    where
      go : (b : Bool) → has_juniors (word_at f 0) ≡ b → juniors_in C r ≡ cond b (record_word f 9 1 r 0) 0
      go true e = (by_words f).juniors r (pos, within r le) ((juniors_iff (word_at f 0)).0 e)
      go false e = (by_words f).no_juniors r (pos, within r le) (λ j. true≢false (sym ((juniors_iff (word_at f 0)).1 j) ∙ e))

  -- where 21 objects to nothing, juniors have lower numbers
  ranked : ((p : ℕ) → Refusable f 21 p → ⊥) → Lower (juniors_in C) (length C.roles)
  ranked none r pos le s q = go (ltb s r) refl
    where
      go : (b : Bool) → ltb s r ≡ b → s < r
      go true e = ltb-true s r e
      go false e =
          let n : CountedByWords f = counted_by_words f in
          absurd (none _ (misranked refl (junior r s (pos, omega (arith, le, n.roles, n.juniors)) q (ltb-false s r e) refl)))

  pub granted_exactly : ((p : ℕ) → Refusable f 21 p → ⊥) → (w : Way) (r k : ℕ) → InCount (word_at f 2) r → May f w r k ↔ Granted (own_mask f w) (junior_mask f) k r
  unfolding permits
  granted_exactly none w r k (pos, le) = (λ h. to (both.0 h), λ g. both.1 (back g))
    where
      few : r ≤ length C.roles
      few = omega (arith, le, (counted_by_words f).roles)

      both : (has ((schema_of C).grants w r) k ≡ true) ↔ Granted (own_grants C w) (juniors_in C) k r
      both = grants_exactly C w (ranked none) k r pos few

      to : Granted (own_grants C w) (juniors_in C) k r → Granted (own_mask f w) (junior_mask f) k r
      to = granted_same (own_grants C w) (juniors_in C) (own_mask f w) (junior_mask f) k (length C.roles) (own_words w) junior_words (ranked none) r pos few

      back : Granted (own_mask f w) (junior_mask f) k r → Granted (own_grants C w) (juniors_in C) k r
      back =
          granted_same (own_mask f w) (junior_mask f) (own_grants C w) (juniors_in C) k (length C.roles)
          (λ s a b. sym (own_words w s a b)) (λ s a b. sym (junior_words s a b))
          (λ s a b x q. ranked none s a b x (ap (λ (m : ℕ). has m x) (junior_words s a b) ∙ q)) r pos few

  pub granted_by_words : All (λ b. b < 256) f → (r : ℕ) → InCount (word_at f 2) r → junior_mask f r ≡ 0 → GrantedByWords f r
  unfolding permits
  granted_by_words bytes r (pos, le) none = record {
    sends_low = λ k a b. rw (own Sends) (low_item (record_word f 8 4 r 0) (record_word f 8 4 r 1) (small_words f bytes _) k a b);
    sends_high = λ k a b. rw (own Sends) (high_item (record_word f 8 4 r 0) (record_word f 8 4 r 1) (small_words f bytes _) k a b);
    receives_low = λ k a b. rw (own Receives) (low_item (record_word f 8 4 r 2) (record_word f 8 4 r 3) (small_words f bytes _) k a b);
    receives_high = λ k a b. rw (own Receives) (high_item (record_word f 8 4 r 2) (record_word f 8 4 r 3) (small_words f bytes _) k a b);
  }
    where
      few : r ≤ length C.roles
      few = omega (arith, le, (counted_by_words f).roles)

      own : (w : Way) → (schema_of C).grants w r ≡ own_mask f w r
      own w = grants_own C w r (junior_words r pos few ∙ none) pos few ∙ own_words w r pos few
