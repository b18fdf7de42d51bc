-- The tests of tables and sums say what they mean.
use Prim.Native.Nat.{ℕ, ◌+◌, ◌/◌, ◌%◌}
use mathlib.Core.Path.{◌≡◌, refl, ap, ap₂}
use mathlib.Core.Logic.{◌↔◌}
use mathlib.Core.Bool.{true, and-eq-true_iff, false≢true}
use mathlib.Core.List.{List, [], ◌∷◌}
use native.Mathlib.Omega.{arith}
use lib.Dec.{eqb}
use lib.ListN.{length}
use borrow.Author.Tests.{eqb-true, eq-eqb}
use Rattle.format.specs.Contents.{Contents}
use Rattle.format.specs.Writing.{role_words}
use Rattle.format.specs.declared.Role.{Role}
use Rattle.format.proofs.BoolLaws.{le_iff, and_iff}
use Rattle.merging.specs.Merged.{same_words, same_tables, sums_fit}
use Rattle.merging_exact.specs.Sums.{SameTables, SumsFit}

words_iff : (xs ys : List ℕ) → (same_words xs ys ≡ true) ↔ (xs ≡ ys)
unfolding same_words
words_iff [] [] = (λ h. refl, λ h. refl)
words_iff [] (y ∷ ys) = (λ h. absurd (false≢true h), λ h. let no : ◌≡◌ {A = ℕ} 0 1 = cc in absurd (omega arith))
words_iff (x ∷ xs) [] = (λ h. absurd (false≢true h), λ h. let no : ◌≡◌ {A = ℕ} 0 1 = cc in absurd (omega arith))
words_iff (x ∷ xs) (y ∷ ys) = (
  λ h.
      let (e, t) = (and-eq-true_iff (eqb x y) (same_words xs ys)).0 h in
      ap₂ {C = List ℕ} (λ a l. a ∷ l) (eqb-true x y e) ((words_iff xs ys).0 t),
  λ h.
      let e : x ≡ y = cc in
      let t : xs ≡ ys = cc in
      (and-eq-true_iff (eqb x y) (same_words xs ys)).1 (eq-eqb x y e, (words_iff xs ys).1 t),
)

-- a role's four words are the role
roles_back : (rs ss : List Role) → role_words rs ≡ role_words ss → rs ≡ ss
unfolding role_words
roles_back [] [] h = refl
roles_back [] (s ∷ ss) h = let no : ◌≡◌ {A = ℕ} 0 1 = cc in absurd (omega arith)
roles_back (r ∷ rs) [] h = let no : ◌≡◌ {A = ℕ} 0 1 = cc in absurd (omega arith)
roles_back (r ∷ rs) (s ∷ ss) h =
    let a : r.sends % 65536 ≡ s.sends % 65536 = cc in
    let b : r.sends / 65536 ≡ s.sends / 65536 = cc in
    let c : r.receives % 65536 ≡ s.receives % 65536 = cc in
    let d : r.receives / 65536 ≡ s.receives / 65536 = cc in
    let sends : r.sends ≡ s.sends = omega (arith, a, b) in
    let receives : r.receives ≡ s.receives = omega (arith, c, d) in
    let first : r ≡ s = (λ i. record { sends = sends i; receives = receives i }) in
    ap₂ {C = List Role} (λ x l. x ∷ l) first (roles_back rs ss cc)

module _ (C D : Contents) where
  pub tables_iff : (same_tables C D ≡ true) ↔ SameTables C D
  unfolding same_tables
  tables_iff =
      let (to, from) = and_iff (words_iff (role_words C.roles) (role_words D.roles)) (λ e. words_iff C.kinds D.kinds) in (
        λ h. let (r, k) = to h in record { roles = roles_back C.roles D.roles r; kinds = k },
        λ S. from (ap role_words S.roles, S.kinds),
      )

  pub sums_iff : (sums_fit C D ≡ true) ↔ SumsFit C D
  sums_iff =
      let (to, from) = and_iff (and_iff (and_iff (le_iff (length C.users + length D.users) 32) (λ a. le_iff (length C.channels + length D.channels) 64))
      (λ a. le_iff (length C.sessions + length D.sessions) 32)) (λ a. le_iff (length C.nodes + length D.nodes) 1024) in (
        λ h. let (((u, c), s), n) = to h in record { users = u; channels = c; sessions = s; nodes = n },
        λ S. from (((S.users, S.channels), S.sessions), S.nodes),
      )
