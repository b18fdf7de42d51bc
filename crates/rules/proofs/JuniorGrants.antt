-- Junior roles in what a file holds: what the schema grants is what the records grant, and what the tables of roles by kind have.
use mathlib.Core.Path.{◌≡◌, refl, sym, ap, ◌∙◌}
use mathlib.Core.Logic.{◌↔◌}
use mathlib.Core.Bool.{Bool, true, false, not, ◌||◌}
use Prim.Native.Nat.{ℕ, suc, ◌+◌, ◌-◌, ◌≤◌, ◌<◌}
use native.Mathlib.Omega.{arith}
use native.Mathlib.Numerals.{add-one}
use lib.Bits.{bit_and}
use lib.Dec.{eqb}
use lib.ListN.{length}
use Rattle.masks.specs.Mask.{has, NamesOnly}
use Rattle.masks.specs.declared.UserRole.{UserRole}
use Rattle.masks.specs.declared.ChannelKind.{ChannelKind}
use Rattle.masks.proofs.Laws.{has_pos}
use Rattle.masks.proofs.Meets.{meets_iff}
use Rattle.masks.proofs.OrLaws.{has_or}
use Rattle.format.specs.Contents.{Contents}
use Rattle.format.specs.declared.Role.{Role}
use Rattle.rules.specs.declared.Way.{Way}
use Rattle.rules.specs.Juniors.{Granted, Lower, effective}
use Rattle.rules.specs.Schema.{granted, own_grants, juniors_in, schema_of, permits, permitting_to}
use Rattle.rules.specs.Kept.{joins, RoleIn}
use Rattle.rules.proofs.ClosureLaws.{together_split, together_join, below, effective_at, effective_any, closure, own_only, names_kept}
use Rattle.rules.proofs.PermittedRoles.{permitting_iff}

same_test : (a b : Bool) → (a ≡ true → b ≡ true) → (b ≡ true → a ≡ true) → a ≡ b
same_test true b f g = sym (f refl)
same_test false true f g = g refl
same_test false false f g = refl

module _ (C : Contents) (w : Way) where
  -- a role permits exactly what the records grant it, through any chain of juniors
  pub grants_exactly : Lower (juniors_in C) (length C.roles) → (k r : ℕ) → 1 ≤ r → r ≤ length C.roles
      → (has ((schema_of C).grants w r) k ≡ true) ↔ Granted (own_grants C w) (juniors_in C) k r
  grants_exactly low k r pos le = closure (own_grants C w) (juniors_in C) k (length C.roles) low r pos le

  -- what its own record permits where it has no juniors, as in version 1
  pub grants_own : (r : ℕ) → juniors_in C r ≡ 0 → 1 ≤ r → r ≤ length C.roles → (schema_of C).grants w r ≡ own_grants C w r
  grants_own r none pos le = own_only (own_grants C w) (juniors_in C) (length C.roles) r none pos le

  -- and kinds in count only, where the records name no others
  pub grants_named : (kinds : ℕ) → ((r : ℕ) → 1 ≤ r → r ≤ length C.roles → NamesOnly kinds (own_grants C w r)) → (r : ℕ) → NamesOnly kinds ((schema_of C).grants w r)
  grants_named kinds names r = names_kept (own_grants C w) (juniors_in C) kinds (length C.roles) names r

-- the tables by kind
module _ (C : Contents) (w : Way) (k : ChannelKind) where
  -- the lower roles that permit the kind, and what role n + 1 has from its juniors
  abbrev among : ℕ → ℕ
  among n = permitting_to (schema_of C) w k n

  abbrev kinds : ℕ → ℕ → ℕ
  kinds n s = effective (own_grants C w) (juniors_in C) n s

  abbrev from : ℕ → ℕ
  from n = below (own_grants C w) (juniors_in C) n

  -- a junior is among the former exactly where the kind is among the latter
  junior_among : (n : ℕ) → n < length C.roles → not (eqb (bit_and (among n) (juniors_in C (suc n))) 0) ≡ has (from n) k.0
  unfolding permits
  junior_among n l = same_test (not (eqb (bit_and (among n) (juniors_in C (suc n))) 0)) (has (from n) k.0) to back
    where
      to : not (eqb (bit_and (among n) (juniors_in C (suc n))) 0) ≡ true → has (from n) k.0 ≡ true
      to h =
          let (s, a, b) = (meets_iff (among n) (juniors_in C (suc n))).0 h in
          let ((pos, le), g) = (permitting_iff (schema_of C) w k n s).0 a in
          together_join (kinds n) (juniors_in C (suc n)) n k.0 s le b
          (ap (λ (x : ℕ). has x k.0) (effective_any (own_grants C w) (juniors_in C) n (length C.roles) s le (omega arith)) ∙ g)

      back : has (from n) k.0 ≡ true → not (eqb (bit_and (among n) (juniors_in C (suc n))) 0) ≡ true
      back h =
          let (s, le, b, g) = together_split (kinds n) (juniors_in C (suc n)) n k.0 h in
          let pos = has_pos (juniors_in C (suc n)) s b in
          let q = ap (λ (x : ℕ). has x k.0) (effective_any (own_grants C w) (juniors_in C) (length C.roles) n s (omega arith) le) ∙ g in
          (meets_iff (among n) (juniors_in C (suc n))).1 (s, (permitting_iff (schema_of C) w k n s).1 ((pos, le), q), b)

  -- so a role joins them exactly where it permits the kind
  pub joins_permits : (n g j : ℕ) → n < length C.roles → g ≡ own_grants C w (n + 1) → j ≡ juniors_in C (n + 1)
      → joins g j (among n) k.0 ≡ permits (schema_of C) w (record { 0 = n + 1 }) k
  unfolding permits
  joins_permits n g j l eg ej =
      let own : ℕ = own_grants C w (suc n) in
      ap (λ (x : ℕ). joins x j (among n) k.0) (eg ∙ ap (own_grants C w) (add-one n))
      ∙ ap (λ (x : ℕ). joins own x (among n) k.0) (ej ∙ ap (juniors_in C) (add-one n))
      ∙ ap (λ b. has own k.0 || b) (junior_among n l)
      ∙ sym (has_or own (from n) k.0)
      ∙ ap (λ (x : ℕ). has x k.0) (sym (effective_at (own_grants C w) (juniors_in C) (length C.roles) n l))
      ∙ ap (λ (x : ℕ). permits (schema_of C) w (record { 0 = x }) k) (sym (add-one n))

-- of a role by its number
pub joins_exactly : (C : Contents) (w : Way) (r : UserRole) (k : ChannelKind) (it : Role) (j m : ℕ) → RoleIn C r.0 it j
    → m ≡ permitting_to (schema_of C) w k (r.0 - 1) → joins (granted w it) j m k.0 ≡ permits (schema_of C) w r k
joins_exactly C w r k it j m (pos, le, e, ej) em =
    let n : ℕ = r.0 - 1 in
    let up : r.0 ≡ n + 1 = omega arith in
    ap (λ (x : ℕ). joins (granted w it) j x k.0) em
    ∙ joins_permits C w k n (granted w it) j (omega arith) (ap (granted w) e ∙ ap (own_grants C w) up) (ej ∙ ap (juniors_in C) up)
    ∙ ap (λ (x : ℕ). permits (schema_of C) w (record { 0 = x }) k) (sym up)
