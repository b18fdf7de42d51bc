-- The file as it stands at a minute: its users' masks in words, and that it is well formed and well kinded where it was, with no role active at the start.
use Prim.Native.Nat.{ℕ, zero, suc, ◌-◌, ◌≤◌, ◌<◌}
use mathlib.Core.Path.{◌≡◌, refl, sym, ap, ◌∙◌, subst}
use mathlib.Core.Logic.{◌↔◌}
use mathlib.Core.Bool.{true, false, false≢true}
use mathlib.Core.List.{List, [], ◌∷◌, map}
use native.Mathlib.Omega.{arith}
use lib.ListN.{length, get_or, length-map}
use Rattle.masks.specs.Mask.{has, minus, NamesOnly, Within}
use Rattle.masks.proofs.Laws.{has_none, has_pos}
use Rattle.masks.proofs.Minus.{minus_iff, minus_names, none_minus}
use Rattle.format.specs.Contents.{Contents, item}
use Rattle.format.specs.Answers.{fine}
use Rattle.format.specs.declared.Verdict.{Verdict}
use Rattle.format.specs.declared.Channel.{Channel}
use Rattle.hours.specs.Hours.{shut, Open}
use Rattle.hours.proofs.ShutLaws.{open_exactly}
use Rattle.rules.specs.Checking.{names_answer}
use Rattle.placing_at.specs.PlaceAt.{open_contents}
use Rattle.placing_at.proofs.OpenLaws.{item_minus, open_names}
use Rattle.reading_exact.specs.Lists.{All}
use Rattle.reading_exact.specs.File.{roles_of, Routine, File, WellFormed, InCount, contents_for}
use Rattle.reading_exact.proofs.AllLaws.{all_map, all_get}
use Rattle.checking_exact.specs.Tables.{schema_for}
use Rattle.checking_exact.specs.Typing.{WellKinded}
use Rattle.checking_exact.proofs.OperandKinds.{Ranged}
use Rattle.checking_exact.proofs.FileRules.{names_ranged, names_iff, ranged}
use Rattle.placing_exact.specs.Placed.{Bare}
use Rattle.placing_exact.proofs.PlacingExact.{Ready}
use Rattle.hours_exact.specs.OpenFile.{open_file}

-- what it holds
pub contents_open : (t : List ℕ) (m : ℕ) (F : File) → contents_for (open_file t m F) ≡ open_contents (shut t m) (contents_for F)
contents_open t m F = refl

-- a user's roles are those of the file
role_in_count : (F : File) → WellFormed F → (u r : ℕ) → has (item 0 F.users u) r ≡ true → r ≤ 16
unfolding item
role_in_count F W zero r h = absurd (false≢true (sym (has_none r) ∙ h))
role_in_count F W (suc u) r h = got F.users W.users_fit u h
  where
    got : (us : List ℕ) → All (λ mask. NamesOnly (length (roles_of F.grants)) mask) us → (u : ℕ) → has (get_or us u 0) r ≡ true → r ≤ 16
    got [] fits u h = absurd (false≢true (sym (has_none r) ∙ h))
    got (mask ∷ us) fits zero h = omega (arith, fits.0 r h, W.few_roles)
    got (mask ∷ us) fits (suc u) h = got us fits.1 u h

-- each user has exactly the open ones of the roles assigned
pub open_masks : (t : List ℕ) (m : ℕ) (F : File) → WellFormed F → (u r : ℕ)
    → (has (item 0 (open_file t m F).users u) r ≡ true) ↔ ((has (item 0 F.users u) r ≡ true) × Open t m r)
open_masks t m F W u r = (
  λ h.
      let (i, o) = (minus_iff (item 0 F.users u) (shut t m) r).0 (sym (ap (λ (k : ℕ). has k r) (item_minus (shut t m) F.users u)) ∙ h) in
      (i, (open_exactly t m r (has_pos (item 0 F.users u) r i) (role_in_count F W u r i)).0 o),
  λ (i, o).
      ap (λ (k : ℕ). has k r) (item_minus (shut t m) F.users u)
      ∙ (minus_iff (item 0 F.users u) (shut t m) r).1 (i, (open_exactly t m r (has_pos (item 0 F.users u) r i) (role_in_count F W u r i)).1 o),
)

module _ (t : List ℕ) (m : ℕ) (F : File) where
  abbrev G : File
  G = open_file t m F

  pub users_open : length (open_file t m F).users ≡ length F.users
  users_open = length-map F.users (λ mask. minus mask (shut t m))

  all_minus : (P : ℕ → Type 0) → ((k : ℕ) → P k → P (minus k (shut t m))) → (us : List ℕ) → All P us → All P (map (λ mask. minus mask (shut t m)) us)
  all_minus P keep [] h = tt
  all_minus P keep (k ∷ us) h = (keep k h.0, all_minus P keep us h.1)

  -- the rules' ranges do not change
  pub ranged_open : WellFormed F → Ranged (schema_for (open_file t m F))
  ranged_open W = record { users = omega (arith, users_open, W.few_users); channels = omega (arith, W.few_channels) }

  -- where no role is active at the start
  pub formed_open : WellFormed F → All (λ (s : Routine). s.mask ≡ 0) F.sessions → WellFormed (open_file t m F)
  formed_open W idle = record {
    few_users = omega (arith, users_open, W.few_users);
    few_roles = W.few_roles;
    few_kinds = W.few_kinds;
    few_channels = W.few_channels;
    few_sessions = W.few_sessions;
    few_nodes = W.few_nodes;
    users_fit = all_minus (λ mask. NamesOnly (length (roles_of F.grants)) mask) (λ k. minus_names (length (roles_of F.grants)) k (shut t m)) F.users W.users_fit;
    roles_fit = W.roles_fit;
    juniors_fit = W.juniors_fit;
    kinds_fit_lem = W.kinds_fit_lem;
    channels_fit = all_map owners F.channels W.channels_fit;
    sessions_fit = seated F.sessions W.sessions_fit idle;
    trees_fit = W.trees_fit;
  }
    where
      counted : (u : ℕ) → InCount (length F.users) u → InCount (length G.users) u
      counted u (a, b) = (a, omega (arith, b, users_open))

      owners : (c : Channel) → InCount (length F.users) c.owner × InCount (length F.kinds) c.kind.0
          → InCount (length G.users) c.owner × InCount (length F.kinds) c.kind.0
      owners c (a, b) = (counted c.owner a, b)

      none : (k all : ℕ) → k ≡ 0 → Within k all
      none k all z x h = absurd (false≢true (sym (ap (λ (j : ℕ). has j x) z ∙ has_none x) ∙ h))

      seated : (ss : List Routine) → All (λ s. InCount (length F.users) s.user × Within s.mask (get_or F.users (s.user - 1) 0)) ss → All (λ (s : Routine). s.mask ≡ 0) ss
          → All (λ s. InCount (length G.users) s.user × Within s.mask (get_or G.users (s.user - 1) 0)) ss
      seated [] h z = tt
      seated (s ∷ ss) h z = ((counted s.user h.0.0, none s.mask (get_or G.users (s.user - 1) 0) z.0), seated ss h.1 z.1)

  pub kinded_open : WellFormed F → WellKinded F → WellKinded (open_file t m F)
  kinded_open W N = (names_ranged (open_file t m F) (ranged_open W)).0 (open_names (shut t m) (contents_for F) ∙ (names_iff F W).1 N)

  pub ready_open : Ready F → Ready (open_file t m F)
  ready_open r = record {
    formed = formed_open r.formed (all_map (λ s h. h.0) F.sessions r.bare);
    named = kinded_open r.formed r.named;
    bare = r.bare;
  }
