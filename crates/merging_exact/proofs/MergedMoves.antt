-- Each of two files moves into the merged file: the first as it stands, the second shifted.
use Prim.Native.Nat.{ℕ, ◌+◌}
use mathlib.Core.Path.{◌≡◌, refl, sym, ap, ap₂, ◌∙◌}
use mathlib.Core.List.{List, ◌++◌, map}
use native.Mathlib.Omega.{arith}
use lib.ListN.{length, length-append, length-map}
use Rattle.format.specs.Contents.{item, no_channel}
use Rattle.format.specs.declared.Channel.{Channel}
use Rattle.merging.specs.Merged.{shifted}
use Rattle.rules.specs.Schema.{Schema}
use Rattle.rules.specs.Names.{Bound}
use Rattle.reading_exact.specs.File.{Grants, File, InCount, WellFormed, contents_for}
use Rattle.checking_exact.specs.Tables.{schema_for}
use Rattle.checking_exact.specs.Typing.{HasKind, a_user, a_channel, a_variable, Receivable, own_channel, own_new}
use Rattle.merging_exact.specs.MergedFile.{later_channel, merged_file}
use Rattle.merging_exact.specs.Operands.{Item, Names, a_user as is-user, a_channel as is-channel, a_variable as is-variable, later, Stands}
use Rattle.merging_exact.proofs.MovedRules.{Moves}
use Rattle.merging_exact.proofs.ListParts.{item-first, item-second, item_mapped}
use Rattle.merging_exact.proofs.Shifts.{shift_user, shift_channel, shift_variable}

-- roles, with their version, and kinds are the same in both
pub record Shared (F G : File) : Type 0 where
  pub grants : F.grants ≡ G.grants
  pub kinds : F.kinds ≡ G.kinds

-- the tables with other roles and kinds
abbrev tabled : File → Grants → List ℕ → Schema
tabled F g k = schema_for (record { users = F.users; grants = g; kinds = k; channels = F.channels; sessions = F.sessions })

module _ (F G : File) where
  abbrev D : Schema
  D = schema_for F

  abbrev E : Schema
  E = schema_for (merged_file F G)

  abbrev n : ℕ
  n = length F.users

  abbrev m : ℕ
  m = length F.channels

  abbrev σ : ℕ → ℕ
  σ = shifted n m

  abbrev others : List Channel
  others = map (later_channel n) G.channels

  pub users_sum : length (merged_file F G).users ≡ length F.users + length G.users
  users_sum = length-append F.users G.users

  pub channels_sum : length (merged_file F G).channels ≡ length F.channels + length G.channels
  channels_sum = length-append F.channels others ∙ ap (λ (k : ℕ). m + k) (length-map G.channels (later_channel n))

  -- the first file's users and channels stay
  pub first_user : (u : ℕ) → InCount (length F.users) u → item 0 (merged_file F G).users u ≡ item 0 F.users u
  first_user u h = item-first 0 F.users G.users u h.1

  pub first_channel : (c : ℕ) → InCount (length F.channels) c → item no_channel (merged_file F G).channels c ≡ item no_channel F.channels c
  first_channel c h = item-first no_channel F.channels others c h.1

  -- the second's follow them, owned by users that follow the first's
  pub second_user : (u : ℕ) → InCount (length G.users) u → item 0 (merged_file F G).users (length F.users + u) ≡ item 0 G.users u
  second_user u h = item-second 0 F.users G.users u h.0

  pub second_channel : (c : ℕ) → InCount (length G.channels) c
      → item no_channel (merged_file F G).channels (length F.channels + c) ≡ later_channel (length F.users) (item no_channel G.channels c)
  second_channel c h = item-second no_channel F.channels others c h.0 ∙ item_mapped (later_channel n) G.channels c no_channel no_channel h.0 h.1

  -- what operands name: the second file's items follow the first's, which stay
  pub second_stands : WellFormed G
      → Stands (contents_for G) (contents_for (merged_file F G)) (length F.users) (length F.channels) (shifted (length F.users) (length F.channels))
  second_stands W = record { names = name; user = second_user; channel = second_channel }
    where
      name : (b x : ℕ) (i : Item) → Names (contents_for G) b x i → Names (contents_for (merged_file F G)) b (σ x) (later n m i)
      name b x i (is-user u h e) =
          is-user (n + u) (omega (arith, h.0), omega (arith, h.1, users_sum)) (ap σ e ∙ shift_user n m u (h.0, omega (arith, h.1, W.few_users)))
      name b x i (is-channel c h e) =
          is-channel (m + c) (omega (arith, h.0), omega (arith, h.1, channels_sum)) (ap σ e ∙ shift_channel n m c (h.0, omega (arith, h.1, W.few_channels)))
      name b x i (is-variable j l e) = is-variable j l (ap σ e ∙ shift_variable n m j)

  pub first_stands : Stands (contents_for F) (contents_for (merged_file F G)) 0 0 (λ x. x)
  first_stands = record { names = name; user = λ u h. ap (item 0 (F.users ++ G.users)) (none u) ∙ first_user u h; channel = owned }
    where
      none : (x : ℕ) → 0 + x ≡ x
      none x = omega arith

      name : (b x : ℕ) (i : Item) → Names (contents_for F) b x i → Names (contents_for (merged_file F G)) b x (later 0 0 i)
      name b x i (is-user u h e) = is-user (0 + u) (omega (arith, h.0), omega (arith, h.1, users_sum)) (e ∙ sym (none u))
      name b x i (is-channel c h e) = is-channel (0 + c) (omega (arith, h.0), omega (arith, h.1, channels_sum)) (e ∙ ap (λ (y : ℕ). 256 + y) (sym (none c)))
      name b x i (is-variable j l e) = is-variable j l e

      owned : (c : ℕ) → InCount m c → item no_channel (F.channels ++ others) (0 + c) ≡ later_channel 0 (item no_channel F.channels c)
      owned c h =
          let o : Channel = item no_channel F.channels c in
          ap (item no_channel (F.channels ++ others)) (none c) ∙ first_channel c h ∙ (λ i. record { owner = sym (none o.owner) i; kind = o.kind })

  pub first_moves : (u : ℕ) → InCount (length F.users) u → Moves (schema_for F) (schema_for (merged_file F G)) u u (λ x. x)
  first_moves u there = record {
    renames = record { roles = refl; kinds = refl; carries = λ k. refl; names = kind; receives = receivable };
    assigned = sym (first_user u there);
    grants = λ w r. refl;
  }
    where
      kind : (vs : List Bound) (x k : ℕ) → HasKind D vs x k → HasKind E vs x k
      kind vs x k (a_user c e) = a_user (c.0, omega (arith, c.1, users_sum)) e
      kind vs x k (a_channel c h e f) = a_channel c (h.0, omega (arith, h.1, channels_sum)) e (f ∙ ap (λ (o : Channel). o.kind.0) (sym (first_channel c h)))
      kind vs x k (a_variable i l e f) = a_variable i l e f

      receivable : (vs : List Bound) (x : ℕ) → Receivable D u vs x → Receivable E u vs x
      receivable vs x (own_channel c h e o) = own_channel c (h.0, omega (arith, h.1, channels_sum)) e (ap (λ (o : Channel). o.owner) (first_channel c h) ∙ o)
      receivable vs x (own_new i l e o) = own_new i l e o

  module _ (S : Shared F G) (W : WellFormed G) where
    pub second_moves : (u : ℕ) → InCount (length G.users) u
        → Moves (schema_for G) (schema_for (merged_file F G)) u (length F.users + u) (shifted (length F.users) (length F.channels))
    second_moves u there = record {
      renames = record {
        roles = ap (λ (T : Schema). T.roles) same;
        kinds = ap (λ (T : Schema). T.kinds) same;
        carries = λ k. ap (λ (T : Schema). T.carries k) same;
        names = kind;
        receives = receivable;
      };
      assigned = sym (second_user u there);
      grants = λ w r. ap (λ (T : Schema). T.grants w r) same;
    }
      where
        -- with the first file's roles and kinds
        same : schema_for G ≡ tabled G F.grants F.kinds
        same = ap₂ (tabled G) (sym S.grants) (sym S.kinds)

        kind : (vs : List Bound) (x k : ℕ) → HasKind (schema_for G) vs x k → HasKind E vs (σ x) k
        kind vs x k (a_user c e) =
            let s : σ x ≡ n + x = shift_user n m x (c.0, omega (arith, c.1, W.few_users)) in
            a_user (omega (arith, s, c.0), omega (arith, s, c.1, users_sum)) e
        kind vs x k (a_channel c h e f) =
            a_channel (m + c) (omega (arith, h.0), omega (arith, h.1, channels_sum)) (ap σ e ∙ shift_channel n m c (h.0, omega (arith, h.1, W.few_channels)))
            (f ∙ ap (λ (o : Channel). o.kind.0) (sym (second_channel c h)))
        kind vs x k (a_variable i l e f) = a_variable i l (ap σ e ∙ shift_variable n m i) f

        receivable : (vs : List Bound) (x : ℕ) → Receivable (schema_for G) u vs x → Receivable E (n + u) vs (σ x)
        receivable vs x (own_channel c h e o) =
            own_channel (m + c) (omega (arith, h.0), omega (arith, h.1, channels_sum)) (ap σ e ∙ shift_channel n m c (h.0, omega (arith, h.1, W.few_channels)))
            (ap (λ (o : Channel). o.owner) (second_channel c h) ∙ ap (λ (i : ℕ). n + i) o)
        receivable vs x (own_new i l e o) = own_new i l (ap σ e ∙ shift_variable n m i) o
