-- Tables that agree on all but their users, and on one user's roles, place a tree of that user alike.
use Prim.Native.Nat.{ℕ}
use mathlib.Core.Path.{◌≡◌, refl, sym, ap, ◌∙◌}
use mathlib.Core.List.{List, []}
use native.Mathlib.Omega.{arith}
use Rattle.format.specs.Contents.{item}
use Rattle.rules.specs.Schema.{Schema}
use Rattle.rules.specs.Names.{Bound}
use Rattle.reading_exact.specs.Tree.{Tree}
use Rattle.reading_exact.specs.File.{File}
use Rattle.checking_exact.specs.Tables.{schema_for}
use Rattle.checking_exact.specs.Typing.{HasKind, a_user, a_channel, a_variable, Receivable, own_channel, own_new, Kinded}
use Rattle.checking_exact.proofs.OperandKinds.{Ranged}
use Rattle.optimum.specs.Optimum.{Bin, States, choose}
use Rattle.states.specs.States.{Label, cost}
use Rattle.placing_exact.specs.Placed.{labels, insert, taking, placed_tree}
use Rattle.hours_exact.specs.OpenFile.{with_users}
use Rattle.merging_exact.proofs.MovedTrees.{moved_same}
use Rattle.merging_exact.proofs.MovedRules.{Moves}
use Rattle.merging_exact.proofs.MovedLabels.{labels_moved}
use Rattle.merging_exact.proofs.MovedPlaced.{inserted, insert_inserted}

abbrev pub tables_with : List ℕ → File → Schema
tables_with us F = schema_for (with_users us F)

-- with as many users as operands can name: the tables move into it, whatever their own number of users is
abbrev wide : Schema → Schema
wide E = record {
  users = 256;
  roles = E.roles;
  kinds = E.kinds;
  channels = E.channels;
  assigned = E.assigned;
  grants = E.grants;
  carries = E.carries;
  owner = E.owner;
  kind = E.kind;
}

wide_ranged : (E : Schema) → Ranged E → Ranged (wide E)
wide_ranged E R = record { users = omega arith; channels = R.channels }

module _ (F : File) (us vs : List ℕ) (u : ℕ) (mask : item 0 us u ≡ item 0 vs u) (R : Ranged (tables_with us F)) (S : Ranged (tables_with vs F)) where
  abbrev D : Schema
  D = tables_with us F

  abbrev E : Schema
  E = wide (tables_with vs F)

  moves_wide : Moves D E u u (λ x. x)
  moves_wide = record {
    renames = record { roles = refl; kinds = refl; carries = λ k. refl; names = kind; receives = receivable };
    assigned = mask;
    grants = λ w r. refl;
  }
    where
      kind : (bs : List Bound) (x k : ℕ) → HasKind D bs x k → HasKind E bs x k
      kind bs x k (a_user c e) = a_user (c.0, omega (arith, c.1, R.users)) e
      kind bs x k (a_channel c n e f) = a_channel c n e f
      kind bs x k (a_variable i l e f) = a_variable i l e f

      receivable : (bs : List Bound) (x : ℕ) → Receivable D u bs x → Receivable E u bs x
      receivable bs x (own_channel c n e o) = own_channel c n e o
      receivable bs x (own_new i l e o) = own_new i l e o

  labels_wide : (t : Tree) → Kinded D u [] t → labels D u [] t ≡ labels E u [] t
  labels_wide t k = labels_moved D E u u (λ x. x) moves_wide R (wide_ranged (tables_with vs F) S) [] t k ∙ ap (labels E u []) (moved_same t)

module _ (F : File) (us vs : List ℕ) (u : ℕ) (mask : item 0 us u ≡ item 0 vs u) (R : Ranged (tables_with us F)) (S : Ranged (tables_with vs F)) where
  labels_alike : (t : Tree) → Kinded (tables_with us F) u [] t → Kinded (tables_with vs F) u [] t → labels (tables_with us F) u [] t ≡ labels (tables_with vs F) u [] t
  labels_alike t k l = labels_wide F us vs u mask R S t k ∙ sym (labels_wide F vs vs u refl S S t l)

  -- by any rule that takes states from what placing sees
  rule_alike : (rule : (b : Bin Label) → States b) (t : Tree) → Kinded (tables_with us F) u [] t → Kinded (tables_with vs F) u [] t
      → insert (tables_with us F) u 0 [] t (rule (labels (tables_with us F) u [] t)) ≡ insert (tables_with vs F) u 0 [] t (rule (labels (tables_with vs F) u [] t))
  rule_alike rule t k l =
      insert_inserted (tables_with us F) u 0 [] t (rule (labels (tables_with us F) u [] t))
      ∙ ap (λ (b : Bin Label). inserted 0 t b (rule b)) (labels_alike t k l)
      ∙ sym (insert_inserted (tables_with vs F) u 0 [] t (rule (labels (tables_with vs F) u [] t)))

  -- by the tie rule
  pub placed_alike : (t : Tree) → Kinded (tables_with us F) u [] t → Kinded (tables_with vs F) u [] t → placed_tree (tables_with us F) u t ≡ placed_tree (tables_with vs F) u t
  unfolding placed_tree taking
  placed_alike t k l = rule_alike (choose cost 16 0) t k l
