-- An operand names an item exactly where it has a kind.
use Prim.Native.Nat.{ℕ}
use mathlib.Core.Path.{refl, sym, subst}
use mathlib.Core.Logic.{◌↔◌}
use mathlib.Core.List.{List}
use lib.ListN.{length}
use Rattle.format.specs.Contents.{Contents}
use Rattle.rules.specs.Schema.{schema_of}
use Rattle.rules.specs.Names.{Bound}
use Rattle.reading_exact.specs.File.{InCount}
use Rattle.checking_exact.specs.Typing.{HasKind, a_user, a_channel, a_variable}
use Rattle.merging_exact.specs.Operands.{Item, user, channel, variable, Names, a_user as is-user, a_channel as is-channel, a_variable as is-variable}

pub names_kind : (C : Contents) (vs : List Bound) (x : ℕ) → ((i : Item) × Names C (length vs) x i) ↔ ((k : ℕ) × HasKind (schema_of C) vs x k)
names_kind C vs x = (λ (i, h). to i h, λ (k, h). back k h)
  where
    to : (i : Item) → Names C (length vs) x i → (k : ℕ) × HasKind (schema_of C) vs x k
    to i (is-user u c e) = (0, a_user (subst (InCount (length C.users)) (sym e) c) refl)
    to i (is-channel c n e) = ((schema_of C).kind c, a_channel c n e refl)
    to i (is-variable j l e) = (_, a_variable j l e refl)

    back : (k : ℕ) → HasKind (schema_of C) vs x k → (i : Item) × Names C (length vs) x i
    back k (a_user c e) = (user x, is-user x c refl)
    back k (a_channel c n e f) = (channel c, is-channel c n e)
    back k (a_variable j l e f) = (variable j, is-variable j l e)
