-- What is kept of a long input, as many bytes of it as `enough` says, is answered as the whole is, to every caller.
use Prim.Native.Nat.{ℕ}
use mathlib.Core.Path.{◌≡◌, refl, sym, subst}
use mathlib.Core.Bool.{Bool, true, false}
use mathlib.Core.List.{List}
use native.Mathlib.Omega.{arith}
use lib.Dec.{ltb}
use lib.ListN.{length, take}
use borrow.Author.Tests.{ltb-true, ltb-false}
use Rattle.format.specs.Header.{largest}
use Rattle.reading.specs.Long.{enough}
use Rattle.reading.proofs.LongLaws.{start_stands, stands_room, enough_read, long_head}
use Rattle.engine.specs.Alike.{Alike}
use Rattle.engine.proofs.SameContents.{alike}
use Rattle.engine.proofs.Unread.{loud_head, unread_alike}

pub kept_alike : (f : List ℕ) → Alike (take (enough (length f)) f) f
kept_alike f = go (ltb largest (length f)) refl
  where
    kept : List ℕ
    kept = take (enough (length f)) f

    -- longer than any file, it is refused by its head; else all of it is kept
    go : (b : Bool) → ltb largest (length f) ≡ b → Alike kept f
    go true e =
        unread_alike kept f (enough_read f) (loud_head f _ (long_head f (ltb-true largest (length f) e))) (stands_room kept f (start_stands f))
    go false e =
        subst (λ (g : List ℕ). Alike g f) (sym ((start_stands f).all (omega (arith, ltb-false largest (length f) e)))) (alike f f refl refl refl refl)
