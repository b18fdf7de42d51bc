-- Kinds that are named are in count, or 0: those of channels, of what channels carry, and so of variables and operands.
use Prim.Native.Nat.{ℕ, ◌≤◌}
use mathlib.Core.Bool.{Bool}
use mathlib.Core.List.{List, [], ◌∷◌}
use native.Mathlib.Omega.{arith}
use Rattle.rules.specs.Schema.{Schema}
use Rattle.rules.specs.Names.{Bound, unbound}
use Rattle.reading_exact.specs.Lists.{All}
use Rattle.reading_exact.specs.File.{InCount}
use Rattle.reading_exact.proofs.AllLaws.{all_append, all_get}
use Rattle.checking_exact.specs.Typing.{HasKind, a_user, a_channel, a_variable, with_variable}

pub record Closed (D : Schema) : Type 0 where
  pub kind : (c : ℕ) → InCount D.channels c → D.kind c ≤ D.kinds
  pub carries : (k : ℕ) → k ≤ D.kinds → D.carries k ≤ D.kinds

-- every variable's kind is in count, or 0
abbrev pub Known : Schema → List Bound → Type 0
Known D vs = All (λ b. b.sort ≤ D.kinds) vs

pub known_more : (D : Schema) (vs : List Bound) (k : ℕ) (fresh : Bool) → Known D vs → k ≤ D.kinds → Known D (with_variable vs k fresh)
known_more D vs k fresh h l = all_append (λ b. b.sort ≤ D.kinds) vs (record { sort = k; fresh = fresh } ∷ []) h (l, tt)

pub kind-known : (D : Schema) → Closed D → (vs : List Bound) (x k : ℕ) → Known D vs → HasKind D vs x k → k ≤ D.kinds
kind-known D C vs x k h (a_user c e) = omega arith
kind-known D C vs x k h (a_channel c n e f) = omega (arith, C.kind c n)
kind-known D C vs x k h (a_variable i l e f) = omega (arith, all_get (λ b. b.sort ≤ D.kinds) vs i unbound l h)
