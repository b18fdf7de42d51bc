-- What holds of every element of a list.
use Prim.Native.Nat.{ℕ, zero, suc, ◌<◌}
use mathlib.Core.Logic.{◌↔◌}
use mathlib.Core.List.{List, [], ◌∷◌, ◌++◌}
use native.Mathlib.Omega.{arith}
use lib.ListN.{length, get_or}
use Rattle.reading_exact.specs.Lists.{All}

pub all_map : {A : Type 0} {P Q : A → Type 0} → ((x : A) → P x → Q x) → (xs : List A) → All P xs → All Q xs
all_map g [] h = tt
all_map g (x ∷ xs) h = (g x h.0, all_map g xs h.1)

-- a test of each item, and what it says
pub all-iff : {A : Type 0} {P Q : A → Type 0} (xs : List A) → ((x : A) → P x ↔ Q x) → All P xs ↔ All Q xs
all-iff xs e = (all_map (λ x. (e x).0) xs, all_map (λ x. (e x).1) xs)

pub all_both : {A : Type 0} (P Q : A → Type 0) (xs : List A) → All P xs → All Q xs → All (λ x. P x × Q x) xs
all_both P Q [] h k = tt
all_both P Q (x ∷ xs) h k = ((h.0, k.0), all_both P Q xs h.1 k.1)

pub all_and : {A : Type 0} (P Q : A → Type 0) (xs : List A) → (All P xs × All Q xs) ↔ All (λ x. P x × Q x) xs
all_and P Q xs = (λ (h, k). all_both P Q xs h k, λ h. (all_map (λ x p. p.0) xs h, all_map (λ x p. p.1) xs h))

pub all_append : {A : Type 0} (P : A → Type 0) (xs ys : List A) → All P xs → All P ys → All P (xs ++ ys)
all_append P [] ys h k = k
all_append P (x ∷ xs) ys h k = (h.0, all_append P xs ys h.1 k)

pub all_get : {A : Type 0} (P : A → Type 0) (xs : List A) (i : ℕ) (z : A) → i < length xs → All P xs → P (get_or xs i z)
all_get P [] i z l h = absurd (omega arith)
all_get P (x ∷ xs) zero z l h = h.0
all_get P (x ∷ xs) (suc i) z l h = all_get P xs i z (omega arith) h.1
