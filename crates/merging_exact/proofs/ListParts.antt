-- Lists that are joined or mapped: what holds of all elements, and their items.
use Prim.Native.Nat.{ℕ, zero, suc, ◌+◌, ◌≤◌, ◌<◌}
use mathlib.Core.Path.{◌≡◌, refl, ap, ◌∙◌}
use mathlib.Core.Logic.{◌↔◌}
use mathlib.Core.List.{List, [], ◌∷◌, ◌++◌, map}
use native.Mathlib.Omega.{arith}
use lib.ListN.{length, get_or, get_or-append}
use lib.Seq.{get_or-append-add}
use Rattle.format.specs.Contents.{item}
use Rattle.reading_exact.specs.Lists.{All}
use Rattle.reading_exact.proofs.AllLaws.{all_append}

pub all_split : {A : Type 0} (P : A → Type 0) (xs ys : List A) → All P (xs ++ ys) → All P xs × All P ys
all_split P [] ys h = (tt, h)
all_split P (x ∷ xs) ys h = let (a, b) = all_split P xs ys h.1 in ((h.0, a), b)

pub all_parts : {A : Type 0} (P : A → Type 0) (xs ys : List A) → All P (xs ++ ys) ↔ (All P xs × All P ys)
all_parts P xs ys = (all_split P xs ys, λ (a, b). all_append P xs ys a b)

pub all_mapped : {A B : Type 0} (P : B → Type 0) (f : A → B) (xs : List A) → All P (map f xs) ↔ All (λ x. P (f x)) xs
all_mapped P f [] = (λ h. tt, λ h. tt)
all_mapped P f (x ∷ xs) = let (a, b) = all_mapped P f xs in (λ h. (h.0, a h.1), λ h. (h.0, b h.1))

-- where something else holds of every element
pub all_map_with : {A : Type 0} (Q : A → Type 0) {P R : A → Type 0} → ((x : A) → Q x → P x → R x) → (xs : List A) → All Q xs → All P xs → All R xs
all_map_with Q g [] q h = tt
all_map_with Q g (x ∷ xs) q h = (g x q.0 h.0, all_map_with Q g xs q.1 h.1)

pub get_mapped : {A B : Type 0} (f : A → B) (xs : List A) (i : ℕ) (d : A) (z : B) → i < length xs → get_or (map f xs) i z ≡ f (get_or xs i d)
get_mapped f [] i d z l = let no : ⊥ = omega arith in absurd no
get_mapped f (x ∷ xs) zero d z l = refl
get_mapped f (x ∷ xs) (suc i) d z l = get_mapped f xs i d z (omega arith)

-- Items by number: the first list's stay, the second's follow them.

module _ {A : Type 0} where
  pub item-first : (z : A) (xs ys : List A) (n : ℕ) → n ≤ length xs → item z (xs ++ ys) n ≡ item z xs n
  unfolding item
  item-first z xs ys zero l = refl
  item-first z xs ys (suc n) l = get_or-append xs ys z n (omega arith)

  pub item-second : (z : A) (xs ys : List A) (n : ℕ) → 1 ≤ n → item z (xs ++ ys) (length xs + n) ≡ item z ys n
  unfolding item
  item-second z xs ys zero l = absurd (omega arith)
  item-second z xs ys (suc n) l =
      let e : length xs + suc n ≡ suc (length xs + n) = omega arith in
      ap (item z (xs ++ ys)) e ∙ get_or-append-add xs ys n z

pub item_mapped : {A B : Type 0} (f : A → B) (xs : List A) (n : ℕ) (d : A) (z : B) → 1 ≤ n → n ≤ length xs → item z (map f xs) n ≡ f (item d xs n)
unfolding item
item_mapped f xs zero d z l h = absurd (omega arith)
item_mapped f xs (suc n) d z l h = get_mapped f xs n d z h
