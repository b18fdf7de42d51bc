-- Stacks: in an array, and as a list.
use Rattle.std.specs.Prelude.{ℕ, zero, suc, List, [], ◌∷◌, get_or}

-- the last of the d elements in use is its top
unfoldable pub stacked : {A : Type 0} → A → List A → ℕ → List A
stacked nothing a zero = []
stacked nothing a (suc d) = get_or a d nothing ∷ stacked nothing a d

abbrev pub top : List ℕ → ℕ
top [] = 0
top (x ∷ xs) = x

abbrev pub rest : {A : Type 0} → List A → List A
rest [] = []
rest (x ∷ xs) = xs
