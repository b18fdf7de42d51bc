-- What is kept of an input that comes in pieces stands for the whole of it.
use Prim.Native.Nat.{ℕ, ◌+◌, ◌≤◌}
use mathlib.Core.Path.{◌≡◌, sym, subst}
use mathlib.Core.List.{List, [], ◌∷◌, ◌++◌, flatten, append-nil, append_assoc}
use lib.ListN.{length, take, drop}
use lib.Seq.{length-take-le, take-add, take-take}
use Rattle.reading.proofs.LongLaws.{StandsFor, start_stands, stands_on}
use Rattle.streams.specs.Kept.{kept_by, kept_of, kept_of_pieces}

-- a piece that stands behind what is kept
pub keeps : (most : ℕ → ℕ) (b : List ℕ) (kept piece r : ℕ) → kept + piece ≤ length b → r ≡ most (kept + piece) → r ≤ kept + piece
    → take r b ≡ kept_by most (take kept b) (take piece (drop kept b))
keeps most b kept piece r fits e small =
    let both : take kept b ++ take piece (drop kept b) ≡ take (kept + piece) b = sym (take-add kept piece b) in
    let size : length (take (kept + piece) b) ≡ kept + piece = length-take-le (kept + piece) b fits in
    rw (both, size, sym e) (sym (take-take r (kept + piece) b small))

stands_behind : (ps : List (List ℕ)) (kept input : List ℕ) → StandsFor kept input → StandsFor (kept_of_pieces kept ps) (input ++ flatten ps)
unfolding kept_of_pieces flatten
stands_behind [] kept input s = rw (append-nil input) s
stands_behind (p ∷ ps) kept input s =
    subst (λ (whole : List ℕ). StandsFor (kept_of_pieces (kept_of kept p) ps) whole) (append_assoc input p (flatten ps)) (stands_behind ps (kept_of kept p) (input ++ p) (stands_on kept input p s))

-- the pieces one after the other are the input
pub pieces_stand : (ps : List (List ℕ)) → StandsFor (kept_of_pieces [] ps) (flatten ps)
pieces_stand ps = stands_behind ps [] [] (start_stands [])
