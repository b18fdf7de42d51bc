-- Words of a file one after another: as a block of bytes, and compared as bytes with another file's.
use Prim.Native.Nat.{ℕ, ◌+◌, ◌*◌, ◌-◌, ◌/◌, ◌%◌, ◌≤◌}
use mathlib.Core.Path.{◌≡◌, refl, ap, ◌∙◌}
use mathlib.Core.Bool.{Bool, ◌&&◌}
use mathlib.Core.List.{List, [], ◌∷◌}
use native.Mathlib.Omega.{arith}
use lib.Dec.{eqb}
use lib.ListN.{length, take, drop}
use Rattle.std.specs.Str.{bytes_eq}
use Rattle.std.proofs.lemmas.Bool.Decides.{nat_tests}
use Rattle.format.specs.Words.{bytes_of}
use Rattle.format.specs.Sections.{words_from}
use Rattle.format.proofs.WriteLaws.{Bytes, bytes_words}
use Rattle.merging.specs.Merged.{same_words}

-- a block of them
pub block : (f : List ℕ) (p k : ℕ) → Bytes f → 2 * (p + k) ≤ length f → take (2 * (p + k) - 2 * p) (drop (2 * p) f) ≡ bytes_of (words_from f p k)
block f p k b le = let size : 2 * (p + k) - 2 * p ≡ 2 * k = omega arith in rw size (bytes_words f p k b le)

-- words are the same where their bytes are
same_head : (w v : ℕ) (r : Bool) → (eqb (w % 256) (v % 256) && (eqb (w / 256) (v / 256) && r)) ≡ (eqb w v && r)
same_head w v r = grind (arith, nat_tests)

pub same_bytes : (ws vs : List ℕ) → bytes_eq (bytes_of ws) (bytes_of vs) ≡ same_words ws vs
unfolding bytes_of same_words
same_bytes [] [] = refl
same_bytes [] (v ∷ vs) = refl
same_bytes (w ∷ ws) [] = refl
same_bytes (w ∷ ws) (v ∷ vs) = same_head w v (bytes_eq (bytes_of ws) (bytes_of vs)) ∙ ap (λ r. eqb w v && r) (same_bytes ws vs)
