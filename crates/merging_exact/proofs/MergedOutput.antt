-- Where nothing is refused: the merged bytes by the two inputs' bytes, and what stands in the output.
use Prim.Native.Nat.{ℕ, ◌+◌, ◌≤◌, ◌<◌}
use mathlib.Core.Path.{◌≡◌, sym, ap, ◌∙◌, subst}
use mathlib.Core.Logic.{◌↔◌, ◌≢◌}
use mathlib.Core.List.{List, ◌++◌}
use native.Mathlib.Omega.{arith}
use lib.ListN.{length, drop}
use lib.Seq.{sets-eq}
use borrow.Author.Tests.{eq-eqb, ne_eqb}
use Rattle.format.specs.Answers.{fine}
use Rattle.format.specs.Contents.{Contents, contents_of}
use Rattle.checking.specs.Check.{reading_names, checking}
use Rattle.placing.specs.Placing.{placing, placed_bytes}
use Rattle.merging.specs.Merged.{shifted}
use Rattle.merging.specs.Merging.{merging, merged_bytes, merged_over}
use Rattle.format.specs.declared.Written.{Written}
use Rattle.reading_exact.specs.Lists.{All}
use Rattle.reading_exact.specs.File.{File, WellFormed, contents_for, encode, ReadsAs}
use Rattle.checking_exact.specs.Typing.{WellKinded}
use Rattle.merging_exact.specs.MergedFile.{merged_file}
use Rattle.merging_exact.specs.Operands.{Stands}
use Rattle.merging_exact.specs.Sums.{SameTables, SumsFit}
use Rattle.merging_exact.specs.MergeCauses.{merged}
use Rattle.merging_exact.proofs.OwnAnswers.{Passed, own_passes, encoded_passed, passed_file}
use Rattle.merging_exact.proofs.MergedMoves.{first_stands, second_stands}
use Rattle.merging_exact.proofs.MergedBytes.{merged_encoded, merged_passed, merged_passes, merged_sum, merged_then_placed, merged_fits}
use Rattle.merging_exact.proofs.MergeAnswers.{merged_exactly, merging_exactly}

module _ (f g : List ℕ) (F-bytes : All (λ b. b < 256) f) (G-bytes : All (λ b. b < 256) g) (room : ℕ) (done : (merging f g room).number ≡ 0) where
  same : SameTables (contents_of f) (contents_of g)
  same = ((merged_exactly f g room F-bytes G-bytes).0 done).3

  fit : SumsFit (contents_of f) (contents_of g)
  fit = ((merged_exactly f g room F-bytes G-bytes).0 done).4

  first_passed : (F : File) → ReadsAs f F → Passed f F
  first_passed = encoded_passed f F-bytes ((own_passes f).1 ((merged_exactly f g room F-bytes G-bytes).0 done).1)

  second_passed : (G : File) → ReadsAs g G → Passed g G
  second_passed = encoded_passed g G-bytes ((own_passes g).1 ((merged_exactly f g room F-bytes G-bytes).0 done).2)

  first_file : (F : File) × Passed f F
  first_file = let (F, _, P) = passed_file f F-bytes ((own_passes f).1 ((merged_exactly f g room F-bytes G-bytes).0 done).1) in (F, P)

  second_file : (G : File) × Passed g G
  second_file = let (G, _, Q) = passed_file g G-bytes ((own_passes g).1 ((merged_exactly f g room F-bytes G-bytes).0 done).2) in (G, Q)

  -- as data
  pub merged_as_data : (F G : File) → ReadsAs f F → ReadsAs g G → (merged_bytes f g ≡ encode (merged_file F G)) × WellFormed (merged_file F G) × WellKinded (merged_file F G)
  merged_as_data F G d e =
      let P = first_passed F d in
      let Q = second_passed G e in
      let M = merged_passed f g F G P Q same fit in
      (merged_encoded f g F G P Q, M.formed, M.named)

  -- 1 to 10 find nothing in it
  pub merged_reads : reading_names (merged_bytes f g) ≡ fine
  merged_reads = let (F, P) = first_file in let (G, Q) = second_file in (merged_passed f g F G P Q same fit).names

  pub passes_exactly : (checking (merged_bytes f g) ≡ fine) ↔ ((checking f ≡ fine) × (checking g ≡ fine))
  passes_exactly = let (F, P) = first_file in let (G, Q) = second_file in merged_passes f g F G P Q same fit

  pub on_steps_add : (x y z : ℕ) → (placing f x).number ≡ 0 → (placing g y).number ≡ 0 → (placing (merged_bytes f g) z).number ≡ 0
      → (placing (merged_bytes f g) z).on_steps ≡ (placing f x).on_steps + (placing g y).on_steps
  on_steps_add = let (F, P) = first_file in let (G, Q) = second_file in merged_sum f g F G P Q same fit

  pub placed_as_merged : (x y : ℕ) → (placing f x).number ≡ 0 → (placing g y).number ≡ 0 → placed_bytes (merged_bytes f g) ≡ merged_bytes (placed_bytes f) (placed_bytes g)
  placed_as_merged = let (F, P) = first_file in let (G, Q) = second_file in merged_then_placed f g F G P Q same fit

  -- what operands name in it: the first file's items stay where they are, the second's follow them
  pub first_names : Stands (contents_of f) (contents_of (merged_bytes f g)) 0 0 (λ x. x)
  first_names =
      let (F, P) = first_file in
      let (G, Q) = second_file in
      let M = merged_passed f g F G P Q same fit in
      subst (λ (C : Contents). Stands C (contents_of (merged_bytes f g)) 0 0 (λ x. x)) (sym P.holds)
      (subst (λ (C : Contents). Stands (contents_for F) C 0 0 (λ x. x)) (sym M.holds) (first_stands F G))

  pub second_names : Stands (contents_of g) (contents_of (merged_bytes f g)) (length (contents_of f).users) (length (contents_of f).channels)
      (shifted (length (contents_of f).users) (length (contents_of f).channels))
  second_names =
      let (F, P) = first_file in
      let (G, Q) = second_file in
      let M = merged_passed f g F G P Q same fit in
      subst (λ (C : Contents). Follow C (contents_of g) (contents_of (merged_bytes f g))) (sym P.holds)
      (subst (λ (C : Contents). Follow (contents_for F) C (contents_of (merged_bytes f g))) (sym Q.holds)
      (subst (λ (C : Contents). Follow (contents_for F) (contents_for G) C) (sym M.holds) (second_stands F G Q.formed)))
    where
      Follow : Contents → Contents → Contents → Type 0
      Follow C D E = Stands D E (length C.users) (length C.channels) (shifted (length C.users) (length C.channels))

  -- the length answered is that of what is written, and at most that of the largest file of version 1
  pub length_answered : (merging f g room).length ≡ length (merged_bytes f g)
  length_answered =
      let (l, x, y, S, L) = (merged_exactly f g room F-bytes G-bytes).0 done in
      ap (λ (a : Written). a.length) ((merging_exactly f g room F-bytes G-bytes (record { number = 0; place = 0; length = length (merged_bytes f g) })).1 (merged l x y S L))

  pub length_fits : length (merged_bytes f g) ≤ 6874
  length_fits = let (F, P) = first_file in let (G, Q) = second_file in merged_fits f g F G P Q same fit

-- a refusal leaves the output as it was
pub merge_kept : (f g out : List ℕ) → (merging f g (length out)).number ≢ 0 → merged_over f g out ≡ out
unfolding merged_over
merge_kept f g out h = rw (ne_eqb (merging f g (length out)).number 0 h)

-- bytes past the merged file keep what they held
pub merge_written : (f g : List ℕ) → All (λ b. b < 256) f → All (λ b. b < 256) g → (out : List ℕ) → (merging f g (length out)).number ≡ 0
    → merged_over f g out ≡ merged_bytes f g ++ drop (length (merged_bytes f g)) out
unfolding merged_over
merge_written f g F-bytes G-bytes out h =
    let wide = ((merged_exactly f g (length out) F-bytes G-bytes).0 h).0 in
    let long : 0 + length (merged_bytes f g) ≤ length out = omega (arith, wide, length_fits f g F-bytes G-bytes (length out) h) in
    let all : 0 + length (merged_bytes f g) ≡ length (merged_bytes f g) = omega arith in
    rw (eq-eqb (merging f g (length out)).number 0 h)
    (sets-eq (merged_bytes f g) out 0 long ∙ ap (λ (n : ℕ). merged_bytes f g ++ drop n out) all)
