-- What the sheet of an input's whole files says is what placing each by itself gives.
use Prim.Native.Nat.{ℕ, ◌+◌, ◌≤◌, ◌<◌}
use mathlib.Core.Path.{◌≡◌, refl, sym, ap, ap₂, ◌∙◌, subst}
use mathlib.Core.Logic.{◌⊎◌, inl, inr, ◌≢◌}
use mathlib.Core.Bool.{Bool, true, false, cond}
use mathlib.Core.List.{List, [], ◌∷◌, map, Memᴰ}
use native.Mathlib.Omega.{arith}
use lib.Dec.{eqb}
use borrow.Author.Tests.{eqb-true, eqb-false, ne_eqb}
use Rattle.reading_exact.specs.Lists.{All}
use Rattle.reading_exact.specs.Tree.{Tree}
use Rattle.reading_exact.specs.File.{Routine, File, ReadsAs}
use Rattle.placing.specs.Placing.{placed_bytes}
use Rattle.placing_exact.specs.Placement.{on_steps}
use Rattle.sheets.specs.Files.{whole_files}
use Rattle.sheets.specs.Sheets.{sheet_for, sheet_of}
use Rattle.sheets.specs.Entries.{entry_of}
use Rattle.sheets.proofs.EntryLaws.{entry_within}
use Rattle.sheets_exact.specs.Records.{WholeFiles}
use Rattle.sheets_exact.specs.Owed.{placed_alone, total, refused_here, sessions_placed, PlacedTree, Owed}
use Rattle.sheets_exact.proofs.FilesLaws.{whole_only, whole_bytes}
use Rattle.sheets_exact.proofs.SheetLaws.{
  greatest,
  greatest_reached,
  greatest_above,
  files_figure,
  refused_room,
  refused_figure,
  sessions_figure,
  ons_figure,
  most_figure,
  rate_figure,
  no_rate_figure,
}
use Rattle.sheets_exact.proofs.MostTrees.{peak, peak_above, peak_reached}
use Rattle.sheets_exact.proofs.EntryPlaced.{entry_number, entry_idle, entry_ons, entry_sessions, entry-none, written, entry_most}

total_same : (g h : List ℕ → ℕ) → ((f : List ℕ) → g f ≡ h f) → (fs : List (List ℕ)) → total g fs ≡ total h fs
unfolding total
total_same g h e [] = refl
total_same g h e (f ∷ fs) = ap₂ (λ (x y : ℕ). x + y) (e f) (total_same g h e fs)

-- one of the files
all_member : (P : List ℕ → Type 0) (fs : List (List ℕ)) (f : List ℕ) → All P fs → Memᴰ f fs → P f
all_member P [] f h x' = elim x' [ ]
all_member P (x ∷ fs) f h (Memᴰ.head e) = subst P (sym e) h.0
all_member P (x ∷ fs) f h (Memᴰ.tail m) = all_member P fs f h.1 m

module _ (fs : List (List ℕ)) (bytes : All (λ f. All (λ b. b < 256) f) fs) where
  abbrev most : ℕ
  most = (sheet_for entry_of fs).most

  above : (f : List ℕ) (t : Tree) → Memᴰ f fs → PlacedTree f t → on_steps t ≤ (sheet_for entry_of fs).most
  above f t m (placed, (F, e, here)) =
      omega (
        arith,
        peak_above (map (λ (s : Routine). s.tree) F.sessions) t here,
        entry_most f (all_member (λ x. All (λ b. b < 256) x) fs f bytes m) placed F e,
        greatest_above (λ x. (entry_of x).most) fs f m,
        most_figure entry_of fs,
      )

  abbrev Reached : Type 0
  Reached = ((sheet_for entry_of fs).most ≡ 0) ⊎ ((f : List ℕ) × (t : Tree) × Memᴰ f fs × PlacedTree f t × (on_steps t ≡ (sheet_for entry_of fs).most))

  reached : Reached
  reached = go (greatest_reached (λ x. (entry_of x).most) fs)
    where
      by_tree : (f : List ℕ) (m : Memᴰ f fs) → (entry_of f).most ≡ most → (placed_alone f).number ≡ 0 → Reached
      by_tree f m q placed =
          let (F, e, p) = written f (all_member (λ x. All (λ b. b < 256) x) fs f bytes m) placed in
          tree F e p (peak_reached (map (λ (s : Routine). s.tree) F.sessions))
        where
          tree : (F : File) → ReadsAs (placed_bytes f) F → (entry_of f).most ≡ peak (map (λ (s : Routine). s.tree) F.sessions)
              → (peak (map (λ (s : Routine). s.tree) F.sessions) ≡ 0) ⊎ ((t : Tree) × Memᴰ t (map (λ (s : Routine). s.tree) F.sessions) × (on_steps t ≡ peak (map (λ (s : Routine). s.tree) F.sessions)))
              → Reached
          tree F e p (inl z) = inl (sym q ∙ p ∙ z)
          tree F e p (inr (t, here, o)) = inr (f, t, m, (placed, (F, e, here)), o ∙ sym p ∙ q)

      by_number : (f : List ℕ) → Memᴰ f fs → (entry_of f).most ≡ most → (b : Bool) → eqb (placed_alone f).number 0 ≡ b → Reached
      by_number f m q true e = by_tree f m q (eqb-true (placed_alone f).number 0 e)
      by_number f m q false e = inl (sym q ∙ entry-none f (eqb-false (placed_alone f).number 0 e))

      go : (greatest (λ x. (entry_of x).most) fs ≡ 0) ⊎ ((f : List ℕ) × Memᴰ f fs × ((entry_of f).most ≡ greatest (λ x. (entry_of x).most) fs)) → Reached
      go (inl z) = inl (most_figure entry_of fs ∙ z)
      go (inr (f, m, q)) = by_number f m (q ∙ sym (most_figure entry_of fs)) (eqb (placed_alone f).number 0) refl

  sheet_owed : Owed fs (sheet_for entry_of fs)
  sheet_owed = record {
    files = files_figure entry_of fs;
    numbers = refused_room entry_of fs;
    refused = λ n h k. refused_figure entry_of fs n h k ∙ total_same _ (refused_here n) (λ f. ap (λ (x : ℕ). cond (eqb x n) 1 0) (entry_number f)) fs;
    sessions = sessions_figure entry_of fs ∙ total_same (λ f. (entry_of f).sessions) sessions_placed (λ f. entry_sessions f) fs;
    on_steps_lem = ons_figure entry_of fs ∙ total_same (λ f. (entry_of f).on_steps) (λ f. (placed_alone f).on_steps) (λ f. entry_ons f) fs;
    most = above;
    reached = reached;
    rate = rate_figure entry_of fs;
    no_rate = no_rate_figure entry_of fs;
  }

-- of an input, whichever way it is said what its whole files are
pub sheet_says : (input : List ℕ) (fs : List (List ℕ)) (rest : List ℕ) → All (λ b. b < 256) input → WholeFiles 1000 input fs rest → Owed fs (sheet_of entry_of input)
unfolding sheet_of
sheet_says input fs rest bytes w =
    let same : fs ≡ whole_files input = (whole_only input fs rest bytes w).0 in
    subst (λ (x : List (List ℕ)). Owed fs (sheet_for entry_of x)) same (sheet_owed fs (whole_bytes 1000 input fs rest bytes w))

-- a refused file has neither sessions nor on steps
pub refused_alone : (f : List ℕ) → (placed_alone f).number ≢ 0 → (sessions_placed f ≡ 0) × ((placed_alone f).on_steps ≡ 0)
refused_alone f l = (rw (ne_eqb (placed_alone f).number 0 l), sym (entry_ons f) ∙ entry_idle f l)

-- and its number a place among the 28
pub number_counted : (f : List ℕ) → (placed_alone f).number ≤ 28
number_counted f = omega (arith, entry_number f, (entry_within f).numbers)
