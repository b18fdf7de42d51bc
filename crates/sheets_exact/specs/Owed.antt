-- What the sheet of whole files says, each placed by itself in an output of 6,908 bytes, which every file has room in.
use Rattle.std.specs.Prelude.{ℕ, ◌+◌, ◌-◌, ◌*◌, ◌≤◌, ◌<◌, ◌≡◌, ◌⊎◌, cond, eqb, length, get_or}
use mathlib.Core.List.{List, [], ◌∷◌, map, Memᴰ}
use Rattle.reading_exact.specs.Tree.{Tree}
use Rattle.reading_exact.specs.File.{Routine, File, ReadsAs}
use Rattle.placing.specs.Placing.{placing, placed_bytes}
use Rattle.placing.specs.declared.Placed.{Placed}
use Rattle.placing_exact.specs.Placement.{on_steps}
use Rattle.format.specs.Contents.{contents_of}
use Rattle.sheets.specs.declared.Sheet.{Sheet}

abbrev pub placed_alone : List ℕ → Placed
placed_alone f = placing f 6908

-- a sum over files
unfoldable pub total : (List ℕ → ℕ) → List (List ℕ) → ℕ
total g [] = 0
total g (f ∷ fs) = g f + total g fs

-- 1 for a file that is refused at a number
abbrev pub refused_here : ℕ → List ℕ → ℕ
refused_here n f = cond (eqb (placed_alone f).number n) 1 0

-- the sessions of a file that is placed; "a refused file adds to the files and to its refusal only"
abbrev pub sessions_placed : List ℕ → ℕ
sessions_placed f = cond (eqb (placed_alone f).number 0) (length (contents_of f).sessions) 0

-- a session's tree in the file that placing writes
abbrev pub PlacedTree : List ℕ → Tree → Type 0
PlacedTree f t = ((placed_alone f).number ≡ 0) × ((F : File) × ReadsAs (placed_bytes f) F × Memᴰ t (map (λ (s : Routine). s.tree) F.sessions))

-- "files, files refused at each number, sessions placed, on steps in all, most on steps in one session, and on steps per 1,000 sessions as whole quotient and
-- remainder (both 0 without sessions)"
pub record Owed (fs : List (List ℕ)) (s : Sheet) : Type 0 where
  pub files : s.files ≡ length fs
  pub numbers : length s.refused ≡ 28
  pub refused : (n : ℕ) → 1 ≤ n → n ≤ 28 → get_or s.refused (n - 1) 0 ≡ total (refused_here n) fs
  pub sessions : s.sessions ≡ total sessions_placed fs
  pub on_steps_lem : s.on_steps ≡ total (λ f. (placed_alone f).on_steps) fs
  -- no session of a placed file has more, and one has as many, or there is none with any
  pub most : (f : List ℕ) (t : Tree) → Memᴰ f fs → PlacedTree f t → on_steps t ≤ s.most
  pub reached : (s.most ≡ 0) ⊎ ((f : List ℕ) × (t : Tree) × Memᴰ f fs × PlacedTree f t × (on_steps t ≡ s.most))
  pub rate : 1 ≤ s.sessions → (1000 * s.on_steps ≡ s.quotient * s.sessions + s.remainder) × (s.remainder < s.sessions)
  pub no_rate : s.sessions ≡ 0 → (s.quotient ≡ 0) × (s.remainder ≡ 0)
