-- Two files with the same answers, to every caller.
use Rattle.std.specs.Prelude.{ℕ, ◌≡◌, cond, List, eqb, length}
use Rattle.std.proofs.lemmas.List.Edits.{sets}
use Rattle.checking.specs.Check.{reading_names, checking}
use Rattle.checking_at.specs.CheckAt.{checking_at}
use Rattle.placing.specs.Placing.{measuring, placing, placed_bytes, placed_over}
use Rattle.placing_at.specs.PlaceAt.{measuring_at, placing_at, placed_bytes_at, placed_over_at}
use Rattle.steps.specs.declared.Thread.{Thread}
use Rattle.running.specs.Run.{running, run_over, ready, totals_after}
use Rattle.dispatching.specs.Dispatch.{rounding, round_over}
use Rattle.seating.specs.SeatedRunning.{seated_running, seated_length, seated_over}
use Rattle.seating.specs.SeatsRead.{seats_after}
use Rattle.seating.specs.SeatedRound.{seated_rounding, seated_round_over}
use Rattle.lending.specs.Lent.{choosing, records_over, beside_over}
use Rattle.lending.specs.Starting.{starting, records_started, beside_started}
use Rattle.merging.specs.Merging.{merging, merged_over}
use Rattle.turning.specs.Turning.{in_columns}
use Rattle.sheets.specs.Entries.{entry_of}

-- in all but what goes by the form of a file: how much output is wanted, the placed file's length and bytes, and merging, which takes version 1 alone
pub record AlikeBesideForm (f g : List ℕ) : Type 0 where
  pub read : reading_names f ≡ reading_names g
  pub check : checking f ≡ checking g
  -- the refusal of placing in an output long enough, and the on steps
  pub measured : ((measuring f).number ≡ (measuring g).number) × ((measuring f).place ≡ (measuring g).place) × ((measuring f).on_steps ≡ (measuring g).on_steps)
  pub measured_at : (t : List ℕ) (m : ℕ)
      → ((measuring_at f t m).number ≡ (measuring_at g t m).number) × ((measuring_at f t m).place ≡ (measuring_at g t m).place) × ((measuring_at f t m).on_steps ≡ (measuring_at g t m).on_steps)
  pub check_at : (t : List ℕ) (m : ℕ) → checking_at f t m ≡ checking_at g t m
  -- what it adds to the group's sheet
  pub adds : entry_of f ≡ entry_of g
  pub run : (ws : List ℕ) (room : ℕ) → running f ws room ≡ running g ws room
  pub ran : (ws out : List ℕ) → run_over f ws out ≡ run_over g ws out
  pub pair : (ws : List ℕ) → ready f ws ≡ ready g ws
  pub round : (ws : List ℕ) (room : ℕ) → rounding f ws room ≡ rounding g ws room
  pub rounded : (ws out : List ℕ) → round_over f ws out ≡ round_over g ws out
  pub totals : (ws : List ℕ) → totals_after f ws ≡ totals_after g ws
  -- with any table of seats: a run, the bytes that it writes, a round, and what is read
  pub run_seated : (ws table : List ℕ) (room : ℕ) → seated_running f ws table room ≡ seated_running g ws table room
  pub length_seated : (ws table : List ℕ) (room : ℕ) → seated_length f ws table room ≡ seated_length g ws table room
  pub ran_seated : (ws table out : List ℕ) → seated_over f ws table out ≡ seated_over g ws table out
  pub round_seated : (ws table : List ℕ) (room : ℕ) → seated_rounding f ws table room ≡ seated_rounding g ws table room
  pub rounded_seated : (ws table out : List ℕ) → seated_round_over f ws table out ≡ seated_round_over g ws table out
  pub seats : (ws table : List ℕ) → seats_after f ws table ≡ seats_after g ws table
  pub choose : (l : List Thread) (b : List ℕ) (i p : ℕ) → choosing f l b i p ≡ choosing g l b i p
  pub records : (l : List Thread) (b : List ℕ) (i p : ℕ) → records_over f l b i p ≡ records_over g l b i p
  pub beside : (l : List Thread) (b : List ℕ) (i p : ℕ) → beside_over f l b i p ≡ beside_over g l b i p
  pub start : (records words : ℕ) → starting f records words ≡ starting g records words
  pub started : (l : List Thread) (b : List ℕ) → records_started f l b ≡ records_started g l b
  pub counts : (l : List Thread) (b : List ℕ) → beside_started f l b ≡ beside_started g l b

-- in all but the bytes of a placed file, which keep the form that it came in
pub record AlikeBesideBytes (f g : List ℕ) : Type 0 where
  pub answers : AlikeBesideForm f g
  pub measure : measuring f ≡ measuring g
  pub place : (room : ℕ) → placing f room ≡ placing g room
  pub measure_at : (t : List ℕ) (m : ℕ) → measuring_at f t m ≡ measuring_at g t m
  pub place_at : (t : List ℕ) (m room : ℕ) → placing_at f t m room ≡ placing_at g t m room
  -- merged with any other file, as the first and as the second
  pub merge_first : (h : List ℕ) (room : ℕ) → merging f h room ≡ merging g h room
  pub merge_second : (h : List ℕ) (room : ℕ) → merging h f room ≡ merging h g room
  pub merged_first : (h out : List ℕ) → merged_over f h out ≡ merged_over g h out
  pub merged_second : (h out : List ℕ) → merged_over h f out ≡ merged_over h g out

-- and in all
pub record Alike (f g : List ℕ) : Type 0 where
  pub beside : AlikeBesideBytes f g
  pub placed : (out : List ℕ) → placed_over f out ≡ placed_over g out
  pub placed_at : (t : List ℕ) (m : ℕ) (out : List ℕ) → placed_over_at f t m out ≡ placed_over_at g t m out

-- "Every other answer on the column file is the one on its row file; a file placed or handed back keeps the form it came in": c has the answers of f, and c placed is
-- the columns of f placed, at a minute too
pub record ColumnsOf (c f : List ℕ) : Type 0 where
  pub answers : AlikeBesideBytes c f
  pub placed : placed_bytes c ≡ in_columns (placed_bytes f)
  pub over : (out : List ℕ) → placed_over c out ≡ cond (eqb (placing f (length out)).number 0) (sets out 0 (in_columns (placed_bytes f))) out
  pub placed_at : (t : List ℕ) (m : ℕ) → placed_bytes_at c t m ≡ in_columns (placed_bytes_at f t m)
  pub over_at : (t : List ℕ) (m : ℕ) (out : List ℕ) → placed_over_at c t m out ≡ cond (eqb (placing_at f t m (length out)).number 0) (sets out 0 (in_columns (placed_bytes_at f t m))) out
