-- A file that is written as another one placed, whatever its users' masks: what placing writes, and what placing for a
-- minute writes of the file as it stands then.
use Prim.Native.Nat.{ℕ, ◌<◌}
use mathlib.Core.Path.{◌≡◌, ap, ◌∙◌, subst}
use mathlib.Core.Bool.{true}
use mathlib.Core.List.{List}
use Rattle.format.specs.Answers.{fine}
use Rattle.format.specs.Contents.{contents_of}
use Rattle.checking.specs.Check.{checking}
use Rattle.placing.specs.Placing.{placing, placed_bytes}
use Rattle.placing_at.specs.PlaceAt.{placing_at, placed_bytes_at}
use Rattle.reading_exact.specs.Lists.{All}
use Rattle.reading_exact.specs.File.{File, contents_for, ReadsAs}
use Rattle.reading_exact.proofs.FileContents.{contents_back}
use Rattle.reading_exact.proofs.Exact.{one_read}
use Rattle.checking_exact.specs.Tables.{schema_for}
use Rattle.placing_exact.specs.Placement.{graft}
use Rattle.placing_exact.specs.Placed.{placed_trees, placed_file, served_all}
use Rattle.placing_exact.proofs.PlacingExact.{Ready, found, placed_well, placed_written}
use Rattle.hours_exact.specs.OpenFile.{with_users, open_file}
use Rattle.hours_exact.specs.PromisedAt.{UnrefusedAt}
use Rattle.hours_exact.proofs.OpenFiles.{ready_open}
use Rattle.hours_exact.proofs.CheckAtExact.{passes_plain}
use Rattle.hours_exact.proofs.StandingPlaced.{Left, left_at, written_at, served}
use Rattle.hours_exact.proofs.PlaceAtExact.{well_at, placed_at}

-- g is the bytes of F placed, with these masks for its users
pub record PlacedFrom (g : List ℕ) (F : File) : Type 0 where
  pub users : List ℕ
  pub ready : Ready F
  pub served : served_all (schema_for F) F.sessions ≡ true
  pub contents : contents_of g ≡ contents_for (with_users users (placed_file F))
  pub passes : checking g ≡ fine

module _ (f : List ℕ) (bytes : All (λ b. b < 256) f) where
  pub placed_from : (room : ℕ) → (placing f room).number ≡ 0 → (F : File) → ReadsAs f F → PlacedFrom (placed_bytes f) F
  placed_from room placed F reads =
      let (X, e, ready, all_served, _) = found f bytes room placed in
      let same : X ≡ F = one_read f X F e reads in
      record {
        users = F.users;
        ready = subst Ready same ready;
        served = subst (λ (Y : File). served_all (schema_for Y) Y.sessions ≡ true) same all_served;
        contents = ap (λ (b : List ℕ). contents_of b) (placed_written f bytes room placed F reads)
            ∙ contents_back (placed_file F);
        passes = (placed_well f bytes room placed).passes;
      }

  pub placed_from_at : (t : List ℕ) (m room : ℕ) → (placing_at f t m room).number ≡ 0 → (F : File) → ReadsAs f F
      → PlacedFrom (placed_bytes_at f t m) (open_file t m F)
  placed_from_at t m room placed F reads =
      let u : UnrefusedAt f t m room = ((placed_at f bytes t m room).0 placed).0 in
      let l : Left f bytes t m F = left_at f bytes t m u F reads in
      record {
        users = F.users;
        ready = ready_open t m F l.ready;
        served = (served f bytes t m F l u placed).0;
        contents = ap (λ (b : List ℕ). contents_of b) (written_at f bytes t m F l)
            ∙ contents_back (graft F (placed_trees (schema_for (open_file t m F)) F.sessions));
        passes = passes_plain (placed_bytes_at f t m) t m (well_at f bytes t m room placed).passes;
      }
