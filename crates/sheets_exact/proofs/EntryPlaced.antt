-- A file's entry is what placing it by itself in 6,908 bytes gives.
use Prim.Native.Nat.{ℕ, ◌<◌, max}
use mathlib.Core.Path.{◌≡◌, refl, sym, ap, ap₂, ◌∙◌}
use mathlib.Core.Bool.{Bool, true, false, cond}
use mathlib.Core.List.{List, map}
use native.Mathlib.Omega.{arith}
use lib.Dec.{eqb}
use lib.ListN.{length}
use borrow.Author.Tests.{eqb-true, eq-eqb}
use Rattle.format.specs.Header.{version_at}
use Rattle.format.specs.Answers.{refused}
use Rattle.format.specs.declared.Verdict.{Verdict}
use Rattle.format.specs.Contents.{Contents, contents_of}
use Rattle.groups.specs.Groups.{ons_of}
use Rattle.reading_exact.specs.Lists.{All}
use Rattle.reading_exact.specs.Tree.{Tree}
use Rattle.reading_exact.specs.File.{Routine, File, nodes_of, contents_for, ReadsAs, sent}
use Rattle.reading_exact.proofs.Exact.{one_read}
use Rattle.reading_exact.proofs.FileContents.{contents_held}
use Rattle.checking_exact.specs.Tables.{schema_for}
use Rattle.placing.specs.Placing.{turns_for, judging, placed_by, no_place, measuring, placed_bytes}
use Rattle.placing.specs.declared.Placed.{Placed}
use Rattle.placing.proofs.PlaceLaws.{room_most, answers}
use Rattle.placing_exact.specs.Placed.{placed_file, insert_all, taking_all}
use Rattle.placing_exact.proofs.SwitchFree.{bare_free}
use Rattle.placing_exact.proofs.GroupSessions.{placed_inserted}
use Rattle.placing_exact.proofs.BytesPlaced.{turns_read}
use Rattle.placing_exact.proofs.PlacingExact.{grafted_trees, found, placed_written}
use Rattle.sheets.specs.Entries.{most_from, refused_at, entry_by, entry_of}
use Rattle.sheets.specs.declared.Entry.{Entry}
use Rattle.sheets_exact.specs.Owed.{placed_alone, sessions_placed}
use Rattle.sheets_exact.proofs.MostTrees.{peak, all_most}

module _ (f : List ℕ) where
  abbrev C : Contents
  C = contents_of f

  alone : placed_alone f ≡ measuring f
  alone = answers f 6908 (room_most f)

  -- the two answers by one test
  abbrev entry : Bool → Entry
  entry b = cond b (record { number = 0; sessions = length C.sessions; on_steps = ons_of (turns_for C); most = most_from 1 0 0 C.nodes (turns_for C) }) (refused_at (judging f).number)

  abbrev answer : Bool → Placed
  answer b = cond b (placed_by (version_at f) C (turns_for C)) (no_place (judging f).number (judging f).place)

  pub entry_number : (entry_of f).number ≡ (placed_alone f).number
  unfolding entry_of measuring
  entry_number = go (eqb (judging f).number 0) ∙ ap (λ (a : Placed). a.number) (sym alone)
    where
      go : (b : Bool) → (entry b).number ≡ (answer b).number
      go true = refl
      go false = refl

  pub entry_ons : (entry_of f).on_steps ≡ (placed_alone f).on_steps
  unfolding entry_of measuring
  entry_ons = go (eqb (judging f).number 0) ∙ ap (λ (a : Placed). a.on_steps) (sym alone)
    where
      go : (b : Bool) → (entry b).on_steps ≡ (answer b).on_steps
      go true = refl
      go false = refl

  pub entry_sessions : (entry_of f).sessions ≡ sessions_placed f
  unfolding entry_of measuring
  entry_sessions = go (eqb (judging f).number 0) refl ∙ ap (λ (a : Placed). cond (eqb a.number 0) (length C.sessions) 0) (sym alone)
    where
      go : (b : Bool) → eqb (judging f).number 0 ≡ b → (entry b).sessions ≡ cond (eqb (answer b).number 0) (length C.sessions) 0
      go true e = refl
      go false e = rw e

  -- a refused file has none
  pub entry-none : ((placed_alone f).number ≡ 0 → ⊥) → (entry_of f).most ≡ 0
  unfolding entry_of measuring
  entry-none loud = go (eqb (judging f).number 0) (λ z. loud (ap (λ (a : Placed). a.number) alone ∙ z))
    where
      go : (b : Bool) → ((answer b).number ≡ 0 → ⊥) → (entry b).most ≡ 0
      go true l = absurd (l refl)
      go false l = refl

  pub entry_idle : ((placed_alone f).number ≡ 0 → ⊥) → (entry_of f).on_steps ≡ 0
  unfolding entry_of measuring
  entry_idle loud = go (eqb (judging f).number 0) (λ z. loud (ap (λ (a : Placed). a.number) alone ∙ z))
    where
      go : (b : Bool) → ((answer b).number ≡ 0 → ⊥) → (entry b).on_steps ≡ 0
      go true l = absurd (l refl)
      go false l = refl

  -- and a placed one the most of a session's tree
  module _ (bytes : All (λ b. b < 256) f) (placed : (placed_alone f).number ≡ 0) where
    -- the file written
    pub written : (G : File) × ReadsAs (placed_bytes f) G × ((entry_of f).most ≡ peak (map (λ (s : Routine). s.tree) G.sessions))
    unfolding entry_of measuring
    written =
        let (F, e, r, _, _) = found f bytes 6908 placed in
        let D = schema_for F in
        let judged : (judging f).number ≡ 0 = quiet (eqb (judging f).number 0) refl (ap (λ (a : Placed). a.number) (sym alone) ∙ placed) in
        let here : (entry_of f).most ≡ most_from 1 0 0 C.nodes (turns_for C) = ap (λ (b : Bool). (entry b).most) (eq-eqb (judging f).number 0 judged) in
        let trees : most_from 1 0 0 (nodes_of F) (turns_for (contents_for F)) ≡ max 0 (peak (insert_all D F.sessions (taking_all D F.sessions))) =
        ap (most_from 1 0 0 (nodes_of F)) (turns_read F r.formed r.named r.bare) ∙ all_most D 1 0 F.sessions (taking_all D F.sessions) (bare_free F r.bare) in
        let same : insert_all D F.sessions (taking_all D F.sessions) ≡ map (λ (s : Routine). s.tree) (placed_file F).sessions =
        sym (placed_inserted D F.sessions) ∙ sym (grafted_trees D F.sessions) in
        let most : max 0 (peak (map (λ (s : Routine). s.tree) (placed_file F).sessions)) ≡ peak (map (λ (s : Routine). s.tree) (placed_file F).sessions) = omega arith in (
          placed_file F,
          sent (sym (placed_written f bytes 6908 placed F e)),
          here ∙ ap (λ (C : Contents). most_from 1 0 0 C.nodes (turns_for C)) (contents_held F f e) ∙ trees ∙ ap (λ (ts : List Tree). max 0 (peak ts)) same ∙ most,
        )
      where
        quiet : (b : Bool) → eqb (judging f).number 0 ≡ b → (answer b).number ≡ 0 → (judging f).number ≡ 0
        quiet true e z = eqb-true (judging f).number 0 e
        quiet false e z = z

    pub entry_most : (G : File) → ReadsAs (placed_bytes f) G → (entry_of f).most ≡ peak (map (λ (s : Routine). s.tree) G.sessions)
    entry_most G e =
        let (H, d, m) = written in
        m ∙ ap (λ (X : File). peak (map (λ (s : Routine). s.tree) X.sessions)) (one_read (placed_bytes f) H G d e)

-- files that hold the same and are judged alike have the same entry
pub entry_same : (f g : List ℕ) → contents_of f ≡ contents_of g → judging f ≡ judging g → entry_of f ≡ entry_of g
unfolding entry_of
entry_same f g c j = ap₂ (λ (C : Contents) (v : Verdict). entry_by C (turns_for C) v) c j
