-- What placing does with what a well formed file holds that 1 to 10 and 14 leave is what it does with the file's trees.
use Prim.Native.Nat.{ℕ, ◌≤◌}
use mathlib.Core.Path.{◌≡◌, sym, ap, ◌∙◌, subst}
use mathlib.Core.Logic.{◌↔◌}
use mathlib.Core.Bool.{true}
use mathlib.Core.List.{List, [], map}
use native.Mathlib.Omega.{arith}
use lib.ListN.{length}
use Rattle.format.specs.Contents.{Contents}
use Rattle.format.specs.Answers.{fine}
use Rattle.format.specs.Header.{length_for}
use Rattle.format.specs.Writing.{head_for, encoded}
use Rattle.rules.specs.Schema.{Schema}
use Rattle.states.specs.declared.Turn.{Turn}
use Rattle.states.specs.States.{Label, turns_from, turns_of}
use Rattle.groups.specs.Groups.{sizes_of, ons_of, starts_of, placed_contents}
use Rattle.placing.specs.Placing.{labels_in, turns_for, unserved_from, placed_bytes}
use Rattle.reading_exact.specs.File.{version_of, File, WellFormed, nodes_of, contents_for, encode, ReadsAs}
use Rattle.reading_exact.proofs.Places.{length_encoded}
use Rattle.reading_exact.proofs.FileContents.{length_rooted, version_read, contents_held, formed_by}
use Rattle.checking_exact.specs.Tables.{schema_for}
use Rattle.checking_exact.specs.Typing.{WellKinded}
use Rattle.placing_exact.specs.Placement.{on_steps_of, graft}
use Rattle.placing_exact.specs.Placed.{placed_trees, placed_file, AllStates, listed_all, insert_all, taking_all, served_all, Bare}
use Rattle.placing_exact.proofs.SwitchFree.{bare_free}
use Rattle.placing_exact.proofs.Preorder.{walked_all, all_states}
use Rattle.placing_exact.proofs.ReadLabels.{labels_read}
use Rattle.placing_exact.proofs.TreeRows.{all_turns}
use Rattle.placing_exact.proofs.GroupSessions.{placed_inserted, all_sizes, all_ons, contents_placed}
use Rattle.placing_exact.proofs.ServedLabels.{served_iff}
use Rattle.placing_exact.proofs.FormedTrees.{grafted_length, formed}
pub use Rattle.placing_exact.proofs.BareAnswers.{masks_bare, switches_bare}
pub use Rattle.placing_exact.proofs.OnNodes.{on_nodes_lem}

module _ (F : File) (W : WellFormed F) (N : WellKinded F) (B : Bare F) where
  abbrev C : Contents
  C = contents_for F

  abbrev D : Schema
  D = schema_for F

  -- the states taken, of all sessions
  abbrev states : AllStates D F.sessions
  states = taking_all D F.sessions

  -- each node has the turn that its state gives it
  pub turns_read : turns_for (contents_for F) ≡ walked_all (schema_for F) F.sessions (taking_all (schema_for F) F.sessions)
  unfolding turns_of
  turns_read = ap (λ (ls : List Label). turns_from ls []) (labels_read F W N B) ∙ all_turns D F.sessions

  file_read : graft F (insert_all D F.sessions states) ≡ placed_file F
  file_read = ap (graft F) (sym (placed_inserted D F.sessions))

  pub placed_contents_lem : placed_contents (contents_for F) (turns_for (contents_for F)) (starts_of (turns_for (contents_for F))) ≡ contents_for (placed_file F)
  placed_contents_lem =
      ap (λ (ts : List Turn). placed_contents C ts (starts_of ts)) turns_read ∙ contents_placed F D states (bare_free F B) ∙ ap (λ (G : File). contents_for G) file_read

  -- the bytes written are the placed file
  pub placed_bytes_lem : (f : List ℕ) → ReadsAs f F → placed_bytes f ≡ encode (placed_file F)
  unfolding placed_bytes encode
  placed_bytes_lem f e =
      let held = contents_held F f e in
      (λ i. encoded (version_read F f e i) (placed_contents (held i) (turns_for (held i)) (starts_of (turns_for (held i)))))
      ∙ ap (encoded (version_of F.grants)) placed_contents_lem

  pub placed_size : sizes_of (turns_for (contents_for F)) ≡ length (nodes_of (placed_file F))
  placed_size = ap sizes_of turns_read ∙ all_sizes D 1 F.sessions states ∙ ap (λ (G : File). length (nodes_of G)) file_read

  -- the length answered is the placed file's, in bytes
  pub placed_length : length_for (head_for (version_of F.grants) (contents_for F)).at.nodes (sizes_of (turns_for (contents_for F))) ≡ length (encode (placed_file F))
  unfolding encode
  placed_length =
      let G : File = placed_file F in
      omega (
        arith,
        placed_size,
        length_encoded (version_of G.grants) (contents_for G) (formed_by G),
        length_rooted 1 F.sessions,
        length_rooted 1 G.sessions,
        grafted_length D F.sessions,
      )

  -- the on steps answered are the placed trees'
  pub placed_ons : ons_of (turns_for (contents_for F)) ≡ on_steps_of (placed_trees (schema_for F) F.sessions)
  placed_ons = ap ons_of turns_read ∙ all_ons D F.sessions states ∙ ap on_steps_of (sym (placed_inserted D F.sessions))

  pub placed_states : map (λ (t : Turn). t.to) (turns_for (contents_for F)) ≡ listed_all (schema_for F) F.sessions (taking_all (schema_for F) F.sessions)
  placed_states = ap (map (λ (t : Turn). t.to)) turns_read ∙ all_states D F.sessions states

  -- 15
  pub served_answer : (unserved_from 1 (labels_in (contents_for F)) ≡ fine) ↔ (served_all (schema_for F) F.sessions ≡ true)
  served_answer = subst (λ (ls : List Label). (unserved_from 1 ls ≡ fine) ↔ (served_all D F.sessions ≡ true)) (sym (labels_read F W N B)) (served_iff F W 1)

  pub placed_formed : served_all (schema_for F) F.sessions ≡ true → length (nodes_of (placed_file F)) ≤ 1024 → WellFormed (placed_file F)
  placed_formed h l = formed F W l
