-- No rival with as few on steps holds a role through fewer nodes than the file written, and what the nodes held idly are, by states.
use Prim.Native.Nat.{ℕ, ◌≤◌, ◌<◌}
use mathlib.Core.Path.{◌≡◌, sym, ap, ◌∙◌, subst}
use mathlib.Core.List.{List}
use native.Mathlib.Omega.{arith}
use Rattle.placing.specs.Placing.{placing, placed_bytes}
use Rattle.reading_exact.specs.Lists.{All}
use Rattle.reading_exact.specs.Tree.{Tree}
use Rattle.reading_exact.specs.File.{File, nodes_of, encode, ReadsAs}
use Rattle.reading_exact.proofs.FileContents.{single}
use Rattle.reading_exact.proofs.Exact.{one_read}
use Rattle.checking_exact.specs.Tables.{schema_for}
use Rattle.placing_exact.specs.Placement.{on_steps_of, graft, Placement, PlacementByRoles}
use Rattle.placing_exact.specs.Placed.{AllStates, listed_all, insert_all, Bare}
use Rattle.placing_exact.specs.Idle.{idle_nodes_of, idle_in, idle_among}
use Rattle.placing_exact.proofs.IdleTrees.{all_idle}
use Rattle.placing_exact.proofs.PlacingExact.{placed_exactly, placed_well}
use Rattle.placing_exact.proofs.RivalsByRoles.{rivals_all}

-- of all rivals that pass by rules 5 and 6
pub least_idle_of_all : (f : List ℕ) → All (λ b. b < 256) f → (room : ℕ) → (placing f room).number ≡ 0 → (F G : File) → ReadsAs f F → encode G ≡ placed_bytes f
    → (ts : List Tree) → PlacementByRoles F ts → on_steps_of ts ≤ (placing f room).on_steps → idle_nodes_of G.sessions ≤ idle_in F ts
least_idle_of_all f bytes room placed F G reads writes ts P few =
    let w = placed_well f bytes room placed in
    let names = ((placed_exactly f bytes room).0 placed).0.names in
    let one : F ≡ w.file = one_read f F w.file reads w.reads in
    let rival : Placement w.file ts = subst (λ (H : File). Placement H ts) one ((rivals_all f bytes names F reads ts).1 P) in
    let whole : G ≡ graft w.file w.trees = single G (graft w.file w.trees) (writes ∙ sym w.writes) in
    omega (arith, ap (λ (H : File). idle_nodes_of H.sessions) whole, w.least_idle ts rival few, ap (λ (H : File). idle_in H ts) one)

-- by states
pub idle_stated : (F : File) → Bare F → (states : AllStates (schema_for F) F.sessions)
    → idle_in F (insert_all (schema_for F) F.sessions states) ≡ idle_among (nodes_of F) (listed_all (schema_for F) F.sessions states)
idle_stated F B states = all_idle (schema_for F) 1 F.sessions states B
