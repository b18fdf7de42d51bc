use Prim.Native.Nat.{ℕ, ◌≤◌}
use mathlib.Core.Path.{◌≡◌, refl, sym, ap, ◌∙◌}
use mathlib.Core.List.{List, map}
use native.Mathlib.Omega.{arith}
use lib.ListN.{length, replicate, drop, length-drop}
use lib.Seq.{sets, length-sets}
use Rattle.format.specs.Contents.{contents_at}
use Rattle.format.specs.Writing.{encoded}
use Rattle.format.specs.declared.Verdict.{Verdict}
use Rattle.format.proofs.ContentsLaws.{nodes_held}
use Rattle.checking.proofs.CheckLaws.{entered_fine}
use Rattle.states.specs.States.{Label, turns_of, packed}
use Rattle.groups.specs.Groups.{sizes_of, starts_from, placed_contents}
use Rattle.groups.specs.declared.Sums.{Sums}
use Rattle.placing.specs.Placing.{labels_from, placeable_by, no_place}
use Rattle.placing.proofs.DecideLaws.{sums_given, refusal_decided, few_nodes, labelled_length, starts_kept}
use Rattle.placing.proofs.PlaceLaws.{enough_room, room_least, answer_loud, over_loud, over_quiet, sums_few, sums_answered, turns_seen}
use Rattle.placing.proofs.place_body.Goals as goal

pub decide-requires : goal.decide-requires
decide-requires c = let a = c.args in ((entered_fine a.file.now a.head c.requires.0).0, c.requires.1, refl, refl)

pub put_file-requires : goal.put_file-requires
put_file-requires c =
    let a = c.args in
    let f = a.file.now in
    let pre = c.requires in
    let laid = (entered_fine f a.head pre.0).0 in
    let ls : List Label = labels_from (contents_at f a.head) a.roles.now in
    let (w, (t, s)) = c.in-Ok.ensures in
    let (quiet, sums) = sums_given (placeable_by (contents_at f a.head) ls) (turns_of ls) c.in-Ok.sums (sym w) in
    let nodes : c.in-Ok.sums.nodes ≡ sizes_of (turns_of ls) = ap (λ (x : Sums). x.nodes) sums in
    let few = few_nodes (contents_at f a.head) ls quiet in (
      laid,
      ap length t ∙ length-sets {A = ℕ} (replicate 1025 0) 1 (map packed (turns_of ls)),
      ap length s ∙ length-sets {A = ℕ} (replicate 1025 0) 1 (starts_from 1 (turns_of ls)),
      nodes ∙ ap sizes_of (sym (turns_seen f a.head laid a.roles.now pre.1 (replicate 1025 0) c.decide.new.turns refl t)),
      omega (arith, nodes, few),
      omega (arith, nodes, enough_room f a.head pre.0 (sizes_of (turns_of ls)) few, pre.2),
      omega (arith, room_least f, pre.2),
    )

pub answer_of-requires : goal.answer_of-requires
answer_of-requires c =
    let a = c.args in
    let laid = (entered_fine a.file.now a.head c.requires.0).0 in
    (omega (arith, laid), sums_few a.file.now a.head laid a.roles.now _ (sym c.in-Ok.ensures.0))

pub returns-in-Err : goal.returns-in-Err
returns-in-Err c =
    let a = c.args in
    let h = a.head in
    let C = contents_at a.file.now h in
    let ls : List Label = labels_from C a.roles.now in
    let v : Verdict = placeable_by C ls in
    let (loud, first) = refusal_decided v (turns_of ls) c.in-Err.first (sym c.in-Err.ensures.0) in (
      c.no_place.ensures ∙ ap (λ (x : Verdict). no_place x.number x.place) first ∙ sym (answer_loud h.version C (turns_of ls) v loud),
      sym (over_loud h.version C (turns_of ls) v a.out.now loud),
    )

pub returns-in-Ok : goal.returns-in-Ok
returns-in-Ok c =
    let a = c.args in
    let f = a.file.now in
    let h = a.head in
    let pre = c.requires in
    let laid = (entered_fine f h pre.0).0 in
    let C = contents_at f h in
    let ls : List Label = labels_from C a.roles.now in
    let (w, (t, s)) = c.in-Ok.ensures in
    let quiet = (sums_given (placeable_by C ls) (turns_of ls) c.in-Ok.sums (sym w)).0 in
    let starts = c.decide.new.starts in
    let nodes : length C.nodes ≤ 1024 = omega (arith, nodes_held f h, laid.nodes) in
    let few : length ls ≤ 1024 = omega (arith, nodes, labelled_length C.nodes (drop 1 a.roles.now) (omega (arith, nodes, length-drop 1 a.roles.now, pre.1))) in
    let placed = ap (λ l. placed_contents C l starts) (turns_seen f h laid a.roles.now pre.1 (replicate 1025 0) c.decide.new.turns refl t) ∙ starts_kept C ls few starts s in (
      c.answer_of.ensures ∙ sums_answered f h laid a.roles.now c.in-Ok.sums (sym w),
      c.put_file.ensures ∙ ap (λ D. sets a.out.now 0 (encoded h.version D)) placed ∙ sym (over_quiet h.version C (turns_of ls) (placeable_by C ls) a.out.now quiet),
    )
