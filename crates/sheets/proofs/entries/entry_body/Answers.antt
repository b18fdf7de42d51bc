use Prim.Native.Nat.{ℕ}
use mathlib.Core.Path.{◌≡◌, sym, ap, ◌∙◌}
use mathlib.Core.List.{List, map}
use lib.ListN.{length}
use lib.Seq.{length-sets}
use Rattle.format.specs.Contents.{contents_at}
use Rattle.format.specs.declared.Verdict.{Verdict}
use Rattle.format.proofs.ContentsLaws.{sessions_held}
use Rattle.checking.proofs.CheckLaws.{entered_fine}
use Rattle.states.specs.States.{Label, turns_of, packed}
use Rattle.groups.specs.Groups.{ons_of}
use Rattle.groups.specs.declared.Sums.{Sums}
use Rattle.placing.specs.Placing.{labels_from, placeable_by}
use Rattle.placing.proofs.DecideLaws.{sums_given, refusal_decided}
use Rattle.placing.proofs.PlaceLaws.{turns_seen}
use Rattle.sheets.specs.Entries.{most_from, refused_at}
use Rattle.sheets.proofs.EntryLaws.{entry_loud, entry_quiet}
use Rattle.sheets.proofs.entries.entry_body.Goals as goal

pub decide-requires : goal.decide-requires
decide-requires c = let a = c.args in let pre = c.requires in ((entered_fine a.file.now a.head pre.0).0, pre.1, pre.2, pre.3)

pub returns-in-Err : goal.returns-in-Err
returns-in-Err c =
    let a = c.args in
    let C = contents_at a.file.now a.head in
    let ls : List Label = labels_from C a.roles.now in
    let (loud, first) = refusal_decided (placeable_by C ls) (turns_of ls) c.in-Err.first (sym c.in-Err.ensures.0) in
    c.refused.ensures ∙ ap (λ (x : Verdict). refused_at x.number) first ∙ sym (entry_loud C (turns_of ls) (placeable_by C ls) loud)

pub most_in-requires : goal.most_in-requires
most_in-requires c =
    let a = c.args in
    let ls : List Label = labels_from (contents_at a.file.now a.head) a.roles.now in
    let pre = c.requires in
    (pre.0, ap length c.in-Ok.ensures.1.0 ∙ length-sets {A = ℕ} a.turns.now 1 (map packed (turns_of ls)) ∙ pre.2)

pub returns-in-Ok : goal.returns-in-Ok
returns-in-Ok c =
    let a = c.args in
    let f = a.file.now in
    let C = contents_at f a.head in
    let ls : List Label = labels_from C a.roles.now in
    let pre = c.requires in
    let (quiet, sums) = sums_given (placeable_by C ls) (turns_of ls) c.in-Ok.sums (sym c.in-Ok.ensures.0) in
    let turns = turns_seen f a.head (entered_fine f a.head pre.0).0 a.roles.now pre.1 a.turns.now c.decide.new.turns pre.2 c.in-Ok.ensures.1.0 in
    let served : a.head.count.sessions ≡ length C.sessions = sym (sessions_held f a.head) in
    let ons : c.in-Ok.sums.on_steps ≡ ons_of (turns_of ls) = ap (λ (x : Sums). x.on_steps) sums in
    let most : c.most_in.result ≡ most_from 1 0 0 C.nodes (turns_of ls) = c.most_in.ensures ∙ ap (most_from 1 0 0 C.nodes) turns in
    (λ i. record { number = 0; sessions = served i; on_steps = ons i; most = most i }) ∙ sym (entry_quiet C (turns_of ls) (placeable_by C ls) quiet)
