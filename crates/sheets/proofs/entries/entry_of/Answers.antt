use mathlib.Core.Path.{◌≡◌, sym, ap, ◌∙◌, subst}
use Rattle.checking.specs.declared.Examined.{Examined}
use Rattle.placing.proofs.PlaceLaws.{names_loud, surveyed_labels}
use Rattle.sheets.specs.Entries.{entry_of}
use Rattle.sheets.specs.Sheets.{Within}
use Rattle.sheets.proofs.EntryLaws.{entry_from_lem, entry_refused, entry_within}
use Rattle.sheets.proofs.entries.entry_of.Goals as goal

pub entry_body-requires : goal.entry_body-requires
entry_body-requires c =
    let a = c.args in
    let pre = c.requires in
    let told = sym (ap (λ (x : Examined). x.names) c.examine.ensures.0) ∙ c.in-Ok.is in
    (told, (surveyed_labels a.file.now c.in-Ok.head told a.roles.now _ c.examine.ensures.1 pre.0).1, pre.1, pre.2)

pub returns-in-Err : goal.returns-in-Err
returns-in-Err c =
    let f = c.args.file.now in
    let w = c.in-Err.first in
    let (e, loud) = names_loud f w (sym (ap (λ (x : Examined). x.names) c.examine.ensures.0) ∙ c.in-Err.is) in
    let same : c.refused.result ≡ entry_of f = c.refused.ensures ∙ sym (entry_refused f w e loud) in
    (same, subst Within (sym same) (entry_within f))

pub returns-in-Ok : goal.returns-in-Ok
returns-in-Ok c =
    let a = c.args in
    let f = a.file.now in
    let h = c.in-Ok.head in
    let told = sym (ap (λ (x : Examined). x.names) c.examine.ensures.0) ∙ c.in-Ok.is in
    let roles = c.examine.new.roles in
    let labels = (surveyed_labels f h told a.roles.now roles c.examine.ensures.1 c.requires.0).0 in
    let same : c.entry_body.result ≡ entry_of f = c.entry_body.ensures ∙ entry_from_lem f h told roles labels in
    (same, subst Within (sym same) (entry_within f))
