use mathlib.Core.Path.{◌≡◌, sym, ap, subst, ◌∙◌}
use mathlib.Core.List.{List}
use Prim.Native.Nat.{ℕ}
use native.Mathlib.Omega.{arith}
use lib.ListN.{drop}
use lib.Seq.{sets}
use Rattle.format.specs.Contents.{contents_at}
use Rattle.format.specs.Answers.{fine, refused}
use Rattle.format.specs.declared.Verdict.{Verdict}
use Rattle.format.proofs.AnswerLaws.{NoRefusal}
use Rattle.format.proofs.ContentsLaws.{nodes_held}
use Rattle.states.specs.States.{Label, labelled, turns_of}
use Rattle.groups.specs.Groups.{starts_from, turns_in}
use Rattle.groups.specs.declared.Sums.{Sums}
use Rattle.placing.specs.Placing.{unserved_from, settling, summed}
use Rattle.std.specs.Prelude.{Ok, Err}
use Rattle.placing.proofs.DecideLaws.{decided_loud, decided_quiet, settled_before, unserved_number, unserved_loud, too_large, not_too_large, turns_written}
use Rattle.placing.proofs.ServedLaws.{all_served}
use Rattle.placing.proofs.decide.settle.Goals as goal

pub returns-then-first-ne0 : goal.returns-then-first-ne0
returns-then-first-ne0 c =
    let a = c.args in
    let ls : List Label = labelled (contents_at a.file.now a.head).nodes (drop 1 a.roles.now) in
    let e = c.unserved-first.ensures in
    let loud : NoRefusal (unserved_from 1 ls) → ⊥ = λ q. c.if-first-ne0.true (ap (λ (x : Verdict). x.number) e ∙ q) in
    let s : settling ls ≡ unserved_from 1 ls = unserved_loud ls loud in
    let number : ◌≡◌ {A = ℕ} c.unserved-first.result.number 15 = ap (λ (x : Verdict). x.number) e ∙ unserved_number 1 ls loud in (
      ap (λ (x : Verdict). Err x) (e ∙ sym s) ∙ sym (decided_loud (settling ls) (turns_of ls) (λ q. loud (subst NoRefusal s q))),
      settled_before (Err c.unserved-first.result) (turns_of ls) a.turns.now a.starts.now (rw number),
    )

pub turns-requires : goal.turns-requires
turns-requires c =
    let a = c.args in
    let pre = c.requires in
    let ls : List Label = labelled (contents_at a.file.now a.head).nodes (drop 1 a.roles.now) in
    let quiet : NoRefusal (unserved_from 1 ls) = sym (ap (λ (x : Verdict). x.number) c.unserved-first.ensures) ∙ c.if-first-ne0.false in
    (pre.0, pre.1, pre.2, all_served 1 ls quiet)

pub returns-then-sums-gt1024 : goal.returns-then-sums-gt1024
returns-then-sums-gt1024 c =
    let a = c.args in
    let ls : List Label = labelled (contents_at a.file.now a.head).nodes (drop 1 a.roles.now) in
    let quiet : NoRefusal (unserved_from 1 ls) = sym (ap (λ (x : Verdict). x.number) c.unserved-first.ensures) ∙ c.if-first-ne0.false in
    let pre = c.requires in
    let held = nodes_held a.file.now a.head in
    let t : List ℕ = c.turns.new.turns in
    let written : turns_in t a.head.count.nodes ≡ turns_of ls =
    ap (turns_in t) (sym held) ∙ turns_written (contents_at a.file.now a.head).nodes a.roles.now a.turns.now t (omega (arith, held, pre.0.nodes, pre.1)) (omega (arith, held, pre.0.nodes, pre.2)) c.turns.ensures in
    let sums : c.starts-sums.result ≡ summed (turns_of ls) = c.starts-sums.ensures.0 ∙ ap summed written in
    let s : settling ls ≡ refused 16 0 = too_large ls quiet (omega (arith, c.if-sums-gt1024.true, ap (λ (x : Sums). x.nodes) sums)) in
    let loud : NoRefusal (settling ls) → ⊥ = λ q. let no_way : ⊥ = omega (arith, sym (ap (λ (x : Verdict). x.number) s) ∙ q) in no_way in (
      ap (λ (x : Verdict). Err x) (sym s) ∙ sym (decided_loud (settling ls) (turns_of ls) loud),
      (c.turns.ensures, c.starts-sums.ensures.1 ∙ ap (λ l. sets a.starts.now 1 (starts_from 1 l)) written),
    )

pub returns : goal.returns
returns c =
    let a = c.args in
    let ls : List Label = labelled (contents_at a.file.now a.head).nodes (drop 1 a.roles.now) in
    let quiet : NoRefusal (unserved_from 1 ls) = sym (ap (λ (x : Verdict). x.number) c.unserved-first.ensures) ∙ c.if-first-ne0.false in
    let pre = c.requires in
    let held = nodes_held a.file.now a.head in
    let t : List ℕ = c.turns.new.turns in
    let written : turns_in t a.head.count.nodes ≡ turns_of ls =
    ap (turns_in t) (sym held) ∙ turns_written (contents_at a.file.now a.head).nodes a.roles.now a.turns.now t (omega (arith, held, pre.0.nodes, pre.1)) (omega (arith, held, pre.0.nodes, pre.2)) c.turns.ensures in
    let sums : c.starts-sums.result ≡ summed (turns_of ls) = c.starts-sums.ensures.0 ∙ ap summed written in
    let s : settling ls ≡ fine = not_too_large ls quiet (omega (arith, c.if-sums-gt1024.false, ap (λ (x : Sums). x.nodes) sums)) in (
      ap (λ (k : Sums). Ok k) sums ∙ sym (decided_quiet (settling ls) (turns_of ls) (ap (λ (x : Verdict). x.number) s)),
      (c.turns.ensures, c.starts-sums.ensures.1 ∙ ap (λ l. sets a.starts.now 1 (starts_from 1 l)) written),
    )
