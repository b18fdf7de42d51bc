use mathlib.Core.Path.{◌≡◌, sym, ap, ◌∙◌}
use mathlib.Core.Bool.{Bool}
use native.Mathlib.Omega.{arith}
use lib.ListN.{length, get_or}
use Rattle.masks.specs.Mask.{within}
use Rattle.format.specs.Contents.{in_count, contents_at}
use Rattle.format.proofs.ContentsLaws.{in_count_lem, nodes_held, nodes_counted}
use Rattle.steps.specs.Beside.{made_in}
use Rattle.lending.proofs.JudgeLaws.{thread_nowhere, thread_user, thread_mask, thread_vars}
use Rattle.lending.proofs.judging.thread_fits.Goals as goal
use Rattle.lending.proofs.judging.thread_fits.Lts as lts
use Rattle.lending.proofs.judging.thread_fits.Tie as tie
use Rattle.lending.proofs.judging.thread_fits.Reads as reads

-- the thread's node is in count, or not
counted : (c : lts.After-in_count tie.the-claims reads.Pre reads.Post) {b : Bool} → c.in_count.result ≡ b → let a = c.args in in_count (length (contents_at a.file.now a.head).nodes) a.t.node ≡ b
counted c h = let a = c.args in sym (nodes_counted a.file.now a.head a.t.node) ∙ sym c.in_count.ensures ∙ h

pub returns-then-not-in_count : goal.returns-then-not-in_count
returns-then-not-in_count c =
    let a = c.args in
    thread_nowhere (contents_at a.file.now a.head) (made_in a.beside.now 2 (get_or a.beside.now 1 0)) a.t (counted c.before.before c.if-not-in_count.true)

pub bounds-table-from : goal.bounds-table-from
bounds-table-from c =
    let a = c.args in
    let few = in_count_lem (length (contents_at a.file.now a.head).nodes) a.t.node (counted c.before.before.before.before c.if-not-in_count.false) in
    omega (arith, few, nodes_held a.file.now a.head, c.requires.0.nodes, c.from.ensures)

pub returns-then-t-w : goal.returns-then-t-w
returns-then-t-w c =
    let a = c.args in
    let node = counted c.before.before.before.before.before.before.before c.if-not-in_count.false in
    thread_user (contents_at a.file.now a.head) (made_in a.beside.now 2 (get_or a.beside.now 1 0)) a.t a.table.now c.from.result c.requires.2 c.from.ensures node c.scope_in-w.result c.scope_in-w.ensures c.if-t-w.true

pub returns-then-not-roles_within : goal.returns-then-not-roles_within
returns-then-not-roles_within c =
    let a = c.args in
    let node = counted c.before.before.before.before.before.before.before.before.before.before c.if-not-in_count.false in
    let mask = ap (within a.t.mask) (sym c.user_roles.ensures) ∙ sym c.roles_within.ensures ∙ c.if-not-roles_within.true in
    thread_mask (contents_at a.file.now a.head) (made_in a.beside.now 2 (get_or a.beside.now 1 0)) a.t a.table.now c.from.result c.requires.2 c.from.ensures node c.scope_in-w.result c.scope_in-w.ensures c.if-t-w.false mask

pub returns : goal.returns
returns c =
    let a = c.args in
    let node = counted c.before.before.before.before.before.before.before.before.before.before.before.before c.if-not-in_count.false in
    let mask = ap (within a.t.mask) (sym c.user_roles.ensures) ∙ sym c.roles_within.ensures ∙ c.if-not-roles_within.false in
    thread_vars (contents_at a.file.now a.head) (made_in a.beside.now 2 (get_or a.beside.now 1 0)) a.t a.table.now c.from.result c.requires.2 c.from.ensures node c.scope_in-w.result c.scope_in-w.ensures c.vars_fit.result c.if-t-w.false mask c.vars_fit.ensures
