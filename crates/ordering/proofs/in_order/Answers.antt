use Prim.Native.Nat.{ℕ}
use mathlib.Core.Path.{refl, sym, ap, ◌∙◌}
use lib.ListN.{get_or, take}
use native.Mathlib.Omega.{arith}
use Rattle.ordering.specs.Order.{all_counted}
use Rattle.ordering.proofs.OrderLaws.{counted_iff, not_counted, role_other, role_same, all_fit}
use Rattle.ordering.proofs.in_order.Goals as goal

pub returns-then-not-are_counted : goal.returns-then-not-are_counted
returns-then-not-are_counted c =
    let a = c.args in
    let q = c.requires in
    let count = c.from.ensures ∙ c.thread_count.ensures in
    let counted = sym (c.are_counted.ensures ∙ ap (λ (x : ℕ). all_counted a.n (take x a.owners.now)) count) ∙ c.if-not-are_counted.true in
    not_counted a.seats.now a.threads.now a.beside.now a.owners.now a.lines.now q.0 q.1 a.n counted

pub loop-r-init : goal.loop-r-init
loop-r-init c = refl

pub role_fits-requires : goal.role_fits-requires
role_fits-requires c =
    let a = c.args in
    let q = c.requires in
    let count = c.from.ensures ∙ c.thread_count.ensures in
    let counted = sym (c.are_counted.ensures ∙ ap (λ (x : ℕ). all_counted a.n (take x a.owners.now)) count) ∙ c.if-not-are_counted.false in
    (q.0, q.1, q.2, q.3, (counted_iff a.n _).0 counted, omega arith, omega arith)

pub returns-then-not-role_fits : goal.returns-then-not-role_fits
returns-then-not-role_fits c =
    let a = c.args in
    let q = c.requires in
    let count = c.from.ensures ∙ c.thread_count.ensures in
    let counted = sym (c.are_counted.ensures ∙ ap (λ (x : ℕ). all_counted a.n (take x a.owners.now)) count) ∙ c.if-not-are_counted.false in
    let l = c.loop-r in
    role_other a.seats.now a.threads.now a.beside.now a.owners.now a.lines.now q.0 q.1 a.n l.r c.word_at-limit.result (omega arith) (c.word_at-limit.ensures ∙ ap (λ (x : ℕ). get_or a.seats.now x 0) c.from-in-loop-r.ensures) c.role_fits.result c.role_fits.ensures counted l.invariant c.if-not-role_fits.true

pub loop-r-preserved : goal.loop-r-preserved
loop-r-preserved c =
    let a = c.args in
    let q = c.requires in
    let l = c.loop-r in
    role_same a.seats.now a.threads.now a.beside.now a.owners.now a.lines.now q.0 q.1 a.n l.r c.word_at-limit.result (omega arith) (c.word_at-limit.ensures ∙ ap (λ (x : ℕ). get_or a.seats.now x 0) c.from-in-loop-r.ensures) c.role_fits.result c.role_fits.ensures l.invariant c.if-not-role_fits.false

pub returns : goal.returns
returns c =
    let a = c.args in
    let q = c.requires in
    let count = c.from.ensures ∙ c.thread_count.ensures in
    let counted = sym (c.are_counted.ensures ∙ ap (λ (x : ℕ). all_counted a.n (take x a.owners.now)) count) ∙ c.if-not-are_counted.false in
    let l = c.loop-r in
    all_fit a.seats.now a.threads.now a.beside.now a.owners.now a.lines.now q.0 q.1 a.n l.r (omega arith) counted l.invariant
