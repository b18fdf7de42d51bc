use Prim.Native.Nat.{ℕ}
use mathlib.Core.Path.{refl, sym, ap, ◌∙◌}
use Rattle.seated.specs.SeatedTables.{seated_in}
use Rattle.rows.specs.Rows.{row_words, stands_at}
use Rattle.certifying.proofs.ExploreLaws.{no_word, not_known, no_such_row, other_words, has_arrived, now-known, still-known}
use native.Mathlib.Omega.{arith}
use Rattle.certifying.proofs.explore.arrive.Goals as goal

pub returns-then-next-search : goal.returns-then-next-search
returns-then-next-search c =
    let a = c.args in
    no_word a.roles a.states.now a.places.now a.next.now (seated_in a.threads.now a.beside.now a.owners.now a.lines.now) a.search _ refl (omega arith)

pub returns-then-search-k : goal.returns-then-search-k
returns-then-search-k c =
    let a = c.args in
    not_known a.roles a.states.now a.places.now a.next.now (seated_in a.threads.now a.beside.now a.owners.now a.lines.now) a.search c.number_at-k.result c.number_at-k.ensures.0 (omega arith) (omega arith)

pub returns-then-places-k : goal.returns-then-places-k
returns-then-places-k c =
    let a = c.args in
    no_such_row a.roles a.states.now a.places.now a.next.now (seated_in a.threads.now a.beside.now a.owners.now a.lines.now) a.search c.number_at-k.result c.number_at-k.ensures.0 (omega arith) (omega arith) (omega arith)

pub returns-then-not-same_row : goal.returns-then-not-same_row
returns-then-not-same_row c =
    let a = c.args in
    other_words a.roles a.states.now a.places.now a.next.now (seated_in a.threads.now a.beside.now a.owners.now a.lines.now) a.search c.number_at-k.result c.number_at-k.ensures.0 (omega arith) (omega arith) (omega arith)
    (ap (λ (x : ℕ). stands_at a.states.now x (row_words a.roles (seated_in a.threads.now a.beside.now a.owners.now a.lines.now))) (sym c.number_at-at.ensures.0) ∙ sym c.same_row.ensures ∙ c.if-not-same_row.true)

pub returns-then-k-known : goal.returns-then-k-known
returns-then-k-known c =
    let a = c.args in
    has_arrived a.roles a.states.now a.places.now a.next.now (seated_in a.threads.now a.beside.now a.owners.now a.lines.now) a.search c.number_at-k.result c.number_at-k.ensures.0 (omega arith) (omega arith) (omega arith)
    (ap (λ (x : ℕ). stands_at a.states.now x (row_words a.roles (seated_in a.threads.now a.beside.now a.owners.now a.lines.now))) (sym c.number_at-at.ensures.0) ∙ sym c.same_row.ensures ∙ c.if-not-same_row.false) _ _ (now-known c.number_at-k.result a.search.known _ c.if-k-known.true c.index_after-known.ensures) c.index_after-cursor.ensures

pub returns-else-k-known : goal.returns-else-k-known
returns-else-k-known c =
    let a = c.args in
    has_arrived a.roles a.states.now a.places.now a.next.now (seated_in a.threads.now a.beside.now a.owners.now a.lines.now) a.search c.number_at-k.result c.number_at-k.ensures.0 (omega arith) (omega arith) (omega arith)
    (ap (λ (x : ℕ). stands_at a.states.now x (row_words a.roles (seated_in a.threads.now a.beside.now a.owners.now a.lines.now))) (sym c.number_at-at.ensures.0) ∙ sym c.same_row.ensures ∙ c.if-not-same_row.false) _ _ (still-known c.number_at-k.result a.search.known c.if-k-known.false) c.index_after-cursor.ensures
