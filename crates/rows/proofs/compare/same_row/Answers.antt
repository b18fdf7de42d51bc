use Prim.Native.Nat.{ℕ, ◌+◌, ◌*◌}
use mathlib.Core.Path.{sym, ap, ◌∙◌}
use Rattle.rows.proofs.StandLaws.{front_differs, threads_differ, owners_differ, lines_decide}
use Rattle.rows.proofs.compare.same_row.Goals as goal

pub returns-then-not-same_words : goal.returns-then-not-same_words
returns-then-not-same_words c =
    let a = c.args in
    let q = c.requires in
    let used = ap (λ (x : ℕ). 2 + 2 * x) (c.from.ensures ∙ c.made_count.ensures) in
    let n = c.from-n.ensures ∙ c.thread_count.ensures in
    front_differs a.states.now a.threads.now a.beside.now a.owners.now a.lines.now q.2 q.3 a.at a.roles (2 + 2 * c.from.result) c.from-n.result used n (sym c.same_words.ensures ∙ c.if-not-same_words.true)

pub returns-then-not-same_threads : goal.returns-then-not-same_threads
returns-then-not-same_threads c =
    let a = c.args in
    let q = c.requires in
    let used = ap (λ (x : ℕ). 2 + 2 * x) (c.from.ensures ∙ c.made_count.ensures) in
    let n = c.from-n.ensures ∙ c.thread_count.ensures in
    threads_differ a.states.now a.threads.now a.beside.now a.owners.now a.lines.now q.2 q.3 a.at a.roles (2 + 2 * c.from.result) c.from-n.result used n (sym c.same_words.ensures ∙ c.if-not-same_words.false)
    (sym c.same_threads.ensures ∙ c.if-not-same_threads.true)

pub returns-then-not-same_words-2 : goal.returns-then-not-same_words-2
returns-then-not-same_words-2 c =
    let a = c.args in
    let q = c.requires in
    let used = ap (λ (x : ℕ). 2 + 2 * x) (c.from.ensures ∙ c.made_count.ensures) in
    let n = c.from-n.ensures ∙ c.thread_count.ensures in
    owners_differ a.states.now a.threads.now a.beside.now a.owners.now a.lines.now q.2 q.3 a.at a.roles (2 + 2 * c.from.result) c.from-n.result used n (sym c.same_words.ensures ∙ c.if-not-same_words.false)
    (sym c.same_threads.ensures ∙ c.if-not-same_threads.false)
    (sym c.same_words-2.ensures ∙ c.if-not-same_words-2.true)

pub returns : goal.returns
returns c =
    let a = c.args in
    let q = c.requires in
    let used = ap (λ (x : ℕ). 2 + 2 * x) (c.from.ensures ∙ c.made_count.ensures) in
    let n = c.from-n.ensures ∙ c.thread_count.ensures in
    c.same_lines.ensures ∙ lines_decide a.states.now a.threads.now a.beside.now a.owners.now a.lines.now q.2 q.3 a.at a.roles (2 + 2 * c.from.result) c.from-n.result used n (sym c.same_words.ensures ∙ c.if-not-same_words.false)
    (sym c.same_threads.ensures ∙ c.if-not-same_threads.false)
    (sym c.same_words-2.ensures ∙ c.if-not-same_words-2.false)
