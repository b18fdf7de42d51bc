use Rattle.std.proofs.Common.{◌≡◌, ◌∙◌, sym, ap, ap₂, ℕ, List, true, length, get_or}
use Rattle.std.proofs.lemmas.List.{get_or_default}
use Rattle.format.specs.Contents.{contents_at}
use Rattle.steps.specs.declared.Thread.{Thread}
use Rattle.steps.specs.Threads.{no_thread}
use Rattle.steps.specs.Beside.{thread_count}
use Rattle.naming.specs.Scopes.{awaited_by}
use Rattle.lending.specs.Walk.{Fitting, threads_fit, index_of}
use Rattle.lending.proofs.WalkLaws.{judged, place-within}
use Rattle.engine.proofs.choosing.choose_by.Goals as goal

-- a record that is read, at any default
read_at : (l m : List Thread) (b : List ℕ) → Fitting (length l) b → (i j : ℕ) (d : Thread) → m ≡ l → j ≡ index_of (thread_count b) i → get_or m j d ≡ get_or l (index_of (thread_count b) i) no_thread
read_at l m b fit i j d same at = ap₂ (λ (x : List Thread) (k : ℕ). get_or x k d) same at ∙ get_or_default l (index_of (thread_count b) i) d no_thread (place-within l b fit i)

pub store-requires : goal.store-requires
store-requires c =
    let fit = c.requires.3 in
    let at = λ (k : ℕ). ap (λ (n : ℕ). index_of n k) c.thread_count-count.ensures in
    let own = read_at c.args.list.now c.records_fit.new.list c.args.beside.now fit c.args.i c.index_of.result _ c.records_fit.ensures.1 (c.index_of.ensures ∙ at c.args.i) in
    let other = read_at c.args.list.now c.records_fit.new.list c.args.beside.now fit c.args.p c.index_of-2.result _ c.records_fit.ensures.1 (c.index_of-2.ensures ∙ at c.args.p) in
    let fits : threads_fit (contents_at c.args.file.now c.args.head) c.args.list.now c.args.beside.now ≡ true = sym c.records_fit.ensures.0 ∙ c.if-not-records_fit.false in
    rw (c.records_fit.ensures.1, c.from-n.ensures, c.thread_count-count.ensures, c.from.ensures, c.from-2.ensures)
    (judged (contents_at c.args.file.now c.args.head) c.args.list.now c.args.beside.now fit c.args.i c.args.p (awaited_by c.args.table.now) c.requires.2.kinds fits _ _ own other c.stepped-it.result c.stepped-it.ensures.0).0

pub returns : goal.returns
returns c =
    let fit = c.requires.3 in
    let at = λ (k : ℕ). ap (λ (n : ℕ). index_of n k) c.thread_count-count.ensures in
    let own = read_at c.args.list.now c.records_fit.new.list c.args.beside.now fit c.args.i c.index_of.result _ c.records_fit.ensures.1 (c.index_of.ensures ∙ at c.args.i) in
    let other = read_at c.args.list.now c.records_fit.new.list c.args.beside.now fit c.args.p c.index_of-2.result _ c.records_fit.ensures.1 (c.index_of-2.ensures ∙ at c.args.p) in
    let fits : threads_fit (contents_at c.args.file.now c.args.head) c.args.list.now c.args.beside.now ≡ true = sym c.records_fit.ensures.0 ∙ c.if-not-records_fit.false in
    let (may, answer, records, words) = judged (contents_at c.args.file.now c.args.head) c.args.list.now c.args.beside.now fit c.args.i c.args.p (awaited_by c.args.table.now) c.requires.2.kinds fits _ _ own other c.stepped-it.result c.stepped-it.ensures.0 in (
      c.answer_of.ensures ∙ answer,
      rw (c.store.ensures, c.records_fit.ensures.1, c.from-n.ensures, c.thread_count-count.ensures, c.from.ensures, c.from-2.ensures) records,
      c.stepped-it.ensures.1 ∙ words,
    )
