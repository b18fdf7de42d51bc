use Rattle.std.proofs.Common.{◌≡◌, ◌≤◌, ◌∙◌, refl, sym, ap, arith, length, take}
use Rattle.std.proofs.lemmas.List.{get_or_default}
use Rattle.format.specs.Contents.{Contents, contents_at}
use Rattle.steps.specs.Beside.{made_of}
use Rattle.steps.specs.Threads.{no_thread}
use Rattle.lending.specs.declared.Tally.{Tally}
use Rattle.lending.specs.Walk.{no_tally, tally_on, tally_all, tally_fits}
use Rattle.lending.proofs.TotalsLaws.{tally_step, tally_done, tally_long, tallied_fit}
use Rattle.engine.proofs.walk.records_fit.Goals as goal

-- one record more
pub loop-k-preserved : goal.loop-k-preserved
loop-k-preserved c =
    let fit = c.requires.3 in
    let in_list : c.args.n ≤ length c.args.list.now = omega (arith, c.requires.4, fit.list, fit.threads) in
    let record_k = get_or_default c.args.list.now c.loop-k.k _ no_thread (omega arith) in
    tally_step (contents_at c.args.file.now c.args.head) c.args.table.now (made_of c.args.beside.now) c.args.list.now c.args.n c.loop-k.k c.loop-k.all c.tally-all.result
    (omega arith) in_list (c.tally-all.ensures ∙ ap (tally_on (contents_at c.args.file.now c.args.head) c.args.table.now (made_of c.args.beside.now) c.loop-k.all) record_k)
    ∙ c.loop-k.invariant

pub tally_fits-requires : goal.tally_fits-requires
tally_fits-requires c =
    let C : Contents = contents_at c.args.file.now c.args.head in
    let made = made_of c.args.beside.now in
    let all : c.loop-k.all ≡ tally_all C c.args.table.now made no_tally (take c.args.n c.args.list.now)
    = sym (tally_done C c.args.table.now made c.args.list.now c.args.n c.loop-k.k c.loop-k.all (omega arith)) ∙ c.loop-k.invariant in
    (c.requires.3.beside, ap (λ (s : Tally). length s.totals) all ∙ tally_long C c.args.table.now made (take c.args.n c.args.list.now))

pub returns : goal.returns
returns c =
    let C : Contents = contents_at c.args.file.now c.args.head in
    let made = made_of c.args.beside.now in
    let fit = c.requires.3 in
    let all : c.loop-k.all ≡ tally_all C c.args.table.now made no_tally (take c.args.n c.args.list.now)
    = sym (tally_done C c.args.table.now made c.args.list.now c.args.n c.loop-k.k c.loop-k.all (omega arith)) ∙ c.loop-k.invariant in
    let few : c.args.n ≤ 64 = omega (arith, c.requires.4, fit.threads) in (
      c.tally_fits.ensures ∙ ap (tally_fits c.args.beside.now) all
          ∙ tallied_fit C c.args.table.now c.args.list.now c.args.beside.now c.args.n c.requires.4 few (omega (arith, fit.list)) c.requires.2.kinds,
      refl,
    )
