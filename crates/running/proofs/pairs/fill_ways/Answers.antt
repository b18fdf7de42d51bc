use native.Mathlib.Omega.{arith}
use Prim.Native.Nat.{ℕ, ◌<◌}
use mathlib.Core.Path.{ap, ◌∙◌}
use lib.ListN.{length-set}
use Rattle.format.specs.Contents.{contents_at}
use Rattle.steps.specs.Choice.{clinic_of}
use Rattle.steps.specs.Beside.{made_of}
use Rattle.running.specs.Ways.{out_of, in_of}
use Rattle.running.proofs.WayLaws.{out_held, in_held, each_more}
use Rattle.running.proofs.pairs.fill_ways.Goals as goal

pub loop-i-preserved : goal.loop-i-preserved
loop-i-preserved c =
    let a = c.args in
    let l = c.loop-i in
    let i : ℕ = l.i in
    let h : i < 64 = omega (arith, c.from-count.ensures ∙ c.thread_count.ensures, c.requires.3.threads) in
    let F = contents_at a.file.now a.head in
    let made = made_of a.beside.now in
    let t = c.thread_at-t in
    let n = c.node-it in
    let out = c.way_at-out in
    let in-way = c.way_at-at in (
      length-set l.outs i out.result ∙ l.invariant.0,
      length-set l.ins i in-way.result ∙ l.invariant.1,
      each_more (out_of (clinic_of F) made) a.threads.now l.outs i out.result (omega (arith, h, l.invariant.0))
          (out_held F made t.result n.result out.result n.ensures out.ensures ∙ ap (out_of (clinic_of F) made) t.ensures) l.invariant.2,
      each_more (in_of (clinic_of F) made) a.threads.now l.ins i in-way.result (omega (arith, h, l.invariant.1))
          (in_held F made t.result n.result in-way.result n.ensures in-way.ensures ∙ ap (in_of (clinic_of F) made) t.ensures) l.invariant.3,
    )
