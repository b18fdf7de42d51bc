use Prim.Native.Nat.{◌+◌, ◌-◌}
use mathlib.Core.Path.{◌≡◌, ap, ◌∙◌}
use native.Mathlib.Omega.{arith}
use Rattle.format.specs.Contents.{contents_at}
use Rattle.seats.specs.Seats.{sits, count_to, seated_start}
use Rattle.seated.proofs.StartLaws.{count_next, count-zero, byte_few}
use Rattle.seated.proofs.start.start_count.Goals as goal

pub loop-j-init : goal.loop-j-init
loop-j-init c = (omega arith, omega arith, count-zero _)

pub loop-j-preserved : goal.loop-j-preserved
loop-j-preserved c =
    let a = c.args in
    let l = c.loop-j in
    let back : l.j ≡ l.j + 1 - 1 = omega arith in
    (omega arith, omega (arith, byte_few c.has_role.result, l.invariant.1), count_next (contents_at a.file.now a.head) a.role.0 l.n l.j c.session-it.result c.has_role.result (omega arith) l.invariant.2 c.session-it.ensures c.has_role.ensures ∙ ap (count_to (λ x. sits (seated_start (contents_at a.file.now a.head)) x a.role.0)) back)

pub returns : goal.returns
returns c =
    let a = c.args in
    let l = c.loop-j in
    let none : l.j - 1 ≡ a.k = omega (arith, l.invariant.0) in
    l.invariant.2 ∙ ap (count_to (λ x. sits (seated_start (contents_at a.file.now a.head)) x a.role.0)) none

pub returns-2 : goal.returns-2
returns-2 c =
    let a = c.args in
    let l = c.loop-j in
    let last : l.j ≡ a.k = omega arith in
    count_next (contents_at a.file.now a.head) a.role.0 l.n l.j c.session-it.result c.has_role.result (omega arith) l.invariant.2 c.session-it.ensures c.has_role.ensures ∙ ap (count_to (λ x. sits (seated_start (contents_at a.file.now a.head)) x a.role.0)) last
