use mathlib.Core.Path.{ap}
use mathlib.Core.Bool.{not}
use native.Mathlib.Omega.{arith}
use Rattle.format.specs.Contents.{contents_at}
use Rattle.seated.proofs.RoleLaws.{asked_out, asked_there, asked_other, asked_stranger, asked_free, asked_named}
use Rattle.seated.proofs.choice.role_asked.Goals as goal

pub returns-then-not-in_count-p : goal.returns-then-not-in_count-p
returns-then-not-in_count-p c =
    let a = c.args in
    asked_out (contents_at a.file.now a.head) a.seats.now a.threads.now a.beside.now a.i a.p _ _ c.in_count.ensures c.thread_count-count.ensures (ap not c.if-not-in_count-p.true)

pub overflow_sub-i : goal.overflow_sub-i
overflow_sub-i c =
    let a = c.args in
    let (one, most) = asked_there (contents_at a.file.now a.head) a.seats.now a.threads.now a.beside.now a.i a.p _ _ c.in_count.ensures c.thread_count-count.ensures (ap not c.if-not-in_count-p.false) in
    omega (arith, one)

pub thread_at-own-requires : goal.thread_at-own-requires
thread_at-own-requires c =
    let a = c.args in
    let (one, most) = asked_there (contents_at a.file.now a.head) a.seats.now a.threads.now a.beside.now a.i a.p _ _ c.in_count.ensures c.thread_count-count.ensures (ap not c.if-not-in_count-p.false) in
    omega (arith, one, most, c.from.ensures, c.requires.1.words, c.requires.1.threads)

pub returns-then-n-ne7 : goal.returns-then-n-ne7
returns-then-n-ne7 c =
    let a = c.args in
    asked_other (contents_at a.file.now a.head) a.seats.now a.threads.now a.beside.now a.i a.p _ _ c.in_count.ensures c.thread_count-count.ensures (ap not c.if-not-in_count-p.false) _ _ _ c.from.ensures c.thread_at-own.ensures c.single_node-n.ensures c.if-n-ne7.true

pub returns-then-not-has_role : goal.returns-then-not-has_role
returns-then-not-has_role c =
    let a = c.args in
    asked_stranger (contents_at a.file.now a.head) a.seats.now a.threads.now a.beside.now a.i a.p _ _ c.in_count.ensures c.thread_count-count.ensures (ap not c.if-not-in_count-p.false) _ _ _ c.from.ensures c.thread_at-own.ensures c.single_node-n.ensures c.if-n-ne7.false _ _ c.user_roles.ensures c.has_role.ensures (ap not c.if-not-has_role.true)

pub returns-then-seats_of-eq0 : goal.returns-then-seats_of-eq0
returns-then-seats_of-eq0 c =
    let a = c.args in
    asked_free (contents_at a.file.now a.head) a.seats.now a.threads.now a.beside.now a.i a.p _ _ c.in_count.ensures c.thread_count-count.ensures (ap not c.if-not-in_count-p.false) _ _ _ c.from.ensures c.thread_at-own.ensures c.single_node-n.ensures c.if-n-ne7.false _ _ c.user_roles.ensures c.has_role.ensures (ap not c.if-not-has_role.false) _ c.seats_of.ensures c.if-seats_of-eq0.true

pub returns : goal.returns
returns c =
    let a = c.args in
    asked_named (contents_at a.file.now a.head) a.seats.now a.threads.now a.beside.now a.i a.p _ _ c.in_count.ensures c.thread_count-count.ensures (ap not c.if-not-in_count-p.false) _ _ _ c.from.ensures c.thread_at-own.ensures c.single_node-n.ensures c.if-n-ne7.false _ _ c.user_roles.ensures c.has_role.ensures (ap not c.if-not-has_role.false) _ c.seats_of.ensures c.if-seats_of-eq0.false
