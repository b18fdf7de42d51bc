use Prim.Native.Nat.{ℕ}
use mathlib.Core.Path.{◌≡◌, refl, sym, ap, subst, ◌∙◌}
use mathlib.Core.Bool.{Bool, true, cond}
use native.Mathlib.Omega.{arith}
use lib.ListN.{get_or}
use Rattle.format.specs.Contents.{in_count, contents_at}
use Rattle.format.proofs.ContentsLaws.{in_count_lem}
use Rattle.steps.specs.declared.Outcome.{Outcome}
use Rattle.steps.specs.declared.Answer.TheVariants as answers
use Rattle.steps.specs.Choice.{clinic_of, done}
use Rattle.steps.specs.Records.{threads_in}
use Rattle.steps.specs.Kept.{state_in}
use Rattle.naming.specs.Scopes.{awaited_by}
use Rattle.steps.specs.Acted.{outcome_of}
use Rattle.steps.specs.Beside.{beside_by}
use Rattle.choices.proofs.StoreLaws.{recounted}
use Rattle.choices.specs.Stored.{Chose}
use Rattle.choices.proofs.ChoiceLaws.{looked, acted_placed, outcome_by_lem, outcome_none, thread_read}
use Rattle.steps.proofs.TableLaws.{threads_length}
use Rattle.choices.proofs.list.choose.Goals as goal
use Rattle.choices.proofs.list.choose.Lts as lts
use Rattle.choices.proofs.list.choose.Tie as tie
use Rattle.choices.proofs.list.choose.Reads as reads

-- whether the thread is in count
counted : (c : lts.After-in_count tie.the-claims reads.Pre reads.Post) {x : Bool} → c.in_count.result ≡ x → in_count (get_or c.args.beside.now 0 0) c.args.i ≡ x
counted c e = ap (λ (n : ℕ). in_count n c.args.i) (sym c.thread_count-count.ensures) ∙ sym c.in_count.ensures ∙ e

inside : (c : lts.Else1 tie.the-claims reads.Pre reads.Post) → in_count (get_or c.args.beside.now 0 0) c.args.i ≡ true
inside c = counted c.before c.if-not-in_count.false

-- the thread to look at for the partner
seen : (c : lts.After-looked_at tie.the-claims reads.Pre reads.Post) → let a = c.args in c.looked_at-q.result ≡ cond (in_count (get_or a.beside.now 0 0) a.p) a.p a.i
seen c = let a = c.args in c.looked_at-q.ensures ∙ ap (λ (n : ℕ). cond (in_count n a.p) a.p a.i) c.thread_count-count.ensures

pub returns-then-not-in_count : goal.returns-then-not-in_count
unfolding done
returns-then-not-in_count c =
    let a = c.args in
    let n = get_or a.beside.now 0 0 in
    let none = outcome_none (clinic_of (contents_at a.file.now a.head)) (state_in a.threads.now a.beside.now) n a.i a.p (threads_length a.threads.now 0 n) (counted c.before.before c.if-not-in_count.true) in
    subst (λ (o : Outcome). Chose (beside_by (awaited_by a.table.now) a.beside.now o) o a.i a.p (answers.Refused 18) a.threads.now a.beside.now a.threads.now a.beside.now) (sym none) (refl, refl, refl, c.requires.3)

pub overflow_sub-i : goal.overflow_sub-i
overflow_sub-i c =
    let a = c.args in
    let some = in_count_lem (get_or a.beside.now 0 0) a.i (inside c.before) in
    omega (arith, some.0)

pub thread_at-own-requires : goal.thread_at-own-requires
thread_at-own-requires c =
    let some = in_count_lem (get_or c.args.beside.now 0 0) c.args.i (inside c.before.before) in
    omega (arith, some.0, some.1, c.from.ensures, c.requires.3.words, c.requires.3.threads)

pub overflow_sub-q : goal.overflow_sub-q
overflow_sub-q c =
    let a = c.args in
    let some = looked (get_or a.beside.now 0 0) a.i a.p c.looked_at-q.result (inside c.before.before.before.before) (seen c.before) in
    omega (arith, some.0)

pub thread_at-other-requires : goal.thread_at-other-requires
thread_at-other-requires c =
    let a = c.args in
    let some = looked (get_or a.beside.now 0 0) a.i a.p c.looked_at-q.result (inside c.before.before.before.before.before) (seen c.before.before) in
    omega (arith, some.0, some.1, c.from-2.ensures, c.requires.3.words, c.requires.3.threads)

pub store-answer-requires : goal.store-answer-requires
store-answer-requires c =
    let a = c.args in
    let C = clinic_of (contents_at a.file.now a.head) in
    let some = in_count_lem (get_or a.beside.now 0 0) a.i (inside c.before.before.before.before.before.before.before.before.before) in (
      c.requires.3,
      some.0,
      some.1,
      acted_placed C a.beside.now a.p c.thread_at-own.result c.thread_at-other.result c.act-it.result c.act-it.ensures,
    )

pub recount-requires : goal.recount-requires
recount-requires c = c.store-answer.ensures.3.beside

pub returns : goal.returns
returns c =
    let a = c.args in
    let C = clinic_of (contents_at a.file.now a.head) in
    let own = c.thread_at-own in
    let at = c.from in
    let q = c.looked_at-q in
    let other = c.thread_at-other in
    let it = c.act-it in
    let stored = c.store-answer in
    let to = c.from-2 in
    let n = get_or a.beside.now 0 0 in
    let w = a.threads.now in
    let within-i = inside c.before.before.before.before.before.before.before.before.before.before.before.before.before.before.before.before.before.before in
    let some = in_count_lem n a.i within-i in
    let look = seen c.before.before.before.before.before.before.before.before.before.before.before.before.before.before.before in
    let some-q = looked n a.i a.p q.result within-i look in
    let mine = thread_read w n at.result own.result (omega (arith, some.0, some.1, at.ensures)) own.ensures in
    let theirs = thread_read w n to.result other.result (omega (arith, some-q.0, some-q.1, to.ensures)) other.ensures in
    let same = outcome_by_lem C a.beside.now a.p own.result other.result it.result it.ensures (threads_in w 0 n) (threads_length w 0 n) a.i q.result at.result to.result within-i look at.ensures mine to.ensures theirs in
    let kind = awaited_by a.table.now in
    let all = recounted kind (outcome_of it.result) a.i a.p stored.result w a.beside.now stored.new.threads stored.new.beside c.recount.new.beside stored.ensures c.recount.ensures in
    subst (λ (o : Outcome). Chose (beside_by kind a.beside.now o) o a.i a.p stored.result w a.beside.now stored.new.threads c.recount.new.beside) same all
