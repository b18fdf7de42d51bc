use Prim.Native.Nat.{ℕ}
use mathlib.Core.Path.{◌≡◌, sym, ap, ◌∙◌}
use mathlib.Core.Bool.{true, false, cond}
use native.Mathlib.Omega.{arith}
use Rattle.format.specs.Contents.{in_count, contents_at}
use Rattle.format.proofs.ContentsLaws.{in_count_lem}
use Rattle.steps.specs.declared.Answer.TheVariants as answers
use Rattle.naming.specs.Scopes.{awaited_by}
use Rattle.steps.specs.Choice.{clinic_of}
use Rattle.steps.specs.Beside.{thread_count}
use Rattle.choices.proofs.ChoiceLaws.{looked}
use Rattle.choices.proofs.TriedLaws.{one_chose}
use Rattle.lending.proofs.StepLaws.{laid_long, laid_sized, step_second, step_left, step-none}
use Rattle.lending.proofs.stepping.step_in.Goals as goal
use Rattle.lending.proofs.stepping.step_in.Lts as lts
use Rattle.lending.proofs.stepping.step_in.Tie as tie
use Rattle.lending.proofs.stepping.step_in.Reads as reads

-- the thread is in count
inside : (c : lts.Else1 tie.the-claims reads.Pre reads.Post) → in_count (thread_count c.args.beside.now) c.args.i ≡ true
inside c = ap (λ (n : ℕ). in_count n c.args.i) (sym c.thread_count-count.ensures) ∙ sym c.in_count.ensures ∙ c.if-not-in_count.false

-- and which one is looked at for the partner
seen : (c : lts.After-looked_at tie.the-claims reads.Pre reads.Post) → c.looked_at-q.result ≡ cond (in_count (thread_count c.args.beside.now) c.args.p) c.args.p c.args.i
seen c = c.looked_at-q.ensures ∙ ap (λ (n : ℕ). cond (in_count n c.args.p) c.args.p c.args.i) c.thread_count-count.ensures

pub returns-then-not-in_count : goal.returns-then-not-in_count
returns-then-not-in_count c =
    let a = c.args in
    let none = c.no_thread-none.ensures in
    let outside : in_count (thread_count a.beside.now) a.i ≡ false = ap (λ (n : ℕ). in_count n a.i) (sym c.thread_count-count.ensures) ∙ sym c.in_count.ensures ∙ c.if-not-in_count.true in
    step-none (awaited_by a.table.now) (clinic_of (contents_at a.file.now a.head)) a.beside.now a.i a.p a.own a.other _ outside (λ j. record { answer = answers.Refused 18; first = none j; second = none j })

pub overflow_sub-i : goal.overflow_sub-i
overflow_sub-i c = let some = in_count_lem (thread_count c.args.beside.now) c.args.i (inside c.before) in omega (arith, some.0)

pub overflow_sub-q : goal.overflow_sub-q
overflow_sub-q c =
    let a = c.args in
    let some = looked (thread_count a.beside.now) a.i a.p c.looked_at-q.result (inside c.before.before.before) (seen c.before) in
    omega (arith, some.0)

pub put_thread-requires : goal.put_thread-requires
put_thread-requires c =
    let a = c.args in
    let q = c.requires in
    let some = looked (thread_count a.beside.now) a.i a.p c.looked_at-q.result (inside c.before.before.before.before.before) (seen c.before.before.before) in
    omega (arith, some.0, some.1, c.from-to.ensures, q.3.words, q.3.threads)

pub put_thread-requires-2 : goal.put_thread-requires-2
put_thread-requires-2 c =
    let a = c.args in
    let q = c.requires in
    let some = in_count_lem (thread_count a.beside.now) a.i (inside c.before.before.before.before.before.before.before.before.before) in
    omega (arith, some.0, some.1, c.from-at.ensures, q.3.words, q.3.threads, laid_long a.words.now _ _ a.other c.put_thread.ensures)

pub go_through-went-requires : goal.go_through-went-requires
go_through-went-requires c =
    let a = c.args in
    let q = c.requires in
    let C = clinic_of (contents_at a.file.now a.head) in
    let at = c.from-at in
    let look = c.looked_at-q in
    let to = c.from-to in
    (q.0, q.1, q.2, omega arith, laid_sized C a.words.now _ _ a.beside.now q.3 a.i a.p look.result at.result to.result a.own a.other (inside c.before.before.before.before.before.before.before.before.before.before.before.before.before.before.before) (seen c.before.before.before.before.before.before.before.before.before.before.before.before.before) at.ensures to.ensures q.4 c.put_thread.ensures c.put_thread-2.ensures)

pub read_back-requires : goal.read_back-requires
read_back-requires c =
    let a = c.args in
    let q = c.requires in
    let C = clinic_of (contents_at a.file.now a.head) in
    let at = c.from-at in
    let look = c.looked_at-q in
    let to = c.from-to in
    let did = c.go_through-went in
    let some = in_count_lem (thread_count a.beside.now) a.i (inside c.before.before.before.before.before.before.before.before.before.before.before.before.before.before.before.before.before.before.before.before.before) in (
      did.ensures.3.words,
      omega (arith, some.0, some.1, at.ensures, q.3.threads),
      step_second C a.words.now _ _ a.beside.now q.3 a.i a.p look.result at.result to.result a.own a.other (inside c.before.before.before.before.before.before.before.before.before.before.before.before.before.before.before.before.before.before.before.before.before) (seen c.before.before.before.before.before.before.before.before.before.before.before.before.before.before.before.before.before.before.before) at.ensures to.ensures q.4 c.put_thread.ensures c.put_thread-2.ensures (awaited_by a.table.now) did.result.last _ _ (one_chose (awaited_by a.table.now) C _ a.beside.now _ _ a.i a.p did.result did.ensures) c.from.result (c.from.ensures ∙ c.thread_count-count.ensures),
    )

pub shape_of-words : goal.shape_of-words
shape_of-words c = c.go_through-went.ensures.3.words ∙ sym c.requires.3.words

pub returns : goal.returns
returns c =
    let a = c.args in
    let q = c.requires in
    let C = clinic_of (contents_at a.file.now a.head) in
    let at = c.from-at in
    let look = c.looked_at-q in
    let to = c.from-to in
    let did = c.go_through-went in
    step_left C a.words.now _ _ a.beside.now q.3 a.i a.p look.result at.result to.result a.own a.other (inside c.before.before.before.before.before.before.before.before.before.before.before.before.before.before.before.before.before.before.before.before.before.before) (seen c.before.before.before.before.before.before.before.before.before.before.before.before.before.before.before.before.before.before.before.before) at.ensures to.ensures q.4 c.put_thread.ensures c.put_thread-2.ensures (awaited_by a.table.now) did.result.last _ _ (one_chose (awaited_by a.table.now) C _ a.beside.now _ _ a.i a.p did.result did.ensures) c.from.result (c.from.ensures ∙ c.thread_count-count.ensures) c.read_back.result c.read_back.ensures
