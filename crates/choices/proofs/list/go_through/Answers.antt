use Prim.Native.Nat.{ℕ}
use mathlib.Core.Path.{refl, sym, ap₂, subst, ◌∙◌}
use mathlib.Core.List.{List, [], ◌∷◌}
use types.Run.{OneOf, miss}
use borrow.Enum.Refused.{opened}
use denote.Enum.Declared.{tag_of}
use Rattle.steps.specs.declared.Answer.{Answer}
use Rattle.steps.specs.declared.Answer.TheVariants as answers
use Rattle.steps.specs.contracts.Answer.{the_type}
use native.Mathlib.Omega.{arith}
use Rattle.format.specs.Contents.{contents_at}
use Rattle.naming.specs.Scopes.{awaited_by}
use Rattle.steps.specs.Choice.{clinic_of}
use Rattle.choices.specs.Choices.{run}
use Rattle.choices.specs.Stored.{untried, tried}
use Rattle.steps.specs.Kept.{state_in}
use Rattle.choices.proofs.RunLaws.{Refuses, left_halts, left_goes, left_ends}
use Rattle.choices.proofs.TriedLaws.{tried_halts, tried_goes, tried_ends, through}
use Rattle.choices.proofs.list.go_through.Goals as goal

-- the other arm of the match has no refusal
going : (x : Answer) → OneOf (1 ∷ 2 ∷ 3 ∷ 4 ∷ 5 ∷ []) (tag_of the_type x) → Refuses x → ⊥
going (answers.Refused n) h r = miss (1 ∷ 2 ∷ 3 ∷ 4 ∷ 5 ∷ []) 0 tt h
going answers.Moves h r = r
going answers.Adds h r = r
going (answers.Makes m) h r = r
going answers.Ends h r = r
going answers.Meets h r = r

pub returns-in-Refused : goal.returns-in-Refused
returns-in-Refused c =
    let a = c.args in
    let l = c.loop-k in
    let chosen = c.choose-answer in
    let C = clinic_of (contents_at a.file.now a.head) in
    let s = state_in a.threads.now a.beside.now in
    let left = state_in l.threads l.beside in
    let refused = sym c.in-Refused.is ∙ chosen.ensures.0 in
    let all = left_halts C s a.choices.now l.k left (state_in chosen.new.threads chosen.new.beside) (omega arith) l.invariant.1 _ refl chosen.ensures.1 c.in-Refused.refusal refused in
    let also = tried_halts (awaited_by a.table.now) C s (untried a.beside.now) a.choices.now l.k left (state_in chosen.new.threads chosen.new.beside) (record { beside = l.beside; last = l.last }) (record { beside = chosen.new.beside; last = answers.Refused c.in-Refused.refusal })
    (omega arith) l.invariant.2 _ refl chosen.ensures.1 (ap₂ (λ (b : List ℕ) (x : Answer). record { beside = b; last = x }) chosen.ensures.2 refused) c.in-Refused.refusal refused in
    through (run C s a.choices.now) (tried (awaited_by a.table.now) C s (untried a.beside.now) a.choices.now) l.k _ _ c.narrow.result c.in-Refused.refusal (answers.Refused c.in-Refused.refusal) all also c.narrow.ensures chosen.ensures.3

pub loop-k-preserved : goal.loop-k-preserved
loop-k-preserved c =
    let a = c.args in
    let l = c.loop-k in
    let chosen = c.choose-answer in
    let C = clinic_of (contents_at a.file.now a.head) in
    let s = state_in a.threads.now a.beside.now in
    let left = left_goes C s a.choices.now l.k (state_in l.threads l.beside) (state_in chosen.new.threads chosen.new.beside) (omega arith) l.invariant.1 _ refl chosen.ensures.1
    (λ r. going chosen.result (opened c.in_default.in_default-own.keys2) (subst Refuses (sym chosen.ensures.0) r)) in
    let also = tried_goes (awaited_by a.table.now) C s (untried a.beside.now) a.choices.now l.k (state_in l.threads l.beside) (state_in chosen.new.threads chosen.new.beside) (record { beside = l.beside; last = l.last }) (record { beside = chosen.new.beside; last = chosen.result })
    (omega arith) l.invariant.2 _ refl chosen.ensures.1 (ap₂ (λ (b : List ℕ) (x : Answer). record { beside = b; last = x }) chosen.ensures.2 chosen.ensures.0)
    (λ r. going chosen.result (opened c.in_default.in_default-own.keys2) (subst Refuses (sym chosen.ensures.0) r)) in
    (chosen.ensures.3, left, also)

pub returns : goal.returns
returns c =
    let a = c.args in
    let l = c.loop-k in
    let C = clinic_of (contents_at a.file.now a.head) in
    let s = state_in a.threads.now a.beside.now in
    let all = left_ends C s a.choices.now l.k (state_in l.threads l.beside) (omega arith) l.invariant.1 in
    let also = tried_ends (awaited_by a.table.now) C s (untried a.beside.now) a.choices.now l.k (state_in l.threads l.beside) (record { beside = l.beside; last = l.last }) (omega arith) l.invariant.2 in
    through (run C s a.choices.now) (tried (awaited_by a.table.now) C s (untried a.beside.now) a.choices.now) l.k _ _ c.narrow-2.result 0 l.last all also (omega (arith, c.narrow-2.ensures)) l.invariant.0
