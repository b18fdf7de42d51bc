-- The threads' sessions after an answer, and what tag a thread's node has at each answer.
use Prim.Native.Nat.{ℕ, zero, suc, ◌+◌, ◌-◌, ◌≤◌, ◌<◌}
use mathlib.Core.Path.{◌≡◌, refl, sym, ap, ap₂, ◌∙◌}
use mathlib.Core.Logic.{◌⊎◌, inl, inr}
use mathlib.Core.Bool.{Bool, true, false, cond, ◌&&◌}
use mathlib.Core.List.{List, [], ◌∷◌, ◌++◌}
use native.Mathlib.Omega.{arith}
use lib.Dec.{eqb, ltb}
use lib.ListN.{length, get_or, set, take, drop, length-drop}
use lib.Seq.{paste, get_or-take, take-suc-set, take-take, take-paste}
use borrow.Author.Tests.{eqb-true, ltb-true}
use Rattle.masks.specs.Mask.{has}
use Rattle.format.specs.Contents.{in_count}
use Rattle.format.proofs.ContentsLaws.{in_count_lem}
use Rattle.format.specs.declared.Node.{Node}
use Rattle.rules.specs.declared.Way.TheVariants.{Sends, Receives}
use Rattle.steps.specs.declared.Thread.{Thread}
use Rattle.steps.specs.declared.Made.{Made}
use Rattle.steps.specs.declared.Partner.{Partner}
use Rattle.steps.specs.declared.Partner.TheVariants.{Alone, With, Missing}
use Rattle.steps.specs.declared.Outcome.{Outcome}
use Rattle.steps.specs.declared.Outcome.TheVariants.{Refused, Ends}
use Rattle.steps.specs.declared.Answer.{Answer}
use Rattle.steps.specs.declared.Answer.TheVariants as answers
use Rattle.steps.specs.Acted.{acted_of}
use Rattle.steps.specs.Threads.{value}
use Rattle.steps.specs.Choice.{Clinic, State, is_allowed, meeting, sending, lone, alone_only, acting, thread_at, partner_at, outcome}
use Rattle.seats.specs.Seats.{owners_by}
use Rattle.seats.proofs.StepOwners.{owners_gone, owners_more, owners_same}
use Rattle.seated.specs.SeatedTables.{PassRoom}

-- what an answer says of the tag of the thread's node, of the thread's number, and of the room
abbrev pub Fits : ℕ → ℕ → ℕ → Answer → Type 0
Fits count i tag (answers.Refused n) = Unit {0}
Fits count i tag answers.Moves = 3 ≤ tag
Fits count i tag answers.Adds = ((tag ≡ 1) ⊎ (tag ≡ 2)) × (0 < i) × (i ≤ count) × (count < 64)
Fits count i tag (answers.Makes m) = 3 ≤ tag
Fits count i tag answers.Ends = (tag ≡ 0) × (0 < i) × (i ≤ count)
Fits count i tag answers.Meets = 3 ≤ tag

by_test : {A : Type 0} (P : A → Type 0) (b : Bool) (x y : A) → (b ≡ true → P x) → (b ≡ false → P y) → P (cond b x y)
by_test P true x y f g = f refl
by_test P false x y f g = g refl

module _ (C : Clinic) (count : ℕ) (made : List Made) (i : ℕ) (pos : 0 < i) (le : i ≤ count) (t : Thread) where
  abbrev n : Node
  n = C.node t.node

  abbrev Good : Outcome → Type 0
  Good o = Fits count i n.tag (acted_of o).answer

  meeting_fits : n.tag ≡ 6 → (r : Thread) (m : Node) → Good (meeting C made t n r m)
  unfolding meeting
  meeting_fits e r m =
      by_test Good (is_allowed C made t Sends n.f1 && is_allowed C made r Receives m.f1) _ (Refused 13)
      (λ _. by_test Good (eqb (value t n.f1) (value r m.f1)) _ (Refused 19) (λ _. omega (arith, e)) (λ _. tt)) (λ _. tt)

  sending_fits : n.tag ≡ 6 → (p : Partner) → Good (sending C made t n p)
  unfolding sending
  sending_fits e Alone = tt
  sending_fits e Missing = tt
  sending_fits e (With r) =
      by_test Good (in_count C.nodes r.node && eqb (C.node r.node).tag 5) (meeting C made t n r (C.node r.node)) (Refused 18)
      (λ _. meeting_fits e r (C.node r.node)) (λ _. tt)

  lone_fits : Good (lone C count (length made) t n)
  unfolding lone
  lone_fits =
      by_test Good (eqb n.tag 0) Ends _ (λ e. (eqb-true n.tag 0 e, pos, le)) (λ _.
      by_test Good (eqb n.tag 1) _ _ (λ e. by_test Good (ltb count 64) _ (Refused 20) (λ l. (inl (eqb-true n.tag 1 e), pos, le, ltb-true count 64 l)) (λ _. tt)) (λ _.
      by_test Good (eqb n.tag 2) _ _ (λ e. by_test Good (ltb count 64) _ (Refused 20) (λ l. (inr (eqb-true n.tag 2 e), pos, le, ltb-true count 64 l)) (λ _. tt)) (λ _.
      by_test Good (eqb n.tag 3) _ _ (λ e. by_test Good (ltb (length made) 64) _ (Refused 20) (λ _. omega (arith, eqb-true n.tag 3 e)) (λ _. tt)) (λ _.
      by_test Good (eqb n.tag 4) _ _ (λ e. by_test Good (eqb (value t n.f1) (value t n.f2)) _ (Refused 19) (λ _. omega (arith, eqb-true n.tag 4 e)) (λ _. tt)) (λ _.
      by_test Good (eqb n.tag 7) _ _ (λ e. by_test Good (has (C.schema.assigned t.user) n.f1) _ (Refused 11) (λ _. omega (arith, eqb-true n.tag 7 e)) (λ _. tt)) (λ _.
      by_test Good (eqb n.tag 8) _ (Refused 18) (λ e. by_test Good (has t.mask n.f1) _ (Refused 12) (λ _. omega (arith, eqb-true n.tag 8 e)) (λ _. tt)) (λ _. tt)))))))

  alone_fits : (p : Partner) → Good (alone_only p (lone C count (length made) t n))
  unfolding alone_only
  alone_fits Alone = lone_fits
  alone_fits Missing = tt
  alone_fits (With r) = tt

  acting_fits : (p : Partner) → Good (acting C count made t p)
  unfolding acting
  acting_fits p =
      by_test Good (in_count C.nodes t.node) _ (Refused 18) (λ _.
      by_test Good (eqb n.tag 6) (sending C made t n p) _ (λ e. sending_fits (eqb-true n.tag 6 e) p) (λ _.
      by_test Good (eqb n.tag 5) (Refused 18) _ (λ _. tt) (λ _. alone_fits p))) (λ _. tt)

pub outcome_fits : (C : Clinic) (s : State) (i p : ℕ) → Fits (length s.threads) i (C.node (thread_at s i).node).tag (acted_of (outcome C s i p)).answer
unfolding outcome
outcome_fits C s i p =
    by_test (λ o. Fits (length s.threads) i (C.node (thread_at s i).node).tag (acted_of o).answer) (in_count (length s.threads) i) _ (Refused 18) (λ e.
    let (one, most) = in_count_lem (length s.threads) i e in
    acting_fits C (length s.threads) s.made i one most (thread_at s i) (partner_at s p)) (λ _. tt)

-- there is room for what is passed on
pub fits_room : (count i tag : ℕ) (a : Answer) → count ≤ 64 → Fits count i tag a → PassRoom count i a
fits_room count i tag (answers.Refused n) l f = tt
fits_room count i tag answers.Moves l f = tt
fits_room count i tag answers.Adds l f = (f.1, f.2, f.3)
fits_room count i tag (answers.Makes m) l f = tt
fits_room count i tag answers.Ends l f = (f.1, f.2, l)
fits_room count i tag answers.Meets l f = tt

-- the sessions of the threads, as many as there are after each answer
pub passed_more : (os : List ℕ) (n i tag : ℕ) → length os ≡ 64 → n < 64 → 0 < i → i ≤ n → (tag ≡ 1) ⊎ (tag ≡ 2) → take (n + 1) (set os n (get_or os (i - 1) 0)) ≡ owners_by (take n os) i tag
passed_more os n i tag long room pos le t =
    let one : n + 1 ≡ suc n = omega arith in
    ap (λ (x : ℕ). take x (set os n (get_or os (i - 1) 0))) one ∙ take-suc-set os n (get_or os (i - 1) 0) (omega (arith, long, room))
    ∙ ap (λ (x : ℕ). take n os ++ (x ∷ [])) (sym (get_or-take n os (i - 1) 0 (omega (arith, pos, le)))) ∙ sym (owners_more (take n os) i tag t)

drop-take : (m n : ℕ) (l : List ℕ) → drop m (take n l) ≡ take (n - m) (drop m l)
drop-take zero n l = let e : n ≡ n - 0 = omega arith in ap (λ (x : ℕ). take x l) e
drop-take (suc m) n [] = nothing (suc m) n
  where
    none : (j : ℕ) → ◌≡◌ {A = List ℕ} (take j []) []
    none zero = refl
    none (suc j) = refl

    gone : (j : ℕ) → ◌≡◌ {A = List ℕ} (drop j []) []
    gone zero = refl
    gone (suc j) = refl

    nothing : (m n : ℕ) → ◌≡◌ {A = List ℕ} (drop m (take n [])) (take (n - m) (drop m []))
    nothing m n = ap (drop m) (none n) ∙ gone m ∙ sym (ap (take (n - m)) (gone m) ∙ none (n - m))
drop-take (suc m) zero (x ∷ l) = let e : 0 ≡ 0 - suc m = omega arith in ap (λ (y : ℕ). take y (drop m l)) e
drop-take (suc m) (suc n) (x ∷ l) = let e : n - m ≡ suc n - suc m = omega arith in drop-take m n l ∙ ap (λ (y : ℕ). take y (drop m l)) e

pub passed_gone : (os : List ℕ) (n i tag : ℕ) → length os ≡ 64 → n ≤ 64 → 0 < i → i ≤ n → tag ≡ 0
    → take (n - 1) (paste os (i - 1) (drop (i - 1 + 1) os) (n - 1 - (i - 1))) ≡ owners_by (take n os) i tag
passed_gone os n i tag long room pos le t =
    let all : n - 1 ≡ i - 1 + (n - 1 - (i - 1)) = omega (arith, pos, le) in
    let next : i - 1 + 1 ≡ i = omega (arith, pos) in
    let rest : n - 1 - (i - 1) ≡ n - i = omega (arith, pos, le) in
    ap (λ (x : ℕ). take x (paste os (i - 1) (drop (i - 1 + 1) os) (n - 1 - (i - 1)))) all
    ∙ take-paste os (i - 1) (drop (i - 1 + 1) os) (n - 1 - (i - 1)) (omega (arith, long, le, room)) (omega (arith, length-drop (i - 1 + 1) os, long, le, room, pos))
    ∙ ap₂ (λ (a b : List ℕ). a ++ b) (sym (take-take (i - 1) n os (omega (arith, le)))) (ap₂ (λ (x y : ℕ). take x (drop y os)) rest next ∙ sym (drop-take i n os))
    ∙ sym (owners_gone (take n os) i tag t)

pub passed_same : (os : List ℕ) (n i tag : ℕ) → 3 ≤ tag → take n os ≡ owners_by (take n os) i tag
passed_same os n i tag l = sym (owners_same (take n os) i tag l)
