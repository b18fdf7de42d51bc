-- What is decided, from the answers for its parts.
use Prim.Native.Nat.{ℕ, zero, suc, ◌+◌, ◌≤◌, ◌<◌}
use mathlib.Core.Path.{◌≡◌, refl, sym, ap, ◌∙◌}
use mathlib.Core.List.{List, [], ◌∷◌, ◌++◌, map}
use mathlib.Core.Bool.{Bool, true, false, cond, ◌&&◌}
use native.Mathlib.Omega.{arith}
use lib.Dec.{eqb, leb, ltb}
use lib.ListN.{length, take, drop, replicate, length-map, length-drop}
use lib.Seq.{sets, sets-eq, take-append_seam}
use borrow.Author.Tests.{eq-eqb, ne_eqb, eqb-true, eqb-false, le-leb, lt-leb, leb-true}
use Rattle.format.specs.Contents.{Contents, item, no_session, no_node}
use Rattle.format.specs.Answers.{fine, refused, or_else, first_of}
use Rattle.format.specs.declared.Verdict.{Verdict}
use Rattle.format.specs.declared.Node.{Node}
use Rattle.format.proofs.AnswerLaws.{NoRefusal, quiet_first, loud_first, both_quiet}
use Rattle.trees.specs.Shape.{shape_answer}
use Rattle.rules.specs.Checking.{names_answer}
use Rattle.rules.specs.Candidates.{candidates_in}
use Rattle.states.specs.States.{Label, needs, labelled, turns_of, packed, unpacked}
use Rattle.states.specs.declared.Turn.{Turn}
use Rattle.groups.specs.Groups.{sizes_of, starts_from, starts_of, placed_contents, turns_in}
use Rattle.groups.specs.declared.Sums.{Sums}
use Rattle.std.specs.Prelude.{Result, Ok, Err}
use Rattle.states.proofs.TurnLaws.{turns_length, turns_unpacked}
use Rattle.groups.proofs.GroupLaws.{placed_same, starts_table}
use Rattle.placing.specs.Placing.{Labelled, masks_answer, switches_answer, unserved_from, size_answer, unsettled, Settled, settling, placeable_by, decided, summed}
use Rattle.placing.proofs.CandidateLaws.{candidates_length, labelled_more}

pub decided_loud : (v : Verdict) (ts : List Turn) → (NoRefusal v → ⊥) → decided v ts ≡ Err v
decided_loud v ts l = rw (ne_eqb v.number 0 l)

pub decided_quiet : (v : Verdict) (ts : List Turn) → NoRefusal v → decided v ts ≡ Ok (summed ts)
decided_quiet v ts q = rw (eq-eqb v.number 0 q)

-- and what an outcome says of it
pub sums_given : (v : Verdict) (ts : List Turn) (s : Sums) → decided v ts ≡ Ok s → NoRefusal v × (s ≡ summed ts)
sums_given v ts s e = go (eqb v.number 0) refl e
  where
    go : (b : Bool) → eqb v.number 0 ≡ b → cond b (Ok (summed ts)) (Err v) ≡ Ok s → NoRefusal v × (s ≡ summed ts)
    go true q e = (eqb-true v.number 0 q, cc)
    go false q e = let no : ◌≡◌ {A = ℕ} 0 1 = cc in absurd (omega arith)

pub refusal_decided : (v : Verdict) (ts : List Turn) (w : Verdict) → decided v ts ≡ Err w → (NoRefusal v → ⊥) × (w ≡ v)
refusal_decided v ts w e = go (eqb v.number 0) refl e
  where
    go : (b : Bool) → eqb v.number 0 ≡ b → cond b (Ok (summed ts)) (Err v) ≡ Err w → (NoRefusal v → ⊥) × (w ≡ v)
    go true q e = let no : ◌≡◌ {A = ℕ} 0 1 = cc in absurd (omega arith)
    go false q e = (eqb-false v.number 0 q, cc)

-- the tables as they were, or filled
module _ (d : Result Sums Verdict) (ts : List Turn) where
  pub settled_before : (turns starts : List ℕ) → unsettled d ≡ true → Settled d ts turns turns starts starts
  settled_before turns starts e =
      (ap (λ b. cond b turns (sets turns 1 (map packed ts))) (sym e), ap (λ b. cond b starts (sets starts 1 (starts_from 1 ts))) (sym e))

pub unserved_number : (i : ℕ) (ls : List Label) → (NoRefusal (unserved_from i ls) → ⊥) → (unserved_from i ls).number ≡ 15
unfolding unserved_from
unserved_number i [] loud = absurd (loud refl)
unserved_number i (l ∷ ls) loud = go (needs l.tag && eqb l.roles 0) loud (unserved_number (suc i) ls)
  where
    go : (b : Bool) → (NoRefusal (cond b (refused 15 i) (unserved_from (suc i) ls)) → ⊥) → ((NoRefusal (unserved_from (suc i) ls) → ⊥) → (unserved_from (suc i) ls).number ≡ 15)
        → (cond b (refused 15 i) (unserved_from (suc i) ls)).number ≡ 15
    go true loud later = refl
    go false loud later = later loud

first_number : (fits : ℕ → Bool) (refusal : ℕ → Verdict) (n : ℕ) → ((i : ℕ) → (refusal i).number ≡ n) → (i k : ℕ) → (NoRefusal (first_of fits refusal i k) → ⊥)
    → (first_of fits refusal i k).number ≡ n
unfolding first_of
first_number fits refusal n all i zero loud = absurd (loud refl)
first_number fits refusal n all i (suc k) loud = go (fits i) loud (first_number fits refusal n all (suc i) k)
  where
    go : (b : Bool) → (NoRefusal (cond b (first_of fits refusal (suc i) k) (refusal i)) → ⊥)
        → ((NoRefusal (first_of fits refusal (suc i) k) → ⊥) → (first_of fits refusal (suc i) k).number ≡ n)
        → (cond b (first_of fits refusal (suc i) k) (refusal i)).number ≡ n
    go true loud later = later loud
    go false loud later = all i

-- 15 and 16
module _ (ls : List Label) where
  pub unserved_loud : (NoRefusal (unserved_from 1 ls) → ⊥) → settling ls ≡ unserved_from 1 ls
  unserved_loud l = loud_first (unserved_from 1 ls) (size_answer (sizes_of (turns_of ls))) l

  pub too_large : NoRefusal (unserved_from 1 ls) → 1024 < sizes_of (turns_of ls) → settling ls ≡ refused 16 0
  too_large q h = quiet_first (unserved_from 1 ls) (size_answer (sizes_of (turns_of ls))) q ∙ rw (lt-leb (sizes_of (turns_of ls)) 1024 h)

  pub not_too_large : NoRefusal (unserved_from 1 ls) → sizes_of (turns_of ls) ≤ 1024 → settling ls ≡ fine
  not_too_large q h = quiet_first (unserved_from 1 ls) (size_answer (sizes_of (turns_of ls))) q ∙ rw (le-leb (sizes_of (turns_of ls)) 1024 h)

-- a table that was written from 1 on
from_one : (t vs : List ℕ) → length vs < length t → drop 1 (sets t 1 vs) ≡ vs ++ drop (suc (length vs)) t
from_one [] vs h = let no_way : ⊥ = omega (arith, h) in absurd no_way
from_one (x ∷ t) vs h = ap (drop 1) (sets-eq vs (x ∷ t) 1 (omega (arith, h))) ∙ ap (λ j. vs ++ drop j (x ∷ t)) one
  where
    one : 1 + length vs ≡ suc (length vs)
    one = omega arith

pub turns_read : (ls : List Label) (t : List ℕ) → length ls < length t → turns_in (sets t 1 (map packed (turns_of ls))) (length ls) ≡ turns_of ls
unfolding turns_in
turns_read ls t h =
    let vs : List ℕ = map packed (turns_of ls) in
    let n : length vs ≡ length ls = length-map (turns_of ls) packed ∙ turns_length ls in
    ap (λ l. map unpacked (take (length ls) l)) (from_one t vs (omega (arith, n, h)))
    ∙ ap (λ k. map unpacked (take k (vs ++ drop (suc (length vs)) t))) (sym n)
    ∙ ap (map unpacked) (take-append_seam vs (drop (suc (length vs)) t))
    ∙ turns_unpacked ls

pub labelled_length : (ns : List Node) (rs : List ℕ) → length ns ≤ length rs → length (labelled ns rs) ≡ length ns
unfolding labelled
labelled_length [] rs h = refl
labelled_length (n ∷ ns) [] h = let no_way : ⊥ = omega (arith, h) in absurd no_way
labelled_length (n ∷ ns) (r ∷ rs) h = ap suc (labelled_length ns rs (omega (arith, h)))

-- the turns that a pass wrote
pub turns_written : (ns : List Node) (rs t t' : List ℕ) → length ns < length rs → length ns < length t
    → t' ≡ sets t 1 (map packed (turns_of (labelled ns (drop 1 rs)))) → turns_in t' (length ns) ≡ turns_of (labelled ns (drop 1 rs))
turns_written ns rs t t' fits room e =
    let ls : List Label = labelled ns (drop 1 rs) in
    let l : length ls ≡ length ns = labelled_length ns (drop 1 rs) (omega (arith, length-drop 1 rs, fits)) in
    ap (λ r. turns_in r (length ns)) e ∙ ap (turns_in (sets t 1 (map packed (turns_of ls)))) (sym l) ∙ turns_read ls t (omega (arith, l, room))

module _ (C : Contents) where
  -- the candidates that a pass kept in a table
  pub labels_kept : (t : List ℕ) → NoRefusal (shape_answer C) → NoRefusal (names_answer C) → length C.nodes < length t → Labelled C (sets t 1 (candidates_in C))
  labels_kept t s n room =
      let e : length (candidates_in C) ≡ length C.nodes = candidates_length C s n in
      ap (labelled C.nodes) (from_one t (candidates_in C) (omega (arith, e, room)))
      ∙ labelled_more C.nodes (candidates_in C) (drop (suc (length (candidates_in C))) t) e

  -- 14 to 16
  abbrev pub bare : Verdict
  bare = or_else (masks_answer C) (switches_answer C)

  pub bare_number : (NoRefusal bare → ⊥) → bare.number ≡ 14
  unfolding masks_answer switches_answer
  bare_number loud = go (eqb (masks_answer C).number 0) refl loud
    where
      go : (b : Bool) → eqb (masks_answer C).number 0 ≡ b → (NoRefusal (cond b (switches_answer C) (masks_answer C)) → ⊥) → (cond b (switches_answer C) (masks_answer C)).number ≡ 14
      go true e loud = first_number (λ n. ltb (item no_node C.nodes n).tag 7) (λ n. refused 14 n) 14 (λ n. refl) 1 (length C.nodes) loud
      go false e loud = first_number (λ n. eqb (item no_session C.sessions n).mask 0) (λ n. refused 14 0) 14 (λ n. refl) 1 (length C.sessions) loud

  -- where the nodes are seen so
  module _ (ls : List Label) where
    pub bare_loud : (NoRefusal bare → ⊥) → placeable_by C ls ≡ bare
    bare_loud l = loud_first bare (settling ls) l

    pub bare_quiet : NoRefusal bare → placeable_by C ls ≡ settling ls
    bare_quiet b = quiet_first bare (settling ls) b

    pub few_nodes : NoRefusal (placeable_by C ls) → sizes_of (turns_of ls) ≤ 1024
    few_nodes q = go (leb (sizes_of (turns_of ls)) 1024) refl
      where
        size : NoRefusal (size_answer (sizes_of (turns_of ls)))
        size =
            let settled = ((both_quiet NoRefusal bare (settling ls) (λ z. z)).0 q).1 in
            ((both_quiet NoRefusal (unserved_from 1 ls) (size_answer (sizes_of (turns_of ls))) (λ z. z)).0 settled).1

        go : (b : Bool) → leb (sizes_of (turns_of ls)) 1024 ≡ b → sizes_of (turns_of ls) ≤ 1024
        go true e = leb-true (sizes_of (turns_of ls)) 1024 e
        go false e =
            let bad : ◌≡◌ {A = ℕ} 16 0 = rw e at size in
            let no_way : ⊥ = omega (arith, bad) in
            absurd no_way

    -- each node has a turn
    pub starts_kept : length ls ≤ 1024 → (s : List ℕ) → s ≡ sets (replicate 1025 0) 1 (starts_from 1 (turns_of ls))
        → placed_contents C (turns_of ls) s ≡ placed_contents C (turns_of ls) (starts_of (turns_of ls))
    starts_kept few s e =
        ap (placed_contents C (turns_of ls)) e
        ∙ placed_same C (turns_of ls) (sets (replicate 1025 0) 1 (starts_from 1 (turns_of ls))) (starts_of (turns_of ls)) (starts_table (turns_of ls) (omega (arith, turns_length ls, few)))
