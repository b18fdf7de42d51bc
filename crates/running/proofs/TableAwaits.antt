-- The kind that a thread at a node waits for, by the table that the way in leaves.
use Prim.Native.Nat.{ℕ, zero, suc, ◌+◌, ◌≤◌, ◌<◌}
use mathlib.Core.Path.{◌≡◌, refl, sym, ap, ◌∙◌, fun_ext}
use mathlib.Core.Bool.{Bool, true, false, cond}
use mathlib.Core.List.{List, [], ◌∷◌}
use native.Mathlib.Omega.{arith}
use lib.Dec.{eqb, ltb}
use lib.ListN.{length, get_or, replicate, length-map, get_or-eq_default}
use lib.Seq.{sets}
use borrow.Author.Tests.{eq-eqb, ltb-true, ltb-false}
use Rattle.format.specs.Contents.{Contents, contents_of}
use Rattle.format.specs.declared.Head.{Head}
use Rattle.format.specs.declared.Node.{Node}
use Rattle.format.specs.declared.Verdict.{Verdict}
use Rattle.format.specs.Header.{Laid, head_at}
use Rattle.format.proofs.ContentsLaws.{nodes_held}
use Rattle.reading.specs.Reading.{reading}
use Rattle.std.specs.Prelude.{Ok}
use Rattle.rules.specs.Schema.{Schema, schema_of}
use Rattle.rules.specs.Rules.{Context, wrong, waiting_after}
use Rattle.rules.specs.Checking.{reached, reached_in, rightly, openings}
use Rattle.naming.specs.Scopes.{awaited_in, awaited_by, node_scope, scopes_in, awaits}
use Rattle.checking.specs.Check.{entered, scoped}
use Rattle.checking.proofs.CheckLaws.{names_parts, entered_fine}
use Rattle.steps.proofs.TableLaws.{sets_other, sets_in}
use Rattle.steps.proofs.TotalLaws.{length-replicate, all_zero}

-- a file has at most as many of these numbers as nodes
rightly_few : (D : Schema) (rs : List (Context × Node)) → length (rightly D rs) ≤ length rs
unfolding rightly
rightly_few D [] = omega arith
rightly_few D (r ∷ rs) = go (eqb (wrong D r.0 r.1) 0) (rightly_few D rs)
  where
    go : (b : Bool) → length (rightly D rs) ≤ length rs → length (cond b (r ∷ rightly D rs) []) ≤ suc (length rs)
    go true h = omega (arith, h)
    go false h = omega arith

reached_few : (D : Schema) (ns : List Node) (st : List Context) → length (reached D ns st) ≤ length ns
unfolding reached
reached_few D [] st = omega arith
reached_few D (n ∷ ns) [] = omega arith
reached_few D (n ∷ ns) (c ∷ st) = let h = reached_few D ns (waiting_after D c n st) in omega (arith, h)

pub scopes_few : (C : Contents) → length (scopes_in C) ≤ length C.nodes
unfolding scopes_in
scopes_few C =
    let same = length-map (rightly (schema_of C) (reached_in C)) (λ (r : Context × Node). node_scope (schema_of C) r.0 r.1) in
    omega (arith, same, rightly_few (schema_of C) (reached_in C), reached_few (schema_of C) C.nodes (openings C))

-- numbers stored from index 1 on in a table of zeros
stored_from_one : (l : List ℕ) (n : ℕ) → length l < n → (j : ℕ) → get_or (sets (replicate n 0) 1 l) j 0 ≡ get_or (0 ∷ l) j 0
stored_from_one l n lt zero = sets_other l (replicate n 0) 1 0 0 (λ k small e. omega (arith, e)) ∙ all_zero n 0
stored_from_one l n lt (suc i) = go (ltb i (length l)) refl
  where
    go : (b : Bool) → ltb i (length l) ≡ b → get_or (sets (replicate n 0) 1 l) (suc i) 0 ≡ get_or l i 0
    go true e =
        let z : suc i ≡ 1 + i = omega arith in
        ap (λ (k : ℕ). get_or (sets (replicate n 0) 1 l) k 0) z ∙ sets_in l (replicate n 0) 1 i 0 (ltb-true i (length l) e) (omega (arith, lt, length-replicate n))
    go false e =
        let past = ltb-false i (length l) e in
        sets_other l (replicate n 0) 1 (suc i) 0 (λ k small q. omega (arith, past, small, q)) ∙ all_zero n (suc i) ∙ sym (get_or-eq_default l 0 {n = i} past)

pub table_awaits : (f : List ℕ) (h : Head) (old table : List ℕ) → entered f ≡ Ok h → length old ≡ 1025 → old ≡ replicate (length old) 0 → table ≡ scoped f old
    → awaited_by table ≡ awaits (contents_of f)
unfolding scoped
table_awaits f h old table e long zeros its =
    let (laid, same, clean) = entered_fine f h e in
    let quiet = names_parts f (ap (λ (v : Verdict). v.number) clean) in
    let C : Contents = contents_of f in
    let nodes : length C.nodes ≤ 1024 = few f h laid same in
    let there : scoped f old ≡ sets old 1 (scopes_in C) = rw (eq-eqb (reading f).number 0 quiet.0) in
    let so : table ≡ sets (replicate 1025 0) 1 (scopes_in C) = its ∙ there ∙ ap (λ (t : List ℕ). sets t 1 (scopes_in C)) (zeros ∙ ap (λ (n : ℕ). replicate n 0) long) in
    fun_ext (λ j. ap (λ (t : List ℕ). awaited_by t j) so ∙ ap awaited_in (stored_from_one (scopes_in C) 1025 (omega (arith, scopes_few C, nodes)) j))
  where
    few : (f : List ℕ) (h : Head) → Laid f h → h ≡ head_at f → length (contents_of f).nodes ≤ 1024
    few f h laid same = let n : h.count.nodes ≡ (head_at f).count.nodes = ap (λ (x : Head). x.count.nodes) same in omega (arith, laid.nodes, nodes_held f (head_at f), n)
