-- The table that the way in leaves has for each node what its context is as one number.
use Prim.Native.Nat.{ℕ, ◌+◌, ◌*◌, ◌-◌, ◌%◌, ◌^◌, ◌<◌}
use mathlib.Core.Path.{◌≡◌, sym, ap, ◌∙◌, subst}
use mathlib.Core.Bool.{true}
use mathlib.Core.List.{List}
use native.Mathlib.Omega.{arith}
use lib.ListN.{length, get_or, replicate, length-map}
use lib.Seq.{sets, length-sets}
use borrow.Author.Tests.{eq-eqb}
use Rattle.format.specs.Contents.{Contents, no_node, in_count, contents_at, contents_of}
use Rattle.format.specs.Answers.{fine}
use Rattle.format.specs.Header.{head_at}
use Rattle.format.specs.declared.Head.{Head}
use Rattle.format.specs.declared.Node.{Node}
use Rattle.format.specs.declared.Verdict.{Verdict}
use Rattle.format.proofs.AnswerLaws.{NoRefusal}
use Rattle.format.proofs.ContentsLaws.{in_count_iff, nodes_held}
use Rattle.reading.specs.Reading.{reading}
use Rattle.std.specs.Prelude.{Ok}
use Rattle.rules.specs.Schema.{schema_of}
use Rattle.rules.specs.Rules.{Context}
use Rattle.rules.specs.Checking.{reached_in, rightly, names_answer}
use Rattle.naming.specs.Scopes.{scope_of, marked, awaited, node_scope, scopes_in}
use Rattle.rules.proofs.PassLaws.{all_right}
use Rattle.checking.specs.Check.{reading_names, entered, scoped}
use Rattle.checking.proofs.CheckLaws.{names_parts, entered_fine}
use Rattle.reading_exact.specs.File.{InCount}
use Rattle.checking_exact.specs.Faults.{nowhere}
use Rattle.steps.proofs.TableLaws.{sets_in}
use Rattle.running_exact.proofs.FileNodes.{laid}
use Rattle.running_exact.proofs.AwaitedNodes.{scope_at}
use Rattle.running.proofs.TableAwaits.{table_awaits}
use Rattle.lending.specs.Lent.{context_at}
use Rattle.lending.specs.Scopes.{Narrow, Scoped}
use Rattle.lending.proofs.ScopeLaws.{scope_low}
use Rattle.lending.proofs.ContextLaws.{reached_length}
use Rattle.lending.proofs.NarrowLaws.{narrow}

abbrev none : Context × Node
none = (nowhere, no_node)

module _ (f : List ℕ) (clean : reading_names f ≡ fine) where
  abbrev C : Contents
  C = contents_of f

  quiet : NoRefusal (reading f) × NoRefusal (names_answer C)
  quiet = names_parts f (ap (λ (v : Verdict). v.number) clean)

  -- names and kinds are right at every node
  all_of : rightly (schema_of C) (reached_in C) ≡ reached_in C
  unfolding names_answer
  all_of = all_right (schema_of C) 1 (reached_in C) quiet.1

  long : length (scopes_in C) ≡ length C.nodes
  unfolding scopes_in
  long = length-map (rightly (schema_of C) (reached_in C)) (λ (r : Context × Node). node_scope (schema_of C) r.0 r.1) ∙ ap length all_of ∙ reached_length f clean

  table_scoped : (t : List ℕ) → length t ≡ 1025 → (j : ℕ) → in_count (length C.nodes) j ≡ true
      → (get_or (sets t 1 (scopes_in C)) j 0 % 2 ^ 58 ≡ scope_of (context_at C j)) × Narrow (context_at C j)
  unfolding node_scope marked
  table_scoped t e j h =
      let z : j ≡ 1 + (j - 1) = omega (arith, n.0) in
      let read = sets_in (scopes_in C) t 1 (j - 1) 0 (omega (arith, n, long)) (omega (arith, long, e, (laid f clean).nodes, nodes_held f (head_at f))) in
      let c : Context = context_at C j in
      let word : ℕ = node_scope (schema_of C) c (get_or C.nodes (j - 1) no_node) in
      let is : get_or (sets t 1 (scopes_in C)) j 0 ≡ word = ap (λ (i : ℕ). get_or (sets t 1 (scopes_in C)) i 0) z ∙ read ∙ scope_at C (j - 1) (omega (arith, n, ap length all_of, reached_length f clean)) in
      let low = scope_low c (narrow f clean j n) in
      let digits : word % 2 ^ 58 ≡ scope_of c = cut (scope_of c) (awaited (schema_of C) c (get_or C.nodes (j - 1) no_node)) low in
      (ap (λ (x : ℕ). x % 2 ^ 58) is ∙ digits, narrow f clean j n)
    where
      n : InCount (length C.nodes) j
      n = (in_count_iff (length C.nodes) j).0 h

      cut : (w k : ℕ) → w < 2 ^ 58 → (w % 2 ^ 58 + k % 64 * 2 ^ 58) % 2 ^ 58 ≡ w
      cut w k lt = omega (arith, lt)

  scoped_so : (t : List ℕ) → scoped f t ≡ sets t 1 (scopes_in C)
  unfolding scoped
  scoped_so t = rw (eq-eqb (reading f).number 0 quiet.0)

-- so of a file that the way in lets through
pub entered_scoped : (f : List ℕ) (h : Head) (old table : List ℕ) → entered f ≡ Ok h → length old ≡ 1025 → old ≡ replicate (length old) 0 → table ≡ scoped f old
    → (length table ≡ 1025) × Scoped (contents_at f h) table
entered_scoped f h old table e long zeros its =
    let (laid_out, same, clean) = entered_fine f h e in
    let so : table ≡ sets old 1 (scopes_in (contents_of f)) = its ∙ scoped_so f clean old in
    let kinds = table_awaits f h old table e long zeros its in
    let all : Scoped (contents_of f) table = record { contexts = λ j h. subst (λ (t : List ℕ). (get_or t j 0 % 2 ^ 58 ≡ scope_of (context_at (contents_of f) j)) × Narrow (context_at (contents_of f) j)) (sym so) (table_scoped f clean old long j h); kinds = λ j. ap (λ (g : ℕ → ℕ). g j) kinds } in
    (ap length so ∙ length-sets old 1 (scopes_in (contents_of f)) ∙ long, subst (λ (x : Head). Scoped (contents_at f x) table) (sym same) all)
