-- A thread that fits its node waits for the kind of its receive's channel: by the node, as the run counts, and by the channel's value.
use Prim.Native.Nat.{ℕ, zero, suc, ◌+◌, ◌-◌, ◌%◌, ◌≤◌, ◌<◌}
use mathlib.Core.Path.{◌≡◌, refl, sym, ap, ap₂, ◌∙◌, subst}
use mathlib.Core.Bool.{Bool, true, false, cond, ◌&&◌}
use mathlib.Core.List.{List, [], ◌∷◌}
use native.Mathlib.Omega.{arith}
use lib.Dec.{eqb}
use lib.ListN.{length, get_or, drop, length-drop}
use lib.Seq.{ext_get_or, get_or-take, get_or-drop, length-take-le}
use borrow.Author.Tests.{eqb-true, eqb-false, eq-eqb, ne_eqb}
use Rattle.format.specs.Contents.{Contents, contents_of, in_count, item, no_node}
use Rattle.format.specs.Answers.{fine}
use Rattle.format.specs.Header.{head_at}
use Rattle.format.specs.declared.Node.{Node}
use Rattle.format.specs.declared.Verdict.{Verdict}
use Rattle.format.proofs.ContentsLaws.{in_count_iff, kinds_held}
use Rattle.checking.specs.Check.{reading_names}
use Rattle.checking.proofs.CheckLaws.{names_parts}
use Rattle.rules.specs.Schema.{Schema, schema_of}
use Rattle.rules.specs.Names.{kind_of}
use Rattle.rules.specs.Rules.{Context}
use Rattle.rules.specs.Checking.{reached_in, rightly, names_answer}
use Rattle.rules.proofs.PassLaws.{all_right}
use Rattle.naming.specs.Scopes.{scope_of, awaited_in, awaited, node_scope, awaits}
use Rattle.steps.specs.declared.Thread.{Thread}
use Rattle.steps.specs.declared.Made.{Made}
use Rattle.steps.specs.Threads.{value}
use Rattle.steps.specs.Choice.{clinic_of, State, kind_held}
use Rattle.steps.specs.Beside.{waiting, totals_in, totals_for}
use Rattle.lending.proofs.TotalsLaws.{totals_long, totals_get}
use Rattle.reading_exact.specs.Lists.{All}
use Rattle.reading_exact.specs.File.{InCount}
use Rattle.checking_exact.specs.Faults.{nowhere}
use Rattle.checking_exact.specs.Typing.{HasKind}
use Rattle.checking_exact.proofs.KnownKinds.{kind-known}
use Rattle.running_exact.specs.Keeps.{Fits, Reaches}
use Rattle.running_exact.proofs.AwaitedNodes.{awaited_marked, scope_at, by_receives}
use Rattle.running_exact.proofs.FileNodes.{StandsIn, laid, ranged, names_clear, apart}
use Rattle.running_exact.proofs.HeldValues.{kind_held_lem, operand_value}
use Rattle.running_exact.proofs.NodeSteps.{receive_names}
use Rattle.lending.specs.Lent.{context_at}
use Rattle.lending.proofs.ContextLaws.{reached_length, one_context}
use Rattle.lending.proofs.NarrowLaws.{closed, counted_context}
use Rattle.lending_exact.specs.Waiting.{waits_for, how_many, waiting_in}

module _ (f : List ℕ) (clean : reading_names f ≡ fine) where
  abbrev C : Contents
  C = contents_of f

  abbrev D : Schema
  D = schema_of C

  abbrev Fit : List Made → Thread → Type 0
  Fit made t = (c : Context) × Reaches C t c × Fits D made c t

  -- the kind that is kept by node
  by_number : (j : ℕ) (c : Context) → StandsIn C j c → ((clinic_of C).node j).tag ≡ 5 → kind_of D c.vars ((clinic_of C).node j).f1 ≤ 32 → awaits C j ≡ kind_of D c.vars ((clinic_of C).node j).f1
  unfolding item node_scope names_answer
  by_number zero c at five small = let no : ⊥ = omega (arith, at.0.0) in absurd no
  by_number (suc i) c at five small =
      let quiet = names_parts f (ap (λ (v : Verdict). v.number) clean) in
      let all : rightly D (reached_in C) ≡ reached_in C = all_right D 1 (reached_in C) quiet.1 in
      let inside : i < length (rightly D (reached_in C)) = omega (arith, ap length all, reached_length f clean, at.0.1) in
      let n : Node = get_or C.nodes i no_node in
      let d : Context = (get_or (reached_in C) i (nowhere, no_node)).0 in
      let here : i ≡ suc i - 1 = omega arith in
      let same : d ≡ c = ap (λ (x : ℕ). (get_or (reached_in C) x (nowhere, no_node)).0) here ∙ one_context f clean (suc i) c at.0 at.1 in
      let tag : awaited D c n ≡ kind_of D c.vars n.f1 = rw (eq-eqb n.tag 5 five) in
      let word : kind_of D c.vars n.f1 % 64 ≡ kind_of D c.vars n.f1 = omega (arith, small) in
      ap awaited_in (scope_at C i inside) ∙ awaited_marked (scope_of d) (awaited D d n) ∙ ap (λ (x : Context). awaited D x n % 64) same ∙ ap (λ (x : ℕ). x % 64) tag ∙ word

  -- what a receive names, of rule 1's kind, which is in count
  module _ (j : ℕ) (c : Context) (at : StandsIn C j c) where
    abbrev n : Node
    n = (clinic_of C).node j

    named : n.tag ≡ 5 → HasKind D c.vars n.f1 (kind_of D c.vars n.f1)
    named five = receive_names D c n (ranged f clean) (names_clear f clean j c at) five

    low : n.tag ≡ 5 → kind_of D c.vars n.f1 ≤ 32
    low five =
        let known = kind-known D (closed f clean) c.vars n.f1 (kind_of D c.vars n.f1) (counted_context f clean at.1).2 (named five) in
        omega (arith, known, kinds_held f (head_at f), (laid f clean).kinds)

    -- the kind that is kept by node is rule 1's
    pub rule_one : n.tag ≡ 5 → awaits C j ≡ kind_of D c.vars n.f1
    rule_one five = by_number j c at five (low five)

  -- a thread that fits its node waits for the same, by value and by node
  pub waits_same : (made : List Made) (k : ℕ) → 1 ≤ k → (t : Thread) → Fit made t → waits_for (clinic_of C) made k t ≡ eqb (awaits C t.node) k
  waits_same made k pos t (c, at, F) = go (eqb ((clinic_of C).node t.node).tag 5) refl
    where
      n : Node
      n = (clinic_of C).node t.node

      none : (a b : Bool) → (a && false) && b ≡ false
      none true b = refl
      none false b = refl

      go : (b : Bool) → eqb n.tag 5 ≡ b → (in_count (length C.nodes) t.node && b) && eqb (kind_held D made (value t n.f1)) k ≡ eqb (awaits C t.node) k
      go true e =
          let five : n.tag ≡ 5 = eqb-true n.tag 5 e in
          let has = named t.node c at five in
          let held : kind_held D made (value t n.f1) ≡ kind_of D c.vars n.f1 = kind_held_lem D (apart f clean) made (value t n.f1) _ (operand_value D (apart f clean) made c.vars t n.f1 _ F.vars has) in
          rw ((in_count_iff (length C.nodes) t.node).1 at.0) (ap (λ (x : ℕ). eqb x k) (held ∙ sym (rule_one t.node c at five)))
      go false e =
          let zero-kind : awaits C t.node ≡ 0 = by_receives C t.node at.0 (eqb-false n.tag 5 e) in
          let apart-k : eqb (awaits C t.node) k ≡ false = ne_eqb (awaits C t.node) k (λ q. omega (arith, q, zero-kind, pos)) in
          none (in_count (length C.nodes) t.node) (eqb (kind_held D made (value t n.f1)) k) ∙ sym apart-k

  -- so of all threads of a list
  pub counts_same : (made : List Made) (k : ℕ) → 1 ≤ k → (ts : List Thread) → All (Fit made) ts → how_many (waits_for (clinic_of C) made k) ts ≡ waiting (awaits C) k ts
  unfolding how_many waiting
  counts_same made k pos [] h = refl
  counts_same made k pos (t ∷ ts) h = ap₂ (λ (b : Bool) (m : ℕ). cond b 1 0 + m) (waits_same made k pos t h.0) (counts_same made k pos ts h.1)

-- the totals among words, as a list and one by one
module _ (C : Contents) (b : List ℕ) (ts : List Thread) where
  pub total_read : totals_in b ≡ totals_for (awaits C) ts → (k : ℕ) → InCount 32 k → get_or b (129 + k) 0 ≡ waiting (awaits C) k ts
  total_read alike k inside =
      let there : 129 + k ≡ 130 + (k - 1) = omega (arith, inside.0) in
      let back : 1 + (k - 1) ≡ k = omega (arith, inside.0) in
      ap (λ (x : ℕ). get_or b x 0) there ∙ sym (get_or-take 32 (drop 130 b) (k - 1) 0 (omega (arith, inside.0, inside.1)) ∙ get_or-drop 130 b (k - 1) 0)
      ∙ ap (λ (x : List ℕ). get_or x (k - 1) 0) alike ∙ totals_get (awaits C) ts (k - 1) (omega (arith, inside.0, inside.1)) ∙ ap (λ (x : ℕ). waiting (awaits C) x ts) back

  pub total_words : length b ≡ 162 → ((k : ℕ) → InCount 32 k → get_or b (129 + k) 0 ≡ waiting (awaits C) k ts) → totals_for (awaits C) ts ≡ totals_in b
  total_words long have =
      let size : length (totals_in b) ≡ 32 = length-take-le 32 (drop 130 b) (omega (arith, length-drop 130 b, long)) in
      ext_get_or 0 (totals_for (awaits C) ts) (totals_in b) (totals_long (awaits C) ts ∙ sym size) (λ j lt. at j (omega (arith, lt, totals_long (awaits C) ts)))
    where
      at : (j : ℕ) → j < 32 → get_or (totals_for (awaits C) ts) j 0 ≡ get_or (totals_in b) j 0
      at j lt =
          let there : 129 + (1 + j) ≡ 130 + j = omega arith in
          totals_get (awaits C) ts j lt ∙ sym (have (1 + j) (omega arith, omega (arith, lt))) ∙ ap (λ (x : ℕ). get_or b x 0) there ∙ sym (get_or-take 32 (drop 130 b) j 0 lt ∙ get_or-drop 130 b j 0)
