-- The whole answer, from what the code finds in turn.
use Prim.Native.Nat.{ℕ, ◌+◌, ◌≤◌, ◌<◌}
use mathlib.Core.Path.{◌≡◌, refl, sym, ap, ap₂, ◌∙◌}
use mathlib.Core.Bool.{Bool, true, false, cond, ◌&&◌}
use mathlib.Core.List.{List}
use native.Mathlib.Omega.{arith}
use lib.Dec.{leb}
use lib.ListN.{length}
use lib.Seq.{sets}
use borrow.Author.Tests.{ne_eqb, lt-ltb, le-ltb}
use Rattle.format.specs.Answers.{fine, refused, or_else, not_written}
use Rattle.format.specs.Header.{length_for, Counted, Laid}
use Rattle.format.specs.Contents.{Contents, contents_at, contents_of}
use Rattle.format.specs.Writing.{encoded}
use Rattle.format.specs.declared.Head.{Head}
use Rattle.format.specs.declared.Verdict.{Verdict}
use Rattle.format.proofs.AnswerLaws.{NoRefusal, quiet_first, loud_first}
use Rattle.format.proofs.ContentsLaws.{users_held, channels_held, sessions_held, nodes_held}
use Rattle.std.specs.Prelude.{Ok, Err}
use Rattle.checking.proofs.CheckLaws.{entered_fine}
use Rattle.merging.specs.Merged.{merged_contents, same_tables, sums_fit}
use Rattle.merging.specs.Merging.{own_answer, join_answer, both_answer, first_length, written_for, merging, merged_bytes, merged_over}
use Rattle.merging.specs.Writers.{counts_of_both, sums_within, first_head, Joining, own_entered}
use Rattle.format.specs.declared.Written.{Written}
use Rattle.merging.proofs.JoinLaws.{within_iff, head_merged}
use Rattle.merging.proofs.LimitLaws.{limited}
use Rattle.merging.proofs.OwnLaws.{own_fine, own_loud}

-- what is answered, and what is in the output
abbrev Answers : List ℕ → List ℕ → List ℕ → Written → List ℕ → Type 0
Answers f g out r out' = (r ≡ merging f g (length out)) × (out' ≡ merged_over f g out)

module _ (f g out : List ℕ) where
  abbrev M : Contents
  M = merged_contents (contents_of f) (contents_of g)

  kept : (n p : ℕ) → (n ≡ 0 → ⊥) → merging f g (length out) ≡ not_written n p → (r : Written) → r ≡ not_written n p → Answers f g out r out
  unfolding merged_over
  kept n p loud e r is = (is ∙ sym e, rw (e, ne_eqb n 0 loud))

  pub too_small : length out < 6874 → (r : Written) → r ≡ not_written 17 0 → Answers f g out r out
  unfolding merging
  too_small h = kept 17 0 (λ z. let no : ⊥ = omega (arith, z) in no) (rw (lt-ltb (length out) 6874 h))

  module _ (wide : 6874 ≤ length out) where
    large : merging f g (length out) ≡ written_for M (both_answer f g)
    unfolding merging
    large = rw (le-ltb (length out) 6874 wide)

    refusing : (v : Verdict) → (NoRefusal v → ⊥) → both_answer f g ≡ v → (r : Written) → r ≡ not_written v.number v.place → Answers f g out r out
    refusing v loud e =
        let off : written_for M v ≡ not_written v.number v.place = rw (ne_eqb v.number 0 loud) in
        kept v.number v.place loud (large ∙ ap (written_for M) e ∙ off)

    -- the first file's own refusal, then the second's
    pub first_refused : (w : Verdict) → own_entered f ≡ Err w → (r : Written) → r ≡ not_written w.number w.place → Answers f g out r out
    unfolding both_answer
    first_refused w e r is =
        let (loud, same) = own_loud f w e in
        refusing (own_answer f) loud (loud_first (own_answer f) (or_else (own_answer g) (join_answer (contents_of f) (contents_of g))) loud) r (is ∙ ap (λ (v : Verdict). not_written v.number v.place) same)

    pub second_refused : (one : Head) (w : Verdict) → own_entered f ≡ Ok one → own_entered g ≡ Err w → (r : Written) → r ≡ not_written w.number w.place → Answers f g out r out
    unfolding both_answer
    second_refused one w e₁ e r is =
        let (loud, same) = own_loud g w e in
        let quiet = (own_fine f one e₁).2 in
        let join : Verdict = join_answer (contents_of f) (contents_of g) in
        refusing (own_answer g) loud (quiet_first (own_answer f) (or_else (own_answer g) join) quiet ∙ loud_first (own_answer g) join loud) r
        (is ∙ ap (λ (v : Verdict). not_written v.number v.place) same)

  -- both are clean
  module _ (one two : Head) (e₁ : own_entered f ≡ Ok one) (e₂ : own_entered g ≡ Ok two) (wide : 6874 ≤ length out) where
    abbrev C : Contents
    C = contents_at f one

    abbrev D : Contents
    D = contents_at g two

    pub first_laid : Laid f one × (one.version ≡ 1)
    first_laid = let (e, v, q, s) = own_fine f one e₁ in ((entered_fine f one e).0, v)

    pub second_laid : Laid g two × (two.version ≡ 1)
    second_laid = let (e, v, q, s) = own_fine g two e₂ in ((entered_fine g two e).0, v)

    pub counted : Counted one.count × Counted two.count
    counted = let l = first_laid.0 in let m = second_laid.0 in (
      (l.users, l.roles, l.kinds, l.channels, l.sessions, l.nodes),
      (m.users, m.roles, m.kinds, m.channels, m.sessions, m.nodes),
    )

    joins : both_answer f g ≡ join_answer C D
    unfolding both_answer
    joins =
        let join : Verdict = join_answer (contents_of f) (contents_of g) in
        quiet_first (own_answer f) (or_else (own_answer g) join) (own_fine f one e₁).2 ∙ quiet_first (own_answer g) join (own_fine g two e₂).2
        ∙ ap₂ (λ (h k : Head). join_answer (contents_at f h) (contents_at g k)) (sym (own_fine f one e₁).3) (sym (own_fine g two e₂).3)

    sums : sums_fit C D ≡ sums_within (counts_of_both one.count two.count)
    sums =
        let test : ℕ → ℕ → ℕ → ℕ → Bool = λ u c s n. ((leb u 32 && leb c 64) && leb s 32) && leb n 1024 in
        ap₂ (λ u c. test u c (length C.sessions + length D.sessions) (length C.nodes + length D.nodes)) (ap₂ ◌+◌ (users_held f one) (users_held g two)) (ap₂ ◌+◌ (channels_held f one) (channels_held g two))
        ∙ ap₂ (λ s n. test (one.count.users + two.count.users) (one.count.channels + two.count.channels) s n) (ap₂ ◌+◌ (sessions_held f one) (sessions_held g two)) (ap₂ ◌+◌ (nodes_held f one) (nodes_held g two))

    -- 25, then 3
    abbrev in_turn : Verdict
    in_turn = or_else (cond (same_tables C D) fine (refused 25 0)) (cond (sums_within (counts_of_both one.count two.count)) fine (refused 3 0))

    turns : both_answer f g ≡ in_turn
    turns = joins ∙ ap (λ b. cond (same_tables C D) (cond b fine (refused 3 0)) (refused 25 0)) sums ∙ go (same_tables C D) (sums_within (counts_of_both one.count two.count))
      where
        go : (a b : Bool) → cond a (cond b fine (refused 3 0)) (refused 25 0) ≡ or_else (cond a fine (refused 25 0)) (cond b fine (refused 3 0))
        go true b = refl
        go false b = refl

    pub join_refused : (v : Verdict) → v ≡ in_turn → (NoRefusal v → ⊥) → (r : Written) → r ≡ not_written v.number v.place → Answers f g out r out
    join_refused v is loud = refusing wide v loud (turns ∙ sym is)

    pub join_clean : (v : Verdict) → v ≡ in_turn → NoRefusal v → (same_tables C D ≡ true) × (sums_within (counts_of_both one.count two.count) ≡ true)
    join_clean v is quiet = go (same_tables C D) (sums_within (counts_of_both one.count two.count)) (sym (ap (λ (x : Verdict). x.number) is) ∙ quiet)
      where
        go : (a b : Bool) → (or_else (cond a fine (refused 25 0)) (cond b fine (refused 3 0))).number ≡ 0 → (a ≡ true) × (b ≡ true)
        go true true q = (refl, refl)
        go true false q = let no : ⊥ = omega (arith, q) in absurd no
        go false b q = let no : ⊥ = omega (arith, q) in absurd no

    -- and else the merged file
    module _ (s : same_tables C D ≡ true) (t : sums_within (counts_of_both one.count two.count) ≡ true) where
      pub joining : Joining f g one two
      joining = record {
        first = first_laid.0;
        second = second_laid.0;
        first_version = first_laid.1;
        second_version = second_laid.1;
        first_limited = limited f one (own_fine f one e₁).0;
        second_limited = limited g two (own_fine g two e₂).0;
        fit = t;
      }

      clean : both_answer f g ≡ fine
      clean = let fits : sums_fit C D ≡ true = sums ∙ t in let off : join_answer C D ≡ fine = rw (s, fits) in joins ∙ off

      same : M ≡ merged_contents C D
      same = ap₂ (λ (h k : Head). merged_contents (contents_at f h) (contents_at g k)) (sym (own_fine f one e₁).3) (sym (own_fine g two e₂).3)

      answered : merging f g (length out) ≡ record { number = 0; place = 0; length = first_length (merged_contents C D) }
      answered = large wide ∙ ap (written_for M) clean ∙ ap (λ (x : Contents). written_for x fine) same

      pub merged : (whole : Head) → whole ≡ first_head (counts_of_both one.count two.count) → (r : Written) (n : ℕ) → r ≡ record { number = 0; place = 0; length = n }
          → n ≡ length_for whole.at.nodes whole.count.nodes → (out' : List ℕ) → out' ≡ sets out 0 (encoded 1 (merged_contents C D)) → Answers f g out r out'
      unfolding merged_over merged_bytes
      merged whole is r n e size out' put =
          let long : n ≡ first_length (merged_contents C D) = size ∙ ap (λ (h : Head). length_for h.at.nodes h.count.nodes) (is ∙ head_merged f g one two) in (
            e ∙ ap (λ k. record { number = 0; place = 0; length = k }) long ∙ sym answered,
            put ∙ ap (λ (x : Contents). sets out 0 (encoded 1 x)) (sym same) ∙ rw answered,
          )

      pub few_bytes : (whole : Head) → whole ≡ first_head (counts_of_both one.count two.count) → length_for whole.at.nodes whole.count.nodes < 65536
      few_bytes whole is =
          let (((u, c), x), n) = (within_iff (counts_of_both one.count two.count)).0 t in
          let l = first_laid.0 in
          omega (arith, u, c, x, n, l.roles, l.kinds, ap (λ (h : Head). h.at.nodes) is, ap (λ (h : Head). h.count.nodes) is)

      pub counted_sums : Counted (counts_of_both one.count two.count)
      counted_sums =
          let (((u, c), x), n) = (within_iff (counts_of_both one.count two.count)).0 t in
          (u, first_laid.0.roles, first_laid.0.kinds, c, x, n)
