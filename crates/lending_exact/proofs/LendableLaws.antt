-- What may be lent, as a test and in words; and which answer comes where.
use Prim.Native.Nat.{ℕ, zero, suc, ◌+◌, ◌-◌, ◌<◌}
use mathlib.Core.Path.{◌≡◌, refl, sym, ap, ◌∙◌, subst}
use mathlib.Core.Logic.{◌↔◌, ◌≢◌, inl, inr}
use mathlib.Core.Bool.{Bool, true, false, ◌&&◌, and-eq-true_iff, or-true, false≢true}
use mathlib.Core.List.{List, [], ◌∷◌}
use native.Mathlib.Omega.{arith}
use lib.Dec.{eqb, leb, ltb}
use lib.ListN.{length, get_or, take}
use borrow.Author.Tests.{eqb-true, eq-eqb, lt-ltb, le-leb}
use Rattle.masks.specs.Mask.{Within}
use Rattle.masks.proofs.Bounds.{within_iff}
use Rattle.format.specs.Contents.{contents_of}
use Rattle.format.specs.Answers.{fine, refused}
use Rattle.format.specs.declared.Node.{Node}
use Rattle.format.proofs.BoolLaws.{eq_iff, and_iff, or_resolve}
use Rattle.format.proofs.ContentsLaws.{in_count_iff}
use Rattle.rules.specs.Schema.{Schema, schema_of}
use Rattle.rules.specs.Names.{Bound, is_user, is_channel}
use Rattle.rules.specs.Rules.{Context}
use Rattle.rules.specs.Checking.{openings}
use Rattle.rules.proofs.NameLaws.{between}
use Rattle.checking.specs.Check.{reading_names}
use Rattle.reading_exact.specs.Lists.{All}
use Rattle.reading_exact.specs.Order.{OfFile}
use Rattle.reading_exact.proofs.Turns.{not_of_file, some_of_file}
use Rattle.reading_exact.specs.File.{InCount}
use Rattle.reading_exact.proofs.AllLaws.{all_map, all_both}
use Rattle.steps.specs.declared.Thread.{Thread}
use Rattle.steps.specs.declared.Made.{Made}
use Rattle.steps.specs.Choice.{clinic_of, kind_held, State, halts, goes, choice}
use Rattle.reading_exact.proofs.FirstLaws.{number_of}
use Rattle.placing_exact.proofs.AnswerStages.{Named, names_fine, names_wrong, names_of}
use Rattle.running_exact.specs.Keeps.{HasValue, a_user, a_channel, a_made, Held, Fits, Reaches, Formed}
use Rattle.running_exact.proofs.HeldValues.{Apart, kind_held_lem}
use Rattle.running_exact.proofs.FileNodes.{apart}
use Rattle.lending.specs.Lent.{context_at, is_value, vars_fit, thread_fits, made_fits, every, same, totals_fit, state_of, sizes_fit, may_be_lent, lending, chosen_in, choosing}
use Rattle.lending_exact.specs.Lendable.{Lendable, Eight}
use Rattle.naming.specs.Scopes.{awaits}
use Rattle.steps.specs.Beside.{totals_in, totals_for}
use Rattle.lending.proofs.TotalsLaws.{same_true, same_refl}
use Rattle.lending_exact.proofs.WaitingCounts.{counts_same, total_read, total_words}
use Rattle.lending.proofs.SizeLaws.{sizes_true}
use Rattle.lending.proofs.ContextLaws.{contexts_at, one_context}
use Rattle.lending.proofs.NarrowLaws.{counted_context}
use Rattle.lending_exact.proofs.LentAnswers.{place_of, OfChoice, unread, unfit, halted, carried, of_choice, lending_fine}

-- Values and variables.

module _ (D : Schema) (S : Apart D) (made : List Made) where
  -- a value of some kind is tested as one
  value_named : (v k : ℕ) → HasValue D made v k → is_value D made v ≡ true
  unfolding is_value
  value_named v k (a_user c e) = rw (lt-ltb 0 v (omega arith), le-leb v D.users c.1)
  value_named v k (a_channel c n e h) =
      rw (lt-ltb 256 v (omega arith), le-leb v (256 + D.channels) (omega arith)) (or-true (is_user D v))
  value_named v k (a_made c n e h) =
      rw (lt-ltb 384 v (omega arith), le-leb v (384 + length made) (omega arith), or-true (is_channel D v)) (or-true (is_user D v))

  -- and what is tested as one is of some kind
  named_value : (v : ℕ) → is_value D made v ≡ true → (k : ℕ) × HasValue D made v k
  unfolding is_value
  named_value v h = user (is_user D v) refl
    where
      channel : is_user D v ≡ false → (x : Bool) → is_channel D v ≡ x → (k : ℕ) × HasValue D made v k
      channel u true e =
          let (low, high) = between 256 (256 + D.channels) v e in
          (D.kind (v - 256), a_channel (v - 256) (omega arith, omega arith) (omega arith) refl)
      channel u false e =
          let rest = or_resolve (is_channel D v) (ltb 384 v && leb v (384 + length made)) (or_resolve (is_user D v) _ h u) e in
          let (low, high) = between 384 (384 + length made) v rest in
          (_, a_made (v - 384) (omega arith, omega arith) (omega arith) refl)

      user : (x : Bool) → is_user D v ≡ x → (k : ℕ) × HasValue D made v k
      user true e = (0, a_user ((in_count_iff D.users v).0 e) refl)
      user false e = channel e (is_channel D v) refl

  -- a value of a kind
  value_iff : (v k : ℕ) → ((is_value D made v && eqb (kind_held D made v) k) ≡ true) ↔ HasValue D made v k
  value_iff v k = (to, from)
    where
      to : (is_value D made v && eqb (kind_held D made v) k) ≡ true → HasValue D made v k
      to e =
          let (is, kind) = (and-eq-true_iff (is_value D made v) (eqb (kind_held D made v) k)).0 e in
          let (j, h) = named_value v is in
          subst (HasValue D made v) (sym (kind_held_lem D S made v j h) ∙ eqb-true (kind_held D made v) k kind) h

      from : HasValue D made v k → (is_value D made v && eqb (kind_held D made v) k) ≡ true
      from h =
          (and-eq-true_iff (is_value D made v) (eqb (kind_held D made v) k)).1
          (value_named v k h, eq-eqb (kind_held D made v) k (kind_held_lem D S made v k h))

  -- the variables of a thread
  held_iff : (bs : List Bound) (vs : List ℕ) → (vars_fit D made bs vs ≡ true) ↔ Held D made bs vs
  unfolding vars_fit
  held_iff [] [] = (λ e. tt, λ h. refl)
  held_iff [] (v ∷ vs) = and_iff (eq_iff v 0) (λ e. held_iff [] vs)
  held_iff (b ∷ bs) [] = (λ e. absurd (false≢true e), λ h. absurd h)
  held_iff (b ∷ bs) (v ∷ vs) = and_iff (value_iff v b.sort) (λ e. held_iff bs vs)

-- a made channel
formed_iff : (D : Schema) (m : Made) → (made_fits D m ≡ true) ↔ Formed D m
unfolding made_fits
formed_iff D m = and_iff (in_count_iff D.users m.owner) (λ e. in_count_iff D.kinds m.kind.0)

-- a test of every one of a list
every_iff : {A : Type 0} (test : A → Bool) (xs : List A) → (every test xs ≡ true) ↔ All (λ x. test x ≡ true) xs
unfolding every
every_iff test [] = (λ e. tt, λ h. refl)
every_iff test (x ∷ xs) = and_iff ((λ e. e), (λ e. e)) (λ e. every_iff test xs)

-- what holds of all of a list holds of the first ones
all_take : {A : Type 0} (P : A → Type 0) (n : ℕ) (xs : List A) → All P xs → All P (take n xs)
all_take P zero xs h = tt
all_take P (suc n) [] h = tt
all_take P (suc n) (x ∷ xs) h = (h.0, all_take P n xs h.1)

module _ (f : List ℕ) (clean : reading_names f ≡ fine) where
  abbrev D : Schema
  D = schema_of (contents_of f)

  abbrev ns : List Node
  ns = (contents_of f).nodes

  abbrev os : List Context
  os = openings (contents_of f)

  -- Threads.

  -- what is asked of a thread
  abbrev Lent : List Made → Thread → Type 0
  Lent made t = (c : Context) × Reaches (contents_of f) t c × Fits D made c t

  abbrev here : Thread → Context
  here t = context_at (contents_of f) t.node

  -- what is tested of a thread
  tested_iff : (made : List Made) (t : Thread)
      → (thread_fits (contents_of f) made t ≡ true)
      ↔ (InCount (length ns) t.node
      × ((t.user ≡ (here t).user) × (Within t.mask (D.assigned t.user) × Held D made (here t).vars t.vars)))
  unfolding thread_fits
  tested_iff made t =
      and_iff (in_count_iff (length ns) t.node) (λ n. and_iff (eq_iff t.user (here t).user)
      (λ u. and_iff (within_iff t.mask (D.assigned t.user)) (λ m. held_iff D (apart f clean) made (here t).vars t.vars)))

  -- a thread that passes the test is as asked
  thread_lent : (made : List Made) (t : Thread) → Eight t → thread_fits (contents_of f) made t ≡ true → Lent made t
  thread_lent made t eight e =
      let (n, (u, (m, v))) = (tested_iff made t).0 e in
      let at = contexts_at f clean t.node n in (
        here t,
        (n, at),
        record { user = u; counted = subst (InCount D.users) (sym u) (counted_context f clean at).0; mask = m; eight = eight; vars = v },
      )

  -- and one that is as asked passes it
  lent_thread : (made : List Made) (t : Thread) → Lent made t → thread_fits (contents_of f) made t ≡ true
  lent_thread made t (c, (n, at), F) =
      let same : c ≡ here t = sym (one_context f clean t.node c n at) in
      (tested_iff made t).1
      (n, (F.user ∙ ap (λ (x : Context). x.user) same, (F.mask, subst (λ (x : Context). Held D made x.vars t.vars) same F.vars)))

  module _ (l : List Thread) (b : List ℕ) where
    abbrev made : List Made
    made = (state_of l b).made

    -- the totals by value are those by node
    totals-told : Lendable (contents_of f) l b → totals_for (awaits (contents_of f)) (state_of l b).threads ≡ totals_in b
    totals-told L = total_words (contents_of f) b (state_of l b).threads L.words (λ k inside. L.totals k inside ∙ counts_same f clean made k inside.0 (state_of l b).threads L.threads)

    -- what may be lent is judged so
    pub lendable_judged : Lendable (contents_of f) l b → may_be_lent (contents_of f) l b ≡ true
    unfolding may_be_lent
    lendable_judged L =
        rw (
          eq-eqb (length b) 162 L.words,
          eq-eqb (length l) 64 L.records,
          le-leb (get_or b 0 0) 64 L.few_threads,
          le-leb (get_or b 1 0) 64 L.few_made,
          (every_iff (made_fits D) made).1 (all_map (λ m. (formed_iff D m).1) made L.made),
          (every_iff (thread_fits (contents_of f) made) (state_of l b).threads).1 (all_map (lent_thread made) (state_of l b).threads L.threads),
          ap (same (totals_in b)) (totals-told L) ∙ same_refl (totals_in b),
        )

    -- and what is judged so may be lent
    pub judged_lendable : All Eight l → may_be_lent (contents_of f) l b ≡ true → Lendable (contents_of f) l b
    unfolding may_be_lent
    judged_lendable eights h =
        let (sizes, rest) = (and-eq-true_iff (sizes_fit (length l) b) _).0 h in
        let (words, records, threads, few) = sizes_true (length l) b sizes in
        let (formed, more) = (and-eq-true_iff (every (made_fits D) made) _).0 rest in
        let (fit, totals) = (and-eq-true_iff (every (thread_fits (contents_of f) made) (state_of l b).threads) (totals_fit (contents_of f) (state_of l b).threads b)).0 more in
        let fitting = all_map (λ t (e, z). thread_lent made t e z) (state_of l b).threads
        (all_both Eight (λ t. thread_fits (contents_of f) made t ≡ true) (state_of l b).threads (all_take Eight (get_or b 0 0) l eights)
        ((every_iff (thread_fits (contents_of f) made) (state_of l b).threads).0 fit)) in
        record {
          records = records;
          words = words;
          few_threads = threads;
          few_made = few;
          made = all_map (λ m. (formed_iff D m).0) made ((every_iff (made_fits D) made).0 formed);
          threads = fitting;
          totals = λ k inside. total_read (contents_of f) b (state_of l b).threads (same_true (totals_in b) (totals_for (awaits (contents_of f)) (state_of l b).threads) totals) k inside
              ∙ sym (counts_same f clean made k inside.0 (state_of l b).threads fitting);
        }

-- Nothing refuses before the choice exactly where the file passes 1 to 10 and what is lent is what the paper says may be.
pub lending_exactly : (f : List ℕ) (l : List Thread) → All Eight l → (b : List ℕ)
    → (lending f l b ≡ fine) ↔ ((reading_names f ≡ fine) × Lendable (contents_of f) l b)
lending_exactly f l eights b = (
  λ h. let (clean, may) = (lending_fine f l b).0 h in (clean, judged_lendable f clean l b eights may),
  λ (clean, L). (lending_fine f l b).1 (clean, lendable_judged f clean l b L),
)

-- Which answer comes where.

-- 18 at place 0: the file passes 1 to 10, and what is lent may not be.
pub eighteen_zero : (f : List ℕ) (l : List Thread) → All Eight l → (b : List ℕ) (i p : ℕ)
    → (choosing f l b i p ≡ refused 18 0) ↔ ((reading_names f ≡ fine) × (Lendable (contents_of f) l b → ⊥))
eighteen_zero f l eights b i p = (to (of_choice f l b i p), from (of_choice f l b i p))
  where
    to : OfChoice f l b i p → choosing f l b i p ≡ refused 18 0 → (reading_names f ≡ fine) × (Lendable (contents_of f) l b → ⊥)
    to (unread n q o e h S) z = absurd (not_of_file n 18 o (omega arith) (omega arith) (number_of (sym S.answer ∙ z)))
    to (unfit e h k S) z = (e, λ L. false≢true (sym h ∙ lendable_judged f e l b L))
    to (halted n over e h S) z = absurd (omega (arith, place_of (sym S.answer ∙ z)))
    to (carried s e h S) z = absurd (omega (arith, number_of (sym S.answer ∙ z)))

    from : OfChoice f l b i p → (reading_names f ≡ fine) × (Lendable (contents_of f) l b → ⊥) → choosing f l b i p ≡ refused 18 0
    from (unread n q o e h S) (clean, never) = absurd (omega (arith, some_of_file n o, number_of (sym e ∙ clean)))
    from (unfit e h k S) (clean, never) = S.answer
    from (halted n over e h S) (clean, never) = absurd (never ((lending_exactly f l eights b).0 e).1)
    from (carried s e h S) (clean, never) = absurd (never ((lending_exactly f l eights b).0 e).1)

-- 1 to 10 come first, and are the file's.
pub ten_first : (f : List ℕ) (l : List Thread) (b : List ℕ) (i p n q : ℕ) → OfFile n
    → (choosing f l b i p ≡ refused n q) ↔ (reading_names f ≡ refused n q)
ten_first f l b i p n q o = (to (of_choice f l b i p), from (of_choice f l b i p))
  where
    to : OfChoice f l b i p → choosing f l b i p ≡ refused n q → reading_names f ≡ refused n q
    to (unread m r of e h S) z = e ∙ sym S.answer ∙ z
    to (unfit e h k S) z = absurd (not_of_file n 18 o (omega arith) (omega arith) (sym (number_of (sym S.answer ∙ z))))
    to (halted m over e h S) z = absurd (not_of_file n m o over.0 over.1 (sym (number_of (sym S.answer ∙ z))))
    to (carried s e h S) z = absurd (omega (arith, some_of_file n o, number_of (sym S.answer ∙ z)))

    from : OfChoice f l b i p → reading_names f ≡ refused n q → choosing f l b i p ≡ refused n q
    from (unread m r of e h S) z = S.answer ∙ sym e ∙ z
    from (unfit e h k S) z = absurd (omega (arith, some_of_file n o, number_of (sym e ∙ z)))
    from (halted m over e h S) z = absurd (omega (arith, some_of_file n o, number_of (sym ((lending_fine f l b).0 e).0 ∙ z)))
    from (carried s e h S) z = absurd (omega (arith, some_of_file n o, number_of (sym ((lending_fine f l b).0 e).0 ∙ z)))

module _ (f : List ℕ) (l : List Thread) (b : List ℕ) (i p : ℕ) where
  -- where the file is not refused so, a refusal at place 1 is the choice's
  of_choice_alone : (n : ℕ) → (reading_names f ≡ refused n 1 → ⊥)
      → (choosing f l b i p ≡ refused n 1) ↔ ((lending f l b ≡ fine) × (choice (clinic_of (contents_of f)) (state_of l b) i p ≡ halts n))
  unfolding choosing
  of_choice_alone n never = (to (of_choice f l b i p), λ (e, h). rw (e, h))
    where
      to : OfChoice f l b i p → choosing f l b i p ≡ refused n 1 → (lending f l b ≡ fine) × (chosen_in f l b i p ≡ halts n)
      to (unread m q o e h S) z = absurd (never (e ∙ sym S.answer ∙ z))
      to (unfit e h k S) z = absurd (omega (arith, place_of (sym S.answer ∙ z)))
      to (halted m over e h S) z = (e, h ∙ ap halts (number_of (sym S.answer ∙ z)))
      to (carried s e h S) z = absurd (omega (arith, place_of (sym S.answer ∙ z)))

  -- A choice's own refusal has place 1: where nothing refuses before it, such a refusal is exactly the choice's.
  pub choice_at_one : (n : ℕ) → lending f l b ≡ fine → (choosing f l b i p ≡ refused n 1) ↔ (choice (clinic_of (contents_of f)) (state_of l b) i p ≡ halts n)
  choice_at_one n e =
      let alone = of_choice_alone n (λ z. omega (arith, place_of (sym ((lending_fine f l b).0 e).0 ∙ z))) in
      (λ z. (alone.0 z).1, λ h. alone.1 (e, h))

  -- With a number of 11 to 20, nothing else is refused at place 1.
  pub past_ten_one : (n : ℕ) → 10 < n → n ≢ 21
      → (choosing f l b i p ≡ refused n 1) ↔ ((lending f l b ≡ fine) × (choice (clinic_of (contents_of f)) (state_of l b) i p ≡ halts n))
  past_ten_one n over other = of_choice_alone n (never (names_of f))
    where
      never : Named (reading_names f) → reading_names f ≡ refused n 1 → ⊥
      never (names_fine e) z = omega (arith, over, number_of (sym e ∙ z))
      never (names_wrong (inl (low, high))) z = omega (arith, over, high, number_of z)
      never (names_wrong (inr is)) z = other (sym (number_of z) ∙ is)

  -- Nothing is refused exactly where the choice is carried out in what may be lent.
  pub choosing_fine : (choosing f l b i p ≡ fine) ↔ ((lending f l b ≡ fine) × ((s : State) × (choice (clinic_of (contents_of f)) (state_of l b) i p ≡ goes s)))
  unfolding choosing
  choosing_fine = (to (of_choice f l b i p), λ (e, (s, h)). rw (e, h))
    where
      to : OfChoice f l b i p → choosing f l b i p ≡ fine → (lending f l b ≡ fine) × ((s : State) × (chosen_in f l b i p ≡ goes s))
      to (unread n q o e h S) z = absurd (omega (arith, some_of_file n o, number_of (sym S.answer ∙ z)))
      to (unfit e h k S) z = absurd (omega (arith, number_of (sym S.answer ∙ z)))
      to (halted n over e h S) z = absurd (omega (arith, over.0, number_of (sym S.answer ∙ z)))
      to (carried s e h S) z = (e, (s, h))
