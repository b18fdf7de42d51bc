-- A thread that could do a lone step at the round's start has done it by the end, unless it was excused at its visit.
use Prim.Native.Nat.{ℕ, zero, suc, ◌+◌, ◌-◌, ◌≤◌, ◌<◌}
use mathlib.Core.Path.{◌≡◌, refl, sym, ap, ◌∙◌, subst}
use mathlib.Core.Logic.{◌⊎◌, inl, inr, ◌≢◌}
use mathlib.Core.Bool.{Bool, true, false}
use mathlib.Core.List.{List, [], ◌∷◌, ◌++◌, append_assoc}
use native.Mathlib.Omega.{arith}
use lib.Dec.{eqb, ltb}
use lib.ListN.{length, get_or, take, drop, replicate}
use borrow.Author.Tests.{eqb-true, eqb-false, ltb-true, ltb-false, lt-ltb, le-ltb}
use Rattle.rounds.specs.Round.{Taken, Visited, alone, met, without_item, Going, visited, visit, round_from, round}
use Rattle.rounds.specs.Rounds.{RoundState, Here, relabelled, numbers, Visits, lone, wait, VisitsFrom, begun, Path}
use Rattle.rounds.proofs.PlaceLaws.{without_item_below, without_item_above, get_d_snoc, numbers_at, numbers_past}
use Rattle.rounds.proofs.Laws.{Lawful, Recorded}
use Rattle.rounds.proofs.RoundStates.{Keeping, inside}
use Rattle.rounds.proofs.Searching.{View, steps_alone, waits_alone, meets_first, does_nothing, view}
use Rattle.rounds.proofs.Visiting.{Keeps, stood, here, unrivalled}
use Rattle.rounds.proofs.Rounding.{come, next, one_more_lem, left_start, from_path}

module _ {S : Type 0} (count : S → ℕ) (choose : S → ℕ → ℕ → Taken S) (Step : S → ℕ → ℕ → S → Type 0) (Wait : S → ℕ → S → Type 0)
    (W : Lawful count choose Step Wait) {R : Type 0} (at : S → ℕ → R) (HasLoneStep Excused : S → ℕ → Type 0)
    (T : Recorded count choose Step Wait at HasLoneStep Excused) where
  -- the thread that had the number w holds r
  abbrev Holds : RoundState S → ℕ → R → Type 0
  Holds g w r = (i : ℕ) → Here g w i → at g.state i ≡ r

  module _ (k a : ℕ) (ms : List Bool) (v : ℕ) (g : RoundState S) (K : Keeping (suc k) a ms v g.labels g.moved) (few : length ms ≤ count g.state) (w : ℕ) (apart : w ≢ v) where
    abbrev s : S
    s = g.state

    -- the thread that had the number w stood in the place i before a visit, and in the place j after it; it holds what it held, or it was met
    abbrev Was : ℕ → Visited S → Type 0
    Was j o =
        (i : ℕ) × Here g w i × (i ≢ suc a)
        × ((at (stood count choose Step Wait W v g a o).state j ≡ at s i) ⊎ ((s' : S) × (1 ≤ i) × (o ≡ met i s') × Step s (suc a) i s'))

    label : get_or g.labels (suc a - 1) 0 ≡ v
    label = (here count choose Step Wait W k a ms v g K few).2

    -- it is another thread than the one visited
    other : (i : ℕ) → Here g w i → i ≢ suc a
    other i h z =
        let e : get_or g.labels (i - 1) 0 ≡ v = ap (λ (x : ℕ). get_or g.labels (x - 1) 0) z ∙ label in
        apart (sym h.2 ∙ e)

    counted : (i : ℕ) → Here g w i → i ≤ count s
    counted i h = let l : i - 1 < length ms = inside K (i - 1) w h.0 h.2 in omega (arith, l, few, h.1)

    stays : (s' : S) → Step s (suc a) 0 s' → count s ≤ count s' → (j : ℕ) → Here g w j → Was j (alone s')
    stays s' st l j f = (j, f, other j f, inl (T.others s (suc a) j s' st l f.1 (counted j f) (other j f)))

    lone_was : (s' : S) → Step s (suc a) 0 s' → (count s' ≡ count s) ⊎ ((count s' ≡ suc (count s)) ⊎ (suc (count s') ≡ count s)) → (j : ℕ)
        → Here (stood count choose Step Wait W v g a (alone s')) w j → Was j (alone s')
    lone_was s' st (inl e) j (lw, lj, h) =
        let x : ltb (count s') (count s) ≡ false = le-ltb (count s') (count s) (omega (arith, e)) in
        let y : ltb (count s) (count s') ≡ false = le-ltb (count s) (count s') (omega (arith, e)) in
        let d : relabelled (count s) (count s') (suc a) g.labels ≡ g.labels = rw (x, y) in
        stays s' st (omega (arith, e)) j (lw, lj, ap (λ (l : List ℕ). get_or l (j - 1) 0) (sym d) ∙ h)
    lone_was s' st (inr (inl e)) j (lw, lj, h) =
        let x : ltb (count s') (count s) ≡ false = le-ltb (count s') (count s) (omega (arith, e)) in
        let y : ltb (count s) (count s') ≡ true = lt-ltb (count s) (count s') (omega (arith, e)) in
        let d : relabelled (count s) (count s') (suc a) g.labels ≡ g.labels ++ (0 ∷ []) = rw (x, y) in
        stays s' st (omega (arith, e)) j (lw, lj, sym (get_d_snoc 0 g.labels (j - 1)) ∙ ap (λ (l : List ℕ). get_or l (j - 1) 0) (sym d) ∙ h)
    lone_was s' st (inr (inr e)) j (lw, lj, h) = go (ltb (j - 1) a) refl
      where
        same : relabelled (count s) (count s') (suc a) g.labels ≡ without_item g.labels a
        same =
            let x : ltb (count s') (count s) ≡ true = lt-ltb (count s') (count s) (omega (arith, e)) in
            let z : suc a - 1 ≡ a = omega arith in
            rw x (ap (λ (y : ℕ). take y g.labels ++ drop (suc a) g.labels) z)

        go : (b : Bool) → ltb (j - 1) a ≡ b → Was j (alone s')
        go true t =
            let l : j - 1 < a = ltb-true (j - 1) a t in
            let f : Here g w j = (lw, lj, sym (without_item_below 0 g.labels a (j - 1) l) ∙ ap (λ (y : List ℕ). get_or y (j - 1) 0) (sym same) ∙ h) in
            (j, f, other j f, inl (T.before s (suc a) j s' st (omega (arith, e)) lj (omega (arith, l, lj))))
        go false t =
            let l : a ≤ j - 1 = ltb-false (j - 1) a t in
            let z : suc j - 1 ≡ suc (j - 1) = omega (arith, lj) in
            let f : Here g w (suc j) =
            (lw, omega arith, ap (λ (y : ℕ). get_or g.labels y 0) z ∙ sym (without_item_above 0 g.labels a (j - 1) l) ∙ ap (λ (y : List ℕ). get_or y (j - 1) 0) (sym same) ∙ h) in
            (suc j, f, other (suc j) f, inl (T.after s (suc a) j s' st (omega (arith, e)) (omega (arith, l, lj))))

    met_was : (p : ℕ) (s' : S) → 1 ≤ p → Step s (suc a) p s' → (j : ℕ) → Here g w j → (b : Bool) → eqb j p ≡ b → Was j (met p s')
    met_was p s' l st j f true t =
        let z : j ≡ p = eqb-true j p t in
        (j, f, other j f, inr (s', f.1, ap (λ (x : ℕ). met x s') (sym z), subst (λ (x : ℕ). Step s (suc a) x s') (sym z) st))
    met_was p s' l st j f false t = (j, f, other j f, inl (T.unmet s (suc a) p j s' l st f.1 (other j f) (eqb-false j p t)))

    -- A visit changes no other thread of the round's start but the one that it meets.
    pub was : (o : Visited S) → View count choose s a ms o → (j : ℕ) → Here (stood count choose Step Wait W v g a o) w j → Was j o
    was o (steps_alone s' e) j f = let st : Step s (suc a) 0 s' = (W.stepped s (suc a) 0 s').0 e in lone_was s' st (W.lone_count s (suc a) s' st) j f
    was o (waits_alone s' e) j f = (j, f, other j f, inl (T.unmoved s (suc a) j s' ((W.waiting s (suc a) s').0 e)))
    was o (meets_first n p s' e l h m c d) j f = met_was p s' l ((W.stepped s (suc a) p s').0 c) j f (eqb j p) refl
    was o (does_nothing n e d) j f = (j, f, other j f, inl refl)

  -- a thread j₀ that could do a lone step in the state s₀
  module _ (s₀ : S) (j₀ : ℕ) (able : HasLoneStep s₀ j₀) where
    -- it can't be met
    holds : (k a : ℕ) (ms : List Bool) (v : ℕ) (g : RoundState S) → Keeping (suc k) a ms v g.labels g.moved → length ms ≤ count g.state → (w : ℕ) → w ≢ v
        → Holds g w (at s₀ j₀) → (o : Visited S) → View count choose g.state a ms o → Holds (stood count choose Step Wait W v g a o) w (at s₀ j₀)
    holds k a ms v g K few w apart H o view j f = go (was k a ms v g K few w apart o view j f)
      where
        go : Was k a ms v g K few w apart j o → at (stood count choose Step Wait W v g a o).state j ≡ at s₀ j₀
        go (i, h, z, inl e) = e ∙ H i h
        go (i, h, z, inr (s', l, d, st)) = absurd (T.no_receiver s₀ g.state j₀ (suc a) i s' able l st (H i h))

    -- its lone choice comes next and is a step or waits, or it is excused
    abbrev pub Then : List ℕ → RoundState S → ℕ → Type 0
    Then ys g i =
        ((zs : List ℕ) × (s' : S) × (ys ≡ i ∷ 0 ∷ zs) × Step g.state i 0 s')
        ⊎ (((zs : List ℕ) × (s' : S) × (ys ≡ i ∷ 0 ∷ zs) × Wait g.state i s') ⊎ Excused g.state i)

    -- the list splits in two at its visit
    abbrev pub Splits : ℕ → ℕ → RoundState S → ℕ → List ℕ → Type 0
    Splits d v g w ws =
        (xs : List ℕ) × (ys : List ℕ) × (g' : RoundState S) × (i : ℕ) × (ws ≡ xs ++ ys) × VisitsFrom count Step Wait v d g xs g' × Here g' w i × (at g'.state i ≡ at s₀ j₀)
        × Then ys g' i

    now : (k a : ℕ) (ms : List Bool) (v : ℕ) (g : RoundState S) → Keeps count choose Step Wait W (suc k) a ms v g → Holds g v (at s₀ j₀) → (ws : List ℕ)
        → Splits 0 v g v ((visit count choose g.state a ms).words ++ ws)
    unfolding visit
    now k a ms v g (K, few) H ws =
        let f : Here g v (suc a) = here count choose Step Wait W k a ms v g K few in
        let n : suc a ≤ count g.state = omega (arith, K.sum, few) in (
          [],
          (visit count choose g.state a ms).words ++ ws,
          g,
          suc a,
          refl,
          (refl, refl),
          f,
          H (suc a) f,
          go f (T.again s₀ g.state j₀ (suc a) able (omega arith) n (H (suc a) f)),
        )
      where
        go : Here g v (suc a) → ((s'' : S) × Step g.state (suc a) 0 s'') ⊎ (((s'' : S) × Wait g.state (suc a) s'') ⊎ Excused g.state (suc a))
            → Then ((visit count choose g.state a ms).words ++ ws) g (suc a)
        go f (inl (s'', st)) =
            let (e, _) = unrivalled count choose Step Wait W k a ms v g K few (visited count choose g.state a ms) (view count choose g.state a ms) (suc a ∷ 0 ∷ []) _
            (lone (suc a) s'' f st) in
            inl (ws, s'', ap (λ (x : List ℕ). x ++ ws) (sym e), st)
        go f (inr (inl (s'', st))) =
            let (e, _) = unrivalled count choose Step Wait W k a ms v g K few (visited count choose g.state a ms) (view count choose g.state a ms) (suc a ∷ 0 ∷ []) _
            (wait (suc a) s'' f st) in
            inr (inl (ws, s'', ap (λ (x : List ℕ). x ++ ws) (sym e), st))
        go f (inr (inr x)) = inr (inr x)

    further : (d v : ℕ) (g g' : RoundState S) (w : ℕ) (xs ws : List ℕ) → Visits count Step Wait v g xs g' → Splits d (suc v) g' w ws → Splits (suc d) v g w (xs ++ ws)
    further d v g g' w xs ws st (ys, zs, g'', i, e, f, h, m, t) =
        (xs ++ ys, zs, g'', i, ap (λ (x : List ℕ). xs ++ x) e ∙ sym (append_assoc xs ys zs), (xs, ys, g', refl, st, f), h, m, t)

    split : (k a : ℕ) (ms : List Bool) (v : ℕ) (g : RoundState S) → Keeps count choose Step Wait W k a ms v g → (d w : ℕ) → w ≡ v + d → d < k → Holds g w (at s₀ j₀)
        → Splits d v g w (round_from count choose k a ms g.state).words
    unfolding round_from
    split zero a ms v g K d w e l H = let never : ⊥ = omega (arith, l) in absurd never
    split (suc k) a ms v g K zero w e l H =
        let x : Going S = visit count choose g.state a ms in
        let z : v ≡ w = omega (arith, e) in
        subst (λ (y : ℕ). Splits 0 v g y (x.words ++ (round_from count choose k x.place x.marks x.state).words)) z
        (now k a ms v g K (subst (λ (y : ℕ). Holds g y (at s₀ j₀)) (sym z) H) (round_from count choose k x.place x.marks x.state).words)
    split (suc k) a ms v g K (suc d) w e l H =
        let x : Going S = visit count choose g.state a ms in
        let g' : RoundState S = next count choose Step Wait W a ms v g in
        let (st, L, c) = one_more_lem count choose Step Wait W k a ms v g K in
        let H' : Holds g' w (at s₀ j₀) = holds k a ms v g K.0 K.1 w (λ z. omega (arith, e, z)) H (come count choose Step Wait W a ms g) (view count choose g.state a ms) in
        let f : Splits d (suc v) g' w (round_from count choose k x.place x.marks g'.state).words =
        split k x.place x.marks (suc v) g' L d w (omega (arith, e)) (omega (arith, l)) H' in
        further d v g g' w x.words (round_from count choose k x.place x.marks x.state).words st
        (subst (λ (y : S). Splits d (suc v) g' w (round_from count choose k x.place x.marks y).words) c f)

  -- Of each thread that could do a lone step in the round's first state: after the visits of those before it, it holds what it held; then its lone choice comes and is a
  -- step or waits, or it is excused.
  pub round_lively : (s : S) (w : ℕ) → HasLoneStep s w
      → (xs : List ℕ) × (ys : List ℕ) × (g : RoundState S) × (i : ℕ) × ((round count choose s).words ≡ xs ++ ys) × VisitsFrom count Step Wait 1 (w - 1) (begun count Step Wait s) xs g
      × Path count Step Wait s xs g.state × Here g w i × (at g.state i ≡ at s w)
      × (((zs : List ℕ) × (s' : S) × (ys ≡ i ∷ 0 ∷ zs) × Step g.state i 0 s')
      ⊎ (((zs : List ℕ) × (s' : S) × (ys ≡ i ∷ 0 ∷ zs) × Wait g.state i s') ⊎ Excused g.state i))
  unfolding round
  round_lively s w able =
      let (l, h) = T.able_counted s w able in
      let (xs, ys, g, i, e, f, at_i, m, t) = split s w able (count s) 0 (replicate (count s) false) 1 (begun count Step Wait s) (left_start count choose Step Wait W s) (w - 1) w
      (omega (arith, l)) (omega (arith, l, h)) first in
      (xs, ys, g, i, e, f, from_path count choose Step Wait W (w - 1) 1 (begun count Step Wait s) xs g f, at_i, m, t)
    where
      first : Holds (begun count Step Wait s) w (at s w)
      first i (lw, li, e) = go (ltb (i - 1) (count s)) refl
        where
          go : (b : Bool) → ltb (i - 1) (count s) ≡ b → at s i ≡ at s w
          go true t =
              let n : get_or (numbers 1 (count s)) (i - 1) 0 ≡ 1 + (i - 1) = numbers_at 1 (count s) (i - 1) (ltb-true (i - 1) (count s) t) in
              let z : i ≡ w = omega (arith, n, e, li) in
              ap (at s) z
          go false t =
              let n : get_or (numbers 1 (count s)) (i - 1) 0 ≡ 0 = numbers_past 1 (count s) (i - 1) (ltb-false (i - 1) (count s) t) in
              let never : ⊥ = omega (arith, n, e, lw) in
              absurd never
