-- A computed round is a round of the relation, and there is no other. Its choices are done, and there are at most two words a thread of its start.
use Prim.Native.Nat.{ℕ, zero, suc, ◌+◌, ◌*◌, ◌-◌, ◌%◌, ◌≤◌, ◌<◌}
use mathlib.Core.Path.{◌≡◌, refl, sym, ap, ◌∙◌, subst}
use mathlib.Core.Logic.{◌↔◌, ◌⊎◌, inl, inr}
use mathlib.Core.Bool.{Bool, true, false, false≢true}
use mathlib.Core.List.{List, [], ◌∷◌, ◌++◌}
use native.Mathlib.Omega.{arith}
use lib.Dec.{eqb}
use lib.ListN.{length, get_or, replicate, length-append, length-replicate, get_or-replicate}
use borrow.Author.Tests.{eqb-true, eqb-false}
use Rattle.rounds.specs.Round.{Taken, refuses, waits, steps, Visited, nothing_done, is_step, Going, Rounded, going, visited, visit, round_from, round}
use Rattle.rounds.specs.Rounds.{RoundState, Visits, lone, wait, meet, nothing, VisitsFrom, begun, Rounds, Path}
use Rattle.rounds.proofs.Laws.{Lawful}
use Rattle.rounds.proofs.RoundStates.{keeping_start}
use Rattle.rounds.proofs.Searching.{View, steps_alone, waits_alone, meets_first, does_nothing, view}
use Rattle.rounds.proofs.Visiting.{Keeps, stood, stood_state, related, unrivalled, keeps}

module _ {S : Type 0} (count : S → ℕ) (choose : S → ℕ → ℕ → Taken S) (Step : S → ℕ → ℕ → S → Type 0) (Wait : S → ℕ → S → Type 0)
    (W : Lawful count choose Step Wait) where
  abbrev Left : ℕ → ℕ → List Bool → ℕ → RoundState S → Type 0
  Left = Keeps count choose Step Wait W

  abbrev from : ℕ → ℕ → List Bool → S → Rounded S
  from = round_from count choose

  -- the visit of a state in the midst of a round
  abbrev pub come : ℕ → List Bool → RoundState S → Visited S
  come a ms g = visited count choose g.state a ms

  abbrev pub next : ℕ → List Bool → ℕ → RoundState S → RoundState S
  next a ms v g = stood count choose Step Wait W v g a (come a ms g)

  -- one visit, and those after it
  pub one_more_lem : (k a : ℕ) (ms : List Bool) (v : ℕ) (g : RoundState S) → Left (suc k) a ms v g
      → Visits count Step Wait v g (visit count choose g.state a ms).words (next a ms v g)
      × Left k (visit count choose g.state a ms).place (visit count choose g.state a ms).marks (suc v) (next a ms v g)
      × ((next a ms v g).state ≡ (visit count choose g.state a ms).state)
  unfolding visit
  one_more_lem k a ms v g (K, few) = (
    related count choose Step Wait W k a ms v g K few (come a ms g) (view count choose g.state a ms),
    keeps count choose Step Wait W k a ms v g K few (come a ms g) (view count choose g.state a ms),
    stood_state count choose Step Wait W v g a ms (come a ms g),
  )

  abbrev Related : ℕ → ℕ → RoundState S → Rounded S → Type 0
  Related k v g r = (g' : RoundState S) × VisitsFrom count Step Wait v k g r.words g' × (g'.state ≡ r.state)

  pub from_related : (k a : ℕ) (ms : List Bool) (v : ℕ) (g : RoundState S) → Left k a ms v g → Related k v g (from k a ms g.state)
  unfolding round_from
  from_related zero a ms v g K = (g, (refl, refl), refl)
  from_related (suc k) a ms v g K =
      let (st, L, e) = one_more_lem k a ms v g K in
      let x : Going S = visit count choose g.state a ms in
      let (g', h, d) = subst (λ (y : S). Related k (suc v) (next a ms v g) (from k x.place x.marks y)) e (from_related k x.place x.marks (suc v) (next a ms v g) L) in
      (g', (x.words, (from k x.place x.marks x.state).words, next a ms v g, refl, st, h), d)

  abbrev Told : List ℕ → RoundState S → Rounded S → Type 0
  Told ws g r = (ws ≡ r.words) × (g.state ≡ r.state)

  pub from_unrivalled : (k a : ℕ) (ms : List Bool) (v : ℕ) (g : RoundState S) → Left k a ms v g → (ws : List ℕ) (g' : RoundState S)
      → VisitsFrom count Step Wait v k g ws g' → Told ws g' (from k a ms g.state)
  unfolding round_from visit
  from_unrivalled zero a ms v g K ws g' (e, d) = (e, ap (λ (x : RoundState S). x.state) (sym d))
  from_unrivalled (suc k) a ms v g K ws g'' (xs, ys, g', e, st, h) =
      let (_, L, c) = one_more_lem k a ms v g K in
      let x : Going S = visit count choose g.state a ms in
      let (p, q) = unrivalled count choose Step Wait W k a ms v g K.0 K.1 (come a ms g) (view count choose g.state a ms) xs g' st in
      let h' : VisitsFrom count Step Wait (suc v) k (next a ms v g) ys g'' = subst (λ (y : RoundState S). VisitsFrom count Step Wait (suc v) k y ys g'') q h in
      let (m, n) = subst (λ (y : S). Told ys g'' (from k x.place x.marks y)) c (from_unrivalled k x.place x.marks (suc v) (next a ms v g) L ys g'' h') in
      (e ∙ ap (λ (y : List ℕ). y ++ ys) p ∙ ap (λ (y : List ℕ). x.words ++ y) m, n)

  -- at the start
  pub left_start : (s : S) → Left (count s) 0 (replicate (count s) false) 1 (begun count Step Wait s)
  left_start s = let e : length (replicate (count s) false) ≡ count s = length-replicate (count s) false in (keeping_start (count s), omega (arith, e))

  -- The list is a round exactly if it is the computed one, and leaves what that leaves.
  pub round_is : (s : S) (ws : List ℕ) (s' : S) → Rounds count Step Wait s ws s' ↔ ((ws ≡ (round count choose s).words) × (s' ≡ (round count choose s).state))
  unfolding round
  round_is s ws s' = (to, back)
    where
      to : Rounds count Step Wait s ws s' → (ws ≡ (round count choose s).words) × (s' ≡ (round count choose s).state)
      to (g, h, e) =
          let (p, q) = from_unrivalled (count s) 0 (replicate (count s) false) 1 (begun count Step Wait s) (left_start s) ws g h in
          (p, sym e ∙ q)

      back : (ws ≡ (round count choose s).words) × (s' ≡ (round count choose s).state) → Rounds count Step Wait s ws s'
      back (p, q) =
          let (g, h, e) = from_related (count s) 0 (replicate (count s) false) 1 (begun count Step Wait s) (left_start s) in
          (g, subst (λ (x : List ℕ). VisitsFrom count Step Wait 1 (count s) (begun count Step Wait s) x g) (sym p) h, e ∙ sym q)

  -- the choices of visits are done, one after the other
  pub path_append : (xs ys : List ℕ) (s s' s'' : S) → Path count Step Wait s xs s' → Path count Step Wait s' ys s'' → Path count Step Wait s (xs ++ ys) s''
  path_append [] ys s s' s'' e h = subst (λ (x : S). Path count Step Wait x ys s'') (sym e) h
  path_append (i ∷ []) ys s s' s'' e h = absurd e
  path_append (i ∷ p ∷ xs) ys s s' s'' (t, st, e) h = (t, st, path_append xs ys t s' s'' e h)

  visits_path : (v : ℕ) (g : RoundState S) (ws : List ℕ) (g' : RoundState S) → Visits count Step Wait v g ws g' → Path count Step Wait g.state ws g'.state
  visits_path v g ws g' (lone i s' at st) = (s', inl st, refl)
  visits_path v g ws g' (wait i s' at st) = (s', inr (refl, st), refl)
  visits_path v g ws g' (meet i p u s' at there out st least) = (s', inl st, refl)
  visits_path v g ws g' (nothing i at x y z) = refl

  pub from_path : (k v : ℕ) (g : RoundState S) (ws : List ℕ) (g' : RoundState S) → VisitsFrom count Step Wait v k g ws g' → Path count Step Wait g.state ws g'.state
  from_path zero v g ws g' (e, d) =
      subst (λ (x : List ℕ). Path count Step Wait g.state x g'.state) (sym e) (ap (λ (x : RoundState S). x.state) d)
  from_path (suc k) v g ws g'' (xs, ys, g', e, st, h) =
      subst (λ (x : List ℕ). Path count Step Wait g.state x g''.state) (sym e)
      (path_append xs ys g.state g'.state g''.state (visits_path v g xs g' st) (from_path k (suc v) g' ys g'' h))

  -- None of a round's choices is refused.
  pub round_path : (s : S) → Path count Step Wait s (round count choose s).words (round count choose s).state
  round_path s =
      let (g, h, e) = (round_is s (round count choose s).words (round count choose s).state).1 (refl, refl) in
      subst (λ (x : S). Path count Step Wait s (round count choose s).words x) e (from_path (count s) 1 (begun count Step Wait s) (round count choose s).words g h)

  visits_length : (v : ℕ) (g : RoundState S) (ws : List ℕ) (g' : RoundState S) → Visits count Step Wait v g ws g' → (length ws ≡ 0) ⊎ (length ws ≡ 2)
  visits_length v g ws g' (lone i s' at st) = inr refl
  visits_length v g ws g' (wait i s' at st) = inr refl
  visits_length v g ws g' (meet i p u s' at there out st least) = inr refl
  visits_length v g ws g' (nothing i at x y z) = inl refl

  from_length : (k v : ℕ) (g : RoundState S) (ws : List ℕ) (g' : RoundState S) → VisitsFrom count Step Wait v k g ws g' → (length ws ≤ 2 * k) × (length ws % 2 ≡ 0)
  from_length zero v g ws g' (e, d) = let z : length ws ≡ 0 = ap (λ (x : List ℕ). length x) e in (omega (arith, z), omega (arith, z))
  from_length (suc k) v g ws g'' (xs, ys, g', e, st, h) = go (visits_length v g xs g' st) (from_length k (suc v) g' ys g'' h)
    where
      go : (length xs ≡ 0) ⊎ (length xs ≡ 2) → (length ys ≤ 2 * k) × (length ys % 2 ≡ 0) → (length ws ≤ 2 * suc k) × (length ws % 2 ≡ 0)
      go (inl z) (l, m) = let n : length ws ≡ length xs + length ys = ap (λ (x : List ℕ). length x) e ∙ length-append xs ys in (omega (arith, z, l, n), omega (arith, z, m, n))
      go (inr z) (l, m) = let n : length ws ≡ length xs + length ys = ap (λ (x : List ℕ). length x) e ∙ length-append xs ys in (omega (arith, z, l, n), omega (arith, z, m, n))

  -- A round has at most one choice for each thread of its start.
  pub round_length : (s : S) → (length (round count choose s).words ≤ 2 * count s) × (length (round count choose s).words % 2 ≡ 0)
  round_length s =
      let (g, h, e) = (round_is s (round count choose s).words (round count choose s).state).1 (refl, refl) in
      from_length (count s) 1 (begun count Step Wait s) (round count choose s).words g h

  -- An empty round: no choice can be done.

  abbrev pub Idle : S → Type 0
  Idle s = ((i p : ℕ) (s' : S) → Step s i p s' → ⊥) × ((i : ℕ) (s' : S) → Wait s i s' → ⊥)

  path_none : (s : S) → Idle s → (ws : List ℕ) (s' : S) → Path count Step Wait s ws s' → ws ≡ []
  path_none s (f, h) [] s' e = refl
  path_none s (f, h) (i ∷ []) s' e = absurd e
  path_none s (f, h) (i ∷ p ∷ ws) s' (t, inl st, e) = absurd (f i p t st)
  path_none s (f, h) (i ∷ p ∷ ws) s' (t, inr (z, st), e) = absurd (h i t st)

  -- a visit that adds nothing
  abbrev Nothing : S → ℕ → List Bool → Type 0
  Nothing s a ms =
      ((s' : S) → choose s (suc a) 0 ≡ steps s' → ⊥) × ((s' : S) → choose s (suc a) 0 ≡ waits s' → ⊥)
      × ((q : ℕ) → 1 ≤ q → q - 1 < length ms → get_or ms (q - 1) false ≡ false → is_step (choose s (suc a) q) ≡ false)

  cons_not : (x : ℕ) (xs : List ℕ) → x ∷ xs ≡ [] → ⊥
  cons_not x xs e = let z : suc (length xs) ≡ 0 = ap (λ (y : List ℕ). length y) e in omega (arith, z)

  halts_none : (o : Taken S) (n : ℕ) → o ≡ refuses n → (s' : S) → (o ≡ steps s') ⊎ (o ≡ waits s') → ⊥
  halts_none o n e s' (inl d) = let z : ◌≡◌ {A = ℕ} 0 1 = ap kind (sym e ∙ d) in omega (arith, z)
    where
      kind : Taken S → ℕ
      kind (refuses n) = 0
      kind (waits s) = 1
      kind (steps s) = 1
  halts_none o n e s' (inr d) = let z : ◌≡◌ {A = ℕ} 0 1 = ap kind (sym e ∙ d) in omega (arith, z)
    where
      kind : Taken S → ℕ
      kind (refuses n) = 0
      kind (waits s) = 1
      kind (steps s) = 1

  view_nothing : (s : S) (a : ℕ) (ms : List Bool) (o : Visited S) → View count choose s a ms o → (ws : List ℕ) → (going count choose s a ms o).words ++ ws ≡ []
      → Nothing s a ms × (o ≡ nothing_done) × (ws ≡ [])
  view_nothing s a ms o (steps_alone s' e) ws z = absurd (cons_not (suc a) (0 ∷ ws) z)
  view_nothing s a ms o (waits_alone s' e) ws z = absurd (cons_not (suc a) (0 ∷ ws) z)
  view_nothing s a ms o (meets_first n p s' e l h m c f) ws z = absurd (cons_not (suc a) (p ∷ ws) z)
  view_nothing s a ms o (does_nothing n e f) ws z =
      ((λ s' d. halts_none (choose s (suc a) 0) n e s' (inl d), λ s' d. halts_none (choose s (suc a) 0) n e s' (inr d), f), refl, z)

  from_nothing : (k a : ℕ) (ms : List Bool) (s : S) → (from k a ms s).words ≡ [] → (b : ℕ) → a ≤ b → b < a + k → Nothing s b ms
  unfolding round_from visit
  from_nothing zero a ms s e b l h = let never : ⊥ = omega (arith, l, h) in absurd never
  from_nothing (suc k) a ms s e b l h =
      let o : Visited S = visited count choose s a ms in
      let x : Going S = visit count choose s a ms in
      let (f, c, d) = view_nothing s a ms o (view count choose s a ms) (from k x.place x.marks x.state).words e in
      let r : (from k (suc a) ms s).words ≡ [] = ap (λ (y : Visited S). (from k (going count choose s a ms y).place (going count choose s a ms y).marks (going count choose s a ms y).state).words) (sym c) ∙ d in
      go (eqb b a) refl f (λ m. from_nothing k (suc a) ms s r b m (omega (arith, h)))
    where
      go : (c : Bool) → eqb b a ≡ c → Nothing s a ms → (suc a ≤ b → Nothing s b ms) → Nothing s b ms
      go true t f g = subst (λ (y : ℕ). Nothing s y ms) (sym (eqb-true b a t)) f
      go false t f g = let z : b ≡ a → ⊥ = eqb-false b a t in g (omega (arith, z, l))

  -- A round is empty exactly if no choice can be done.
  pub round_empty : (s : S) → ((round count choose s).words ≡ []) ↔ Idle s
  unfolding round
  round_empty s = (λ e. (no_step e, no_wait e), λ h. path_none s h (round count choose s).words (round count choose s).state (round_path s))
    where
      ms : List Bool
      ms = replicate (count s) false

      at : (round count choose s).words ≡ [] → (i : ℕ) → 1 ≤ i → i ≤ count s → Nothing s (i - 1) ms
      at e i l h = from_nothing (count s) 0 ms s e (i - 1) (omega arith) (omega (arith, l, h))

      no_wait : (round count choose s).words ≡ [] → (i : ℕ) (s' : S) → Wait s i s' → ⊥
      no_wait e i s' st =
          let (l, h) = W.wait_counted s i s' st in
          let z : i ≡ suc (i - 1) = omega (arith, l) in
          (at e i l h).1 s' ((W.waiting s (suc (i - 1)) s').1 (subst (λ (x : ℕ). Wait s x s') z st))

      two : (round count choose s).words ≡ [] → (i p : ℕ) (s' : S) → Step s i p s' → (b : Bool) → eqb p 0 ≡ b → ⊥
      two e i p s' st true t =
          let (l, h, m) = W.counted s i p s' st in
          let z : i ≡ suc (i - 1) = omega (arith, l) in
          let y : p ≡ 0 = eqb-true p 0 t in
          (at e i l h).0 s' ((W.stepped s (suc (i - 1)) 0 s').1 (subst (λ (x : ℕ). Step s (suc (i - 1)) x s') y (subst (λ (x : ℕ). Step s x p s') z st)))
      two e i p s' st false t =
          let (l, h, m) = W.counted s i p s' st in
          let z : i ≡ suc (i - 1) = omega (arith, l) in
          let y : p ≡ 0 → ⊥ = eqb-false p 0 t in
          let n : length ms ≡ count s = length-replicate (count s) false in
          let f : is_step (choose s (suc (i - 1)) p) ≡ false = (at e i l h).2 p (omega (arith, y)) (omega (arith, y, m, n)) (get_or-replicate (count s) (p - 1) false false (omega (arith, y, m))) in
          false≢true (sym f ∙ ap is_step ((W.stepped s (suc (i - 1)) p s').1 (subst (λ (x : ℕ). Step s x p s') z st)))

      no_step : (round count choose s).words ≡ [] → (i p : ℕ) (s' : S) → Step s i p s' → ⊥
      no_step e i p s' st = two e i p s' st (eqb p 0) refl
