-- Tables of states that no choice leads out of, over any states and choices.
use Rattle.std.specs.Prelude.{ℕ, suc, ◌≤◌, ◌<◌, ◌≡◌, ◌⊎◌, List, [], ◌∷◌}
use Rattle.rounds.specs.Round.{Taken, refuses, waits, steps}

-- what holds of the state that a choice leads to, where it is not refused
abbrev pub LeadsTo : {S : Type 0} → (S → Type 0) → Taken S → Type 0
LeadsTo P (refuses n) = Unit {0}
LeadsTo P (waits s) = P s
LeadsTo P (steps s) = P s

-- a choice is done, and leads to this state
abbrev pub Yields : {S : Type 0} → Taken S → S → Type 0
Yields (refuses n) t = ⊥
Yields (waits s) t = s ≡ t
Yields (steps s) t = s ≡ t

abbrev pub Refuses : {S : Type 0} → Taken S → Type 0
Refuses (refuses n) = Unit {0}
Refuses (waits s) = ⊥
Refuses (steps s) = ⊥

abbrev pub after_choice : {S : Type 0} → S → Taken S → (S → S) → S
after_choice s (refuses n) go = s
after_choice s (waits t) go = go t
after_choice s (steps t) go = go t

module _ {S : Type 0} (choose : S → ℕ → ℕ → Taken S) where
  -- the state after a list of choices, two words each, up to the first that is refused
  unfoldable pub state_after : S → List ℕ → S
  state_after s [] = s
  state_after s (i ∷ []) = s
  state_after s (i ∷ p ∷ ws) = after_choice s (choose s i p) (λ t. state_after t ws)

  -- a list of choices, none of them refused, leads from s to t
  abbrev pub Path : S → List ℕ → S → Type 0
  Path s [] t = s ≡ t
  Path s (i ∷ []) t = ⊥
  Path s (i ∷ p ∷ ws) t = (u : S) × Yields (choose s i p) u × Path u ws t

  module _ (threads : S → ℕ) (rows : ℕ → S) (n : ℕ) where
    -- the state is one of the n rows
    abbrev pub IsRow : S → Type 0
    IsRow s = (k : ℕ) × (k < n) × (s ≡ rows k)

    -- no choice leads from row j out of the table; and none of those that name threads of row j, which are all that a
    -- check can try
    abbrev pub ClosedAt : ℕ → Type 0
    ClosedAt j = (i p : ℕ) → LeadsTo IsRow (choose (rows j) i p)

    abbrev pub TriedAt : ℕ → Type 0
    TriedAt j = (i p : ℕ) → 1 ≤ i → i ≤ threads (rows j) → p ≤ threads (rows j) → LeadsTo IsRow (choose (rows j) i p)

    -- each row but the first is what a choice in an earlier one yields
    abbrev pub Generated : Type 0
    Generated = (j : ℕ) → suc j < n → (q i p : ℕ) × (q ≤ j) × Yields (choose (rows q) i p) (rows (suc j))

    -- the first row is the start, and no choice leads out of the table
    pub record Closed (s : S) : Type 0 where
      pub some : 0 < n
      pub first : s ≡ rows 0
      pub tried : (j : ℕ) → j < n → TriedAt j

  -- a choice is refused where it names a thread that there is none of
  abbrev pub RefusesUnknown : (S → ℕ) → Type 0
  RefusesUnknown threads = (s : S) (i p : ℕ) → ((i ≡ 0) ⊎ ((threads s < i) ⊎ (threads s < p))) → Refuses (choose s i p)
