-- Rounds as a relation, in the words of document 02: over the threads' numbers at the round's start, 0 for a thread made meanwhile, and the set of those that
-- have moved.
use Rattle.std.specs.Prelude.{ℕ, zero, suc, ◌-◌, ◌≤◌, ◌<◌, ◌≡◌, ◌⊎◌, cond, List, [], ◌∷◌, ◌++◌, ltb, get_or, take, drop}

abbrev pub In : ℕ → List ℕ → Type 0
In x [] = ⊥
In x (y ∷ ys) = (x ≡ y) ⊎ In x ys

-- a state in the midst of a round; for each thread in list order its label; the labels of those that moved
pub record RoundState (S : Type 0) : Type 0 where
  pub state : S
  pub labels : List ℕ
  pub moved : List ℕ

-- the thread i, in list order, is the one that had the number v at the round's start
abbrev pub Here : {S : Type 0} → RoundState S → ℕ → ℕ → Type 0
Here g v i = (1 ≤ v) × (1 ≤ i) × (get_or g.labels (i - 1) 0 ≡ v)

-- the labels after a step of thread i: a list that got shorter has lost that thread; one that got longer has a new last thread, made meanwhile
abbrev pub relabelled : ℕ → ℕ → ℕ → List ℕ → List ℕ
relabelled before after i ls = cond (ltb after before) (take (i - 1) ls ++ drop i ls) (cond (ltb before after) (ls ++ (0 ∷ [])) ls)

-- the numbers from v on
unfoldable pub numbers : ℕ → ℕ → List ℕ
numbers v zero = []
numbers v (suc k) = v ∷ numbers (suc v) k

-- over any states, with the choices that are steps, and those of a lone thread that are done and are no step
module _ {S : Type 0} (count : S → ℕ) (Step : S → ℕ → ℕ → S → Type 0) (Wait : S → ℕ → S → Type 0) where
  -- the visit of the thread that had the number v at the round's start, the choice that it adds to the round, and what it leaves
  pub data Visits (v : ℕ) (g : RoundState S) : List ℕ → RoundState S → Type 0 where
    -- its lone step, if it has one that is not refused
    lone : (i : ℕ) (s' : S) → Here g v i → Step g.state i 0 s'
        → Visits v g (i ∷ 0 ∷ []) (record { state = s'; labels = relabelled (count g.state) (count s') i g.labels; moved = v ∷ g.moved })
    -- it waits: in the round's list, and it has not moved
    wait : (i : ℕ) (s' : S) → Here g v i → Wait g.state i s'
        → Visits v g (i ∷ 0 ∷ []) (record { state = s'; labels = g.labels; moved = g.moved })
    -- a sender meets the first receiver in list order that it can meet, that was there at the start and has not moved
    meet : (i p u : ℕ) (s' : S) → Here g v i → Here g u p → (In u g.moved → ⊥) → Step g.state i p s'
        → ((q w : ℕ) (s'' : S) → q < p → Here g w q → (In w g.moved → ⊥) → Step g.state i q s'' → ⊥)
        → Visits v g (i ∷ p ∷ []) (record { state = s'; labels = g.labels; moved = v ∷ u ∷ g.moved })
    -- nothing of these
    nothing : (i : ℕ) → Here g v i → ((s' : S) → Step g.state i 0 s' → ⊥) → ((s' : S) → Wait g.state i s' → ⊥)
        → ((q w : ℕ) (s' : S) → Here g w q → (In w g.moved → ⊥) → Step g.state i q s' → ⊥)
        → Visits v g [] g

  -- the visits of k threads, from the number v on, in order
  abbrev pub VisitsFrom : ℕ → ℕ → RoundState S → List ℕ → RoundState S → Type 0
  VisitsFrom v zero g ws g' = (ws ≡ []) × (g ≡ g')
  VisitsFrom v (suc k) g ws g'' =
      (xs : List ℕ) × (ys : List ℕ) × (g' : RoundState S) × (ws ≡ xs ++ ys) × Visits v g xs g' × VisitsFrom (suc v) k g' ys g''

  -- at the start each thread has its own number, and none has moved
  abbrev pub begun : S → RoundState S
  begun s = record { state = s; labels = numbers 1 (count s); moved = [] }

  -- a round visits the threads present at its start in list order
  abbrev pub Rounds : S → List ℕ → S → Type 0
  Rounds s ws s' = (g : RoundState S) × VisitsFrom 1 (count s) (begun s) ws g × (g.state ≡ s')

  -- choices that are steps or wait, two words each
  abbrev pub Path : S → List ℕ → S → Type 0
  Path s [] s'' = s ≡ s''
  Path s (i ∷ []) s'' = ⊥
  Path s (i ∷ p ∷ ws) s'' = (s' : S) × (Step s i p s' ⊎ ((p ≡ 0) × Wait s i s')) × Path s' ws s''
