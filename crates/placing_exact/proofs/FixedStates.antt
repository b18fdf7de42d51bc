-- The tie rule fixes one list of states, and it is the one taken.
use Prim.Native.Nat.{ℕ}
use mathlib.Core.Path.{◌≡◌, refl, ap, ap₂}
use mathlib.Core.Logic.{inl, inr}
use mathlib.Core.Bool.{true}
use mathlib.Core.List.{List, [], ◌∷◌}
use native.Mathlib.Omega.{arith}
use lib.ListN.{get_or, drop}
use Rattle.rules.specs.Schema.{Schema}
use Rattle.optimum.specs.Optimum.{Bin, nil, node, States, listed, LexLe}
use Rattle.reading_exact.specs.File.{Routine, File, WellFormed}
use Rattle.checking_exact.specs.Tables.{schema_for}
use Rattle.checking_exact.specs.Typing.{WellKinded}
use Rattle.placing_exact.specs.Placement.{on_steps_of}
use Rattle.placing_exact.specs.Idle.{idle_in}
use Rattle.placing_exact.specs.Placed.{labels, placed_trees, AllStates, listed_all, insert_all, taking_all, served_all, Bare, Fixed}
use Rattle.placing_exact.proofs.AllowedStates.{allowed_stated}
use Rattle.placing_exact.proofs.FilePlaced.{states_allowed, least, states_idle, smallest}
use Rattle.placing_exact.proofs.GroupSessions.{placed_inserted}

-- of two lists neither is smaller than the other only where they are the same
lex_both : (x y : List ℕ) → LexLe x y → LexLe y x → x ≡ y
lex_both [] [] h k = refl
lex_both [] (y ∷ ys) h k = absurd k
lex_both (x ∷ xs) [] h k = absurd h
lex_both (x ∷ xs) (y ∷ ys) (inl l) (inl m) = absurd (omega (arith, l, m))
lex_both (x ∷ xs) (y ∷ ys) (inl l) (inr (e, m)) = absurd (omega (arith, l, e))
lex_both (x ∷ xs) (y ∷ ys) (inr (e, m)) (inl l) = absurd (omega (arith, l, e))
lex_both (x ∷ xs) (y ∷ ys) (inr (e, l)) (inr (_, m)) = ap₂ {C = List ℕ} (λ z zs. z ∷ zs) e (lex_both xs ys l m)

-- the states are known from their list
listed_single : {N : Type 0} (t : Bin N) (a b : States t) (x y : List ℕ) → listed t a x ≡ listed t b y → (a ≡ b) × (x ≡ y)
unfolding listed
listed_single nil a b x y e = (refl, e)
listed_single (node n l r) a b x y e =
    let head : a.0 ≡ b.0 = ap (λ (z : List ℕ). get_or z 0 0) e in
    let (p, more) = listed_single l a.1 b.1 (listed r a.2 x) (listed r b.2 y) (ap (λ (z : List ℕ). drop 1 z) e) in
    let (q, rest) = listed_single r a.2 b.2 x y more in
    (λ i. (head i, p i, q i), rest)

all_single : (D : Schema) (ss : List Routine) (a b : AllStates D ss) → listed_all D ss a ≡ listed_all D ss b → a ≡ b
unfolding listed_all
all_single D [] a b e = refl
all_single D (s ∷ ss) a b e =
    let (p, more) = listed_single (labels D s.user [] s.tree) a.0 b.0 (listed_all D ss a.1) (listed_all D ss b.1) e in
    let q : a.1 ≡ b.1 = all_single D ss a.1 b.1 more in
    λ i. (p i, q i)

-- there is at most one list of states by the rule
pub fixed_single : (F : File) (a b : AllStates (schema_for F) F.sessions) → Fixed F a → Fixed F b → a ≡ b
fixed_single F a b h k =
    all_single (schema_for F) F.sessions a b
    (lex_both _ _ (h.smallest b k.allowed (k.fewest a h.allowed) (k.least_idle a h.allowed (h.fewest b k.allowed)))
    (k.smallest a h.allowed (h.fewest b k.allowed) (h.least_idle b k.allowed (k.fewest a h.allowed))))

-- and where each send and receive has a role it is the one taken
pub taking_fixed : (F : File) → WellFormed F → WellKinded F → Bare F → served_all (schema_for F) F.sessions ≡ true → Fixed F (taking_all (schema_for F) F.sessions)
taking_fixed F W N B served =
    let D : Schema = schema_for F in
    let same : placed_trees D F.sessions ≡ insert_all D F.sessions (taking_all D F.sessions) = placed_inserted D F.sessions in
    let steps : on_steps_of (placed_trees D F.sessions) ≡ on_steps_of (insert_all D F.sessions (taking_all D F.sessions)) = ap on_steps_of same in
    let idles : idle_in F (placed_trees D F.sessions) ≡ idle_in F (insert_all D F.sessions (taking_all D F.sessions)) = ap (idle_in F) same in
    record {
      allowed = (allowed_stated F W N (taking_all D F.sessions)).0 (states_allowed F W N B served);
      fewest = λ other h. omega (arith, steps, least F W N B other ((allowed_stated F W N other).1 h));
      least_idle = λ other h l. omega (arith, idles, states_idle F W N B other ((allowed_stated F W N other).1 h) (omega (arith, steps, l)));
      smallest = λ other h l k. smallest F W N B served other ((allowed_stated F W N other).1 h) (omega (arith, steps, l)) (omega (arith, idles, k));
    }
