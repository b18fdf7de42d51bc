-- The groups: how many nodes they have, and where each starts.
use Prim.Native.Nat.{ℕ, zero, suc, ◌+◌, ◌≤◌}
use mathlib.Core.Path.{◌≡◌, refl, ap, ◌∙◌}
use mathlib.Core.List.{List, [], ◌∷◌}
use native.Mathlib.Omega.{arith}
use lib.ListN.{length, get_or, set, replicate, length-append}
use lib.Seq.{sets}
use Rattle.format.specs.Contents.{Contents}
use Rattle.format.specs.declared.Session.{Session}
use Rattle.format.specs.declared.Node.{Node}
use Rattle.states.specs.declared.Turn.{Turn}
use Rattle.states.proofs.AgreeLaws.{zeros}
use Rattle.groups.specs.Groups.{before, size_of, sizes_of, starts_from, starts_of, moved, groups_from, sessions_from, placed_contents}

pub groups_length : (starts : List ℕ) (ns : List Node) (ts : List Turn) → length ns ≡ length ts → length (groups_from starts ns ts) ≡ sizes_of ts
unfolding groups_from sizes_of
groups_length starts [] [] e = refl
groups_length starts [] (t ∷ ts) e = let none : ⊥ = omega arith in absurd none
groups_length starts (n ∷ ns) [] e = let none : ⊥ = omega arith in absurd none
groups_length starts (n ∷ ns) (t ∷ ts) e =
    let later : length (groups_from starts ns ts) ≡ sizes_of ts = groups_length starts ns ts (omega arith) in
    length-append (before t) (moved starts n ∷ groups_from starts ns ts) ∙ omega (arith, later)

pub starts_length : (at : ℕ) (ts : List Turn) → length (starts_from at ts) ≡ length ts
unfolding starts_from
starts_length at [] = refl
starts_length at (t ∷ ts) = ap suc (starts_length (at + size_of t) ts)

pub sessions_length : (starts : List ℕ) (ss : List Session) → length (sessions_from starts ss) ≡ length ss
unfolding sessions_from
sessions_length starts [] = refl
sessions_length starts (s ∷ ss) = ap suc (sessions_length starts ss)

-- a placed file depends on the starts only through what is looked up in them
groups_same : (s s' : List ℕ) (ns : List Node) (ts : List Turn) → ((x : ℕ) → get_or s x 0 ≡ get_or s' x 0) → groups_from s ns ts ≡ groups_from s' ns ts
unfolding groups_from
groups_same s s' [] ts e = refl
groups_same s s' (n ∷ ns) [] e = refl
groups_same s s' (n ∷ ns) (t ∷ ts) e = rw (e n.f1, groups_same s s' ns ts e)

sessions_same : (s s' : List ℕ) (ss : List Session) → ((x : ℕ) → get_or s x 0 ≡ get_or s' x 0) → sessions_from s ss ≡ sessions_from s' ss
unfolding sessions_from
sessions_same s s' [] e = refl
sessions_same s s' (t ∷ ss) e = rw (e t.root, sessions_same s s' ss e)

pub placed_same : (C : Contents) (ts : List Turn) (s s' : List ℕ) → ((x : ℕ) → get_or s x 0 ≡ get_or s' x 0) → placed_contents C ts s ≡ placed_contents C ts s'
placed_same C ts s s' e = rw (sessions_same s s' C.sessions e, groups_same s s' C.nodes ts e)

-- a run of stores into a table of zeros
sets_past : (a : ℕ) (l : List ℕ) (i : ℕ) (vs : List ℕ) → sets (a ∷ l) (suc i) vs ≡ a ∷ sets l i vs
sets_past a l i [] = refl
sets_past a l i (v ∷ vs) = sets_past a (set l i v) (suc i) vs

stored : (vs : List ℕ) (n x : ℕ) → length vs ≤ n → get_or (sets (replicate n 0) 0 vs) x 0 ≡ get_or vs x 0
stored [] n x h = zeros n x
stored (v ∷ vs) zero x h = let none : ⊥ = omega arith in absurd none
stored (v ∷ vs) (suc n) zero h = rw (sets_past v (replicate n 0) 0 vs)
stored (v ∷ vs) (suc n) (suc x) h = rw (sets_past v (replicate n 0) 0 vs) (stored vs n x (omega arith))

table : (vs : List ℕ) (n x : ℕ) → length vs ≤ n → get_or (sets (replicate (suc n) 0) 1 vs) x 0 ≡ get_or (0 ∷ vs) x 0
table vs n zero h = rw (sets_past 0 (replicate n 0) 0 vs)
table vs n (suc x) h = rw (sets_past 0 (replicate n 0) 0 vs) (stored vs n x h)

pub starts_table : (ts : List Turn) → length ts ≤ 1024 → (x : ℕ) → get_or (sets (replicate 1025 0) 1 (starts_from 1 ts)) x 0 ≡ get_or (starts_of ts) x 0
starts_table ts h x = table (starts_from 1 ts) 1024 x (omega (arith, starts_length 1 ts))
