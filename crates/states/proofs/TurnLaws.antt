-- The turns: as many as nodes, states 16 at most, whole again when they are unpacked, and the ones that are read from what is kept.
use Prim.Native.Nat.{ℕ, suc, ◌+◌, ◌*◌, ◌/◌, ◌%◌, ◌≤◌}
use mathlib.Core.Path.{◌≡◌, refl, ap, ap₂, ◌∙◌}
use mathlib.Core.List.{List, [], ◌∷◌, ◌++◌, map}
use native.Mathlib.Omega.{arith}
use lib.ListN.{length}
use lib.Seq.{sets}
use Rattle.format.specs.declared.Node.{Node}
use Rattle.optimum.proofs.Optimal.{scan_least}
use Rattle.format.specs.Stacks.{top, rest}
use Rattle.states.specs.States.{Label, cost, taken, below, rows, states_after, turns_from, turns_of, labelled, packed, unpacked}
use Rattle.states.specs.Kept.{Served, word_of, saving, savings, kept_all, state_after, followed}
use Rattle.states.specs.declared.Turn.{Turn}
use Rattle.states.proofs.AgreeLaws.{Roled, agrees, after_taken}
use Rattle.states.proofs.PassLaws.{Under, under_top, under_onward}

pub taken_within : (l : Label) (kids : ℕ → ℕ) (p : ℕ) → taken l kids p ≤ 16
unfolding taken
taken_within l kids p = (scan_least 16 (λ s. cost p l s + kids s)).within

-- as many as nodes
from_length : (ls : List Label) (st : List ℕ) → length (turns_from ls st) ≡ length ls
unfolding turns_from
from_length [] st = refl
from_length (l ∷ ls) st = ap suc (from_length ls (states_after l.tag (taken l (below l.tag (rows ls)) (top st)) (rest st)))

pub turns_length : (ls : List Label) → length (turns_of ls) ≡ length ls
unfolding turns_of
turns_length ls = from_length ls []

-- no state is above 16
unfoldable pub SmallTurns : List Turn → Type 0
SmallTurns [] = Unit {0}
SmallTurns (t ∷ ts) = (t.from ≤ 16) × (t.to ≤ 16) × SmallTurns ts

from_small : (ls : List Label) (st : List ℕ) → Under 16 st → SmallTurns (turns_from ls st)
unfolding turns_from SmallTurns
from_small [] st h = tt
from_small (l ∷ ls) st h =
    let s : ℕ = taken l (below l.tag (rows ls)) (top st) in
    let le : s ≤ 16 = taken_within l (below l.tag (rows ls)) (top st) in
    (under_top 16 st h, le, from_small ls (states_after l.tag s (rest st)) (under_onward 16 l.tag s st le h))

pub turns_small : (ls : List Label) → SmallTurns (turns_of ls)
unfolding turns_of Under
turns_small ls = from_small ls [] tt

-- packed and unpacked
unpack_pack : (t : Turn) → t.from ≤ 16 → unpacked (packed t) ≡ t
unpack_pack t h =
    let low : (t.from + 256 * t.to) % 256 ≡ t.from = omega arith in
    let high : (t.from + 256 * t.to) / 256 ≡ t.to = omega arith in
    rw (low, high)

pub small_unpacked : (ts : List Turn) → SmallTurns ts → map unpacked (map packed ts) ≡ ts
unfolding SmallTurns
small_unpacked [] h = refl
small_unpacked (t ∷ ts) h = ap₂ ◌∷◌ (unpack_pack t h.0) (small_unpacked ts h.2)

pub turns_unpacked : (ls : List Label) → map unpacked (map packed (turns_of ls)) ≡ turns_of ls
turns_unpacked ls = small_unpacked (turns_of ls) (turns_small ls)

-- read from what is kept
follows_from : (ns : List Node) (rs ends st : List ℕ) → length ns ≤ length rs → Roled (labelled ns rs) → Served (labelled ns rs) → Under 16 st
    → followed ns (kept_all (labelled ns rs) ++ ends) st ≡ turns_from (labelled ns rs) st
unfolding followed labelled kept_all turns_from Roled Served
follows_from [] rs ends st h f s u = refl
follows_from (n ∷ ns) [] ends st h f s u = let no_way : ⊥ = omega arith in absurd no_way
follows_from (n ∷ ns) (r ∷ rs) ends st h f s u =
    let l : Label = record { tag = n.tag; roles = r } in
    let ls : List Label = labelled ns rs in
    let kids : ℕ → ℕ = below n.tag (rows ls) in
    let e : state_after (word_of n.tag r (saving (savings ls)) (saving (rest (savings ls)))) (top st) ≡ taken l kids (top st) =
    after_taken l (savings ls) (rows ls) f.0 s.0 (agrees ls f.1 s.1) (top st) (under_top 16 st u) in
    let t : ℕ = taken l kids (top st) in
    ap (λ x. record { from = top st; to = x } ∷ followed ns (kept_all ls ++ ends) (states_after n.tag x (rest st))) e
    ∙ ap (record { from = top st; to = t } ∷◌) (follows_from ns rs ends (states_after n.tag t (rest st)) (omega arith) f.1 s.1 (under_onward 16 n.tag t st (taken_within l kids (top st)) u))

pub finish : (turns rs kept ends : List ℕ) (ns : List Node) → kept ≡ kept_all (labelled ns rs) ++ ends → length ns ≤ length rs → Roled (labelled ns rs) → Served (labelled ns rs)
    → sets turns 1 (map packed (followed ns kept [])) ≡ sets turns 1 (map packed (turns_of (labelled ns rs)))
unfolding turns_of Under
finish turns rs kept ends ns e h f s = ap (λ ts. sets turns 1 (map packed ts)) (ap (λ k. followed ns k []) e ∙ follows_from ns rs ends [] h f s tt)
