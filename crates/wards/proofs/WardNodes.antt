-- In words: the nodes of a session counted from its own root are those of its tree written from 0, wherever the session stands in its file.
use Prim.Native.Nat.{ℕ, suc, ◌+◌, ◌-◌, ◌<◌}
use mathlib.Core.Path.{◌≡◌, refl, sym, ap, ap₂, ◌∙◌}
use mathlib.Core.List.{List, [], ◌∷◌, map}
use native.Mathlib.Omega.{arith}
use lib.ListN.{length, get_or, take, drop, length-map, get_or-map}
use lib.Seq.{take-append_seam, drop-cons}
use Rattle.format.specs.Contents.{Contents, no_session, contents_of}
use Rattle.format.specs.declared.Node.{Node}
use Rattle.format.specs.declared.Session.{Session}
use Rattle.placing.specs.Placing.{placing, placed_bytes}
use Rattle.placing_at.specs.PlaceAt.{placing_at, placed_bytes_at}
use Rattle.reading_exact.specs.Tree.{Step, repeat, new, compare, receive, send, Switch, on, off, Tree, end, fork, step, switch, words, step_node, switch_node, past, write, flatten}
use Rattle.reading_exact.specs.Lists.{All}
use Rattle.reading_exact.specs.File.{Routine, File, InCount, rooted, encode, ReadsAs}
use Rattle.reading_exact.proofs.TreeEnds.{past_length, write_before}
use Rattle.reading_exact.proofs.Standing.{roots_of, flatten_from}
use Rattle.reading_exact.proofs.FileContents.{trees_of, roots_rooted, contents_back}
use Rattle.placing_exact.specs.Placement.{graft}
use Rattle.placing_exact.specs.Placed.{placed_trees}
use Rattle.placing_exact.specs.Promised.{no_routine, session}
use Rattle.placing_exact.proofs.FormedTrees.{grafted_length}
use Rattle.hours_exact.specs.OpenFile.{open_file}
use Rattle.merging_exact.proofs.MergedFormed.{past_anywhere}
use Rattle.wards.specs.Ward.{SameWard, counted, from_root}
use Rattle.wards.proofs.WardLabels.{tables_with}
use Rattle.wards.proofs.Wards.{placed_data, placed_data_at, isolated, isolated_at}

step_counted : (r : ℕ) (s : Step) → counted r (step_node s) ≡ step_node s
unfolding counted
step_counted r repeat = refl
step_counted r (new k) = refl
step_counted r (compare a b) = refl
step_counted r (receive c) = refl
step_counted r (send c v) = refl

switch_counted : (r : ℕ) (w : Switch) (x : ℕ) → counted r (switch_node w x) ≡ switch_node w x
unfolding counted
switch_counted r on x = refl
switch_counted r off x = refl

counted_write : (r i : ℕ) (t : Tree) (ns : List Node) → map (counted r) (write (r + i) t ns) ≡ write i t (map (counted r) ns)
unfolding write counted
counted_write r i end ns = refl
counted_write r i (fork a b) ns =
    let e : suc (r + i) ≡ r + suc i = omega arith in
    let p : past (suc (r + i)) a ≡ r + past (suc i) a = omega (arith, past_anywhere (suc (r + i)) (suc i) a) in
    let q : r + past (suc i) a - r ≡ past (suc i) a = omega arith in
    ap₂ {C = List Node} (λ (h x : ℕ). words 1 (x - r) 0 ∷ map (counted r) (write h a (write x b ns))) e p
    ∙ ap₂ {C = List Node} (λ (x : ℕ) (l : List Node). words 1 x 0 ∷ l) q
    (counted_write r (suc i) a (write (r + past (suc i) a) b ns) ∙ ap (write (suc i) a) (counted_write r (past (suc i) a) b ns))
counted_write r i (step s t) ns =
    let e : suc (r + i) ≡ r + suc i = omega arith in
    ap₂ {C = List Node} (λ (n : Node) (h : ℕ). n ∷ map (counted r) (write h t ns)) (step_counted r s) e
    ∙ ap {B = List Node} (λ l. step_node s ∷ l) (counted_write r (suc i) t ns)
counted_write r i (switch w x t) ns =
    let e : suc (r + i) ≡ r + suc i = omega arith in
    ap₂ {C = List Node} (λ (n : Node) (h : ℕ). n ∷ map (counted r) (write h t ns)) (switch_counted r w x) e
    ∙ ap {B = List Node} (λ l. switch_node w x ∷ l) (counted_write r (suc i) t ns)

-- a session's nodes stand at its root
write_there : (at : ℕ) (ss : List Routine) (i : ℕ) → i < length ss
    → take (past 0 (get_or ss i no_routine).tree) (drop ((get_or (rooted at ss) i no_session).root - at) (flatten at (trees_of ss)))
    ≡ write (get_or (rooted at ss) i no_session).root (get_or ss i no_routine).tree []
unfolding flatten
write_there at ss i l =
    let ts : List Tree = trees_of ss in
    let t : Tree = (get_or ss i no_routine).tree in
    let r : ℕ = (get_or (rooted at ss) i no_session).root in
    let more : List Node = flatten (past r t) (drop (suc i) ts) in
    let due : r ≡ get_or (roots_of at ts) i 0 =
    sym (get_or-map (λ (s : Session). s.root) (rooted at ss) i no_session) ∙ ap (λ (rs : List ℕ). get_or rs i 0) (roots_rooted at ss) in
    let in-trees : i < length ts = omega (arith, length-map ss (λ (s : Routine). s.tree)) in
    let this : get_or ts i end ≡ t = get_or-map (λ (s : Routine). s.tree) ss i no_routine in
    let long : past 0 t ≡ length (write r t []) = omega (arith, past_length r t [], past_anywhere r 0 t) in
    let from : drop i ts ≡ t ∷ drop (suc i) ts = rw (drop-cons ts i end in-trees, this) in
    let stands : drop (r - at) (flatten at ts) ≡ flatten r (drop i ts) = rw due (flatten_from at ts i in-trees).1 in
    rw (stands, from, long, write_before r t [] more, take-append_seam)

-- and counted from it are the tree's own
pub from_root_lem : (P : File) (g : List ℕ) → encode P ≡ g → (i : ℕ) → InCount (length P.sessions) i
    → from_root (contents_of g) i (past 0 (session P i).tree) ≡ write 0 (session P i).tree []
unfolding from_root
from_root_lem P g x i c =
    let ss : List Routine = P.sessions in
    let t : Tree = (session P i).tree in
    let r : ℕ = (get_or (rooted 1 ss) (i - 1) no_session).root in
    let e : r ≡ r + 0 = omega arith in
    ap (λ (C : Contents). map (counted (get_or C.sessions (i - 1) no_session).root) (take (past 0 t) (drop ((get_or C.sessions (i - 1) no_session).root - 1) C.nodes)))
    (ap (λ (b : List ℕ). contents_of b) (sym x) ∙ contents_back P)
    ∙ ap (map (counted r)) (write_there 1 ss (i - 1) (omega (arith, c.0, c.1)) ∙ ap (λ (y : ℕ). write y t []) e)
    ∙ counted_write r 0 t []

-- of two sessions with the same tree, the words that stand in two files' bytes
pub same_words : (P Q : File) (f g : List ℕ) → encode P ≡ f → encode Q ≡ g → (i j : ℕ) → InCount (length P.sessions) i → InCount (length Q.sessions) j
    → (session P i).tree ≡ (session Q j).tree
    → from_root (contents_of f) i (past 0 (session P i).tree) ≡ from_root (contents_of g) j (past 0 (session P i).tree)
same_words P Q f g x y i j c d same =
    from_root_lem P f x i c ∙ ap (λ (t : Tree). write 0 t []) same ∙ sym (from_root_lem Q g y j d) ∙ ap (λ (t : Tree). from_root (contents_of g) j (past 0 t)) (sym same)

-- as many sessions are placed as the file has
still_in : (us : List ℕ) (F P : File) → P ≡ graft F (placed_trees (tables_with us F) F.sessions) → (i : ℕ) → InCount (length F.sessions) i → InCount (length P.sessions) i
still_in us F P e i (a, b) = (a, omega (arith, b, ap (λ (H : File). length H.sessions) e, grafted_length (tables_with us F) F.sessions))

-- so many node words, from the session's root on and counted from it, of what two files are placed as
abbrev pub SameNodes : List ℕ → ℕ → List ℕ → ℕ → ℕ → Type 0
SameNodes f i g j size = from_root (contents_of f) i size ≡ from_root (contents_of g) j size

module _ (f g : List ℕ) (F-bytes : All (λ b. b < 256) f) (G-bytes : All (λ b. b < 256) g) (F G : File) (d : ReadsAs f F) (e : ReadsAs g G) (i j : ℕ) (S : SameWard F G i j) (P Q : File) where
  pub isolated_words : (room space : ℕ) → (placing f room).number ≡ 0 → (placing g space).number ≡ 0 → encode P ≡ placed_bytes f → encode Q ≡ placed_bytes g
      → SameNodes (placed_bytes f) i (placed_bytes g) j (past 0 (session P i).tree)
  isolated_words room space p q x y =
      same_words P Q (placed_bytes f) (placed_bytes g) x y i j
      (still_in F.users F P (placed_data f F-bytes F d P room p x) i S.here) (still_in G.users G Q (placed_data g G-bytes G e Q space q y) j S.there)
      (isolated f g F-bytes G-bytes F G d e i j S P Q room space p q x y).0

  pub isolated_words_at : (t : List ℕ) (m room space : ℕ) → (placing_at f t m room).number ≡ 0 → (placing_at g t m space).number ≡ 0
      → encode P ≡ placed_bytes_at f t m → encode Q ≡ placed_bytes_at g t m → SameNodes (placed_bytes_at f t m) i (placed_bytes_at g t m) j (past 0 (session P i).tree)
  isolated_words_at t m room space p q x y =
      same_words P Q (placed_bytes_at f t m) (placed_bytes_at g t m) x y i j
      (still_in (open_file t m F).users F P (placed_data_at f F-bytes F d P t m room p x) i S.here)
      (still_in (open_file t m G).users G Q (placed_data_at g G-bytes G e Q t m space q y) j S.there)
      (isolated_at f g F-bytes G-bytes F G d e i j S P Q t m room space p q x y).0
