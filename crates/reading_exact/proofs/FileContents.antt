-- What a file holds: its sessions as records with a root word, and its trees as nodes. Records and trees give the file back.
use Prim.Native.Nat.{ℕ, suc}
use mathlib.Core.Path.{◌≡◌, refl, sym, ap, ap₂, ◌∙◌}
use mathlib.Core.Logic.{◌↔◌, ◌⊎◌, inl, inr}
use mathlib.Core.Bool.{Bool, true, false, cond}
use mathlib.Core.List.{List, [], ◌∷◌, map}
use native.Mathlib.Omega.{arith}
use lib.ListN.{length, length-map}
use borrow.Author.Tests.{eq-eqb, ne_eqb}
use Rattle.format.specs.Words.{bytes_of}
use Rattle.format.specs.Header.{has_juniors, nothing_planned, as_read, version_at}
use Rattle.format.specs.Sections.{by_column}
use Rattle.format.specs.Writing.{role_words, channel_words, session_words, node_rows, table_words, file_words, encoded}
use Rattle.format.specs.Contents.{Contents, tabled, contents_at, contents_of}
use Rattle.format.specs.declared.Head.{Head}
use Rattle.format.specs.declared.Role.{Role}
use Rattle.format.specs.declared.Session.{Session}
use Rattle.format.proofs.HeadLaws.{IsVersion}
use Rattle.reading_exact.specs.Lists.{All}
use Rattle.reading_exact.specs.Tree.{Tree, past, flatten}
use Rattle.reading_exact.specs.File.{Routine, Senior, Grants, first, second, third, version_of, roles_of, juniors_of, File, rooted, contents_for, encode, unplanned, ReadsAs, sent, nothing_sent}
use Rattle.reading_exact.proofs.NodeSorts.{flatten_single}
use Rattle.reading_exact.proofs.Standing.{roots_in, roots_of}
use Rattle.reading_exact.proofs.Places.{Formed, encoded_back}
use Rattle.reading_exact.proofs.SectionRows.{written_read, head_back}

abbrev pub trees_of : List Routine → List Tree
trees_of ss = map (λ (s : Routine). s.tree) ss

-- session records with trees for their roots
unfoldable pub routines : List Session → List Tree → List Routine
routines [] ts = []
routines (s ∷ ss) [] = []
routines (s ∷ ss) (t ∷ ts) = record { user = s.user; mask = s.mask; tree = t } ∷ routines ss ts

pub length_rooted : (at : ℕ) (ss : List Routine) → length (rooted at ss) ≡ length ss
unfolding rooted
length_rooted at [] = refl
length_rooted at (s ∷ ss) = ap suc (length_rooted (past at s.tree) ss)

pub roots_rooted : (at : ℕ) (ss : List Routine) → roots_in (rooted at ss) ≡ roots_of at (trees_of ss)
unfolding rooted roots_of
roots_rooted at [] = refl
roots_rooted at (s ∷ ss) = ap {B = List ℕ} (λ l. at ∷ l) (roots_rooted (past at s.tree) ss)

routines_rooted : (at : ℕ) (ss : List Routine) → routines (rooted at ss) (trees_of ss) ≡ ss
unfolding rooted routines
routines_rooted at [] = refl
routines_rooted at (s ∷ ss) = ap {B = List Routine} (λ l. s ∷ l) (routines_rooted (past at s.tree) ss)

pub trees_routines : (at : ℕ) (ss : List Session) (ts : List Tree) → roots_in ss ≡ roots_of at ts → trees_of (routines ss ts) ≡ ts
unfolding routines roots_of
trees_routines at [] [] e = refl
trees_routines at [] (t ∷ ts) e = let no : ◌≡◌ {A = ℕ} 0 1 = cc in absurd (omega arith)
trees_routines at (s ∷ ss) [] e = let no : ◌≡◌ {A = ℕ} 0 1 = cc in absurd (omega arith)
trees_routines at (s ∷ ss) (t ∷ ts) e = ap {B = List Tree} (λ l. t ∷ l) (trees_routines (past at t) ss ts (cc))

pub rooted_routines : (at : ℕ) (ss : List Session) (ts : List Tree) → roots_in ss ≡ roots_of at ts → rooted at (routines ss ts) ≡ ss
unfolding rooted routines roots_of
rooted_routines at [] [] e = refl
rooted_routines at [] (t ∷ ts) e = let no : ◌≡◌ {A = ℕ} 0 1 = cc in absurd (omega arith)
rooted_routines at (s ∷ ss) [] e = let no : ◌≡◌ {A = ℕ} 0 1 = cc in absurd (omega arith)
rooted_routines at (s ∷ ss) (t ∷ ts) e =
    let root : at ≡ s.root = cc in
    let first : ◌≡◌ {A = Session} (record { user = s.user; mask = s.mask; root = at }) s = (λ i. record { user = s.user; mask = s.mask; root = root i }) in
    ap₂ {C = List Session} (λ x l. x ∷ l) first (rooted_routines (past at t) ss ts (cc))

-- what holds of every user and mask holds in either form
pub all_rooted : (P : ℕ → ℕ → Type 0) (at : ℕ) (ss : List Routine)
    → All (λ s. P s.user s.mask) (rooted at ss) ↔ All (λ s. P s.user s.mask) ss
unfolding rooted
all_rooted P at [] = (λ h. tt, λ h. tt)
all_rooted P at (s ∷ ss) = let more = all_rooted P (past at s.tree) ss in (λ h. (h.0, more.0 h.1), λ h. (h.0, more.1 h.1))

pub all_trees : (P : Tree → Type 0) (ss : List Routine) → All P (trees_of ss) ↔ All (λ s. P s.tree) ss
all_trees P [] = (λ h. tt, λ h. tt)
all_trees P (s ∷ ss) = let more = all_trees P ss in (λ h. (h.0, more.0 h.1), λ h. (h.0, more.1 h.1))

-- roles with the masks of their juniors, one each
unfoldable pub seniors : List Role → List ℕ → List Senior
seniors [] js = []
seniors (r ∷ rs) [] = []
seniors (r ∷ rs) (j ∷ js) = record { own = r; juniors = j } ∷ seniors rs js

-- the roles by a version
abbrev pub grants_for : ℕ → List Role → List ℕ → Grants
grants_for v rs js = cond (has_juniors v) (cond (by_column v) (third (seniors rs js)) (second (seniors rs js))) (first rs)

seniors_back : (rs : List Senior) → seniors (roles_of (second rs)) (juniors_of (second rs)) ≡ rs
unfolding seniors
seniors_back [] = refl
seniors_back (r ∷ rs) = ap {B = List Senior} (λ l. r ∷ l) (seniors_back rs)

grants_back : (g : Grants) → grants_for (version_of g) (roles_of g) (juniors_of g) ≡ g
grants_back (first rs) = refl
grants_back (second rs) = ap second (seniors_back rs)
grants_back (third rs) = ap third (seniors_back rs)

seniors_roles : (rs : List Role) (js : List ℕ) → length js ≡ length rs → roles_of (second (seniors rs js)) ≡ rs
unfolding seniors
seniors_roles [] js e = refl
seniors_roles (r ∷ rs) [] e = let no : ⊥ = omega arith in absurd no
seniors_roles (r ∷ rs) (j ∷ js) e = ap {B = List Role} (λ l. r ∷ l) (seniors_roles rs js (omega arith))

seniors_juniors : (rs : List Role) (js : List ℕ) → length js ≡ length rs → juniors_of (second (seniors rs js)) ≡ js
unfolding seniors
seniors_juniors [] [] e = refl
seniors_juniors [] (j ∷ js) e = let no : ⊥ = omega arith in absurd no
seniors_juniors (r ∷ rs) [] e = let no : ⊥ = omega arith in absurd no
seniors_juniors (r ∷ rs) (j ∷ js) e = ap {B = List ℕ} (λ l. j ∷ l) (seniors_juniors rs js (omega arith))

-- no mask of juniors
zeros : (i : ℕ) (rs : List Role) → juniors_of (first rs) ≡ tabled (λ n. 0) i (length rs)
unfolding tabled
zeros i [] = refl
zeros i (r ∷ rs) = ap {B = List ℕ} (λ l. 0 ∷ l) (zeros (suc i) rs)

-- what a version holds is the roles that it makes
pub grants_held : (v : ℕ) (C : Contents) → Formed v C → (roles_of (grants_for v C.roles C.juniors) ≡ C.roles) × (juniors_of (grants_for v C.roles C.juniors) ≡ C.juniors)
grants_held v C (inl (e, same)) = rw e (go (by_column v))
  where
    either : Bool → Grants
    either b = cond b (third (seniors C.roles C.juniors)) (second (seniors C.roles C.juniors))

    go : (b : Bool) → (roles_of (either b) ≡ C.roles) × (juniors_of (either b) ≡ C.juniors)
    go true = (seniors_roles C.roles C.juniors same, seniors_juniors C.roles C.juniors same)
    go false = (seniors_roles C.roles C.juniors same, seniors_juniors C.roles C.juniors same)
grants_held v C (inr (e, none)) = rw e (refl, zeros 1 C.roles ∙ sym none)

pub version_held : (v : ℕ) → IsVersion v → (rs : List Role) (js : List ℕ) → version_of (grants_for v rs js) ≡ v
version_held v (inl e) rs js = rw (ne_eqb v 2 (omega arith), ne_eqb v 3 (omega arith)) (sym e)
version_held v (inr (inl e)) rs js = rw (eq-eqb v 2 e, ne_eqb v 3 (omega arith)) (sym e)
version_held v (inr (inr e)) rs js = rw (ne_eqb v 2 (omega arith), eq-eqb v 3 e) (sym e)

-- a file's own contents are formed by its version
pub formed_by : (F : File) → Formed (version_of F.grants) (contents_for F)
formed_by F = go F.grants
  where
    go : (g : Grants) → ((has_juniors (version_of g) ≡ true) × (length (juniors_of g) ≡ length (roles_of g))) ⊎ ((has_juniors (version_of g) ≡ false) × (juniors_of g ≡ tabled (λ n. 0) 1 (length (roles_of g))))
    go (first rs) = inr (refl, zeros 1 rs)
    go (second rs) = inl (refl, length-map rs (λ (r : Senior). r.juniors) ∙ sym (length-map rs (λ (r : Senior). r.own)))
    go (third rs) = inl (refl, length-map rs (λ (r : Senior). r.juniors) ∙ sym (length-map rs (λ (r : Senior). r.own)))

pub known : (F : File) → IsVersion (version_of F.grants)
known F = go F.grants
  where
    go : (g : Grants) → IsVersion (version_of g)
    go (first rs) = inl refl
    go (second rs) = inr (inl refl)
    go (third rs) = inr (inr refl)

-- a mask for each role
pub juniors_each : (F : File) → length (juniors_of F.grants) ≡ length (roles_of F.grants)
juniors_each F = go F.grants
  where
    go : (g : Grants) → length (juniors_of g) ≡ length (roles_of g)
    go (first rs) = length-map rs (λ (r : Role). 0)
    go (second rs) = length-map rs (λ (r : Senior). r.juniors) ∙ sym (length-map rs (λ (r : Senior). r.own))
    go (third rs) = length-map rs (λ (r : Senior). r.juniors) ∙ sym (length-map rs (λ (r : Senior). r.own))

abbrev pub file_of : ℕ → Contents → List Tree → File
file_of v C ts = record {
  users = C.users;
  grants = grants_for v C.roles C.juniors;
  kinds = C.kinds;
  channels = C.channels;
  sessions = routines C.sessions ts;
}

pub file_back : (F : File) → file_of (version_of F.grants) (contents_for F) (trees_of F.sessions) ≡ F
file_back F = λ i. record {
  users = F.users;
  grants = grants_back F.grants i;
  kinds = F.kinds;
  channels = F.channels;
  sessions = routines_rooted 1 F.sessions i;
}

-- encoded, then read, gives what the file holds, and its version
pub contents_back : (F : File) → contents_of (encode F) ≡ contents_for F
unfolding encode
contents_back F = encoded_back (version_of F.grants) (contents_for F) (formed_by F)

pub version_back : (F : File) → version_at (encode F) ≡ version_of F.grants
unfolding encode
version_back F = ap (λ (h : Head). h.version) (head_back (version_of F.grants) (contents_for F))

-- so that bytes hold what the file holds that they read as
pub contents_held : (F : File) (f : List ℕ) → ReadsAs f F → contents_of f ≡ contents_for F
unfolding contents_at tabled rooted flatten
contents_held F f (sent e) = ap (λ (g : List ℕ). contents_of g) (sym e) ∙ contents_back F
contents_held F f (nothing_sent none e) = ap (λ (g : List ℕ). contents_of g) none ∙ ap (λ (G : File). contents_for G) (sym e)

pub version_read : (F : File) (f : List ℕ) → ReadsAs f F → version_at f ≡ version_of F.grants
version_read F f (sent e) = ap version_at (sym e) ∙ version_back F
version_read F f (nothing_sent none e) = ap version_at none ∙ ap (λ (G : File). version_of G.grants) (sym e)

-- no two files have the same bytes
pub single : (F G : File) → encode F ≡ encode G → F ≡ G
single F G e =
    let contents = sym (contents_back F) ∙ ap (λ (f : List ℕ). contents_of f) e ∙ contents_back G in
    let version = sym (version_back F) ∙ ap version_at e ∙ version_back G in
    let trees = flatten_single (trees_of F.sessions) (trees_of G.sessions) (ap (λ (C : Contents). C.nodes) contents) in
    sym (file_back F) ∙ (λ i. file_of (version i) (contents i) (trees i)) ∙ file_back G

-- the bytes of the file with nothing planned
pub unplanned_bytes : encode unplanned ≡ nothing_planned
unfolding encode encoded file_words table_words role_words channel_words session_words node_rows rooted flatten bytes_of
unplanned_bytes = refl

-- bytes read as a file exactly if the bytes as they are read are its own
pub reads_iff : (f : List ℕ) (F : File) → ReadsAs f F ↔ (encode F ≡ as_read f)
unfolding encode
reads_iff f F = (to, back f)
  where
    to : ReadsAs f F → encode F ≡ as_read f
    to (sent e) = sym (written_read (version_of F.grants) (contents_for F)) ∙ ap as_read e
    to (nothing_sent none e) = ap encode e ∙ unplanned_bytes ∙ ap as_read (sym none)

    back : (g : List ℕ) → encode F ≡ as_read g → ReadsAs g F
    back [] e = nothing_sent refl (single F unplanned (e ∙ sym unplanned_bytes))
    back (x ∷ xs) e = sent e
