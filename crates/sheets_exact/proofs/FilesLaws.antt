-- The whole files of an input, and no others, are its records.
use Prim.Native.Nat.{ℕ, zero, suc, ◌+◌, ◌-◌, ◌*◌, ◌/◌, ◌%◌, ◌≤◌, ◌<◌}
use mathlib.Core.Path.{◌≡◌, refl, sym, ap, ap₂, ◌∙◌, subst}
use mathlib.Core.List.{List, [], ◌∷◌, ◌++◌, append_assoc}
use mathlib.Core.Bool.{Bool, true, false, cond}
use native.Mathlib.Omega.{arith}
use lib.Dec.{leb}
use borrow.Author.Tests.{leb-true, leb-false, le-leb, lt-leb}
use lib.ListN.{length, get_or, get_or-eq_default, take, drop, length-append, take-append-drop}
use lib.Seq.{get_or-drop, length-take-le, take_at, drop_at}
use Rattle.reading_exact.specs.Lists.{All}
use Rattle.reading_exact.proofs.AllLaws.{all_get}
use Rattle.sheets.specs.Files.{said, is_whole, whole_up_to, rest_up_to, whole_files, rest_of}
use Rattle.sheets_exact.specs.Records.{record_of, records_of, Broken, Ends, full, broken, WholeFiles}

-- every item is a byte, also past the end
abbrev pub Bytes : List ℕ → Type 0
Bytes l = (i : ℕ) → get_or l i 0 < 256

pub byte_at : (l : List ℕ) → All (λ b. b < 256) l → Bytes l
byte_at l h i = go (leb (length l) i) refl
  where
    go : (b : Bool) → leb (length l) i ≡ b → get_or l i 0 < 256
    go true e = omega (arith, get_or-eq_default l 0 {n = i} (leb-true (length l) i e))
    go false e = all_get (λ b. b < 256) l i 0 (leb-false (length l) i e) h

said_small : (l : List ℕ) → Bytes l → said l < 65536
unfolding said
said_small l b = omega (arith, b 0, b 1)

bytes_drop : (n : ℕ) (l : List ℕ) → Bytes l → Bytes (drop n l)
bytes_drop n l b i = subst (λ (x : ℕ). x < 256) (sym (get_or-drop n l i 0)) (b (n + i))

-- a whole record at the front is the record of its file
front : (l : List ℕ) → Bytes l → 2 + said l ≤ length l → l ≡ record_of (take (said l) (drop 2 l)) ++ drop (said l) (drop 2 l)
unfolding said
front [] b h = let no : ⊥ = omega arith in absurd no
front (x ∷ []) b h = let no : ⊥ = omega arith in absurd no
front (x ∷ y ∷ r) b h =
    let n : ℕ = x + 256 * y in
    let e : length (take n r) ≡ n = length-take-le n r (omega arith) in
    let p : x ≡ length (take n r) % 256 = omega (arith, e, b 0) in
    let q : y ≡ length (take n r) / 256 = omega (arith, e, b 0) in
    ap₂ (λ (a : ℕ) (c : ℕ). a ∷ c ∷ r) p q ∙ ap (λ (t : List ℕ). length (take n r) % 256 ∷ length (take n r) / 256 ∷ t) (sym (take-append-drop n r))

front_short : (l : List ℕ) → Bytes l → 2 + said l ≤ length l → length (take (said l) (drop 2 l)) < 65536
front_short [] b h = let no : ⊥ = omega arith in absurd no
front_short (x ∷ []) b h = let no : ⊥ = omega arith in absurd no
front_short (x ∷ y ∷ r) b h =
    let e : length (take (said (x ∷ y ∷ r)) r) ≡ said (x ∷ y ∷ r) = length-take-le (said (x ∷ y ∷ r)) r (omega arith) in
    omega (arith, said_small (x ∷ y ∷ r) b)

-- reading a record
said_record : (f t : List ℕ) → said (record_of f ++ t) ≡ length f
unfolding said
said_record f t = omega arith

record_whole : (f t : List ℕ) → is_whole (record_of f ++ t) ≡ true
record_whole f t = le-leb (2 + said (record_of f ++ t)) (length (record_of f ++ t)) (omega (arith, said_record f t, length-append f t))

broken_front : (l : List ℕ) → is_whole l ≡ false → Broken l
unfolding Broken
broken_front l e f t h q = let no : true ≡ false = sym (record_whole f t) ∙ ap is_whole (sym q) ∙ e in let z : ◌≡◌ {A = ℕ} 0 1 = cc in let n : ⊥ = omega arith in absurd n

front_broken : (l : List ℕ) → Bytes l → Broken l → is_whole l ≡ false
unfolding Broken
front_broken l b h = go (is_whole l) refl
  where
    go : (t : Bool) → is_whole l ≡ t → t ≡ false
    go false e = refl
    go true e = let w : 2 + said l ≤ length l = leb-true (2 + said l) (length l) e in
        absurd (h (take (said l) (drop 2 l)) (drop (said l) (drop 2 l)) (front_short l b w) (front l b w))

-- an input splits into its whole files and its rest
few_longer : (k : ℕ) (l : List ℕ) (f : List ℕ) (fs : List (List ℕ)) (t rest : List ℕ) → l ≡ record_of f ++ t → length f < 65536 → WholeFiles k t fs rest → WholeFiles (suc k) l (f ∷ fs) rest
unfolding records_of
few_longer k l f fs t rest e h s = record {
  joined = e ∙ ap (λ (x : List ℕ). record_of f ++ x) s.joined ∙ sym (append_assoc (record_of f) (records_of fs) rest);
  short = (h, s.short);
  few = omega (arith, s.few);
  ends = go s.ends;
}
  where
    go : Ends fs rest k → Ends (f ∷ fs) rest (suc k)
    go (full z) = full (ap suc z)
    go (broken b) = broken b

split : (k : ℕ) (l : List ℕ) → Bytes l → WholeFiles k l (whole_up_to k l) (rest_up_to k l)
unfolding whole_up_to rest_up_to records_of
split zero l b = record { joined = refl; short = tt; few = omega arith; ends = full refl }
split (suc k) l b = go (is_whole l) refl (split k (drop (said l) (drop 2 l)) (bytes_drop (said l) (drop 2 l) (bytes_drop 2 l b)))
  where
    go : (t : Bool) → is_whole l ≡ t → WholeFiles k (drop (said l) (drop 2 l)) (whole_up_to k (drop (said l) (drop 2 l))) (rest_up_to k (drop (said l) (drop 2 l)))
        → WholeFiles (suc k) l (cond t (take (said l) (drop 2 l) ∷ whole_up_to k (drop (said l) (drop 2 l))) []) (cond t (rest_up_to k (drop (said l) (drop 2 l))) l)
    go false e s = record { joined = refl; short = tt; few = omega arith; ends = broken (broken_front l e) }
    go true e s =
        let w : 2 + said l ≤ length l = leb-true (2 + said l) (length l) e in
        few_longer k l (take (said l) (drop 2 l)) (whole_up_to k (drop (said l) (drop 2 l))) (drop (said l) (drop 2 l)) (rest_up_to k (drop (said l) (drop 2 l)))
        (front l b w) (front_short l b w) s

-- and in no other way: what is read from records is what was written
read_one : (k : ℕ) (f t : List ℕ) → (whole_up_to (suc k) (record_of f ++ t) ≡ f ∷ whole_up_to k t) × (rest_up_to (suc k) (record_of f ++ t) ≡ rest_up_to k t)
unfolding whole_up_to rest_up_to
read_one k f t =
    let e : said (record_of f ++ t) ≡ length f = said_record f t in
    let a : take (said (record_of f ++ t)) (f ++ t) ≡ f = take_at f t (said (record_of f ++ t)) (sym e) in
    let d : drop (said (record_of f ++ t)) (f ++ t) ≡ t = drop_at f t (said (record_of f ++ t)) (sym e) in
    (rw (record_whole f t) (ap₂ (λ (x : List ℕ) (y : List ℕ). x ∷ whole_up_to k y) a d), rw (record_whole f t) (ap (rest_up_to k) d))

none_left : (rest : List ℕ) → (whole_up_to 0 rest ≡ []) × (rest_up_to 0 rest ≡ rest)
unfolding whole_up_to rest_up_to
none_left rest = (refl, refl)

read_none : (k : ℕ) (rest : List ℕ) → is_whole rest ≡ false → (whole_up_to (suc k) rest ≡ []) × (rest_up_to (suc k) rest ≡ rest)
unfolding whole_up_to rest_up_to
read_none k rest e = (rw e, rw e)

pub read_back : (k : ℕ) (fs : List (List ℕ)) (rest : List ℕ) → length fs ≤ k → Bytes rest → Ends fs rest k
    → (whole_up_to k (records_of fs ++ rest) ≡ fs) × (rest_up_to k (records_of fs ++ rest) ≡ rest)
unfolding records_of
read_back zero [] rest h b s = none_left rest
read_back zero (f ∷ fs) rest h b s = let no : ⊥ = omega arith in absurd no
read_back (suc k) [] rest h b (full e) = let no : ⊥ = omega (arith, e) in absurd no
read_back (suc k) [] rest h b (broken z) = read_none k rest (front_broken rest b z)
read_back (suc k) (f ∷ fs) rest h b s =
    let a : (record_of f ++ records_of fs) ++ rest ≡ record_of f ++ (records_of fs ++ rest) = append_assoc (record_of f) (records_of fs) rest in
    let (p, q) = read_one k f (records_of fs ++ rest) in
    let (u, v) = read_back k fs rest (omega arith) b (less s) in
    (ap (whole_up_to (suc k)) a ∙ p ∙ ap (λ (x : List (List ℕ)). f ∷ x) u, ap (rest_up_to (suc k)) a ∙ q ∙ v)
  where
    less : Ends (f ∷ fs) rest (suc k) → Ends fs rest k
    less (full e) = full (omega (arith, e))
    less (broken z) = broken z

bytes_after : (a b : List ℕ) → Bytes (a ++ b) → Bytes b
bytes_after a b h = subst Bytes (drop_at a b (length a) refl) (bytes_drop (length a) (a ++ b) h)

-- the whole files of an input
whole_files_lem : (l : List ℕ) → All (λ b. b < 256) l → WholeFiles 1000 l (whole_files l) (rest_of l)
whole_files_lem l h = split 1000 l (byte_at l h)

pub whole_only : (l : List ℕ) (fs : List (List ℕ)) (rest : List ℕ) → All (λ b. b < 256) l → WholeFiles 1000 l fs rest → (fs ≡ whole_files l) × (rest ≡ rest_of l)
whole_only l fs rest h s =
    let (p, q) = read_back 1000 fs rest s.few (bytes_after (records_of fs) rest (subst Bytes s.joined (byte_at l h))) s.ends in
    (sym p ∙ ap whole_files (sym s.joined), sym q ∙ ap rest_of (sym s.joined))

pub some_files : (l : List ℕ) → All (λ b. b < 256) l → (fs : List (List ℕ)) × (rest : List ℕ) × WholeFiles 1000 l fs rest
some_files l h = (whole_files l, rest_of l, whole_files_lem l h)

pub one_split : (l : List ℕ) → All (λ b. b < 256) l → (fs gs : List (List ℕ)) (x y : List ℕ) → WholeFiles 1000 l fs x → WholeFiles 1000 l gs y → (fs ≡ gs) × (x ≡ y)
one_split l h fs gs x y s t =
    let (a, b) = whole_only l fs x h s in
    let (c, d) = whole_only l gs y h t in
    (a ∙ sym c, b ∙ sym d)

-- they are bytes
all_parts : (P : ℕ → Type 0) (xs ys : List ℕ) → All P (xs ++ ys) → All P xs × All P ys
all_parts P [] ys h = (tt, h)
all_parts P (x ∷ xs) ys h = let (a, b) = all_parts P xs ys h.1 in ((h.0, a), b)

files_bytes : (fs : List (List ℕ)) → All (λ b. b < 256) (records_of fs) → All (λ f. All (λ b. b < 256) f) fs
unfolding records_of
files_bytes [] h = tt
files_bytes (f ∷ fs) h = let (a, b) = all_parts (λ b. b < 256) (record_of f) (records_of fs) h in (a.1.1, files_bytes fs b)

pub whole_bytes : (k : ℕ) (l : List ℕ) (fs : List (List ℕ)) (rest : List ℕ) → All (λ b. b < 256) l → WholeFiles k l fs rest → All (λ f. All (λ b. b < 256) f) fs
whole_bytes k l fs rest h s = files_bytes fs (all_parts (λ b. b < 256) (records_of fs) rest (subst (All (λ b. b < 256)) s.joined h)).0
