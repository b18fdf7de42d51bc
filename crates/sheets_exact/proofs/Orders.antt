-- Two orders of the same files give the same sheet.
use Prim.Native.Nat.{ℕ, zero, suc, ◌+◌, ◌-◌, ◌*◌, ◌≤◌, ◌<◌, max}
use mathlib.Core.Path.{◌≡◌, refl, sym, ap, ap₂, ◌∙◌, subst}
use mathlib.Core.List.{List, [], ◌∷◌, ◌++◌, append-nil, Permᴰ, Perm, is_set}
use mathlib.Core.Bool.{Bool, true, false, cond}
use native.Mathlib.Omega.{arith}
use native.Mathlib.Nat.{ℕ_set}
use native.Mathlib.Bridge.{le_prop}
use mathlib.Core.Logic.{∥∥₁_elim}
use lib.Dec.{eqb}
use borrow.Author.Tests.{eqb-true, eqb-false}
use lib.ListN.{length, get_or, set}
use lib.Seq.{get_or-set_other, set_comm}
use Rattle.sheets.specs.declared.Entry.{Entry}
use Rattle.sheets.specs.declared.Sheet.{Sheet}
use Rattle.reading_exact.specs.Lists.{All}
use Rattle.sheets.specs.Files.{whole_files}
use Rattle.sheets.specs.Sheets.{counted, added, blank, closed, tally, sheet_for, sheet_of}
use Rattle.sheets_exact.specs.Records.{records_of, Broken, broken, WholeFiles}
use Rattle.sheets_exact.proofs.FilesLaws.{read_back, whole_only}

raised : List ℕ → ℕ → List ℕ
raised l i = set l i (get_or l i 0 + 1)

raised_swap : (l : List ℕ) (i j : ℕ) → raised (raised l i) j ≡ raised (raised l j) i
unfolding raised
raised_swap l i j = go (eqb i j) refl
  where
    go : (b : Bool) → eqb i j ≡ b → set (set l i (get_or l i 0 + 1)) j (get_or (set l i (get_or l i 0 + 1)) j 0 + 1) ≡ set (set l j (get_or l j 0 + 1)) i (get_or (set l j (get_or l j 0 + 1)) i 0 + 1)
    go true e = rw (eqb-true i j e)
    go false e =
        let n : i ≡ j → ⊥ = eqb-false i j e in
        ap (λ (x : ℕ). set (set l i (get_or l i 0 + 1)) j (x + 1)) (get_or-set_other l i j (get_or l i 0 + 1) 0 (λ w. n (sym w)))
        ∙ set_comm l i j (get_or l i 0 + 1) (get_or l j 0 + 1) n
        ∙ ap (λ (x : ℕ). set (set l j (get_or l j 0 + 1)) i (x + 1)) (sym (get_or-set_other l j i (get_or l j 0 + 1) 0 n))

counted_swap : (l : List ℕ) (m n : ℕ) → counted (counted l m) n ≡ counted (counted l n) m
unfolding raised
counted_swap l m n = go (eqb m 0) (eqb n 0)
  where
    go : (a b : Bool) → cond b (cond a l (raised l (m - 1))) (raised (cond a l (raised l (m - 1))) (n - 1)) ≡ cond a (cond b l (raised l (n - 1))) (raised (cond b l (raised l (n - 1))) (m - 1))
    go true true = refl
    go true false = refl
    go false true = refl
    go false false = raised_swap l (m - 1) (n - 1)

made : (a : ℕ) (b : List ℕ) (c d e q r : ℕ) → Sheet
made a b c d e q r = record { files = a; refused = b; sessions = c; on_steps = d; most = e; quotient = q; remainder = r }

added_swap : (s : Sheet) (v w : Entry) → added (added s v) w ≡ added (added s w) v
unfolding made
added_swap s v w =
    let b = counted_swap s.refused v.number w.number in
    let c : s.sessions + v.sessions + w.sessions ≡ s.sessions + w.sessions + v.sessions = omega arith in
    let d : s.on_steps + v.on_steps + w.on_steps ≡ s.on_steps + w.on_steps + v.on_steps = omega arith in
    let e : max (max s.most v.most) w.most ≡ max (max s.most w.most) v.most = omega arith in
    let a : ℕ = s.files + 1 + 1 in
    ap (λ (x : List ℕ). made a x (s.sessions + v.sessions + w.sessions) (s.on_steps + v.on_steps + w.on_steps) (max (max s.most v.most) w.most) s.quotient s.remainder) b
    ∙ ap (λ (x : ℕ). made a (counted (counted s.refused w.number) v.number) x (s.on_steps + v.on_steps + w.on_steps) (max (max s.most v.most) w.most) s.quotient s.remainder) c
    ∙ ap₂ (λ (x : ℕ) (y : ℕ). made a (counted (counted s.refused w.number) v.number) (s.sessions + w.sessions + v.sessions) x y s.quotient s.remainder) d e

-- an equation of sheets is one of their fields, so that a permutation's derivation need not be known
same_sheet : (s t : Sheet) → s.files ≡ t.files → s.refused ≡ t.refused → s.sessions ≡ t.sessions → s.on_steps ≡ t.on_steps → s.most ≡ t.most
    → s.quotient ≡ t.quotient → s.remainder ≡ t.remainder → s ≡ t
unfolding made
same_sheet s t a b c d e q r =
    ap₂ (λ (x : ℕ) (y : List ℕ). made x y s.sessions s.on_steps s.most s.quotient s.remainder) a b
    ∙ ap₂ (λ (x : ℕ) (y : ℕ). made t.files t.refused x y s.most s.quotient s.remainder) c d
    ∙ ap₂ (λ (x : ℕ) (y : ℕ). made t.files t.refused t.sessions t.on_steps x y s.remainder) e q
    ∙ ap (λ (x : ℕ). made t.files t.refused t.sessions t.on_steps t.most t.quotient x) r

length_order : {fs gs : List (List ℕ)} → Permᴰ fs gs → length fs ≡ length gs
length_order Permᴰ.nil = refl
length_order (Permᴰ.cons e d) = ap suc (length_order d)
length_order (Permᴰ.swap e₁ e₂) = refl
length_order (Permᴰ.trans d₁ d₂) = length_order d₁ ∙ length_order d₂

module _ (entry : List ℕ → Entry) where
  tally_order : {fs gs : List (List ℕ)} (s : Sheet) → Permᴰ fs gs → tally entry s fs ≡ tally entry s gs
  unfolding tally
  tally_order s Permᴰ.nil = refl
  tally_order s (Permᴰ.cons {a = a} {b = b} {l₁ = l₁} {l₂ = l₂} e d) = tally_order (added s (entry a)) d ∙ ap (λ (f : List ℕ). tally entry (added s (entry f)) l₂) e
  tally_order s (Permᴰ.swap {a = a} {b = b} {a' = a'} {b' = b'} {l = l} e₁ e₂) =
      ap (λ (x : Sheet). tally entry x l) (added_swap s (entry a) (entry b))
      ∙ ap₂ (λ (x : List ℕ) (y : List ℕ). tally entry (added (added s (entry x)) (entry y)) l) e₂ e₁
  tally_order s (Permᴰ.trans d₁ d₂) = tally_order s d₁ ∙ tally_order s d₂

  files_order : {fs gs : List (List ℕ)} → Permᴰ fs gs → sheet_for entry fs ≡ sheet_for entry gs
  unfolding sheet_for
  files_order d = ap closed (tally_order blank d)

  files_same : {fs gs : List (List ℕ)} → Perm fs gs → sheet_for entry fs ≡ sheet_for entry gs
  files_same {fs} {gs} p =
      let n : (g : Sheet → ℕ) → g (sheet_for entry fs) ≡ g (sheet_for entry gs) = λ g. ∥∥₁_elim p (ℕ_set (g (sheet_for entry fs)) (g (sheet_for entry gs))) (λ d. ap g (files_order d)) in
      same_sheet (sheet_for entry fs) (sheet_for entry gs)
      (n (λ s. s.files))
      (∥∥₁_elim p (is_set ℕ_set (sheet_for entry fs).refused (sheet_for entry gs).refused) (λ d. ap (λ (s : Sheet). s.refused) (files_order d)))
      (n (λ s. s.sessions)) (n (λ s. s.on_steps)) (n (λ s. s.most)) (n (λ s. s.quotient)) (n (λ s. s.remainder))

  -- two inputs with the same whole files in two orders
  pub sheet_same : (a b : List ℕ) → Perm (whole_files a) (whole_files b) → sheet_of entry a ≡ sheet_of entry b
  unfolding sheet_of
  sheet_same a b p = files_same p

  -- the records of at most 1,000 files have those as their whole files
  whole_records : (fs : List (List ℕ)) → length fs ≤ 1000 → whole_files (records_of fs) ≡ fs
  unfolding Broken
  whole_records fs h =
      ap whole_files (sym (append-nil (records_of fs)))
      ∙ (read_back 1000 fs [] h (λ i. omega arith) (broken (λ f t k e. let z : ◌≡◌ {A = ℕ} 0 1 = cc in let n : ⊥ = omega arith in n))).0

  pub orders_of_records : (fs gs : List (List ℕ)) → length fs ≤ 1000 → Perm fs gs → sheet_of entry (records_of fs) ≡ sheet_of entry (records_of gs)
  orders_of_records fs gs h p =
      sheet_same (records_of fs) (records_of gs)
      (subst (λ (x : List (List ℕ)). Perm x (whole_files (records_of gs))) (sym (whole_records fs h))
      (subst (λ (x : List (List ℕ)). Perm fs x) (sym (whole_records gs (few p))) p))
    where
      few : Perm fs gs → length gs ≤ 1000
      few q = ∥∥₁_elim q le_prop (λ d. omega (arith, length_order d))

  -- of inputs as bytes: records of the same files in two orders, whatever stands after them
  pub orders : (a b : List ℕ) (fs gs : List (List ℕ)) (x y : List ℕ) → All (λ n. n < 256) a → All (λ n. n < 256) b → WholeFiles 1000 a fs x → WholeFiles 1000 b gs y → Perm fs gs
      → sheet_of entry a ≡ sheet_of entry b
  orders a b fs gs x y h k s t p =
      sheet_same a b
      (subst (λ (u : List (List ℕ)). Perm u (whole_files b)) (whole_only a fs x h s).0
      (subst (λ (u : List (List ℕ)). Perm fs u) (whole_only b gs y k t).0 p))

  -- One file in place of another that adds the same.

  tally_exchanged : (f g : List ℕ) → entry f ≡ entry g → (xs ys : List (List ℕ)) (s : Sheet) → tally entry s (xs ++ (f ∷ ys)) ≡ tally entry s (xs ++ (g ∷ ys))
  unfolding tally
  tally_exchanged f g e [] ys s = ap (λ (v : Entry). tally entry (added s v) ys) e
  tally_exchanged f g e (x ∷ xs) ys s = tally_exchanged f g e xs ys (added s (entry x))

  pub one_exchanged : (f g : List ℕ) → entry f ≡ entry g → (xs ys : List (List ℕ)) (a b x y : List ℕ) → All (λ n. n < 256) a → All (λ n. n < 256) b
      → WholeFiles 1000 a (xs ++ (f ∷ ys)) x → WholeFiles 1000 b (xs ++ (g ∷ ys)) y → sheet_of entry a ≡ sheet_of entry b
  unfolding sheet_of sheet_for
  one_exchanged f g e xs ys a b x y h k s t =
      ap (sheet_for entry) (sym (whole_only a (xs ++ (f ∷ ys)) x h s).0) ∙ ap closed (tally_exchanged f g e xs ys blank)
      ∙ ap (sheet_for entry) (whole_only b (xs ++ (g ∷ ys)) y k t).0
