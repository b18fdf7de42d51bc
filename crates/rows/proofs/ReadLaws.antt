-- The words of a state, read again, are that state.
use Prim.Native.Nat.{ℕ, zero, suc, ◌+◌, ◌*◌, ◌-◌, ◌≤◌, ◌<◌}
use mathlib.Core.Path.{◌≡◌, refl, sym, ap, ap₂, fun_ext, ◌∙◌, subst}
use mathlib.Core.Bool.{Bool, true, false, ◌&&◌, and-eq-true_iff}
use mathlib.Core.List.{List, [], ◌∷◌, ◌++◌}
use native.Mathlib.Omega.{arith}
use lib.Dec.{eqb, ltb}
use lib.ListN.{length, get_or, take, drop, length-append}
use borrow.Author.Tests.{eqb-true, ltb-true, ltb-false}
use Rattle.reading_exact.specs.Lists.{All}
use Rattle.steps.specs.declared.Thread.{Thread}
use Rattle.steps.specs.declared.Made.{Made}
use Rattle.steps.specs.Beside.{made_at, made_in, made_words}
use Rattle.masks.specs.Mask.{held}
use Rattle.running.specs.Run.{thread_words}
use Rattle.running.proofs.PutLaws.{made_words_length}
use Rattle.running_exact.proofs.OutputWords.{Eight}
use Rattle.seating.proofs.RowLaws.{take_at}
use Rattle.seats.specs.Seats.{SeatedState}
use Rattle.rows.specs.Rows.{line_words, row_words, stands_at, row_thread, row_threads, row_lines, threads_from, owners_from, lines_from, lines_at, seated_at, LinesFit, RowFits}
use Rattle.rows.proofs.StandLaws.{stands_append}

-- what a state needs to be read again: eight variables a thread, and lines of no other roles
pub record Readable (roles : ℕ) (S : SeatedState) : Type 0 where
  pub vars : All Eight S.state.threads
  pub owners : length S.owners ≡ length S.state.threads
  pub nobody : S.lines 0 ≡ []
  pub others : (r : ℕ) → roles < r → S.lines r ≡ []

module _ (s : List ℕ) where
  -- the first of some words, and those after it
  pub stands_first : (p w : ℕ) (ws : List ℕ) → stands_at s p (w ∷ ws) ≡ true → (p < length s) × (get_or s p 0 ≡ w) × (stands_at s (p + 1) ws ≡ true)
  unfolding stands_at
  stands_first p w ws e =
      let (a, b) = (and-eq-true_iff (ltb p (length s)) (eqb (get_or s p 0) w && stands_at s (p + 1) ws)).0 e in
      let (c, d) = (and-eq-true_iff (eqb (get_or s p 0) w) (stands_at s (p + 1) ws)).0 b in
      (ltb-true p (length s) a, eqb-true (get_or s p 0) w c, d)

  pub stands_both : (xs : List ℕ) (p : ℕ) (ys : List ℕ) → stands_at s p (xs ++ ys) ≡ true → (stands_at s p xs ≡ true) × (stands_at s (p + length xs) ys ≡ true)
  stands_both xs p ys e = (and-eq-true_iff (stands_at s p xs) (stands_at s (p + length xs) ys)).0 (sym (stands_append s xs p ys) ∙ e)

  -- the words that stand there
  pub stands_part : (ws : List ℕ) (p : ℕ) → p ≤ length s → stands_at s p ws ≡ true → (p + length ws ≤ length s) × (take (length ws) (drop p s) ≡ ws)
  stands_part [] p le e = (omega (arith, le), refl)
  stands_part (w ∷ ws) p le e =
      let (low, is, more) = stands_first p w ws e in
      let (fits, rest) = stands_part ws (p + 1) (omega (arith, low)) more in
      let less : suc (length ws) - 1 ≡ length ws = omega arith in (
        omega (arith, fits),
        take_at s (suc (length ws)) p (omega arith) low ∙ ap (λ (x : ℕ). get_or s p 0 ∷ take x (drop (p + 1) s)) less ∙ ap₂ (λ (x : ℕ) (l : List ℕ). x ∷ l) is rest,
      )

  read_made : (ms : List Made) (p : ℕ) → stands_at s p (made_words ms) ≡ true → made_in s p (length ms) ≡ ms
  unfolding made_words made_in
  read_made [] p e = refl
  read_made (m ∷ ms) p e =
      let (l₁, a, e₁) = stands_first p m.owner _ e in
      let (l₂, b, e₂) = stands_first (p + 1) m.kind.0 _ e₁ in
      let two : p + 1 + 1 ≡ p + 2 = omega arith in
      let ih = read_made ms (p + 2) (subst (λ (x : ℕ). stands_at s x (made_words ms) ≡ true) two e₂) in
      let here : made_at s p ≡ m = λ i. record { owner = a i; kind = record { 0 = b i } } in
      ap₂ (λ (x : Made) (l : List Made). x ∷ l) here ih

  -- eight words, one after the other
  eight_words : (l : List ℕ) → length l ≡ 8 → (p : ℕ) (rest : List ℕ) → stands_at s (p + 4) (l ++ rest) ≡ true
      → (get_or s (p + 4) 0 ∷ get_or s (p + 5) 0 ∷ get_or s (p + 6) 0 ∷ get_or s (p + 7) 0 ∷ get_or s (p + 8) 0 ∷ get_or s (p + 9) 0 ∷ get_or s (p + 10) 0 ∷ get_or s (p + 11) 0 ∷ [] ≡ l)
      × (stands_at s (p + 12) rest ≡ true)
  eight_words [] n p rest e = let no : ⊥ = omega (arith, n) in absurd no
  eight_words (a ∷ []) n p rest e = let no : ⊥ = omega (arith, n) in absurd no
  eight_words (a ∷ b ∷ []) n p rest e = let no : ⊥ = omega (arith, n) in absurd no
  eight_words (a ∷ b ∷ c ∷ []) n p rest e = let no : ⊥ = omega (arith, n) in absurd no
  eight_words (a ∷ b ∷ c ∷ d ∷ []) n p rest e = let no : ⊥ = omega (arith, n) in absurd no
  eight_words (a ∷ b ∷ c ∷ d ∷ f ∷ []) n p rest e = let no : ⊥ = omega (arith, n) in absurd no
  eight_words (a ∷ b ∷ c ∷ d ∷ f ∷ g ∷ []) n p rest e = let no : ⊥ = omega (arith, n) in absurd no
  eight_words (a ∷ b ∷ c ∷ d ∷ f ∷ g ∷ h ∷ []) n p rest e = let no : ⊥ = omega (arith, n) in absurd no
  eight_words (a ∷ b ∷ c ∷ d ∷ f ∷ g ∷ h ∷ k ∷ x ∷ l) n p rest e = let no : ⊥ = omega (arith, n) in absurd no
  eight_words (a ∷ b ∷ c ∷ d ∷ f ∷ g ∷ h ∷ k ∷ []) n p rest e =
      let on : (q r w : ℕ) (ws : List ℕ) → q + 1 ≡ r → stands_at s q (w ∷ ws) ≡ true → (get_or s q 0 ≡ w) × (stands_at s r ws ≡ true) =
      λ q r w ws n e. let (l, is, m) = stands_first q w ws e in (is, subst (λ (x : ℕ). stands_at s x ws ≡ true) n m) in
      let (e4, t4) = on (p + 4) (p + 5) a _ (omega arith) e in
      let (e5, t5) = on (p + 5) (p + 6) b _ (omega arith) t4 in
      let (e6, t6) = on (p + 6) (p + 7) c _ (omega arith) t5 in
      let (e7, t7) = on (p + 7) (p + 8) d _ (omega arith) t6 in
      let (e8, t8) = on (p + 8) (p + 9) f _ (omega arith) t7 in
      let (e9, t9) = on (p + 9) (p + 10) g _ (omega arith) t8 in
      let (e10, t10) = on (p + 10) (p + 11) h _ (omega arith) t9 in
      let (e11, t11) = on (p + 11) (p + 12) k _ (omega arith) t10 in
      ((λ i. e4 i ∷ e5 i ∷ e6 i ∷ e7 i ∷ e8 i ∷ e9 i ∷ e10 i ∷ e11 i ∷ []), t11)

  read_threads : (ts : List Thread) → All Eight ts → (p : ℕ) → stands_at s p (thread_words ts) ≡ true → row_threads s p (length ts) ≡ ts
  unfolding thread_words row_threads
  read_threads [] h p e = refl
  read_threads (t ∷ ts) (n, h) p e =
      let (l0, user, e1) = stands_first p t.user _ e in
      let (l1, node, e2) = stands_first (p + 1) t.node _ e1 in
      let two : p + 1 + 1 ≡ p + 2 = omega arith in
      let (l2, mask, e3) = stands_first (p + 2) t.mask (held 16 t.mask ∷ t.vars ++ thread_words ts) (subst (λ (x : ℕ). stands_at s x (t.mask ∷ held 16 t.mask ∷ t.vars ++ thread_words ts) ≡ true) two e2) in
      let (l3, roles, e4) = stands_first (p + 2 + 1) (held 16 t.mask) (t.vars ++ thread_words ts) e3 in
      let four : p + 2 + 1 + 1 ≡ p + 4 = omega arith in
      let (vars, rest) = eight_words t.vars n p (thread_words ts) (subst (λ (x : ℕ). stands_at s x (t.vars ++ thread_words ts) ≡ true) four e4) in
      let here : row_thread s p ≡ t = λ i. record { user = user i; node = node i; mask = mask i; vars = vars i } in
      ap₂ (λ (x : Thread) (l : List Thread). x ∷ l) here (read_threads ts h (p + 12) rest)

  -- how many words the threads have
  pub eights_length : (ts : List Thread) → All Eight ts → length (thread_words ts) ≡ 12 * length ts
  unfolding thread_words
  eights_length [] h = refl
  eights_length (t ∷ ts) (n, h) = omega (arith, n, length-append t.vars (thread_words ts), eights_length ts h)

  -- the lines, each by its number
  read_lines : (f : ℕ → List ℕ) (r k p : ℕ) → p ≤ length s → stands_at s p (line_words f r k) ≡ true → (j : ℕ) → j < k → get_or (row_lines s p k) j [] ≡ f (r + j)
  unfolding line_words row_lines
  read_lines f r zero p le e j lt = let no : ⊥ = omega (arith, lt) in absurd no
  read_lines f r (suc k) p le e j lt = go j lt (read_lines f (suc r) k (p + 1 + length (f r)))
    where
      first : (p < length s) × (get_or s p 0 ≡ length (f r)) × (stands_at s (p + 1) (f r ++ line_words f (suc r) k) ≡ true)
      first = stands_first p (length (f r)) (f r ++ line_words f (suc r) k) e

      both : (stands_at s (p + 1) (f r) ≡ true) × (stands_at s (p + 1 + length (f r)) (line_words f (suc r) k) ≡ true)
      both = stands_both (f r) (p + 1) (line_words f (suc r) k) first.2

      here : (p + 1 + length (f r) ≤ length s) × (take (length (f r)) (drop (p + 1) s) ≡ f r)
      here = stands_part (f r) (p + 1) (omega (arith, first.0)) both.0

      go : (j : ℕ) → j < suc k → (p + 1 + length (f r) ≤ length s → stands_at s (p + 1 + length (f r)) (line_words f (suc r) k) ≡ true → (j : ℕ) → j < k → get_or (row_lines s (p + 1 + length (f r)) k) j [] ≡ f (suc r + j))
          → get_or (take (get_or s p 0) (drop (p + 1) s) ∷ row_lines s (p + 1 + get_or s p 0) k) j [] ≡ f (r + j)
      go zero lt ih = let z : r ≡ r + 0 = omega arith in ap (λ (x : ℕ). take x (drop (p + 1) s)) first.1 ∙ here.1 ∙ ap f z
      go (suc j) lt ih =
          let z : suc r + j ≡ r + suc j = omega arith in
          ap (λ (x : ℕ). get_or (row_lines s (p + 1 + x) k) j []) first.1 ∙ ih here.0 both.1 j (omega (arith, lt)) ∙ ap f z

  lines_past : (p k j : ℕ) → k ≤ j → get_or (row_lines s p k) j [] ≡ []
  unfolding row_lines
  lines_past p zero j le = refl
  lines_past p (suc k) zero le = let no : ⊥ = omega (arith, le) in absurd no
  lines_past p (suc k) (suc j) le = lines_past (p + 1 + get_or s p 0) k j (omega (arith, le))

  -- lines of at most 32
  lines_fit : (f : ℕ → List ℕ) → ((r : ℕ) → length (f r) ≤ 32) → (r k p : ℕ) → p ≤ length s → stands_at s p (line_words f r k) ≡ true → LinesFit s p k
  unfolding line_words
  lines_fit f few r zero p le e = tt
  lines_fit f few r (suc k) p le e =
      let (low, is, more) = stands_first p (length (f r)) (f r ++ line_words f (suc r) k) e in
      let (a, b) = stands_both (f r) (p + 1) (line_words f (suc r) k) more in
      let fits = (stands_part (f r) (p + 1) (omega (arith, low)) a).0 in
      let here : p + 1 + length (f r) ≡ p + 1 + get_or s p 0 = omega (arith, is) in
      (omega (arith, fits, is), omega (arith, few r, is), subst (λ (x : ℕ). LinesFit s x k) here (lines_fit f few (suc r) k (p + 1 + length (f r)) fits b))

  module _ (roles : ℕ) (S : SeatedState) (R : Readable roles S) (p : ℕ) (stands : stands_at s p (row_words roles S) ≡ true) where
    abbrev ts : List Thread
    ts = S.state.threads

    abbrev ms : List Made
    ms = S.state.made

    abbrev owners_on : List ℕ
    owners_on = S.owners ++ line_words S.lines 1 roles

    first : (p < length s) × (get_or s p 0 ≡ length ts) × (stands_at s (p + 1) (length ms ∷ made_words ms ++ (thread_words ts ++ owners_on)) ≡ true)
    unfolding row_words
    first = stands_first p (length ts) (length ms ∷ made_words ms ++ (thread_words ts ++ owners_on)) stands

    pub count_read : get_or s p 0 ≡ length ts
    count_read = first.1

    second : (p + 1 < length s) × (get_or s (p + 1) 0 ≡ length ms) × (stands_at s (p + 1 + 1) (made_words ms ++ (thread_words ts ++ owners_on)) ≡ true)
    second = stands_first (p + 1) (length ms) (made_words ms ++ (thread_words ts ++ owners_on)) first.2

    front : stands_at s (p + 2) (made_words ms ++ (thread_words ts ++ owners_on)) ≡ true
    front = let two : p + 1 + 1 ≡ p + 2 = omega arith in subst (λ (x : ℕ). stands_at s x (made_words ms ++ (thread_words ts ++ owners_on)) ≡ true) two second.2

    after_made : (stands_at s (p + 2) (made_words ms) ≡ true) × (stands_at s (p + 2 + length (made_words ms)) (thread_words ts ++ owners_on) ≡ true)
    after_made = stands_both (made_words ms) (p + 2) (thread_words ts ++ owners_on) front

    threads_place : p + 2 + length (made_words ms) ≡ threads_from s p
    threads_place = omega (arith, made_words_length ms, second.1)

    after_threads : (stands_at s (threads_from s p) (thread_words ts) ≡ true) × (stands_at s (threads_from s p + length (thread_words ts)) owners_on ≡ true)
    after_threads = stands_both (thread_words ts) (threads_from s p) owners_on (subst (λ (x : ℕ). stands_at s x (thread_words ts ++ owners_on) ≡ true) threads_place after_made.1)

    owners_place : threads_from s p + length (thread_words ts) ≡ owners_from s p
    owners_place = omega (arith, eights_length ts R.vars, first.1)

    after_owners : (stands_at s (owners_from s p) S.owners ≡ true) × (stands_at s (owners_from s p + length S.owners) (line_words S.lines 1 roles) ≡ true)
    after_owners = stands_both S.owners (owners_from s p) (line_words S.lines 1 roles) (subst (λ (x : ℕ). stands_at s x owners_on ≡ true) owners_place after_threads.1)

    lines_place : owners_from s p + length S.owners ≡ lines_from s p
    lines_place = omega (arith, R.owners, first.1)

    lines_stand : stands_at s (lines_from s p) (line_words S.lines 1 roles) ≡ true
    lines_stand = subst (λ (x : ℕ). stands_at s x (line_words S.lines 1 roles) ≡ true) lines_place after_owners.1

    made_fit : p + 2 + length (made_words ms) ≤ length s
    made_fit = (stands_part (made_words ms) (p + 2) (omega (arith, second.0)) after_made.0).0

    threads_fit : threads_from s p + length (thread_words ts) ≤ length s
    threads_fit = (stands_part (thread_words ts) (threads_from s p) (omega (arith, made_fit, threads_place)) after_threads.0).0

    owners_part : (owners_from s p + length S.owners ≤ length s) × (take (length S.owners) (drop (owners_from s p) s) ≡ S.owners)
    owners_part = stands_part S.owners (owners_from s p) (omega (arith, threads_fit, owners_place)) after_owners.0

    lines_in_lem : lines_from s p ≤ length s
    lines_in_lem = omega (arith, owners_part.0, lines_place)

    line_read : (r : ℕ) → lines_at roles s p r ≡ S.lines r
    line_read zero = sym R.nobody
    line_read (suc j) = go (ltb j roles) refl
      where
        go : (b : Bool) → ltb j roles ≡ b → get_or (row_lines s (lines_from s p) roles) j [] ≡ S.lines (suc j)
        go true e =
            let z : 1 + j ≡ suc j = omega arith in
            read_lines S.lines 1 roles (lines_from s p) lines_in_lem lines_stand j (ltb-true j roles e) ∙ ap S.lines z
        go false e = lines_past (lines_from s p) roles j (ltb-false j roles e) ∙ sym (R.others (suc j) (omega (arith, ltb-false j roles e)))

    -- the state is read again
    pub state_read : seated_at roles s p ≡ S
    state_read =
        let threads : row_threads s (threads_from s p) (get_or s p 0) ≡ ts = ap (row_threads s (threads_from s p)) first.1 ∙ read_threads ts R.vars (threads_from s p) after_threads.0 in
        let made : made_in s (p + 2) (get_or s (p + 1) 0) ≡ ms = ap (made_in s (p + 2)) second.1 ∙ read_made ms (p + 2) after_made.0 in
        let count : get_or s p 0 ≡ length S.owners = first.1 ∙ sym R.owners in
        let owners : take (get_or s p 0) (drop (owners_from s p) s) ≡ S.owners = ap (λ (x : ℕ). take x (drop (owners_from s p) s)) count ∙ owners_part.1 in
        let lines : lines_at roles s p ≡ S.lines = fun_ext line_read in
        λ i. record { state = record { threads = threads i; made = made i }; owners = owners i; lines = lines i }

    -- and a state that the tables can hold is a row that fits
    pub state_fits : length ts ≤ 64 → length ms ≤ 64 → ((r : ℕ) → length (S.lines r) ≤ 32) → RowFits roles s p
    state_fits few_threads few_made few = record {
      threads = omega (arith, first.1, few_threads);
      made = omega (arith, second.1, few_made);
      words = lines_in_lem;
      lines = lines_fit S.lines few 1 roles (lines_from s p) lines_in_lem lines_stand;
    }
