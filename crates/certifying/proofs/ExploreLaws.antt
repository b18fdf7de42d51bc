-- What a choice that leads to a state is answered, and those of a row one after the other.
use Prim.Native.Nat.{ℕ, suc, ◌+◌, ◌-◌, ◌≤◌, ◌<◌}
use mathlib.Core.Path.{◌≡◌, refl, sym, ap, ap₂, ◌∙◌, subst}
use mathlib.Core.Bool.{Bool, true, false, cond, ◌&&◌, false≢true}
use mathlib.Core.List.{List}
use native.Mathlib.Omega.{arith}
use lib.Dec.{eqb, leb, ltb}
use lib.ListN.{length, get_or}
use borrow.Author.Tests.{eq-eqb, ne_eqb, lt-ltb, le-ltb, le-leb, lt-leb}
use Rattle.steps.specs.Beside.{thread_count}
use Rattle.steps.proofs.TableLaws.{threads_length}
use Rattle.rounds.specs.Round.{Taken}
use Rattle.seats.specs.Seats.{SeatedState, seated_choice}
use Rattle.seats.specs.SeatOrder.{Ordered}
use Rattle.seated.specs.declared.Sat.{Sat}
use Rattle.seated.specs.declared.Sat.TheVariants as sat
use Rattle.seated.specs.SeatedTables.{seated_in, SatTold, ChoseSeated}
use Rattle.certifying.specs.declared.Search.{Search}
use Rattle.std.specs.Prelude.{Option, None, Some}
use Rattle.rows.specs.Rows.{row_words, stands_at, seated_at, RowFits, Loaded}
use Rattle.certifying.specs.Certificate.{Certificate, row_state, arrives, taken_tried, choice_tried, onward, partners_tried, threads_tried, row_tried, row_onward, rows_tried}
use Rattle.certifying.specs.Kept.{is_done, Trying, Tries}

-- one row more is known, or none
pub now-known : (k known m : ℕ) → k ≡ known → m ≡ k + 1 → m ≡ cond (eqb k known) (known + 1) known
now-known k known m e f = rw (eq-eqb k known e) (f ∙ ap (λ (x : ℕ). x + 1) e)

pub still-known : (k known : ℕ) → (k ≡ known → ⊥) → known ≡ cond (eqb k known) (known + 1) known
still-known k known ne = rw (ne_eqb k known ne)

-- by the four tests
abbrev tested : Bool → Bool → Bool → Bool → Search → Option Search
tested a b c d q = cond (a && (b && (c && d))) (Some q) None

module _ (roles : ℕ) (s places next : List ℕ) (S : SeatedState) (q : Search) (k : ℕ) (is : k ≡ get_or next q.cursor 0) where
  abbrev further : Search
  further = record { known = cond (eqb k q.known) (q.known + 1) q.known; cursor = q.cursor + 1 }

  by_tests : (a b c d : Bool) → ltb q.cursor (length next) ≡ a → leb k q.known ≡ b → ltb k (length places) ≡ c
      → stands_at s (get_or places k 0) (row_words roles S) ≡ d
      → tested a b c d further ≡ arrives roles s places next S q
  unfolding arrives
  by_tests a b c d ea eb ec ed =
      sym (ap (λ (x : ℕ). tested (ltb q.cursor (length next)) (leb x q.known) (ltb x (length places)) (stands_at s (get_or places x 0) (row_words roles S))
      (record { known = cond (eqb x q.known) (q.known + 1) q.known; cursor = q.cursor + 1 })) (sym is)
      ∙ ap₂ (λ (x y : Bool). tested x y (ltb k (length places)) (stands_at s (get_or places k 0) (row_words roles S)) further) ea eb
      ∙ ap₂ (λ (x y : Bool). tested a b x y further) ec ed)

  pub no_word : length next ≤ q.cursor → None ≡ arrives roles s places next S q
  no_word le = by_tests false _ _ _ (le-ltb q.cursor (length next) le) refl refl refl

  module _ (word : q.cursor < length next) where
    there : ltb q.cursor (length next) ≡ true
    there = lt-ltb q.cursor (length next) word

    pub not_known : q.known < k → None ≡ arrives roles s places next S q
    not_known lt = by_tests true false _ _ there (lt-leb k q.known lt) refl refl

    module _ (known : k ≤ q.known) where
      pub no_such_row : length places ≤ k → None ≡ arrives roles s places next S q
      no_such_row le = by_tests true true false _ there (le-leb k q.known known) (le-ltb k (length places) le) refl

      module _ (row : k < length places) where
        pub other_words : stands_at s (get_or places k 0) (row_words roles S) ≡ false → None ≡ arrives roles s places next S q
        other_words e = by_tests true true true false there (le-leb k q.known known) (lt-ltb k (length places) row) e

        pub has_arrived : stands_at s (get_or places k 0) (row_words roles S) ≡ true → (known' cursor' : ℕ)
            → known' ≡ cond (eqb k q.known) (q.known + 1) q.known → cursor' ≡ q.cursor + 1
            → Some (record { known = known'; cursor = cursor' }) ≡ arrives roles s places next S q
        has_arrived e known' cursor' ek ec =
            ap₂ (λ (x y : ℕ). Some (record { known = x; cursor = y })) ek ec
            ∙ by_tests true true true true there (le-leb k q.known known) (lt-ltb k (length places) row) e

-- what a choice is answered, and what it leaves
refused-told : (sat : Sat) (a : Taken SeatedState) (S S' : SeatedState) → is_done sat ≡ false → SatTold sat a S S' → (K : Certificate) (q : Search)
    → (Some q ≡ taken_tried K a q) × (S' ≡ S)
refused-told (sat.Refused n) a S S' e (is, same) K q = (sym (ap (λ (x : Taken SeatedState). taken_tried K x q) is), same)
refused-told sat.Waits a S S' e told K q = absurd (false≢true (sym e))
refused-told sat.Ends a S S' e told K q = absurd (false≢true (sym e))
refused-told sat.Steps a S S' e told K q = absurd (false≢true (sym e))

done-told : (sat : Sat) (a : Taken SeatedState) (S S' : SeatedState) → is_done sat ≡ true → SatTold sat a S S' → (K : Certificate) (q : Search)
    → arrives K.roles K.states K.places K.next S' q ≡ taken_tried K a q
done-told (sat.Refused n) a S S' e told K q = absurd (false≢true e)
done-told sat.Waits a S S' e is K q = sym (ap (λ (x : Taken SeatedState). taken_tried K x q) is)
done-told sat.Ends a S S' e (is, less) K q = sym (ap (λ (x : Taken SeatedState). taken_tried K x q) is)
done-told sat.Steps a S S' e (is, less) K q = sym (ap (λ (x : Taken SeatedState). taken_tried K x q) is)

module _ (K : Certificate) (p : ℕ) where
  abbrev row : SeatedState
  row = seated_at K.roles K.states p

  -- the tables hold the row's state
  pub loaded_trying : RowFits K.roles K.states p → Ordered K.limited row → p < 4294967296 → (w b os ls : List ℕ)
      → Loaded K.roles K.states p w b os ls → Trying K p w b os ls
  loaded_trying fits ordered small w b os ls D = record {
    seated = record { sized = D.sized; owners = D.owners; rows = D.rows; ordered = subst (Ordered K.limited) (sym D.state) ordered };
    state = D.state;
    fits = fits;
    small = small;
  }

  -- how many threads the row has
  pub held_count : (w b os ls : List ℕ) → Trying K p w b os ls → (n : ℕ) → n ≡ thread_count b → n ≡ length row.state.threads
  held_count w b os ls T n is = is ∙ sym (threads_length w 0 (thread_count b)) ∙ ap (λ (S : SeatedState). length S.state.threads) T.state

  module _ (kind : ℕ → ℕ) (i x : ℕ) (q : Search) (r : Sat) (w b os ls w' b' os' ls' : List ℕ) (T : Trying K p w b os ls)
      (chose : ChoseSeated kind K.limited i x r w b os ls w' b' os' ls') where
    abbrev taken : Taken SeatedState
    taken = seated_choice K.limited (seated_in w b os ls) i x

    chosen_in : taken_tried K taken q ≡ choice_tried K row i x q
    chosen_in = ap (λ (S : SeatedState). taken_tried K (seated_choice K.limited S i x) q) T.state

    pub choice_refused : is_done r ≡ false → Tries K p (λ K S. choice_tried K S i x q) (Some q) w' b' os' ls'
    choice_refused e =
        let (answer, same) = refused-told r taken (seated_in w b os ls) (seated_in w' b' os' ls') e chose.told K q in
        record { answered = answer ∙ chosen_in; trying = record { seated = chose.kept; state = same ∙ T.state; fits = T.fits; small = T.small } }

    pub choice_done : is_done r ≡ true → (t : Option Search) → t ≡ arrives K.roles K.states K.places K.next (seated_in w' b' os' ls') q
        → (w'' b'' os'' ls'' : List ℕ) → Loaded K.roles K.states p w'' b'' os'' ls'' → Tries K p (λ K S. choice_tried K S i x q) t w'' b'' os'' ls''
    choice_done e t is w'' b'' os'' ls'' D = record {
      answered = is ∙ done-told r taken (seated_in w b os ls) (seated_in w' b' os' ls') e chose.told K q ∙ chosen_in;
      trying = loaded_trying T.fits (subst (Ordered K.limited) T.state T.seated.ordered) T.small w'' b'' os'' ls'' D;
    }

-- one partner more, and none
module _ (K : Certificate) (S : SeatedState) (i p n : ℕ) (q : Search) where
  module _ (lt : p < n) where
    partner_on : partners_tried K S i p (n - p) q ≡ onward (choice_tried K S i p q) (λ x. partners_tried K S i (p + 1) (n - (p + 1)) x)
    unfolding partners_tried
    partner_on = let more : n - p ≡ suc (n - (p + 1)) = omega (arith, lt) in ap (λ (x : ℕ). partners_tried K S i p x q) more

    pub partner_fails : (t : Option Search) → t ≡ choice_tried K S i p q → t ≡ None → None ≡ partners_tried K S i p (n - p) q
    partner_fails t is fails = sym (partner_on ∙ ap (λ (x : Option Search). onward x (λ y. partners_tried K S i (p + 1) (n - (p + 1)) y)) (sym is ∙ fails))

    pub partner_passes : (t : Option Search) (q' : Search) → t ≡ choice_tried K S i p q → t ≡ Some q'
        → partners_tried K S i p (n - p) q ≡ partners_tried K S i (p + 1) (n - (p + 1)) q'
    partner_passes t q' is passes = partner_on ∙ ap (λ (x : Option Search). onward x (λ y. partners_tried K S i (p + 1) (n - (p + 1)) y)) (sym is ∙ passes)

  pub partners_end : n ≤ p → Some q ≡ partners_tried K S i p (n - p) q
  unfolding partners_tried
  partners_end le = let none : n - p ≡ 0 = omega (arith, le) in sym (ap (λ (x : ℕ). partners_tried K S i p x q) none)

-- one thread more, and none
module _ (K : Certificate) (S : SeatedState) (i n : ℕ) (q : Search) where
  module _ (le : i ≤ n) (count : n ≡ length S.state.threads) where
    thread_on : threads_tried K S i (n + 1 - i) q ≡ onward (partners_tried K S i 0 (n + 1) q) (λ x. threads_tried K S (i + 1) (n + 1 - (i + 1)) x)
    unfolding threads_tried
    thread_on =
        let more : n + 1 - i ≡ suc (n + 1 - (i + 1)) = omega (arith, le) in
        ap (λ (x : ℕ). threads_tried K S i x q) more
        ∙ ap (λ (y : ℕ). onward (partners_tried K S i 0 (y + 1) q) (λ z. threads_tried K S (i + 1) (n + 1 - (i + 1)) z)) (sym count)

    pub thread_fails : (t : Option Search) → t ≡ partners_tried K S i 0 (n + 1) q → t ≡ None → None ≡ threads_tried K S i (n + 1 - i) q
    thread_fails t is fails = sym (thread_on ∙ ap (λ (x : Option Search). onward x (λ y. threads_tried K S (i + 1) (n + 1 - (i + 1)) y)) (sym is ∙ fails))

    pub thread_passes : (t : Option Search) (q' : Search) → t ≡ partners_tried K S i 0 (n + 1) q → t ≡ Some q'
        → threads_tried K S i (n + 1 - i) q ≡ threads_tried K S (i + 1) (n + 1 - (i + 1)) q'
    thread_passes t q' is passes = thread_on ∙ ap (λ (x : Option Search). onward x (λ y. threads_tried K S (i + 1) (n + 1 - (i + 1)) y)) (sym is ∙ passes)

  pub threads_end : n < i → Some q ≡ threads_tried K S i (n + 1 - i) q
  unfolding threads_tried
  threads_end lt = let none : n + 1 - i ≡ 0 = omega (arith, lt) in sym (ap (λ (x : ℕ). threads_tried K S i x q) none)

-- one row more, and none
module _ (K : Certificate) (j n : ℕ) (q : Search) where
  module _ (lt : j < n) where
    pub row_on : rows_tried K j (n - j) q ≡ cond (ltb j q.known) (row_onward (row_tried K (row_state K j) q) j (λ x. rows_tried K (j + 1) (n - (j + 1)) x))
        (q.known + 1)
    unfolding rows_tried
    row_on = let more : n - j ≡ suc (n - (j + 1)) = omega (arith, lt) in ap (λ (x : ℕ). rows_tried K j x q) more

    module _ (known : j < q.known) where
      known_on : rows_tried K j (n - j) q ≡ row_onward (row_tried K (row_state K j) q) j (λ x. rows_tried K (j + 1) (n - (j + 1)) x)
      known_on =
          row_on ∙ ap (λ (b : Bool). cond b (row_onward (row_tried K (row_state K j) q) j (λ x. rows_tried K (j + 1) (n - (j + 1)) x)) (q.known + 1))
          (lt-ltb j q.known known)

      pub row_fails : (t : Option Search) → t ≡ row_tried K (row_state K j) q → t ≡ None → j + 1 ≡ rows_tried K j (n - j) q
      row_fails t is fails = sym (known_on ∙ ap (λ (x : Option Search). row_onward x j (λ y. rows_tried K (j + 1) (n - (j + 1)) y)) (sym is ∙ fails))

      pub row_passes : (t : Option Search) (q' : Search) → t ≡ row_tried K (row_state K j) q → t ≡ Some q' → (j' : ℕ) → j' ≡ j + 1
          → rows_tried K j (n - j) q ≡ rows_tried K j' (n - j') q'
      row_passes t q' is passes j' next_row =
          known_on ∙ ap (λ (x : Option Search). row_onward x j (λ y. rows_tried K (j + 1) (n - (j + 1)) y)) (sym is ∙ passes) ∙ ap (λ (x : ℕ). rows_tried K x (n - x) q')
          (sym next_row)

    pub row_unknown : q.known ≤ j → j ≤ q.known → j + 1 ≡ rows_tried K j (n - j) q
    row_unknown le ge =
        let same : j + 1 ≡ q.known + 1 = omega (arith, le, ge) in
        same ∙ sym (row_on ∙ ap (λ (b : Bool). cond b (row_onward (row_tried K (row_state K j) q) j (λ x. rows_tried K (j + 1) (n - (j + 1)) x)) (q.known + 1))
        (le-ltb j q.known le))

  pub rows_end : n ≤ j → 0 ≡ rows_tried K j (n - j) q
  unfolding rows_tried
  rows_end le = let none : n - j ≡ 0 = omega (arith, le) in sym (ap (λ (x : ℕ). rows_tried K j x q) none)
