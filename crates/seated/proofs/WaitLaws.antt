-- Whether a choice has to wait, and the lines then.
use Prim.Native.Nat.{ℕ, ◌+◌, ◌*◌, ◌-◌, ◌≤◌, ◌<◌}
use mathlib.Core.Path.{◌≡◌, refl, sym, ap, ap₂, ◌∙◌, subst}
use mathlib.Core.Bool.{Bool, true, false, cond, not, ◌&&◌}
use mathlib.Core.List.{List, [], ◌∷◌, ◌++◌}
use native.Mathlib.Omega.{arith}
use lib.Dec.{eqb, leb, ltb}
use lib.ListN.{length, get_or, take, drop, length-append, length-drop}
use lib.Seq.{get_or-take, length-take-le}
use borrow.Author.Tests.{eq-eqb, ne_eqb, eqb-true, eqb-false}
use Rattle.masks.specs.Mask.{has, held}
use Rattle.format.specs.Contents.{Contents, in_count}
use Rattle.format.proofs.ContentsLaws.{in_count_iff, in_count_lem}
use Rattle.steps.specs.declared.Thread.{Thread}
use Rattle.steps.specs.Records.{threads_in}
use Rattle.steps.specs.Beside.{thread_count}
use Rattle.steps.specs.Kept.{state_in}
use Rattle.steps.proofs.TableLaws.{threads_length}
use Rattle.rounds.specs.Round.{Taken, waits}
use Rattle.seats.specs.Seats.{Limited, limited_of, seats_in, SeatedState, sits, seats_taken, owner_of, asks_seat, is_next, gets_seat, in_line, line_with, relined, lines_left, lines_joined, stand_in_line, seated_choice}
use Rattle.seats.specs.SeatOrder.{Ordered, AfterAnswer}
use Rattle.seats.proofs.SeatedKept.{line_at, choice_ordered}
use Rattle.seats.proofs.SeatedStart.{table_roles}
use Rattle.seats.proofs.SeatedRuns.{line_fits}
use Rattle.seating.specs.SeatTables.{put_session, gathered, line_row, line_in, LineRows, joined_row, left_row, seat_answer}
use Rattle.seating.proofs.RowLaws.{joined_line, joined_other, joined_rows, left_line, left_other, left_rows}
use Rattle.seating.proofs.SeatLaws.{seat_means}
use Rattle.seated.specs.SeatedTables.{lines_in, seated_in, Seated, role_asked, LineUp, must_wait, WaitTold}
use Rattle.seated.proofs.RoleLaws.{Asked, asks_none, asks_some}

-- a table in which the line of one role changed
relined_by : (w v : List ℕ) (r : ℕ) (l : List ℕ) → 1 ≤ r → r ≤ 16 → line_in v r ≡ l → ((x : ℕ) → x < 16 → (x ≡ r - 1 → ⊥) → line_row v x ≡ line_row w x)
    → lines_in v ≡ relined (lines_in w) r l
relined_by w v r l pos low at others = λ j. λ x. each x (eqb x r) refl (in_count 16 x) refl j
  where
    mine : lines_in v r ≡ relined (lines_in w) r l r
    mine = rw ((in_count_iff 16 r).1 (pos, low), eq-eqb r r refl) at

    each : (x : ℕ) (b : Bool) → eqb x r ≡ b → (c : Bool) → in_count 16 x ≡ c → lines_in v x ≡ relined (lines_in w) r l x
    each x true e c h = subst (λ (y : ℕ). lines_in v y ≡ relined (lines_in w) r l y) (sym (eqb-true x r e)) mine
    each x false e true h =
        let z : (x ≡ r) → ⊥ = eqb-false x r e in
        let (one, most) = in_count_lem 16 x h in
        rw (e, h) (others (x - 1) (omega (arith, one, most)) (λ q. z (omega (arith, q, one, pos))))
    each x false e false h = rw (e, h)

same_lines : (w : List ℕ) (r : ℕ) → 1 ≤ r → r ≤ 16 → lines_in w ≡ relined (lines_in w) r (line_in w r)
same_lines w r pos low = relined_by w w r (line_in w r) pos low refl (λ x l n. refl)

-- the line after the answer about a seat, by the branches of code
module _ (w : List ℕ) (role k answer row : ℕ) (R : LineRows w) (pos : 1 ≤ role) (low : role ≤ 16) (at : row ≡ role - 1) where
  row_low : role - 1 < 16
  row_low = omega (arith, pos, low)

  count-is : get_or w (33 * row) 0 ≡ get_or w (33 * (role - 1)) 0
  count-is = ap (λ (x : ℕ). get_or w (33 * x) 0) at

  pub up_none : answer ≡ 0 → LineUp w role k answer w
  up_none e = (R, rw (eq-eqb answer 0 e))

  pub up_left : (v : List ℕ) → answer ≡ 1 → 0 < get_or w (33 * row) 0 → v ≡ left_row w row → LineUp w role k answer v
  up_left v e some is =
      let there : 0 < get_or w (33 * (role - 1)) 0 = omega (arith, some, count-is) in
      let q : v ≡ left_row w (role - 1) = is ∙ ap (left_row w) at in
      let all = relined_by w (left_row w (role - 1)) role (drop 1 (line_in w role)) pos low (left_line w (role - 1) R row_low there) (left_other w (role - 1) R row_low there) in
      (subst LineRows (sym q) (left_rows w (role - 1) R row_low there), subst (λ (n : ℕ). lines_in v ≡ cond (eqb n 0) (lines_in w) (relined (lines_in w) role (cond (eqb n 1) (drop 1 (line_in w role)) (line_with (line_in w role) k)))) (sym e) (ap lines_in q ∙ all))

  pub up_first : answer ≡ 1 → get_or w (33 * row) 0 ≡ 0 → LineUp w role k answer w
  up_first e none =
      let empty : drop 1 (line_in w role) ≡ line_in w role =
      ap (λ (n : ℕ). drop 1 (take n (drop (33 * (role - 1) + 1) w))) (sym count-is ∙ none) ∙ sym (ap (λ (n : ℕ). take n (drop (33 * (role - 1) + 1) w)) (sym count-is ∙ none)) in (
        R,
        subst (λ (n : ℕ). lines_in w ≡ cond (eqb n 0) (lines_in w) (relined (lines_in w) role (cond (eqb n 1) (drop 1 (line_in w role)) (line_with (line_in w role) k)))) (sym e)
            (same_lines w role pos low ∙ ap (relined (lines_in w) role) (sym empty)),
      )

  later : (answer ≡ 0 → ⊥) → (answer ≡ 1 → ⊥) → (v : List ℕ) → lines_in v ≡ relined (lines_in w) role (line_with (line_in w role) k)
      → lines_in v ≡ cond (eqb answer 0) (lines_in w) (relined (lines_in w) role (cond (eqb answer 1) (drop 1 (line_in w role)) (line_with (line_in w role) k)))
  later z o v e = rw (ne_eqb answer 0 z, ne_eqb answer 1 o) e

  in_row : (b : Bool) → in_line k (line_row w row) ≡ b → in_line k (line_in w role) ≡ b
  in_row b e = ap (λ (x : ℕ). in_line k (line_row w x)) (sym at) ∙ e

  pub up_joined : (v : List ℕ) → (answer ≡ 0 → ⊥) → (answer ≡ 1 → ⊥) → in_line k (line_row w row) ≡ false → get_or w (33 * row) 0 < 32 → v ≡ joined_row w row k → LineUp w role k answer v
  unfolding line_with
  up_joined v z o out room is =
      let space : get_or w (33 * (role - 1)) 0 < 32 = omega (arith, room, count-is) in
      let q : v ≡ joined_row w (role - 1) k = is ∙ ap (λ (x : ℕ). joined_row w x k) at in
      let with : line_in w role ++ (k ∷ []) ≡ line_with (line_in w role) k = rw (in_row false out) in
      let all = relined_by w (joined_row w (role - 1) k) role (line_with (line_in w role) k) pos low (joined_line w (role - 1) k R row_low space ∙ with) (joined_other w (role - 1) k R row_low space) in
      (subst LineRows (sym q) (joined_rows w (role - 1) k R row_low space), later z o v (ap lines_in q ∙ all))

  pub up_in : (answer ≡ 0 → ⊥) → (answer ≡ 1 → ⊥) → in_line k (line_row w row) ≡ true → LineUp w role k answer w
  unfolding line_with
  up_in z o in-it =
      let with : line_in w role ≡ line_with (line_in w role) k = rw (in_row true in-it) in
      (R, later z o w (same_lines w role pos low ∙ ap (relined (lines_in w) role) with))

  -- the room that code looks at
  pub up_room : in_line k (line_row w row) ≡ false → (in_line k (line_in w role) ≡ false → length (line_in w role) < 32) → get_or w (33 * row) 0 < 32
  up_room out h =
      let short = h (in_row false out) in
      let full : length (line_in w role) ≡ get_or w (33 * (role - 1)) 0 =
      length-take-le (get_or w (33 * (role - 1)) 0) (drop (33 * (role - 1) + 1) w) (omega (arith, length-drop (33 * (role - 1) + 1) w, R.words, R.few (role - 1) row_low, row_low)) in
      omega (arith, short, full, count-is)

-- sessions past the threads are of no account
pub gathered_front : (ts : List Thread) (os : List ℕ) (r m : ℕ) → gathered ts (take (length ts) os) r m ≡ gathered ts os r m
unfolding gathered
gathered_front [] os r m = refl
gathered_front (t ∷ ts) [] r m = refl
gathered_front (t ∷ ts) (o ∷ os) r m = gathered_front ts os r (put_session m t.mask r o)

seat_front : (ts : List Thread) (os line : List ℕ) (r limit k n : ℕ) → length ts ≡ n → seat_answer ts os line r limit k ≡ seat_answer ts (take n os) line r limit k
unfolding seat_answer
seat_front ts os line r limit k n e =
    ap (λ (g : ℕ). cond (has g k) 0 (cond (leb limit (held 32 g)) 2 (cond (is_next line k) 1 2))) (sym (gathered_front ts os r 0) ∙ ap (λ (x : ℕ). gathered ts (take x os) r 0) e)

module _ (C : Contents) (table w b os ls : List ℕ) (few : length C.sessions ≤ 32) (short : length table ≤ 16)
    (K : Seated (limited_of C table) w b os ls) (i p : ℕ) where
  abbrev L : Limited
  L = limited_of C table

  abbrev S : SeatedState
  S = seated_in w b os ls

  abbrev own : ℕ
  own = owner_of S i

  pub no_role : role_asked L (state_in w b) i p ≡ 0 → WaitTold L S i p false ls
  no_role e =
      let a = asks_none C table S i p e in
      record { answer = sym (ap (λ (x : Bool). x && not (gets_seat L S i)) a); rows = K.rows; lines = rw a }

  module _ (r : ℕ) (N : Asked L (state_in w b) i p r) where
    counted : i ≤ thread_count b
    counted = omega (arith, N.thread.1, threads_length w 0 (thread_count b))

    pub role_low : (1 ≤ r) × (r ≤ 16)
    role_low =
        let (one, most) = table_roles table r (subst (λ (x : ℕ). 1 ≤ seats_in table x) (sym N.role) N.limited) in
        (one, omega (arith, most, short))

    pub own_is : get_or os (i - 1) 0 ≡ own
    own_is = sym (get_or-take (thread_count b) os (i - 1) 0 (omega (arith, N.thread.0, counted)))

    line-is : lines_in ls r ≡ line_in ls r
    line-is = rw ((in_count_iff 16 r).1 role_low)

    gets_is : (ltb (seats_taken L S r) (seats_in table r) && is_next (lines_in ls r) own) ≡ gets_seat L S i
    unfolding gets_seat
    gets_is = ap (λ (x : ℕ). ltb (seats_taken L S x) (seats_in table x) && is_next (lines_in ls x) own) N.role

    seat_is : seat_answer (threads_in w 0 (thread_count b)) os (line_in ls r) r (seats_in table r) own ≡ cond (sits S own r) 0 (cond (gets_seat L S i) 1 2)
    seat_is =
        seat_front (threads_in w 0 (thread_count b)) os (line_in ls r) r (seats_in table r) own (thread_count b) (threads_length w 0 (thread_count b))
        ∙ ap (λ (l : List ℕ). seat_answer (threads_in w 0 (thread_count b)) (take (thread_count b) os) l r (seats_in table r) own) (sym line-is)
        ∙ seat_means L S r own few K.ordered.counted
        ∙ ap (λ (x : Bool). cond (sits S own r) 0 (cond x 1 2)) gets_is

    -- the answer that code asks for, by the words that it read
    pub answer_is : (a count limit k at : ℕ) → a ≡ seat_answer (threads_in w 0 count) os (line_in ls r) r limit k → count ≡ thread_count b → limit ≡ seats_in table r → k ≡ get_or os at 0 → at ≡ i - 1
        → (k ≡ own) × (a ≡ seat_answer (threads_in w 0 (thread_count b)) os (line_in ls r) r (seats_in table r) own)
    answer_is a count limit k at e ec el ek ea =
        let mine : k ≡ own = ek ∙ ap (λ (x : ℕ). get_or os x 0) ea ∙ own_is in
        (mine, e ∙ ap (λ (x : ℕ). seat_answer (threads_in w 0 x) os (line_in ls r) r limit k) ec ∙ ap₂ (λ (x y : ℕ). seat_answer (threads_in w 0 (thread_count b)) os (line_in ls r) r x y) el mine)

    joins : relined (lines_in ls) r (line_with (line_in ls r) own) ≡ lines_joined L S i
    joins = ap (λ (l : List ℕ). relined (lines_in ls) r (line_with l own)) (sym line-is) ∙ ap (λ (x : ℕ). relined (lines_in ls) x (line_with (lines_in ls x) own)) N.role

    leaves : relined (lines_in ls) r (drop 1 (line_in ls r)) ≡ lines_left L S i
    leaves = ap (λ (l : List ℕ). relined (lines_in ls) r (drop 1 l)) (sym line-is) ∙ ap (λ (x : ℕ). relined (lines_in ls) x (drop 1 (lines_in ls x))) N.role

    module _ (a : ℕ) (is : a ≡ seat_answer (threads_in w 0 (thread_count b)) os (line_in ls r) r (seats_in table r) own) where
      told : a ≡ cond (sits S own r) 0 (cond (gets_seat L S i) 1 2)
      told = is ∙ seat_is

      asks : asks_seat L S i p ≡ not (sits S own r)
      asks = asks_some C table S i p r N

      -- one that has to wait finds room
      pub seat_room : (a ≡ 0 → ⊥) → (a ≡ 1 → ⊥) → in_line own (line_in ls r) ≡ false → length (line_in ls r) < 32
      unfolding seated_choice line_with
      seat_room none one out = go (sits S own r) refl (gets_seat L S i) refl
        where
          go : (x : Bool) → sits S own r ≡ x → (y : Bool) → gets_seat L S i ≡ y → length (line_in ls r) < 32
          go true ex y ey = absurd (none (told ∙ ap (λ (x : Bool). cond x 0 (cond (gets_seat L S i) 1 2)) ex))
          go false ex true ey = absurd (one (told ∙ ap (λ (x : Bool). cond x 0 (cond (gets_seat L S i) 1 2)) ex ∙ ap (λ (y : Bool). cond y 1 2) ey))
          go false ex false ey =
              let must : must_wait L S i p ≡ true = ap₂ (λ (x y : Bool). x && not y) (asks ∙ ap not ex) ey in
              let is-waits : seated_choice L S i p ≡ waits (stand_in_line L S i) = rw must in
              let O : Ordered L (stand_in_line L S i) = subst (λ (x : Taken SeatedState). AfterAnswer x (Ordered L)) is-waits (choice_ordered L S K.ordered i p) in
              let fit = line_fits L (stand_in_line L S i) O r in
              let at : lines_joined L S i r ≡ line_in ls r ++ (own ∷ []) =
              sym (ap (λ (f : ℕ → List ℕ). f r) joins) ∙ line_at (lines_in ls) r r (line_with (line_in ls r) own) refl ∙ rw out in
              omega (arith, fit, few, ap length at, length-append (line_in ls r) (own ∷ []))

      pub waited : (k : ℕ) (v : List ℕ) → k ≡ own → LineUp ls r k a v → WaitTold L S i p (eqb a 2) v
      waited k v mine told-up = go (sits S own r) refl (gets_seat L S i) refl
        where
          U : LineUp ls r own a v
          U = subst (λ (x : ℕ). LineUp ls r x a v) mine told-up

          go : (x : Bool) → sits S own r ≡ x → (y : Bool) → gets_seat L S i ≡ y → WaitTold L S i p (eqb a 2) v
          go true ex y ey =
              let v0 : a ≡ 0 = told ∙ ap (λ (x : Bool). cond x 0 (cond (gets_seat L S i) 1 2)) ex in
              let U' = subst (λ (n : ℕ). LineUp ls r own n v) v0 U in
              let ask : asks_seat L S i p ≡ false = asks ∙ ap not ex in
              record { answer = ap (λ (n : ℕ). eqb n 2) v0 ∙ sym (ap (λ (x : Bool). x && not (gets_seat L S i)) ask); rows = U.0; lines = rw ask U'.1 }
          go false ex true ey =
              let v1 : a ≡ 1 = told ∙ ap (λ (x : Bool). cond x 0 (cond (gets_seat L S i) 1 2)) ex ∙ ap (λ (y : Bool). cond y 1 2) ey in
              let U' = subst (λ (n : ℕ). LineUp ls r own n v) v1 U in
              let ask : asks_seat L S i p ≡ true = asks ∙ ap not ex in
              record { answer = ap (λ (n : ℕ). eqb n 2) v1 ∙ sym (ap₂ (λ (x y : Bool). x && not y) ask ey); rows = U.0; lines = rw (ask, ey) (U'.1 ∙ leaves) }
          go false ex false ey =
              let v2 : a ≡ 2 = told ∙ ap (λ (x : Bool). cond x 0 (cond (gets_seat L S i) 1 2)) ex ∙ ap (λ (y : Bool). cond y 1 2) ey in
              let U' = subst (λ (n : ℕ). LineUp ls r own n v) v2 U in
              let ask : asks_seat L S i p ≡ true = asks ∙ ap not ex in
              record { answer = ap (λ (n : ℕ). eqb n 2) v2 ∙ sym (ap₂ (λ (x y : Bool). x && not y) ask ey); rows = U.0; lines = rw (ask, ey) (U'.1 ∙ joins) }
