-- When a certificate holds, in words: the choices that are done, in order, and what each row needs.
use Rattle.std.specs.Prelude.{ℕ, zero, suc, ◌+◌, ◌≤◌, ◌<◌, ◌≡◌, ◌⊎◌, List, [], ◌∷◌, ◌++◌, length, get_or}
use Rattle.rounds.specs.Round.{Taken, refuses, waits, steps}
use Rattle.seats.specs.Seats.{SeatedState, seated_choice}
use Rattle.rows.specs.Rows.{row_words}
use Rattle.certifying.specs.Known.{known_by}
use Rattle.certifying.specs.Certificate.{Certificate, row_place, row_state}

-- what so many numbers from a on are given, one after the other
unfoldable pub collect : {A : Type 0} → (ℕ → List A) → ℕ → ℕ → List A
collect f a zero = []
collect f a (suc k) = f a ++ collect f (a + 1) k

-- the state that a choice leads to, where it is done
abbrev pub done_by : Taken SeatedState → List SeatedState
done_by (refuses n) = []
done_by (waits T) = T ∷ []
done_by (steps T) = T ∷ []

-- the states that the choices done in a state lead to: threads from 1 on, with each thread the partners from 0 to the
-- number of threads
unfoldable pub done_in : Certificate → SeatedState → List SeatedState
done_in K S =
    let n : ℕ = length S.state.threads in
    collect (λ i. collect (λ p. done_by (seated_choice K.limited S i p)) 0 (n + 1)) 1 n

-- the same of all rows below j
unfoldable pub done_before : Certificate → ℕ → List SeatedState
done_before K j = collect (λ k. done_in K (row_state K k)) 0 j

-- row k has the words of a state
abbrev pub HasWords : Certificate → ℕ → SeatedState → Type 0
HasWords K k S = (i : ℕ) → i < length (row_words K.roles S)
    → (row_place K k + i < length K.states)
    × (get_or K.states (row_place K k + i) 0 ≡ get_or (row_words K.roles S) i 0)

-- word c of `next` is the number of a state's row, which is known by then or the first that isn't
pub record Names (K : Certificate) (c : ℕ) (T : SeatedState) : Type 0 where
  pub given : c < length K.next
  pub known : get_or K.next c 0 ≤ known_by K.next c
  pub row : get_or K.next c 0 < length K.places
  pub words : HasWords K (get_or K.next c 0) T

-- row j is known once the rows below it are done, and `next` names the row of each state that a choice of it leads to
pub record RowHolds (K : Certificate) (j : ℕ) : Type 0 where
  pub known : j < known_by K.next (length (done_before K j))
  pub leads : (m : ℕ) → m < length (done_in K (row_state K j))
      → Names K (length (done_before K j) + m) (get_or (done_in K (row_state K j)) m (row_state K j))

-- row 0 has the words of the start, and every row holds
pub record CertificateHolds (K : Certificate) (S : SeatedState) : Type 0 where
  pub first : HasWords K 0 S
  pub rows : (j : ℕ) → j < length K.places → RowHolds K j

-- row j is the lowest that doesn't hold
pub record LowestFault (K : Certificate) (S : SeatedState) (j : ℕ) : Type 0 where
  pub first : HasWords K 0 S
  pub within : j < length K.places
  pub below : (i : ℕ) → i < j → RowHolds K i
  pub fails : RowHolds K j → ⊥

-- the row at fault, counted from 1 on: the first where it isn't the start, else the lowest that doesn't hold
abbrev pub FaultAt : Certificate → SeatedState → ℕ → Type 0
FaultAt K S k = ((k ≡ 1) × (HasWords K 0 S → ⊥)) ⊎ ((j : ℕ) × (k ≡ suc j) × LowestFault K S j)
