-- Whether a state of a run with seats is in order, as a test.
use Rattle.std.specs.Prelude.{ℕ, zero, suc, Bool, true, cond, not, ◌&&◌, ◌||◌, List, [], ◌∷◌, eqb, leb, length}
use Rattle.format.specs.Contents.{in_count}
use Rattle.seats.specs.Seats.{SeatedState, sits, count_to}

-- each of 1 to n
unfoldable pub all_counted : ℕ → List ℕ → Bool
all_counted n [] = true
all_counted n (x ∷ xs) = in_count n x && all_counted n xs

-- each of a line is a session of 1 to n, doesn't have the role, and didn't come before
unfoldable pub line_fits : ℕ → (ℕ → Bool) → List ℕ → Bool
line_fits n has [] = true
line_fits n has (k ∷ ks) = (in_count n k && not (has k)) && line_fits n (λ j. eqb j k || has j) ks

-- a role without limit has no line; one with a limit has no more sessions than seats, and a line of others
unfoldable pub role_fits : ℕ → SeatedState → ℕ → ℕ → Bool
role_fits n S limit r =
    cond (eqb limit 0) (eqb (length (S.lines r)) 0)
    (leb (count_to (λ k. sits S k r) n) limit && line_fits n (λ k. sits S k r) (S.lines r))

-- the roles 1 to r, with their seats
unfoldable pub roles_fit : ℕ → (ℕ → ℕ) → SeatedState → ℕ → Bool
roles_fit n seats S zero = true
roles_fit n seats S (suc r) = role_fits n S (seats (suc r)) (suc r) && roles_fit n seats S r

-- of a file of n sessions: each thread has a session, one of the file's, and each of 16 roles fits
unfoldable pub in_order : ℕ → (ℕ → ℕ) → SeatedState → Bool
in_order n seats S =
    eqb (length S.owners) (length S.state.threads) && (all_counted n S.owners && roles_fit n seats S 16)
