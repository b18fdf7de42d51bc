-- The rules as judgements: for values, for processes under a user, variables and an active set, and for whole files.
use Rattle.std.specs.Prelude.{ℕ, ◌+◌, ◌≤◌, ◌<◌, ◌≡◌, Bool, true, false, List, [], ◌∷◌, ◌++◌, length, get_or}
use Rattle.masks.specs.Mask.{has, with, without}
use Rattle.rules.specs.declared.Way.TheVariants.{Sends, Receives}
use Rattle.rules.specs.Schema.{Schema, Permitted}
use Rattle.rules.specs.Names.{Bound, unbound}
use Rattle.reading_exact.specs.Lists.{All}
use Rattle.reading_exact.specs.Tree.{Switch, Tree, end, fork, step, switch, repeat, new, compare, receive, send, on, off}
use Rattle.reading_exact.specs.File.{File, Routine, InCount}
use Rattle.checking_exact.specs.Tables.{schema_for}

-- Values (rule 1): an operand has a kind, 0 for a plain value. A user is plain; a channel has its kind; a variable has the kind it was bound with.
pub data HasKind (D : Schema) (vs : List Bound) (x k : ℕ) : Type 0 where
  a_user : InCount D.users x → k ≡ 0 → HasKind D vs x k
  a_channel : (c : ℕ) → InCount D.channels c → x ≡ 256 + c → k ≡ D.kind c → HasKind D vs x k
  a_variable : (i : ℕ) → i < length vs → x ≡ 512 + i → k ≡ (get_or vs i unbound).sort → HasKind D vs x k

-- Rule 3: what a user may receive on: a channel that the user owns, or a variable bound by new.
pub data Receivable (D : Schema) (u : ℕ) (vs : List Bound) (x : ℕ) : Type 0 where
  own_channel : (c : ℕ) → InCount D.channels c → x ≡ 256 + c → D.owner c ≡ u → Receivable D u vs x
  own_new : (i : ℕ) → i < length vs → x ≡ 512 + i → (get_or vs i unbound).fresh ≡ true → Receivable D u vs x

abbrev pub with_variable : List Bound → ℕ → Bool → List Bound
with_variable vs k fresh = vs ++ (record { sort = k; fresh = fresh } ∷ [])

-- Names, kinds and rules 1 to 4: what 9 and 10 stand for, of which the active set is no part. The rules of 004 are named where there is one.
pub data Kinded (D : Schema) (u : ℕ) : List Bound → Tree → Type 0 where
  -- (T-Nil)
  k-end : {vs : List Bound} → Kinded D u vs end
  -- (T-Par)
  k_fork : {vs : List Bound} {a b : Tree} → Kinded D u vs a → Kinded D u vs b → Kinded D u vs (fork a b)
  -- (T-Repl)
  k_repeat : {vs : List Bound} {t : Tree} → Kinded D u vs t → Kinded D u vs (step repeat t)
  -- (T-Res); the variable has the kind named
  k_new : {vs : List Bound} {t : Tree} {k : ℕ} → InCount D.kinds k → Kinded D u (with_variable vs k true) t → Kinded D u vs (step (new k) t)
  -- (T-Match); rule 4: both plain, or both channels of one kind
  k_compare : {vs : List Bound} {t : Tree} {a b : ℕ} (k : ℕ) → HasKind D vs a k → HasKind D vs b k → Kinded D u vs t → Kinded D u vs (step (compare a b) t)
  -- (T-Input); rule 3; the variable has what the channel's kind carries
  k_receive : {vs : List Bound} {t : Tree} {c : ℕ} (k : ℕ) → HasKind D vs c k → Receivable D u vs c → Kinded D u (with_variable vs (D.carries k) false) t
      → Kinded D u vs (step (receive c) t)
  -- (T-Output); rule 2
  k_send : {vs : List Bound} {t : Tree} {c v : ℕ} (k : ℕ) → HasKind D vs c k → 1 ≤ k → HasKind D vs v (D.carries k) → Kinded D u vs t
      → Kinded D u vs (step (send c v) t)
  -- (T-Role), (T-Yield): there is such a role
  k_switch : {vs : List Bound} {t : Tree} {w : Switch} {r : ℕ} → InCount D.roles r → Kinded D u vs t → Kinded D u vs (switch w r t)

-- Rules 5 and 6: what 11 to 13 stand for, under the active set m. Rule 6 speaks of kinds: variables have those of rule 1.
pub data ByRoles (D : Schema) (u : ℕ) : List Bound → ℕ → Tree → Type 0 where
  r_end : {vs : List Bound} {m : ℕ} → ByRoles D u vs m end
  -- (T-Par); rule 5: each branch goes on with its own copy of the active set
  r_fork : {vs : List Bound} {m : ℕ} {a b : Tree} → ByRoles D u vs m a → ByRoles D u vs m b → ByRoles D u vs m (fork a b)
  r_repeat : {vs : List Bound} {m : ℕ} {t : Tree} → ByRoles D u vs m t → ByRoles D u vs m (step repeat t)
  r_new : {vs : List Bound} {m : ℕ} {t : Tree} {k : ℕ} → ByRoles D u (with_variable vs k true) m t → ByRoles D u vs m (step (new k) t)
  r_compare : {vs : List Bound} {m : ℕ} {t : Tree} {a b : ℕ} → ByRoles D u vs m t → ByRoles D u vs m (step (compare a b) t)
  -- (T-Input); rule 6: one active role may receive on the channel's kind
  r_receive : {vs : List Bound} {m : ℕ} {t : Tree} {c : ℕ} (k : ℕ) → HasKind D vs c k → Permitted D m Receives k
      → ByRoles D u (with_variable vs (D.carries k) false) m t → ByRoles D u vs m (step (receive c) t)
  -- (T-Output); rule 6: one active role may send on the channel's kind
  r_send : {vs : List Bound} {m : ℕ} {t : Tree} {c v : ℕ} (k : ℕ) → HasKind D vs c k → Permitted D m Sends k → ByRoles D u vs m t
      → ByRoles D u vs m (step (send c v) t)
  -- (T-Role); rule 5: on adds a role assigned to the user
  r_on : {vs : List Bound} {m : ℕ} {t : Tree} {r : ℕ} → has (D.assigned u) r ≡ true → ByRoles D u vs (with m r) t → ByRoles D u vs m (switch on r t)
  -- (T-Yield); rule 5: off removes a role that is there
  r_off : {vs : List Bound} {m : ℕ} {t : Tree} {r : ℕ} → has m r ≡ true → ByRoles D u vs (without m r) t → ByRoles D u vs m (switch off r t)

-- Processes: 004's judgement, with the active set m of rule 5 for its roles: both together.
abbrev pub Typed : Schema → ℕ → List Bound → ℕ → Tree → Type 0
Typed D u vs m t = Kinded D u vs t × ByRoles D u vs m t

-- A whole file: each session's tree under its user, nothing bound; rules 1 to 4 alone, and all of them under its starting mask.
abbrev pub WellKinded : File → Type 0
WellKinded F = All (λ (s : Routine). Kinded (schema_for F) s.user [] s.tree) F.sessions

abbrev pub Obeys : File → Type 0
Obeys F = All (λ (s : Routine). Typed (schema_for F) s.user [] s.mask s.tree) F.sessions
