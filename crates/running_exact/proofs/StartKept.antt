-- The start: each session's thread stands at its root in the session's opening, with its user and its mask.
use Prim.Native.Nat.{ℕ, zero, suc}
use mathlib.Core.Path.{◌≡◌, refl, ap}
use mathlib.Core.Bool.{Bool, true, false, and-eq-true_iff}
use mathlib.Core.List.{List, [], ◌∷◌}
use native.Mathlib.Omega.{arith}
use lib.ListN.{length}
use Rattle.masks.specs.Mask.{Within}
use Rattle.masks.specs.Mask.{within as within-mask}
use Rattle.masks.proofs.Bounds.{within_iff}
use Rattle.format.specs.Contents.{Contents, in_count, item, no_session, contents_of}
use Rattle.format.specs.Answers.{fine}
use Rattle.format.specs.Header.{head_at}
use Rattle.format.specs.declared.Session.{Session}
use Rattle.format.specs.declared.Section.TheVariants.{Sessions}
use Rattle.format.proofs.ContentsLaws.{in_count_iff, sessions_held}
use Rattle.tables.specs.Records.{record_fits}
use Rattle.checking.specs.Check.{reading_names}
use Rattle.rules.specs.Schema.{schema_of}
use Rattle.rules.specs.Rules.{Context}
use Rattle.steps.specs.declared.Thread.{Thread}
use Rattle.steps.specs.Threads.{zeros}
use Rattle.choices.specs.Choices.{threads_from, start}
use Rattle.reading_exact.specs.Lists.{All}
use Rattle.reading_exact.specs.File.{InCount}
use Rattle.reading_exact.specs.Refusals.{unassigned}
use Rattle.reading_exact.proofs.RecordsObjected.{bad_session}
use Rattle.running_exact.specs.Keeps.{Fits, Reaches, Kept}
use Rattle.running_exact.proofs.FileNodes.{opening, refusable_none, laid, root_stands}

-- a session's thread
abbrev seated : Session → Thread
seated s = record { user = s.user; node = s.root; mask = s.mask; vars = zeros }

pub threads_length : (ss : List Session) → length (threads_from ss) ≡ length ss
unfolding threads_from
threads_length [] = refl
threads_length (s ∷ ss) = ap suc (threads_length ss)

-- what holds of each session's thread holds of all threads at the start
all_threads : (P : Thread → Type 0) (ss : List Session) → ((k : ℕ) → InCount (length ss) k → P (seated (item no_session ss k))) → All P (threads_from ss)
unfolding threads_from item
all_threads P [] h = tt
all_threads P (s ∷ ss) h = (h 1 (omega arith, omega arith), all_threads P ss next)
  where
    next : (k : ℕ) → InCount (length ss) k → P (seated (item no_session ss k))
    next zero n = let no : ⊥ = omega arith in absurd no
    next (suc k) n = h (suc (suc k)) (omega arith, omega arith)

module _ (f : List ℕ) (clean : reading_names f ≡ fine) where
  abbrev C : Contents
  C = contents_of f

  abbrev session : ℕ → Session
  session k = item no_session C.sessions k

  -- a session's user is there, and its starting roles are assigned
  pub session_seated : (k : ℕ) → InCount (length C.sessions) k
      → InCount (length C.users) (session k).user × Within (session k).mask (item 0 C.users (session k).user)
  unfolding record_fits
  session_seated k n = go (record_fits C Sessions k) refl
    where
      go : (b : Bool) → record_fits C Sessions k ≡ b
          → InCount (length C.users) (session k).user × Within (session k).mask (item 0 C.users (session k).user)
      go true e =
          let (p, q) = (and-eq-true_iff (in_count (length C.users) (session k).user) (within-mask (session k).mask (item 0 C.users (session k).user))).0 e in
          ((in_count_iff (length C.users) (session k).user).0 p, (within_iff (session k).mask (item 0 C.users (session k).user)).0 q)
      go false e = absurd (refusable_none f clean 7 k (unassigned refl (bad_session (head_at f) C k (n, e))))

  seat_fits : (k : ℕ) → InCount (length C.sessions) k → Fits (schema_of C) [] (opening (session k)) (seated (session k))
  seat_fits k n =
      let (u, w) = session_seated k n in
      record {
        user = refl;
        counted = u;
        mask = w;
        eight = refl;
        vars = (refl, (refl, (refl, (refl, (refl, (refl, (refl, (refl, tt))))))));
      }

  -- the start is a state of a run
  pub start_fits : Kept C (start C)
  start_fits = record {
    threads = all_threads (λ (t : Thread). (c : Context) × Reaches C t c × Fits (schema_of C) [] c t × (t.mask ≡ c.mask)) C.sessions
        (λ k n. (opening (session k), root_stands f clean k n, seat_fits k n, refl));
    made = tt;
    few_threads = omega (arith, threads_length C.sessions, sessions_held f (head_at f), (laid f clean).sessions);
    few_made = omega arith;
  }
