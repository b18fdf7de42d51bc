-- What 1 to 10 leave of a file's nodes: each one that is reached is there, its names and kinds are right, and what it leads to is there in its context.
use Prim.Native.Nat.{ℕ, zero, suc, ◌-◌, ◌≤◌, ◌<◌}
use mathlib.Core.Path.{◌≡◌, refl, sym, ap, ◌∙◌, subst}
use mathlib.Core.Logic.{◌⊎◌}
use mathlib.Core.List.{List, [], ◌∷◌}
use native.Mathlib.Omega.{arith}
use lib.ListN.{length, get_or, length-map, get_or-map}
use Rattle.format.specs.Contents.{Contents, item, no_session, contents_of}
use Rattle.format.specs.Answers.{fine}
use Rattle.format.specs.Header.{head_at, Laid}
use Rattle.format.specs.declared.Session.{Session}
use Rattle.format.specs.declared.Node.{Node}
use Rattle.format.proofs.ContentsLaws.{item_get, users_held, channels_held}
use Rattle.reading.proofs.ReadingLaws.{reading_iff}
use Rattle.checking.specs.Check.{reading_names, checking}
use Rattle.rules.specs.Schema.{Schema, schema_of}
use Rattle.rules.specs.Rules.{Context, wrong, barred, child_of}
use Rattle.rules.specs.Checking.{openings_from, openings, names_answer, roles_answer}
use Rattle.reading_exact.specs.File.{InCount}
use Rattle.reading_exact.specs.Refusals.{nth, OneChild, Misshapen, Refusable, misshapen, ReachedWith}
use Rattle.reading_exact.proofs.Standing.{roots_in}
use Rattle.reading_exact.proofs.ShapeFirst.{low_tag_lem}
use Rattle.reading_exact.proofs.FirstRefusal.{reading_fine}
use Rattle.checking_exact.specs.Faults.{nowhere, InContext, root, child, first_child, second_child}
use Rattle.checking_exact.proofs.OperandKinds.{Ranged, laid_ranged}
use Rattle.checking_exact.proofs.FirstNode.{all_held}
use Rattle.checking_exact.proofs.CheckFirst.{names_fine, check_fine}
use Rattle.running_exact.proofs.ReachedNodes.{reached_in, root_due, second_follows, room_left, context_reached}
use Rattle.running_exact.proofs.HeldValues.{Apart}

-- a session's opening: its user, its starting mask and nothing bound
abbrev pub opening : Session → Context
opening s = record { user = s.user; mask = s.mask; vars = [] }

-- the sessions' openings, one each
pub openings_length : (ss : List Session) → length (openings_from ss) ≡ length ss
unfolding openings_from
openings_length [] = refl
openings_length (s ∷ ss) = ap suc (openings_length ss)

-- as many root words
pub roots_length : (ss : List Session) → length (roots_in ss) ≡ length ss
roots_length ss = length-map ss _

opened_get : (ss : List Session) (i : ℕ) → get_or (openings_from ss) i nowhere ≡ opening (get_or ss i no_session)
unfolding openings_from
opened_get [] i = refl
opened_get (s ∷ ss) zero = refl
opened_get (s ∷ ss) (suc i) = opened_get ss i

-- each session's opening
pub opening_get : (ss : List Session) (k : ℕ) → 1 ≤ k → get_or (openings_from ss) (k - 1) nowhere ≡ opening (item no_session ss k)
opening_get ss k p = opened_get ss (k - 1) ∙ ap opening (sym (item_get no_session ss k p))

root_get : (ss : List Session) (k : ℕ) → 1 ≤ k → get_or (roots_in ss) (k - 1) 0 ≡ (item no_session ss k).root
root_get ss k p = get_or-map (λ (s : Session). s.root) ss (k - 1) no_session ∙ ap (λ (s : Session). s.root) (sym (item_get no_session ss k p))

-- node j is there, in the context c
abbrev pub StandsIn : Contents → ℕ → Context → Type 0
StandsIn C j c = InCount (length C.nodes) j × InContext (schema_of C) C.nodes (openings C) j c

module _ (f : List ℕ) where
  abbrev C : Contents
  C = contents_of f

  abbrev D : Schema
  D = schema_of C

  abbrev ns : List Node
  ns = C.nodes

  abbrev roots : List ℕ
  roots = roots_in C.sessions

  module _ (clean : reading_names f ≡ fine) where
    -- none of 1 to 8 holds
    pub refusable_none : (n p : ℕ) → Refusable f n p → ⊥
    refusable_none = (reading_fine f).0 ((names_fine f).0 clean).0

    -- counts are in range
    pub laid : Laid f (head_at f)
    laid = ((reading_iff f).0 ((names_fine f).0 clean).0).0.laid

    -- users, channels and made channels have values apart
    pub apart : Apart D
    apart = record { users = omega (arith, users_held f (head_at f), laid.users); channels = omega (arith, channels_held f (head_at f), laid.channels) }

    -- users, channels and variables are named apart
    pub ranged : Ranged D
    ranged = laid_ranged f (head_at f) laid

    shaped : (p : ℕ) → Misshapen ns roots p → ⊥
    shaped p m = refusable_none 8 p (misshapen refl m)

    reached : {j : ℕ} {c : Context} → InContext D ns (openings C) j c → ReachedWith ns (length roots) j (length c.vars)
    reached =
        context_reached ns roots shaped D (openings C) (openings_length C.sessions ∙ sym (roots_length C.sessions))
        (λ k. ap (λ (c : Context). length c.vars) (opened_get C.sessions k))

    stands_there : {j : ℕ} {c : Context} → InContext D ns (openings C) j c → StandsIn C j c
    stands_there h = (reached_in ns roots shaped (reached h), h)

    -- tags are 0 to 8
    pub tag_low : (j : ℕ) → InCount (length ns) j → (nth ns j).tag ≤ 8
    tag_low = low_tag_lem ns roots shaped

    -- where a node leads
    pub child_stands : {j : ℕ} {c : Context} → StandsIn C j c → OneChild (nth ns j).tag → StandsIn C (suc j) (child_of D c (nth ns j))
    child_stands (i, h) o = stands_there (child i o h)

    -- a fork leads to the next node
    pub first_stands : {j : ℕ} {c : Context} → StandsIn C j c → (nth ns j).tag ≡ 1 → StandsIn C (suc j) c
    first_stands (i, h) t = stands_there (first_child i t h)

    -- and to the node that its f1 names
    pub second_stands : {j : ℕ} {c : Context} → StandsIn C j c → (nth ns j).tag ≡ 1 → StandsIn C (nth ns j).f1 c
    second_stands (i, h) t = stands_there (second_child i t h (second_follows ns roots shaped (reached h) t))

    -- at most eight variables on a path
    pub binder_room : {j : ℕ} {c : Context} → StandsIn C j c → ((nth ns j).tag ≡ 3) ⊎ ((nth ns j).tag ≡ 5) → length c.vars < 8
    binder_room (i, h) t = room_left ns roots shaped (reached h) t

    -- names and kinds are right
    pub names_clear : (j : ℕ) (c : Context) → StandsIn C j c → wrong D c (nth ns j) ≡ 0
    unfolding names_answer
    names_clear j c (i, h) = all_held D ns (openings C) (wrong D) tag_low ((names_fine f).0 clean).1 j c (h, i)

    -- and where the file passes the check, roles are
    pub roles_clear : checking f ≡ fine → (j : ℕ) (c : Context) → StandsIn C j c → barred D c (nth ns j) ≡ 0
    unfolding roles_answer
    roles_clear passes j c (i, h) = all_held D ns (openings C) (barred D) tag_low ((check_fine f).0 passes).1 j c (h, i)

    -- each session's root is reached in its opening
    pub root_stands : (k : ℕ) → InCount (length C.sessions) k → StandsIn C (item no_session C.sessions k).root (opening (item no_session C.sessions k))
    root_stands k n =
        let a : InCount (length roots) k = (n.0, omega (arith, roots_length C.sessions)) in
        let b : InCount (length (openings C)) k = (n.0, omega (arith, openings_length C.sessions)) in
        subst (λ (j : ℕ). StandsIn C j (opening (item no_session C.sessions k))) (root_get C.sessions k n.0)
        (subst (StandsIn C (get_or roots (k - 1) 0)) (opening_get C.sessions k n.0) (stands_there (root b (root_due ns roots shaped k a))))
