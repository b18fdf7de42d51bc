-- The 162 words that a run keeps beside its threads, in literal words.
use Prim.Native.Nat.{ℕ}
use mathlib.Core.Path.{◌≡◌, refl}
use mathlib.Core.List.{List, [], ◌∷◌, ◌++◌}
use lib.ListN.{replicate}
use Rattle.masks.specs.Mask.{has, with, names_only}
use Rattle.format.specs.Words.{bytes_of}
use Rattle.format.specs.Answers.{refused}
use Rattle.format.specs.Sections.{spot}
use Rattle.format.specs.Contents.{tabled, item, contents_at}
use Rattle.format.specs.Header.{head_of}
use Rattle.rules.specs.Juniors.{together, effective}
use Rattle.rules.specs.Schema.{permits, permitting_to}
use Rattle.rules.specs.Names.{named, kind_of, mine}
use Rattle.rules.specs.Rules.{names_fit, kinds_fit, able, wrong, child_of}
use Rattle.rules.specs.Checking.{reached, openings_from, rightly}
use Rattle.naming.specs.Scopes.{bind_scope, scope_from, scope_of, marked, node_scope, scopes_in}
use Rattle.steps.specs.Threads.{value, first_free}
use Rattle.steps.specs.Choice.{kind_held, meeting, sending, lone, alone_only, acting, done, outcome}
use Rattle.steps.specs.Beside.{one_more, one_less, cleared, counted}
use Rattle.choices.specs.Choices.{threads_from}
use Rattle.choices.specs.Stored.{tried}
use Rattle.running.specs.Run.{beside_of_run}

-- user 1 has role 1, user 2 roles 1 and 2; role 1 may send on kind 1, role 2 may receive on kinds 1 and 3; channel 1 of user 2 has kind 1.
-- Session 1, of user 1: send user 2 on channel 1. Session 2, of user 2: a fork; the one branch receives on channel 1, the other makes a channel of kind 3 and receives on it.
abbrev pub ward : List ℕ
ward =
    1 ∷ 2 ∷ 2 ∷ 3 ∷ 1 ∷ 2 ∷ 8 ∷ 13 ∷ 15 ∷ 23 ∷ 26 ∷ 28 ∷ 34
    ∷ 1 ∷ 3
    ∷ 1 ∷ 0 ∷ 0 ∷ 0 ∷ 0 ∷ 0 ∷ 5 ∷ 0
    ∷ 0 ∷ 0 ∷ 0
    ∷ 2 ∷ 1
    ∷ 1 ∷ 1 ∷ 1 ∷ 2 ∷ 3 ∷ 3
    ∷ 6 ∷ 257 ∷ 2 ∷ 0 ∷ 0 ∷ 0
    ∷ 1 ∷ 6 ∷ 0 ∷ 5 ∷ 257 ∷ 0 ∷ 0 ∷ 0 ∷ 0 ∷ 3 ∷ 3 ∷ 0 ∷ 5 ∷ 512 ∷ 0 ∷ 0 ∷ 0 ∷ 0 ∷ []

-- after the fork and the made channel, of user 2 and kind 3, thread 2 waits for kind 1 and thread 3 for kind 3; then thread 1 meets thread 2
pub two_wait : beside_of_run (bytes_of ward) (2 ∷ 0 ∷ 3 ∷ 0 ∷ []) ≡ 3 ∷ 1 ∷ 2 ∷ 3 ∷ replicate 126 0 ++ (1 ∷ 0 ∷ 1 ∷ replicate 29 0)
unfolding has with names_only bytes_of head_of tabled item spot contents_at together effective permits permitting_to named kind_of mine names_fit kinds_fit able wrong child_of reached openings_from rightly bind_scope scope_from scope_of marked node_scope scopes_in value first_free kind_held meeting sending lone alone_only acting done outcome one_more one_less cleared counted threads_from tried
two_wait = refl

pub one_is_met : beside_of_run (bytes_of ward) (2 ∷ 0 ∷ 3 ∷ 0 ∷ 1 ∷ 2 ∷ []) ≡ 3 ∷ 1 ∷ 2 ∷ 3 ∷ replicate 126 0 ++ (0 ∷ 0 ∷ 1 ∷ replicate 29 0)
unfolding has with names_only bytes_of head_of tabled item spot contents_at together effective permits permitting_to named kind_of mine names_fit kinds_fit able wrong child_of reached openings_from rightly bind_scope scope_from scope_of marked node_scope scopes_in value first_free kind_held meeting sending lone alone_only acting done outcome one_more one_less cleared counted threads_from tried
one_is_met = refl
