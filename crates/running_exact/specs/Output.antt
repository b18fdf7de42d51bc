-- The output of a run, word by word: choices done, refusal (0 if none), threads, made channels; per made channel owner and kind; per thread user, node, mask, the number of roles it
-- holds, its eight variables. Nothing past that is written.
use Rattle.std.specs.Prelude.{ℕ, ◌+◌, ◌*◌, ◌-◌, ◌≤◌, ◌<◌, ◌≡◌, ◌↔◌, true, length, get_or, drop}
use mathlib.Core.List.{List, Memᴰ, Nodup}
use Rattle.masks.specs.Mask.{has}
use Rattle.format.specs.Words.{word_at}
use Rattle.steps.specs.declared.Thread.{Thread}
use Rattle.steps.specs.declared.Made.{Made}
use Rattle.steps.specs.Threads.{no_thread, no_made}
use Rattle.choices.specs.Choices.{Ran}
use Rattle.reading_exact.specs.File.{InCount}

-- n is the number of the roles 1 to 16 that a mask has: a list of them all, each once, has that length
abbrev pub RolesHeld : ℕ → ℕ → Type 0
RolesHeld mask n = (rs : List ℕ) × Nodup rs × ((r : ℕ) → Memᴰ r rs ↔ (InCount 16 r × (has mask r ≡ true))) × (length rs ≡ n)

-- where made channel j's two words begin, and thread i's twelve
abbrev pub made_place : ℕ → ℕ
made_place j = 4 + 2 * (j - 1)

abbrev pub thread_place : ℕ → ℕ → ℕ
thread_place made i = 4 + 2 * made + 12 * (i - 1)

-- how many bytes a state of so many made channels and threads has
abbrev pub state_bytes : ℕ → ℕ → ℕ
state_bytes made threads = 2 * (4 + 2 * made + 12 * threads)

-- the words of a made channel, from p on, and of a thread
abbrev pub MadeAt : List ℕ → ℕ → Made → Type 0
MadeAt out p m = (word_at out p ≡ m.owner) × (word_at out (p + 1) ≡ m.kind.0)

pub record ThreadAt (out : List ℕ) (p : ℕ) (t : Thread) : Type 0 where
  pub user : word_at out p ≡ t.user
  pub node : word_at out (p + 1) ≡ t.node
  pub mask : word_at out (p + 2) ≡ t.mask
  pub roles : RolesHeld t.mask (word_at out (p + 3))
  pub vars : (v : ℕ) → v < 8 → word_at out (p + 4 + v) ≡ get_or t.vars v 0

-- what a run leaves in an output that held old
pub record Written (r : Ran) (old out : List ℕ) : Type 0 where
  pub done : word_at out 0 ≡ r.count
  pub refusal : word_at out 1 ≡ r.refusal
  pub threads : word_at out 2 ≡ length r.state.threads
  pub made : word_at out 3 ≡ length r.state.made
  pub each_made : (j : ℕ) → InCount (length r.state.made) j → MadeAt out (made_place j) (get_or r.state.made (j - 1) no_made)
  pub each_thread : (i : ℕ) → InCount (length r.state.threads) i → ThreadAt out (thread_place (length r.state.made) i) (get_or r.state.threads (i - 1) no_thread)
  pub size : state_bytes (length r.state.made) (length r.state.threads) ≤ 1800
  pub past : drop (state_bytes (length r.state.made) (length r.state.threads)) out ≡ drop (state_bytes (length r.state.made) (length r.state.threads)) old
  pub length : length out ≡ length old
