-- What a step does to each thread and made channel of a state, by its number: a second form of the steps, without the states that they name.
use Rattle.std.specs.Prelude.{ℕ, ◌+◌, ◌-◌, ◌≤◌, ◌<◌, ◌≡◌, ◌≢◌, length, get_or, set}
use Rattle.masks.specs.Mask.{with, without}
use Rattle.format.specs.declared.Node.{Node}
use Rattle.steps.specs.declared.Thread.{Thread}
use Rattle.steps.specs.declared.Made.{Made}
use Rattle.steps.specs.Threads.{no_thread, no_made, value, first_free}
use Rattle.steps.specs.Choice.{Clinic, State}
use Rattle.reading_exact.specs.File.{InCount}
use Rattle.running_exact.specs.Steps.{StandsAt}

-- the thread of a number, from 1 on
abbrev pub thread : State → ℕ → Thread
thread s k = get_or s.threads (k - 1) no_thread

-- all threads but those of two numbers are what they were
abbrev pub OthersKept : State → State → ℕ → ℕ → Type 0
OthersKept s s' i p = (k : ℕ) → InCount (length s.threads) k → k ≢ i → k ≢ p → thread s' k ≡ thread s k

-- thread i is now t
pub record Changes (s s' : State) (i : ℕ) (t : Thread) : Type 0 where
  pub count : length s'.threads ≡ length s.threads
  pub changed : thread s' i ≡ t
  pub others : OthersKept s s' i i
  pub made : s'.made ≡ s.made

-- thread i is now t, and u a new last thread
pub record AddsThread (s s' : State) (i : ℕ) (t u : Thread) : Type 0 where
  pub count : length s'.threads ≡ length s.threads + 1
  pub changed : thread s' i ≡ t
  pub last : thread s' (length s.threads + 1) ≡ u
  pub others : OthersKept s s' i i
  pub made : s'.made ≡ s.made

-- thread i is now t, and m a new last made channel
pub record AddsChannel (s s' : State) (i : ℕ) (t : Thread) (m : Made) : Type 0 where
  pub count : length s'.threads ≡ length s.threads
  pub changed : thread s' i ≡ t
  pub others : OthersKept s s' i i
  pub made : length s'.made ≡ length s.made + 1
  pub last : get_or s'.made (length s.made) no_made ≡ m
  pub before : (c : ℕ) → c < length s.made → get_or s'.made c no_made ≡ get_or s.made c no_made

-- thread i is gone, and those after it are one lower
pub record Removes (s s' : State) (i : ℕ) : Type 0 where
  pub count : length s'.threads + 1 ≡ length s.threads
  pub before : (k : ℕ) → 1 ≤ k → k < i → thread s' k ≡ thread s k
  pub after : (k : ℕ) → i ≤ k → k < length s.threads → thread s' k ≡ thread s (k + 1)
  pub made : s'.made ≡ s.made

-- thread i is now t, thread p is now u
pub record ChangesBoth (s s' : State) (i p : ℕ) (t u : Thread) : Type 0 where
  pub count : length s'.threads ≡ length s.threads
  pub apart : i ≢ p
  pub sender : thread s' i ≡ t
  pub receiver : thread s' p ≡ u
  pub others : OthersKept s s' i p
  pub made : s'.made ≡ s.made

-- a thread that has gone on to a node, with that mask; with a value in the first variable that was 0
abbrev pub gone : Thread → ℕ → ℕ → Thread
gone t j m = record { user = t.user; node = j; mask = m; vars = t.vars }

abbrev pub holding : Thread → ℕ → Thread
holding t v = record { user = t.user; node = t.node + 1; mask = t.mask; vars = set t.vars (first_free t.vars) v }

-- what thread i at its node, with partner p, leaves
pub data Effect (C : Clinic) (s s' : State) (i p : ℕ) : Type 0 where
  turned_on : (n : Node) → StandsAt C s i n → n.tag ≡ 7 → p ≡ 0
      → Changes s s' i (gone (thread s i) ((thread s i).node + 1) (with (thread s i).mask n.f1)) → Effect C s s' i p
  turned_off : (n : Node) → StandsAt C s i n → n.tag ≡ 8 → p ≡ 0
      → Changes s s' i (gone (thread s i) ((thread s i).node + 1) (without (thread s i).mask n.f1)) → Effect C s s' i p
  -- the thread takes the first child, a new last thread the second
  forked : (n : Node) → StandsAt C s i n → n.tag ≡ 1 → p ≡ 0
      → AddsThread s s' i (gone (thread s i) ((thread s i).node + 1) (thread s i).mask) (gone (thread s i) n.f1 (thread s i).mask) → Effect C s s' i p
  -- the thread stays, a new last thread takes the child
  repeated : (n : Node) → StandsAt C s i n → n.tag ≡ 2 → p ≡ 0
      → AddsThread s s' i (thread s i) (gone (thread s i) ((thread s i).node + 1) (thread s i).mask) → Effect C s s' i p
  -- made channel c has value 384 + c, the thread's user as owner, and kind f1
  made : (n : Node) → StandsAt C s i n → n.tag ≡ 3 → p ≡ 0
      → AddsChannel s s' i (holding (thread s i) (384 + (length s.made + 1))) (record { owner = (thread s i).user; kind = record { 0 = n.f1 } }) → Effect C s s' i p
  compared : (n : Node) → StandsAt C s i n → n.tag ≡ 4 → p ≡ 0
      → Changes s s' i (gone (thread s i) ((thread s i).node + 1) (thread s i).mask) → Effect C s s' i p
  ended : (n : Node) → StandsAt C s i n → n.tag ≡ 0 → p ≡ 0 → Removes s s' i → Effect C s s' i p
  -- both move, and the receive's variable takes the value sent
  met : (n m : Node) → StandsAt C s i n → n.tag ≡ 6 → StandsAt C s p m → m.tag ≡ 5
      → ChangesBoth s s' i p (gone (thread s i) ((thread s i).node + 1) (thread s i).mask) (holding (thread s p) (value (thread s i) n.f2)) → Effect C s s' i p
