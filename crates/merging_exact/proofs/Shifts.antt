-- What the shift does to each sort of operand.
use Prim.Native.Nat.{ℕ, ◌+◌, ◌≤◌, ◌<◌}
use mathlib.Core.Path.{◌≡◌, refl}
use mathlib.Core.Bool.{Bool, true, false, cond, ◌&&◌, and-eq-true_iff}
use native.Mathlib.Omega.{arith}
use lib.Dec.{leb, ltb}
use borrow.Author.Tests.{lt-ltb, lt-leb, le-leb}
use Rattle.format.proofs.BoolLaws.{le_iff}
use Rattle.format.proofs.ContentsLaws.{in_count_iff}
use Rattle.format.specs.Contents.{in_count}
use Rattle.reading_exact.specs.Tree.{Step, repeat, new, compare, receive, send, Tree, end, fork, step, switch, Worded, StepWorded}
use Rattle.reading_exact.specs.File.{InCount}
use Rattle.merging_exact.specs.Moved.{moved_step, moved_tree}
use Rattle.merging.specs.Merged.{shifted}

module _ (users channels : ℕ) where
  pub shift_user : (x : ℕ) → InCount 32 x → shifted users channels x ≡ users + x
  unfolding shifted
  shift_user x c = rw ((in_count_iff 32 x).1 c)

  not_user : (x : ℕ) → 32 < x → in_count 32 x ≡ false
  not_user x l = let no : leb x 32 ≡ false = lt-leb x 32 l in rw (lt-ltb 0 x (omega arith), no)

  pub shift_channel : (c : ℕ) → InCount 64 c → shifted users channels (256 + c) ≡ 256 + (channels + c)
  unfolding shifted
  shift_channel c n =
      let e : channels + (256 + c) ≡ 256 + (channels + c) = omega arith in
      rw (not_user (256 + c) (omega arith), lt-ltb 256 (256 + c) (omega arith), le-leb (256 + c) 320 (omega arith)) e

  pub shift_variable : (i : ℕ) → shifted users channels (512 + i) ≡ 512 + i
  unfolding shifted
  shift_variable i =
      let no : leb (512 + i) 320 ≡ false = lt-leb (512 + i) 320 (omega arith) in
      rw (not_user (512 + i) (omega arith), lt-ltb 256 (512 + i) (omega arith), no)

  module _ (few : users ≤ 32) (low : channels ≤ 64) where
    -- an operand that is a word stays one
    shift_word : (x : ℕ) → x < 65536 → shifted users channels x < 65536
    unfolding shifted
    shift_word x l = go (in_count 32 x) (ltb 256 x && leb x 320) refl refl
      where
        go : (a b : Bool) → in_count 32 x ≡ a → (ltb 256 x && leb x 320) ≡ b → cond a (users + x) (cond b (channels + x) x) < 65536
        go true b e f = omega (arith, ((in_count_iff 32 x).0 e).1)
        go false true e f = omega (arith, (le_iff x 320).0 ((and-eq-true_iff (ltb 256 x) (leb x 320)).0 f).1)
        go false false e f = l

    step_worded : (s : Step) → StepWorded s → StepWorded (moved_step (shifted users channels) s)
    step_worded repeat h = tt
    step_worded (new k) h = h
    step_worded (compare a b) h = (shift_word a h.0, shift_word b h.1)
    step_worded (receive c) h = shift_word c h
    step_worded (send c v) h = (shift_word c h.0, shift_word v h.1)

    pub moved_worded : (t : Tree) → Worded t → Worded (moved_tree (shifted users channels) t)
    unfolding moved_tree
    moved_worded end h = tt
    moved_worded (fork a b) h = (moved_worded a h.0, moved_worded b h.1)
    moved_worded (step s t) h = (step_worded s h.0, moved_worded t h.1)
    moved_worded (switch w r t) h = (h.0, moved_worded t h.1)
