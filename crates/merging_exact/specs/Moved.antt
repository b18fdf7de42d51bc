-- A tree with other operands: those of compare, receive and send are mapped; kinds of new and roles stay.
use Rattle.std.specs.Prelude.{ℕ}
use Rattle.reading_exact.specs.Tree.{Step, repeat, new, compare, receive, send, Tree, end, fork, step, switch}

abbrev pub moved_step : (ℕ → ℕ) → Step → Step
moved_step σ repeat = repeat
moved_step σ (new k) = new k
moved_step σ (compare a b) = compare (σ a) (σ b)
moved_step σ (receive c) = receive (σ c)
moved_step σ (send c v) = send (σ c) (σ v)

unfoldable pub moved_tree : (ℕ → ℕ) → Tree → Tree
moved_tree σ end = end
moved_tree σ (fork a b) = fork (moved_tree σ a) (moved_tree σ b)
moved_tree σ (step s t) = step (moved_step σ s) (moved_tree σ t)
moved_tree σ (switch w r t) = switch w r (moved_tree σ t)
