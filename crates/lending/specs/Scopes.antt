-- The table by which code judges a thread and counts those that wait: what each node is reached with, as one number.
use Rattle.std.specs.Prelude.{ℕ, ◌%◌, ◌^◌, ◌≤◌, ◌<◌, ◌≡◌, true, List, length, get_or}
use Rattle.format.specs.Contents.{Contents, in_count}
use Rattle.rules.specs.Names.{Bound}
use Rattle.rules.specs.Rules.{Context}
use Rattle.naming.specs.Scopes.{scope_of, awaited_by, awaits}
use Rattle.reading_exact.specs.Lists.{All}
use Rattle.lending.specs.Lent.{context_at}

-- what a context is in a file that 1 to 10 let through
pub record Narrow (c : Context) : Type 0 where
  pub user : c.user < 64
  pub bound : length c.vars ≤ 8
  pub kinds : All (λ (b : Bound). b.sort < 64) c.vars

-- a table that has for every node what its context is as one number, and above it the kind that a thread there waits for
pub record Scoped (C : Contents) (table : List ℕ) : Type 0 where
  pub contexts : (j : ℕ) → in_count (length C.nodes) j ≡ true → (get_or table j 0 % 2 ^ 58 ≡ scope_of (context_at C j)) × Narrow (context_at C j)
  pub kinds : (j : ℕ) → awaited_by table j ≡ awaits C j
