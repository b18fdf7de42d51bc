-- What merging asks of two files that have passed 1 to 10.
use Rattle.std.specs.Prelude.{◌+◌, ◌≤◌, ◌≡◌, length}
use Rattle.format.specs.Contents.{Contents}

-- "Roles and kinds must be the same tables in both": as many records, with the same words
pub record SameTables (C D : Contents) : Type 0 where
  pub roles : C.roles ≡ D.roles
  pub kinds : C.kinds ≡ D.kinds

-- no sum is beyond a count's limit
pub record SumsFit (C D : Contents) : Type 0 where
  pub users : length C.users + length D.users ≤ 32
  pub channels : length C.channels + length D.channels ≤ 64
  pub sessions : length C.sessions + length D.sessions ≤ 32
  pub nodes : length C.nodes + length D.nodes ≤ 1024
