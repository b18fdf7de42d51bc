-- What an operand names: 1 to 32 a user, 257 to 320 channel 1 to 64, 512 to 519 the variable bound first to eighth on the path.
use Rattle.std.specs.Prelude.{ℕ, ◌+◌, ◌<◌, ◌≡◌, length}
use Rattle.format.specs.Contents.{Contents, item, no_channel}
use Rattle.reading_exact.specs.File.{InCount}

pub data Item : Type 0 where
  user channel variable : ℕ → Item

-- in a file that holds C, below so many binders, operand x names an item
pub data Names (C : Contents) (binders x : ℕ) : Item → Type 0 where
  a_user : (u : ℕ) → InCount (length C.users) u → x ≡ u → Names C binders x (user u)
  a_channel : (c : ℕ) → InCount (length C.channels) c → x ≡ 256 + c → Names C binders x (channel c)
  a_variable : (i : ℕ) → i < binders → x ≡ 512 + i → Names C binders x (variable i)

-- after so many users and channels: "all numbers shifted"; a variable is the same one
abbrev pub later : ℕ → ℕ → Item → Item
later users channels (user u) = user (users + u)
later users channels (channel c) = channel (channels + c)
later users channels (variable i) = variable i

-- where an operand, a user and a channel of a file that holds C stand in one that holds D, after so many users and channels: a user has the mask, a channel the kind that it had, and the owner that it named
pub record Stands (C D : Contents) (users channels : ℕ) (σ : ℕ → ℕ) : Type 0 where
  pub names : (binders x : ℕ) (i : Item) → Names C binders x i → Names D binders (σ x) (later users channels i)
  pub user : (u : ℕ) → InCount (length C.users) u → item 0 D.users (users + u) ≡ item 0 C.users u
  pub channel : (c : ℕ) → InCount (length C.channels) c
      → item no_channel D.channels (channels + c) ≡ record { owner = users + (item no_channel C.channels c).owner; kind = (item no_channel C.channels c).kind }
