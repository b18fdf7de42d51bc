-- What is promised of placing for a minute, what gives cause for each of its refusals, and what is left of a file before 15.
use Rattle.std.specs.Prelude.{ℕ, ◌≤◌, ◌<◌, ◌≡◌, List, length}
use Rattle.format.specs.Answers.{fine}
use Rattle.format.specs.Header.{room_for}
use Rattle.format.specs.Contents.{contents_of}
use Rattle.checking.specs.Check.{reading_names}
use Rattle.hours.specs.Hours.{TableFits, shut}
use Rattle.checking_at.specs.CheckAt.{checking_at}
use Rattle.placing.specs.declared.Placed.{Placed}
use Rattle.placing.specs.Placing.{turns_for}
use Rattle.placing_at.specs.PlaceAt.{open_contents, turns_at, placed_bytes_at}
use Rattle.reading_exact.specs.Tree.{Tree}
use Rattle.reading_exact.specs.File.{File, WellFormed, encode, ReadsAs}
use Rattle.reading_exact.specs.Order.{OfFile}
use Rattle.checking_exact.specs.Tables.{schema_for}
use Rattle.checking_exact.specs.Faults.{Objection}
use Rattle.placing_exact.specs.Placement.{graft}
use Rattle.placing_exact.specs.Placed.{insert_all}
use Rattle.placing_exact.specs.Counts.{on_nodes}
use Rattle.placing_exact.specs.Causes.{SomeMask, IsSwitch, Unserved, PlacedWith}
use Rattle.placing_exact.specs.Promised.{WellPlaced, Ruled}
use Rattle.hours_exact.specs.OpenFile.{open_file, RowsFit}
use Rattle.hours_exact.specs.HourFaults.{TableFault, RowFault}

-- f is the input's bytes, t the table of hours, m the minute, a the answer, g the bytes of the placed file
pub record WellPlacedAt (f t : List ℕ) (m : ℕ) (a : Placed) (g : List ℕ) : Type 0 where
  pub file : File
  pub formed : WellFormed file
  pub reads : ReadsAs f file
  pub trees : List Tree
  -- the trees are those of the file as it stands at the minute, well placed: a placement of it with the fewest on steps of all, by the tie rule
  pub stands : WellPlaced (encode (open_file t m file)) a (encode (graft (open_file t m file) trees))
  -- it has its input's users, with their whole masks, roles, kinds and channels, its sessions' users and starting masks
  pub writes : encode (graft file trees) ≡ g
  -- it passes the check at that minute
  pub passes : checking_at g t m ≡ fine
  -- its length in bytes
  pub sized : a.length ≡ length g
  -- the count returned is the number of on steps in the file returned
  pub counted : a.on_steps ≡ on_nodes (contents_of g).nodes

-- nothing before 15 refuses: 17, 22, 1 to 8, 23, 9 and 10, 14 (masks before nodes)
pub record UnrefusedAt (f t : List ℕ) (m room : ℕ) : Type 0 where
  pub wide : room_for f ≤ room
  pub table : TableFits t m
  pub names : reading_names f ≡ fine
  pub rows : RowsFit (length (contents_of f).roles) t
  pub masks : SomeMask (contents_of f) → ⊥
  pub switches : (p : ℕ) → IsSwitch (contents_of f).nodes p → ⊥

-- of the bytes of the file as it stands at the minute
abbrev pub Standing : (List ℕ → Type 0) → List ℕ → List ℕ → ℕ → Type 0
Standing P f t m = (F : File) × ReadsAs f F × P (encode (open_file t m F))

-- a refusal's number and place have their cause in a file, a table of hours, a minute and the room for the output
pub data CauseAt (f t : List ℕ) (m room n p : ℕ) : Type 0 where
  no_room : n ≡ 17 → p ≡ 0 → room < room_for f → CauseAt f t m room n p
  bad_table : n ≡ 22 → p ≡ 0 → TableFault t m → CauseAt f t m room n p
  -- 1 to 10, 21 among them
  objected : OfFile n → Objection f n p → CauseAt f t m room n p
  bad_row : n ≡ 23 → RowFault (length (contents_of f).roles) t p → CauseAt f t m room n p
  masked : n ≡ 14 → p ≡ 0 → SomeMask (contents_of f) → CauseAt f t m room n p
  switched : n ≡ 14 → IsSwitch (contents_of f).nodes p → CauseAt f t m room n p
  -- 15: no open role of the user permits the node
  unserved : n ≡ 15 → Unserved (open_contents (shut t m) (contents_of f)) p → CauseAt f t m room n p
  -- 16: the result has over 1,024 nodes (place 0)
  too_large : n ≡ 16 → p ≡ 0 → Standing (PlacedWith (λ k. 1024 < k)) f t m → CauseAt f t m room n p

-- The tie rule for a minute: it fixes one list of states of the file as it stands then; they are taken, and the file written has these states.
pub record RuledAt (f t : List ℕ) (m : ℕ) (F : File) : Type 0 where
  pub stands : Ruled (encode (open_file t m F)) (open_file t m F)
  pub taken : turns_at f t m ≡ turns_for (contents_of (encode (open_file t m F)))
  pub written : placed_bytes_at f t m ≡ encode (graft F (insert_all (schema_for (open_file t m F)) F.sessions stands.states))
