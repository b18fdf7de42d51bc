use Rattle.format.specs.Contents.{contents_at}
use Rattle.naming.specs.Scopes.{awaited_by}
use Rattle.seats.specs.Seats.{limited_of}
use Rattle.seated.specs.SeatedTables.{seated_in, Seated}
use Rattle.seated.proofs.ListLaws.{LeftSeated}
use Rattle.seated.proofs.list.go_seated.Given as goal

-- The invariant: k choices are done, and what is left from here gives what the whole gives.
abbrev pub invariant-loop-k : goal.invariant-loop-k
invariant-loop-k l = Seated (limited_of (contents_at l.file l.head) l.seats) l.threads l.beside l.owners l.lines
    × LeftSeated (awaited_by l.table) (limited_of (contents_at l.file l.head) l.seats) (seated_in l.initial.threads l.initial.beside l.initial.owners l.initial.lines) l.initial.beside l.choices l.k (seated_in l.threads l.beside l.owners l.lines) l.beside l.waited l.last
