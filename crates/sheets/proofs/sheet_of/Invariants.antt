use mathlib.Core.Path.{◌≡◌}
use lib.ListN.{length}
use Rattle.sheets.specs.Sheets.{Small}
use Rattle.sheets.specs.Entries.{entry_of}
use Rattle.sheets.proofs.Loop.{Going}
use Rattle.sheets.proofs.sheet_of.Given as goal

abbrev pub invariant-loop : goal.invariant-loop
invariant-loop l = record {
  files : l.s.files ≡ l.counter;
  small : Small l.s;
  going : Going entry_of l.fn.input l.s l.rest;
  roles : length l.roles ≡ 1025;
  turns : length l.turns ≡ 1025;
  starts : length l.starts ≡ 1025;
}
