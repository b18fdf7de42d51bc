-- The cases of sheets, computed on the definitions.
use mathlib.Core.Path.{refl}
use Rattle.masks.specs.Mask.{has, with, names_only, within}
use Rattle.format.specs.Words.{bytes_of}
use Rattle.format.specs.Answers.{first_of}
use Rattle.format.specs.Header.{from1, from2, from3, from4, from5, head_of}
use Rattle.format.specs.Sections.{spot}
use Rattle.format.specs.Contents.{tabled, item, contents_at}
use Rattle.tables.specs.Records.{record_fits, section_answer, records_answer}
use Rattle.trees.specs.Ends.{following}
use Rattle.trees.specs.Shape.{node_fits, shape_from, roots, shape_answer}
use Rattle.reading.specs.Reading.{reading}
use Rattle.rules.specs.Juniors.{together, effective}
use Rattle.rules.specs.Schema.{permits, permitting_to}
use Rattle.rules.specs.Names.{named, kind_of, mine}
use Rattle.rules.specs.Rules.{names_fit, kinds_fit, able, wrong, child_of}
use Rattle.rules.specs.Checking.{reached, openings_from, first_by, rightly, names_answer}
use Rattle.rules.specs.Candidates.{candidates, candidates_in}
use Rattle.checking.specs.Check.{reading_names}
use Rattle.optimum.specs.Optimum.{scan, gate}
use Rattle.states.specs.States.{suits, up, row_of, taken, rows, turns_from, turns_of, labelled}
use Rattle.groups.specs.Groups.{before, sizes_of, ons_of}
use Rattle.placing.specs.Placing.{masks_answer, switches_answer, unserved_from, placeable, judging}
use Rattle.reading_exact.specs.Lists.{All}
use Rattle.sheets.specs.Files.{said, whole_up_to}
use Rattle.sheets.specs.Sheets.{tally, sheet_for, sheet_of}
use Rattle.sheets.specs.Entries.{most_from, entry_of}
use Rattle.sheets_exact.specs.SheetCases.{SheetShown, sheet_cases}

pub sheets_shown : All SheetShown sheet_cases
unfolding has with names_only within bytes_of first_of from1 from2 from3 from4 from5 head_of tabled item spot contents_at record_fits section_answer records_answer following node_fits shape_from roots shape_answer reading together effective permits permitting_to named kind_of mine names_fit kinds_fit able wrong child_of reached openings_from first_by rightly names_answer candidates candidates_in reading_names scan gate suits up row_of taken rows turns_from turns_of labelled before sizes_of ons_of masks_answer switches_answer unserved_from placeable judging said whole_up_to tally sheet_for sheet_of most_from entry_of
sheets_shown = (refl, (refl, (refl, (refl, (refl, tt)))))
