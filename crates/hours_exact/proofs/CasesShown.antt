-- The cases with hours, computed on the definitions.
use mathlib.Core.Path.{refl}
use Rattle.masks.specs.Mask.{has, with, without, minus, names_only, within}
use Rattle.format.specs.Words.{bytes_of}
use Rattle.format.specs.Answers.{first_of}
use Rattle.format.specs.Header.{from1, from2, from3, from4, from5, head_of}
use Rattle.format.specs.Contents.{tabled, item, contents_at}
use Rattle.format.specs.Sections.{spot}
use Rattle.format.specs.Writing.{role_words, channel_words, session_words, node_rows, node_columns, table_words, file_words, encoded}
use Rattle.tables.specs.Records.{record_fits, section_answer, records_answer}
use Rattle.trees.specs.Ends.{following}
use Rattle.trees.specs.Shape.{node_fits, shape_from, roots, shape_answer}
use Rattle.reading.specs.Reading.{reading}
use Rattle.rules.specs.Juniors.{together, effective}
use Rattle.rules.specs.Schema.{permits, permitting_to}
use Rattle.rules.specs.Names.{named, kind_of, mine}
use Rattle.rules.specs.Rules.{names_fit, kinds_fit, able, wrong, barred, child_of}
use Rattle.rules.specs.Checking.{reached, openings_from, first_by, rightly, names_answer, roles_answer}
use Rattle.rules.specs.Candidates.{candidates, candidates_in}
use Rattle.hours.specs.Hours.{table_answer, rows_answer, roles_of, shut}
use Rattle.checking_at.specs.CheckAt.{shut_answer, roles_answer_at, reading_at, reading_names_at, checking_at}
use Rattle.optimum.specs.Optimum.{scan, gate}
use Rattle.states.specs.States.{suits, up, row_of, taken, rows, turns_from, turns_of, labelled}
use Rattle.groups.specs.Groups.{before, sizes_of, ons_of, starts_from, groups_from, sessions_from}
use Rattle.placing.specs.Placing.{masks_answer, switches_answer, unserved_from, placeable}
use Rattle.placing_at.specs.PlaceAt.{judging_at, measuring_at, placing_at, placed_bytes_at}
use Rattle.reading_exact.specs.Lists.{All}
use Rattle.hours_exact.specs.HourCases.{Shown, mondays, cases}

pub hours_shown : All Shown cases
unfolding has with without minus names_only within bytes_of first_of from1 from2 from3 from4 from5 head_of tabled item spot contents_at role_words channel_words session_words node_rows node_columns table_words file_words encoded record_fits section_answer records_answer following node_fits shape_from roots shape_answer reading together effective permits permitting_to named kind_of mine names_fit kinds_fit able wrong barred child_of reached openings_from first_by rightly names_answer roles_answer candidates candidates_in table_answer rows_answer roles_of shut shut_answer roles_answer_at reading_at reading_names_at checking_at scan gate suits up row_of taken rows turns_from turns_of labelled before sizes_of ons_of starts_from groups_from sessions_from masks_answer switches_answer unserved_from placeable judging_at measuring_at placing_at placed_bytes_at mondays
hours_shown =
    (refl, (refl, (refl, (refl, (refl, ((refl, refl), (refl, ((refl, refl), ((refl, refl), (refl, ((refl, refl), (refl, (refl, (refl, (refl, (refl, (refl, (refl, (refl, (refl, (refl, (refl, ((refl, refl), (refl, (refl, (refl, (refl, (refl, (refl, (refl, (refl, (refl, (refl, (refl, (refl, (refl, ((refl, refl), tt)))))))))))))))))))))))))))))))))))))
