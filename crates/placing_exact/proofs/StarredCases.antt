-- The starred cases, and cases of versions 2 and 3 and of zero bytes, computed on the definitions.
use mathlib.Core.Path.{refl}
use Rattle.masks.specs.Mask.{has, with, without, names_only, within}
use Rattle.format.specs.Words.{bytes_of}
use Rattle.format.specs.Answers.{first_of}
use Rattle.format.specs.Header.{from1, from2, from3, from4, from5, head_of}
use Rattle.format.specs.Contents.{tabled, item, contents_at}
use Rattle.format.specs.Sections.{spot}
use Rattle.format.specs.Writing.{role_words, channel_words, session_words, node_rows, node_columns, table_words, file_words, encoded}
use Rattle.tables.specs.Records.{record_fits, section_answer, records_answer}
use Rattle.trees.specs.Ends.{following}
use Rattle.trees.specs.Shape.{node_fits, shape_from, roots, shape_answer}
use Rattle.reading.specs.Reading.{reading}
use Rattle.rules.specs.Juniors.{together, effective}
use Rattle.rules.specs.Schema.{permits, permitting_to}
use Rattle.rules.specs.Names.{named, kind_of, mine}
use Rattle.rules.specs.Rules.{names_fit, kinds_fit, able, wrong, barred, child_of}
use Rattle.rules.specs.Checking.{reached, openings_from, first_by, rightly, names_answer, roles_answer}
use Rattle.rules.specs.Candidates.{candidates, candidates_in}
use Rattle.checking.specs.Check.{reading_names, checking}
use Rattle.optimum.specs.Optimum.{scan, gate}
use Rattle.states.specs.States.{suits, up, row_of, taken, rows, turns_from, turns_of, labelled}
use Rattle.groups.specs.Groups.{before, sizes_of, ons_of, starts_from, groups_from, sessions_from}
use Rattle.placing.specs.Placing.{masks_answer, switches_answer, unserved_from, placeable, judging, measuring, placing, placed_bytes}
use Rattle.reading_exact.specs.Lists.{All}
use Rattle.placing_exact.specs.Cases.{Shown, cases, junior_cases, column_cases, nothing_cases}

pub starred : All Shown cases
unfolding has with without names_only within bytes_of first_of from1 from2 from3 from4 from5 head_of tabled item spot contents_at role_words channel_words session_words node_rows node_columns table_words file_words encoded record_fits section_answer records_answer following node_fits shape_from roots shape_answer reading together effective permits permitting_to named kind_of mine names_fit kinds_fit able wrong barred child_of reached openings_from first_by rightly names_answer roles_answer candidates candidates_in reading_names checking scan gate suits up row_of taken rows turns_from turns_of labelled before sizes_of ons_of starts_from groups_from sessions_from masks_answer switches_answer unserved_from placeable judging measuring placing placed_bytes
starred = ((refl, refl), ((refl, refl), (refl, (refl, ((refl, refl), ((refl, refl), (refl, (refl, (refl, ((refl, refl), (refl, (refl, (refl, (refl, ((refl, refl), (refl, (refl, (refl, (refl, (refl, tt))))))))))))))))))))

pub ranked : All Shown junior_cases
unfolding has with without names_only within bytes_of first_of from1 from2 from3 from4 from5 head_of tabled item spot contents_at role_words channel_words session_words node_rows node_columns table_words file_words encoded record_fits section_answer records_answer following node_fits shape_from roots shape_answer reading together effective permits permitting_to named kind_of mine names_fit kinds_fit able wrong barred child_of reached openings_from first_by rightly names_answer roles_answer candidates candidates_in reading_names checking scan gate suits up row_of taken rows turns_from turns_of labelled before sizes_of ons_of starts_from groups_from sessions_from masks_answer switches_answer unserved_from placeable judging measuring placing placed_bytes
ranked = ((refl, refl), (refl, (refl, (refl, (refl, (refl, (refl, (refl, (refl, (refl, (refl, (refl, (refl, (refl, tt))))))))))))))

pub columned : All Shown column_cases
unfolding has with without names_only within bytes_of first_of from1 from2 from3 from4 from5 head_of tabled item spot contents_at role_words channel_words session_words node_rows node_columns table_words file_words encoded record_fits section_answer records_answer following node_fits shape_from roots shape_answer reading together effective permits permitting_to named kind_of mine names_fit kinds_fit able wrong barred child_of reached openings_from first_by rightly names_answer roles_answer candidates candidates_in reading_names checking scan gate suits up row_of taken rows turns_from turns_of labelled before sizes_of ons_of starts_from groups_from sessions_from masks_answer switches_answer unserved_from placeable judging measuring placing placed_bytes
columned = ((refl, refl), (refl, (refl, (refl, (refl, (refl, tt))))))

pub unplanned : All Shown nothing_cases
unfolding has with without names_only within bytes_of first_of from1 from2 from3 from4 from5 head_of tabled item spot contents_at role_words channel_words session_words node_rows node_columns table_words file_words encoded record_fits section_answer records_answer following node_fits shape_from roots shape_answer reading together effective permits permitting_to named kind_of mine names_fit kinds_fit able wrong barred child_of reached openings_from first_by rightly names_answer roles_answer candidates candidates_in reading_names checking scan gate suits up row_of taken rows turns_from turns_of labelled before sizes_of ons_of starts_from groups_from sessions_from masks_answer switches_answer unserved_from placeable judging measuring placing placed_bytes
unplanned = (refl, (refl, ((refl, refl), ((refl, refl), (refl, (refl, (refl, tt)))))))
