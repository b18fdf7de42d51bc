-- The cases of merging, computed on the definitions.
use mathlib.Core.Path.{refl}
use Rattle.masks.specs.Mask.{has, with, without, names_only, within}
use Rattle.format.specs.Words.{bytes_of}
use Rattle.format.specs.Answers.{first_of}
use Rattle.format.specs.Header.{from1, from2, from3, from4, from5, head_of}
use Rattle.format.specs.Contents.{tabled, item, contents_at}
use Rattle.format.specs.Sections.{spot}
use Rattle.format.specs.Writing.{role_words, channel_words, session_words, node_rows, node_columns, table_words, file_words, encoded}
use Rattle.tables.specs.Records.{record_fits, section_answer, records_answer}
use Rattle.trees.specs.Ends.{following}
use Rattle.trees.specs.Shape.{node_fits, shape_from, roots, shape_answer}
use Rattle.reading.specs.Reading.{reading}
use Rattle.rules.specs.Juniors.{together, effective}
use Rattle.rules.specs.Names.{named, kind_of, mine}
use Rattle.rules.specs.Rules.{names_fit, kinds_fit, wrong, child_of}
use Rattle.rules.specs.Checking.{reached, openings_from, first_by, names_answer}
use Rattle.checking.specs.Check.{reading_names}
use Rattle.merging.specs.Merged.{shifted, moved_node, merged_contents, same_words, same_tables}
use Rattle.merging.specs.Merging.{own_answer, both_answer, merging, merged_bytes}
use Rattle.reading_exact.specs.Lists.{All}
use Rattle.merging_exact.specs.MergeCases.{MergeShown, channel_rows, session_rows, merge_cases}

pub merges_shown : All MergeShown merge_cases
unfolding has with without names_only within bytes_of first_of from1 from2 from3 from4 from5 head_of tabled item spot contents_at role_words channel_words session_words node_rows node_columns table_words file_words encoded record_fits section_answer records_answer following node_fits shape_from roots shape_answer reading together effective named kind_of mine names_fit kinds_fit wrong child_of reached openings_from first_by names_answer reading_names shifted moved_node merged_contents same_words same_tables own_answer both_answer merging merged_bytes channel_rows session_rows
merges_shown =
    ((refl, refl), ((refl, refl), ((refl, refl), ((refl, refl), ((refl, refl), ((refl, refl), ((refl, refl), ((refl, refl), ((refl, refl), (refl, ((refl, refl), (refl, (refl, (refl, (refl, (refl, (refl, (refl, (refl, (refl, (refl, (refl, (refl, (refl, (refl, (refl, (refl, (refl, (refl, (refl, (refl, (refl, (refl, (refl, tt))))))))))))))))))))))))))))))))))
