-- The two files in literal words, computed on the definitions: what they hold, that they agree on the session, and both placed.
use mathlib.Core.Path.{refl}
use native.Mathlib.Omega.{arith}
use Rattle.masks.specs.Mask.{has, with, without, names_only, within}
use Rattle.format.specs.Words.{bytes_of}
use Rattle.format.specs.Answers.{first_of}
use Rattle.format.specs.Header.{from1, from2, from3, from4, from5, head_of}
use Rattle.format.specs.Sections.{spot}
use Rattle.format.specs.Contents.{tabled, item, contents_at}
use Rattle.format.specs.Writing.{role_words, channel_words, session_words, node_rows, node_columns, table_words, file_words, encoded}
use Rattle.tables.specs.Records.{record_fits, section_answer, records_answer}
use Rattle.trees.specs.Ends.{following}
use Rattle.trees.specs.Shape.{node_fits, shape_from, roots, shape_answer}
use Rattle.reading.specs.Reading.{reading}
use Rattle.rules.specs.Juniors.{together, effective}
use Rattle.rules.specs.Schema.{permits, permitting_to}
use Rattle.rules.specs.Names.{named, kind_of, mine}
use Rattle.rules.specs.Rules.{names_fit, kinds_fit, wrong, child_of}
use Rattle.rules.specs.Checking.{reached, openings_from, first_by, rightly, names_answer}
use Rattle.rules.specs.Candidates.{candidates, candidates_in}
use Rattle.checking.specs.Check.{reading_names}
use Rattle.optimum.specs.Optimum.{scan, gate}
use Rattle.states.specs.States.{suits, up, row_of, taken, rows, turns_from, turns_of, labelled}
use Rattle.groups.specs.Groups.{before, sizes_of, ons_of, starts_from, groups_from, sessions_from}
use Rattle.placing.specs.Placing.{masks_answer, switches_answer, unserved_from, placeable, judging, measuring, placing, placed_bytes}
use Rattle.reading_exact.specs.Tree.{past, write, flatten}
use Rattle.reading_exact.specs.File.{rooted, encode, ReadsAs, sent}
use Rattle.wards.specs.Ward.{SameWard, counted, from_root}
use Rattle.wards.specs.WardCases.{alone, alone_file, alone_placed, beside, beside_file, beside_placed, WardShown}

pub wards_agree : ReadsAs (bytes_of alone) alone_file × ReadsAs (bytes_of beside) beside_file × SameWard alone_file beside_file 1 2
unfolding bytes_of item role_words channel_words session_words node_rows node_columns table_words file_words encoded past write flatten rooted encode
wards_agree = (
  sent refl,
  sent refl,
  record { here = (omega arith, omega arith); there = (omega arith, omega arith); roles = refl; kinds = refl; channels = refl; user = refl; mask = refl; tree = refl },
)

pub wards_shown : WardShown alone alone_placed 1 × WardShown beside beside_placed 2
unfolding has with without names_only within bytes_of first_of from1 from2 from3 from4 from5 head_of tabled item spot contents_at role_words channel_words session_words node_rows node_columns table_words file_words encoded record_fits section_answer records_answer following node_fits shape_from roots shape_answer reading together effective permits permitting_to named kind_of mine names_fit kinds_fit wrong child_of reached openings_from first_by rightly names_answer candidates candidates_in reading_names scan gate suits up row_of taken rows turns_from turns_of labelled before sizes_of ons_of starts_from groups_from sessions_from masks_answer switches_answer unserved_from placeable judging measuring placing placed_bytes counted from_root
wards_shown = ((refl, refl, refl), (refl, refl, refl))
