-- The cases of runs, computed on the definitions.
use mathlib.Core.Path.{refl}
use Rattle.masks.specs.Mask.{has, with, without, held, names_only, within}
use Rattle.format.specs.Words.{bytes_of}
use Rattle.format.specs.Answers.{first_of}
use Rattle.format.specs.Header.{from1, from2, from3, from4, from5, head_of}
use Rattle.format.specs.Sections.{spot}
use Rattle.format.specs.Contents.{tabled, item, contents_at}
use Rattle.tables.specs.Records.{record_fits, section_answer, records_answer}
use Rattle.trees.specs.Ends.{following}
use Rattle.trees.specs.Shape.{node_fits, shape_from, roots, shape_answer}
use Rattle.reading.specs.Reading.{reading}
use Rattle.rules.specs.Juniors.{together, effective}
use Rattle.rules.specs.Schema.{permits, permitting_to}
use Rattle.rules.specs.Names.{named, kind_of, mine}
use Rattle.rules.specs.Rules.{names_fit, kinds_fit, able, wrong, child_of}
use Rattle.rules.specs.Checking.{reached, openings_from, first_by, names_answer}
use Rattle.checking.specs.Check.{reading_names}
use Rattle.steps.specs.Threads.{value, first_free}
use Rattle.steps.specs.Choice.{kind_held, meeting, sending, lone, alone_only, acting, done, outcome, choice}
use Rattle.choices.specs.Choices.{threads_from, run}
use Rattle.steps.specs.Beside.{made_words}
use Rattle.running.specs.Run.{thread_words, ran_words, running, run_over, receiver_from, pair_from, ready_pair, ready}
use Rattle.reading_exact.specs.Lists.{All}
use Rattle.running_exact.specs.RunCases.{RunShown, times, run_cases}

pub runs_shown : All RunShown run_cases
unfolding has with without held names_only within bytes_of first_of from1 from2 from3 from4 from5 head_of tabled item spot contents_at record_fits section_answer records_answer following node_fits shape_from roots shape_answer reading together effective permits permitting_to named kind_of mine names_fit kinds_fit able wrong child_of reached openings_from first_by names_answer reading_names value first_free kind_held meeting sending lone alone_only acting done outcome choice threads_from run made_words thread_words ran_words running run_over receiver_from pair_from ready_pair ready times
runs_shown = ((refl, refl), ((refl, refl), ((refl, refl), ((refl, refl), ((refl, refl), ((refl, refl), ((refl, refl), ((refl, refl), ((refl, refl), ((refl, refl), ((refl, refl), ((refl, refl), ((refl, refl), ((refl, refl), ((refl, refl), ((refl, refl), ((refl, refl), ((refl, refl), ((refl, refl), ((refl, refl), ((refl, refl), ((refl, refl), ((refl, refl), (refl, (refl, (refl, (refl, (refl, (refl, tt)))))))))))))))))))))))))))))
