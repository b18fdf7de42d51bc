-- The cases of the lent list, computed on the definitions.
use mathlib.Core.Path.{refl}
use Rattle.masks.specs.Mask.{has, with, without, names_only, within}
use Rattle.format.specs.Words.{bytes_of}
use Rattle.format.specs.Answers.{first_of}
use Rattle.format.specs.Header.{from1, from2, from3, from4, from5, head_of}
use Rattle.format.specs.Sections.{spot}
use Rattle.format.specs.Contents.{tabled, item, contents_at}
use Rattle.tables.specs.Records.{record_fits, section_answer, records_answer}
use Rattle.trees.specs.Ends.{following}
use Rattle.trees.specs.Shape.{node_fits, shape_from, roots, shape_answer}
use Rattle.reading.specs.Reading.{reading}
use Rattle.rules.specs.Juniors.{together, effective}
use Rattle.rules.specs.Schema.{permits, permitting_to}
use Rattle.rules.specs.Names.{named, kind_of, mine}
use Rattle.rules.specs.Rules.{names_fit, kinds_fit, able, wrong, child_of}
use Rattle.rules.specs.Checking.{reached, rightly, openings_from, first_by, names_answer}
use Rattle.checking.specs.Check.{reading_names}
use Rattle.steps.specs.Threads.{value, first_free}
use Rattle.steps.specs.Choice.{kind_held, meeting, sending, lone, alone_only, acting, done, outcome, choice}
use Rattle.naming.specs.Scopes.{bind_scope, scope_from, scope_of, marked, node_scope, scopes_in}
use Rattle.steps.specs.Beside.{made_in, made_words, waiting, waiting_from}
use Rattle.lending.specs.Lent.{is_value, vars_fit, thread_fits, made_fits, every, same, may_be_lent, lending, choosing, records_over, beside_over}
use Rattle.lending.specs.Starting.{starting, records_started, beside_started}
use Rattle.choices.specs.Choices.{threads_from}
use Rattle.reading_exact.specs.Lists.{All}
use Rattle.lending_exact.specs.LendCases.{made, LendShown, lend_cases}

pub lends_shown : All LendShown lend_cases
unfolding has with without names_only within bytes_of first_of from1 from2 from3 from4 from5 head_of tabled item spot contents_at record_fits section_answer records_answer following node_fits shape_from roots shape_answer reading together effective permits permitting_to named kind_of mine names_fit kinds_fit able wrong child_of reached openings_from first_by names_answer reading_names value first_free kind_held meeting sending lone alone_only acting done outcome choice made_in made_words is_value vars_fit thread_fits made_fits every may_be_lent lending choosing records_over beside_over same waiting waiting_from scope_from bind_scope scope_of marked node_scope scopes_in rightly starting records_started beside_started threads_from made
lends_shown =
    ((refl, refl, refl), ((refl, refl, refl), ((refl, refl, refl), ((refl, refl, refl), ((refl, refl, refl), ((refl, refl, refl), ((refl, refl, refl), ((refl, refl, refl), ((refl, refl, refl), ((refl, refl, refl), ((refl, refl, refl), ((refl, refl, refl), ((refl, refl, refl), ((refl, refl, refl), ((refl, refl, refl), ((refl, refl, refl), ((refl, refl, refl), ((refl, refl, refl), ((refl, refl, refl), ((refl, refl, refl), ((refl, refl, refl), ((refl, refl, refl), ((refl, refl, refl), ((refl, refl, refl), ((refl, refl, refl), ((refl, refl, refl), ((refl, refl, refl), ((refl, refl, refl), ((refl, refl, refl), ((refl, refl, refl), ((refl, refl, refl), ((refl, refl, refl), ((refl, refl, refl), ((refl, refl, refl), ((refl, refl, refl), ((refl, refl, refl), ((refl, refl, refl), ((refl, refl, refl), ((refl, refl, refl), ((refl, refl, refl), ((refl, refl, refl), ((refl, refl, refl), tt))))))))))))))))))))))))))))))))))))))))))
