-- The certificates in literal words.
use mathlib.Core.Path.{refl}
use Rattle.masks.specs.Mask.{has, with, without, held, names_only, within}
use Rattle.format.specs.Words.{bytes_of}
use Rattle.format.specs.Answers.{first_of}
use Rattle.format.specs.Header.{from1, from2, from3, from4, from5, head_of}
use Rattle.format.specs.Sections.{spot}
use Rattle.format.specs.Contents.{tabled, item, contents_at}
use Rattle.tables.specs.Records.{record_fits, section_answer, records_answer}
use Rattle.trees.specs.Ends.{following}
use Rattle.trees.specs.Shape.{node_fits, shape_from, roots, shape_answer}
use Rattle.reading.specs.Reading.{reading}
use Rattle.rules.specs.Juniors.{together, effective}
use Rattle.rules.specs.Schema.{permits, permitting_to}
use Rattle.rules.specs.Names.{named, kind_of, mine}
use Rattle.rules.specs.Rules.{names_fit, kinds_fit, able, wrong, child_of}
use Rattle.rules.specs.Checking.{reached, openings_from, first_by, names_answer, rightly}
use Rattle.naming.specs.Scopes.{bind_scope, scope_from, scope_of, marked, node_scope, scopes_in}
use Rattle.checking.specs.Check.{reading_names}
use Rattle.steps.specs.Threads.{value, first_free}
use Rattle.steps.specs.Choice.{kind_held, meeting, sending, lone, alone_only, acting, done, outcome, choice}
use Rattle.steps.specs.Beside.{made_words, one_more, one_less, cleared, counted}
use Rattle.choices.specs.Choices.{threads_from, run}
use Rattle.choices.specs.Stored.{tried}
use Rattle.running.specs.Ways.{stands_in}
use Rattle.running.specs.Run.{thread_words, ran_words}
use Rattle.reading_exact.specs.Lists.{All}
use Rattle.rounds.specs.Round.{receiver_for, visited, visit, round_from, round}
use Rattle.rounds.specs.Rounds.{numbers}
use Rattle.seats.specs.Seats.{occupies, count_to, asks_seat, is_next, gets_seat, line_with, owners_by, seated_choice, seated_run, steps_only, waits_in, last_in, overfills, lowest_to}
use Rattle.seating.specs.SeatedRunning.{small_seats, seat_table_answer, seat_start_answer}
use Rattle.steps.specs.Beside.{made_in}
use Rattle.rows.specs.Rows.{line_words, row_words, stands_at, row_threads, row_lines}
use Rattle.certifying.specs.Certificate.{arrives, partners_tried, threads_tried, rows_tried, row_at_fault, closing}
use Rattle.certifying_exact.specs.CertificateCases.{CertificateShown, certificate_cases}

pub certificates_shown : All CertificateShown certificate_cases
unfolding has with without held names_only within bytes_of first_of from1 from2 from3 from4 from5 head_of tabled item spot contents_at record_fits section_answer records_answer following node_fits shape_from roots shape_answer reading together effective permits permitting_to named kind_of mine names_fit kinds_fit able wrong child_of reached openings_from first_by names_answer rightly bind_scope scope_from scope_of marked node_scope scopes_in reading_names value first_free kind_held meeting sending lone alone_only acting done outcome choice made_words one_more one_less cleared counted threads_from run tried stands_in thread_words ran_words receiver_for visited visit round_from round numbers occupies count_to asks_seat is_next gets_seat line_with owners_by seated_choice seated_run steps_only waits_in last_in overfills lowest_to small_seats seat_table_answer seat_start_answer line_words row_words stands_at row_threads row_lines arrives partners_tried threads_tried rows_tried row_at_fault closing made_in
certificates_shown = (refl, (refl, (refl, (refl, (refl, (refl, (refl, (refl, (refl, (refl, (refl, (refl, (refl, (refl, (refl, (refl, (refl, (refl, (refl, (refl, (refl, (refl, (refl, (refl, (refl, tt)))))))))))))))))))))))))
