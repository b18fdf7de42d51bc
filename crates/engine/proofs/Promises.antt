-- What the engine promises, each promise under a sentence of the paper (01), of the demands or of a request (K1 ..); nothing else stands here. Where "1 to 8" or "1 to 10" is written, 21 is among them.
-- What a caller gets is in the contracts of the exported functions (src/lib.rt): of any bytes handed over `pilzdamo_read` answers `reading_names`, the refusals 1 to 10,
-- `pilzdamo_check` `checking`, the refusals 1 to 13, `pilzdamo_place` `placing`, with `placed_over` in the output, for a minute of the week `pilzdamo_check_at` `checking_at`
-- and `pilzdamo_place_at` `placing_at`, with `placed_over_at`, of two files `pilzdamo_merge` `merging`, with `merged_over` in the output, of many in a row `pilzdamo_sheet` `sheet_of entry_of`, of two notices `pilzdamo_in_force` `plan_in_force`, `pilzdamo_to_columns` `turning` of version 2 and `pilzdamo_to_rows` of version 3, with `turned_over`, `pilzdamo_run`
-- `running`, with `run_over` in the output, `pilzdamo_ready` `ready`, `pilzdamo_round` `rounding`, with `round_over` in the output, with a table of seats
-- `pilzdamo_run_seated` `seated_running` and the length `seated_length`, with `seated_over` in the output, `pilzdamo_round_seated` `seated_rounding`, with `seated_round_over`, and `pilzdamo_seats` `seats_after`, `pilzdamo_totals` `totals_after`, `pilzdamo_total` `total_in`,
-- `pilzdamo_start` `starting`, with `records_started` in the lent list and
-- `beside_started` beside it, `pilzdamo_choose` `choosing`, with `records_over` and `beside_over`, and of a refusal's numbers `pilzdamo_reason` `reason_length`, with `reason_over` in the output,
-- `pilzdamo_phrase` `meaning_length`, with `meaning_over`, and of a sentence `pilzdamo_read_reason` `understood`.
use Prim.Native.Nat.{ℕ, suc, ◌+◌, ◌*◌, ◌-◌, ◌/◌, ◌%◌, ◌^◌, ◌≤◌, ◌<◌}
use mathlib.Core.Path.{◌≡◌, refl, sym, ◌∙◌, ap, subst}
use mathlib.Core.Logic.{◌↔◌, ◌≢◌, ◌⊎◌}
use mathlib.Core.Bool.{true, false, cond}
use mathlib.Core.List.{List, [], ◌∷◌, ◌++◌, map, Perm, Memᴰ}
use native.Mathlib.Omega.{arith}
use lib.Dec.{eqb}
use borrow.Author.Tests.{ne_eqb}
use lib.ListN.{length, get_or, take, drop, replicate}
use Rattle.masks.specs.Mask.{has, with, without}
use Rattle.format.specs.Words.{word_at, bytes_of}
use Rattle.format.specs.Contents.{Contents, item, no_session, no_node, contents_of, in_count, contents_at}
use Rattle.format.specs.Answers.{fine, refused}
use Rattle.format.specs.declared.Verdict.{Verdict}
use Rattle.format.specs.Header.{WithJuniors, Counted, head_at, version_at, room_for, head_of, nothing_planned}
use Rattle.format.specs.Sections.{spot, node_spot, node_of}
use Rattle.format.specs.Writing.{node_rows, file_words}
use Rattle.format.specs.declared.Six.{Six}
use Rattle.format.proofs.ContentsLaws.{item_there}
use Rattle.reading.specs.Reading.{reading}
use Rattle.reading_exact.specs.Lists.{All}
use Rattle.reading_exact.specs.File.{InCount, roles_of, File, WellFormed, as_second, nodes_of, contents_for, encode, unplanned, ReadsAs}
use Rattle.reading_exact.specs.ByWords.{CountedByWords, ByWords}
use Rattle.reading_exact.specs.Order.{OfFile, First}
use Rattle.reading_exact.specs.Refusals.{OneChild, length_of, Refusable, reading_order}
use Rattle.checking.specs.Check.{reading_names, checking, entered}
use Rattle.checking_exact.specs.Tables.{schema_for}
use Rattle.checking_exact.specs.Typing.{WellKinded, ByRoles, Obeys}
use Rattle.checking_exact.specs.Faults.{Nameless, Objection, check_order}
use Rattle.checking_exact.specs.ByWords.{TablesByWords, May, own_mask, junior_mask, GrantedByWords}
use Rattle.checking_exact.specs.Below.{Added, Removed, Below}
use Rattle.rules.specs.declared.Way.{Way}
use Rattle.rules.specs.Juniors.{Granted}
use Rattle.rules.specs.Names.{Bound}
use Rattle.rules.specs.Schema.{Schema, schema_of, Permitted}
use Rattle.reading_exact.specs.Tree.{on, Tree, switch, past, write}
use Rattle.placing.specs.Placing.{turns_for, measuring, placing, no_place, placed_bytes, placed_over}
use Rattle.placing_exact.specs.Placement.{on_steps, on_steps_of, Placement, PlacementByRoles}
use Rattle.checking_exact.specs.Tables.{schema_for}
use Rattle.placing_exact.specs.Placed.{AllStates, listed_all, insert_all, Bare}
use Rattle.placing_exact.specs.Idle.{idle_nodes_of, idle_in, idle_among}
use Rattle.placing_exact.specs.Causes.{SomeMask, IsSwitch, Unserved, PlacedWith, Cause, refusal_in, placing_order}
use Rattle.placing_exact.specs.Promised.{WellPlaced, Ruled, Clean, Lowest, Unrefused, NoPlacement, session, Covers}
use Rattle.placing_exact.specs.Cases.{Shown, cases, junior_cases, column_cases, nothing_cases}
use Rattle.format.specs.declared.Node.{Node}
use Rattle.rules.specs.Rules.{Context, child_of}
use Rattle.steps.specs.declared.Thread.{Thread}
use Rattle.steps.specs.Threads.{no_thread, no_made, first_free, value}
use Rattle.steps.specs.Beside.{thread_count, made_count, count_words, used_words, total_in}
use Rattle.lending_exact.specs.Waiting.{waiting_in}
use Rattle.lending_exact.proofs.WaitingCounts.{rule_one}
use Rattle.lending_exact.proofs.RunTotals.{kept_totals, totals_answered, totals_unlisted, totals_unread, total_read_off, no_total}
use Rattle.lending_exact.proofs.TotalCases.{ward, two_wait, one_is_met}
use Rattle.steps.specs.Choice.{Clinic, clinic_of, State, thread_at, choice, halts, goes, done, outcome}
use Rattle.choices.specs.Choices.{start, run, ran_of}
use Rattle.naming.specs.Scopes.{awaits}
use Rattle.rules.specs.Names.{kind_of}
use Rattle.checking_exact.specs.Faults.{InContext}
use Rattle.rules.specs.Checking.{openings}
use Rattle.running.specs.Run.{ran_words, listed, stopped, running, run_over, ready_pair, ready, beside_of_run, totals_of, totals_after}
use Rattle.running_exact.specs.Steps.{StandsAt, Steps, Chain}
use Rattle.running_exact.specs.Conditions.{Condition, FirstRefusal}
use Rattle.running_exact.specs.Effects.{Effect}
use Rattle.running_exact.specs.Runs.{Seated, Refuses, Unlisted, Unfit, Listed, Fit, no_pair}
use Rattle.running_exact.specs.Output.{Written}
use Rattle.running_exact.specs.RunCases.{RunShown, run_cases}
use Rattle.running_exact.specs.Keeps.{Reaches, Kept}
use Rattle.lending.specs.Lent.{state_of, lending, choosing, records_over, beside_over, chosen_answer}
use Rattle.lending.specs.Starting.{starting, records_started, beside_started}
use Rattle.lending_exact.specs.Lendable.{Lendable, Eight, Lends, in_turn}
use Rattle.lending_exact.specs.LendCases.{LendShown, lend_cases}
use Rattle.reading.specs.Long.{enough}
use Rattle.checking_exact.proofs.GrantWords.{tables_by_words, has_bit, has_zero, granted_by_words, granted_exactly}
use Rattle.checking_exact.proofs.BelowLaws.{on_assigned, with_adds, without_removes, child_below}
use Rattle.checking_exact.proofs.CheckExact.{check_exact, names_exact}
use Rattle.checking_exact.proofs.CheckFirst.{check_first, names_first}
use Rattle.placing.proofs.PlaceLaws.{room_by_word, answers}
use Rattle.placing_at.proofs.PlaceAtLaws.{answers_at}
use Rattle.placing_at.specs.PlaceAt.{measuring_at, placing_at}
use Rattle.placing_exact.proofs.PlacingExact.{placed_well, placed_exactly, ruled, fourteen_masks, fourteen_node, fifteen_exactly, fifteen_place, sixteen_exactly, seventeen_exactly, ten_exactly, out_kept, out_written}
use Rattle.placing_exact.proofs.AnswerStages.{measuring_roomless}
use Rattle.placing_exact.proofs.PlacingFirst.{placing_first}
use Rattle.placing_exact.proofs.OneRole.{one_role_written}
use Rattle.placing_exact.proofs.RivalsByRoles.{rivals_all, fewest_of_all, none_at_all}
use Rattle.placing_exact.proofs.IdleRivals.{least_idle_of_all, idle_stated}
use Rattle.placing_exact.proofs.StarredCases.{starred, ranked, columned, unplanned as unplanned-shown}
use Rattle.running_exact.proofs.Operands.{stands_for}
use Rattle.running_exact.proofs.Agree.{agree, one_result, refused_first, done_free}
use Rattle.running_exact.proofs.StepEffects.{step_effect}
use Rattle.running_exact.proofs.RunChain.{run_chain, run_stopped, run_whole}
use Rattle.running_exact.proofs.ReadyPair.{ready_done, ready_lowest, ready_none, ready_zero}
use Rattle.running_exact.proofs.StartThreads.{start_seats}
use Rattle.running_exact.proofs.RunSafe.{run_kept, next_free, run_safe, answers as run-answers, placed_safe, placed_unbarred}
use Rattle.running_exact.proofs.RunAnswers.{run_unfit, run_seventeen, run_names, run_through, run_halted, run_unwritten, run_written}
use Rattle.running_exact.proofs.ReadyAnswers.{ready_unlisted, ready_seventeen, ready_names, ready_halted, ready_found}
use Rattle.running_exact.proofs.RunsShown.{runs_shown}
use Rattle.lending_exact.proofs.LendableLaws.{lending_exactly, eighteen_zero, ten_first, past_ten_one, choosing_fine}
use Rattle.lending_exact.proofs.LentWords.{made_counted, made_by_words}
use Rattle.lending_exact.proofs.LentRuns.{kept_lendable, lent_next, whole_run, lent_again}
use Rattle.lending_exact.proofs.LentSteps.{lent_free, lent_steps}
use Rattle.lending_exact.proofs.Unchanged.{refused_unchanged, past_kept}
use Rattle.lending_exact.proofs.LendsShown.{lends_shown}
use Rattle.lending_exact.proofs.LentStarts.{start_lends, start_lendable, start_records_past, start_words_past, refused_start}
use Rattle.lending_exact.proofs.StartAnswers.{start_ten, start_eighteen, start_fine}
use Rattle.hours.specs.Hours.{row_at, TableFits, shut, Open}
use Rattle.hours.proofs.ShutLaws.{open_exactly}
use Rattle.checking_at.specs.CheckAt.{checking_at}
use Rattle.placing_at.specs.PlaceAt.{open_contents, placing_at, placed_bytes_at, placed_over_at}
use Rattle.hours_exact.specs.OpenFile.{open_file, RowsFit}
use Rattle.hours_exact.specs.HourFaults.{ObjectionAt, with_hours}
use Rattle.hours_exact.specs.PromisedAt.{WellPlacedAt, UnrefusedAt, Standing, CauseAt, RuledAt}
use Rattle.hours_exact.specs.HourCases.{Shown as HourShown, cases as hour-cases}
use Rattle.hours_exact.proofs.OpenFiles.{open_masks, users_open}
use Rattle.hours_exact.proofs.CheckAtExact.{check_at_exact, passes_plain}
use Rattle.hours_exact.proofs.CheckAtFirst.{check_at_first}
use Rattle.hours_exact.proofs.StandingPlaced.{left_at, placed_standing, one_role_at}
use Rattle.hours_exact.proofs.PlaceAtFirst.{place_at_first}
use Rattle.hours_exact.proofs.PlaceAtExact.{roomless_at, well_at, fewest_at, least_idle_at, fifteen_at, none_at, fifteen_place_at, ruled_at, sixteen_at, seventeen_at, placed_at, written_over_at, kept_at}
use Rattle.hours_exact.proofs.EmptyTable.{check_empty, place_empty, over_empty}
use Rattle.hours_exact.proofs.CasesShown.{hours_shown}
use Rattle.engine.specs.Alike.{AlikeBesideForm, AlikeBesideBytes, Alike, ColumnsOf}
use Rattle.engine.proofs.SameContents.{alike_beside_form, alike_beside_bytes, alike, second_alike, second_placed}
use Rattle.engine.proofs.Unread.{unread_alike}
use Rattle.engine.proofs.Columns.{columns_alike, rows_alike, heads_refused, notices_alike}
use Rattle.rounds.specs.Rounds.{In, RoundState, Here, Path}
use Rattle.dispatching.specs.Dispatch.{rounding, round_over}
use Rattle.dispatching_exact.specs.IsRound.{IsRound, VisitsOf}
use Rattle.dispatching_exact.specs.Answered.{RoundUnfit, RoundFit, no_round_at, Answered, Stopped}
use Rattle.dispatching_exact.specs.RoundCases.{RoundShown, round_cases}
use Rattle.dispatching_exact.proofs.DispatchRounds.{some_round, one_round, round_steps, lone_in_round, empty_round}
use Rattle.dispatching_exact.proofs.RoundAnswers.{round_unfit, round_seventeen, round_most, round_names, round_unwritten, round_stopped, round_answered}
use Rattle.dispatching_exact.proofs.RoundsShown.{rounds_shown}
use Rattle.phrases.specs.Phrases.{spelled, phrases, phrase}
use Rattle.phrases.proofs.PhraseLaws.{many}
use Rattle.reasons.specs.declared.Reason.{Reason}
use Rattle.reasons.specs.IsReason.{MayCount, TagFits, IsReason, decimal_value}
use Rattle.reasons.specs.Reasons.{reason_of, digits_of, sentence, understood, reason_length, reason_over, meaning, meaning_length, meaning_over}
use Rattle.reasons.specs.ReasonCases.{ReasonShown, reason_cases}
use Rattle.reasons.proofs.TableBounds.{sentence_length}
use Rattle.reasons.proofs.ReadBack.{one_reason}
use Rattle.reasons.proofs.ReasonLaws.{answered, answered_exactly, unanswered, past_sentence, read_written, understood_exactly, no_exactly, none_begins_another, in-decimal, meaning_exactly, meaning_most, past_meaning, meaning_first, in_parts, meant}
use Rattle.reasons.proofs.NumbersSaid.{number_said}
use Rattle.reasons.proofs.ReasonsShown.{reasons_shown}
use Rattle.merging.specs.Merged.{shifted}
use Rattle.merging.specs.Merging.{merging, merged_bytes, merged_over}
use Rattle.format.specs.declared.Written.{Written as Merge-as-Written}
use Rattle.format.proofs.SpotLaws.{spot_within, spot_one, spot_found}
use Rattle.turning.specs.Turning.{head_number, in_columns, in_rows, turning, turned_over}
use Rattle.turning_exact.specs.TurnCauses.{TurnAnswers}
use Rattle.turning_exact.specs.ColumnWords.{row_booking, column_booking}
use Rattle.turning_exact.proofs.Turned.{turned_holds, there_and_back, turned_writes, refused_writes_nothing, same_head_refusals, nothing_turned, booking_turned, booking_answered, forms_in_words}
use Rattle.turning_exact.proofs.TurnExact.{turning_exactly as turning-answers-exactly}
use Rattle.merging_exact.specs.MergedFile.{merged_file}
use Rattle.merging_exact.specs.Operands.{Item, Names, Stands}
use Rattle.merging_exact.specs.Sums.{SameTables, SumsFit}
use Rattle.merging_exact.specs.MergeCauses.{OwnRefusal, Passes, Answers}
use Rattle.merging_exact.specs.MergeCases.{MergeShown, merge_cases}
use Rattle.checking_exact.specs.Typing.{HasKind}
use Rattle.merging_exact.proofs.NamedItems.{names_kind}
use Rattle.merging_exact.proofs.MergeAnswers.{merging_exactly, seventeen_merging, first_exactly, second_exactly, first_as_read, second_as_read, first_version, second_version, differ_exactly, beyond_exactly, merged_exactly}
use Rattle.merging_exact.proofs.MergedOutput.{merged_as_data, merged_reads, first_names, second_names, passes_exactly, on_steps_add, placed_as_merged, length_answered, length_fits, merge_written, merge_kept}
use Rattle.merging_exact.proofs.MergesShown.{merges_shown}
use Rattle.running_exact.specs.Output.{state_bytes}
use Rattle.rounds.specs.Round.{Taken, refuses, waits, steps}
use Rattle.seats.specs.Seats.{Limited, limited_of, seats_in, SeatedState, SeatedRan, sits, seats_taken, thread_node, owner_of, in_line, seated_choice, one_done, seated_run, plainly, waits_in, seated_start, seated_ran_of}
use Rattle.seats.specs.SeatOrder.{AsksSeat, GetsSeat, SeatedStep, Distinct, ahead, LineStep, HasRole, StandsAtOn, InTreeOf, Always, Between, NoMoreBefore}
use Rattle.seats.proofs.LineLaws.{in-line-member}
use Rattle.seats.proofs.SeatedTold.{seated_agrees, goes_iff, waits_iff, waits_only_line, halts_iff}
use Rattle.seats.proofs.SeatedMoves.{waits_joins, steps_lines, owners_follow}
use Rattle.seats.proofs.SeatedPlain.{run_alike}
use Rattle.seats.proofs.SeatedStart.{start_sits}
use Rattle.seats.proofs.OwnerTrees.{owners_descend}
use Rattle.seating.specs.SeatedRunning.{seated_running, seated_length, seated_over}
use Rattle.seating.specs.SeatsRead.{seated_steps_of, seats_after}
use Rattle.seated.specs.SeatedEntry.{seated_written, seats_bar}
use Rattle.seating.specs.SeatedRound.{seated_threads, seated_rounding, seated_round_over}
use Rattle.seating_exact.specs.SeatTable.{SeatTableFits, SeatTableMisfits, OverfullAt, StartFits, SeatsBar}
use Rattle.seating_exact.specs.SeatsTold.{SeatsTold, ReadsPlainly, no_seats_at}
use Rattle.seating_exact.specs.IsSeatedRound.{GoesOn, GetsNone, IsSeatedRound, SeatedVisits, SeatedRoundTold, SeatedRoundStopped}
use Rattle.seating_exact.specs.SeatCases.{SeatShown, seat_cases}
use Rattle.seating_exact.proofs.SeatedFiles.{table_word, wait_is_done, not_its_word, file_never_over, file_lines, file_stands, file_before, file_moves, file_alone, file_has, file_moves_up}
use Rattle.seating_exact.proofs.SeatedAnswers.{seated_seventeen, seated_no_room, seated_names, seated_start_lem, seated_through, seated_halted, seated_unwritten, seated_written_lem}
use Rattle.seating_exact.proofs.SeatedZeros.{zeros_answer, zeros_output, zeros_length}
use Rattle.seating_exact.proofs.ZeroRounds.{zeros_round, zeros_round_output, zeros_read}
use Rattle.seating_exact.proofs.SeatedRounds.{some_seated_round, one_seated_round, seated_path, seated_lone_of, seated_idle_of}
use Rattle.seating_exact.proofs.SeatedRoundAnswers.{seated_round_seventeen, seated_round_no_room, seated_round_names, seated_round_start, seated_round_none, seated_round_unwritten, seated_round_stopped, seated_round_answered}
use Rattle.seating_exact.proofs.SeatsAnswers.{seats_seventeen, seats_no_room, seats_names, seats_start, seats_none, seats_verdict, seats-told, taken_within}
use Rattle.seating_exact.proofs.SeatedSafe.{passed_safe, placed_file_safe}
use Rattle.seating_exact.proofs.SeatsShown.{seats_shown}
use Rattle.rules.specs.declared.Way.TheVariants.{Receives}
use Rattle.exclusion.specs.Exclusion.{SwitchesOn, Midway, CoversAlone, OnlyBy, Alone, AloneWhileMidway}
use Rattle.exclusion.specs.Exclusion.{NeverBothMidway, AloneSince, UnderOneOn}
use Rattle.exclusion.specs.SpringCases.{written as springWritten, as_data as springFile, as_placed as springPlaced}
use Rattle.exclusion.specs.SpringCases.{cut as springCut, one_seat, morning, spring_day, placed_day}
use Rattle.exclusion.proofs.PlacedFrom.{placed_from, placed_from_at}
use Rattle.exclusion.proofs.MidwayAlone.{alone_since, under_one, role_alone, never_two, never_two_on}
use Rattle.exclusion.proofs.SpringShown.{both_midway, placed_so, placed_so_at, each_covered, only_reading, spring_never}
use Rattle.exclusion.proofs.SpringShown.{on_begins, one_alone}
use Rattle.notices.specs.Notices.{plan_in_force, of_notice, part_of, place_of}
use Rattle.notices.specs.declared.InForce.{InForce}
use Rattle.notices_exact.specs.Supersedes.{Sound, Unsound, Supersedes}
use Rattle.notices_exact.specs.Supersedes.{Answers as Notice-as-Answers}
use Rattle.notices_exact.specs.NoticeCases.{NoticeShown, notice_cases}
use Rattle.notices_exact.proofs.NoticeAnswers.{answered as notices-answered, one_answer, first_refused, second_refused, none_in_force, first_in_force, second_in_force, Held, in-force-held, file_part, file_place, empty_part, file_reads}
use Rattle.notices_exact.proofs.NoticesShown.{notices_shown}
use Rattle.wards.specs.Ward.{SameWard, from_root}
use Rattle.wards.specs.WardCases.{alone, alone_file, alone_placed, beside, beside_file, beside_placed, WardShown}
use Rattle.wards.proofs.Wards.{isolated, isolated_at}
use Rattle.wards.proofs.WardNodes.{from_root_lem, isolated_words, isolated_words_at}
use Rattle.wards.proofs.WardsShown.{wards_agree, wards_shown}
use Rattle.rows.specs.Rows.{row_words}
use Rattle.certifying.specs.Certificate.{certificate_of, row_state, is_row, closing, closed_fine}
use Rattle.certifying.specs.declared.Closing.{Closing}
use Rattle.certifying_exact.specs.CertificateCases.{CertificateShown, certificate_cases}
use Rattle.certifying_exact.specs.Numbered.{collect, CertificateHolds, FaultAt}
use Rattle.certifying_exact.specs.ClosingCauses.{Triable, closing_of, ClosingCause}
use Rattle.certifying_exact.proofs.Certified.{schedule_is_a_row, row_is_reached, each_row_holds, plain_schedule_is_a_row}
use Rattle.certifying_exact.proofs.ClosingAnswers.{answers_by_cause, holds_exactly, lowest_fault}
use Rattle.certifying_exact.proofs.RowOutput.{row_in_parts, output_is_a_row}
use Rattle.certifying.specs.declared.Part.{Part}
use Rattle.certifying.specs.Parts.{closing_part}
use Rattle.certifying_exact.specs.Chains.{Chained, part_between}
use Rattle.certifying_exact.specs.PartCases.{PartShown, part_cases}
use Rattle.certifying_exact.proofs.PartsWhole.{chain_is_whole, whole_has_part}
use Rattle.certifying_exact.proofs.PartsShown.{parts_shown}
use Rattle.certifying_exact.proofs.CasesShown.{certificates_shown}
use Rattle.rows.specs.Rows.{row_words}
use Rattle.offering.specs.Offers.{Offer, offers_of, offers_put, begun, offering_of, refusing, offering}
use Rattle.offering_exact.specs.Offered.{IsOffer, Ascending, DoesNext, OffersStand, StateWords}
use Rattle.offering_exact.specs.OfferCases.{OfferShown, offer_cases}
use Rattle.offering_exact.proofs.Offered.{offered_exactly, offered_in_order, next_exactly}
use Rattle.offering_exact.proofs.Written.{offers_stand}
use Rattle.offering_exact.proofs.Lent.{lent_offers, lent_refused, run_lent, plain_offers}
use Rattle.offering_exact.proofs.OffersShown.{offers_shown}
use Rattle.engine.proofs.LongInputs.{kept_alike}
use Rattle.engine.proofs.NothingPlanned.{nothing_alike, nothing_checked, nothing_measured, nothing_placed, nothing_short, nothing_over, nothing_run, nothing_chosen, short_one, short_second}
use Rattle.reading_exact.proofs.Bytes.{length_bytes_of, word_back, small_bytes}
use Rattle.reading_exact.proofs.RecordWords.{counted_by_words, by_words, item_out}
use Rattle.reading_exact.proofs.FileContents.{contents_back, contents_held, single, unplanned_bytes}
use Rattle.reading_exact.proofs.Exact.{sound, complete_read, one_read, two_read}
use Rattle.reading_exact.proofs.EncodedBytes.{encode_bytes}
use Rattle.reading_exact.proofs.FirstRefusal.{first_refusal, reading_fine}
use Rattle.sheets.specs.Sheets.{sheet_of}
use Rattle.sheets.specs.Entries.{entry_of}
use Rattle.sheets_exact.specs.Records.{records_of, WholeFiles}
use Rattle.sheets_exact.specs.Owed.{sessions_placed, Owed}
use Rattle.sheets_exact.specs.SheetCases.{SheetShown, sheet_cases}
use Rattle.sheets_exact.proofs.FilesLaws.{some_files, one_split}
use Rattle.sheets_exact.proofs.Orders.{orders, orders_of_records, one_exchanged}
use Rattle.sheets_exact.proofs.SheetOwed.{sheet_says, refused_alone, number_counted}
use Rattle.sheets_exact.proofs.SheetsShown.{sheets_shown}
use Rattle.format.specs.declared.Head.{Head}
use Rattle.std.specs.Prelude.{Ok}
use Rattle.turning_exact.proofs.HeadCauses.{head_answered}
use Rattle.lending_exact.proofs.AnswersByCase.{way_in, choice_answered}
use Rattle.lending.specs.Walk.{verdict_of, answer_of}
use Rattle.steps.specs.Acted.{acted_of, outcome_of}

-- "The check passes a file exactly when it obeys the format and the role and channel rules": for all bytes, none of 1 to 13 is refused exactly when they read as a
-- well formed file in which every session's tree is well typed.
pub checks_exactly : (f : List ℕ) → All (λ b. b < 256) f → (checking f ≡ fine) ↔ ((F : File) × WellFormed F × ReadsAs f F × Obeys F)
checks_exactly = check_exact

-- "a file that meets refusals 1 to 10 clean": well formed, with names and kinds by rules 1 to 4.
pub names_exactly : (f : List ℕ) → All (λ b. b < 256) f → (reading_names f ≡ fine) ↔ ((F : File) × WellFormed F × ReadsAs f F × WellKinded F)
names_exactly = names_exact

-- The format alone: none of 1 to 8 is refused exactly when the bytes read as a well formed file: they are its encoding, or there are none and it is the file with nothing planned (K7).
pub reads_exactly : (f : List ℕ) → All (λ b. b < 256) f → (reading f ≡ fine) ↔ ((F : File) × WellFormed F × ReadsAs f F)
reads_exactly f bytes = (sound f bytes, λ (F, formed, same). complete_read f F formed same)

-- .. and as exactly one file (`read_as_one`): two files with the same bytes are the same; and an encoding consists of bytes.
pub one_file : (F G : File) → encode F ≡ encode G → F ≡ G
one_file = single

pub file_bytes : (F : File) → WellFormed F → All (λ b. b < 256) (encode F)
file_bytes = encode_bytes

-- "A word is a 16-bit unsigned number, low byte first": read so, and written so.
pub low_byte_first : (f : List ℕ) (k : ℕ) → word_at f k ≡ get_or f (2 * k) 0 + 256 * get_or f (2 * k + 1) 0
low_byte_first f k = refl

pub words_as_bytes : (ws : List ℕ) → All (λ w. w < 65536) ws
    → All (λ b. b < 256) (bytes_of ws) × (length (bytes_of ws) ≡ 2 * length ws) × ((i : ℕ) → word_at (bytes_of ws) i ≡ get_or ws i 0)
words_as_bytes ws words = (small_bytes ws words, length_bytes_of ws, word_back ws)

-- "Offsets count words from the start .. User, 1 word: mask of the roles assigned. Role, 4 words ..": what a file's bytes hold is what the words at those places say, as many records as the head counts;
-- the encoding of a file holds that file; and there is nothing out of count.
pub counts_by_words : (f : List ℕ) → CountedByWords f
counts_by_words = counted_by_words

pub records_by_words : (f : List ℕ) → ByWords f
records_by_words = by_words

pub encoded_as_held : (F : File) → contents_of (encode F) ≡ contents_for F
encoded_as_held = contents_back

pub no_such_item : {A : Type 0} (nothing : A) (xs : List A) (n : ℕ) → (InCount (length xs) n → ⊥) → item nothing xs n ≡ nothing
no_such_item = item_out

-- The rules ask these words: the counts, a user's mask, what a kind carries, a channel's owner and kind.
pub rules_by_words : (f : List ℕ) → TablesByWords f (schema_of (contents_of f))
rules_by_words = tables_by_words

-- "mask of kinds it may send on (low word, high word), then of kinds it may receive on": what a role without juniors may do, in version 1 every role, is a bit of its record's first two words for sending, of the
-- other two for receiving.
pub grants_by_words : (f : List ℕ) → All (λ b. b < 256) f → (r : ℕ) → InCount (word_at f 2) r → junior_mask f r ≡ 0 → GrantedByWords f r
grants_by_words = granted_by_words

-- "A role then permits what its own record permits and what its juniors permit, through any chain of juniors": of a file that 1 to 8 let through, by the words of the records and of the masks.
pub grants_through_juniors : (f : List ℕ) → reading f ≡ fine → (w : Way) (r k : ℕ) → InCount (word_at f 2) r → May f w r k ↔ Granted (own_mask f w) (junior_mask f) k r
grants_through_juniors f e = granted_exactly f (λ p. (reading_fine f).0 e 21 p)

-- "A user doesn't become able to switch on a junior by this": what the check lets a session switch on is a role in its user's own mask; a run's 11 is by the same mask (`refused_in_order`, `rules_by_words`).
pub only_assigned_on : (C : Contents) (u : ℕ) (vs : List Bound) (m r : ℕ) (t : Tree) → ByRoles (schema_of C) u vs m (switch on r t) → has (item 0 C.users u) r ≡ true
only_assigned_on C u vs m r t typed = on_assigned (schema_of C) u vs m r t typed

-- "a mask's bit i-1 stands for item i", and no item is 0.
pub mask_bits : (m x : ℕ) → 1 ≤ x → (has m x ≡ true) ↔ (m / 2 ^ (x - 1) % 2 ≡ 1)
mask_bits = has_bit

pub no_item_zero : (m : ℕ) → has m 0 ≡ false
no_item_zero = has_zero

-- "On adds a role .. Off removes a role that is there", for masks of any width.
pub on_adds : (m r : ℕ) → 1 ≤ r → Added m r (with m r)
on_adds = with_adds

pub off_removes : (m r : ℕ) → Removed m r (without m r)
off_removes = without_removes

-- Rules 1 and 5 below a node with one child, whose names 9 does not object to: the context that its child is reached in is the one that `Below` has, a line for each tag.
pub left_to_child : (D : Schema) → D.users ≤ 32 → D.channels ≤ 64 → (c : Context) (n : Node) → OneChild n.tag → (Nameless D c.vars n → ⊥) → (c' : Context)
    → (child_of D c n ≡ c') ↔ Below D c n c'
left_to_child D u k c = child_below D (record { users = omega (arith, u); channels = omega (arith, k) }) c

-- "Order: .. 1 to 8 by number, lowest place first. Then 9 and 10 together, by node, 9 first. Checking: 11 to 13 by node", and 21 "directly after 6; "1 to 10" includes it". The refusal answered is the
-- first that the file gives cause for, and none is answered where it gives none: of all of them, of 1 to 10, and of 1 to 8.
pub first_of_check : (f : List ℕ) → First check_order (Objection f) (checking f)
first_of_check = check_first

pub first_of_names : (f : List ℕ) → First check_order (λ n p. Objection f n p × OfFile n) (reading_names f)
first_of_names = names_first

pub first_in_order : (f : List ℕ) → First reading_order (Refusable f) (reading f)
first_in_order = first_refusal

-- "Where the answer is an enum, there is a definition that gives this paper's number and values for each of its cases": of a head 1 to 5 at place 0, or
-- the file's head (`head_number`); of the way in 1 to 10, or the file's head (`verdict_of`); of a choice it is `choice_by_case`.
pub head_by_case : (f : List ℕ) → (head_number (head_of f) ≤ 5) × (head_number (head_of f) ≢ 0 → reading f ≡ refused (head_number (head_of f)) 0)
    × ((h : Head) → head_of f ≡ Ok h → h ≡ head_at f)
head_by_case = head_answered

pub way_in_by_case : (f : List ℕ) → (verdict_of (entered f) ≡ reading_names f) × ((h : Head) → entered f ≡ Ok h → h ≡ head_at f)
    × (reading_names f ≡ fine → entered f ≡ Ok (head_at f))
way_in_by_case = way_in

-- A program that keeps only the start of a long input, never more than two bytes more than the largest file has, answers for the whole of it, whoever asks.
pub long_input : (f : List ℕ) → Alike (take (enough (length f)) f) f
long_input = kept_alike

pub little_kept : (n : ℕ) → enough n ≤ 6910
little_kept n = omega arith

-- Placing. "A placed file has its input's users, roles, kinds and channels, its sessions' users and starting masks, and is a placement of its input that passes the check, each
-- branch holding at most one role at any moment and none at its end; every other such placement has at least as many on steps, and the count returned is the number of on steps in the
-- file returned"; "Among placements with fewest on steps, those with the fewest nodes of tags 0 to 4 in a state other than 0 are taken, and only then the smallest list" (02, K4): each is a field of `WellPlaced`.
pub places_well : (f : List ℕ) → All (λ b. b < 256) f → (room : ℕ) → (placing f room).number ≡ 0 → WellPlaced f (placing f room) (placed_bytes f)
places_well = placed_well

-- A refusal of placing is its number and place, with length 0 and 0 on steps; every promise on a refusal of placing names it by `no_place`.
pub refused_places_nothing : (n p : ℕ) → no_place n p ≡ record { number = n; place = p; length = 0; on_steps = 0 }
refused_places_nothing n p = refl

-- "A file that nothing earlier refuses is refused for want of a role exactly when it has no such placement."
pub no_role_exactly : (f : List ℕ) → All (λ b. b < 256) f → (room : ℕ) → ((p : ℕ) × (placing f room ≡ no_place 15 p)) ↔ (Unrefused f room × NoPlacement f)
no_role_exactly = fifteen_exactly

-- "it passes if rules 5 and 6 hold .. Demand 3's rivals are all placements that pass and hold so, whatever their form": `Placement` asks a rival for every rule of the check, `PlacementByRoles` for
-- rules 5 and 6 alone, and for a file that 1 to 10 let through the two are the same.
pub rivals_are_all : (f : List ℕ) → All (λ b. b < 256) f → reading_names f ≡ fine → (F : File) → ReadsAs f F → (ts : List Tree) → Placement F ts ↔ PlacementByRoles F ts
rivals_are_all = rivals_all

-- So what is placed has the fewest on steps of all that pass by rules 5 and 6 ..
pub fewest_of_all_rivals : (f : List ℕ) → All (λ b. b < 256) f → (room : ℕ) → (placing f room).number ≡ 0 → (F : File) → ReadsAs f F → (ts : List Tree) → PlacementByRoles F ts
    → (placing f room).on_steps ≤ on_steps_of ts
fewest_of_all_rivals = fewest_of_all

-- .. "no placement of demand 3's kind with as few on steps holds a role through fewer such nodes" (02, K4) than the file written, those by rules 5 and 6 alone among them, counted by the active set with which a node of
-- tags 0 to 4 is reached; where on and off were put in by states these are the nodes of such a tag "in a state other than 0" ..
pub least_idle_of_all_rivals : (f : List ℕ) → All (λ b. b < 256) f → (room : ℕ) → (placing f room).number ≡ 0 → (F G : File) → ReadsAs f F → encode G ≡ placed_bytes f
    → (ts : List Tree) → PlacementByRoles F ts → on_steps_of ts ≤ (placing f room).on_steps → idle_nodes_of G.sessions ≤ idle_in F ts
least_idle_of_all_rivals = least_idle_of_all

pub idle_by_states : (F : File) → Bare F → (states : AllStates (schema_for F) F.sessions)
    → idle_in F (insert_all (schema_for F) F.sessions states) ≡ idle_among (nodes_of F) (listed_all (schema_for F) F.sessions states)
idle_by_states = idle_stated

-- .. and "15 is the answer exactly when nothing before it in the order below refuses and there is none of these".
pub no_role_no_rival : (f : List ℕ) → All (λ b. b < 256) f → (room : ℕ)
    → ((p : ℕ) × (placing f room ≡ no_place 15 p)) ↔ (Unrefused f room × ((F : File) → ReadsAs f F → (ts : List Tree) → PlacementByRoles F ts → ⊥))
no_role_no_rival = none_at_all

-- "The states taken have the fewest on steps", then "the fewest nodes of tags 0 to 4 in a state other than 0 .., and only then the smallest list" (02, K4), in node order at the first difference: for every file that nothing
-- before 15 refuses and that has a placement there is exactly one such list of allowed states, it is the one taken, and the file measured by 16 and the one written have these states.
pub tie_rule : (f : List ℕ) → All (λ b. b < 256) f → (room : ℕ) → Unrefused f room → (F : File) → ReadsAs f F → (ts : List Tree) → Placement F ts → Ruled f F
tie_rule = ruled

-- "16 placing only: the result has over 1,024 nodes (place 0)": exactly when nothing before it refuses, and the file that the tie rule fixes is a placement and has more.
pub too_large_exactly : (f : List ℕ) → All (λ b. b < 256) f → (room p : ℕ) → (placing f room ≡ no_place 16 p) ↔ ((p ≡ 0) × Unrefused f room × PlacedWith (λ n. 1024 < n) f)
too_large_exactly = sixteen_exactly

-- A file is placed in all other cases.
pub placed_otherwise : (f : List ℕ) → All (λ b. b < 256) f → (room : ℕ) → ((placing f room).number ≡ 0) ↔ (Unrefused f room × PlacedWith (λ n. n ≤ 1024) f)
placed_otherwise = placed_exactly

-- "Order: 17, then 1 to 8 by number, lowest place first. Then 9 and 10 together, by node, 9 first .. Placing: 14 (masks before nodes), 15, 16, each at its lowest node." The refusal answered
-- is the first in that order that has its cause, and none is answered where none has.
pub first_of_placing : (f : List ℕ) → All (λ b. b < 256) f → (room : ℕ) → First placing_order (Cause f room) (refusal_in (placing f room))
first_of_placing = placing_first

-- One by one: 17, 1 to 10, 14 at place 0 and at a node, 15 in words. "17 output under 6,874 bytes for placing", and "placing an input whose first word is 2 needs" 6,908, as does one whose first word is 3 (K11): one of a single byte has no first word.
pub room_wanted : (f : List ℕ) → ((2 ≤ length f) × WithJuniors (word_at f 0) → room_for f ≡ 6908) × (((2 ≤ length f) × WithJuniors (word_at f 0) → ⊥) → room_for f ≡ 6874)
room_wanted = room_by_word

pub no_room : (f : List ℕ) (room : ℕ) → (placing f room ≡ no_place 17 0) ↔ (room < room_for f)
no_room = seventeen_exactly

pub names_come_first : (f : List ℕ) (room n p : ℕ) → OfFile n → (placing f room ≡ no_place n p) ↔ ((room_for f ≤ room) × (reading_names f ≡ refused n p))
names_come_first = ten_exactly

pub masks_before_nodes : (f : List ℕ) → All (λ b. b < 256) f → (room : ℕ) → (placing f room ≡ no_place 14 0) ↔ (Clean f room × SomeMask (contents_of f))
masks_before_nodes = fourteen_masks

pub lowest_switch : (f : List ℕ) → All (λ b. b < 256) f → (room p : ℕ) → 1 ≤ p
    → (placing f room ≡ no_place 14 p) ↔ (Clean f room × (SomeMask (contents_of f) → ⊥) × Lowest (IsSwitch (contents_of f).nodes) p)
lowest_switch = fourteen_node

pub lowest_unserved : (f : List ℕ) → All (λ b. b < 256) f → (room p : ℕ) → (placing f room ≡ no_place 15 p) ↔ (Unrefused f room × Lowest (Unserved (contents_of f)) p)
lowest_unserved = fifteen_place

-- "Output bytes past that length keep what they held", and "nothing is written" where anything is refused.
pub rest_kept : (f : List ℕ) → All (λ b. b < 256) f → (out : List ℕ) → (placing f (length out)).number ≡ 0
    → placed_over f out ≡ placed_bytes f ++ drop (length (placed_bytes f)) out
rest_kept = out_written

pub nothing_written : (f out : List ℕ) → (placing f (length out)).number ≢ 0 → placed_over f out ≡ out
nothing_written = out_kept

-- A session all of whose sends and receives one role of its user permits has at most one on step in the file written. (Where no one role permits them all, two steps that one role permits may
-- be cut: {1}, {1, 2}, {2} has the states 1, 1, 2.)
pub one_role_once : (f : List ℕ) → All (λ b. b < 256) f → (room : ℕ) → (placing f room).number ≡ 0 → (F G : File) → ReadsAs f F → encode G ≡ placed_bytes f
    → (k r : ℕ) → InCount (length F.sessions) k → Covers F k r → on_steps (session G k).tree ≤ 1
one_role_once = one_role_written

-- Running. "One thread per session at the start, in order .. with each session's thread at its root, with the session's mask, nothing bound and no channel made": as many threads as sessions, and thread k is
-- that of session k.
pub start_of_a_run : (C : Contents)
    → (length (start C).threads ≡ length C.sessions)
    × ((k : ℕ) → InCount (length C.sessions) k → Seated (item no_session C.sessions k) (get_or (start C).threads (k - 1) no_thread))
    × ((start C).made ≡ [])
start_of_a_run = start_seats

-- "a run does, choice by choice, exactly the calculus steps listed there": a choice gives the state s' exactly where the relation of steps has it, and no other; it is refused with the
-- first number in the order 18, 11, 12, 13, 19, 20 whose condition holds; and where none holds it is done.
pub choice_is_a_step : (C : Clinic) (s : State) (i p : ℕ) (s' : State) → (choice C s i p ≡ goes s') ↔ Steps C s i p s'
choice_is_a_step = agree

-- "512 to 519 the variable bound first to eighth": what an operand stands for in a thread, for steps and choices alike.
pub operands_stand_for : (t : Thread) (x : ℕ) → (x < 512 → value t x ≡ x) × ((i : ℕ) → value t (512 + i) ≡ get_or t.vars i 0)
operands_stand_for = stands_for

pub one_step : (C : Clinic) (s : State) (i p : ℕ) (s' s'' : State) → Steps C s i p s' → Steps C s i p s'' → s' ≡ s''
one_step = one_result

pub refused_in_order : (C : Clinic) (s : State) (i p n : ℕ) → (choice C s i p ≡ halts n) ↔ FirstRefusal C s i p n
refused_in_order = refused_first

pub done_otherwise : (C : Clinic) (s : State) (i p : ℕ) → ((s' : State) × (choice C s i p ≡ goes s')) ↔ ((n : ℕ) → Condition C s i p n → ⊥)
done_otherwise = done_free

-- "fork (the thread takes the first child, a new last thread the second ..); repeat (the thread stays, a new last thread takes the child ..); new (made channel i .. has value 384 + i ..); .. end removes the
-- thread, those after it move down by one; a send with a receiver .. moves both": what a step leaves of each thread and made channel, by its number, those that it doesn't change among them.
pub step_by_number : (C : Clinic) (s : State) (i p : ℕ) (s' : State) → Steps C s i p s' → Effect C s s' i p
step_by_number = step_effect

-- "The run stops at the first refused choice": the choices done are steps in order from the start, the next is refused with the number answered, and without one all are done.
pub run_is_steps : (C : Clinic) (ws : List ℕ) (s : State) → Chain C s (take (2 * (run C s ws).count) ws) (run C s ws).state
run_is_steps = run_chain

pub run_stops : (C : Clinic) (ws : List ℕ) (s : State) → (run C s ws).refusal ≢ 0 → Refuses C ws (run C s ws)
run_stops = run_stopped

pub run_ends : (C : Clinic) (ws : List ℕ) (s : State) → (run C s ws).refusal ≡ 0 → length ws % 2 ≡ 0 → 2 * (run C s ws).count ≡ length ws
run_ends = run_whole

-- What a run of any bytes through any list answers. "17 output under .. 1,800 for a run; an odd number of words of choices, or over 65,535 choices", at place 0, exactly for these and before any look at the file;
-- "Order: 17, then 1 to 8 by number": then 1 to 10 exactly as the file is read; then 0, or what halted the run at "the choice's number from 1": the choices done and one more.
pub run_no_room : (f ws : List ℕ) (room : ℕ) → Unfit ws room → running f ws room ≡ refused 17 0
run_no_room = run_unfit

pub run_seventeen_exactly : (f ws : List ℕ) (room : ℕ) → ((running f ws room).number ≡ 17) ↔ Unfit ws room
run_seventeen_exactly = run_seventeen

pub run_names_next : (f ws : List ℕ) (room n p : ℕ) → OfFile n → (running f ws room ≡ refused n p) ↔ (Fit ws room × (reading_names f ≡ refused n p))
run_names_next = run_names

pub run_goes_through : (f ws : List ℕ) (room : ℕ) → Fit ws room → reading_names f ≡ fine → (ran_of f ws).refusal ≡ 0 → running f ws room ≡ fine
run_goes_through = run_through

pub run_halts : (f ws : List ℕ) (room : ℕ) → Fit ws room → reading_names f ≡ fine → (ran_of f ws).refusal ≢ 0 → running f ws room ≡ refused (ran_of f ws).refusal ((ran_of f ws).count + 1)
run_halts = run_halted

-- "nothing is written, except that a run halted at a choice writes the state before that choice": nothing where 17 or 1 to 10 refuse.
pub run_writes_nothing : (f ws out : List ℕ) → Unfit ws (length out) ⊎ (reading_names f ≢ fine) → run_over f ws out ≡ out
run_writes_nothing = run_unwritten

-- "Output words: choices done, refusal (0 if none), threads, made channels; per made channel owner and kind; per thread user, node, mask, the number of roles it holds, its eight variables. Nothing past that is
-- written": else each word by its offset is a field of `Written`, and every byte past them is what it was.
pub run_writes : (f ws out : List ℕ) → Fit ws (length out) → reading_names f ≡ fine → Written (ran_of f ws) out (run_over f ws out)
run_writes = run_written

-- Runs and ready pairs in literal words: a fork, a repeat, a made channel, a meeting, ends and halts.
pub runs_in_words : All RunShown run_cases
runs_in_words = runs_shown

-- In every state of a run of a file that 1 to 10 let through each thread's node is in count, its user that of its session, its mask the active set of rule 5 at that node and within the
-- user's roles, each variable of rule 1's kind there, and 0 where none is bound; the variable that a binder takes, the first 0 of the eight, is the next on the path.
pub states_of_runs : (f : List ℕ) → reading_names f ≡ fine → (ws : List ℕ) → Kept (contents_of f) (ran_of f ws).state
states_of_runs = run_kept

pub next_variable : (C : Contents) {s : State} → Kept C s → (i : ℕ) → InCount (length s.threads) i → (c : Context) → Reaches C (thread_at s i) c
    → first_free (thread_at s i).vars ≡ length c.vars
next_variable = next_free

-- "for every list of choices, whatever threads and partners they name and refused ones included, the run of a placed file through that list, from the file's own start, is not stopped for a role
-- that isn't the user's, isn't held, or doesn't permit the step": of the bytes that placing wrote and any words whatever.
pub never_for_a_role : (f : List ℕ) → All (λ b. b < 256) f → (room : ℕ) → (placing f room).number ≡ 0 → (ws : List ℕ)
    → ((ran_of (placed_bytes f) ws).refusal ≢ 11) × ((ran_of (placed_bytes f) ws).refusal ≢ 12) × ((ran_of (placed_bytes f) ws).refusal ≢ 13)
never_for_a_role = placed_unbarred

-- With an output of at least 1,800 bytes and an even list of at most 65,535 choices the answer is 0, 18, 19 or 20; else 17.
pub placed_run_answers : (f : List ℕ) → All (λ b. b < 256) f → (room : ℕ) → (placing f room).number ≡ 0 → (ws : List ℕ) (room' : ℕ) → 1800 ≤ room' → listed (length ws) ≡ true
    → ((running (placed_bytes f) ws room').number ≡ 0)
    ⊎ (((running (placed_bytes f) ws room').number ≡ 18) ⊎ (((running (placed_bytes f) ws room').number ≡ 19) ⊎ ((running (placed_bytes f) ws room').number ≡ 20)))
placed_run_answers = placed_safe

pub placed_run_seventeen : (f : List ℕ) → All (λ b. b < 256) f → (room : ℕ) → (placing f room).number ≡ 0 → (ws : List ℕ) (room' : ℕ)
    → (room' < 1800) ⊎ ((length ws % 2 ≡ 1) ⊎ (131070 < length ws)) → running (placed_bytes f) ws room' ≡ refused 17 0
placed_run_seventeen f bytes room placed ws room' unfit = run_unfit (placed_bytes f) ws room' unfit

-- The same of any file that passes the check.
pub checked_never_for_a_role : (f : List ℕ) → checking f ≡ fine → (ws : List ℕ) → ((ran_of f ws).refusal ≢ 11) × ((ran_of f ws).refusal ≢ 12) × ((ran_of f ws).refusal ≢ 13)
checked_never_for_a_role = run_safe

-- "The ready pair of a state is the lowest sender, then the lowest receiver that can meet it without refusal; a sender without one is passed over; 0, 0 exactly if no pair exists."
pub ready_is_done : (C : Clinic) (s : State) (i p : ℕ) → ready_pair C s ≡ (i, p) → i ≢ 0 → (s' : State) × Steps C s i p s' × (n : Node) × StandsAt C s i n × (n.tag ≡ 6)
ready_is_done = ready_done

pub ready_is_lowest : (C : Clinic) (s : State) (i p : ℕ) → ready_pair C s ≡ (i, p) → i ≢ 0
    → ((j q : ℕ) (n : Node) → j < i → StandsAt C s j n → n.tag ≡ 6 → (m : ℕ) × (choice C s j q ≡ halts m)) × ((q : ℕ) → q < p → (m : ℕ) × (choice C s i q ≡ halts m))
ready_is_lowest = ready_lowest

pub no_pair_exactly : (C : Clinic) (s : State)
    → (ready_pair C s ≡ (0, 0)) ↔ ((j q : ℕ) (n : Node) → StandsAt C s j n → n.tag ≡ 6 → (m : ℕ) × (choice C s j q ≡ halts m))
no_pair_exactly = ready_none

pub none_together : (C : Clinic) (s : State) (i p : ℕ) → ready_pair C s ≡ (i, p) → (i ≡ 0) ↔ (p ≡ 0)
none_together = ready_zero

-- What is answered for it after a list of choices: there is no output, so 17 exactly for the list's own faults; then 1 to 10 as the file is read; then what halted the run, with its place; each with 0, 0 in place
-- of a pair. Else number and place are 0, and sender and receiver those of the state after the list.
pub ready_unfit : (f ws : List ℕ) → Unlisted ws → ready f ws ≡ no_pair 17 0
ready_unfit = ready_unlisted

pub ready_seventeen_exactly : (f ws : List ℕ) → ((ready f ws).number ≡ 17) ↔ Unlisted ws
ready_seventeen_exactly = ready_seventeen

pub ready_names_next : (f ws : List ℕ) (n p : ℕ) → OfFile n → (ready f ws ≡ no_pair n p) ↔ (Listed ws × (reading_names f ≡ refused n p))
ready_names_next = ready_names

pub ready_halts : (f ws : List ℕ) → Listed ws → reading_names f ≡ fine → (ran_of f ws).refusal ≢ 0 → ready f ws ≡ no_pair (ran_of f ws).refusal ((ran_of f ws).count + 1)
ready_halts = ready_halted

pub ready_after_list : (f ws : List ℕ) → Listed ws → reading_names f ≡ fine → (ran_of f ws).refusal ≡ 0
    → ready f ws ≡ record {
      number = 0;
      place = 0;
      sender = (ready_pair (clinic_of (contents_of f)) (ran_of f ws).state).0;
      receiver = (ready_pair (clinic_of (contents_of f)) (ran_of f ws).state).1;
    }
ready_after_list = ready_found

-- K6: "The run's state is to keep 32 such totals, each equal to that count at the start and after every choice": of a file that 1 to 10 let through, beside the threads of a run through any list (each start of a
-- list is one) stands for every kind 1 to 32 the number of threads that stand at a receive whose channel's value has that kind; the kind by which the run counts, the node's, is rule 1's.
pub totals_kept : (f : List ℕ) → reading_names f ≡ fine → (ws : List ℕ) (k : ℕ) → InCount 32 k → get_or (beside_of_run f ws) (129 + k) 0 ≡ waiting_in (clinic_of (contents_of f)) (ran_of f ws).state k
totals_kept = kept_totals

pub counted_by_rule_one : (f : List ℕ) → reading_names f ≡ fine → (j : ℕ) (c : Context) → InCount (length (contents_of f).nodes) j × InContext (schema_of (contents_of f)) (contents_of f).nodes (openings (contents_of f)) j c
    → ((clinic_of (contents_of f)).node j).tag ≡ 5 → awaits (contents_of f) j ≡ kind_of (schema_of (contents_of f)) c.vars ((clinic_of (contents_of f)).node j).f1
counted_by_rule_one = rule_one

-- "the totals are read separately": those of the state in which the run stands, halted or not, with the run's own answer; all 0 where 17 or 1 to 10 refuse.
pub totals_of_run : (f : List ℕ) → reading_names f ≡ fine → (ws : List ℕ) → listed (length ws) ≡ true
    → ((totals_after f ws).number ≡ (stopped (ran_of f ws)).number) × ((totals_after f ws).place ≡ (stopped (ran_of f ws)).place)
    × ((k : ℕ) → InCount 32 k → get_or (totals_after f ws).totals (k - 1) 0 ≡ waiting_in (clinic_of (contents_of f)) (ran_of f ws).state k)
totals_of_run = totals_answered

pub no_totals_unfit : (f ws : List ℕ) → listed (length ws) ≡ false → totals_after f ws ≡ totals_of (refused 17 0) (replicate 32 0)
no_totals_unfit = totals_unlisted

pub no_totals_unread : (f ws : List ℕ) → listed (length ws) ≡ true → (reading_names f).number ≢ 0 → totals_after f ws ≡ totals_of (reading_names f) (replicate 32 0)
no_totals_unread = totals_unread

-- "the screen reads one of them (0 for a kind outside 1 to 32)", from the words beside the desk's own list; 0 for another number of words.
pub screen_reads : (b : List ℕ) (k : ℕ) → length b ≡ 162 → InCount 32 k → total_in b k ≡ get_or b (129 + k) 0
screen_reads = total_read_off

pub screen_reads_none : (b : List ℕ) (k : ℕ) → (length b ≡ 162 → InCount 32 k → ⊥) → total_in b k ≡ 0
screen_reads_none = no_total

-- So of a list that holds a state with its totals the screen shows the count ..
pub screen_shows : (C : Contents) (l : List Thread) (b : List ℕ) (s : State) → Lends C l b s → (k : ℕ) → InCount 32 k → total_in b k ≡ waiting_in (clinic_of C) s k
screen_shows C l b s h k inside = total_read_off b k h.words inside ∙ h.totals k inside

-- .. and "lent beside the desk's own list .. a wrong one is 18 at place 0", of whichever kind 1 to 32.
pub wrong_total : (f : List ℕ) → reading_names f ≡ fine → (l : List Thread) → All Eight l → (b : List ℕ) (k : ℕ) → InCount 32 k
    → get_or b (129 + k) 0 ≢ waiting_in (clinic_of (contents_of f)) (state_of l b) k → (i p : ℕ) → choosing f l b i p ≡ refused 18 0
wrong_total f clean l eight b k inside wrong i p = (eighteen_zero f l eight b i p).1 (clean, λ h. wrong (h.totals k inside))

-- The 162 words of a run in which two threads wait, one of them on a made channel, and then one is met.
pub totals_in_words : (beside_of_run (bytes_of ward) (2 ∷ 0 ∷ 3 ∷ 0 ∷ []) ≡ 3 ∷ 1 ∷ 2 ∷ 3 ∷ replicate 126 0 ++ (1 ∷ 0 ∷ 1 ∷ replicate 29 0))
    × (beside_of_run (bytes_of ward) (2 ∷ 0 ∷ 3 ∷ 0 ∷ 1 ∷ 2 ∷ []) ≡ 3 ∷ 1 ∷ 2 ∷ 3 ∷ replicate 126 0 ++ (0 ∷ 0 ∷ 1 ∷ replicate 29 0))
totals_in_words = (two_wait, one_is_met)

-- "a lent list of threads may be no state of a run": in any that may be lent the variable that a binder takes is the next on the path, and a choice that is done is a step of the state that is lent, whose result the
-- list then holds.
pub next_variable_lent : (C : Contents) (l : List Thread) (b : List ℕ) → Lendable C l b → (i : ℕ) → InCount (length (state_of l b).threads) i → (c : Context)
    → Reaches C (thread_at (state_of l b) i) c → first_free (thread_at (state_of l b) i).vars ≡ length c.vars
next_variable_lent = lent_free

pub lent_choice_is_a_step : (f : List ℕ) (l : List Thread) → All Eight l → (b : List ℕ) (i p : ℕ) → choosing f l b i p ≡ fine
    → (s' : State) × Steps (clinic_of (contents_of f)) (state_of l b) i p s' × Lends (contents_of f) (records_over f l b i p) (beside_over f l b i p) s'
lent_choice_is_a_step = lent_steps

-- The live desk's list. "Another number of records, a count above 64, a made channel's owner or kind out of count, or in a counted thread a node out of count, a user not that of the node's session, a role in
-- the mask not assigned to that user, or a variable not of the kind that rule 1 gives it at that node (0 where none is bound), is 18 at place 0": exactly where the file passes 1 to 10 and what is lent is not `Lendable`.
pub lent_exactly : (f : List ℕ) (l : List Thread) → All Eight l → (b : List ℕ) (i p : ℕ) → (choosing f l b i p ≡ refused 18 0) ↔ ((reading_names f ≡ fine) × (Lendable (contents_of f) l b → ⊥))
lent_exactly = eighteen_zero

-- Nothing refuses before the choice exactly where the file passes 1 to 10 and what is lent is `Lendable`. So "11 to 13 may then stop" a list that is no state of a run
-- (`choice_has_place_one`): it is not refused at place 0, and its choice may be, at place 1.
pub lendable_exactly : (f : List ℕ) (l : List Thread) → All Eight l → (b : List ℕ) → (lending f l b ≡ fine) ↔ ((reading_names f ≡ fine) × Lendable (contents_of f) l b)
lendable_exactly = lending_exactly

-- "64 records, the thread count and made channels beside it": the state that is lent, by its words. Word 0 counts the threads, which are the first records, word 1 the made
-- channels; made channel j has its owner at word 2 j and its kind at word 2 j + 1.
pub lent_by_words : (l : List Thread) (b : List ℕ)
    → ((state_of l b).threads ≡ take (get_or b 0 0) l) × (length (state_of l b).made ≡ get_or b 1 0)
    × ((j : ℕ) → InCount (get_or b 1 0) j
    → item no_made (state_of l b).made j ≡ record { owner = get_or b (2 * j) 0; kind = record { 0 = get_or b (2 * j + 1) 0 } })
lent_by_words l b = (refl, made_counted b, made_by_words b)

-- "the file is judged by 1 to 10 first", and "the choice itself has place 1": what a choice in the state that is lent is refused with.
pub file_first : (f : List ℕ) (l : List Thread) (b : List ℕ) (i p n q : ℕ) → OfFile n → (choosing f l b i p ≡ refused n q) ↔ (reading_names f ≡ refused n q)
file_first = ten_first

pub choice_has_place_one : (f : List ℕ) (l : List Thread) (b : List ℕ) (i p n : ℕ) → 10 < n → n ≢ 21
    → (choosing f l b i p ≡ refused n 1) ↔ ((lending f l b ≡ fine) × (choice (clinic_of (contents_of f)) (state_of l b) i p ≡ halts n))
choice_has_place_one = past_ten_one

-- "Where the answer is an enum ..": of a choice its refusal, at that place (`answer_of`), or the state after it (`outcome_of`).
pub choice_by_case : (C : Clinic) (s : State) (i p : ℕ)
    → (answer_of (acted_of (outcome C s i p)).answer ≡ chosen_answer (choice C s i p))
    × (done s i p (outcome_of (acted_of (outcome C s i p))) ≡ choice C s i p)
choice_by_case = choice_answered

-- In any list that may be lent, state of a run or not, a choice is answered 0 exactly where it is done in the state that is lent.
pub lent_choice_exactly : (f : List ℕ) (l : List Thread) (b : List ℕ) (i p : ℕ)
    → (choosing f l b i p ≡ fine) ↔ ((lending f l b ≡ fine) × ((s : State) × (choice (clinic_of (contents_of f)) (state_of l b) i p ≡ goes s)))
lent_choice_exactly = choosing_fine

-- "from a state of a run it gives the run's next state": a state of a run is never 18 at place 0; a choice in it leaves the list holding the state of the run with that choice more, or is refused at place 1 as
-- that run is; and so for whole lists of choices, done one after the other.
pub run_may_be_lent : (f : List ℕ) → reading_names f ≡ fine → (ws : List ℕ) (l : List Thread) (b : List ℕ) → Lends (contents_of f) l b (ran_of f ws).state → lending f l b ≡ fine
run_may_be_lent = kept_lendable

pub next_of_run : (f : List ℕ) → reading_names f ≡ fine → (ws : List ℕ) → length ws % 2 ≡ 0 → (ran_of f ws).refusal ≡ 0 → (l : List Thread) (b : List ℕ) → Lends (contents_of f) l b (ran_of f ws).state → (i p : ℕ)
    → Lends (contents_of f) (records_over f l b i p) (beside_over f l b i p) (ran_of f (ws ++ (i ∷ p ∷ []))).state
    × (choosing f l b i p ≡ cond (eqb (ran_of f (ws ++ (i ∷ p ∷ []))).refusal 0) fine (refused (ran_of f (ws ++ (i ∷ p ∷ []))).refusal 1))
next_of_run = lent_next

pub run_in_turn : (f : List ℕ) → reading_names f ≡ fine → (ws : List ℕ) (l : List Thread) (b : List ℕ) → Lends (contents_of f) l b (start (contents_of f))
    → Lends (contents_of f) (in_turn f l b ws).records (in_turn f l b ws).beside (ran_of f ws).state
    × ((in_turn f l b ws).answer ≡ cond (eqb (ran_of f ws).refusal 0) fine (refused (ran_of f ws).refusal 1))
run_in_turn = whole_run

-- A desk begins with any 64 records and 162 words: the file is judged by 1 to 10 first, then another number of records or of words is 18 at place 0, and nothing else is refused.
pub start_file_first : (f : List ℕ) (records words n q : ℕ) → OfFile n → (starting f records words ≡ refused n q) ↔ (reading_names f ≡ refused n q)
start_file_first = start_ten

pub start_sizes : (f : List ℕ) (records words : ℕ) → (starting f records words ≡ refused 18 0) ↔ ((reading_names f ≡ fine) × ((records ≢ 64) ⊎ (words ≢ 162)))
start_sizes = start_eighteen

pub start_otherwise : (f : List ℕ) (records words : ℕ) → (starting f records words ≡ fine) ↔ ((reading_names f ≡ fine) × (records ≡ 64) × (words ≡ 162))
start_otherwise = start_fine

-- The list and the words beside it then hold the state that a run begins with, which may be lent; records past the sessions and words between the two counts and the totals keep what they held; and where it is refused, all stays.
pub start_is_the_runs : (f : List ℕ) (l : List Thread) (b : List ℕ) → (starting f (length l) (length b)).number ≡ 0
    → Lends (contents_of f) (records_started f l b) (beside_started f l b) (start (contents_of f)) × (lending f (records_started f l b) (beside_started f l b) ≡ fine)
start_is_the_runs f l b quiet = (start_lends f l b quiet, start_lendable f l b quiet)

pub start_keeps_the_rest : (f : List ℕ) (l : List Thread) (b : List ℕ) → (starting f (length l) (length b)).number ≡ 0
    → ((k : ℕ) (t : Thread) → length (contents_of f).sessions ≤ k → get_or (records_started f l b) k t ≡ get_or l k t) × ((k : ℕ) → count_words ≤ k → k < 130 → get_or (beside_started f l b) k 0 ≡ get_or b k 0)
start_keeps_the_rest f l b quiet = (start_records_past f l b quiet, start_words_past f l b quiet)

pub start_refused_leaves_all : (f : List ℕ) (l : List Thread) (b : List ℕ) → (starting f (length l) (length b)).number ≢ 0 → (records_started f l b ≡ l) × (beside_started f l b ≡ b)
start_refused_leaves_all = refused_start

-- A list that passes the judging passes it again after a choice that is done in it.
pub lent_after : (f : List ℕ) (l : List Thread) → All Eight l → (b : List ℕ) → lending f l b ≡ fine → (i p : ℕ) → choosing f l b i p ≡ fine
    → lending f (records_over f l b i p) (beside_over f l b i p) ≡ fine
lent_after = lent_again

-- "Every refused choice leaves the list unchanged; records past the count after the choice keep what they held": the words beside it alike.
pub refused_leaves_all : (f : List ℕ) (l : List Thread) (b : List ℕ) (i p : ℕ) → (choosing f l b i p).number ≢ 0 → (records_over f l b i p ≡ l) × (beside_over f l b i p ≡ b)
refused_leaves_all = refused_unchanged

pub past_the_count : (f : List ℕ) (l : List Thread) (b : List ℕ) (i p : ℕ)
    → (drop (thread_count (beside_over f l b i p)) (records_over f l b i p) ≡ drop (thread_count (beside_over f l b i p)) l)
    × ((k : ℕ) → used_words (made_count (beside_over f l b i p)) ≤ k → k < 130 → get_or (beside_over f l b i p) k 0 ≡ get_or b k 0)
past_the_count = past_kept

-- The lent list in literal records and words, as a file starts and after a choice: each made channel's owner stands before its kind.
pub lent_lists_in_words : All LendShown lend_cases
lent_lists_in_words = lends_shown

-- "Starred cases belong to the proved set .. shown on the definitions through one theorem about their list"; with them the five compares of the head of theatre (02, K4).
pub starred_cases : All Shown cases
starred_cases = starred

-- What a file holds decides: two files that 1 to 8 answer alike and that hold the same have the same answers, for every caller, and the same outputs but for the placed file's form;
-- where placing wants as much output of both, the lengths too, and where both are of one version, all.
pub same_answers : (f g : List ℕ) → reading f ≡ reading g → contents_of f ≡ contents_of g → AlikeBesideForm f g
same_answers = alike_beside_form

pub same_lengths : (f g : List ℕ) → reading f ≡ reading g → contents_of f ≡ contents_of g → room_for f ≡ room_for g → AlikeBesideBytes f g
same_lengths = alike_beside_bytes

pub same_contents : (f g : List ℕ) → reading f ≡ reading g → contents_of f ≡ contents_of g → room_for f ≡ room_for g → version_at f ≡ version_at g → Alike f g
same_contents = alike

-- Two files that 1 to 8 refuse alike have the same answers, whatever else they are, where placing wants as much output of both.
pub same_refusals : (f g : List ℕ) → reading f ≡ reading g → (reading g).number ≢ 0 → room_for f ≡ room_for g → Alike f g
same_refusals f g same bad = unread_alike f g same (ne_eqb (reading g).number 0 bad)

-- Request K1, version 2. "Version 1 still reads, as if all masks were 0": a file of version 1 and the same in version 2 with all masks 0 hold the same, and are answered alike.
pub first_as_second : (F : File) → WellFormed F → (contents_of (encode (as_second F)) ≡ contents_of (encode F)) × AlikeBesideForm (encode (as_second F)) (encode F)
first_as_second = second_alike

-- .. and placed it is the placed file of version 1, in version 2 with all masks 0, with as many on steps (`measured` above); for a minute too.
pub first_placed_as_second : (F G : File) → encode G ≡ placed_bytes (encode F) → encode (as_second G) ≡ placed_bytes (encode (as_second F))
unfolding placed_bytes
first_placed_as_second F G writes = second_placed F G turns_for writes

pub first_placed_as_second_at : (F G : File) (t : List ℕ) (m : ℕ)
    → encode G ≡ placed_bytes_at (encode F) t m → encode (as_second G) ≡ placed_bytes_at (encode (as_second F)) t m
unfolding placed_bytes_at
first_placed_as_second_at F G t m writes = second_placed F G (λ C. turns_for (open_contents (shut t m) C)) writes

-- In literal words: a chain of juniors in the check and in placing, the placed file with its version and masks, 11 for on of a junior, and 21 at its places.
pub junior_cases_lem : All Shown junior_cases
junior_cases_lem = ranked

-- "21 .. directly after 6": between 6 and 7 in every order.
pub junior_turn : (reading_order.stage 6 < reading_order.stage 21) × (reading_order.stage 21 < reading_order.stage 7)
    × (check_order.stage 6 < check_order.stage 21) × (check_order.stage 21 < check_order.stage 7)
    × (placing_order.stage 6 < placing_order.stage 21) × (placing_order.stage 21 < placing_order.stage 7)
junior_turn = (omega arith, omega arith, omega arith, omega arith, omega arith, omega arith)

-- "the largest version 2 file has 6,908 bytes"; that of version 1 has 6,874, and both are reached.
pub largest_files : (n : Six) → Counted n → (length_of 1 n ≤ 6874) × (length_of 2 n ≤ 6908)
largest_files n c = (omega (arith, c), omega (arith, c))

pub largest_reached : (length_of 1 (record { users = 32; roles = 16; kinds = 32; channels = 64; sessions = 32; nodes = 1024 }) ≡ 6874)
    × (length_of 2 (record { users = 32; roles = 16; kinds = 32; channels = 64; sessions = 32; nodes = 1024 }) ≡ 6908)
largest_reached = (refl, refl)

-- "This holds for check, run and placing, the fewest on steps included": what a set of active roles permits is, for all of them, what some role of the set is granted by the words, its own or through any chain of juniors.
pub rule_six_by_words : (f : List ℕ) → reading f ≡ fine → (m : ℕ) (w : Way) (k : ℕ)
    → Permitted (schema_of (contents_of f)) m w k ↔ ((r : ℕ) × InCount (word_at f 2) r × (has m r ≡ true) × Granted (own_mask f w) (junior_mask f) k r)
rule_six_by_words f e m w k = (
  λ (r, (low, high), held, may). let c : InCount (word_at f 2) r = (low, omega (arith, high, (counted_by_words f).roles)) in (r, c, held, (grants_through_juniors f e w r k c).0 may),
  λ (r, c, held, g). (r, (c.0, omega (arith, c.1, (counted_by_words f).roles)), held, (grants_through_juniors f e w r k c).1 g),
)

-- Request K2, hours. "A table of hours is lent beside the file, three words a row: role, first minute, end minute of the week": row i, from 0, of the table t.
pub rows_by_words : (t : List ℕ) (i : ℕ) → row_at t i ≡ record { role = get_or t (3 * i) 0; first = get_or t (3 * i + 1) 0; end = get_or t (3 * i + 2) 0 }
rows_by_words t i = refl

-- "A role is open at minute m if some row has first ≤ m and m < end. A role without rows is always open": `Open` says so, and exactly the roles that are not open are shut.
pub open_by_rows : (t : List ℕ) (m r : ℕ) → 1 ≤ r → r ≤ 16 → (has (shut t m) r ≡ false) ↔ Open t m r
open_by_rows = open_exactly

-- A file as it stands at a minute: of the roles assigned each user has exactly those that are open ..
pub stands_with_open_roles : (t : List ℕ) (m : ℕ) (F : File) → WellFormed F → (u r : ℕ)
    → (has (item 0 (open_file t m F).users u) r ≡ true) ↔ ((has (item 0 F.users u) r ≡ true) × Open t m r)
stands_with_open_roles = open_masks

-- .. and nothing else changes: "A senior role that is open keeps what its closed juniors permit, and a starting mask is judged, and permits, without hours".
pub grants_without_hours : (t : List ℕ) (m : ℕ) (F : File) → (schema_for (open_file t m F)).grants ≡ (schema_for F).grants
grants_without_hours t m F = refl

pub sessions_without_hours : (t : List ℕ) (m : ℕ) (F : File) → (open_file t m F).sessions ≡ F.sessions
sessions_without_hours t m F = refl

pub tables_without_hours : (t : List ℕ) (m : ℕ) (F : File)
    → (length (open_file t m F).users ≡ length F.users) × ((open_file t m F).grants ≡ F.grants) × ((open_file t m F).kinds ≡ F.kinds) × ((open_file t m F).channels ≡ F.channels)
tables_without_hours t m F = (users_open t m F, refl, refl, refl)

-- "Check .. can be called for a minute": nothing is refused exactly where the table is of whole rows, at most 64, and the minute one of the week, where the bytes read as a well formed file (7 by
-- the whole masks), every row fits its roles, and the file as it stands at the minute obeys the rules.
pub checks_at_exactly : (f : List ℕ) → All (λ b. b < 256) f → (t : List ℕ) (m : ℕ)
    → (checking_at f t m ≡ fine) ↔ (TableFits t m × ((F : File) × WellFormed F × ReadsAs f F × (RowsFit (length (roles_of F.grants)) t × Obeys (open_file t m F))))
checks_at_exactly f bytes t m = check_at_exact f t m bytes

-- "22 .. directly after 17; 23 .. after 8; 24, on of a closed role, place the node, in the check only, directly after 11": the refusal answered is the first in that order that has its cause, each in the request's own
-- words, and none is answered where none has.
pub first_of_check_at : (f t : List ℕ) (m : ℕ) → First (with_hours check_order) (ObjectionAt f t m) (checking_at f t m)
first_of_check_at = check_at_first

-- "placing, the placements it is compared with, and 15 then count open roles only". Where nothing before 15 refuses, the answer is that for the file as it stands at the minute ..
pub placed_as_it_stands : (f : List ℕ) → All (λ b. b < 256) f → (t : List ℕ) (m room : ℕ) → UnrefusedAt f t m room → (F : File) → ReadsAs f F
    → placing_at f t m room ≡ placing (encode (open_file t m F)) (room_for (encode (open_file t m F)))
placed_as_it_stands f bytes t m room u F e = placed_standing f bytes t m F (left_at f bytes t m u F e) u

-- .. and what is placed has its input's users, whole masks, roles, kinds and channels, its sessions' users and starting masks, and the trees that are placed of the file as it stands, well placed: a placement with open
-- roles only, with the fewest on steps of all, by the tie rule. It passes the check at that minute, and the length and the count returned are its own.
pub places_well_at : (f : List ℕ) → All (λ b. b < 256) f → (t : List ℕ) (m room : ℕ) → (placing_at f t m room).number ≡ 0 → WellPlacedAt f t m (placing_at f t m room) (placed_bytes_at f t m)
places_well_at = well_at

-- No placement with open roles only, of those that pass by rules 5 and 6, has fewer on steps, nor, with as few, holds a role through fewer nodes of tags 0 to 4; 15 is the answer exactly where nothing before it refuses and there is none of these (by all rules, and by 5 and 6 alone), and
-- its place is the lowest send or receive that no open role of the user permits.
pub fewest_of_open_rivals : (f : List ℕ) → All (λ b. b < 256) f → (t : List ℕ) (m room : ℕ) → (placing_at f t m room).number ≡ 0 → (F : File) → ReadsAs f F → (ts : List Tree)
    → PlacementByRoles (open_file t m F) ts → (placing_at f t m room).on_steps ≤ on_steps_of ts
fewest_of_open_rivals = fewest_at

pub least_idle_of_open_rivals : (f : List ℕ) → All (λ b. b < 256) f → (t : List ℕ) (m room : ℕ) → (placing_at f t m room).number ≡ 0 → (F G : File) → ReadsAs f F → encode G ≡ placed_bytes_at f t m
    → (ts : List Tree) → PlacementByRoles (open_file t m F) ts → on_steps_of ts ≤ (placing_at f t m room).on_steps → idle_nodes_of G.sessions ≤ idle_in F ts
least_idle_of_open_rivals = least_idle_at

pub no_open_role_exactly : (f : List ℕ) → All (λ b. b < 256) f → (t : List ℕ) (m room : ℕ)
    → ((p : ℕ) × (placing_at f t m room ≡ no_place 15 p)) ↔ (UnrefusedAt f t m room × ((F : File) → ReadsAs f F → (ts : List Tree) → Placement (open_file t m F) ts → ⊥))
no_open_role_exactly = fifteen_at

pub no_open_role_no_rival : (f : List ℕ) → All (λ b. b < 256) f → (t : List ℕ) (m room : ℕ)
    → ((p : ℕ) × (placing_at f t m room ≡ no_place 15 p)) ↔ (UnrefusedAt f t m room × ((F : File) → ReadsAs f F → (ts : List Tree) → PlacementByRoles (open_file t m F) ts → ⊥))
no_open_role_no_rival = none_at

pub lowest_unserved_at : (f : List ℕ) → All (λ b. b < 256) f → (t : List ℕ) (m room p : ℕ)
    → (placing_at f t m room ≡ no_place 15 p) ↔ (UnrefusedAt f t m room × Lowest (Unserved (open_contents (shut t m) (contents_of f))) p)
lowest_unserved_at = fifteen_place_at

-- The tie rule, 16, 17, and that a file is placed in all other cases.
pub tie_rule_at : (f : List ℕ) → All (λ b. b < 256) f → (t : List ℕ) (m room : ℕ) → UnrefusedAt f t m room → (F : File) → ReadsAs f F → (ts : List Tree) → Placement (open_file t m F) ts → RuledAt f t m F
tie_rule_at = ruled_at

pub too_large_at_exactly : (f : List ℕ) → All (λ b. b < 256) f → (t : List ℕ) (m room p : ℕ)
    → (placing_at f t m room ≡ no_place 16 p) ↔ ((p ≡ 0) × UnrefusedAt f t m room × Standing (PlacedWith (λ n. 1024 < n)) f t m)
too_large_at_exactly = sixteen_at

pub no_room_at : (f : List ℕ) → All (λ b. b < 256) f → (t : List ℕ) (m room : ℕ) → (placing_at f t m room ≡ no_place 17 0) ↔ (room < room_for f)
no_room_at = seventeen_at

pub placed_otherwise_at : (f : List ℕ) → All (λ b. b < 256) f → (t : List ℕ) (m room : ℕ) → ((placing_at f t m room).number ≡ 0) ↔ (UnrefusedAt f t m room × Standing (PlacedWith (λ n. n ≤ 1024)) f t m)
placed_otherwise_at = placed_at

-- The order: 17, 22, 1 to 8, 23, 9 and 10, then 14, 15, 16.
pub first_of_placing_at : (f : List ℕ) → All (λ b. b < 256) f → (t : List ℕ) (m room : ℕ) → First (with_hours placing_order) (CauseAt f t m room) (refusal_in (placing_at f t m room))
first_of_placing_at = place_at_first

-- Output bytes past the placed file keep what they held, and nothing is written where anything is refused.
pub rest_kept_at : (f : List ℕ) → All (λ b. b < 256) f → (t : List ℕ) (m : ℕ) (out : List ℕ) → (placing_at f t m (length out)).number ≡ 0
    → placed_over_at f t m out ≡ placed_bytes_at f t m ++ drop (length (placed_bytes_at f t m)) out
rest_kept_at = written_over_at

pub nothing_written_at : (f t : List ℕ) (m : ℕ) (out : List ℕ) → (placing_at f t m (length out)).number ≢ 0 → placed_over_at f t m out ≡ out
nothing_written_at = kept_at

-- With an empty table, at a minute of the week, both answer as without hours.
pub without_rows : (f : List ℕ) (m : ℕ) → m ≤ 10079
    → (checking_at f [] m ≡ checking f) × ((room : ℕ) → placing_at f [] m room ≡ placing f room) × ((out : List ℕ) → placed_over_at f [] m out ≡ placed_over f out)
without_rows f m week = (check_empty f m week, place_empty f m week, over_empty f m week)

-- What passes for some minute passes the check without hours, and so does what is placed for one.
pub checked_at_checked : (f t : List ℕ) (m : ℕ) → checking_at f t m ≡ fine → checking f ≡ fine
checked_at_checked = passes_plain

pub placed_at_checked : (f : List ℕ) → All (λ b. b < 256) f → (t : List ℕ) (m room : ℕ)
    → (placing_at f t m room).number ≡ 0 → checking (placed_bytes_at f t m) ≡ fine
placed_at_checked f bytes t m room placed = passes_plain (placed_bytes_at f t m) t m (well_at f bytes t m room placed).passes

-- Runs know no hours, and a file placed for a minute is not stopped for a role in any of them, whatever the list; nor is any file that passes for some minute.
pub never_for_a_role_at : (f : List ℕ) → All (λ b. b < 256) f → (t : List ℕ) (m room : ℕ) → (placing_at f t m room).number ≡ 0 → (ws : List ℕ)
    → ((ran_of (placed_bytes_at f t m) ws).refusal ≢ 11) × ((ran_of (placed_bytes_at f t m) ws).refusal ≢ 12) × ((ran_of (placed_bytes_at f t m) ws).refusal ≢ 13)
never_for_a_role_at f bytes t m room placed = run_safe (placed_bytes_at f t m) (placed_at_checked f bytes t m room placed)

pub checked_at_never_for_a_role : (f t : List ℕ) (m : ℕ) → checking_at f t m ≡ fine → (ws : List ℕ) → ((ran_of f ws).refusal ≢ 11) × ((ran_of f ws).refusal ≢ 12) × ((ran_of f ws).refusal ≢ 13)
checked_at_never_for_a_role f t m passes = run_safe f (passes_plain f t m passes)

-- The run of a file placed for a minute is answered 0, 18, 19 or 20 where output and list fit.
pub placed_at_run_answers : (f : List ℕ) → All (λ b. b < 256) f → (t : List ℕ) (m room : ℕ) → (placing_at f t m room).number ≡ 0
    → (ws : List ℕ) (room' : ℕ) → 1800 ≤ room' → listed (length ws) ≡ true
    → ((running (placed_bytes_at f t m) ws room').number ≡ 0)
    ⊎ (((running (placed_bytes_at f t m) ws room').number ≡ 18)
    ⊎ (((running (placed_bytes_at f t m) ws room').number ≡ 19) ⊎ ((running (placed_bytes_at f t m) ws room').number ≡ 20)))
placed_at_run_answers f bytes t m room placed = run-answers (placed_bytes_at f t m) (placed_at_checked f bytes t m room placed)

-- Files, tables and minutes in literal words.
pub hours_in_words : All HourShown hour-cases
hours_in_words = hours_shown

-- Request K3. "A second call, without output, gives the length and on steps, or the refusal, that placing gives in an output long enough": for all bytes, and for a minute too.
pub measures_as_placing : (f : List ℕ) (room : ℕ) → room_for f ≤ room → measuring f ≡ placing f room
measures_as_placing f room wide = sym (answers f room wide)

pub measures_as_placing_at : (f t : List ℕ) (m room : ℕ) → room_for f ≤ room → measuring_at f t m ≡ placing_at f t m room
measures_as_placing_at f t m room wide = sym (answers_at f t m room wide)

-- .. so it never answers 17.
pub measures_without_room : (f : List ℕ) → (measuring f).number ≢ 17
measures_without_room = measuring_roomless

pub measures_without_room_at : (f : List ℕ) → All (λ b. b < 256) f → (t : List ℕ) (m : ℕ) → (measuring_at f t m).number ≢ 17
measures_without_room_at = roomless_at

-- Request K5, a dispatcher. "A round visits the threads present at its start in list order, also one met before its visit. A visited thread does its lone step if it has one that is not refused; a sender meets the first
-- receiver in list order that it can meet and that has not moved in this round; threads made meanwhile neither step nor receive until the next round": `IsRound` says so of a state, a list of choices and the state after
-- them, and every state has one round and no other.
pub some_round_exists : (C : Clinic) (s : State) → (rs : List ℕ) × (s' : State) × IsRound C s rs s'
some_round_exists = some_round

pub only_one_round : (C : Clinic) (s : State) (rs xs : List ℕ) (s' s'' : State) → IsRound C s rs s' → IsRound C s xs s'' → (rs ≡ xs) × (s' ≡ s'')
only_one_round = one_round

-- Its choices are steps, one after the other: none is refused.
pub round_is_steps : (C : Clinic) (s : State) (rs : List ℕ) (s' : State) → IsRound C s rs s' → Chain C s rs s'
round_is_steps = round_steps

-- "A round is asked for with a run's input and follows its choices; over 65,471 of them are 17": that, and what is 17 for a run, and before any look at the file; then 1 to 10 exactly as the file is read; nothing is written.
pub round_no_room : (f ws : List ℕ) (room : ℕ) → RoundUnfit ws room → rounding f ws room ≡ no_round_at 17 0
round_no_room = round_unfit

pub round_seventeen_exactly : (f ws : List ℕ) (room : ℕ) → ((rounding f ws room).number ≡ 17) ↔ RoundUnfit ws room
round_seventeen_exactly = round_seventeen

-- .. of n choices in room enough exactly where n is over 65,471 ..
pub over_65471_is_seventeen : (f ws : List ℕ) (room n : ℕ) → length ws ≡ 2 * n → 1800 ≤ room → ((rounding f ws room).number ≡ 17) ↔ (65471 < n)
over_65471_is_seventeen = round_most

pub round_names_next : (f ws : List ℕ) (room n p : ℕ) → OfFile n → (rounding f ws room ≡ no_round_at n p) ↔ (RoundFit ws room × (reading_names f ≡ refused n p))
round_names_next = round_names

pub round_writes_nothing : (f ws out : List ℕ) → RoundUnfit ws (length out) ⊎ (reading_names f ≢ fine) → round_over f ws out ≡ out
round_writes_nothing = round_unwritten

-- "a stopped list has no round": the halted run's answer and output, and 128 words of 0.
pub stopped_list_has_none : (f ws : List ℕ) → reading_names f ≡ fine → (room : ℕ) → RoundFit ws room → (ran_of f ws).refusal ≢ 0 → Stopped f ws room (ran_of f ws).refusal ((ran_of f ws).count + 1)
stopped_list_has_none = round_stopped

-- "A round has at most 64 choices, handed back as 128 words, 0 past the last", and "the output is that of a run through the input's choices and then the round's", with its length in bytes.
pub round_of_a_run : (f ws : List ℕ) → reading_names f ≡ fine → (room : ℕ) → RoundFit ws room → (ran_of f ws).refusal ≡ 0
    → (rs : List ℕ) (s' : State) → IsRound (clinic_of (contents_of f)) (ran_of f ws).state rs s' → Answered f ws rs room
round_of_a_run = round_answered

-- "A thread that could do a lone step at the round's start has done it by the end, unless refusal 20 held it at its visit": the round splits at its visit. The visits before it leave it as it was, in the place where it
-- then stands; then its lone choice comes and is a step, or that choice is refused with 20.
pub lone_step_done : (C : Clinic) (s : State) (v : ℕ) (s₁ : State) → Steps C s v 0 s₁ → (rs : List ℕ) (s' : State) → IsRound C s rs s'
    → (xs ys : List ℕ) × (g : RoundState State) × (i : ℕ) × (rs ≡ xs ++ ys) × VisitsOf C s (v - 1) xs g × Chain C s xs g.state × Here g v i × (thread_at g.state i ≡ thread_at s v)
    × (((zs : List ℕ) × (s'' : State) × (ys ≡ i ∷ 0 ∷ zs) × Steps C g.state i 0 s'') ⊎ (choice C g.state i 0 ≡ halts 20))
lone_step_done = lone_in_round

-- A round is empty exactly if no choice can be done.
pub empty_exactly : (C : Clinic) (s : State) (rs : List ℕ) (s' : State) → IsRound C s rs s' → (rs ≡ []) ↔ ((i p : ℕ) → (n : ℕ) × (choice C s i p ≡ halts n))
empty_exactly = empty_round

-- In literal words: rounds of small states, and of files with all that is answered and written.
pub rounds_in_words : All RoundShown round_cases
rounds_in_words = rounds_shown

-- Request K7. "New clinics send zero bytes before their first plan. Zero bytes shall read as the version 1 file with all counts 0": bytes read as a file (`ReadsAs`, in every promise above that speaks of the file that bytes are) where they are its
-- encoding, or there are none and it is that file, whose encoding has 26 bytes. Bytes read as one file only, whatever they are ..
pub unplanned_encoded : encode unplanned ≡ 1 ∷ 0 ∷ 0 ∷ 0 ∷ 0 ∷ 0 ∷ 0 ∷ 0 ∷ 0 ∷ 0 ∷ 0 ∷ 0 ∷ 0 ∷ 0 ∷ 13 ∷ 0 ∷ 13 ∷ 0 ∷ 13 ∷ 0 ∷ 13 ∷ 0 ∷ 13 ∷ 0 ∷ 13 ∷ 0 ∷ []
unplanned_encoded = unplanned_bytes

pub read_as_one : (f : List ℕ) (F G : File) → ReadsAs f F → ReadsAs f G → F ≡ G
read_as_one = one_read

-- .. and no file is read from two strings of bytes, but that one from zero bytes too.
pub one_other_string : (f g : List ℕ) (F : File) → ReadsAs f F → ReadsAs g F → f ≢ g → (F ≡ unplanned) × ((f ≡ []) ⊎ (g ≡ []))
one_other_string = two_read

-- They hold what the file holds that they read as; and zero bytes have every answer of the 26, to every caller.
pub read_as_held : (F : File) (f : List ℕ) → ReadsAs f F → contents_of f ≡ contents_for F
read_as_held = contents_held

pub zero_bytes_alike : Alike [] (1 ∷ 0 ∷ 0 ∷ 0 ∷ 0 ∷ 0 ∷ 0 ∷ 0 ∷ 0 ∷ 0 ∷ 0 ∷ 0 ∷ 0 ∷ 0 ∷ 13 ∷ 0 ∷ 13 ∷ 0 ∷ 13 ∷ 0 ∷ 13 ∷ 0 ∷ 13 ∷ 0 ∷ 13 ∷ 0 ∷ [])
zero_bytes_alike = nothing_alike

-- "It passes, places to that 26-byte file with 0 on steps", measured or written, in an output of 6,874 bytes or more; in a shorter one 17 comes first.
pub zero_bytes_pass : checking [] ≡ record { number = 0; place = 0 }
zero_bytes_pass = nothing_checked

pub zero_bytes_placed : (measuring [] ≡ record { number = 0; place = 0; length = 26; on_steps = 0 })
    × ((room : ℕ) → 6874 ≤ room → placing [] room ≡ record { number = 0; place = 0; length = 26; on_steps = 0 }) × ((room : ℕ) → room < 6874 → placing [] room ≡ no_place 17 0)
zero_bytes_placed = (nothing_measured, nothing_placed, nothing_short)

pub zero_bytes_written : (out : List ℕ) → 6874 ≤ length out
    → placed_over [] out ≡ (1 ∷ 0 ∷ 0 ∷ 0 ∷ 0 ∷ 0 ∷ 0 ∷ 0 ∷ 0 ∷ 0 ∷ 0 ∷ 0 ∷ 0 ∷ 0 ∷ 13 ∷ 0 ∷ 13 ∷ 0 ∷ 13 ∷ 0 ∷ 13 ∷ 0 ∷ 13 ∷ 0 ∷ 13 ∷ 0 ∷ []) ++ drop 26 out
zero_bytes_written = nothing_over

-- "and runs with no threads": four words of 0, and nothing after them. A lent list of no threads and no made channels has 18 at place 1 for every choice.
pub zero_bytes_run : (out : List ℕ) → 1800 ≤ length out → (running [] [] (length out) ≡ fine) × (run_over [] [] out ≡ (0 ∷ 0 ∷ 0 ∷ 0 ∷ 0 ∷ 0 ∷ 0 ∷ 0 ∷ []) ++ drop 8 out)
zero_bytes_run = nothing_run

pub no_thread_to_choose : (l : List Thread) (b : List ℕ) → length l ≡ 64 → length b ≡ 162 → get_or b 0 0 ≡ 0 → get_or b 1 0 ≡ 0 → take 32 (drop 130 b) ≡ replicate 32 0
    → (i p : ℕ) → choosing [] l b i p ≡ refused 18 1
no_thread_to_choose = nothing_chosen

-- "One to 25 bytes still give 1", up to 27 where the first word is 2 or 3.
pub short_refused : (f : List ℕ) → 1 ≤ length f → length f ≤ 25 → (reading_names f ≡ refused 1 0) × (checking f ≡ refused 1 0) × (measuring f ≡ no_place 1 0)
short_refused = short_one

pub short_second_refused : (f : List ℕ) → WithJuniors (word_at f 0) → length f ≤ 27 → (reading_names f ≡ refused 1 0) × (checking f ≡ refused 1 0) × (measuring f ≡ no_place 1 0)
short_second_refused = short_second

-- "The empty-input case of 01 is amended so": in literal words.
pub zero_bytes_cases : All Shown nothing_cases
zero_bytes_cases = unplanned-shown

-- K8: "Each refusal becomes a sentence of fixed words .., at most 120 bytes, with its place, what the place counts (word, session, node, choice, row or none) and, for 9 to 15 at a node, that node's tag in words": with an
-- output of 120 bytes or more the sentence of every reason stands at its start, and its length is answered ..
pub sentence_for_each : (n c p t : ℕ) (out : List ℕ) → 120 ≤ length out → IsReason (reason_of n c p t)
    → (reason_length (reason_of n c p t) (length out) ≡ length (sentence (reason_of n c p t))) × (reason_over (reason_of n c p t) out ≡ sentence (reason_of n c p t) ++ drop (length (sentence (reason_of n c p t))) out)
sentence_for_each n c p t = answered (reason_of n c p t)

pub sentence_to_120 : (r : Reason) → IsReason r → (1 ≤ length (sentence r)) × (length (sentence r) ≤ 120)
sentence_to_120 = sentence_length

-- .. it begins with what its number means, that with the number itself, and numbers and places stand in decimal digits.
pub sentence_says_why : (r : Reason) → IsReason r → (rest : List ℕ) × (sentence r ≡ meaning r.number ++ rest)
sentence_says_why = meaning_first

pub meaning_says_its_number : (n : ℕ) → 1 ≤ n → n ≤ 28 → (rest : List ℕ) × (meaning n ≡ (spelled "Refused " ++ (digits_of 5 n ++ spelled ": ")) ++ rest)
meaning_says_its_number = number_said

-- It has four parts: the meaning, what is counted, the place's digits, the tag's ending, each of the last by its row in the table (`reasons_in_words` has each of them in words) ..
pub sentence_in_parts : (n c p t : ℕ) → IsReason (reason_of n c p t) → sentence (reason_of n c p t) ≡ meaning n ++ (phrase (10 + c) ++ (digits_of 5 p ++ phrase t))
sentence_in_parts n c p t = in_parts (reason_of n c p t)

pub place_in_decimal : (p : ℕ) → p ≤ 65535 → decimal_value 0 (digits_of 5 p) ≡ p
place_in_decimal = in-decimal

-- "A place is 0 exactly with none, else up to 65,535. A place or tag against this, a number with a count that neither 01 nor a request gives it, or an output under 120 bytes gives length 0" (0 is none): there is a sentence
-- exactly where none of these is so, and elsewhere nothing is written.
pub sentence_exactly : (n c p t room : ℕ) → (reason_length (reason_of n c p t) room ≢ 0) ↔ ((120 ≤ room) × (MayCount n c × ((p ≡ 0 ↔ c ≡ 0) × (p ≤ 65535)) × TagFits n c t))
sentence_exactly n c p t = answered_exactly (reason_of n c p t)

pub no_sentence : (n c p t : ℕ) (out : List ℕ) → ((120 ≤ length out) × (MayCount n c × ((p ≡ 0 ↔ c ≡ 0) × (p ≤ 65535)) × TagFits n c t) → ⊥)
    → (reason_length (reason_of n c p t) (length out) ≡ 0) × (reason_over (reason_of n c p t) out ≡ out)
no_sentence n c p t = unanswered (reason_of n c p t)

-- "A reader turns any such sentence back into all of these", as it was written ..
pub sentence_read_back : (n c p t : ℕ) (out : List ℕ) → 120 ≤ length out → IsReason (reason_of n c p t)
    → understood (take (reason_length (reason_of n c p t) (length out)) (reason_over (reason_of n c p t) out)) ≡ reason_of n c p t
sentence_read_back n c p t = read_written (reason_of n c p t)

pub reader_exactly : (s : List ℕ) (r : Reason) → IsReason r → (understood s ≡ r) ↔ (sentence r ≡ s)
reader_exactly = understood_exactly

-- .. "and says no to other bytes", by four zeros, which are no reason ..
pub reader_says_no : (s : List ℕ) → (understood s ≡ reason_of 0 0 0 0) ↔ ((r : Reason) → IsReason r → sentence r ≢ s)
reader_says_no = no_exactly

-- .. "and no two different reasons share a sentence".
pub one_sentence_each : (r q : Reason) → IsReason r → IsReason q → sentence r ≡ sentence q → r ≡ q
one_sentence_each = one_reason

-- "The rule is shown over the whole table of phrases": none of the 45 stands at the start of another.
pub no_phrase_begins_another : (length phrases ≡ 45) × ((i j : ℕ) → i < 45 → j < 45 → i ≢ j → (x : List ℕ) → phrase i ++ x ≢ phrase j)
no_phrase_begins_another = (many, none_begins_another)

-- The meaning of a number alone is answered likewise, for the numbers 1 to 28.
pub meaning_of_each : (n room : ℕ) → (meaning_length n room ≢ 0) ↔ ((120 ≤ room) × (1 ≤ n) × (n ≤ 28))
meaning_of_each = meaning_exactly

pub meaning_written : (n : ℕ) (out : List ℕ) → 120 ≤ length out → (meaning_length n (length out) ≡ length (meaning n)) × (meaning_over n out ≡ meaning n ++ drop (length (meaning n)) out)
meaning_written = meant

pub meaning_to_120 : (n room : ℕ) → meaning_length n room ≤ 120
meaning_to_120 = meaning_most

-- "Here and in later requests an output's length is answered and nothing past it is written."
pub past_the_sentence : (n c p t : ℕ) (out : List ℕ) → drop (reason_length (reason_of n c p t) (length out)) (reason_over (reason_of n c p t) out) ≡ drop (reason_length (reason_of n c p t) (length out)) out
past_the_sentence n c p t = past_sentence (reason_of n c p t)

pub past_the_meaning : (n : ℕ) (out : List ℕ) → drop (meaning_length n (length out)) (meaning_over n out) ≡ drop (meaning_length n (length out)) out
past_the_meaning = past_meaning

-- In literal words: sentences written and read, bytes that are none, numbers that are no reason.
pub reasons_in_words : All ReasonShown reason_cases
reasons_in_words = reasons_shown

-- Request K9, two clinics in one house. "Two version 1 files (another version gives 2) become one: the first file's users, channels, sessions and nodes, then the second's, all numbers shifted": what is written is the
-- encoding of that file as data (its trees hold no numbers of nodes, so that forks and roots are numbered as in every file), well formed and with names and kinds by rules 1 to 4.
pub merges_into_one : (f g : List ℕ) → All (λ b. b < 256) f → All (λ b. b < 256) g → (room : ℕ) → (merging f g room).number ≡ 0 → (F G : File) → ReadsAs f F → ReadsAs g G
    → (merged_bytes f g ≡ encode (merged_file F G)) × WellFormed (merged_file F G) × WellKinded (merged_file F G)
merges_into_one = merged_as_data

-- .. nothing of 1 to 10 is wrong with it ..
pub merged_reads_clean : (f g : List ℕ) → All (λ b. b < 256) f → All (λ b. b < 256) g → (room : ℕ) → (merging f g room).number ≡ 0 → reading_names (merged_bytes f g) ≡ fine
merged_reads_clean = merged_reads

-- .. and each operand names in it the item that it named: in the first file's sessions the user, channel or variable of the same number, in the second's the user that comes as many later as the first file has users, the
-- channel as many later as it has channels, or the variable itself. A user has its mask, a channel its kind and the owner that it named.
pub first_operands_stay : (f g : List ℕ) → All (λ b. b < 256) f → All (λ b. b < 256) g → (room : ℕ) → (merging f g room).number ≡ 0
    → Stands (contents_of f) (contents_of (merged_bytes f g)) 0 0 (λ x. x)
first_operands_stay = first_names

pub second_operands_follow : (f g : List ℕ) → All (λ b. b < 256) f → All (λ b. b < 256) g → (room : ℕ) → (merging f g room).number ≡ 0
    → Stands (contents_of g) (contents_of (merged_bytes f g)) (length (contents_of f).users) (length (contents_of f).channels) (shifted (length (contents_of f).users) (length (contents_of f).channels))
second_operands_follow = second_names

-- An operand names an item exactly where rule 1 gives it a kind.
pub names_by_kind : (C : Contents) (vs : List Bound) (x : ℕ) → ((i : Item) × Names C (length vs) x i) ↔ ((k : ℕ) × HasKind (schema_of C) vs x k)
names_by_kind = names_kind

-- What is answered, each refusal in its turn, for all bytes: one answer and no other.
pub merging_answers : (f g : List ℕ) (room : ℕ) → All (λ b. b < 256) f → All (λ b. b < 256) g → (a : Merge-as-Written) → (merging f g room ≡ a) ↔ Answers f g room a
merging_answers = merging_exactly

-- "An output under 6,874 bytes is 17 and comes first."
pub merging_no_room : (f g : List ℕ) (room : ℕ) → All (λ b. b < 256) f → All (λ b. b < 256) g → ((merging f g room).number ≡ 17) ↔ (room < 6874)
merging_no_room = seventeen_merging

-- "A file refused at 1 to 10 gives its own refusal, the first file's before the second's": the first of its own in the check's order, where another version than 1 is 2, at 2's turn.
pub merging_first_refused : (f g : List ℕ) (room : ℕ) → All (λ b. b < 256) f → All (λ b. b < 256) g → (Passes f → ⊥) → (n p : ℕ) → n ≢ 17
    → (merging f g room ≡ record { number = n; place = p; length = 0 }) ↔ ((6874 ≤ room) × OwnRefusal f n p)
merging_first_refused = first_exactly

pub merging_second_refused : (f g : List ℕ) (room : ℕ) → All (λ b. b < 256) f → All (λ b. b < 256) g → Passes f → (Passes g → ⊥) → (n p : ℕ) → n ≢ 17
    → (merging f g room ≡ record { number = n; place = p; length = 0 }) ↔ ((6874 ≤ room) × OwnRefusal g n p)
merging_second_refused = second_exactly

-- .. of version 1 as it is read, and "another version gives 2", unless 1 is wrong with it ..
pub merging_first_as_read : (f g : List ℕ) (room : ℕ) → 6874 ≤ room → version_at f ≡ 1 → (reading_names f).number ≢ 0
    → merging f g room ≡ record { number = (reading_names f).number; place = (reading_names f).place; length = 0 }
merging_first_as_read = first_as_read

pub merging_second_as_read : (f g : List ℕ) (room : ℕ) → 6874 ≤ room → Passes f → version_at g ≡ 1 → (reading_names g).number ≢ 0
    → merging f g room ≡ record { number = (reading_names g).number; place = (reading_names g).place; length = 0 }
merging_second_as_read = second_as_read

pub merging_first_version : (f g : List ℕ) (room : ℕ) → 6874 ≤ room → version_at f ≢ 1 → ((p : ℕ) → Objection f 1 p → ⊥) → merging f g room ≡ record { number = 2; place = 0; length = 0 }
merging_first_version = first_version

pub merging_second_version : (f g : List ℕ) (room : ℕ) → 6874 ≤ room → Passes f → version_at g ≢ 1 → ((p : ℕ) → Objection g 1 p → ⊥)
    → merging f g room ≡ record { number = 2; place = 0; length = 0 }
merging_second_version = second_version

-- "25, tables of roles or kinds differ, place 0, after both files have passed 1 to 10 and before 3 for the sums."
pub merging_tables_differ : (f g : List ℕ) (room : ℕ) → All (λ b. b < 256) f → All (λ b. b < 256) g
    → ((merging f g room).number ≡ 25) ↔ ((6874 ≤ room) × Passes f × Passes g × (((contents_of f).roles ≡ (contents_of g).roles) × ((contents_of f).kinds ≡ (contents_of g).kinds) → ⊥))
merging_tables_differ f g room F-bytes G-bytes =
    let (to, from) = differ_exactly f g room F-bytes G-bytes in (
      λ h. let (l, x, y, never) = to h in (l, x, y, λ (r, k). never (record { roles = r; kinds = k })),
      λ (l, x, y, never). from (l, x, y, λ S. never (S.roles, S.kinds)),
    )

-- "Sums beyond a count's limit give 3 at place 0."
pub merging_sums_beyond : (f g : List ℕ) (room : ℕ) → All (λ b. b < 256) f → All (λ b. b < 256) g → Passes f → Passes g
    → (merging f g room ≡ record { number = 3; place = 0; length = 0 })
    ↔ ((6874 ≤ room) × SameTables (contents_of f) (contents_of g) × ((length (contents_of f).users + length (contents_of g).users ≤ 32) × (length (contents_of f).channels + length (contents_of g).channels ≤ 64)
    × (length (contents_of f).sessions + length (contents_of g).sessions ≤ 32) × (length (contents_of f).nodes + length (contents_of g).nodes ≤ 1024) → ⊥))
merging_sums_beyond f g room F-bytes G-bytes x y =
    let (to, from) = beyond_exactly f g room F-bytes G-bytes x y in (
      λ h. let (l, S, never) = to h in (l, S, λ (u, c, s, n). never (record { users = u; channels = c; sessions = s; nodes = n })),
      λ (l, S, never). from (l, S, λ L. never (L.users, L.channels, L.sessions, L.nodes)),
    )

-- Else nothing is refused.
pub merging_merges : (f g : List ℕ) (room : ℕ) → All (λ b. b < 256) f → All (λ b. b < 256) g
    → ((merging f g room).number ≡ 0) ↔ ((6874 ≤ room) × Passes f × Passes g × SameTables (contents_of f) (contents_of g) × SumsFit (contents_of f) (contents_of g))
merging_merges = merged_exactly

-- "The merged file passes exactly when both do, ..
pub merged_passes_exactly : (f g : List ℕ) → All (λ b. b < 256) f → All (λ b. b < 256) g → (room : ℕ) → (merging f g room).number ≡ 0
    → (checking (merged_bytes f g) ≡ fine) ↔ ((checking f ≡ fine) × (checking g ≡ fine))
merged_passes_exactly = passes_exactly

-- .. and placing it gives the on steps of both added together, if none of the three is refused": whatever the outputs are.
pub merged_on_steps_add : (f g : List ℕ) → All (λ b. b < 256) f → All (λ b. b < 256) g → (room : ℕ) → (merging f g room).number ≡ 0
    → (x y z : ℕ) → (placing f x).number ≡ 0 → (placing g y).number ≡ 0 → (placing (merged_bytes f g) z).number ≡ 0
    → (placing (merged_bytes f g) z).on_steps ≡ (placing f x).on_steps + (placing g y).on_steps
merged_on_steps_add = on_steps_add

-- What is placed of the merged file is the two placed files, merged.
pub merged_then_placed : (f g : List ℕ) → All (λ b. b < 256) f → All (λ b. b < 256) g → (room : ℕ) → (merging f g room).number ≡ 0
    → (x y : ℕ) → (placing f x).number ≡ 0 → (placing g y).number ≡ 0 → placed_bytes (merged_bytes f g) ≡ merged_bytes (placed_bytes f) (placed_bytes g)
merged_then_placed = placed_as_merged

-- "An output's length is answered and nothing past it is written": on a refusal nothing is.
pub merged_length_answered : (f g : List ℕ) → All (λ b. b < 256) f → All (λ b. b < 256) g → (room : ℕ) → (merging f g room).number ≡ 0
    → ((merging f g room).length ≡ length (merged_bytes f g)) × (length (merged_bytes f g) ≤ 6874)
merged_length_answered f g F-bytes G-bytes room done = (length_answered f g F-bytes G-bytes room done, length_fits f g F-bytes G-bytes room done)

pub merging_writes : (f g : List ℕ) → All (λ b. b < 256) f → All (λ b. b < 256) g → (out : List ℕ) → (merging f g (length out)).number ≡ 0
    → merged_over f g out ≡ merged_bytes f g ++ drop (length (merged_bytes f g)) out
merging_writes = merge_written

pub merging_writes_nothing : (f g out : List ℕ) → (merging f g (length out)).number ≢ 0 → merged_over f g out ≡ out
merging_writes_nothing = merge_kept

-- In literal words: the booking beside a clinic with all sorts of operands, sums at their limits, and each refusal in its turn.
pub merges_in_words : All MergeShown merge_cases
merges_in_words = merges_shown

-- Request K10, seats per role. "A lent table gives each role its seats, one word a role: 0 for no limit, else 1 to 32."
pub seats_by_words : (table : List ℕ) (r : ℕ) → InCount (length table) r → seats_in table r ≡ get_or table (r - 1) 0
seats_by_words = table_word

-- "With all words 0 a run is that of document 01": every answer and byte; a round is that of K5, and what is read has the run's answer and K6's totals, and nobody waits. "a choice in the desk's own list reads no seats":
-- `choosing` has no table.
pub zeros_run : (f table : List ℕ) → All (λ w. w ≡ 0) table → length table ≡ length (contents_of f).roles
    → ((ws : List ℕ) (room : ℕ) → seated_running f ws table room ≡ running f ws room) × ((ws out : List ℕ) → seated_over f ws table out ≡ run_over f ws out)
    × ((ws out : List ℕ) → Fit ws (length out) → reading_names f ≡ fine → seated_length f ws table (length out) ≡ state_bytes (length (ran_of f ws).state.made) (length (ran_of f ws).state.threads))
zeros_run f table zeros fits = (zeros_answer f table zeros fits, zeros_output f table zeros fits, zeros_length f table zeros fits)

pub zeros_round_alike : (f table : List ℕ) → All (λ w. w ≡ 0) table → length table ≡ length (contents_of f).roles → (ws : List ℕ)
    → ((room : ℕ) → seated_rounding f ws table room ≡ rounding f ws room) × ((out : List ℕ) → seated_round_over f ws table out ≡ round_over f ws out)
zeros_round_alike f table zeros fits ws = (zeros_round f table zeros fits ws, zeros_round_output f table zeros fits ws)

pub zeros_read_alike : (f table : List ℕ) → All (λ w. w ≡ 0) table → length table ≡ length (contents_of f).roles → (ws : List ℕ) → ReadsPlainly (seats_after f ws table) (totals_after f ws)
zeros_read_alike = zeros_read

-- "A session occupies a seat while any of its threads has the role active": in every state of a run. A thread's session is by descent: at the start thread k is session k's, a new thread has its maker's session, an end
-- takes its own away; its node lies in that session's tree.
pub occupies_a_seat : (f table : List ℕ) → StartFits (contents_of f) table → (ws : List ℕ) (k r : ℕ) → (sits (seated_ran_of f table ws).seating k r ≡ true) ↔ HasRole (seated_ran_of f table ws).seating k r
occupies_a_seat = file_has

pub sessions_by_descent : (L : Limited) (S : SeatedState) (i p : ℕ) (S' : SeatedState) → seated_choice L S i p ≡ steps S'
    → ((length S'.state.threads ≡ length S.state.threads) × (S'.owners ≡ S.owners))
    ⊎ (((length S'.state.threads ≡ suc (length S.state.threads)) × (S'.owners ≡ S.owners ++ (owner_of S i ∷ [])))
    ⊎ ((suc (length S'.state.threads) ≡ length S.state.threads) × (S'.owners ≡ take (i - 1) S.owners ++ drop i S.owners)))
sessions_by_descent = owners_follow

pub threads_in_their_trees : (f : List ℕ) → reading_names f ≡ fine → (table ws : List ℕ)
    → Always (λ T. (i : ℕ) → InCount (length T.state.threads) i → InTreeOf (contents_of f) (owner_of T i) (thread_at T.state i).node) (limited_of (contents_of f) table) (seated_start (contents_of f)) ws
threads_in_their_trees = owners_descend

-- "An on by a session without a seat in the role gets one exactly when one is free and there is no line or the session is its head, which leaves the line as it takes it. An on that gets no seat is answered 26, and its
-- session joins that role's line once, at the end": the four ways of a choice are `SeatedStep`'s, and no other; it goes on exactly as a step of the paper where it asks for no seat or gets one; it is answered 26 exactly where
-- it asks and gets none; it is refused exactly as without seats. 18 and 11 come before 26: who asks is a thread in the list, alone, at an on of a role assigned to its user.
pub seated_choice_exactly : (L : Limited) (S : SeatedState) (i p : ℕ) (a : Taken SeatedState) → (seated_choice L S i p ≡ a) ↔ SeatedStep L S i p a
seated_choice_exactly = seated_agrees

pub goes_on_exactly : (L : Limited) (S : SeatedState) (i p : ℕ) (s : State)
    → ((S' : SeatedState) × (seated_choice L S i p ≡ steps S') × (S'.state ≡ s)) ↔ (Steps L.clinic S.state i p s × (AsksSeat L S i p → GetsSeat L S i))
goes_on_exactly = goes_iff

pub waits_exactly : (L : Limited) (S : SeatedState) (i p : ℕ) → ((S' : SeatedState) × (seated_choice L S i p ≡ waits S')) ↔ (AsksSeat L S i p × (GetsSeat L S i → ⊥))
waits_exactly = waits_iff

pub refused_as_without : (L : Limited) (S : SeatedState) (i p n : ℕ) → (seated_choice L S i p ≡ refuses n) ↔ (choice L.clinic S.state i p ≡ halts n)
refused_as_without = halts_iff

pub head_leaves : (L : Limited) (S : SeatedState) (i p : ℕ) (S' : SeatedState) → seated_choice L S i p ≡ steps S'
    → (AsksSeat L S i p × (((S.lines (thread_node L S i).f1 ≡ []) × (S'.lines (thread_node L S i).f1 ≡ [])) ⊎ (S.lines (thread_node L S i).f1 ≡ owner_of S i ∷ S'.lines (thread_node L S i).f1))
    × ((r : ℕ) → r ≢ (thread_node L S i).f1 → S'.lines r ≡ S.lines r)) ⊎ ((AsksSeat L S i p → ⊥) × ((r : ℕ) → S'.lines r ≡ S.lines r))
head_leaves = steps_lines

pub joins_once_at_the_end : (L : Limited) (S : SeatedState) (i p : ℕ) (S' : SeatedState) → seated_choice L S i p ≡ waits S'
    → ((in_line (owner_of S i) (S.lines (thread_node L S i).f1) ≡ true) × (S'.lines (thread_node L S i).f1 ≡ S.lines (thread_node L S i).f1))
    ⊎ ((in_line (owner_of S i) (S.lines (thread_node L S i).f1) ≡ false) × (S'.lines (thread_node L S i).f1 ≡ S.lines (thread_node L S i).f1 ++ (owner_of S i ∷ [])))
joins_once_at_the_end = waits_joins

-- .. and to be in line is to be one of the line's sessions.
pub in_line_is_membership : (k : ℕ) (l : List ℕ) → (in_line k l ≡ true) ↔ In k l
in_line_is_membership = in-line-member

-- "This answer does not stop the run and is not its refusal word: the choice counts as done, is no step of demand 2, and only the line changes": the state, the threads' sessions and every other line stay.
pub only_the_line_changes : (L : Limited) (S : SeatedState) (i p : ℕ) (S' : SeatedState) → seated_choice L S i p ≡ waits S'
    → (S'.state ≡ S.state) × (S'.owners ≡ S.owners) × ((r : ℕ) → r ≢ (thread_node L S i).f1 → S'.lines r ≡ S.lines r)
only_the_line_changes = waits_only_line

pub waiting_counts_as_done : (L : Limited) (S : SeatedState) (i p : ℕ) (S' : SeatedState) → seated_choice L S i p ≡ waits S' → (ws : List ℕ) → seated_run L S (i ∷ p ∷ ws) ≡ one_done (seated_run L S' ws)
waiting_counts_as_done = wait_is_done

pub never_its_refusal_word : (f table ws : List ℕ) → (seated_ran_of f table ws).refusal ≢ 26
never_its_refusal_word = not_its_word

-- .. so that with the choices answered 26 left out the run of the paper gives the same state and halts alike, with so many choices less done.
pub alike_without_the_waits : (f table ws : List ℕ)
    → ((ran_of f (seated_steps_of f table ws)).state ≡ (seated_ran_of f table ws).seating.state) × ((ran_of f (seated_steps_of f table ws)).refusal ≡ (seated_ran_of f table ws).refusal)
    × ((seated_ran_of f table ws).count ≡ (ran_of f (seated_steps_of f table ws)).count + waits_in (limited_of (contents_of f) table) (seated_start (contents_of f)) ws)
alike_without_the_waits f table ws = let same = run_alike (limited_of (contents_of f) table) ws (seated_start (contents_of f)) in (same.state, same.refusal, same.count)

-- "Seats taken, those of a role without limit too, and the line of each role are read separately": each is a field of `SeatsTold`, with how many were answered 26, what the last one done was answered, and K6's totals; number
-- and place are the run's.
pub seats_read : (f table ws : List ℕ) → Listed ws → reading_names f ≡ fine → SeatTableFits (contents_of f) table → StartFits (contents_of f) table → SeatsTold f table ws (seats_after f ws table)
seats_read = seats-told

pub seats_read_answer : (f table ws : List ℕ) → Listed ws → reading_names f ≡ fine → SeatTableFits (contents_of f) table → StartFits (contents_of f) table
    → ◌≡◌ {A = Verdict} (record { number = (seats_after f ws table).number; place = (seats_after f ws table).place }) (stopped (plainly (seated_ran_of f table ws)))
seats_read_answer = seats_verdict

-- "While it waits, a session never gets more sessions before it": of one that waits before and after a choice the sessions before it are the same, or the same less the head; so through any further choices in all of which it
-- waits, they are the same less some of the first.
pub never_more_before : (f table : List ℕ) → StartFits (contents_of f) table → (ws : List ℕ) → Between NoMoreBefore (limited_of (contents_of f) table) (seated_start (contents_of f)) ws
never_more_before = file_before

pub only_fewer_before : (f table : List ℕ) → StartFits (contents_of f) table → (ws vs : List ℕ) (r k : ℕ)
    → Always (λ T. in_line k (T.lines r) ≡ true) (limited_of (contents_of f) table) (seated_ran_of f table ws).seating vs
    → (j : ℕ) × (ahead k ((seated_run (limited_of (contents_of f) table) (seated_ran_of f table ws).seating vs).seating.lines r) ≡ drop j (ahead k ((seated_ran_of f table ws).seating.lines r)))
only_fewer_before = file_moves_up

-- "and at no moment are more sessions in a role with a limit than it has seats": in every state that comes up, and as it is read.
pub never_over_its_seats : (f table : List ℕ) → StartFits (contents_of f) table → (ws : List ℕ)
    → Always (λ T. (r : ℕ) → 1 ≤ seats_in table r → seats_taken (limited_of (contents_of f) table) T r ≤ seats_in table r) (limited_of (contents_of f) table) (seated_start (contents_of f)) ws
never_over_its_seats = file_never_over

pub never_over_as_read : (f table ws : List ℕ) → Listed ws → reading_names f ≡ fine → SeatTableFits (contents_of f) table → StartFits (contents_of f) table
    → (r : ℕ) → InCount 16 r → 1 ≤ seats_in table r → get_or (seats_after f ws table).taken (r - 1) 0 ≤ seats_in table r
never_over_as_read = taken_within

-- With one seat for a role: while a session has it, no other has it, at every choice of that stretch.
pub one_seat_one_session : (f table : List ℕ) → StartFits (contents_of f) table → (ws vs : List ℕ) (r k : ℕ) → seats_in table r ≡ 1
    → Always (λ T. sits T k r ≡ true) (limited_of (contents_of f) table) (seated_ran_of f table ws).seating vs
    → Always (λ T. (m : ℕ) → m ≢ k → sits T m r ≡ false) (limited_of (contents_of f) table) (seated_ran_of f table ws).seating vs
one_seat_one_session = file_alone

-- Lines at every moment: no session twice in one, none that has the role, none for a role without limit; each session in one has a thread that stands at an on of the role; a line stays, has one more at its end, or loses its
-- head, which takes a seat.
pub lines_in_order : (f table : List ℕ) → StartFits (contents_of f) table → (ws : List ℕ)
    → Always (λ T. (r : ℕ) → Distinct (T.lines r) × ((k : ℕ) → in_line k (T.lines r) ≡ true → sits T k r ≡ false) × (seats_in table r ≡ 0 → T.lines r ≡ [])) (limited_of (contents_of f) table)
    (seated_start (contents_of f)) ws
lines_in_order = file_lines

pub who_waits_stands_at_an_on : (f table : List ℕ) → StartFits (contents_of f) table → (ws : List ℕ)
    → Always (λ T. (r k : ℕ) → in_line k (T.lines r) ≡ true → (i : ℕ) × StandsAtOn (limited_of (contents_of f) table) T k r i) (limited_of (contents_of f) table) (seated_start (contents_of f)) ws
who_waits_stands_at_an_on = file_stands

pub lines_move_so : (f table : List ℕ) → StartFits (contents_of f) table → (ws : List ℕ)
    → Between (λ T T'. (i : ℕ) × ((r : ℕ) → LineStep (limited_of (contents_of f) table) T T' i r)) (limited_of (contents_of f) table) (seated_start (contents_of f)) ws
lines_move_so = file_moves

-- "Bed holder has one seat" (K10), and what that excludes. A thread is midway once it has done an on, send or receive
-- and has a send or receive still to do; a repeated routine is midway in each of its rounds, and gives the seat up
-- between two. Let role r, and no other role of its user, permit every send and receive of a session (`CoversAlone`).
-- With one seat for r, in every state of every run of what is placed, while a thread of the session is midway it has r
-- and no other session has it; so no other makes a step that only r permits.
pub alone_until_done : (f : List ℕ) → All (λ b. b < 256) f → (room : ℕ) → (placing f room).number ≡ 0
    → (F : File) → ReadsAs f F → (k r : ℕ) → InCount (length F.sessions) k → CoversAlone F k r
    → (table : List ℕ) → seats_in table r ≡ 1 → AloneWhileMidway (placed_bytes f) table k r
alone_until_done f bytes room placed F reads k r c (covers, only) =
    role_alone (placed_bytes f) F (placed_from f bytes room placed F reads) k r c covers only

-- .. of a file placed for a minute it is the open roles that count: `open_file t m F` is the file as it stands then.
pub alone_until_done_at : (f : List ℕ) → All (λ b. b < 256) f → (t : List ℕ) (m room : ℕ)
    → (placing_at f t m room).number ≡ 0
    → (F : File) → ReadsAs f F → (k r : ℕ) → InCount (length F.sessions) k → CoversAlone (open_file t m F) k r
    → (table : List ℕ) → seats_in table r ≡ 1 → AloneWhileMidway (placed_bytes_at f t m) table k r
alone_until_done_at f bytes t m room placed F reads k r c (covers, only) =
    role_alone (placed_bytes_at f t m) (open_file t m F) (placed_from_at f bytes t m room placed F reads) k r c covers only

-- The incident of spring: two schedulers had read the same free bed before either wrote. Of two such sessions never is a
-- thread of each midway.
pub never_two_midway : (f : List ℕ) → All (λ b. b < 256) f → (room : ℕ) → (placing f room).number ≡ 0
    → (F : File) → ReadsAs f F → (k l r : ℕ) → InCount (length F.sessions) k → InCount (length F.sessions) l
    → k ≢ l → CoversAlone F k r → CoversAlone F l r → (table : List ℕ) → seats_in table r ≡ 1
    → NeverBothMidway (placed_bytes f) table k l
never_two_midway f bytes room placed F reads k l r c d other =
    never_two (placed_bytes f) F (placed_from f bytes room placed F reads) k l c d other r

pub never_two_midway_at : (f : List ℕ) → All (λ b. b < 256) f → (t : List ℕ) (m room : ℕ)
    → (placing_at f t m room).number ≡ 0
    → (F : File) → ReadsAs f F → (k l r : ℕ) → InCount (length F.sessions) k → InCount (length F.sessions) l
    → k ≢ l → CoversAlone (open_file t m F) k r → CoversAlone (open_file t m F) l r → (table : List ℕ)
    → seats_in table r ≡ 1 → NeverBothMidway (placed_bytes_at f t m) table k l
never_two_midway_at f bytes t m room placed F reads k l r c d other =
    never_two (placed_bytes_at f t m) (open_file t m F) (placed_from_at f bytes t m room placed F reads) k l c d other r

-- Where several roles of the user cover the session, what counts is the role of its on step, which is one of them
-- (`UnderOneOn`): every send and receive stands below that one step; whoever is midway has its role, with any table of
-- seats; and is alone in it with one seat for it.
pub under_one_on : (f : List ℕ) → All (λ b. b < 256) f → (room : ℕ) → (placing f room).number ≡ 0
    → (F : File) → ReadsAs f F → (k r : ℕ) → InCount (length F.sessions) k → Covers F k r
    → UnderOneOn (placed_bytes f) F k
under_one_on f bytes room placed F reads = under_one (placed_bytes f) F (placed_from f bytes room placed F reads)

pub under_one_on_at : (f : List ℕ) → All (λ b. b < 256) f → (t : List ℕ) (m room : ℕ) → (placing_at f t m room).number ≡ 0
    → (F : File) → ReadsAs f F → (k r : ℕ) → InCount (length F.sessions) k → Covers (open_file t m F) k r
    → UnderOneOn (placed_bytes_at f t m) (open_file t m F) k
under_one_on_at f bytes t m room placed F reads =
    under_one (placed_bytes_at f t m) (open_file t m F) (placed_from_at f bytes t m room placed F reads)

-- .. so of two sessions whose on steps are of one role never is a thread of each midway.
pub never_two_in_one_role : (f : List ℕ) → All (λ b. b < 256) f → (room : ℕ) → (placing f room).number ≡ 0
    → (F : File) → ReadsAs f F → (k l : ℕ) → InCount (length F.sessions) k → InCount (length F.sessions) l → k ≢ l
    → (r s : ℕ) → Covers F k r → Covers F l s → (a b x : ℕ) → SwitchesOn (contents_of (placed_bytes f)) k x a
    → SwitchesOn (contents_of (placed_bytes f)) l x b → (table : List ℕ) → seats_in table x ≡ 1
    → NeverBothMidway (placed_bytes f) table k l
never_two_in_one_role f bytes room placed F reads =
    never_two_on (placed_bytes f) F (placed_from f bytes room placed F reads)

pub never_two_in_one_role_at : (f : List ℕ) → All (λ b. b < 256) f → (t : List ℕ) (m room : ℕ)
    → (placing_at f t m room).number ≡ 0
    → (F : File) → ReadsAs f F → (k l : ℕ) → InCount (length F.sessions) k → InCount (length F.sessions) l → k ≢ l
    → (r s : ℕ) → Covers (open_file t m F) k r → Covers (open_file t m F) l s → (a b x : ℕ)
    → SwitchesOn (contents_of (placed_bytes_at f t m)) k x a → SwitchesOn (contents_of (placed_bytes_at f t m)) l x b
    → (table : List ℕ) → seats_in table x ≡ 1 → NeverBothMidway (placed_bytes_at f t m) table k l
never_two_in_one_role_at f bytes t m room placed F reads =
    never_two_on (placed_bytes_at f t m) (open_file t m F) (placed_from_at f bytes t m room placed F reads)

-- A session that one open role covers has at most one on step in the file written for the minute, as `one_role_once`
-- has it without hours.
pub one_role_once_at : (f : List ℕ) → All (λ b. b < 256) f → (t : List ℕ) (m room : ℕ)
    → (placing_at f t m room).number ≡ 0 → (F G : File) → ReadsAs f F → encode G ≡ placed_bytes_at f t m
    → (k r : ℕ) → InCount (length F.sessions) k → Covers (open_file t m F) k r → on_steps (session G k).tree ≤ 1
one_role_once_at f bytes t m room placed F G reads =
    one_role_at f bytes t m F (left_at f bytes t m ((placed_at f bytes t m room).0 placed).0 F reads) G

-- Any session, also one that no single role covers, is alone from an on step to each send or receive below it that no
-- other on step parts from it.
pub alone_since_its_on : (f : List ℕ) → All (λ b. b < 256) f → (room : ℕ) → (placing f room).number ≡ 0
    → (k a x : ℕ) → SwitchesOn (contents_of (placed_bytes f)) k x a → (table : List ℕ) → seats_in table x ≡ 1
    → AloneSince (placed_bytes f) table k x a
alone_since_its_on f bytes room placed =
    let W = placed_well f bytes room placed in
    alone_since (placed_bytes f) W.file (placed_from f bytes room placed W.file W.reads)

pub alone_since_its_on_at : (f : List ℕ) → All (λ b. b < 256) f → (t : List ℕ) (m room : ℕ)
    → (placing_at f t m room).number ≡ 0 → (k a x : ℕ) → SwitchesOn (contents_of (placed_bytes_at f t m)) k x a
    → (table : List ℕ) → seats_in table x ≡ 1 → AloneSince (placed_bytes_at f t m) table k x a
alone_since_its_on_at f bytes t m room placed =
    let W = well_at f bytes t m room placed in
    alone_since (placed_bytes_at f t m) (open_file t m W.file)
    (placed_from_at f bytes t m room placed W.file W.reads)

-- In literal words: in the routine as it was cut in spring, which passes the check, both schedulers are midway, with
-- one seat.
pub spring_in_words : (checking springCut ≡ fine)
    × Midway (contents_of springCut) (seated_ran_of springCut one_seat spring_day).seating 1 1
    × Midway (contents_of springCut) (seated_ran_of springCut one_seat spring_day).seating 2 2
spring_in_words = both_midway

-- What placing writes of the routine as its author wrote it, also at 07:00 where the bed holder's role is open from
-- then to 15:00; at 15:00 it is refused.
pub spring_placed : ((placing springWritten 6874).number ≡ 0) × (placed_bytes springWritten ≡ springPlaced)
spring_placed = placed_so

pub spring_placed_at : ((placing_at springWritten morning 420 6874).number ≡ 0)
    × (placed_bytes_at springWritten morning 420 ≡ springPlaced)
    × (placing_at springWritten morning 900 6874 ≡ no_place 15 1)
spring_placed_at = placed_so_at

-- In the routine as written role 1, and no other role of the user, covers each scheduler's session; in what is placed
-- only role 1 permits reading a bed; so they are never both midway, whatever the choices.
pub spring_covered : ReadsAs springWritten springFile
    × (CoversAlone springFile 1 1 × CoversAlone springFile 2 1)
    × (CoversAlone (open_file morning 420 springFile) 1 1 × CoversAlone (open_file morning 420 springFile) 2 1)
spring_covered = each_covered

pub spring_read_by_one_role : OnlyBy (schema_of (contents_of springPlaced)) 1 Receives 1
spring_read_by_one_role = only_reading

pub spring_never_both : NeverBothMidway springPlaced one_seat 1 2
spring_never_both = spring_never

-- Switching the role on is what begins it ..
pub spring_begins : (M : Midway (contents_of springPlaced) (seated_ran_of springPlaced one_seat (1 ∷ 0 ∷ [])).seating 1 1)
    × (M.since ≡ 1) × SwitchesOn (contents_of springPlaced) 1 1 1
spring_begins = on_begins

-- .. and on that day the first scheduler is midway and alone in its role, and the second waits for it.
pub spring_excluded : Midway (contents_of springPlaced) (seated_ran_of springPlaced one_seat placed_day).seating 1 1
    × Alone (contents_of springPlaced) (seated_ran_of springPlaced one_seat placed_day).seating 1 1 1
    × ((seated_ran_of springPlaced one_seat placed_day).seating.lines 1 ≡ 2 ∷ [])
spring_excluded = one_alone

-- "A placed file may now wait for a seat; it still never halts for 11, 12 or 13": with any table and any list, whichever function is asked.
pub placed_file_still_safe : (f : List ℕ) → All (λ b. b < 256) f → (room : ℕ) → (placing f room).number ≡ 0 → (table ws : List ℕ) (room' : ℕ)
    → (((seated_running (placed_bytes f) ws table room').number ≢ 11) × ((seated_running (placed_bytes f) ws table room').number ≢ 12) × ((seated_running (placed_bytes f) ws table room').number ≢ 13))
    × (((seated_rounding (placed_bytes f) ws table room').number ≢ 11) × ((seated_rounding (placed_bytes f) ws table room').number ≢ 12) × ((seated_rounding (placed_bytes f) ws table room').number ≢ 13))
    × (((seats_after (placed_bytes f) ws table).number ≢ 11) × ((seats_after (placed_bytes f) ws table).number ≢ 12) × ((seats_after (placed_bytes f) ws table).number ≢ 13))
placed_file_still_safe = placed_file_safe

-- .. also of a file placed for a minute.
pub placed_at_still_safe : (f : List ℕ) → All (λ b. b < 256) f → (t : List ℕ) (m room : ℕ) → (placing_at f t m room).number ≡ 0
    → (table ws : List ℕ) (room' : ℕ)
    → (((seated_running (placed_bytes_at f t m) ws table room').number ≢ 11)
    × ((seated_running (placed_bytes_at f t m) ws table room').number ≢ 12)
    × ((seated_running (placed_bytes_at f t m) ws table room').number ≢ 13))
    × (((seated_rounding (placed_bytes_at f t m) ws table room').number ≢ 11)
    × ((seated_rounding (placed_bytes_at f t m) ws table room').number ≢ 12)
    × ((seated_rounding (placed_bytes_at f t m) ws table room').number ≢ 13))
    × (((seats_after (placed_bytes_at f t m) ws table).number ≢ 11)
    × ((seats_after (placed_bytes_at f t m) ws table).number ≢ 12)
    × ((seats_after (placed_bytes_at f t m) ws table).number ≢ 13))
placed_at_still_safe f bytes t m room placed table ws room' =
    passed_safe (placed_bytes_at f t m) (placed_at_checked f bytes t m room placed) table ws room'

-- "A dispatcher visit that gets no seat is in the round's list and excuses its thread from doing its step": `IsSeatedRound` is K5's round with that case, and every state has one and no other. Its choices go on or get no seat,
-- one after the other.
pub some_seated_round_exists : (L : Limited) (S : SeatedState) → (rs : List ℕ) × (S' : SeatedState) × IsSeatedRound L S rs S'
some_seated_round_exists = some_seated_round

pub only_one_seated_round : (L : Limited) (S : SeatedState) (rs xs : List ℕ) (S' S'' : SeatedState) → IsSeatedRound L S rs S' → IsSeatedRound L S xs S'' → (rs ≡ xs) × (S' ≡ S'')
only_one_seated_round = one_seated_round

pub seated_round_goes_on : (L : Limited) (S : SeatedState) (rs : List ℕ) (S' : SeatedState) → IsSeatedRound L S rs S' → Path seated_threads (GoesOn L) (GetsNone L) S rs S'
seated_round_goes_on = seated_path

-- .. of each thread that could do a lone step at the round's start, but for a seat that it may lack there: the visits before its own leave it as it was; then its lone choice
-- comes and goes on, or comes and gets no seat, or is refused with 20.
pub seated_lone_step_done : (L : Limited) (S : SeatedState) (v : ℕ) (s₁ : State) → Steps L.clinic S.state v 0 s₁ → (rs : List ℕ) (S' : SeatedState) → IsSeatedRound L S rs S'
    → (xs ys : List ℕ) × (g : RoundState SeatedState) × (i : ℕ) × (rs ≡ xs ++ ys)
    × SeatedVisits L S (v - 1) xs g × Path seated_threads (GoesOn L) (GetsNone L) S xs g.state × Here g v i × (thread_at g.state.state i ≡ thread_at S.state v)
    × (((zs : List ℕ) × (S'' : SeatedState) × (ys ≡ i ∷ 0 ∷ zs) × GoesOn L g.state i 0 S'')
    ⊎ (((zs : List ℕ) × (S'' : SeatedState) × (ys ≡ i ∷ 0 ∷ zs) × GetsNone L g.state i S'') ⊎ (choice L.clinic g.state.state i 0 ≡ halts 20)))
seated_lone_step_done = seated_lone_of

-- A round is empty exactly if no choice can be done.
pub seated_empty_exactly : (L : Limited) (S : SeatedState) (rs : List ℕ) (S' : SeatedState) → IsSeatedRound L S rs S' → (rs ≡ []) ↔ ((i p : ℕ) → (n : ℕ) × (seated_choice L S i p ≡ refuses n))
seated_empty_exactly = seated_idle_of

-- After a list that nothing stopped: the round's choices in 128 words, 0 past the last, and the output of the run through both lists. A list that stops has no round.
pub seated_round_of_a_run : (f table ws : List ℕ) → reading_names f ≡ fine → SeatTableFits (contents_of f) table → StartFits (contents_of f) table → (room : ℕ) → RoundFit ws room
    → (seated_ran_of f table ws).refusal ≡ 0 → (rs : List ℕ) (S' : SeatedState) → IsSeatedRound (limited_of (contents_of f) table) (seated_ran_of f table ws).seating rs S' → SeatedRoundTold f ws table rs room
seated_round_of_a_run = seated_round_answered

pub seated_stopped_list_has_none : (f table ws : List ℕ) → reading_names f ≡ fine → SeatTableFits (contents_of f) table → StartFits (contents_of f) table → (room : ℕ) → RoundFit ws room
    → (seated_ran_of f table ws).refusal ≢ 0 → SeatedRoundStopped f ws table room (seated_ran_of f table ws).refusal ((seated_ran_of f table ws).count + 1)
seated_stopped_list_has_none = seated_round_stopped

-- "A seat word above 32, or another number of words than roles, is 17, judged once the file has passed 1 to 10": 17 exactly there and where the list or the output doesn't fit, which comes before any look at the file ..
pub seated_seventeen_exactly : (f table ws : List ℕ) (room : ℕ) → ((seated_running f ws table room).number ≡ 17) ↔ (Unfit ws room ⊎ ((reading_names f ≡ fine) × SeatTableMisfits (contents_of f) table))
seated_seventeen_exactly = seated_seventeen

pub seated_round_seventeen_exactly : (f table ws : List ℕ) (room : ℕ)
    → ((seated_rounding f ws table room).number ≡ 17) ↔ (RoundUnfit ws room ⊎ ((reading_names f ≡ fine) × SeatTableMisfits (contents_of f) table))
seated_round_seventeen_exactly = seated_round_seventeen

pub seats_seventeen_exactly : (f table ws : List ℕ) → ((seats_after f ws table).number ≡ 17) ↔ (Unlisted ws ⊎ ((reading_names f ≡ fine) × SeatTableMisfits (contents_of f) table))
seats_seventeen_exactly = seats_seventeen

-- .. and then at place 0, with nothing else ..
pub seated_seventeen_at_zero : (f table ws : List ℕ) (room : ℕ) → Unfit ws room ⊎ ((reading_names f ≡ fine) × SeatTableMisfits (contents_of f) table)
    → seated_running f ws table room ≡ refused 17 0
seated_seventeen_at_zero = seated_no_room

pub seated_round_seventeen_at_zero : (f table ws : List ℕ) (room : ℕ) → RoundUnfit ws room ⊎ ((reading_names f ≡ fine) × SeatTableMisfits (contents_of f) table)
    → seated_rounding f ws table room ≡ no_round_at 17 0
seated_round_seventeen_at_zero = seated_round_no_room

pub seats_seventeen_at_zero : (f table ws : List ℕ) → Unlisted ws ⊎ ((reading_names f ≡ fine) × SeatTableMisfits (contents_of f) table)
    → seats_after f ws table ≡ no_seats_at 17 0
seats_seventeen_at_zero = seats_no_room

-- .. 1 to 10 exactly as the file is read, whatever the table ..
pub seated_names_exactly : (f table ws : List ℕ) (room n p : ℕ) → OfFile n → (seated_running f ws table room ≡ refused n p) ↔ (Fit ws room × (reading_names f ≡ refused n p))
seated_names_exactly = seated_names

pub seated_round_names_exactly : (f table ws : List ℕ) (room n p : ℕ) → OfFile n
    → (◌≡◌ {A = Verdict} (record { number = (seated_rounding f ws table room).number; place = (seated_rounding f ws table room).place }) (refused n p)) ↔ (RoundFit ws room × (reading_names f ≡ refused n p))
seated_round_names_exactly = seated_round_names

pub seats_names_exactly : (f table ws : List ℕ) (n p : ℕ) → OfFile n
    → (◌≡◌ {A = Verdict} (record { number = (seats_after f ws table).number; place = (seats_after f ws table).place }) (refused n p)) ↔ (Listed ws × (reading_names f ≡ refused n p))
seats_names_exactly = seats_names

-- .. and "26 .. before the first choice .. is a refusal that writes nothing, its place the lowest session whose starting mask, taken in order, overfills a role": session k has a role at the start exactly if its starting mask has
-- it (`Overfull` counts the sessions 1 to k that have it).
pub seated_start_exactly : (f table ws : List ℕ) (room k : ℕ) → (seated_running f ws table room ≡ refused 26 k) ↔ (Fit ws room × (reading_names f ≡ fine) × SeatTableFits (contents_of f) table × OverfullAt (contents_of f) table k)
seated_start_exactly = seated_start_lem

pub seated_round_start_exactly : (f table ws : List ℕ) (room k : ℕ)
    → (◌≡◌ {A = Verdict} (record { number = (seated_rounding f ws table room).number; place = (seated_rounding f ws table room).place }) (refused 26 k))
    ↔ (RoundFit ws room × (reading_names f ≡ fine) × SeatTableFits (contents_of f) table × OverfullAt (contents_of f) table k)
seated_round_start_exactly = seated_round_start

pub seats_start_exactly : (f table ws : List ℕ) (k : ℕ)
    → (◌≡◌ {A = Verdict} (record { number = (seats_after f ws table).number; place = (seats_after f ws table).place }) (refused 26 k))
    ↔ (Listed ws × (reading_names f ≡ fine) × SeatTableFits (contents_of f) table × OverfullAt (contents_of f) table k)
seats_start_exactly = seats_start

pub has_by_starting_mask : (C : Contents) (k r : ℕ) → (sits (seated_start C) k r ≡ true) ↔ (InCount (length C.sessions) k × (has (item no_session C.sessions k).mask r ≡ true))
has_by_starting_mask = start_sits

-- Whatever refuses before the first choice: length 0 and nothing written; a round's words, and all else that is read, are 0.
pub seated_writes_nothing : (f table ws out : List ℕ) → SeatsBar (Unfit ws (length out)) f table → (seated_over f ws table out ≡ out) × (seated_length f ws table (length out) ≡ 0)
seated_writes_nothing = seated_unwritten

pub seated_round_has_nothing : (f table ws : List ℕ) (room : ℕ) → SeatsBar (RoundUnfit ws room) f table
    → seated_rounding f ws table room ≡ no_round_at (seated_rounding f ws table room).number (seated_rounding f ws table room).place
seated_round_has_nothing = seated_round_none

pub seated_round_writes_nothing : (f table ws out : List ℕ) → SeatsBar (RoundUnfit ws (length out)) f table → seated_round_over f ws table out ≡ out
seated_round_writes_nothing = seated_round_unwritten

pub seats_read_nothing : (f table ws : List ℕ) → SeatsBar (Unlisted ws) f table → seats_after f ws table ≡ no_seats_at (seats_after f ws table).number (seats_after f ws table).place
seats_read_nothing = seats_none

-- Then what the run came to: 0 at 0, or the number that halted it at the choice after those done, those answered 26 among them; its state is written, also of a halted run, and the length is its bytes.
pub seated_run_through : (f table ws : List ℕ) (room : ℕ) → Fit ws room → reading_names f ≡ fine → SeatTableFits (contents_of f) table → StartFits (contents_of f) table → (seated_ran_of f table ws).refusal ≡ 0
    → seated_running f ws table room ≡ fine
seated_run_through = seated_through

pub seated_run_halted : (f table ws : List ℕ) (room : ℕ) → Fit ws room → reading_names f ≡ fine → SeatTableFits (contents_of f) table → StartFits (contents_of f) table → (seated_ran_of f table ws).refusal ≢ 0
    → seated_running f ws table room ≡ refused (seated_ran_of f table ws).refusal ((seated_ran_of f table ws).count + 1)
seated_run_halted = seated_halted

pub seated_run_written : (f table ws out : List ℕ) → Fit ws (length out) → reading_names f ≡ fine → SeatTableFits (contents_of f) table → StartFits (contents_of f) table
    → Written (plainly (seated_ran_of f table ws)) out (seated_over f ws table out)
    × (seated_length f ws table (length out) ≡ state_bytes (length (seated_ran_of f table ws).seating.state.made) (length (seated_ran_of f table ws).seating.state.threads))
seated_run_written = seated_written_lem

-- What `pilzdamo_run_seated` hands back (`seated_written`, its contract) is that number and place, and that length.
pub seated_run_answers : (f table ws : List ℕ) (room : ℕ)
    → seated_written f ws table room
    ≡ record { number = (seated_running f ws table room).number; place = (seated_running f ws table room).place; length = seated_length f ws table room }
seated_run_answers f table ws room = refl

-- In literal words: a line of two, a free seat that goes to the head alone, a refused choice after one answered 26, the start, each wrong table, and rounds.
pub seats_in_words : All SeatShown seat_cases
seats_in_words = seats_shown

-- Request K11, nodes by column. "Version 3 holds the node section as all tags, then all f1, then all f2; the rest is version 2": what is held, in words of version 2 and of version 3. Where a word of
-- a record is read stands in `records_by_words`, and the encodings of all three versions are read exactly (`reads_exactly`, `checks_exactly`).
pub columns_in_words : (C : Contents) → (rest : List ℕ) × (file_words 2 C ≡ 2 ∷ (rest ++ node_rows C.nodes))
    × (file_words 3 C ≡ 3 ∷ (rest ++ (map (λ (n : Node). n.tag) C.nodes ++ (map (λ (n : Node). n.f1) C.nodes ++ map (λ (n : Node). n.f2) C.nodes))))
columns_in_words = forms_in_words

-- "One argument about a node's position serves both layouts": in a section of so many nodes, of whatever version, each word of a node stands within it, no two stand in one place, and
-- every place has a word.
pub words_within : (version nodes n j : ℕ) → 1 ≤ n → n ≤ nodes → j < 3 → spot version nodes n j < 3 * nodes
words_within = spot_within

pub no_two_alike : (version nodes n m i j : ℕ) → 1 ≤ n → n ≤ nodes → 1 ≤ m → m ≤ nodes → i < 3 → j < 3 → spot version nodes n i ≡ spot version nodes m j → (n ≡ m) × (i ≡ j)
no_two_alike = spot_one

pub no_place_left : (version nodes place : ℕ) → place < 3 * nodes → (n : ℕ) × (j : ℕ) × (1 ≤ n) × (n ≤ nodes) × (j < 3) × (spot version nodes n j ≡ place)
no_place_left version nodes place h = let it = spot_found version nodes place h in (it.node, it.word, it.from_one, it.in_count, it.few, it.here)

-- Each word of a node is read at its spot.
pub words_at_their_spots : (f : List ℕ) (n : ℕ) → in_count (head_at f).count.nodes n ≡ true
    → item no_node (contents_of f).nodes n ≡ record { tag = word_at f (node_spot (head_at f) n 0); f1 = word_at f (node_spot (head_at f) n 1); f2 = word_at f (node_spot (head_at f) n 2) }
unfolding contents_at
words_at_their_spots f n there = item_there no_node (node_of f (head_at f)) (head_at f).count.nodes n there

-- "Turning a version 2 file to columns and back restores it, and a version 3 file to rows and back": all bytes that 1 to 5 leave clean; what is turned is taken back, with the same answer.
pub columns_and_back : (f : List ℕ) → All (λ b. b < 256) f → (room : ℕ) → (turning 2 f room).number ≡ 0 → (turning 3 (in_columns f) room ≡ turning 2 f room) × (in_rows (in_columns f) ≡ f)
columns_and_back = there_and_back 2 3 refl refl

pub rows_and_back : (f : List ℕ) → All (λ b. b < 256) f → (room : ℕ) → (turning 3 f room).number ≡ 0 → (turning 2 (in_rows f) room ≡ turning 3 f room) × (in_columns (in_rows f) ≡ f)
rows_and_back = there_and_back 3 2 refl refl

-- What is turned holds what it held.
pub columns_hold : (f : List ℕ) → contents_of (in_columns f) ≡ contents_of f
columns_hold f = turned_holds f 3 refl

pub rows_hold : (f : List ℕ) → contents_of (in_rows f) ≡ contents_of f
rows_hold f = turned_holds f 2 refl

-- "turning refuses by 17 (output under 6,908 bytes), then 1 to 5, another version being 2": to columns (version 2) and to rows (version 3).
pub turning_to_columns : (f : List ℕ) (room : ℕ) (a : Merge-as-Written) → (turning 2 f room ≡ a) ↔ TurnAnswers 2 f room a
turning_to_columns = turning-answers-exactly 2

pub turning_to_rows : (f : List ℕ) (room : ℕ) (a : Merge-as-Written) → (turning 3 f room ≡ a) ↔ TurnAnswers 3 f room a
turning_to_rows = turning-answers-exactly 3

-- "Here and in later requests an output's length is answered and nothing past it is written" (K8).
pub columns_written : (f out : List ℕ) → (turning 2 f (length out)).number ≡ 0
    → ((turning 2 f (length out)).length ≡ length (in_columns f)) × (turned_over 2 3 f out ≡ in_columns f ++ drop (length (in_columns f)) out)
columns_written = turned_writes 2 3 refl refl

pub rows_written : (f out : List ℕ) → (turning 3 f (length out)).number ≡ 0
    → ((turning 3 f (length out)).length ≡ length (in_rows f)) × (turned_over 3 2 f out ≡ in_rows f ++ drop (length (in_rows f)) out)
rows_written = turned_writes 3 2 refl refl

pub columns_written_nothing : (f out : List ℕ) → (turning 2 f (length out)).number ≢ 0 → turned_over 2 3 f out ≡ out
columns_written_nothing = refused_writes_nothing 2 3 refl refl

pub rows_written_nothing : (f out : List ℕ) → (turning 3 f (length out)).number ≢ 0 → turned_over 3 2 f out ≡ out
rows_written_nothing = refused_writes_nothing 3 2 refl refl

-- "Every other answer on the column file is the one on its row file; a file placed or handed back keeps the form it came in": reading, check, hours, placing and measuring with length and on
-- steps, what a file adds to a sheet, runs, ready pairs, rounds, totals, runs and rounds with seats and the seats read, lent lists and merging; and the placed column file is the columns of the placed row
-- file. Of a version 2 file that turning takes, and of a version 3 file.
pub column_answers : (f : List ℕ) (room : ℕ) → (turning 2 f room).number ≡ 0 → ColumnsOf (in_columns f) f
column_answers = columns_alike

pub row_answers : (c : List ℕ) → All (λ b. b < 256) c → (room : ℕ) → (turning 3 c room).number ≡ 0 → ColumnsOf c (in_rows c)
row_answers = rows_alike

-- .. and a notice that holds the column file is answered as one that holds its row file; the part handed back is of the notice lent (`part_is_the_file`).
pub column_notices : (f : List ℕ) (room : ℕ) → (turning 2 f room).number ≡ 0 → (a b c d : ℕ) (n : List ℕ) (day : ℕ)
    → (plan_in_force (a ∷ b ∷ c ∷ d ∷ in_columns f) n day ≡ plan_in_force (a ∷ b ∷ c ∷ d ∷ f) n day) × (plan_in_force n (a ∷ b ∷ c ∷ d ∷ in_columns f) day ≡ plan_in_force n (a ∷ b ∷ c ∷ d ∷ f) day)
column_notices = notices_alike

-- Where turning does not take a file for 1 to 5, bytes of version 3 are refused as the same bytes of version 2, with the same answers to every caller.
pub heads_alike : (bs : List ℕ) → head_number (head_of (3 ∷ 0 ∷ bs)) ≡ head_number (head_of (2 ∷ 0 ∷ bs))
heads_alike = same_head_refusals

pub refused_heads_alike : (bs : List ℕ) → head_number (head_of (3 ∷ 0 ∷ bs)) ≢ 0 → Alike (3 ∷ 0 ∷ bs) (2 ∷ 0 ∷ bs)
refused_heads_alike = heads_refused

-- A sheet doesn't tell a column file from its row file: two inputs that differ in the layout of one record have the same sheet.
pub sheet_of_columns : (f : List ℕ) (room : ℕ) → (turning 2 f room).number ≡ 0 → (fs gs : List (List ℕ)) (a b x y : List ℕ)
    → All (λ n. n < 256) a → All (λ n. n < 256) b → WholeFiles 1000 a (fs ++ (in_columns f ∷ gs)) x → WholeFiles 1000 b (fs ++ (f ∷ gs)) y
    → sheet_of entry_of a ≡ sheet_of entry_of b
sheet_of_columns f room zero = one_exchanged entry_of (in_columns f) f (columns_alike f room zero).answers.answers.adds

-- "the output that placing needs included": the largest file is no larger.
pub largest_third : (n : Six) → Counted n → (length_of 3 n ≡ length_of 2 n) × (length_of 3 n ≤ 6908)
largest_third n c = (refl, omega (arith, c))

-- Zero bytes, "the version 1 file with all counts 0" (K7), are refused as its 26 bytes are: with 2.
pub zero_bytes_turned : (room : ℕ) → (turning 2 [] room ≡ turning 2 nothing_planned room) × (turning 3 [] room ≡ turning 3 nothing_planned room)
zero_bytes_turned = nothing_turned

-- In literal words: a booking turned both ways, the answers of turning it, of zero bytes and of a short output, and column files in the check and in placing.
pub turned_in_words : (in_columns (bytes_of row_booking) ≡ bytes_of column_booking) × (in_rows (bytes_of column_booking) ≡ bytes_of row_booking)
turned_in_words = booking_turned

pub turning_in_words : (turning 2 (bytes_of row_booking) 6908 ≡ record { number = 0; place = 0; length = 88 }) × (turning 3 (bytes_of column_booking) 6908 ≡ record { number = 0; place = 0; length = 88 })
    × (turning 3 (bytes_of row_booking) 6908 ≡ record { number = 2; place = 0; length = 0 }) × (turning 2 (bytes_of column_booking) 6908 ≡ record { number = 2; place = 0; length = 0 })
    × (turning 2 [] 6908 ≡ record { number = 2; place = 0; length = 0 }) × (turning 2 (bytes_of row_booking) 6907 ≡ record { number = 17; place = 0; length = 0 })
turning_in_words = booking_answered

pub column_cases_lem : All Shown column_cases
column_cases_lem = columned

-- Request K12, the plan in force. "A notice is one word with the first day of validity (days since 1 January 2000), one word with the file's length in bytes, then the file, checked for 1 to 10 only. Of two lent notices and a day, the one with the later
-- first day not after that day supersedes; with equal first days, the second": what is answered is what the request's words say (`Answers` of notices_exact), and nothing else.
pub in_force_answers : (f g : List ℕ) (day : ℕ) (r : InForce) → Notice-as-Answers f g day r ↔ (r ≡ plan_in_force f g day)
in_force_answers f g day r = (one_answer f g day r, λ e. subst (Notice-as-Answers f g day) (sym e) (notices-answered f g day))

-- "27, a notice under 4 bytes, or whose length word is not the number of bytes after it, or whose file is refused, place 1 or 2 .., the lower first, before anything else" ..
pub first_notice_refused : (f g : List ℕ) (day : ℕ) → (plan_in_force f g day ≡ record { number = 27; place = 1; notice = 1; at = 0; length = 0 }) ↔ Unsound f
first_notice_refused = first_refused

pub second_notice_refused : (f g : List ℕ) (day : ℕ) → (plan_in_force f g day ≡ record { number = 27; place = 2; notice = 1; at = 0; length = 0 }) ↔ (Sound f × Unsound g)
second_notice_refused = second_refused

-- .. "28, neither has begun, place 0, last" ..
pub neither_has_begun : (f g : List ℕ) (day : ℕ)
    → (plan_in_force f g day ≡ record { number = 28; place = 0; notice = 1; at = 0; length = 0 }) ↔ (Sound f × Sound g × (word_at f 0 ≤ day → ⊥) × (word_at g 0 ≤ day → ⊥))
neither_has_begun = none_in_force

-- .. else the notice that supersedes is named, with the file that it holds ..
pub first_supersedes : (f g : List ℕ) (day : ℕ)
    → (plan_in_force f g day ≡ record { number = 0; place = 0; notice = 1; at = 4; length = length (drop 4 f) }) ↔ (Sound f × Sound g × Supersedes f g day 1)
first_supersedes = first_in_force

pub second_supersedes : (f g : List ℕ) (day : ℕ)
    → (plan_in_force f g day ≡ record { number = 0; place = 0; notice = 2; at = 4; length = length (drop 4 g) }) ↔ (Sound f × Sound g × Supersedes f g day 2)
second_supersedes = second_in_force

-- .. which has begun, than which no notice that has begun has a later first day, and which is the second where the first days are equal.
pub latest_begun : (f g : List ℕ) (day : ℕ) → (plan_in_force f g day).number ≡ 0 → (k : ℕ) → (plan_in_force f g day).notice ≡ k
    → (n : List ℕ) → n ≡ cond (eqb k 2) g f → (word_at n 0 ≤ day) × (word_at f 0 ≤ day → word_at f 0 ≤ word_at n 0) × (word_at g 0 ≤ day → word_at g 0 ≤ word_at n 0) × (word_at f 0 ≡ word_at g 0 → k ≡ 2)
latest_begun f g day done k e n is =
    let h : Held f g day (plan_in_force f g day) = in-force-held f g day done in
    let same : of_notice (plan_in_force f g day) f g ≡ n = ap (λ (i : ℕ). cond (eqb i 2) g f) e ∙ sym is in (
      subst (λ (m : List ℕ). word_at m 0 ≤ day) same h.begun,
      subst (λ (m : List ℕ). word_at f 0 ≤ day → word_at f 0 ≤ word_at m 0) same h.latest.0,
      subst (λ (m : List ℕ). word_at g 0 ≤ day → word_at g 0 ≤ word_at m 0) same h.latest.1,
      λ tie. sym e ∙ h.tied tie,
    )

-- "Its file is handed back as a part of whichever lent notice holds it, not as a copy": `notices::in_force` hands back the bytes `part_of` at the place `place_of` (its contract), which are cut by the very numbers answered. These are
-- all bytes of that notice after its first 4, where they stand in it (a place is a block of memory and an offset in it) ..
pub part_is_the_file : (f g : List ℕ) (day : ℕ) → (plan_in_force f g day).number ≡ 0
    → (part_of (plan_in_force f g day) f g ≡ drop 4 (cond (eqb (plan_in_force f g day).notice 2) g f))
    × ((p q : ℕ × ℕ) → place_of (plan_in_force f g day) p q ≡ ((cond (eqb (plan_in_force f g day).notice 2) q p).0, 4 + (cond (eqb (plan_in_force f g day).notice 2) q p).1))
part_is_the_file f g day done = (file_part f g day done, file_place f g day done)

pub part_by_numbers : (r : InForce) (f g : List ℕ) (p q : ℕ × ℕ)
    → (part_of r f g ≡ take r.length (drop r.at (cond (eqb r.notice 2) g f))) × (place_of r p q ≡ ((cond (eqb r.notice 2) q p).0, r.at + (cond (eqb r.notice 2) q p).1))
part_by_numbers r f g p q = (refl, refl)

-- .. "A refusal hands back an empty part of the first notice", at its start.
pub refused_part_is_empty : (f g : List ℕ) (day : ℕ) → (plan_in_force f g day).number ≢ 0 → (part_of (plan_in_force f g day) f g ≡ []) × ((p q : ℕ × ℕ) → place_of (plan_in_force f g day) p q ≡ p)
refused_part_is_empty = empty_part

-- The file handed back is one that 1 to 10 refuse nothing of; `names_exactly` says what that is.
pub file_in_force_reads : (f g : List ℕ) (day : ℕ) → (plan_in_force f g day).number ≡ 0 → reading_names (part_of (plan_in_force f g day) f g) ≡ fine
file_in_force_reads = file_reads

-- In literal words: the days before, at, between and after two first days, equal ones, and each refusal in its turn.
pub notices_in_words : All NoticeShown notice_cases
notices_in_words = notices_shown

-- Request K13, the group's quarterly sheet. "The group reads up to 1,000 files in a row, each after one word with its length in bytes"; "the sheet ends after 1,000 files or at the first record that isn't whole, which is not
-- counted": every input is the records of its whole files and a rest, with 1,000 files or a rest that isn't whole, and in one way only.
pub sheet_has_whole_files : (input : List ℕ) → All (λ b. b < 256) input → (fs : List (List ℕ)) × (rest : List ℕ) × WholeFiles 1000 input fs rest
sheet_has_whole_files = some_files

pub sheet_has_no_others : (input : List ℕ) → All (λ b. b < 256) input → (fs gs : List (List ℕ)) (x y : List ℕ) → WholeFiles 1000 input fs x → WholeFiles 1000 input gs y → (fs ≡ gs) × (x ≡ y)
sheet_has_no_others = one_split

-- ".. and wants: files, files refused at each number, sessions placed, on steps in all, most on steps in one session, and on steps per 1,000 sessions as whole quotient and remainder (both 0 without sessions)"; "the sums equal
-- those of placing each whole file by itself": all of it over the whole files, each placed by itself in an output of 6,908 bytes, the most over the trees of the files so written.
pub sheet_sums_up : (input : List ℕ) (fs : List (List ℕ)) (rest : List ℕ) → All (λ b. b < 256) input → WholeFiles 1000 input fs rest → Owed fs (sheet_of entry_of input)
sheet_sums_up = sheet_says

-- "A refused file adds to the files and to its refusal only": it has neither sessions nor on steps nor a tree in those sums, and whatever its number is, there is a place for it.
pub refused_adds_no_more : (f : List ℕ) → (placing f 6908).number ≢ 0 → (sessions_placed f ≡ 0) × ((placing f 6908).on_steps ≡ 0)
refused_adds_no_more = refused_alone

pub refused_has_its_place : (f : List ℕ) → (placing f 6908).number ≤ 28
refused_has_its_place = number_counted

-- "And two orders of the same whole files, at most 1,000, give the same sheet": whatever rest stands after them, and none.
pub sheet_in_any_order : (a b : List ℕ) (fs gs : List (List ℕ)) (x y : List ℕ) → All (λ n. n < 256) a → All (λ n. n < 256) b → WholeFiles 1000 a fs x → WholeFiles 1000 b gs y → Perm fs gs
    → sheet_of entry_of a ≡ sheet_of entry_of b
sheet_in_any_order = orders entry_of

pub records_in_any_order : (fs gs : List (List ℕ)) → length fs ≤ 1000 → Perm fs gs → sheet_of entry_of (records_of fs) ≡ sheet_of entry_of (records_of gs)
records_in_any_order = orders_of_records entry_of

-- In literal words: files placed and refused, in two orders, with a record that isn't whole after them; half a length word; nothing.
pub sheets_in_words : All SheetShown sheet_cases
sheets_in_words = sheets_shown

-- Request K14, what another ward can change in mine. "Two files of document 01's version that both place agree on roles, kinds, channels, and one session's user number, that user's mask, and its tree counted from its own root. Other users' masks and other sessions differ
-- freely" (`SameWard`; where roles agree with their juniors, files of version 2 do as well). "That session's placed tree, counted so, is then the same in both, and so is its number of on steps": F and G are the two files, the session
-- is number i in F and number j in G, P and Q are the placed files as they are written, in whatever room. "Show it for K4's tie rule": placing takes no other (`places_well`).
pub ward_is_isolated : (f g : List ℕ) → All (λ b. b < 256) f → All (λ b. b < 256) g → (room space : ℕ) → (placing f room).number ≡ 0 → (placing g space).number ≡ 0
    → (F G : File) → ReadsAs f F → ReadsAs g G → (i j : ℕ) → SameWard F G i j → (P Q : File) → encode P ≡ placed_bytes f → encode Q ≡ placed_bytes g
    → ((session P i).tree ≡ (session Q j).tree) × (on_steps (session P i).tree ≡ on_steps (session Q j).tree)
ward_is_isolated f g F-bytes G-bytes room space p q F G d e i j S P Q = isolated f g F-bytes G-bytes F G d e i j S P Q room space p q

-- .. "cover hours too, for one minute and one table": t is the table and m the minute.
pub ward_is_isolated_at : (f g : List ℕ) → All (λ b. b < 256) f → All (λ b. b < 256) g → (t : List ℕ) (m room space : ℕ) → (placing_at f t m room).number ≡ 0 → (placing_at g t m space).number ≡ 0
    → (F G : File) → ReadsAs f F → ReadsAs g G → (i j : ℕ) → SameWard F G i j → (P Q : File) → encode P ≡ placed_bytes_at f t m → encode Q ≡ placed_bytes_at g t m
    → ((session P i).tree ≡ (session Q j).tree) × (on_steps (session P i).tree ≡ on_steps (session Q j).tree)
ward_is_isolated_at f g F-bytes G-bytes t m room space p q F G d e i j S P Q = isolated_at f g F-bytes G-bytes F G d e i j S P Q t m room space p q

-- The same of the words written: from the session's root on stand as many nodes as its tree has, and counted from that root (a fork's f1 less the root's number, every other word as it is) they are the same in both.
pub ward_in_bytes : (f g : List ℕ) → All (λ b. b < 256) f → All (λ b. b < 256) g → (room space : ℕ) → (placing f room).number ≡ 0 → (placing g space).number ≡ 0
    → (F G : File) → ReadsAs f F → ReadsAs g G → (i j : ℕ) → SameWard F G i j → (P Q : File) → encode P ≡ placed_bytes f → encode Q ≡ placed_bytes g
    → from_root (contents_of (placed_bytes f)) i (past 0 (session P i).tree) ≡ from_root (contents_of (placed_bytes g)) j (past 0 (session P i).tree)
ward_in_bytes f g F-bytes G-bytes room space p q F G d e i j S P Q = isolated_words f g F-bytes G-bytes F G d e i j S P Q room space p q

pub ward_in_bytes_at : (f g : List ℕ) → All (λ b. b < 256) f → All (λ b. b < 256) g → (t : List ℕ) (m room space : ℕ) → (placing_at f t m room).number ≡ 0 → (placing_at g t m space).number ≡ 0
    → (F G : File) → ReadsAs f F → ReadsAs g G → (i j : ℕ) → SameWard F G i j → (P Q : File) → encode P ≡ placed_bytes_at f t m → encode Q ≡ placed_bytes_at g t m
    → from_root (contents_of (placed_bytes_at f t m)) i (past 0 (session P i).tree) ≡ from_root (contents_of (placed_bytes_at g t m)) j (past 0 (session P i).tree)
ward_in_bytes_at f g F-bytes G-bytes t m room space p q F G d e i j S P Q = isolated_words_at f g F-bytes G-bytes F G d e i j S P Q t m room space p q

-- From the session's root on stand as many nodes as its tree has, and they are the tree as it is written.
pub ward_words_are_its_tree : (P : File) (g : List ℕ) → encode P ≡ g → (i : ℕ) → InCount (length P.sessions) i
    → from_root (contents_of g) i (past 0 (session P i).tree) ≡ write 0 (session P i).tree []
ward_words_are_its_tree = from_root_lem

-- In literal words: a session alone in its file, and second in another with other users; what the two files hold, that they agree on the session, and both placed.
pub wards_in_words_agree : ReadsAs (bytes_of alone) alone_file × ReadsAs (bytes_of beside) beside_file × SameWard alone_file beside_file 1 2
wards_in_words_agree = wards_agree

pub wards_in_words : WardShown alone alone_placed 1 × WardShown beside beside_placed 2
wards_in_words = wards_shown

-- All schedules: a certificate. `pilzdamo_closed` answers `closing`; where that is fine, after every list of choices, of any words and any length, the run with seats stands in a state of the table,
-- whose words the row has.
pub every_schedule_is_a_row : (f seats states places next : List ℕ) → closing f seats states places next ≡ closed_fine → (ws : List ℕ)
    → (k : ℕ) × (k < length places) × ((seated_ran_of f seats ws).seating ≡ row_state (certificate_of (contents_of f) seats states places next) k)
    × (is_row (certificate_of (contents_of f) seats states places next) k (seated_ran_of f seats ws).seating ≡ true)
every_schedule_is_a_row = schedule_is_a_row

-- No row is there in vain: each is the state after some list of choices.
pub every_row_is_reached : (f seats states places next : List ℕ) → closing f seats states places next ≡ closed_fine → (k : ℕ) → k < length places
    → (ws : List ℕ) × ((seated_ran_of f seats ws).seating ≡ row_state (certificate_of (contents_of f) seats states places next) k)
every_row_is_reached = row_is_reached

-- So what holds of all rows holds of every schedule.
pub what_holds_of_rows_holds_of_schedules : (f seats states places next : List ℕ) → closing f seats states places next ≡ closed_fine → (P : SeatedState → Type 0)
    → ((k : ℕ) → k < length places → P (row_state (certificate_of (contents_of f) seats states places next) k)) → (ws : List ℕ) → P (seated_ran_of f seats ws).seating
what_holds_of_rows_holds_of_schedules = each_row_holds

-- With a table of seats of zeros: the run without seats.
pub every_plain_schedule_is_a_row : (f seats states places next : List ℕ) → closing f seats states places next ≡ closed_fine → All (λ w. w ≡ 0) seats → (ws : List ℕ)
    → (k : ℕ) × (k < length places) × ((ran_of f ws).state ≡ (row_state (certificate_of (contents_of f) seats states places next) k).state)
every_plain_schedule_is_a_row = plain_schedule_is_a_row

-- When a certificate holds: exactly where nothing refuses before the rows, row 0 has the words of the start, and in each row, which is known by then, the words of `next` name the rows of the states that its choices lead
-- to, one after the other.
pub closed_exactly : (f seats states places next : List ℕ) → (closing f seats states places next ≡ closed_fine)
    ↔ (Triable f seats (length places) × CertificateHolds (certificate_of (contents_of f) seats states places next) (seated_start (contents_of f)))
closed_exactly = holds_exactly

-- The row that 18 names is the first where it is not the start, and else the lowest that doesn't hold, counted from 1 on.
pub fault_exactly : (f seats states places next : List ℕ) (k : ℕ) → (closing f seats states places next ≡ closing_of 18 0 k)
    ↔ (Triable f seats (length places) × FaultAt (certificate_of (contents_of f) seats states places next) (seated_start (contents_of f)) k)
fault_exactly = lowest_fault

-- The refusals in order: 17 for the rows, 1 to 10 as the file is read, 17 for the table of seats, 26 at the session as of a run with seats, then 18 or 0. An answer is given exactly where it has its cause.
pub closing_answers : (f seats states places next : List ℕ) (x : Closing) → (closing f seats states places next ≡ x) ↔ ClosingCause f seats states places next x
closing_answers = answers_by_cause

-- A row's words: those of the run's output from the third on, then the session of each thread, then for each role how many wait, and these.
pub row_begins_as_the_run : (roles : ℕ) (r : SeatedRan)
    → row_words roles r.seating ≡ drop 2 (ran_words (plainly r)) ++ (r.seating.owners ++ collect (λ x. length (r.seating.lines x) ∷ r.seating.lines x) 1 roles)
row_begins_as_the_run = row_in_parts

-- So what `pilzdamo_run_seated` writes through any list of choices stands in a row of a certificate that holds: word i of the row is word i + 2 of the output.
pub every_output_is_a_row : (f seats states places next : List ℕ) → closing f seats states places next ≡ closed_fine → (ws out : List ℕ) → Fit ws (length out)
    → (k : ℕ) × (k < length places)
    × ((i : ℕ) → 2 * (i + 2) < seated_length f ws seats (length out) → get_or states (get_or places k 0 + i) 0 ≡ word_at (seated_over f ws seats out) (i + 2))
every_output_is_a_row = output_is_a_row

-- A certificate by parts. `pilzdamo_closed_part` answers `closing_part`; where that is fine for each part of a chain, from row 0 and word 0 to the last row, the whole certificate is fine.
pub parts_are_the_whole : (f seats states places next : List ℕ) (P : Part) (Ps : List Part) → Chained 0 0 (P ∷ Ps) (length places)
    → All (λ Q. closing_part f seats states places next Q ≡ closed_fine) (P ∷ Ps) → closing f seats states places next ≡ closed_fine
parts_are_the_whole = chain_is_whole

-- And where the whole is fine each part is, from any row to any later one, with the words of the choices that are done in its rows.
pub the_whole_has_parts : (f seats states places next : List ℕ) → closing f seats states places next ≡ closed_fine → (j k : ℕ) → j < k → k ≤ length places
    → closing_part f seats states places next (part_between (certificate_of (contents_of f) seats states places next) j k) ≡ closed_fine
the_whole_has_parts = whole_has_part

-- In literal words: a certificate in two parts; parts whose words end elsewhere, with a row that isn't known or isn't in order, refused at their rows.
pub parts_in_words : All PartShown part_cases
parts_in_words = parts_shown

-- In literal words: two sessions that end, two that meet, one that makes a channel, and two that want one seat, with their tables accepted; and tables with another first row, a target one off, not
-- known yet or missing, a row missing or never reached, refused at their rows; and the refusals before the rows, in order.
pub certificates_in_words : All CertificateShown certificate_cases
certificates_in_words = certificates_shown

-- The offers of a lent state. `pilzdamo_offers` answers `offering`. Once 1 to 10, the table of seats and the start refuse nothing, the words of a state in order get its offers, and any other words 18.
pub lent_states_are_offered : (f seats : List ℕ) → (reading_names f).number ≡ 0 → (seats_bar (contents_of f) seats).number ≡ 0 → (s out : List ℕ) (S : SeatedState) → StateWords (contents_of f) seats s S
    → offering f seats s out ≡ offering_of (offers_put (length seats) (begun out) (offers_of (limited_of (contents_of f) seats) S))
lent_states_are_offered = lent_offers

pub other_words_are_refused : (f seats : List ℕ) → (reading_names f).number ≡ 0 → (seats_bar (contents_of f) seats).number ≡ 0 → (s out : List ℕ)
    → ((S : SeatedState) → StateWords (contents_of f) seats s S → ⊥) → offering f seats s out ≡ refusing (refused 18 0) out
other_words_are_refused = lent_refused

-- The state after any list of choices may be lent ..
pub run_states_may_be_lent : (f seats : List ℕ) → (reading_names f).number ≡ 0 → (seats_bar (contents_of f) seats).number ≡ 0 → (ws : List ℕ)
    → StateWords (contents_of f) seats (row_words (length seats) (seated_ran_of f seats ws).seating) (seated_ran_of f seats ws).seating
run_states_may_be_lent = run_lent

-- .. and its offers are exactly what the run does next: with the same thread and partner, answer and state.
pub offers_are_the_choices : (f seats ws : List ℕ) → length ws ≡ 2 * (seated_ran_of f seats ws).count → (o : Offer)
    → Memᴰ o (offers_of (limited_of (contents_of f) seats) (seated_ran_of f seats ws).seating) ↔ DoesNext f seats ws o
offers_are_the_choices = next_exactly

-- By one choice: an offer is a choice that is done, and every choice that is done is offered, whatever its numbers.
pub every_choice_that_is_done_is_offered : (L : Limited) (S : SeatedState) (o : Offer) → Memᴰ o (offers_of L S) ↔ IsOffer L S o
every_choice_that_is_done_is_offered = offered_exactly

-- Threads outside, partners inside, so each once.
pub offers_are_in_order : (L : Limited) (S : SeatedState) → Ascending (offers_of L S)
offers_are_in_order = offered_in_order

-- With a table of seats of zeros: the choice that `pilzdamo_choose` carries out.
pub plain_choices_are_offered : (C : Contents) (seats : List ℕ) → All (λ w. w ≡ 0) seats → (S : SeatedState) (i p : ℕ) (s : State) → (choice (clinic_of C) S.state i p ≡ goes s)
    ↔ ((o : Offer) × Memᴰ o (offers_of (limited_of C seats) S) × (o.thread ≡ i) × (o.partner ≡ p) × (o.answer ≡ 0) × (o.seating.state ≡ s))
plain_choices_are_offered = plain_offers

-- In the output stand as many offers as have room, from its first word on; words past them stay.
pub offers_stand_in_the_output : (roles : ℕ) (out : List ℕ) (os : List Offer) → OffersStand roles out os (offers_put roles (begun out) os)
offers_stand_in_the_output = offers_stand

-- In literal words: states with two offers, one that waits, room for one and for none; and words, tables and files refused.
pub offers_in_words : All OfferShown offer_cases
offers_in_words = offers_shown
