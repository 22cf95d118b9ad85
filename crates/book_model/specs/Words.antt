-- The words of the standard, the tariffs and the books, from one place, for the crates above, but for
-- the types of this crate, which only their own modules export. Read in the order of `specs/Lib.antt`
-- of each crate: it says what each word means.
pub use Rattle.smf_text.specs.Day.{IsDay, date_of, day_of_text_of, day_text_of}
pub use Rattle.smf_text.specs.PackedDate.{packed_day_of}
pub use Rattle.smf_text.specs.Names.{IsName, is_name_character}
pub use Rattle.smf_text.specs.CodePage.{show_text}
pub use Rattle.smf_frames.specs.Number.{number, part}
pub use Rattle.smf_frames.specs.Framed.{IsFramed, data_of, most_data, record_with}
pub use Rattle.smf_frames.specs.Faults.{frame_number}
pub use Rattle.smf_frames.specs.Front.{Front, prepend, front, front_from}
pub use Rattle.smf_frames.specs.Joining.{Joining, HasTaken, broken_by, released, nothing_found}
pub use Rattle.smf_frames.specs.Joining.{nothing_joined}
pub use Rattle.smf_frames.specs.Feeding.{Feeds}
pub use Rattle.smf_frames.specs.Texts.{texts}
pub use Rattle.smf_frames.specs.declared.dump.Layout.{Layout}
pub use Rattle.smf_frames.specs.declared.dump.Layout.TheVariants.{Bdw, Rdw}
pub use Rattle.smf_frames.specs.declared.fault.FrameFault.{FrameFault}
pub use Rattle.smf_type30.specs.Layout.{hundredths_per_day, identification, job_end, step_number}
pub use Rattle.smf_type30.specs.Section.{offset_of, part_in}
pub use Rattle.smf_type30.specs.Usage.{completion_of, day_of, identity2_length, identity2_of}
pub use Rattle.smf_type30.specs.Usage.{identity_length, identity_of, job_id_of, job_of, program_of}
pub use Rattle.smf_type30.specs.Usage.{ended_step_of, initiation_of, step_of, subtype_of, time_of}
pub use Rattle.smf_type30.specs.Class.{IsUsage, class_of, type_of}
pub use Rattle.smf_type30.specs.Damage.{damage_number}
pub use Rattle.smf_type30.specs.declared.record_class.Class.{Class}
pub use Rattle.smf_type30.specs.declared.record_class.Class.TheVariants.{Usage}
pub use Rattle.tariff_rules.specs.Faults.{tariff_number}
pub use Rattle.tariff_rules.specs.Terms.{Terms, on_every_day}
pub use Rattle.tariff_rules.specs.Price.{IsPriced, most_amount, price_by}
pub use Rattle.tariff_rules.specs.Reckoning.{reckoned, reckoning_by, rule_number, rule_numbered}
pub use Rattle.tariff_rules.specs.TariffFile.{terms_in}
pub use Rattle.tariff_rules.specs.Letterhead.{LetterheadSeen, letterhead_in, letterhead_shown}
pub use Rattle.tariff_rules.specs.Letterhead.{no_letterhead}
pub use Rattle.tariff_rules.specs.declared.fault.TariffFault.{TariffFault}
pub use Rattle.tariff_rules.specs.declared.priced.Priced.{Priced}
pub use Rattle.tariff_rules.specs.declared.reckoning.Reckoning.{Reckoning}
pub use Rattle.book_model.specs.Sets.{Set, has, members, set_of, those, with, without}
pub use Rattle.book_model.specs.Records.{IsUsageRecord, Naming, Records, by_bytes, name_of}
pub use Rattle.book_model.specs.Records.{same_bytes}
pub use Rattle.book_model.specs.Limits.{credit_end, last_period, most_choices, most_cost}
pub use Rattle.book_model.specs.Limits.{most_credits, most_held, most_reason, most_replaced}
pub use Rattle.book_model.specs.CloseDays.{close_of, is_after, is_between, is_through}
pub use Rattle.book_model.specs.Rulings.{Ruling, TariffAccepted, TariffReplaced, RecordChosen}
pub use Rattle.book_model.specs.Rulings.{WorkWithheld, SecondRuleAdopted, CreditGiven}
pub use Rattle.book_model.specs.Rulings.{Choice, Credit, Replaced, Rulings, AcceptedTerms}
pub use Rattle.book_model.specs.Rulings.{are_rising, has_begun, is_effective, or_new, replaced_in}
pub use Rattle.book_model.specs.Rulings.{with_credit, with_named, with_replaced, with_withheld}
pub use Rattle.book_model.specs.Rulings.{identity_by, in_force, is_under, last_close, latest}
pub use Rattle.book_model.specs.Rulings.{no_rulings, open_by, price_in, price_under, prices}
pub use Rattle.book_model.specs.Rulings.{rulings_before}
pub use Rattle.book_model.specs.Rulings.{with_choice, with_close, with_ruling, with_second_rule}
pub use Rattle.book_model.specs.Rulings.{with_tariff}
pub use Rattle.book_model.specs.Charged.{charged_by, charged_now, charged_through, conflict}
pub use Rattle.book_model.specs.Charged.{is_chosen, is_dated_after, is_dated_through, is_undisputed}
pub use Rattle.book_model.specs.Charged.{is_preferred, is_unrivalled, is_withheld, last_choice}
pub use Rattle.book_model.specs.Charged.{last_chosen, share_identity}
pub use Rattle.book_model.specs.Periods.{Period, period_by}
pub use Rattle.book_model.specs.Rows.{AreRows, FitSums, by_key, charged_at, key_of, keys_of, row_at}
pub use Rattle.book_model.specs.Rows.{row_key, rows_for, rows_of, same_key}
pub use Rattle.book_model.specs.Lines.{AreLines, by_line, line_with, lines_for, lines_of}
pub use Rattle.book_model.specs.Lines.{plus_first}
pub use Rattle.book_model.specs.Disputes.{AreDisputes, Disputed, IsDispute, ShowsDispute, by_name}
pub use Rattle.book_model.specs.Disputes.{dispute_at, dispute_from, dispute_shown, disputes_in}
pub use Rattle.book_model.specs.Disputes.{identities, is_from, is_in_dispute, is_settled}
pub use Rattle.book_model.specs.Disputes.{records_of, variant_of, variant_with}
pub use Rattle.book_model.specs.Journal.{Act, CloseOf, Ending, Entry, Imported, Importing, Note}
pub use Rattle.book_model.specs.Journal.{Place, Reading, Ruled, came_by, change_newest, end_with}
pub use Rattle.book_model.specs.Journal.{goes_on, keep_in, kept_by, kept_count, kept_in_all}
pub use Rattle.book_model.specs.Journal.{nothing_read, place_of, read_on}
pub use Rattle.book_model.specs.Journal.{times_kept, with_entry}
pub use Rattle.book_model.specs.Books.{Book, all_periods, charged_of, flat_book, new_book}
pub use Rattle.book_model.specs.Books.{open_number, open_period, period_of}
pub use Rattle.book_model.specs.Counted.{counted_of, is_counted, is_counted_in}
pub use Rattle.book_model.specs.Events.{Event, PeriodClosed, RecordKept, RulingGiven, after}
pub use Rattle.book_model.specs.Events.{ImportBegun, ImportEnded, ImportRead, after_all, after_any}
pub use Rattle.book_model.specs.Events.{changed_by, close, entries_after, give, keep}
pub use Rattle.book_model.specs.Accept.{accept_answer, accept_priced, clashes, is_full, total_of}
pub use Rattle.book_model.specs.RulingAnswers.{adopt_answer, choose_answer, chosen_answer}
pub use Rattle.book_model.specs.RulingAnswers.{close_answer, first_rule, has_text, is_closed}
pub use Rattle.book_model.specs.RulingAnswers.{credit_answer, credit_ruled, has_centre}
pub use Rattle.book_model.specs.RulingAnswers.{has_most_choices}
pub use Rattle.book_model.specs.RulingAnswers.{is_credit, is_known_centre, replace_answer}
pub use Rattle.book_model.specs.RulingAnswers.{replace_ruled, replacing_answer, was_withheld}
pub use Rattle.book_model.specs.RulingAnswers.{withheld_answer, withhold_answer}
pub use Rattle.book_model.specs.RulingAnswers.{is_early, is_later, is_too_dear}
pub use Rattle.book_model.specs.RulingAnswers.{record_named, rule_by, second_rule, tariff_answer}
pub use Rattle.book_model.specs.RulingAnswers.{IsRule, terms_answer, terms_ruled, through_of}
pub use Rattle.book_model.specs.RulingLists.{HasDays, RulingSeen, TariffSeen, CloseSeen, ChoiceSeen}
pub use Rattle.book_model.specs.RulingLists.{AdoptionSeen, ShowsDays, ruling_shown, rulings_listed}
pub use Rattle.book_model.specs.RulingLists.{WithheldSeen, ReplacedSeen, CreditSeen}
pub use Rattle.book_model.specs.RulingLists.{all_replaced_seen, credit_seen, credits_seen}
pub use Rattle.book_model.specs.RulingLists.{replaced_seen}
pub use Rattle.book_model.specs.RulingLists.{adoption_seen, choice_seen, choices_seen, closes_seen}
pub use Rattle.book_model.specs.RulingLists.{tariff_seen, tariff_text_on, tariffs_seen, text_on}
pub use Rattle.book_model.specs.RulingsAsked.{RulingAsked, TariffAsked, CloseAsked, ChoiceAsked}
pub use Rattle.book_model.specs.RulingsAsked.{AdoptionAsked, CreditAsked, IsCreditOf, MayBeAsked}
pub use Rattle.book_model.specs.RulingsAsked.{ReplacementAsked, WithholdingAsked, is_credit_amount}
pub use Rattle.book_model.specs.RulingsAsked.{is_reason, is_reason_character, ruling_asked}
pub use Rattle.book_model.specs.Outcomes.{Outcome, accept_event, accept_outcome}
pub use Rattle.book_model.specs.Outcomes.{adjustments_outcome, adopt_outcome}
pub use Rattle.book_model.specs.Outcomes.{charges_outcome, choose_outcome}
pub use Rattle.book_model.specs.Outcomes.{close_outcome, credit_given_outcome, dispute_outcome}
pub use Rattle.book_model.specs.Outcomes.{disputes_outcome, if_done}
pub use Rattle.book_model.specs.Outcomes.{periods_outcome, no_event, record_outcome, ruled_as}
pub use Rattle.book_model.specs.Outcomes.{credit_outcome, replace_outcome, rule_outcome}
pub use Rattle.book_model.specs.Outcomes.{ruling_outcome, tariff_outcome, what_if_outcome}
pub use Rattle.book_model.specs.Outcomes.{withhold_outcome}
pub use Rattle.book_model.specs.OtherPrices.{costs_under, rows_if_room, what_if_answer}
pub use Rattle.book_model.specs.Details.{by_detail, comes_after, detail_by, detail_of, detail_with}
pub use Rattle.book_model.specs.Details.{details_asked, is_asked}
pub use Rattle.book_model.specs.Details.{details_at, details_for, details_of, details_of_centre}
pub use Rattle.book_model.specs.Details.{details_outcome, first_detail, is_dated_in, is_day_of}
pub use Rattle.book_model.specs.Details.{next_after, next_detail_outcome, ShowsDetail}
pub use Rattle.book_model.specs.Lives.{charges_in, is_charge, life_from, life_of, net_of}
pub use Rattle.book_model.specs.Lives.{reversals_in, turn_if, turns_in}
pub use Rattle.book_model.specs.Trails.{IsTrail, TrailSeen, choice_named, choices_among, period_on}
pub use Rattle.book_model.specs.Trails.{reckoning_in, trail_by, trail_of, trail_outcome}
pub use Rattle.book_model.specs.Trails.{trail_shown}
pub use Rattle.book_model.specs.Bills.{BillSeen, amount_for, begins_by, bill_of, bill_outcome}
pub use Rattle.book_model.specs.Bills.{bill_shown, billed_line, billed_lines, billed_shift}
pub use Rattle.book_model.specs.Bills.{billed_shifts, billed_tariff, by_shift, shifts_by, shifts_of}
pub use Rattle.book_model.specs.Bills.{charged_before, disputes_for, first_day_of, greatest_for}
pub use Rattle.book_model.specs.Bills.{held_back_in, held_back_of, in_force_from, is_paid_by}
pub use Rattle.book_model.specs.Bills.{is_step, jobs_of, least_for, letterhead_among, letterhead_by}
pub use Rattle.book_model.specs.Bills.{credit_shown, credits_asked, credits_in, line_alone}
pub use Rattle.book_model.specs.Bills.{line_period_outcome, period_by_trail, period_of_line}
pub use Rattle.book_model.specs.Bills.{steps_of, tariff_by}
pub use Rattle.book_model.specs.Bills.{tariffs_from, tariffs_in, tariffs_through, work_rows}
pub use Rattle.book_model.specs.KnownCentres.{begun_in, is_centre, names_centre, of_centre}
pub use Rattle.book_model.specs.KnownCentres.{text_names}
pub use Rattle.book_model.specs.History.{book_after, book_of, charged_in, closes, day_of_close}
pub use Rattle.book_model.specs.History.{held_before, journal, period_after, periods, rulings}
pub use Rattle.book_model.specs.MadeByCalls.{AreMadeOf, IsAnswered, IsMadeByCalls}
pub use Rattle.book_model.specs.RecordBatches.{rulings_in, record_batches}
pub use Rattle.book_model.specs.Sound.{AreAllDatedThrough, AreAmong, AreDatedThrough, AreHeld}
pub use Rattle.book_model.specs.Sound.{IsChoiceOf, IsSound}
pub use Rattle.book_model.specs.Laws.{IsAfterLastClose}
pub use Rattle.book_model.specs.JournalLists.{ActSeen, EntrySeen, entries_listed, entry_outcome}
pub use Rattle.book_model.specs.JournalLists.{entry_seen, ruling_at}
pub use Rattle.book_model.specs.JournalLists.{ImportDone, RulingDone}
pub use Rattle.book_model.specs.ListedEntries.{ShowsActDays, ShowsEntryDays, act_listed}
pub use Rattle.book_model.specs.ListedEntries.{entry_shown}
pub use Rattle.book_model.specs.Arrivals.{arrival_at, arrival_from, arrival_outcome, arrivals}
pub use Rattle.book_model.specs.Arrivals.{came_under, names_of}
pub use Rattle.book_model.specs.Notes.{Portion, import_events, told, told_end, told_so_far}
pub use Rattle.book_model.specs.Notes.{with_import}
pub use Rattle.book_model.specs.Notes.{ended_outcome, ending_shown, place_shown, stop_shown}
pub use Rattle.book_model.specs.Notes.{note_given, note_shown, read_with, reading_shown, told_by}
pub use Rattle.book_model.specs.Answers.{Answers, IsBookCall, event_of}
pub use Rattle.book_model.specs.Faults.{ledger_number}
