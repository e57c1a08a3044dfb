-- The names that most proofs of this crate cite, passed on from one place. Declares nothing.
pub use Rattle.std.proofs.Common.{Err, IfOk, IsSome, Ok, Result, append-nil, append_assoc, ap₂, codes, count_by, find, is_none, is_some, nat_le, option_and_then, option_copied, option_map, position}
pub use Rattle.std.proofs.Common.{slice_get, slice_set, unwrap_or, vec_capacity, ◌-◌, ◌^◌}
pub use Rattle.std.proofs.Math.Bool.{and_comm, or-false, or-true, or_comm}
pub use Rattle.std.proofs.lemmas.Bool.{cases_Bool, cases_eq, cases_lt, cases_order, leb-false, not-false}
pub use Rattle.std.proofs.lemmas.List.{drop-append-le, drop-drop, drop_all, length-drop, length-reverse, map-id, map-set, reverse-append, reverse-reverse, same_from_push, set-get_or, take-append-drop}
pub use Rattle.std.proofs.lemmas.List.{take_all, take_at, take_more}
pub use Rattle.std.proofs.lemmas.List.Elements.{filter_agree}
pub use Rattle.std.proofs.lemmas.List.Sums.{fold-append, length-filter}
pub use Rattle.std.proofs.lemmas.Option.{get_or_from_slice_get, slice_get-map, slice_get_past, slice_get_within}
pub use Rattle.std.proofs.lemmas.Simd.{map-map}
pub use Rattle.std.specs.Bool.{then_some}
pub use Rattle.std.specs.List.{AllByRecursion, filter_map, position_or_len}
pub use Rattle.std.specs.Option.{option_to_list}
pub use Rattle.std.specs.Str.{bytes_eq}
pub use Rattle.circular_buffer.specs.Buffer.{Buffer, buffer}
pub use Rattle.pana_copies.specs.Places.{same_place}
pub use Rattle.pana_copies.specs.Spots.{Spot, Table, kept, place_of, placed}
pub use Rattle.pana_copies.specs.declared.place.Place.{Place}
pub use Rattle.pana_family.proofs.BySets.{same_before, same_copies, same_living}
pub use Rattle.pana_family.proofs.Keeps.{divides_is, empty_kept, seed_kept, seed_sound, undivided_deep}
pub use Rattle.pana_family.proofs.Members.{One, any_from, in_append, in_filter, of_known, one_known, same_length, set_of}
pub use Rattle.pana_family.proofs.Tables.{IsTouched, NamesOf, comes_known, know, know_two, made_known, numbers_reported, pass, passed_heir, reported_is, united_known, unless}
pub use Rattle.pana_family.proofs.Words.{AreBefore, Bool, CanReport, IfSome, In, IsKept, Known, List, None, Option, Some, StandsFor, [], ap, arith, cond, copy_rows, drop, eq-eqb, eqb-true, false}
pub use Rattle.pana_family.proofs.Words.{filter, filter-append, fold, has, inl, inr, length, length-append, length-map, list_any, lives, map, map-append, nat_lt, nat_tests, ne_eqb, not, refl, reverse}
pub use Rattle.pana_family.proofs.Words.{seed_row, set_in, slice_index_or, subst, suc, sym, take, true, zero, ℕ, ◌&&◌, ◌++◌, ◌+◌, ◌<◌, ◌==◌, ◌||◌, ◌∙◌, ◌∷◌, ◌≡◌, ◌≢◌, ◌≤◌, ◌⊎◌}
pub use Rattle.pana_family.specs.declared.report.FamilyReport.{FamilyReport}
pub use Rattle.pana_family.specs.declared.row.StampRow.{StampRow}
pub use Rattle.pana_family.specs.Rows.{AreSound, deepest, divides}
pub use Rattle.pana_family.specs.Table.{AreBelow, IsAbove, is_in, knowing, known, parcel, touch_in}
pub use Rattle.pana_family.specs.declared.board.CopyCounts.{CopyCounts}
pub use Rattle.pana_hall.specs.Accepted.{Accepts, AcceptsAll, IsAccepted}
pub use Rattle.pana_hall.specs.Board.{all_known, is_of, sets_of}
pub use Rattle.pana_hall.specs.Effective.{effective, is_of_copies, is_withdrawn, left_out, withdraws}
pub use Rattle.pana_hall.specs.Family.{begun_or_joined, entries_of, families, family_report, is_duplicate, is_family, is_register}
pub use Rattle.pana_journal.specs.Reports.{subject}
pub use Rattle.pana_hall.specs.Living.{Content, Copy, after_entry, after_report, comes, content_by, content_in, copies_of, copy_in, known_to, living, made, new_copy, said}
pub use Rattle.pana_hall.specs.Pending.{behind, is_last, last, pend, pending}
pub use Rattle.pana_hall.specs.Queries.{begun, family_row, family_rows, holding, holdings, pair_of, row_of_sets}
pub use Rattle.pana_hall.specs.Refusal.{against, against_two, brought_back, displaced, family_full, first, full, other_family, pending_with, report_refusal, same, settled_or_followed, taken}
pub use Rattle.pana_hall.specs.Refusal.{taken_from, taken_since, too_deep, unknown, unknown_family}
pub use Rattle.pana_hall.specs.Run.{Exchange, IsRun, IsRunFrom, RunsTo, journal_from}
pub use Rattle.pana_hall.specs.StampRows.{rows_after, rows_by, rows_of, stamp_rows}
pub use Rattle.pana_calls.specs.declared.board.BoardRow.{BoardRow}
pub use Rattle.pana_calls.specs.declared.call.Call.{Call}
pub use Rattle.pana_calls.specs.declared.cause.Cause.{Cause}
pub use Rattle.pana_calls.specs.declared.cause.Cause.TheVariants.{FamilyFull, NotYours, OtherFamily, OutOfMemory, PlaceTaken, SameCopy, Settled, TooDeep, UnknownCopy, UnknownEntry, UnknownFamily}
pub use Rattle.pana_calls.specs.declared.holding.Holding.{Holding}
pub use Rattle.pana_hall.specs.declared.listed_family.ListedFamily.{ListedFamily}
pub use Rattle.pana_hall.specs.declared.undo.Undo.{Undo}
pub use Rattle.pana_hall.specs.inner.Kept.{ArePlaced, AreSpots, IsReady, IsReadyAt, IsWithin, families_of, family_of, next_entry, of_each, of_pending, before_of, said_before, place_before, position_for, position_of_subject}
pub use Rattle.pana_hall.specs.inner.Kept.{undone_of}
pub use Rattle.pana_hall.specs.inner.Contents.{AreContents, all_written, content_at, entry_of, first_said, said_in, say, second_said}
pub use Rattle.pana_hall.specs.inner.Listed.{all_listed, listed}
pub use Rattle.pana_hall.specs.inner.Next.{AreSayings, IsStep, IsStepOf, Takes}
pub use Rattle.pana_hall.specs.inner.Rows.{holding_in, placed_row}
pub use Rattle.pana_hall.specs.inner.Spots.{CanPlace, CanUndo, IsFree, IsFreeFor, IsThere, mover, other_there, put, spot_after, spot_in, spot_of, spot_to, undone_spot}
pub use Rattle.pana_hall.specs.inner.Undo.{CanGoBack, Earlier, IsPreparedIn, KeptRows, RoomyFamily, Undone, confirmed, earlier, earlier_of, ends_in, history, kept_rows, last_before, last_place, later_than, new_kept, reported_kept, undone}
pub use Rattle.pana_hall.specs.inner.Undo.{withdrawn}
pub use Rattle.pana_hall.specs.laws.Layers.{AddsLayer, AreApart, AreMerged, AreRising, IsOrderly, duplicates_in, family_of_next}
pub use Rattle.pana_hall.specs.laws.Sets.{knowns_of, reported, reported_by, sets_at}
pub use Rattle.pana_hall.specs.laws.Tables.{layer, table}
pub use Rattle.pana_journal.specs.Entries.{IsNumbered, entry_at, page}
pub use Rattle.pana_journal.specs.declared.entry.Entry.{Entry}
pub use Rattle.pana_journal.specs.declared.report.Report.{Report}
pub use Rattle.pana_journal.specs.declared.report.Report.TheVariants.{Confirm, Duplicate, Edit, Merge, Note, Reconcile, Register, Relocate, Remove, Withdraw}
