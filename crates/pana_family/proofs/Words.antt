-- The names that most proofs of this crate cite, passed on from one place. Declares nothing.
pub use Rattle.std.proofs.Common.{Bool, Contains, IfNone, IfSome, List, None, Option, Some, [], ap, ap₂, arith, cond, count_by, drop, false, filter, filter_map, fold, get_or, inl, inr, length, map}
pub use Rattle.std.proofs.Common.{max, nat_le, nat_lt, not, position, refl, reverse, set, slice_index_or, subst, suc, sym, take, true, vec_capacity, vec_len, zero, ℕ, ◌&&◌, ◌++◌, ◌+◌, ◌<◌, ◌==◌, ◌^◌}
pub use Rattle.std.proofs.Common.{◌||◌, ◌↔◌, ◌∙◌, ◌∷◌, ◌≡◌, ◌≢◌, ◌≤◌, ◌⊎◌}
pub use Rattle.std.proofs.lemmas.Bool.{and_parts, both_ways, cases_Bool, cases_lt, cases_order, eq-eqb, eqb-false, eqb-true, le-ltb, leb-false, ltb-false, ltb-true, ne_eqb, not-true, not_from_false}
pub use Rattle.std.proofs.lemmas.Bool.{or_cases, or_from, or_parts, or_right}
pub use Rattle.std.proofs.lemmas.Bool.Decides.{nat_tests}
pub use Rattle.std.proofs.lemmas.List.{append-nil, append_assoc, at_drop_more, get_or_at, get_or_default, length-append, length-map, length-take-le, map-append, reverse-append, set-set, set_at}
pub use Rattle.std.proofs.lemmas.List.{take_all, take_more, take_more_set}
pub use Rattle.std.proofs.lemmas.List.Elements.{Contains-append_cases, Contains-append_left, Contains-append_right, filter-append, filter_map-append, filter_more}
pub use Rattle.std.specs.List.{AllByRecursion, AllZip, cons_option, insert, list_all, list_any, position_or_len, remove}
pub use Rattle.std.specs.Option.{option_map, option_to_list}
pub use Rattle.pana_event.proofs.Orders.{below-is-leq, leq-is-below}
pub use Rattle.pana_event.proofs.Sound.{IsSound-joined, greatest-joined, same_below}
pub use Rattle.pana_event.specs.Event.{Event, IsSound, fork, greatest, leaf, level}
pub use Rattle.pana_event.specs.Join.{IsJoin, joined}
pub use Rattle.pana_event.specs.Order.{IsBelow, is_leq}
pub use Rattle.pana_event.specs.Relation.{IsRelation, reverse_of, tested_relation}
pub use Rattle.pana_event.specs.declared.rel.Rel.{Rel}
pub use Rattle.pana_event.specs.declared.rel.Rel.TheVariants.{Conflict, Equal, Newer, Older}
pub use Rattle.pana_family.specs.After.{bequeathed, comes, ends, first_part, is_bound, joined_stamp, lost, made, parcel_row, reported_rows, restamped, same_event, second_part, settled, shared}
pub use Rattle.pana_family.specs.After.{updated, updated_stamp}
pub use Rattle.pana_family.specs.Board.{known_relation, row_of}
pub use Rattle.pana_family.specs.Change.{RowList, after, at_number, changed, exchanged, exchanged_all, formers, inverse, is_put, mapped, number_of, numbers_in, placed, placed_all, puts, with_event}
pub use Rattle.pana_family.specs.Change.{with_touch}
pub use Rattle.pana_family.specs.Holders.{is_copy, is_held, leave, passed}
pub use Rattle.pana_family.specs.Kept.{IsKept}
pub use Rattle.pana_family.specs.Paired.{ArePaired}
pub use Rattle.pana_family.specs.Relation.{relation}
pub use Rattle.pana_family.specs.Report.{Asks, CanReport, IsMade, IsReady, IsReported, deeper, loses, reported}
pub use Rattle.pana_family.specs.Rows.{AreBefore, AreSound, IsRising, OwnSame, copy_rows, deepest, divides, dropped, held_rows, is_below, lives, owned, put_back, renewed, row, row_at, row_in}
pub use Rattle.pana_family.specs.Rows.{seed_row, stamp, with_ids}
pub use Rattle.pana_family.specs.Stamps.{AreStamps, row_text, text_of}
pub use Rattle.pana_family.specs.Stands.{AreSame, StandsFor, top}
pub use Rattle.pana_family.specs.Table.{AreBelow, AreHeld, In, IsAbove, Known, copies_of, held_by, is_in, knowing, known, parcel, registered, set_in, touch_in}
pub use Rattle.pana_family.specs.Updates.{IsSubset, has, is_within, union}
pub use Rattle.pana_family.specs.View.{NamesLiving, fault_of}
pub use Rattle.pana_family.specs.declared.change.Change.{Change}
pub use Rattle.pana_family.specs.declared.change.Change.TheVariants.{Rows}
pub use Rattle.pana_family.specs.declared.change.Exchange.{Exchange}
pub use Rattle.pana_family.specs.declared.change.Exchange.TheVariants.{Put, Take}
pub use Rattle.pana_family.specs.declared.report.FamilyReport.{FamilyReport}
pub use Rattle.pana_family.specs.declared.report.FamilyReport.TheVariants.{Duplicate, Edit, Merge, Reconcile, Remove, Touch}
pub use Rattle.pana_family.specs.declared.row.StampRow.{StampRow}
pub use Rattle.pana_family.specs.declared.settling.Plan.{Plan}
pub use Rattle.pana_family.specs.inner.Comparing.{AreCompared, HasCopies, IsFollowed, is_other, most, relations, row_relation}
pub use Rattle.pana_family.specs.inner.Making.{AreApart, CanGather, CanPlan, IsRowOf, IsUpdate, passed_row, planned}
pub use Rattle.pana_family.specs.laws.Relations.{RelatesSets}
pub use Rattle.pana_id.proofs.Parts.{depth-parts-le, depth-single, parted-parts, valid-parts}
pub use Rattle.pana_id.proofs.Sums.{depth-sum, is_zero-sum, summed-sum, valid-sum}
pub use Rattle.pana_id.specs.Id.{AtPoints, Id, IsParted, IsSum, IsValid, SharesNoPoint, depth, is_single, is_zero, one_id, parts, sum_of}
pub use Rattle.pana_rel.proofs.Boards.{any_at, contains_filter, contains_more, filter_contains, found}
pub use Rattle.pana_rel.specs.Board.{counts_of, is_split, newest_of}
pub use Rattle.pana_rel.specs.Pairs.{Holds, Table, edited_rel, edited_row, own_number, rel_at, rel_of, with_copy, with_row, without}
pub use Rattle.pana_stamp.specs.Raised.{IsRaised}
pub use Rattle.pana_stamp.specs.declared.stamp.Stamp.{Stamp}
