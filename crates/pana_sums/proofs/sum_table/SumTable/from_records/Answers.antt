use Rattle.std.proofs.Common.{◌≡◌, ◌∙◌, ◌*◌, ◌/◌, ◌++◌, ◌∷◌, [], length, map, take, get_or, Some, is_some, sym, ap, subst, arith, rules, inl, inr}
use Rattle.std.specs.List.{flat_map, AllByRecursion}
use Rattle.std.specs.Map.{lookup}
use Rattle.std.specs.Simd.{first_chunks}
use Rattle.std.proofs.lemmas.Bool.{eqb-false, eqb-true, both_ways}
use Rattle.std.proofs.lemmas.List.{take_all, length-map}
use Rattle.indexmap.proofs.CallerLemmas.{insert_entry-new}
use Rattle.pana_sums.specs.Table.{Row, same_signature, IsRow, IsTable}
use Rattle.pana_sums.specs.File.{record_of}
use Rattle.pana_sums.specs.inner.Records.{row_in}
use Rattle.pana_sums.proofs.Tables.{long_as, read_again, rows_back, rows_fit, none_from, read_more, not_read_before}
use Rattle.pana_sums.proofs.sum_table.SumTable.from_records.Goals as goal

pub returns-then-not-is_empty-clause-all : goal.returns-then-not-is_empty-clause-all
returns-then-not-is_empty-clause-all c = λ table is h.
    let long = long_as c.args.records.now table is.rows h in
    absurd (elim c.then-not-is_empty.either [
      | inl rest ↦ eqb-false (length c.as_chunks.result.1.now) 0 (sym c.is_empty.ensures ∙ rest) (omega (arith, long, c.as_chunks.ensures.back_len))
      | inr many ↦ omega (arith, long, many.1, c.as_chunks.ensures.front_len, is.few)
    ])

pub loop-record-init : goal.loop-record-init
loop-record-init c = record { rows = search rules; once = c.in_ok-sums.ensures.unique }

pub returns-then-is_some-clause-all : goal.returns-then-is_some-clause-all
returns-then-is_some-clause-all c = λ table is h.
    let chunks = c.as_chunks.result.0.now in
    let none = eqb-true (length c.as_chunks.result.1.now) 0 (sym c.is_empty.ensures ∙ c.if-not-is_empty.false) in
    let whole : length c.args.records.now ≡ length c.args.records.now / 80 * 80 = omega (arith, none, c.as_chunks.ensures.back_len) in
    let are : map row_in chunks ≡ table = ap (map row_in) c.as_chunks.ensures.front ∙ read_again c.args.records.now table is.rows h (length c.args.records.now / 80) whole in
    let fresh = not_read_before chunks table are is.once c.loop-record.record-index c.loop-record-test.true in
    let found = c.in_ok-insert.ensures.old
    ∙ ap (λ (row : Row). lookup (same_signature row.0) c.loop-record.sums.entries) c.row_in.ensures
    ∙ ap (lookup (same_signature (row_in (get_or chunks c.loop-record.record-index [])).0)) c.loop-record.invariant.rows ∙ fresh in
    absurd (both_ways (is_some c.in_ok-insert.field-0) (ap is_some found) (sym c.is_some.ensures ∙ c.if-is_some.true))

pub loop-record-preserved : goal.loop-record-preserved
loop-record-preserved c =
    let row = c.row_in.result in
    let absent = sym c.in_ok-insert.ensures.old ∙ none_from c.in_ok-insert.field-0 (sym c.is_some.ensures ∙ c.if-is_some.false) in
    let more = c.in_ok-insert.ensures.entries ∙ insert_entry-new same_signature c.loop-record.sums row.0 row.1 absent
    ∙ ap (λ (r : Row). c.loop-record.sums.entries ++ r ∷ []) c.row_in.ensures in
    record {
      rows = read_more c.as_chunks.result.0.now c.loop-record.record-index c.loop-record.sums.entries c.insert.new.self.entries c.loop-record-test.true c.loop-record.invariant.rows more;
      once = c.in_ok-insert.ensures.unique;
    }

-- how long the records are
whole : (c : goal.After-loop-record) → length c.args.records.now ≡ length c.args.records.now / 80 * 80
whole c =
    let none = eqb-true (length c.as_chunks.result.1.now) 0 (sym c.is_empty.ensures ∙ c.if-not-is_empty.false) in
    omega (arith, none, c.as_chunks.ensures.back_len)

-- all rows were read
entries : (c : goal.After-loop-record) → c.loop-record.sums.entries ≡ map row_in (first_chunks 80 (length c.args.records.now / 80) c.args.records.now)
entries c =
    c.loop-record.invariant.rows
    ∙ ap (map row_in) (take_all c.loop-record.record-index c.as_chunks.result.0.now c.loop-record-test.false ∙ c.as_chunks.ensures.front)

-- they are a table's
are_table : (c : goal.After-loop-record) → IsTable c.loop-record.sums.entries
are_table c =
    let n = length c.args.records.now / 80 in
    record {
      few = omega (arith, ap length (c.loop-record.invariant.rows), ap length (take_all c.loop-record.record-index c.as_chunks.result.0.now c.loop-record-test.false), length-map (take c.loop-record.record-index c.as_chunks.result.0.now) row_in);
      once = c.loop-record.invariant.once;
      rows = subst (AllByRecursion IsRow) (sym (entries c)) (rows_fit n c.args.records.now (whole c) (λ i. omega (arith, c.type_inv.records i)));
    }

pub invariant_of-result : goal.invariant_of-result
invariant_of-result c = are_table c

pub returns-clause-table : goal.returns-clause-table
returns-clause-table c = are_table c

pub returns-clause-some : goal.returns-clause-some
returns-clause-some c =
    ap (flat_map record_of) (entries c) ∙ rows_back (length c.args.records.now / 80) c.args.records.now (whole c) (λ i. omega (arith, c.type_inv.records i))

pub returns-clause-all : goal.returns-clause-all
returns-clause-all c = λ table is h. ap Some (entries c ∙ read_again c.args.records.now table is.rows h (length c.args.records.now / 80) (whole c))
