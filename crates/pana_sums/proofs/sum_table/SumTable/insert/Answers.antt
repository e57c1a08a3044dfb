use Rattle.std.proofs.Common.{◌≡◌, ◌∙◌, ◌+◌, true, Bool, cond, ◌&&◌, ◌||◌, nat_lt, List, Some, is_some, sym, ap, subst, rules, arith, length}
use Rattle.std.specs.List.{AllByRecursion}
use Rattle.indexmap.specs.IndexMap.{insert_entry}
use Rattle.pana_sums.specs.Table.{Row, same_signature, sum_of, inserted, IsRow}
use Rattle.pana_sums.proofs.Inserted.{rows_inserted, few_after, may_by_key, may_by_room, and_may}
use Rattle.pana_sums.proofs.sum_table.SumTable.insert.Goals as goal
use Rattle.pana_sums.proofs.sum_table.SumTable.insert.Goals.{else-len-ge-MOST_SUMS-via-then-len-ge-MOST_SUMS+else-not-contains_key, else-len-ge-MOST_SUMS-via-else-len-ge-MOST_SUMS}

-- the sum is one that is kept
may : (c : goal.In_ok-insert) → (is_some (sum_of c.self.inside.sums.entries c.args.signature) || nat_lt (length c.self.inside.sums.entries) 4000000) ≡ true
may c =
    elim c.else-len-ge-MOST_SUMS.branch [
      | else-len-ge-MOST_SUMS-via-then-len-ge-MOST_SUMS+else-not-contains_key w ↦ may_by_key _ (length c.self.inside.sums.entries) (sym w.contains_key.ensures ∙ w.if-not-contains_key.false)
      | else-len-ge-MOST_SUMS-via-else-len-ge-MOST_SUMS w ↦ may_by_room _ (length c.self.inside.sums.entries) (omega arith)
    ]

pub invariant_of-self-2 : goal.invariant_of-self-2
invariant_of-self-2 c =
    let fits : IsRow (c.args.signature, c.args.digest) = record {
      device = omega arith;
      inode = omega arith;
      size = omega arith;
      modified = record { seconds = search rules; nanoseconds = omega arith };
      changed = record { seconds = search rules; nanoseconds = omega arith };
      sum = omega arith;
    } in
    record {
      few = few_after _ (length c.self.inside.sums.entries) (length c.insert.new.self.entries) (may c) c.self.invariant.few
          (c.in_ok-insert.ensures.len ∙ ap (λ o. length c.self.inside.sums.entries + cond (is_some o) 0 1) c.in_ok-insert.ensures.old);
      once = c.in_ok-insert.ensures.unique;
      rows = subst (AllByRecursion IsRow) (sym c.in_ok-insert.ensures.entries) (rows_inserted c.self.inside.sums.entries c.args.signature c.args.digest fits c.self.invariant.rows);
    }

pub returns-clause-ok : goal.returns-clause-ok
returns-clause-ok c =
    c.in_ok-insert.ensures.entries
    ∙ sym (ap (λ (b : Bool). cond b (insert_entry same_signature c.self.inside.sums.entries c.args.signature c.args.digest) c.self.inside.sums.entries) (may c))
    ∙ ap (λ (table : List Row). inserted table c.args.signature c.args.digest) c.self.view_is

pub returns-clause-sums : goal.returns-clause-sums
returns-clause-sums c = λ other.
    let is = and_may (same_signature c.args.signature other) _ (may c) in
    c.in_ok-insert.ensures.updates.0 other
    ∙ ap (λ (b : Bool). cond b (Some c.args.digest) (sum_of c.self.inside.sums.entries other)) is
    ∙ ap (λ (table : List Row). cond (same_signature c.args.signature other && (is_some (sum_of table c.args.signature) || nat_lt (length table) 4000000)) (Some c.args.digest) (sum_of table other)) c.self.view_is
