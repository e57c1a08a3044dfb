use Rattle.pana_hall.proofs.Words.{arith, ◌≡◌, ◌+◌, ◌<◌, ◌≢◌, [], ◌∷◌, length-append, length, Some, None, sym, ap, ◌∙◌, subst, append-nil, living}
use Rattle.pana_hall.proofs.Runs.{rising}
use Rattle.pana_hall.proofs.Related.{rows_to, rows_all, rows_first, rows_none, rows_push}
use Rattle.pana_hall.proofs.state.State.status_rows.Goals as goal
use Rattle.pana_hall.proofs.state.State.status_rows.Goals.{in-Some+in_ok-push+else-len-eq-MOST_ROWS, in_default}

pub loop-earlier-init : goal.loop-earlier-init
loop-earlier-init c = record {
  rows_are = c.new-rows.ensures.items ∙ sym (rows_none (living c.args.self.now.journal.entries) c.args.device.now c.args.from _ (rising 8 c.args.self.now.journal.entries c.requires.accepted).0 c.saturating_sub-earlier.ensures);
  few = let none : length c.new-rows.result.items ≡ 0 = ap length c.new-rows.ensures.items in omega arith;
}

pub returns-then-len-eq-MOST_ROWS : goal.returns-then-len-eq-MOST_ROWS
returns-then-len-eq-MOST_ROWS c =
    let journal = c.args.self.now.journal.entries in
    let rises = (rising 8 journal c.requires.accepted).0 in
    let rows : c.push.new.self.items ≡ rows_to (living journal) c.args.device.now c.args.from (c.loop-earlier.earlier + 1) =
    c.in_ok-push.ensures.items ∙ rows_push (living journal) c.args.device.now c.args.from c.loop-earlier.earlier c.loop-earlier.rows.items (Some c.in-Some.row) rises (omega (arith, c.saturating_sub-earlier.ensures, c.loop-earlier.auto.earlier)) c.loop-earlier.invariant.rows_are (sym c.in-Some.is ∙ c.in_ok-row.ensures) in
    rows_first (living journal) c.args.device.now c.args.from (c.loop-earlier.earlier + 1) c.push.new.self.items rises rows (omega (arith, c.len.ensures, c.if-len-eq-MOST_ROWS.true, c.push.new.self.ok))

pub loop-earlier-preserved : goal.loop-earlier-preserved
loop-earlier-preserved c =
    let journal = c.args.self.now.journal.entries in
    let rises = (rising 8 journal c.requires.accepted).0 in
    elim c.match-branch-2.branch [
      | in-Some+in_ok-push+else-len-eq-MOST_ROWS w ↦ record {
        rows_are = ap (λ r. r.items) w.rows-is ∙ w.in_ok-push.ensures.items
            ∙ rows_push (living journal) c.args.device.now c.args.from c.loop-earlier.earlier c.loop-earlier.rows.items (Some w.in-Some.row) rises (omega (arith, c.saturating_sub-earlier.ensures, c.loop-earlier.auto.earlier)) c.loop-earlier.invariant.rows_are (sym w.in-Some.is ∙ c.in_ok-row.ensures);
        few = let full : length c.match-branch-2.rows.items ≢ 100 = λ e. w.if-len-eq-MOST_ROWS.false (omega (arith, w.len.ensures, w.push.new.self.ok, ap (λ r. length r.items) w.rows-is, e)) in
            let more : length w.push.new.self.items ≡ length c.loop-earlier.rows.items + 1 = ap length w.in_ok-push.ensures.items ∙ length-append c.loop-earlier.rows.items (w.in-Some.row ∷ []) in omega (arith, full, more, c.loop-earlier.invariant.few, ap (λ r. length r.items) w.rows-is);
      }
      | in_default w ↦ record {
        rows_are = ap (λ r. r.items) w.rows-is ∙ sym (append-nil c.loop-earlier.rows.items)
            ∙ rows_push (living journal) c.args.device.now c.args.from c.loop-earlier.earlier c.loop-earlier.rows.items None rises (omega (arith, c.saturating_sub-earlier.ensures, c.loop-earlier.auto.earlier)) c.loop-earlier.invariant.rows_are (sym w.in_default.is ∙ c.in_ok-row.ensures);
        few = subst (λ r. length r.items < 100) (sym w.rows-is) c.loop-earlier.invariant.few;
      }
    ]

pub returns : goal.returns
returns c =
    let journal = c.args.self.now.journal.entries in
    rows_all (living journal) c.args.device.now c.args.from (length journal) c.loop-earlier.earlier c.loop-earlier.rows.items (rising 8 journal c.requires.accepted).1 (omega (arith, c.length-earlier-end.ensures.length, c.loop-earlier-test.false)) c.loop-earlier.invariant.rows_are c.loop-earlier.invariant.few
