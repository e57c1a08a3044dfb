use Rattle.std.proofs.Common.{◌≡◌, ◌∙◌, ℕ, ◌==◌, false, List, [], length, sym, ap, subst, rules}
use Rattle.pana_log.specs.Lines.{recovered, text_of}
use Rattle.pana_log.proofs.Begun.{no_lines}
use Rattle.pana_seal.specs.Seal.{Covers}
use Rattle.pana_store.specs.Opening.{with_header}
use Rattle.pana_store.proofs.Begun.{then_begun, has_lines}
use Rattle.pana_store.proofs.opening.make_ready.Goals as goal

pub returns-in_err-begin-clause-any_moment : goal.returns-in_err-begin-clause-any_moment
returns-in_err-begin-clause-any_moment g c known =
    let old = g.D.Device.seen c.args.log.now.device in
    let mid = g.D.Device.seen c.repair.new.self.device in
    let settled = c.in_ok-repair.ensures.settled known in
    let short : length (text_of (recovered mid)) ≡ 0 = search (rules, settled.is_end) in
    let none : recovered old ≡ [] = sym (c.in_ok-repair.ensures.same known) ∙ no_lines (recovered mid) short in
    then_begun g.D.Device.moment g.D.Device.left_since c.args.log.now.device c.repair.new.self.device c.begin.new.self.device old none (c.repair.ensures.any_moment known) (c.begin.ensures.any_moment known)

pub returns-in_ok-begin-clause-lines : goal.returns-in_ok-begin-clause-lines
returns-in_ok-begin-clause-lines g c known =
    let mid = g.D.Device.seen c.repair.new.self.device in
    let settled = c.in_ok-repair.ensures.settled known in
    let short : length (text_of (recovered mid)) ≡ 0 = search (rules, settled.is_end) in
    c.in_ok-begin.ensures.begun known ∙ ap with_header (sym (sym (c.in_ok-repair.ensures.same known) ∙ no_lines (recovered mid) short))

pub returns-else-log-eq0-clause-lines : goal.returns-else-log-eq0-clause-lines
returns-else-log-eq0-clause-lines g c known =
    let old = g.D.Device.seen c.args.log.now.device in
    let mid = g.D.Device.seen c.repair.new.self.device in
    let settled = c.in_ok-repair.ensures.settled known in
    let some : (length (text_of (recovered mid)) == 0) ≡ false = search (rules, settled.is_end) in
    c.in_ok-repair.ensures.same known ∙ sym (has_lines (recovered old) (subst (λ (ls : List (List ℕ)). (length (text_of ls) == 0) ≡ false) (c.in_ok-repair.ensures.same known) some))

pub returns-in_ok-begin-clause-covers : goal.returns-in_ok-begin-clause-covers
returns-in_ok-begin-clause-covers g c known =
    let old = g.D.Device.seen c.args.log.now.device in
    let mid = g.D.Device.seen c.repair.new.self.device in
    let settled = c.in_ok-repair.ensures.settled known in
    let short : length (text_of (recovered mid)) ≡ 0 = search (rules, settled.is_end) in
    let none : recovered old ≡ [] = sym (c.in_ok-repair.ensures.same known) ∙ no_lines (recovered mid) short in
    let before : Covers c.args.sealer.now [] = subst (λ (ls : List (List ℕ)). Covers c.args.sealer.now (text_of ls)) none (c.requires.covers known) in
    subst (λ (ls : List (List ℕ)). Covers c.push.new.self (text_of ls)) (sym (c.in_ok-begin.ensures.begun known)) (c.push.ensures [] before)

pub returns-in_ok-begin-clause-any_moment : goal.returns-in_ok-begin-clause-any_moment
returns-in_ok-begin-clause-any_moment g c known =
    let old = g.D.Device.seen c.args.log.now.device in
    let mid = g.D.Device.seen c.repair.new.self.device in
    let settled = c.in_ok-repair.ensures.settled known in
    let short : length (text_of (recovered mid)) ≡ 0 = search (rules, settled.is_end) in
    let none : recovered old ≡ [] = sym (c.in_ok-repair.ensures.same known) ∙ no_lines (recovered mid) short in
    then_begun g.D.Device.moment g.D.Device.left_since c.args.log.now.device c.repair.new.self.device c.begin.new.self.device old none (c.repair.ensures.any_moment known) (c.begin.ensures.any_moment known)
