-- A line that acknowledges an entry is the answer to a report or a sighting that was done.
use Rattle.std.specs.Prelude.{◌≡◌, ◌≢◌, ℕ, ◌+◌, ◌<◌, ◌^◌, ◌==◌, Bool, true, false, nat_le, List, [], ◌∷◌, ◌++◌, length, drop, get_or, Option, Some, None, if◌then◌else◌}
use Rattle.std.specs.Bool.{then_some}
use Rattle.std.specs.Fmt.{decimal}
use Rattle.std.specs.Option.{option_or}
use Rattle.std.proofs.Common.{inl, inr, refl, sym, ap, subst, ◌∙◌, ⊎_elim, arith, length-append}
use Rattle.std.proofs.lemmas.Bool.{leb-false, eqb-false}
use Rattle.std.proofs.lemmas.List.{append_cancel_right}
use Rattle.json.specs.Print.{escape_byte}
use Rattle.pana_journal.specs.declared.entry.Entry.{Entry}
use Rattle.pana_journal.specs.declared.report.Report.{Report}
use Rattle.pana_journal.specs.declared.report_kind.ReportKind.{ReportKind}
use Rattle.pana_journal.specs.declared.report_kind.ReportKind.TheVariants as kinds
use Rattle.pana_calls.specs.declared.call.Call.{Call}
use Rattle.pana_calls.specs.declared.call.Call.TheVariants as calls
use Rattle.pana_calls.specs.declared.call.Query.{Query}
use Rattle.pana_calls.specs.declared.call.Query.TheVariants as queries
use Rattle.pana_calls.specs.declared.call.Sighting.{Sighting}
use Rattle.pana_calls.specs.declared.cause.Cause.{Cause}
use Rattle.pana_calls.specs.declared.cause.Cause.TheVariants.{JournalFull}
use Rattle.pana_hall.specs.declared.decision.Decision.{Decision}
use Rattle.pana_hall.specs.declared.decision.Decision.TheVariants as decisions
use Rattle.pana_calls.specs.declared.reply.Reply.{Reply}
use Rattle.pana_calls.specs.declared.reply.Reply.TheVariants as replies
use Rattle.pana_calls.specs.Cause.{code_of, cause_name, cause_copy}
use Rattle.pana_hall.specs.Finding.{decision}
use Rattle.pana_hall.specs.Living.{living}
use Rattle.pana_hall.specs.Permit.{Answers, Grants, PermitsBy, Permits, journal_after, reply_of, after_decision}
use Rattle.pana_hall.specs.Refusal.{first, refusal, report_refusal, decision_refusal, with_report, against}
use Rattle.pana_hall.specs.Step.{Steps}
use Rattle.serde_json.specs.Written.{compact_text}
use Rattle.pana_wire.specs.declared.fault.WireFault.{WireFault}
use Rattle.pana_wire.specs.declared.fault.WireFault.TheVariants.{TooLong, NotUtf8, NotJson, NotObject, BadField, OutOfMemory}
use Rattle.pana_calls.specs.declared.answer.Answer.{Answer}
use Rattle.pana_calls.specs.declared.answer.Answer.TheVariants.{Given, NotKept}
use Rattle.pana_wire.specs.Answer.{answer_text}
use Rattle.pana_wire.specs.Fault.{fault_text}
use Rattle.pana_wire.specs.Reply.{refusal_data, refused_data, reply_data, reply_text}
use Rattle.pana_wire.specs.Report.{kind_word}
use Rattle.pana_wire.specs.Word.{word_name}
use Rattle.pana_store.specs.Acknowledged.{IsDone, done_line, did_line, AcknowledgesEntry}

-- another byte at an index
other_byte : (text line : List ℕ) (i a b : ℕ) → b ≢ a → get_or line i 0 ≡ a → get_or text i 0 ≡ b → text ≡ line → ⊥
other_byte text line i a b other at_line at is = other (sym at ∙ ap (λ (l : List ℕ). get_or l i 0) is ∙ at_line)

-- another third byte than that of a line that acknowledges an entry
other_third : (text : List ℕ) (n b : ℕ) → (b == 100) ≡ false → get_or text 2 0 ≡ b → AcknowledgesEntry n text → ⊥
other_third text n b other at (inl is) = other_byte text (done_line n) 2 100 b (eqb-false b 100 other) refl at is
other_third text n b other at (inr (kind, is)) = other_byte text (did_line kind n) 2 100 b (eqb-false b 100 other) refl at is

pub fault_is_other : (fault : WireFault) (n : ℕ) → AcknowledgesEntry n (fault_text fault) → ⊥
fault_is_other TooLong n is = other_third _ n 102 refl refl is
fault_is_other NotUtf8 n is = other_third _ n 102 refl refl is
fault_is_other NotJson n is = other_third _ n 102 refl refl is
fault_is_other NotObject n is = other_third _ n 102 refl refl is
fault_is_other (BadField field) n is = other_third _ n 102 refl refl is
fault_is_other OutOfMemory n is = other_third _ n 102 refl refl is

refusal_is_other : (code : ℕ) (copy : Option ℕ) (name : List ℕ) (n : ℕ) → AcknowledgesEntry n (compact_text (refusal_data code copy name)) → ⊥
unfolding escape_byte
refusal_is_other code None name n is = other_third _ n 99 refl refl is
refusal_is_other code (Some copy) name n is = other_third _ n 99 refl refl is

-- the texts of the replies that acknowledge an entry
done_text : (m : ℕ) → reply_text (replies.Done m) ≡ done_line m
unfolding reply_text reply_data escape_byte
done_text m = refl

did_text : (kind : ReportKind) (m : ℕ) → reply_text (replies.Did kind m) ≡ did_line kind m
unfolding reply_text reply_data escape_byte
did_text kinds.Register m = refl
did_text kinds.Duplicate m = refl
did_text kinds.Edit m = refl
did_text kinds.Reconcile m = refl
did_text kinds.Merge m = refl
did_text kinds.Relocate m = refl
did_text kinds.Remove m = refl
did_text kinds.Note m = refl
did_text kinds.Confirm m = refl
did_text kinds.Withdraw m = refl

-- what stands behind the first quotation mark
behind_mark : List ℕ → List ℕ
behind_mark [] = []
behind_mark (b ∷ bs) = if b == 34 then bs else behind_mark bs

behind_word : (kind : ReportKind) (rest : List ℕ) → behind_mark (word_name (kind_word kind) ++ 34 ∷ rest) ≡ rest
unfolding behind_mark
behind_word kinds.Register rest = refl
behind_word kinds.Duplicate rest = refl
behind_word kinds.Edit rest = refl
behind_word kinds.Reconcile rest = refl
behind_word kinds.Merge rest = refl
behind_word kinds.Relocate rest = refl
behind_word kinds.Remove rest = refl
behind_word kinds.Note rest = refl
behind_word kinds.Confirm rest = refl
behind_word kinds.Withdraw rest = refl

-- lines that acknowledge entries have the digits of one number
same_done : (m n : ℕ) → done_line m ≡ done_line n → decimal m ≡ decimal n
same_done m n is = append_cancel_right (decimal m) (decimal n) (125 ∷ []) (ap (drop 8) is)

-- what stands behind the word
behind_did : (kind : ReportKind) (n : ℕ) → drop 8 (behind_mark (drop 8 (did_line kind n))) ≡ decimal n ++ 125 ∷ []
behind_did kind n = ap (drop 8) (behind_word kind (44 ∷ 34 ∷ 100 ∷ 111 ∷ 110 ∷ 101 ∷ 34 ∷ 58 ∷ (decimal n ++ 125 ∷ [])))

same_did : (kind other : ReportKind) (m n : ℕ) → did_line kind m ≡ did_line other n → decimal m ≡ decimal n
same_did kind other m n is =
    append_cancel_right (decimal m) (decimal n) (125 ∷ [])
    (sym (behind_did kind m) ∙ ap (λ (l : List ℕ). drop 8 (behind_mark (drop 8 l))) is ∙ behind_did other n)

done_acknowledges : (m n : ℕ) → AcknowledgesEntry n (done_line m) → decimal m ≡ decimal n
done_acknowledges m n (inl is) = same_done m n is
done_acknowledges m n (inr (kind, is)) = absurd (other_byte (done_line m) (did_line kind n) 3 105 111 (omega arith) refl refl is)

did_acknowledges : (kind : ReportKind) (m n : ℕ) → AcknowledgesEntry n (did_line kind m) → decimal m ≡ decimal n
did_acknowledges kind m n (inl is) = absurd (other_byte (did_line kind m) (done_line n) 3 111 105 (omega arith) refl refl is)
did_acknowledges kind m n (inr (other, is)) = same_did kind other m n is

reply_is_done : (reply : Reply) (n : ℕ) → AcknowledgesEntry n (reply_text reply) → (m : ℕ) × IsDone m reply × (decimal m ≡ decimal n)
unfolding reply_text reply_data refused_data escape_byte
reply_is_done (replies.Done m) n is = (m, refl, done_acknowledges m n (subst (AcknowledgesEntry n) (done_text m) is))
reply_is_done (replies.Did kind m) n is = (m, refl, did_acknowledges kind m n (subst (AcknowledgesEntry n) (did_text kind m) is))
reply_is_done (replies.Known None) n is = absurd (other_third _ n 107 refl refl is)
reply_is_done (replies.Known (Some copy)) n is = absurd (other_third _ n 107 refl refl is)
reply_is_done (replies.Families rows) n is = absurd (other_third _ n 102 refl refl is)
reply_is_done (replies.Board board) n is = absurd (other_third _ n 98 refl refl is)
reply_is_done (replies.Stamps stamps) n is = absurd (other_third _ n 115 refl refl is)
reply_is_done (replies.Pair rel) n is = absurd (other_third _ n 112 refl refl is)
reply_is_done (replies.Holdings holdings) n is = absurd (other_third _ n 104 refl refl is)
reply_is_done (replies.At None) n is = absurd (other_third _ n 97 refl refl is)
reply_is_done (replies.At (Some standing)) n is = absurd (other_third _ n 97 refl refl is)
reply_is_done (replies.Status rows) n is = absurd (other_third _ n 115 refl refl is)
reply_is_done (replies.Journal entries) n is = absurd (other_third _ n 101 refl refl is)
reply_is_done (replies.Counts counts) n is = absurd (other_third _ n 99 refl refl is)
reply_is_done (replies.Refused cause) n is = absurd (refusal_is_other (code_of cause) (cause_copy cause) (cause_name cause) n is)

-- the answer is the reply to a call that was done
pub answer_is_done : (answer : Answer) (n : ℕ) → AcknowledgesEntry n (answer_text answer) → (m : ℕ) × (reply : Reply) × (answer ≡ Given reply) × IsDone m reply × (decimal m ≡ decimal n)
answer_is_done (Given reply) n is = let done = reply_is_done reply n is in (done.0, reply, refl, done.1, done.2)
answer_is_done NotKept n is = absurd (other_third _ n 99 refl refl is)

-- a journal that takes a report isn't full
not_full : (full : Bool) (causes : List (Option Cause)) → first (then_some full JournalFull ∷ causes) ≡ None → full ≡ false
not_full true causes none = absurd (cc)
not_full false causes none = refl

report_room : (journal : List Entry) (by : List ℕ) (report : Report) → report_refusal 8 journal (living journal) by report ≡ None → nat_le 1000000 (length journal) ≡ false
report_room journal by report none = not_full (nat_le 1000000 (length journal)) (against 8 journal (living journal) by report) none

neither : (one other : Option Cause) → option_or one other ≡ None → one ≡ None
neither None other none = refl
neither (Some cause) other none = absurd (cc)

-- nor is one on which something is done of a sighting
decision_room : (journal : List Entry) (by : List ℕ) (decision : Decision) (kind : ReportKind) (m : ℕ) → decision_refusal 8 journal by decision ≡ None → replies.Did kind m ≡ reply_of journal decision → nat_le 1000000 (length journal) ≡ false
decision_room journal by (decisions.Known copy) kind m none is = absurd (cc)
decision_room journal by (decisions.One report) kind m none is = report_room journal by report none
decision_room journal by (decisions.Both report second) kind m none is = report_room journal by report (neither _ _ none)

-- the number in a reply
number_of : Reply → ℕ
number_of (replies.Done n) = n
number_of (replies.Did kind n) = n
number_of _ = 0

-- what is done of a sighting makes the entries up to the one whose number its reply has
decision_last : (journal : List Entry) (by : List ℕ) (decision : Decision) (kind : ReportKind) (m : ℕ) → replies.Did kind m ≡ reply_of journal decision → (m ≡ length (after_decision journal by decision)) × (length (after_decision journal by decision) < length journal + 3)
unfolding number_of
decision_last journal by (decisions.Known copy) kind m is = absurd (cc)
decision_last journal by (decisions.One report) kind m is =
    let number : m ≡ length journal + 1 = ap number_of is in
    let long : length (with_report journal by report) ≡ length journal + 1 = length-append journal (record { number = length journal + 1; by = by; report = report } ∷ []) in
    (omega arith, omega arith)
decision_last journal by (decisions.Both report second) kind m is =
    let number : m ≡ length journal + 2 = ap number_of is in
    let next : List Entry = with_report journal by report in
    let long : length next ≡ length journal + 1 = length-append journal (record { number = length journal + 1; by = by; report = report } ∷ []) in
    let longer : length (with_report next by second) ≡ length next + 1 = length-append next (record { number = length next + 1; by = by; report = second } ∷ []) in
    (omega arith, omega arith)

-- no report is made by a sighting under its own name
not_reported : (journal : List Entry) (decision : Decision) (m : ℕ) → replies.Done m ≡ reply_of journal decision → ⊥
not_reported journal (decisions.Known copy) m is = absurd (cc)
not_reported journal (decisions.One report) m is = absurd (cc)
not_reported journal (decisions.Both report second) m is = absurd (cc)

-- the reply to a query says of no entry that it was made
no_query : (journal : List Entry) (query : Query) (m : ℕ) (reply : Reply) → IsDone m reply → Answers journal query reply → ⊥
no_query journal queries.Families m reply done is = absurd (subst (IsDone m) is done)
no_query journal (queries.Board family) m reply done is = absurd (subst (IsDone m) is done)
no_query journal (queries.Stamps family) m reply done is = absurd (subst (IsDone m) is.2 done)
no_query journal (queries.Pair a b) m reply done is = absurd (subst (IsDone m) is done)
no_query journal (queries.Holdings device from) m reply done is = absurd (subst (IsDone m) is done)
no_query journal (queries.At place) m reply done is = absurd (subst (IsDone m) is done)
no_query journal (queries.Status device from) m reply done is = absurd (subst (IsDone m) is done)
no_query journal (queries.JournalFrom from) m reply done is = absurd (subst (IsDone m) is done)
no_query journal (queries.JournalAwaited from seconds) m reply done is = absurd (subst (IsDone m) is done)
no_query journal queries.Counts m reply done is = absurd (subst (IsDone m) is done)

-- a call that was done was granted, and nothing stood against it
granted_by : (cause : Option Cause) (journal : List Entry) (call : Call) (m : ℕ) (reply : Reply) → IsDone m reply → PermitsBy cause journal call reply → (cause ≡ None) × Grants journal call reply
granted_by (Some cause) journal (calls.Report report) m reply done permits = absurd (subst (IsDone m) permits done)
granted_by (Some cause) journal (calls.Sighting sighting) m reply done permits = absurd (⊎_elim (λ refused. subst (IsDone m) refused done) (λ short. subst (IsDone m) short done) permits)
granted_by (Some cause) journal (calls.Query query) m reply done permits = absurd (subst (IsDone m) permits done)
granted_by None journal call m reply done permits = ⊎_elim (λ granted. (refl, granted)) (λ short. absurd (subst (IsDone m) short.2 done)) permits

granted : (journal : List Entry) (by : List ℕ) (call : Call) (m : ℕ) (reply : Reply) → IsDone m reply → Permits journal by call reply → (refusal journal by call ≡ None) × Grants journal call reply
unfolding Permits
granted journal by call m reply done permits = granted_by (refusal journal by call) journal call m reply done permits

-- no query is done
pub no_query_is_done : (old : List Entry) (by : List ℕ) (query : Query) (m : ℕ) (reply : Reply) (new : List Entry) → IsDone m reply → Steps old by (calls.Query query) reply new → ⊥
no_query_is_done old by query m reply new done steps = no_query old query m reply done (granted old by (calls.Query query) m reply done steps.0).1

report_is_last : (old : List Entry) (by : List ℕ) (report : Report) (m : ℕ) (reply : Reply) (new : List Entry) → IsDone m reply → refusal old by (calls.Report report) ≡ None → Grants old (calls.Report report) reply → new ≡ journal_after old by (calls.Report report) reply
    → (m ≡ length new) × (m < 2 ^ 64)
unfolding refusal journal_after
report_is_last old by report m reply new done none granted is =
    let number : length old + 1 ≡ m = subst (IsDone m) granted done in
    let grown : new ≡ journal_after old by (calls.Report report) (replies.Done (length old + 1)) = is ∙ ap (journal_after old by (calls.Report report)) granted in
    let few = leb-false 1000000 (length old) (report_room old by report none) in
    let long : length new ≡ length old + 1 = ap length grown ∙ length-append old (record { number = length old + 1; by = by; report = report } ∷ []) in
    (omega arith, omega arith)

sighting_is_last : (old : List Entry) (by : List ℕ) (sighting : Sighting) (m : ℕ) (reply : Reply) (new : List Entry) → IsDone m reply → refusal old by (calls.Sighting sighting) ≡ None → Grants old (calls.Sighting sighting) reply → new ≡ journal_after old by (calls.Sighting sighting) reply
    → (m ≡ length new) × (m < 2 ^ 64)
unfolding refusal journal_after
sighting_is_last old by sighting m (replies.Done n) new done none granted is = absurd (not_reported old (decision (living old) sighting) n granted)
sighting_is_last old by sighting m (replies.Did kind n) new done none granted is =
    let last = decision_last old by (decision (living old) sighting) kind n granted in
    let few = leb-false 1000000 (length old) (decision_room old by (decision (living old) sighting) kind n none granted) in
    let long : length new ≡ length (after_decision old by (decision (living old) sighting)) = ap length is in
    (omega arith, omega arith)
sighting_is_last old by sighting m _ new done none granted is = absurd done

-- of a call that was done, the entry that its reply names is the last one, and its number says how many there are
pub done_is_last : (old : List Entry) (by : List ℕ) (call : Call) (m : ℕ) (reply : Reply) (new : List Entry) → IsDone m reply → Steps old by call reply new → (m ≡ length new) × (m < 2 ^ 64)
done_is_last old by (calls.Report report) m reply new done steps =
    let free = granted old by (calls.Report report) m reply done steps.0 in
    report_is_last old by report m reply new done free.0 free.1 steps.1
done_is_last old by (calls.Sighting sighting) m reply new done steps =
    let free = granted old by (calls.Sighting sighting) m reply done steps.0 in
    sighting_is_last old by sighting m reply new done free.0 free.1 steps.1
done_is_last old by (calls.Query query) m reply new done steps = absurd (no_query_is_done old by query m reply new done steps)
