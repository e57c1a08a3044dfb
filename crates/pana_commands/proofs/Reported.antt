-- How the parts of a report are put together, and lines one after another.
use Rattle.std.specs.Prelude.{◌≡◌, ◌≢◌, false, ℕ, ◌+◌, ◌<◌, decimal, List, [], ◌∷◌, ◌++◌, length, codes, if◌then◌else◌, Option, Some, Result, Ok, Err, OnOk}
use Rattle.std.specs.Result.{is_ok}
use Rattle.std.proofs.Common.{refl, sym, ap, ◌∙◌, subst, inl, inr, take, get_or, append-nil, arith}
use Rattle.std.specs.Borrow.{Bor}
use Rattle.std.proofs.lemmas.List.{append_assoc}
use Rattle.std.proofs.lemmas.Bool.{ne_eqb}
use Rattle.pana_journal.specs.declared.entry.Entry.{Entry}
use Rattle.pana_wire.specs.Lines.{lines_of, texts}
use Rattle.pana_hall.specs.Load.{StopsAt, shown_load_fault}
use Rattle.pana_hall.specs.declared.load_fault.LoadFault.{LoadFault}
use Rattle.pana_commands.specs.declared.printout.Printout.{Printout}
use Rattle.pana_wire.specs.declared.line_fault.LineFault.{LineFault}
use Rattle.pana_wire.specs.DumpLines.{HasFault}
use Rattle.pana_wire.specs.Shown.{shown_line_fault}
use Rattle.pana_commands.specs.Answered.{Reports, report_line}
use Rattle.pana_commands.specs.Load.{AnswersDump, AnswersEntries, AnswersLines}
use Rattle.pana_seal.specs.Seal.{IsDamagedAt}
use Rattle.pana_seal.specs.Shown.{shown_seal_fault}
use Rattle.pana_seal.specs.declared.seal_fault.SealFault.TheVariants.{Damaged}
use Rattle.pana_copies.specs.Names.{is_device}
use Rattle.pana_scan.specs.Listing.{Contents}
use Rattle.pana_scan.specs.declared.scan_fault.ScanFault.{ScanFault}
use Rattle.pana_scan.specs.Fault.{shown_scan_fault}
use Rattle.pana_commands.specs.Scan.{AnswersScan, skipped_line}
use Rattle.pana_wire.proofs.Said.{texts_next, texts_before}
use Rattle.pana_commands.specs.Show.{TakesLine, TakesLines, report_of}

pub line_report : (digits why : List ℕ) → codes "panad: line " ++ (digits ++ (codes ": " ++ (why ++ 10 ∷ []))) ≡ report_line (codes "line " ++ digits ++ codes ": " ++ why)
line_report digits why =
    let colon = codes ": " in
    let rest = digits ++ (colon ++ why) in
    sym (ap (λ t. codes "panad: " ++ t ++ 10 ∷ []) (append_assoc (codes "line " ++ digits) colon why ∙ append_assoc (codes "line ") digits (colon ++ why))
    ∙ append_assoc (codes "panad: ") (codes "line " ++ rest) (10 ∷ [])
    ∙ ap (λ t. codes "panad: " ++ t) (append_assoc (codes "line ") rest (10 ∷ []))
    ∙ ap (λ t. codes "panad: line " ++ t) (append_assoc digits (colon ++ why) (10 ∷ [])))

-- what was changed by a call that succeeded
pub changed_on_ok : {X E : Type 0} (result : Result X E) (new pushed old : List ℕ) → new ≡ (if is_ok result then pushed else old) → OnOk result (new ≡ pushed)
changed_on_ok (Ok x) new pushed old is = is
changed_on_ok (Err e) new pushed old is = tt

-- one line more
pub takes_one_more : (n : ℕ) (old : List Entry) (lines : List (List ℕ)) (reports : List ℕ) (mid : List Entry) (line : List ℕ) (why : Option (List ℕ)) (new : List Entry)
    → TakesLines n old lines reports mid → TakesLine mid line why new → TakesLines n old (lines ++ line ∷ []) (reports ++ report_of (n + length lines) why) new
takes_one_more n old [] reports mid line why new (none, same) takes = (
  new,
  why,
  [],
  subst (λ journal. TakesLine journal line why new) same takes,
  (refl, refl),
  ap (λ l. l ++ report_of (n + 0) why) none ∙ ap (λ m. report_of m why) (omega arith) ∙ sym (append-nil (report_of n why)),
)
takes_one_more n old (first ∷ lines) reports mid line why new (next, reason, rest, takes_first, takes_rest, whole) takes = (
  next,
  reason,
  rest ++ report_of (n + 1 + length lines) why,
  takes_first,
  takes_one_more (n + 1) next lines rest mid line why new takes_rest takes,
  ap (λ l. l ++ report_of (n + length (first ∷ lines)) why) whole
      ∙ append_assoc (report_of n reason) rest (report_of (n + length (first ∷ lines)) why)
      ∙ ap (λ m. report_of n reason ++ (rest ++ report_of m why)) (omega arith),
)

pub next_taken : (lines : List (Bor (List ℕ))) (index : ℕ) (d : Bor (List ℕ)) (old mid new : List Entry) (reports reports' : List ℕ) (why : Option (List ℕ)) → index < length lines
    → TakesLines 1 old (texts (take index lines)) reports mid → TakesLine mid (get_or lines index d).now why new → reports' ≡ reports ++ report_of (index + 1) why
    → TakesLines 1 old (texts (take (index + 1) lines)) reports' new
next_taken lines index d old mid new reports reports' why within before line is =
    let number : index + 1 ≡ 1 + length (texts (take index lines)) = omega (arith, texts_before lines index within) in
    subst (λ r. TakesLines 1 old (texts (take (index + 1) lines)) r new) (sym (is ∙ ap (λ m. reports ++ report_of m why) number))
    (subst (λ l. TakesLines 1 old l (reports ++ report_of (1 + length (texts (take index lines))) why) new) (sym (texts_next lines index d within))
    (takes_one_more 1 old (texts (take index lines)) reports mid (get_or lines index d).now why new before line))

-- where loading stopped at an entry, it is reported
pub load_reported : (terminal : Option ℕ) (entries : List Entry) (fault : LoadFault) (answer : Printout) → StopsAt entries fault
    → ((text : List ℕ) → Some (shown_load_fault fault) ≡ Some text → Reports text answer) → AnswersEntries terminal entries answer
load_reported terminal entries fault answer stops says = inr (fault, stops, says (shown_load_fault fault) refl)

-- a line's fault is reported
pub line_reported : (terminal : Option ℕ) (lines : List (List ℕ)) (fault : LineFault) (answer : Printout) → HasFault lines fault
    → ((text : List ℕ) → Some (shown_line_fault fault) ≡ Some text → Reports text answer) → AnswersLines terminal lines answer
line_reported terminal lines fault answer has says = inr (fault, has, says (shown_line_fault fault) refl)

-- a damaged line is reported
pub damage_reported : (terminal : Option ℕ) (bytes : List ℕ) (number : ℕ) (answer : Printout) → IsDamagedAt (lines_of bytes) number
    → ((text : List ℕ) → Some (shown_seal_fault (Damaged number)) ≡ Some text → Reports text answer) → AnswersDump terminal bytes answer
damage_reported terminal bytes number answer damaged says = inr (number, damaged, says (shown_seal_fault (Damaged number)) refl)

-- names were passed over
pub skipped_report : (skipped : ℕ) → skipped ≢ 0 → codes "panad: " ++ (decimal skipped ++ codes " names skipped\n") ≡ skipped_line skipped
skipped_report skipped some =
    sym (ap (λ none. if none then [] else report_line (decimal skipped ++ codes " names skipped")) (ne_eqb skipped 0 some)
    ∙ append_assoc (codes "panad: ") (decimal skipped ++ codes " names skipped") (10 ∷ [])
    ∙ ap (λ t. codes "panad: " ++ t) (append_assoc (decimal skipped) (codes " names skipped") (10 ∷ [])))

-- the device's name is none
pub bad_device_reported : (device : List ℕ) (scanned : Result Contents ScanFault → Type 0) (answer : Printout) → is_device device ≡ false
    → ((text : List ℕ) → Some (codes "BadDevice") ≡ Some text → Reports text answer) → AnswersScan device scanned answer
bad_device_reported device scanned answer bad says = inl (bad, says (codes "BadDevice") refl)

-- the folder can't be scanned
pub scan_reported : (device : List ℕ) (scanned : Result Contents ScanFault → Type 0) (fault : ScanFault) (answer : Printout) → scanned (Err fault)
    → ((text : List ℕ) → Some (shown_scan_fault fault) ≡ Some text → Reports text answer) → AnswersScan device scanned answer
scan_reported device scanned fault answer why says = inr (inr (fault, why, says (shown_scan_fault fault) refl))
