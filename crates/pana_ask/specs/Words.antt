-- How reports are spelled as words of a command line.
use Rattle.std.specs.Prelude.{◌≡◌, ◌≢◌, ◌⊎◌, ◌<◌, ◌^◌, ℕ, Bool, true, false, List, [], ◌∷◌, length, codes, decimal, map, find, IsSome, Option, Some, None, option_map, option_copied}
use Rattle.std.specs.Str.{bytes_eq}
use Rattle.pana_copies.specs.Sums.{is_sum}
use Rattle.pana_copies.specs.declared.place.Place.{Place}
use Rattle.pana_journal.specs.declared.report.Report.TheVariants as reports
use Rattle.pana_calls.specs.declared.call.Call.TheVariants as calls
use Rattle.pana_calls.specs.declared.call.Sighting.TheVariants as sightings
use Rattle.pana_ask.specs.declared.placed_report.OneCopyReport.TheVariants as one
use Rattle.pana_ask.specs.declared.placed_report.PlacedReport.{PlacedReport}
use Rattle.pana_ask.specs.declared.placed_report.PlacedReport.TheVariants.{Direct, One, Two}
use Rattle.pana_ask.specs.declared.placed_report.TwoCopyReport.TheVariants as two
use Rattle.pana_ask.specs.declared.report_word.ReportWord.{ReportWord}
use Rattle.pana_ask.specs.declared.report_word.ReportWord.TheVariants.{Register, Duplicate, Edit, Reconcile, Merge, Relocate, Remove, Note, Confirm, Withdraw, Found, Missing}
use Rattle.pana_ask.specs.declared.words.Words.{Words}
use Rattle.pana_ask.specs.declared.words.WordsFault.{WordsFault}
use Rattle.pana_ask.specs.declared.words.WordsFault.TheVariants as faults
use Rattle.pana_ask.specs.Place.{is_place, place_name}
use Rattle.pana_ask.specs.Texts.{texts}

-- the word as it is spelled
abbrev pub word_name : ReportWord → List ℕ
word_name Register = codes "register"
word_name Duplicate = codes "duplicate"
word_name Edit = codes "edit"
word_name Reconcile = codes "reconcile"
word_name Merge = codes "merge"
word_name Relocate = codes "relocate"
word_name Remove = codes "remove"
word_name Note = codes "note"
word_name Confirm = codes "confirm"
word_name Withdraw = codes "withdraw"
word_name Found = codes "found"
word_name Missing = codes "missing"

-- all words
abbrev pub all_words : List ReportWord
all_words = Register ∷ Duplicate ∷ Edit ∷ Reconcile ∷ Merge ∷ Relocate ∷ Remove ∷ Note ∷ Confirm ∷ Withdraw ∷ Found ∷ Missing ∷ []

-- the word that a text is
unfoldable pub word_of : List ℕ → Option ReportWord
word_of text = find (λ word. bytes_eq (word_name word) text) all_words

-- this word, behind it these names, and this sum and this heir, where there are some, and nothing else
abbrev pub Are : Words → ReportWord → List (List ℕ) → Option (List ℕ) → Option Place → Type 0
Are words word names sum heir = (words.word.now ≡ word_name word) × (texts words.names.now ≡ names)
    × (option_copied words.sum ≡ sum) × (option_copied words.heir ≡ option_map place_name heir)

-- this word, and behind it these places
abbrev pub AreOf : Words → ReportWord → List Place → Option (List ℕ) → Option Place → Type 0
AreOf words word places sum heir = Are words word (map place_name places) sum heir

-- the words by which something is reported
abbrev pub Spells : Words → PlacedReport → Type 0
Spells words (Direct (calls.Report (reports.Register place sum))) = AreOf words Register (place ∷ []) sum None
Spells words (Direct (calls.Report (reports.Confirm entry))) = Are words Confirm (decimal entry ∷ []) None None
Spells words (Direct (calls.Report (reports.Withdraw entry))) = Are words Withdraw (decimal entry ∷ []) None None
Spells words (Direct (calls.Sighting (sightings.Found place sum))) = AreOf words Found (place ∷ []) (Some sum) None
Spells words (Direct (calls.Sighting (sightings.Missing place))) = AreOf words Missing (place ∷ []) None None
Spells words (Direct call) = ⊥
Spells words (One copy (one.Edit sum)) = AreOf words Edit (copy ∷ []) sum None
Spells words (One copy (one.Duplicate place sum)) = AreOf words Duplicate (copy ∷ place ∷ []) sum None
Spells words (One copy (one.Relocate place)) = AreOf words Relocate (copy ∷ place ∷ []) None None
Spells words (One copy one.Remove) = AreOf words Remove (copy ∷ []) None None
Spells words (One copy (one.Note sum)) = AreOf words Note (copy ∷ []) (Some sum) None
Spells words (Two a b (two.Reconcile sum)) = AreOf words Reconcile (a ∷ b ∷ []) sum None
Spells words (Two a b (two.Merge sum)) = AreOf words Merge (a ∷ b ∷ []) sum None
Spells words (Two copy heir two.RemoveFor) = AreOf words Remove (copy ∷ []) None (Some heir)

-- ---- words that spell no report

-- how many names stand behind a word
abbrev pub count_of : ReportWord → ℕ
count_of Duplicate = 2
count_of Reconcile = 2
count_of Merge = 2
count_of Relocate = 2
count_of word = 1

-- whether a sum has to stand with a word
abbrev pub needs_sum : ReportWord → Bool
needs_sum Note = true
needs_sum Found = true
needs_sum word = false

-- whether a sum may stand with it
abbrev pub takes_sum : ReportWord → Bool
takes_sum Relocate = false
takes_sum Remove = false
takes_sum Confirm = false
takes_sum Withdraw = false
takes_sum Missing = false
takes_sum word = true

-- whether an heir may
abbrev pub takes_heir : ReportWord → Bool
takes_heir Remove = true
takes_heir word = false

-- whether a text is one of these
abbrev pub IsOneOf : List (List ℕ) → List ℕ → Type 0
IsOneOf [] text = ⊥
IsOneOf (first ∷ texts) text = (text ≡ first) ⊎ IsOneOf texts text

-- why words with this word spell no report
abbrev pub IsFault : Words → ReportWord → WordsFault → Type 0
IsFault words word (faults.Word text) = ⊥
IsFault words word (faults.Place text) = (IsOneOf (texts words.names.now) text.now ⊎ (option_copied words.heir ≡ Some text.now)) × (is_place text.now ≡ false)
IsFault words word (faults.Sum text) = (option_copied words.sum ≡ Some text.now) × (is_sum text.now ≡ false)
IsFault words word (faults.Entry text) = (texts words.names.now ≡ text.now ∷ []) × ((n : ℕ) → n < 2 ^ 64 → text.now ≢ decimal n)
IsFault words word (faults.Count named) = (named ≡ word) × (length words.names.now ≢ count_of word)
IsFault words word (faults.NoSum named) = (named ≡ word) × (needs_sum word ≡ true) × (words.sum ≡ None)
IsFault words word (faults.NeedlessSum named) = (named ≡ word) × (takes_sum word ≡ false) × IsSome words.sum
IsFault words word (faults.NeedlessHeir named) = (named ≡ word) × (takes_heir word ≡ false) × IsSome words.heir
IsFault words word faults.OutOfMemory = Unit {0}

-- why words spell no report: they begin with no word for one; or it is the fault of what stands behind their word
abbrev pub AreRefused : Words → WordsFault → Type 0
AreRefused words fault = ((fault ≡ faults.Word words.word) × (word_of words.word.now ≡ None))
    ⊎ ((word : ReportWord) × (word_of words.word.now ≡ Some word) × IsFault words word fault)
