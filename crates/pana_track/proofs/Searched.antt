-- A root searched for its file of patterns, and the file read.
use Rattle.std.specs.Prelude.{◌≡◌, ℕ, ◌+◌, Bool, true, List, ◌∷◌, ◌++◌, length, Option, Some, None, option_and_then, Result, Ok, Err}
use Rattle.std.specs.List.{list_any}
use Rattle.std.specs.Option.{ForSome}
use Rattle.std.proofs.Common.{refl, sym, ap, ◌∙◌, ◌⊎◌, inl, inr}
use Rattle.pana_ignore.specs.declared.pattern.Pattern.{Pattern}
use Rattle.pana_ignore.specs.declared.patterns_fault.PatternsFault.{PatternsFault}
use Rattle.pana_ignore.specs.declared.patterns_fault.PatternsFault.TheVariants as patterns
use Rattle.pana_ignore.specs.Reading.{fault_of, patterns_of}
use Rattle.pana_scan.specs.Disk.{Content, Names, Tree}
use Rattle.pana_scan.specs.Order.{Path}
use Rattle.pana_track.specs.declared.read_fault.ReadFault.{ReadFault}
use Rattle.pana_scan.specs.declared.scan_fault.ScanFault.TheVariants as scan
use Rattle.pana_track.specs.declared.read_fault.ReadFault.TheVariants as faults
use Rattle.pana_track.specs.Fault.{patterns_read_fault}
use Rattle.pana_track.specs.inner.Searching.{IsUnread, Searches}
use Rattle.pana_track.specs.IgnoreFile.{ReadsPatterns, TakesText, ignore_file, is_ignore_file, text_in, text_of}

-- so many entries were searched, none of which is the file, and the others are to come
pub record IsSearched (first left : Names) (entries : ℕ) : Type 0 where
  pub there : list_any is_ignore_file first.entries ≡ list_any is_ignore_file left.entries
  pub fails : first.fails ≡ left.fails
  pub count : length first.entries ≡ entries + length left.entries

-- so many reads have taken this text, and the others are to come
pub record IsTaken (first left : Content) (made : ℕ) (text : List ℕ) : Type 0 where
  pub bytes : first.bytes ≡ text ++ left.bytes
  pub reads : first.reads ≡ made + left.reads
  pub fails : first.fails ≡ left.fails

no_fault : (fault : Option PatternsFault) (taken : List Pattern) (result : Result (List Pattern) PatternsFault) → result ≡ Ok taken → ForSome fault (λ f. result ≡ Err f) → fault ≡ None
no_fault None taken result ok is = refl
no_fault (Some f) taken result ok is = let no : result ≡ Err f = is f refl in absurd (cc)

module _ (tree after : Tree) (root file text : List ℕ) (has : Bool) (same : after ≡ tree) (found : has ≡ list_any is_ignore_file (tree.names root).entries) (there : has ≡ true)
    (name : file ≡ root ++ 47 ∷ ignore_file) (read : option_and_then text_of (after.content file) ≡ Some text) where
  text_is : text_in tree root ≡ Some text
  text_is =
      ap (λ (t : Tree). option_and_then text_of (t.content (root ++ 47 ∷ ignore_file))) (sym same) ∙ ap (λ (p : Path). option_and_then text_of (after.content p)) (sym name) ∙ read

  reads : (result : Result (List Pattern) ReadFault) → TakesText text result → ReadsPatterns tree root result
  reads result takes = inr (inr (inr (text, sym found ∙ there, text_is, takes)))

  pub text_taken : (taken : List Pattern) (given : Result (List Pattern) PatternsFault) → given ≡ Ok taken → taken ≡ patterns_of text → ForSome (fault_of text) (λ fault. given ≡ Err fault) → ReadsPatterns tree root (Ok taken)
  text_taken taken given ok is fault = reads (Ok taken) (no_fault (fault_of text) taken given ok fault, is)

  pub text_not_taken : (fault : PatternsFault) (shown : ReadFault) → shown ≡ patterns_read_fault fault → (fault_of text ≡ Some fault) ⊎ (fault ≡ patterns.OutOfMemory) → ReadsPatterns tree root (Err shown)
  text_not_taken fault shown is (inl there) = reads (Err shown) (inr (fault, there, is))
  text_not_taken fault shown is (inr short) = reads (Err shown) (inl (is ∙ ap patterns_read_fault short))

-- a root that wasn't searched for the file has no patterns
pub unsearched : (tree : Tree) (root : Path) (fault : ReadFault) → Searches (tree.names root) (Err fault) → ReadsPatterns tree root (Err fault)
unsearched tree root (faults.Scan fault) is = inl (fault, is, refl)
unsearched tree root faults.IgnoreFile is = absurd is
unsearched tree root faults.TooManyLines is = absurd is
unsearched tree root (faults.LongLine line) is = absurd is

-- nor one whose file wasn't read
pub unread : (tree after : Tree) (root file : List ℕ) (has : Bool) → after ≡ tree → has ≡ list_any is_ignore_file (tree.names root).entries → has ≡ true → file ≡ root ++ 47 ∷ ignore_file
    → (fault : ReadFault) → IsUnread (after.content file) fault → ReadsPatterns tree root (Err fault)
unread tree after root file has same found there name faults.IgnoreFile is =
    let none : text_in tree root ≡ None =
    ap (λ (t : Tree). option_and_then text_of (t.content (root ++ 47 ∷ ignore_file))) (sym same) ∙ ap (λ (p : Path). option_and_then text_of (after.content p)) (sym name) ∙ is in
    inr (inr (inl (sym found ∙ there, none, refl)))
unread tree after root file has same found there name (faults.Scan scan.OutOfMemory) is = inl (scan.OutOfMemory, tt, refl)
unread tree after root file has same found there name (faults.Scan scan.Folder) is = absurd is
unread tree after root file has same found there name (faults.Scan scan.TooMany) is = absurd is
unread tree after root file has same found there name (faults.Scan scan.TooNested) is = absurd is
unread tree after root file has same found there name faults.TooManyLines is = absurd is
unread tree after root file has same found there name (faults.LongLine line) is = absurd is
