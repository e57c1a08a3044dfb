-- Lines of a dump that are read one after another.
use Rattle.std.proofs.Common.{◌≡◌, ℕ, ◌+◌, ◌<◌, List, [], ◌∷◌, ◌++◌, length, take, drop, get_or, Ok, refl, sym, ◌∙◌, ap, subst, arith, append_assoc}
use Rattle.std.specs.Borrow.{Bor}
use Rattle.std.proofs.lemmas.List.{append-nil, map-append, length-map, length-take-le, take-append-drop}
use Rattle.std.proofs.lemmas.Grind.{take_at_read}
use Rattle.pana_journal.specs.declared.entry.Entry.{Entry}
use Rattle.pana_wire.specs.Dump.{dump_says, IsDumpText}
use Rattle.pana_wire.specs.DumpLines.{Say, HasFaultAt}
use Rattle.pana_wire.specs.Line.{Fails}
use Rattle.pana_wire.specs.declared.fault.WireFault.{WireFault}
use Rattle.pana_wire.specs.declared.fault.WireFault.TheVariants.{OutOfMemory}
use Rattle.pana_wire.specs.Lines.{texts}

say_one_more : (ls : List (List ℕ)) (es : List Entry) (l : List ℕ) (more : List Entry) → Say ls es → dump_says l ≡ Ok more → Say (ls ++ l ∷ []) (es ++ more)
say_one_more [] es l more none says = (more, [], says, refl, ap (λ (xs : List Entry). xs ++ more) none ∙ sym (append-nil more))
say_one_more (first ∷ ls) es l more (some, rest, line, others, whole) says =
    (some, rest ++ more, line, say_one_more ls rest l more others says, ap (λ (xs : List Entry). xs ++ more) whole ∙ append_assoc some rest more)

pub texts_next : (lines : List (Bor (List ℕ))) (index : ℕ) (d : Bor (List ℕ)) → index < length lines → texts (take (index + 1) lines) ≡ texts (take index lines) ++ (get_or lines index d).now ∷ []
texts_next lines index d within = ap texts ((take_at_read lines index d within).1) ∙ map-append (λ line. line.now) (take index lines) (get_or lines index d ∷ [])

pub texts_before : (lines : List (Bor (List ℕ))) (index : ℕ) → index < length lines → length (texts (take index lines)) ≡ index
texts_before lines index within = length-map (take index lines) (λ line. line.now) ∙ length-take-le index lines (omega arith)

pub next_said : (lines : List (Bor (List ℕ))) (index : ℕ) (d : Bor (List ℕ)) (entries entries' more : List Entry) → index < length lines
    → Say (texts (take index lines)) entries → dump_says (get_or lines index d).now ≡ Ok more → entries' ≡ entries ++ more → Say (texts (take (index + 1) lines)) entries'
next_said lines index d entries entries' more within before says is =
    subst (λ e. Say (texts (take (index + 1) lines)) e) (sym is)
    (subst (λ l. Say l (entries ++ more)) (sym (texts_next lines index d within)) (say_one_more (texts (take index lines)) entries (get_or lines index d).now more before says))

-- the line at an index has the fault
pub fault_at : (lines : List (Bor (List ℕ))) (index : ℕ) (d : Bor (List ℕ)) (entries : List Entry) (fault : WireFault) → index < length lines
    → Say (texts (take index lines)) entries → Fails fault (dump_says (get_or lines index d).now) → (fault ≡ OutOfMemory → IsDumpText (get_or lines index d).now) → HasFaultAt (texts lines) (index + 1) fault
fault_at lines index d entries fault within before fails memory = record {
  before = texts (take index lines);
  line = (get_or lines index d).now;
  rest = texts (drop (index + 1) lines);
  entries = entries;
  whole = ap texts (sym (take-append-drop (index + 1) lines)) ∙ map-append (λ line. line.now) (take (index + 1) lines) (drop (index + 1) lines)
      ∙ ap (λ l. l ++ texts (drop (index + 1) lines)) (texts_next lines index d within)
      ∙ append_assoc (texts (take index lines)) ((get_or lines index d).now ∷ []) (texts (drop (index + 1) lines));
  read = before;
  at = let at = texts_before lines index within in omega (arith, at);
  says = fails;
  memory = memory;
}
