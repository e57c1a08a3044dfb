-- None of the words is the text.
use Rattle.std.proofs.Common.{◌≡◌, ◌≢◌, ℕ, List, Bool, true, false, refl, sym, codes}
use Rattle.std.specs.Str.{bytes_eq}
use Rattle.std.proofs.lemmas.Slice.Eq.{bytes_eq-Decides}
use Rattle.pana_wire.specs.Word.{word_of}
use Rattle.pana_wire.proofs.word.word_of.Goals as goal

not_true : (b : Bool) → (b ≡ true → ⊥) → b ≡ false
not_true false never = refl
not_true true never = absurd (never refl)

another : (name text : List ℕ) → text ≢ name → bytes_eq name text ≡ false
another name text differ = not_true (bytes_eq name text) (λ same. differ (sym ((bytes_eq-Decides name text).0 same)))

pub returns-in_default : goal.returns-in_default
unfolding word_of
returns-in_default c =
    let d = c.in_default in
    let text = c.args.text.now in
    rw (
      word_of,
      another (codes "register") text d.not-register,
      another (codes "duplicate") text d.not-duplicate,
      another (codes "edit") text d.not-edit,
      another (codes "reconcile") text d.not-reconcile,
      another (codes "merge") text d.not-merge,
      another (codes "relocate") text d.not-relocate,
      another (codes "remove") text d.not-remove,
      another (codes "note") text d.not-note,
      another (codes "confirm") text d.not-confirm,
      another (codes "withdraw") text d.not-withdraw,
      another (codes "found") text d.not-found,
      another (codes "missing") text d.not-missing,
      another (codes "families") text d.not-families,
      another (codes "board") text d.not-board,
      another (codes "stamps") text d.not-stamps,
      another (codes "pair") text d.not-pair,
      another (codes "holdings") text d.not-holdings,
      another (codes "at") text d.not-at,
      another (codes "status") text d.not-status,
      another (codes "journal") text d.not-journal,
      another (codes "counts") text d.not-counts,
    ) refl
