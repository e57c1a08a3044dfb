use Rattle.pana_hall.proofs.Words.{Result, Ok, Err, IfOk, ap, ◌∙◌, rows_of, KeptRows}
use Rattle.pana_hall.proofs.Tables.{layer_now}
use Rattle.pana_hall.proofs.Answered.{stands_of, stamps_are, begun_at, own_begun}
use Rattle.pana_hall.proofs.state.State.stamps_of.Goals as goal

pub family-requires-clause-has : goal.family-requires-clause-has
family-requires-clause-has c = let begun = begun_at c.args.self.now.journal.entries c.args.family c.requires.kept.accepted c.requires.free in (begun.0, begun.1)

pub returns : goal.returns
returns c =
    let journal = c.args.self.now.journal.entries in
    let it = own_begun journal c.args.family _ c.requires.kept.accepted c.requires.free c.family.ensures in
    let stands = stands_of journal c.args.family _ c.requires.kept.accepted it in
    let rows = ap (λ (k : KeptRows). k.rows) it ∙ ap rows_of (layer_now 8 c.args.family journal) in
    if_both c.stamps.result (λ stamps are texts. stamps_are journal c.args.family _ stamps c.requires.kept.accepted rows texts (are _ stands)) c.stamps.ensures.stands c.stamps.ensures.exact
  where
    if_both : {T E : Type 0} {P Q R : T → Type 0} (r : Result T E) → ((x : T) → P x → Q x → R x) → IfOk r P → IfOk r Q → IfOk r R
    if_both (Ok x) f p q = f x p q
    if_both (Err e) f p q = tt
