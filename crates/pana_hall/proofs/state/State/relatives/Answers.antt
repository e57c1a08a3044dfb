use Rattle.pana_hall.proofs.Words.{arith, nat_tests, ◌≡◌, None, AllByRecursion, map, sym, ap, ◌∙◌, subst, living, first, unknown, other_family}
use Rattle.std.proofs.lemmas.Result.{IfOk-weaker}
use Rattle.pana_hall.proofs.Words.{[], ◌∷◌}
use Rattle.pana_hall.specs.inner.Relatives.{relative}
use Rattle.pana_hall.proofs.Listed.{found_entry}
use Rattle.pana_hall.proofs.Related.{all_compared, has_copy, numbers_is}
use Rattle.pana_hall.proofs.state.State.relatives.Goals as goal

pub family-requires-clause-has : goal.family-requires-clause-has
family-requires-clause-has c = let copy = has_copy _ c.requires.lives in grind (arith, nat_tests, found_entry, c.requires.kept.accepted)

pub relatives_among-requires-clause-free : goal.relatives_among-requires-clause-free
relatives_among-requires-clause-free c =
    let journal = c.args.self.now.journal.entries in
    subst (AllByRecursion (λ other. first (unknown other (living journal) ∷ unknown c.args.copy (living journal) ∷ other_family other c.args.copy (living journal) ∷ []) ≡ None))
    (sym (c.living.ensures ∙ numbers_is journal c.args.copy _ c.requires.kept.accepted c.family.ensures))
    (all_compared journal c.args.copy c.requires.kept.accepted c.requires.lives)

pub returns : goal.returns
returns c =
    let journal = c.args.self.now.journal.entries in
    let numbers = c.living.ensures ∙ numbers_is journal c.args.copy _ c.requires.kept.accepted c.family.ensures in
    IfOk-weaker c.relatives_among.result _ _ (λ made h. h ∙ ap (map (relative (living journal) c.args.copy)) numbers) c.relatives_among.ensures
