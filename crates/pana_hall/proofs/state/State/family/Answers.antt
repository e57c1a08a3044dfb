use Rattle.pana_hall.proofs.Words.{arith, nat_tests, ◌≡◌, Some, None, IsSome, option_copied, option_map, refl, ◌∙◌, families, family_of, all_listed, listed}
use Rattle.pana_hall.proofs.Listed.{found_at}
use Rattle.pana_hall.proofs.state.State.family.Goals as goal

pub unwrap-requires : goal.unwrap-requires
unwrap-requires c =
    let fs = c.args.self.now.families in
    let all = c.requires.kept in
    elim c.of_entry.result as (λ o. option_map listed (option_copied o) ≡ Some (family_of c.args.self.now.journal.entries (families c.args.self.now.journal.entries c.args.entry)) → IsSome o) [ None ↦ λ e. absurd (cc) | Some x ↦ λ e. refl ]
    (c.of_entry.ensures ∙ found_at c.args.self.now.journal.entries (all_listed fs.list.items) fs.positions.items c.args.entry all.listed all.placed c.requires.has.0 c.requires.has.1)

pub returns : goal.returns
returns c = grind (arith, nat_tests, found_at, c.requires.kept, c.unwrap.ensures, c.of_entry.ensures, c.requires.has.0, c.requires.has.1)
