use Rattle.std.proofs.Common.{◌==◌, ◌++◌, [], ◌∷◌, cond, subst, sym, ap, ◌∙◌, append_assoc}
use Rattle.pana_hall.specs.Accepted.{IsAccepted}
use Rattle.pana_hall.proofs.Sound.{accepted_is_sound}
use Rattle.pana_history.specs.Lacking.{family_entries}
use Rattle.pana_history.specs.inner.Families.{with_next}
use Rattle.pana_history.proofs.Gathered.{entries_next, families_next, split_accepted}
use Rattle.pana_history.proofs.families.family_entries.Goals as goal

pub loop-entry-preserved : goal.loop-entry-preserved
loop-entry-preserved c =
    let loop = c.loop-entry in
    let so_far = loop.yielded in
    let entry = c.in-Some.entry in
    let whole = loop.invariant.whole ∙ ap (λ l. so_far ++ l) c.in-Some.ensures.steps.0 in
    let parts = split_accepted so_far entry c.next.new.self.rest.items (subst (IsAccepted 8) whole c.requires) in
    let next = families_next loop.table.families.items so_far entry c.in-Ok.of c.take.new.self.families.items loop.invariant.families parts.1.next c.in-Ok.ensures.family c.in-Ok.ensures.more in
    record {
      whole = whole ∙ sym (append_assoc so_far (entry ∷ []) c.next.new.self.rest.items);
      families = next.0;
      entries =
          let own = family_entries so_far c.args.family in
          let sound = accepted_is_sound 8 so_far parts.0 in
          c.in_ok-entries.ensures ∙ ap (λ es. cond (c.in-Ok.of == c.args.family) (with_next entry es) es) loop.invariant.entries
          ∙ ap (λ f. cond (f == c.args.family) (with_next entry own) own) next.1 ∙ sym (entries_next c.args.family so_far entry sound parts.1);
    }
