use Rattle.std.proofs.Common.{◌≡◌, ◌==◌, Bool, true, false, List, ◌++◌, [], ◌∷◌, cond, refl, subst, sym, ap, ◌∙◌, append_assoc, append-nil}
use Rattle.pana_journal.specs.declared.entry.Entry.{Entry}
use Rattle.pana_hall.specs.Accepted.{IsAccepted}
use Rattle.pana_hall.proofs.Sound.{accepted_is_sound, keeps_families}
use Rattle.pana_history.specs.Lanes.{own_entries}
use Rattle.pana_history.proofs.Gathered.{families_next, split_accepted}
use Rattle.pana_history.proofs.Own.{own_push}
use Rattle.pana_history.proofs.families.own_entries.Goals as goal

pushed : (b : Bool) (entries : List Entry) (e : Entry) → cond b (entries ++ e ∷ []) entries ≡ entries ++ cond b (e ∷ []) []
pushed true entries e = refl
pushed false entries e = sym (append-nil entries)

pub loop-entry-preserved : goal.loop-entry-preserved
loop-entry-preserved c =
    let loop = c.loop-entry in
    let so_far = loop.yielded in
    let entry = c.in-Some.entry in
    let whole = loop.invariant.whole ∙ ap (λ l. so_far ++ l) c.in-Some.ensures.steps.0 in
    let parts = split_accepted so_far entry c.next.new.self.rest.items (subst (IsAccepted 8) whole c.requires) in
    let next = families_next loop.table.families.items so_far entry c.in-Ok.of c.take.new.self.families.items loop.invariant.families parts.1.next c.in-Ok.ensures.family c.in-Ok.ensures.more in
    record {
      whole = whole ∙ sym (append_assoc so_far (entry ∷ []) c.next.new.self.rest.items);
      families = next.0;
      entries =
          let own = own_entries so_far c.args.family in
          let keeps = keeps_families 8 so_far entry (accepted_is_sound 8 so_far parts.0) parts.1.next in
          c.in_ok-entries.ensures ∙ ap (λ es. cond (c.in-Ok.of == c.args.family) (es ++ entry ∷ []) es) loop.invariant.entries
          ∙ pushed (c.in-Ok.of == c.args.family) own entry
          ∙ ap (λ f. own ++ cond (f == c.args.family) (entry ∷ []) []) next.1 ∙ sym (own_push c.args.family so_far entry keeps);
    }
