use Rattle.pana_hall.proofs.Words.{◌≡◌, ◌++◌, [], ◌∷◌, sym, ap, ◌∙◌, begun_or_joined, families, subject, is_of_copies, family_of_next, knowns_of, sets_at, layer}
use Rattle.pana_hall.proofs.{Sound.family_new, Sound.accepted_is_sound, Knowns.knowns_of-push, Stood.above_sets, Stood.below_sets, Stood.register_sets}
use Rattle.pana_hall.proofs.Tables.{layer_confirm, layer_other, layer_report, layer_undone, layer_withdraw}
use Rattle.pana_hall.proofs.laws.sets_go_by_report.Goals as goal

pub returns : goal.returns
returns c = record {
  report = λ journal entry accepted accepts is.
      let sound = accepted_is_sound 8 journal accepted in
      record {
        now = ap knowns_of (layer_report 8 journal entry sound accepts is) ∙ knowns_of-push (layer 8 0 (family_of_next journal entry) journal) entry;
        undone = λ k within. ap knowns_of (layer_undone 8 k journal entry sound accepts is within);
      };
  withdraw = λ journal entry m k accepted accepts is. ap knowns_of (layer_withdraw 8 m k journal entry (accepted_is_sound 8 journal accepted) accepts is);
  confirm = λ journal entry m k accepted accepts is within. ap knowns_of (layer_confirm 8 m k journal entry (accepted_is_sound 8 journal accepted) accepts is within);
  other = λ journal entry family k accepted accepts is. ap knowns_of (layer_other 8 k family journal entry (accepted_is_sound 8 journal accepted) accepts is);
  begun = λ journal entry place sum accepted accepts is.
      let sound = accepted_is_sound 8 journal accepted in
      let own : family_of_next journal entry ≡ entry.number = family_new journal entry ∙ ap (λ r. begun_or_joined (families journal) entry.number (subject r)) is in
      ap (λ f. sets_at 0 f (journal ++ entry ∷ [])) (sym own) ∙ ap knowns_of (layer_report 8 journal entry sound accepts (ap is_of_copies is)) ∙ register_sets journal entry sound accepts place is;
  above = λ journal family accepted. above_sets journal family accepted;
  below = λ journal family accepted. below_sets journal family accepted;
}
