use Rattle.pana_hall.proofs.Words.{◌≡◌, sym, ap, ◌∙◌, Entry, displaced}
use Rattle.pana_hall.proofs.{Sound.accepted_is_sound, Tables.ends_at, Places.back_in_table, Places.back_at}
use Rattle.pana_hall.proofs.laws.withdraw_brings_back_from_the_table.Goals as goal

pub returns : goal.returns
returns c = record {
  table = λ journal entry number copy accepted last_one at moves.
      let sound = accepted_is_sound 8 journal accepted in
      let ends = ends_at 8 number journal sound last_one in
      let same : entry ≡ ends.last = let here = ends.at in cc in
      back_in_table sound ends copy (ap (λ (e : Entry). displaced e.report) (sym same) ∙ moves);
  lives = λ journal entry number copy accepted last_one at moves.
      let ends = ends_at 8 number journal (accepted_is_sound 8 journal accepted) last_one in
      let same : entry ≡ ends.last = let here = ends.at in cc in
      let back = back_at journal number copy accepted ends (ap (λ (e : Entry). displaced e.report) (sym same) ∙ moves) in (back.copy, back.is, back.number);
}
