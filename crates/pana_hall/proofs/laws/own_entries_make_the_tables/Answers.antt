use Rattle.pana_hall.proofs.{Sound.accepted_is_sound, Tables.table_own}
use Rattle.pana_hall.proofs.laws.own_entries_make_the_tables.Goals as goal

pub returns : goal.returns
returns c = λ journal k family accepted. table_own 8 k family journal (accepted_is_sound 8 journal accepted)
