-- What has come of calls without answers, which were asked for at once.
use Rattle.std.proofs.Common.{◌≡◌, ◌⊎◌, inl, inr, ◌<◌, ◌≤◌, ℕ, ◌+◌, Bool, IsTrue, List, [], ◌∷◌, ◌++◌, length, refl, sym, subst, ◌∙◌, append-nil}
use native.Mathlib.Omega.{arith}
use Rattle.std.specs.List.{AllByRecursion}
use Rattle.pana_journal.specs.declared.entry.Entry.{Entry}
use Rattle.pana_calls.specs.declared.message.Message.{Message}
use Rattle.pana_shared.specs.declared.record.Record.{Record}
use Rattle.pana_shared.specs.Log.{Grows, IsAt, IsOneOf, Lands, LogView, ours}
use Rattle.pana_shared.proofs.Grown.{at_more}
use Rattle.pana_shared_store.specs.Store.{AreFirst, TriesBy, recorded_all}
use Rattle.pana_shared_store.specs.inner.{AreBefore}
use Rattle.pana_shared_store.proofs.Followed.{page_first}
use Rattle.pana_shared_laws.specs.Groups.{AreGroups}
use Rattle.pana_shared_laws.proofs.Fine.{IsAsked, IsFine, at_within_some, before_later, came, first_more, goes_within, grown_length, is_behind, still_turns}
use Rattle.pana_shared_laws.proofs.Recorded.{all_before, all_entries, all_late, all_made, all_own, made_length}
use Rattle.pana_shared_laws.proofs.Rested.{Rest, rest_early, rest_late, rest_loud, rest_quiet}

module _ (is_known : Bool) (known : IsTrue is_known) (w : ℕ) (old : List Entry) (before turn : ℕ) (seen_old : LogView) (fine : IsFine w old before seen_old) (calls : List Message) (new : List Entry) (seen_new : LogView) (tries : TriesBy is_known before turn old seen_old calls new seen_new) where
  -- what they make, as records
  abbrev pub asked_records : List Record
  asked_records = recorded_all w tries.from tries.on.asked

  abbrev Own : Type 0
  Own = Grows seen_old [] seen_new.records ⊎ (Grows seen_old asked_records seen_new.records × IsAt (length new) asked_records seen_new.records)

  own_tries : Own
  own_tries = subst (λ (n : ℕ). Grows seen_old [] seen_new.records ⊎ (Grows seen_old (recorded_all n tries.from tries.on.asked) seen_new.records × IsAt (length new) (recorded_all n tries.from tries.on.asked) seen_new.records)) fine.writer (tries.on.own known)

  grown_tries : length seen_old.records ≤ length seen_new.records
  grown_tries = by_own own_tries where
    by_own : Own → length seen_old.records ≤ length seen_new.records
    by_own (inl none) = let l = grown_length seen_old [] seen_new.records none in omega (arith, l)
    by_own (inr (all, there)) = let l = grown_length seen_old asked_records seen_new.records all in omega (arith, l)

  loose_tries : length seen_new.records ≤ seen_new.at → (g : List Record) → IsOneOf g seen_new.loose → ((seen_new.at ≡ seen_old.at) × IsOneOf g seen_old.loose) ⊎ (g ≡ asked_records)
  loose_tries alive g one = subst (λ (n : ℕ). ((seen_new.at ≡ seen_old.at) × IsOneOf g seen_old.loose) ⊎ (g ≡ recorded_all n tries.from tries.on.asked)) fine.writer (tries.on.loose known alive g one)

  own_asked : AllByRecursion (λ r. r.writer ≡ w) asked_records
  own_asked = all_own w tries.from tries.on.asked

  late_asked : AllByRecursion (λ r. before < r.turn) asked_records
  late_asked = all_late w tries.from before tries.on.asked tries.later

  early_asked : AreBefore (turn + 1) asked_records
  early_asked = before_later (tries.from + length tries.on.asked) (turn + 1) asked_records (let l = made_length new calls tries.on.asked tries.on.made in let u = tries.until in omega (arith, l, u)) (all_before w tries.from tries.on.asked)

  pub turn_tries : before ≤ turn
  turn_tries = let l = tries.later in let u = tries.until in omega (arith, l, u)

  pub fine_tries : IsFine w new turn seen_new
  fine_tries = record {
    first = tries.on.first known;
    writer = tries.on.writer known ∙ fine.writer;
    turns = by_own own_tries;
    loose = λ alive g one. by_one alive g (loose_tries alive g one);
  } where
    by_own : Own → AreBefore (turn + 1) (ours w seen_new.records)
    by_own (inl none) = still_turns w old before seen_old fine turn [] seen_new.records none turn_tries tt
    by_own (inr (all, there)) = still_turns w old before seen_old fine turn asked_records seen_new.records all turn_tries early_asked

    by_one : length seen_new.records ≤ seen_new.at → (g : List Record) → ((seen_new.at ≡ seen_old.at) × IsOneOf g seen_old.loose) ⊎ (g ≡ asked_records) → IsAsked w new turn seen_new g
    by_one alive g (inl (place, one)) =
        let asked = fine.loose (let l = grown_tries in omega (arith, l, place, alive)) g one in
        record { own = asked.own; early = before_later (before + 1) (turn + 1) g (let l = turn_tries in omega (arith, l)) asked.early; at = (let a = asked.at in let l = goes_within old new tries.on.goes_on in omega (arith, a, l, place)) }
    by_one alive g (inr is) = record {
      own = subst (λ (l : List Record). AllByRecursion (λ r. r.writer ≡ w) l) (sym is) own_asked;
      early = subst (λ (l : List Record). AreBefore (turn + 1) l) (sym is) early_asked;
      at = (let p = tries.on.place known in omega (arith, p));
    }

  -- all that they make stands in the log in the end
  pub record Came (records : List Record) (groups : List (ℕ × List Record)) : Type 0 where
    pub late : length seen_old.records ≤ length new
    pub first : AreFirst (new ++ all_made tries.on.asked) records
    pub rest : Rest w records seen_old ((length new, asked_records) ∷ groups)

  -- so does nothing of it, or all
  abbrev pub Comes : List Record → List (ℕ × List Record) → Type 0
  Comes records groups = Rest w records seen_old groups ⊎ Came records groups

  module _ (records : List Record) (groups : List (ℕ × List Record)) (rest : Rest w records seen_new groups) where
    first_asked : IsAt (length new) asked_records records → AreFirst (new ++ all_made tries.on.asked) records
    first_asked there =
        page_first new (all_made tries.on.asked) [] asked_records records (first_more new seen_new.records rest.more records (tries.on.first known) rest.is) there (all_entries w tries.from tries.on.asked ∙ sym (append-nil (all_made tries.on.asked)))

    -- nothing of it has come by the end of the calls
    none_yet : Grows seen_old [] seen_new.records → Comes records groups
    none_yet grows = by_lands rest.lands where
      came_none : AreGroups (length seen_old.records) w grows.more ((seen_old.at, grows.landed) ∷ (length new, []) ∷ [])
      came_none = came w old before seen_old fine new [] seen_new.records grows tries.on.goes_on tt tt (λ some. absurd (some refl))

      by_loose : length seen_new.records ≤ seen_new.at → IsAt seen_new.at rest.landed records → ((seen_new.at ≡ seen_old.at) × IsOneOf rest.landed seen_old.loose) ⊎ (rest.landed ≡ asked_records) → Comes records groups
      by_loose alive there (inl was) = inl (rest_quiet w records seen_old seen_new grows (length new) groups rest came_none (λ alive one. was))
      by_loose alive there (inr is) = inr (record {
        late = (let l = grown_tries in let p = tries.on.place known in omega (arith, l, p, alive));
        first = first_asked (subst (λ (l : List Record). IsAt (length new) l records) is (subst (λ (n : ℕ). IsAt n rest.landed records) (tries.on.place known) there));
        rest = rest_late w records seen_old seen_new grows (length new) groups rest came_none asked_records is (tries.on.place known);
      })

      by_lands : Lands seen_new rest.landed records → Comes records groups
      by_lands (inl none) = inl (rest_early w records seen_old seen_new grows (length new) groups rest came_none none)
      by_lands (inr (one, alive, there)) = by_loose alive there (loose_tries alive rest.landed one)

    -- it was there by then
    there_then : (r : Record) (others : List Record) → r ∷ others ≡ asked_records → Grows seen_old asked_records seen_new.records → IsAt (length new) asked_records seen_new.records → Came records groups
    there_then r others is grows there = record {
      late = behind;
      first = first_asked (subst (λ (l : List Record). IsAt (length new) asked_records l) (sym rest.is) (at_more (length new) asked_records seen_new.records rest.more there));
      rest = rest_loud w records seen_old seen_new asked_records grows (length new) groups rest
          (came w old before seen_old fine new asked_records seen_new.records grows tries.on.goes_on own_asked late_asked (λ some. (there, behind)))
          (λ alive g one. (let within = at_within_some (length new) asked_records seen_new.records (λ none. (let f : r ∷ others ≡ [] = is ∙ none in cc)) there in let p = tries.on.place known in omega (arith, within, p, alive)));
    } where
      later : before < r.turn
      later = (subst (λ (l : List Record). AllByRecursion (λ x. before < x.turn) l) (sym is) late_asked).0

      own : r.writer ≡ w
      own = (subst (λ (l : List Record). AllByRecursion (λ x. x.writer ≡ w) l) (sym is) own_asked).0

      behind : length seen_old.records ≤ length new
      behind =
          is_behind w r.turn seen_old.records grows.more seen_new.records others r (length new) grows.longer (before_later (before + 1) r.turn (ours w seen_old.records) (let l = later in omega (arith, l)) fine.turns) own refl
          (subst (λ (l : List Record). IsAt (length new) l seen_new.records) (sym is) there)

    pub comes : Comes records groups
    comes = by_own own_tries where
      by_asked : (g : List Record) → g ≡ asked_records → Grows seen_old asked_records seen_new.records → IsAt (length new) asked_records seen_new.records → Comes records groups
      by_asked [] is grows there = none_yet (subst (λ (l : List Record). Grows seen_old l seen_new.records) (sym is) grows)
      by_asked (r ∷ others) is grows there = inr (there_then r others is grows there)

      by_own : Own → Comes records groups
      by_own (inl none) = none_yet none
      by_own (inr (all, there)) = by_asked asked_records refl all there
