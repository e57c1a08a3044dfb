-- Where a call stands that has asked for nothing.
use Rattle.std.proofs.Common.{◌≡◌, ◌≢◌, ◌≤◌, ℕ, Bool, IsTrue, List, [], ◌∷◌, length, refl, ◌∙◌}
use native.Mathlib.Omega.{arith}
use Rattle.pana_journal.specs.declared.entry.Entry.{Entry}
use Rattle.pana_shared.specs.declared.record.Record.{Record}
use Rattle.pana_shared.specs.Log.{Grows, IsOneOf, LogView}
use Rattle.pana_shared_store.specs.Store.{StaysOn, recorded}
use Rattle.pana_shared_laws.specs.Groups.{AreGroups}
use Rattle.pana_shared_laws.proofs.Fine.{IsFine, came, grown_length, still_loose, still_turns}
use Rattle.pana_shared_laws.proofs.Rested.{Rest, rest_loud, rest_quiet, rest_slip}

pub rest_call : (w turn : ℕ) (records : List Record) (old new : LogView) (at : ℕ) (groups : List (ℕ × List Record)) (rest : Rest w records new groups) → (length new.records ≤ new.at → IsOneOf rest.landed new.loose → (new.at ≡ old.at) × IsOneOf rest.landed old.loose)
    → (made : List Entry) (grows : Grows old (recorded w turn made) new.records) → AreGroups (length old.records) w grows.more ((old.at, grows.landed) ∷ (at, recorded w turn made) ∷ []) → (made ≢ [] → length new.records ≤ new.at → (g : List Record) → IsOneOf g new.loose → ⊥)
    → Rest w records old ((at, recorded w turn made) ∷ groups)
rest_call w turn records old new at groups rest fewer [] grows came gone = rest_slip w records old at groups (rest_quiet w records old new grows at groups rest came fewer)
rest_call w turn records old new at groups rest fewer (e ∷ es) grows came gone = rest_loud w records old new (recorded w turn (e ∷ es)) grows at groups rest came (gone (λ none. (let f : e ∷ es ≡ [] = none in cc)))

module _ (is_known : Bool) (known : IsTrue is_known) (w : ℕ) (old : List Entry) (before turn : ℕ) (seen_old : LogView) (fine : IsFine w old before seen_old) (new : List Entry) (seen_new : LogView) (stays : StaysOn is_known old seen_old new seen_new) (later : before ≤ turn) where
  grown_stays : length seen_old.records ≤ length seen_new.records
  grown_stays = let l = grown_length seen_old [] seen_new.records (stays.own known) in omega (arith, l)

  pub fine_stays : IsFine w new turn seen_new
  fine_stays = record {
    first = stays.first known;
    writer = (stays.follows known).0 ∙ fine.writer;
    turns = still_turns w old before seen_old fine turn [] seen_new.records (stays.own known) later tt;
    loose = λ alive group one. (still_loose w old before seen_old fine new turn seen_new stays.goes_on later grown_stays (stays.follows known) alive group one).2;
  }

  pub rest_stays : (records : List Record) (groups : List (ℕ × List Record)) → Rest w records seen_new groups → Rest w records seen_old ((length new, []) ∷ groups)
  rest_stays records groups rest =
      rest_call w turn records seen_old seen_new (length new) groups rest
      (λ alive one. (let was = still_loose w old before seen_old fine new turn seen_new stays.goes_on later grown_stays (stays.follows known) alive rest.landed one in (was.0, was.1)))
      [] (stays.own known) (came w old before seen_old fine new [] seen_new.records (stays.own known) stays.goes_on tt tt (λ some. absurd (some refl))) (λ some. absurd (some refl))
