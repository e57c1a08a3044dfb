-- Stores that share a log have one history.
use Rattle.std.proofs.Common.{◌≡◌, ℕ, Bool, IsTrue, List, [], length, map, Option, Some, None, refl}
use native.Mathlib.Omega.{arith}
use Rattle.std.specs.Prelude.{MatchOption}
use Rattle.std.specs.List.{AllByRecursion}
use Rattle.pana_shared.specs.declared.record.Record.{Record}
use Rattle.pana_shared.specs.Log.{ours}
use Rattle.pana_shared_laws.specs.Groups.{AreGroups}
use Rattle.pana_shared_laws.specs.Lives.{IsLife, Life, Share}
use Rattle.pana_shared_laws.specs.OneHistory.{AreOf, IsOneHistory, Standing, StandsIn, group_of}
use Rattle.pana_shared_laws.proofs.Lived.{lived}
use Rattle.pana_shared_laws.proofs.Merged.{merge}

module _ (is_known : Bool) (known : IsTrue is_known) (records : List Record) where
  -- what is known of one writer's calls
  record Of (w : ℕ) (store : Option Life) : Type 0 where
    pub calls : List Standing
    pub own : MatchOption store (calls ≡ []) (λ life. AreOf w records life calls)
    pub once : AreGroups 0 w records (map (λ call. group_of w call) calls)
    pub stand : AllByRecursion (λ call. StandsIn records call) calls

  of : (w : ℕ) (store : Option Life) → MatchOption store (ours w records ≡ []) (λ life. IsLife is_known w records life) → Of w store
  of w None none = record { calls = []; own = refl; once = none; stand = tt }
  of w (Some life) is = let told = lived is_known known w records life is in record { calls = told.0; own = told.1; once = told.1.once; stand = told.1.stand }

  pub one_history : (stores : ℕ → Option Life) → Share is_known stores records → IsOneHistory stores records
  one_history stores share =
      let all = λ (w : ℕ). of w (stores w) (share w) in
      let merged = merge records (length records) [] records (λ w. (all w).calls) (omega arith) refl (λ w. (all w).once) (λ w. (all w).stand) in
      record {
        calls = λ w. (all w).calls;
        own = λ w. (all w).own;
        turns = merged.turns;
        run = merged.run;
        journal = merged.journal;
        behind = merged.behind;
        each = merged.each;
      }
