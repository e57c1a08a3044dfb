use Rattle.std.proofs.Common.{Ok, Err, inl, inr, refl, sym, subst}
use Rattle.std.specs.Prelude.{◌⊎◌, true, IsTrue, Result, Option, IfSome, OnOk, OnErr}
use Rattle.pana_sums.specs.declared.signature.Signature.{Signature}
use Rattle.pana_scan.specs.Quick.{IsKept}
use Rattle.pana_scan.proofs.quick_disk.QuickDisk.is_same.Goals as goal

either : {T E : Type 0} (result : Result T E) (P Q : Type 0) → OnOk result P → OnErr result Q → Q ⊎ P
either (Ok x) P Q ok err = inr ok
either (Err e) P Q ok err = inl err

pub returns-clause-kept : goal.returns-clause-kept
returns-clause-kept g c =
    elim (either c.keep.result _ _ c.keep.ensures.ok c.keep.ensures.err) [
      | inl same ↦ inl same
      | inr kept ↦ inr (subst (λ (before : Option Signature). IfSome before (λ first. IsTrue true × IsKept c.args.self.now.begun first c.args.digest c.args.self.now.sums.kept c.keep.new.self.sums.kept)) (sym c.in-Some.ensures.first) (refl, kept))
    ]
