use Rattle.std.proofs.Common.{◌∙◌, sym, ap, subst, refl, inl, inr, List, ℕ, Some}
use Rattle.std.specs.Prelude.{Result, Ok}
use Rattle.std.proofs.lemmas.Result.{err_from_is_err_and}
use Rattle.pana_ignore.specs.declared.pattern.Pattern.{Pattern}
use Rattle.pana_track.specs.declared.read_fault.ReadFault.{ReadFault}
use Rattle.pana_track.specs.IgnoreFile.{ReadsPatterns}
use Rattle.pana_track.proofs.Searched.{text_not_taken, text_taken, unread, unsearched}
use Rattle.pana_track.proofs.ignore_file.patterns_in.Goals as goal

pub returns-in_err-has_ignore_file : goal.returns-in_err-has_ignore_file
returns-in_err-has_ignore_file g c = record {
  known = λ known.
      let p = err_from_is_err_and c.from_residual.result c.from_residual.ensures.1 in
      rw (p.1, p.2) (unsearched (g.D.Disk.tree c.args.disk.now) c.args.root.now c.in_err-has_ignore_file.field-0.0 (c.in_err-has_ignore_file.ensures.known known));
}

pub returns-then-not-branch : goal.returns-then-not-branch
returns-then-not-branch g c = record {
  known = λ known. inr (inl (sym (c.in_ok-has_ignore_file.ensures.known known) ∙ c.if-not-branch.true, ap Ok c.new.ensures));
}

pub returns-in_err-text : goal.returns-in_err-text
returns-in_err-text g c = record {
  known = λ known.
      let p = err_from_is_err_and c.from_residual-in_err-text.result c.from_residual-in_err-text.ensures.1 in
      rw (p.1, p.2) (unread (g.D.Disk.tree c.args.disk.now) (g.D.Disk.tree c.has_ignore_file.new.disk) c.args.root.now c.as_str.result.now c.in_ok-has_ignore_file.field-0
      (c.in_ok-has_ignore_file.ensures.tree known) (c.in_ok-has_ignore_file.ensures.known known) c.if-not-branch.false
      (c.as_str.ensures.value ∙ c.in_ok-file.ensures.ok) c.in_err-text.field-0.0 (c.in_err-text.ensures.err known));
}

pub returns-in_err-read : goal.returns-in_err-read
returns-in_err-read g c = record {
  known = λ known.
      let p = err_from_is_err_and c.from_residual-in_err-read.result c.from_residual-in_err-read.ensures.1 in
      subst (λ (r : Result (List Pattern) ReadFault). ReadsPatterns (g.D.Disk.tree c.args.disk.now) c.args.root.now r) (sym p.1)
      (text_not_taken (g.D.Disk.tree c.args.disk.now) (g.D.Disk.tree c.has_ignore_file.new.disk) c.args.root.now c.as_str.result.now c.as_slice.result.now c.in_ok-has_ignore_file.field-0
      (c.in_ok-has_ignore_file.ensures.tree known) (c.in_ok-has_ignore_file.ensures.known known) c.if-not-branch.false
      (c.as_str.ensures.value ∙ c.in_ok-file.ensures.ok) (c.in_ok-text.ensures.ok known ∙ ap (λ (l : List ℕ). Some l) (sym c.as_slice.ensures.value)) c.in_err-read.field-0.0 p.0 p.2 c.in_err-read.ensures.others);
}

pub returns : goal.returns
returns g c = record {
  known = λ known.
      text_taken (g.D.Disk.tree c.args.disk.now) (g.D.Disk.tree c.has_ignore_file.new.disk) c.args.root.now c.as_str.result.now c.as_slice.result.now c.in_ok-has_ignore_file.field-0
      (c.in_ok-has_ignore_file.ensures.tree known) (c.in_ok-has_ignore_file.ensures.known known) c.if-not-branch.false
      (c.as_str.ensures.value ∙ c.in_ok-file.ensures.ok) (c.in_ok-text.ensures.ok known ∙ ap (λ (l : List ℕ). Some l) (sym c.as_slice.ensures.value)) c.in_ok-read.field-0 (Ok c.in_ok-read.field-0) refl c.in_ok-read.ensures.ok c.in_ok-read.ensures.fault;
}
