use Rattle.pana_family.proofs.Words.{◌∙◌, ap, sym, List, Exchange, Put, Take, exchanged_all}
use Rattle.pana_family.specs.inner.Making.{left_of}
use Rattle.pana_family.specs.declared.settling.Fate.TheVariants.{Goes, Becomes}
use Rattle.pana_family.proofs.Planned.{exchanged_more}
use Rattle.pana_family.proofs.settling.add_exchange.Goals as goal

pub returns-in_ok-push-in-Goes : goal.returns-in_ok-push-in-Goes
returns-in_ok-push-in-Goes c = record {
  fate = Goes;
  is = ap (left_of c.args.row.now) (sym c.in-Goes.is) ∙ c.in_ok-planned_fate.ensures;
  made = λ rows. ap (λ (l : List Exchange). exchanged_all l rows) c.in_ok-push-in-Goes.ensures.ok ∙ exchanged_more c.args.news.now.items (Take c.args.row.now.copy) rows;
}

pub returns-in_ok-push-in-Becomes : goal.returns-in_ok-push-in-Becomes
returns-in_ok-push-in-Becomes c = record {
  fate = Becomes c.in-Becomes.new;
  is = ap (left_of c.args.row.now) (sym c.in-Becomes.is) ∙ c.in_ok-planned_fate.ensures;
  made = λ rows. ap (λ (l : List Exchange). exchanged_all l rows) c.in_ok-push-in-Becomes.ensures.ok ∙ exchanged_more c.args.news.now.items (Put c.in-Becomes.new) rows;
}
