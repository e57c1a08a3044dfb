use Rattle.std.proofs.lemmas.Result.{IfOk-weaker}
use Rattle.pana_commands.proofs.Compared.{first_fault, second_fault, both_read}
use Rattle.pana_commands.proofs.comparing.compare_on.Goals as goal

pub returns-in-Err : goal.returns-in-Err
returns-in-Err c = IfOk-weaker c.of_fault.result _ _
    (λ answer says. first_fault c.args.a.now c.args.b.now c.in-Err.fault answer c.in-Err.ensures.says says) c.of_fault.ensures

pub returns-in-Err-read : goal.returns-in-Err-read
returns-in-Err-read c = IfOk-weaker c.of_fault-in-Err-read.result _ _
    (λ answer says. second_fault c.args.a.now c.args.b.now c.in-Ok.stamp.id c.in-Ok.stamp.event c.in-Err-read.fault answer
    c.in-Ok.ensures.found c.in-Err-read.ensures.says says)
    c.of_fault-in-Err-read.ensures

pub returns : goal.returns
returns c = IfOk-weaker c.of_relation.result _ _
    (λ answer compares. both_read c.args.a.now c.args.b.now c.in-Ok.stamp.id c.in-Ok-read.stamp.id c.in-Ok.stamp.event c.in-Ok-read.stamp.event answer
    c.in-Ok.ensures.found c.in-Ok-read.ensures.found (compares c.in-Ok.stamp.event c.in-Ok-read.stamp.event c.compare.ensures.relation))
    c.of_relation.ensures
