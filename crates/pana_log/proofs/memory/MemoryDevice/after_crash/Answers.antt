use Rattle.std.proofs.Common.{◌≡◌, ◌+◌, List, ◌∷◌, ℕ, drop, take, sym, ◌∙◌, ap, subst}
use Rattle.std.proofs.lemmas.List.{drop_more}
use Rattle.pana_log.specs.declared.operation.Operation.{Operation}
use Rattle.pana_log.specs.Operations.{file_after, LeftAfter, Left}
use Rattle.pana_log.proofs.Tears.{left_on}
use Rattle.pana_log.proofs.memory.MemoryDevice.after_crash.Goals as goal

pub loop-operation-preserved : goal.loop-operation-preserved
loop-operation-preserved c d left =
    let operations = take c.min.result c.deref.result.now in
    let i = c.loop-operation.operation-index in
    let operation = c.operation-item.result in
    let durable = c.loop-operation.durable.items in
    let file = c.loop-operation.file.items in
    let P : List Operation → Type 0 = λ l. Left file (λ e. e ≡ durable) l d in
    let split : drop i operations ≡ operation ∷ drop (i + 1) operations = drop_more operations i operation c.loop-operation-test.true ∙ ap (λ (x : Operation). x ∷ drop (i + 1) operations) (sym c.operation-item.is) in
    let here : LeftAfter operation file (λ e. e ≡ durable) c.tear.new.file.items = subst (λ (f : List ℕ). LeftAfter operation f (λ e. e ≡ durable) c.tear.new.file.items) c.deref-in-loop-operation.ensures.value c.in_ok-tear.ensures in
    let is : c.in_ok-file-2.file.items ≡ file_after operation file = c.in_ok-file-2.ensures ∙ ap (λ (f : List ℕ). file_after operation f) c.deref-in-loop-operation-2.ensures.value in
    let on : Left (file_after operation file) (λ e. e ≡ c.tear.new.file.items) (drop (i + 1) operations) d = subst (λ (f : List ℕ). Left f (λ e. e ≡ c.tear.new.file.items) (drop (i + 1) operations) d) is left in
    c.loop-operation.invariant d (subst P (sym split) (left_on (drop (i + 1) operations) operation file durable c.tear.new.file.items here d on))
