use Rattle.std.proofs.Common.{◌≡◌, ◌++◌, ◌∷◌, [], ◌∙◌, ap, sym, subst, append_assoc, List, rules}
use Rattle.std.specs.List.Sorted.{IsPermutation}
use Rattle.pana_scan.specs.Order.{Path}
use Rattle.pana_scan.proofs.Looked.{dealt_one, dealt_other}
use Rattle.pana_scan.proofs.looking.deal.Goals as goal
use Rattle.pana_scan.proofs.looking.deal.Goals.{then-is_next+in_ok-push, else-is_next+in_ok-push-2}

pub loop-path-preserved : goal.loop-path-preserved
loop-path-preserved c =
    let so_far = c.loop-path.invariant.dealt.0 in
    let one = c.loop-path.one.items in
    let other = c.loop-path.other.items in
    let path : Path = c.in-Some.path in
    let split : c.args.files.items ≡ (so_far ++ path ∷ []) ++ c.next.new.self.rest.items =
    c.loop-path.invariant.dealt.1 ∙ ap (λ (l : List Path). so_far ++ l) c.in-Some.ensures.steps.0 ∙ sym (append_assoc so_far (path ∷ []) c.next.new.self.rest.items) in
    let moved : IsPermutation (so_far ++ path ∷ []) (c.if-is_next.one.items ++ c.if-is_next.other.items) = elim c.if-is_next.branch [
      | then-is_next+in_ok-push w ↦
          let first : c.if-is_next.one.items ≡ one ++ path ∷ [] = search rules in
          let second : c.if-is_next.other.items ≡ other = search rules in
          subst (λ (l : List Path). IsPermutation (so_far ++ path ∷ []) (l ++ c.if-is_next.other.items)) (sym first)
          (subst (λ (l : List Path). IsPermutation (so_far ++ path ∷ []) ((one ++ path ∷ []) ++ l)) (sym second)
          (dealt_one so_far one other path c.loop-path.invariant.dealt.2))
      | else-is_next+in_ok-push-2 w ↦
          let first : c.if-is_next.one.items ≡ one = search rules in
          let second : c.if-is_next.other.items ≡ other ++ path ∷ [] = search rules in
          subst (λ (l : List Path). IsPermutation (so_far ++ path ∷ []) (l ++ c.if-is_next.other.items)) (sym first)
          (subst (λ (l : List Path). IsPermutation (so_far ++ path ∷ []) (one ++ l)) (sym second)
          (subst (λ (l : List Path). IsPermutation (so_far ++ path ∷ []) l) (append_assoc one other (path ∷ []))
          (dealt_other so_far one other path c.loop-path.invariant.dealt.2)))
    ] in
    record { next = tt; ends = tt; dealt = (so_far ++ path ∷ [], split, moved) }
