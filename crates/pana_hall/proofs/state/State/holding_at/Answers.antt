use Rattle.pana_hall.proofs.Words.{Option, arith, nat_tests, ◌≡◌, ℕ, true, cond, Some, None, List, option_map, option_and_then, bytes_eq, refl, sym, ap, ◌∙◌, Place, Spot, holding, families, Copy, living}
use Rattle.pana_hall.proofs.Words.{sets_at}
use Rattle.pana_hall.specs.Living.{sum_of}
use Rattle.pana_hall.proofs.Answered.{found_spot, lives_of, stands_of, touch_of_copy}
use Rattle.pana_hall.proofs.{Moves.found_number, Listed.found_entry}
use Rattle.pana_hall.proofs.state.State.holding_at.Goals as goal

pub family-requires-clause-has : goal.family-requires-clause-has
family-requires-clause-has c = grind (arith, nat_tests, found_spot, found_entry, c.requires.kept.spots, c.get.ensures, c.in-Some.is, c.requires.kept.accepted)

pub touch-requires : goal.touch-requires
touch-requires c =
    let journal = c.args.self.now.journal.entries in
    let copy = found_spot journal c.args.self.now.copies c.args.number _ c.requires.kept.spots (sym c.get.ensures ∙ ap (option_map _) c.in-Some.is) in
    lives_of journal (families journal c.args.number) c.args.number copy.0 _ c.requires.kept.accepted c.family.ensures copy.1 refl

pub returns : goal.returns
returns c =
    let journal = c.args.self.now.journal.entries in
    let copy = found_spot journal c.args.self.now.copies c.args.number _ c.requires.kept.spots (sym c.get.ensures ∙ ap (option_map _) c.in-Some.is) in
    let family = families journal c.args.number in
    let touch : c.touch.result ≡ copy.0.known.touch =
    c.touch.ensures (sets_at 0 family journal) (stands_of journal family _ c.requires.kept.accepted c.family.ensures) ∙ touch_of_copy journal family c.args.number copy.0 c.requires.kept.accepted copy.1 refl in
    let number : copy.0.known.copy ≡ c.args.number = found_number (living journal) c.args.number copy.0 copy.1 in
    let there : copy.0.place ≡ c.in-Some.found.place.now = ap (λ (s : Spot). s.place) copy.2 in
    let own : copy.0.family ≡ c.in-Some.found.family = ap (λ (s : Spot). s.family) copy.2 in
    let path : c.in_ok-path.path ≡ copy.0.place.path = c.in_ok-path.ensures ∙ ap (λ (p : Place). p.path) (sym there) in
    let sum : c.in_ok-sum.sum ≡ sum_of copy.0 = c.in_ok-sum.ensures ∙ ap (option_and_then sum_of) copy.1 in
    let shown : bytes_eq copy.0.place.device c.args.device.now ≡ true = ap (λ (p : Place). bytes_eq p.device c.args.device.now) there ∙ sym c.is_on.ensures ∙ c.if-not-is_on.false in
    sym (ap (option_and_then (λ x. cond (bytes_eq x.place.device c.args.device.now) (Some (holding x)) None)) copy.1
    ∙ ap (λ b. cond b (Some (holding copy.0)) None) shown
    ∙ held_is copy.0 c.args.number c.in-Some.found.family c.in_ok-path.path c.in_ok-sum.sum c.touch.result number own (sym path) (sym sum) (sym touch))
  where
    held_is : (x : Copy) (n f : ℕ) (p : List ℕ) (s : Option (List ℕ)) (t : ℕ) → x.known.copy ≡ n → x.family ≡ f → x.place.path ≡ p → sum_of x ≡ s → x.known.touch ≡ t → Some (holding x) ≡ Some (record { copy = n; family = f; path = p; sum = s; touch = t })
    held_is x n f p s t a b d g e = cc
