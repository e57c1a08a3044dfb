use Rattle.pana_hall.proofs.Words.{◌≡◌, ℕ, zero, suc, ◌-◌, ◌==◌, cond, List, [], ◌∷◌, ◌++◌, Option, None, option_and_then, slice_get, refl, ap, ◌∙◌, arith, nat_tests, content_at}
use Rattle.pana_hall.specs.inner.Contents.{listed_entry, some_entry, written}
use Rattle.pana_hall.specs.declared.contents.Saying.{Saying}
use Rattle.pana_hall.proofs.contents.Contents.push.Goals as goal

-- a place more, with no entry
get_push : (entries : List ℕ) (i : ℕ) → option_and_then some_entry (slice_get (entries ++ 0 ∷ []) i) ≡ option_and_then some_entry (slice_get entries i)
get_push [] zero = refl
get_push [] (suc i) = refl
get_push (e ∷ entries) zero = refl
get_push (e ∷ entries) (suc i) = get_push entries i

content_push : (entries : List ℕ) (n : ℕ) → content_at (entries ++ 0 ∷ []) n ≡ content_at entries n
content_push entries n = ap (cond (n == 0) None) (get_push entries (n - 1))

-- what is kept as it was written is written as it is
written_listed : (saying : Option Saying) (f g : ℕ → Option ℕ) (n : ℕ) → f n ≡ listed_entry (g n) → listed_entry (written saying f n) ≡ listed_entry (written saying g n)
written_listed saying f g n same = grind (arith, nat_tests)

same_written : (saying : Option Saying) (f g : ℕ → Option ℕ) (n : ℕ) → f n ≡ g n → written saying f n ≡ written saying g n
same_written saying f g n same = grind (arith, nat_tests)

pub returns-clause-at : goal.returns-clause-at
returns-clause-at c = λ number.
    let old = c.args.self.now.entries.items in
    let first = c.args.sayings.first in
    let second = c.args.sayings.second in
    let begun : content_at c.push_reserved.new.self.items number ≡ content_at old number = ap (λ l. content_at l number) c.push_reserved.ensures.items ∙ content_push old number in
    c.write-2.ensures.at number
    ∙ written_listed second _ (written first (content_at old)) number (c.write.ensures.at number ∙ ap listed_entry (same_written first _ (content_at old) number begun))
