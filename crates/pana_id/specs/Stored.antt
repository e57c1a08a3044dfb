use Rattle.std.specs.Prelude.{◌≡◌, Bool, true, false, List, [], ◌∷◌, Option, Some, None, refl}
use Rattle.std.proofs.Common.{ap, ◌∙◌}
use Rattle.std.specs.Coded.{Coded, code_by, coded_bool, coded_list, coded_option}
use Rattle.pana_id.specs.Id.{Id, zero_id, one_id, pair}

-- the id in the order in which it is built: a pair comes after its halves
abbrev pub placed : Id → List (Option Bool) → List (Option Bool)
placed zero_id rest = Some false ∷ rest
placed one_id rest = Some true ∷ rest
placed (pair l r) rest = placed l (placed r (None ∷ rest))

-- two ids off a stack, and their pair onto it
abbrev pub paired : List Id → List Id
paired (r ∷ l ∷ rest) = pair l r ∷ rest
paired done = done

-- the stack of ids after the order was followed
abbrev pub built : List (Option Bool) → List Id → List Id
built [] done = done
built (Some false ∷ rest) done = built rest (zero_id ∷ done)
built (Some true ∷ rest) done = built rest (one_id ∷ done)
built (None ∷ rest) done = built rest (paired done)

-- the id on top of the stack
abbrev pub top_of : List Id → Id
top_of [] = zero_id
top_of (i ∷ rest) = i

-- what was placed is built on top of what stood there
pub built-placed : (i : Id) (rest : List (Option Bool)) (done : List Id) → built (placed i rest) done ≡ built rest (i ∷ done)
built-placed zero_id rest done = refl
built-placed one_id rest done = refl
built-placed (pair l r) rest done = built-placed l (placed r (None ∷ rest)) done ∙ built-placed r (None ∷ rest) (l ∷ done)

-- an id is stored as the order in which it is built
abbrev pub id_code : Coded Id
id_code =
    code_by (List (Option Bool)) (coded_list (coded_option coded_bool)) (λ i. placed i []) (λ places. top_of (built places [])) (λ i. ap top_of (built-placed i [] []))
