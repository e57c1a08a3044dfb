-- Events as lists of their numbers, by which a proof distinguishes two events.
use Rattle.std.specs.Prelude.{◌≡◌, ℕ, Bool, true, false, List, [], ◌∷◌, refl}
use Rattle.std.proofs.Common.{◌∙◌}
use Rattle.std.specs.Coded.{Coded, code_by, coded_bool, coded_list, coded_ℕ, coded×}
use Rattle.pana_event.specs.Event.{Event, leaf, fork}

-- an event's numbers, each fork after its halves and marked true, before a rest
abbrev pub placed : Event → List (Bool × ℕ) → List (Bool × ℕ)
placed (leaf n) rest = (false, n) ∷ rest
placed (fork n l r) rest = placed l (placed r ((true, n) ∷ rest))

-- the last of two or more events under a number, before the others
abbrev pub forked : ℕ → List Event → List Event
forked n (r ∷ l ∷ done) = fork n l r ∷ done
forked n done = done

-- the first of some events
abbrev pub first : List Event → Event
first [] = leaf 0
first (e ∷ done) = e

-- the event that is placed in a list, read with those that are done
abbrev pub read : List (Bool × ℕ) → List Event → Event
read [] done = first done
read ((false, n) ∷ rest) done = read rest (leaf n ∷ done)
read ((true, n) ∷ rest) done = read rest (forked n done)

-- what was placed is read
pub read-placed : (e : Event) (rest : List (Bool × ℕ)) (done : List Event) → read (placed e rest) done ≡ read rest (e ∷ done)
read-placed (leaf n) rest done = refl
read-placed (fork n l r) rest done =
    read-placed l (placed r ((true, n) ∷ rest)) done ∙ read-placed r ((true, n) ∷ rest) (l ∷ done)

-- the code of events
abbrev pub event_code : Coded Event
event_code =
    code_by (List (Bool × ℕ)) (coded_list (coded× coded_bool coded_ℕ)) (λ e. placed e []) (λ places. read places []) (λ e. read-placed e [] [])
