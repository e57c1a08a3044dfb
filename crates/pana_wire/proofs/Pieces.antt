-- Tokens that are written one after another, and their text.
use Rattle.std.proofs.Common.{◌≡◌, List, ℕ, [], ◌∷◌, ◌++◌, ap, ◌∙◌, append_assoc}
use Rattle.json.specs.Print.{print}
use Rattle.json.specs.Token.{Token, begin_object, end_object, key}
use Rattle.json.specs.Tree.{json_tokens}
use Rattle.serde_json.specs.Data.{Data, object, member, no_members}
use Rattle.serde_json.specs.Written.{compact_text, outline}
use Rattle.serde_json.proofs.Texts.{print-outline}

-- what is written in two parts
pub both_written : (x y z a b : List Token) → y ≡ x ++ a → z ≡ y ++ b → z ≡ x ++ (a ++ b)
both_written x y z a b first second = second ∙ ap (λ (ts : List Token). ts ++ b) first ∙ append_assoc x a b

-- an object with one member
pub one_member : (name : List ℕ) (content : Data) (x begun named with written : List Token) → x ≡ []
    → begun ≡ x ++ begin_object ∷ [] → named ≡ begun ++ key name ∷ [] → with ≡ named ++ json_tokens (outline content) → written ≡ with ++ end_object ∷ []
    → print written ≡ compact_text (object (member name content no_members))
one_member name content x begun named with written none first key_is second last =
    let begun_is : begun ≡ begin_object ∷ [] = first ∙ ap (λ (ts : List Token). ts ++ begin_object ∷ []) none in
    let is : written ≡ json_tokens (outline (object (member name content no_members))) =
    both_written [] named written (begin_object ∷ key name ∷ []) (json_tokens (outline content) ++ end_object ∷ [])
    (both_written [] begun named (begin_object ∷ []) (key name ∷ []) begun_is key_is)
    (both_written named with written (json_tokens (outline content)) (end_object ∷ []) second last) in
    ap print is ∙ print-outline (object (member name content no_members))
