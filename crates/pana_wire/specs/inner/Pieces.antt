-- The tokens of members that are given or not.
use Rattle.std.specs.Prelude.{ℕ, List, [], ◌∷◌, Option, Some, None}
use Rattle.std.specs.Fmt.{decimal}
use Rattle.json.specs.Token.{Token, key}
use Rattle.json.specs.Token as tokens
use Rattle.serde_json.specs.Data.{Data, null}

-- the member of a number, where it is given
abbrev pub number_tokens : List ℕ → Option ℕ → List Token
number_tokens name None = []
number_tokens name (Some n) = key name ∷ tokens.number (decimal n) ∷ []

-- the member of a text, where it is given
abbrev pub text_tokens : List ℕ → Option (List ℕ) → List Token
text_tokens name None = []
text_tokens name (Some text) = key name ∷ tokens.string text ∷ []

-- a value, where there is one, and else `null`
abbrev pub data_or_null : {A : Type 0} → (A → Data) → Option A → Data
data_or_null f None = null
data_or_null f (Some a) = f a
