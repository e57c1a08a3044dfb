-- Flat objects: the tokens of their members, and the value that they are.
use Rattle.std.specs.Prelude.{◌≡◌, ℕ, cond, List, [], ◌∷◌, Option, Some}
use Rattle.std.specs.Str.{bytes_eq}
use Rattle.json.specs.Print.{IsNumber}
use Rattle.json.specs.Token as token
use Rattle.serde_json.specs.Data.{unsigned, Data, null, number, string, object, Members, no_members, put}
use Rattle.serde_json.specs.Read.{number_of}
use Rattle.pana_wire.specs.declared.flat_object.Content.{Content}
use Rattle.pana_wire.specs.declared.flat_object.Content.TheVariants.{Text, Number, Null}
use Rattle.pana_wire.specs.declared.flat_object.Member.{Member}
use Rattle.pana_wire.specs.declared.flat_object.FlatObject.{FlatObject}

-- the token of a content
abbrev pub content_token : Content → token.Token
content_token (Text s) = token.string s.now
content_token (Number s n) = token.number s.now
content_token Null = token.null

-- the tokens of members, and what comes after them
abbrev pub members_then : List Member → List token.Token → List token.Token
members_then [] rest = rest
members_then (m ∷ ms) rest = token.key m.name.now ∷ content_token m.content ∷ members_then ms rest

-- the digits of a number are those that it is read from
abbrev pub IsSound : Content → Type 0
IsSound (Text s) = Unit {0}
IsSound (Number s n) = IsNumber s.now × (number_of s.now ≡ Some (unsigned n))
IsSound Null = Unit {0}

-- the digits of each number are those that it is read from
abbrev pub AreSound : List Member → Type 0
AreSound [] = Unit {0}
AreSound (m ∷ ms) = IsSound m.content × AreSound ms

-- the value that a content is
abbrev pub content_data : Content → Data
content_data (Text s) = string s.now
content_data (Number s n) = number (unsigned n)
content_data Null = null

-- the members go in one after another, so the last of a name stays
abbrev pub put_all : List Member → Members → Members
put_all [] found = found
put_all (m ∷ ms) found = put_all ms (put m.name.now (content_data m.content) found)

-- the value that an object is
abbrev pub flat_json : FlatObject → Data
flat_json o = object (put_all o.members.items no_members)

-- what the last member of a name has, or else what was found before
abbrev pub content_of : List ℕ → List Member → Option Content → Option Content
content_of name [] found = found
content_of name (m ∷ ms) found = content_of name ms (cond (bytes_eq m.name.now name) (Some m.content) found)
