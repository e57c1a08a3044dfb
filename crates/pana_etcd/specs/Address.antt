-- The text of an address.
use Rattle.std.specs.Prelude.{◌≡◌, ℕ, nat_le, ◌==◌, ◌&&◌, ◌||◌, not, Bool, true, IsTrue, Option, Some, None, List, [], ◌∷◌, ◌++◌, codes, length, string_bytes}
use Rattle.std.specs.List.{list_all}
use Rattle.pana_etcd.specs.declared.address.EtcdAddress.{EtcdAddress}
use Rattle.pana_etcd.specs.declared.login.Login.{Login}
use Rattle.pana_etcd.specs.declared.member.Member.{Member}
use Rattle.pana_etcd.specs.Member.{member_text}

-- a letter, a digit, `-`, `.` or `_`
abbrev pub is_plain : ℕ → Bool
is_plain b = (nat_le 97 b && nat_le b 122) || (nat_le 65 b && nat_le b 90) || (nat_le 48 b && nat_le b 57) || b == 45 || b == 46 || b == 95

-- 1 to 100 of these
abbrev pub is_name : List ℕ → Bool
is_name text = not (length text == 0) && nat_le (length text) 100 && list_all is_plain text

-- each of the members has a host
abbrev pub have_names : List Member → Bool
have_names members = list_all (λ m. is_name (string_bytes m.host)) members

-- a character that may stand in a password: those of ASCII that are printed, but for `"`, `/`, `@` and `\\`
abbrev pub is_secret : ℕ → Bool
is_secret b = nat_le 33 b && nat_le b 126 && not (b == 34 || b == 47 || b == 64 || b == 92)

-- 1 to 100 of these
abbrev pub is_password : List ℕ → Bool
is_password text = not (length text == 0) && nat_le (length text) 100 && list_all is_secret text

-- who logs in has a name and a password, if anybody does
abbrev pub is_login : Option Login → Bool
is_login None = true
is_login (Some login) = is_name (string_bytes login.user) && is_password (string_bytes login.password)

-- 1 to 9 members, each of which has a host
abbrev pub are_hosts : List Member → Bool
are_hosts members = not (length members == 0) && nat_le (length members) 9 && have_names members

-- members that stand behind others
abbrev pub later_members : List Member → List ℕ
later_members [] = []
later_members (m ∷ ms) = codes "," ++ (member_text m ++ later_members ms)

abbrev pub members_text : List Member → List ℕ
members_text [] = []
members_text (m ∷ ms) = member_text m ++ later_members ms

-- who logs in, before the members
abbrev pub login_text : Option Login → List ℕ
login_text None = []
login_text (Some login) = string_bytes login.user ++ (codes ":" ++ (string_bytes login.password ++ codes "@"))

abbrev pub address_text : EtcdAddress → List ℕ
address_text address = codes "etcd://" ++ (login_text address.login ++ (members_text address.members.items ++ (codes "/" ++ string_bytes address.name)))

-- the text is the address's
pub record IsAddress (address : EtcdAddress) (text : List ℕ) : Type 0 where
  pub same : text ≡ address_text address
  pub name : IsTrue (is_name (string_bytes address.name))
  pub hosts : IsTrue (are_hosts address.members.items)
  pub login : IsTrue (is_login address.login)
