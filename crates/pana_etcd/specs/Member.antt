-- Members, as an address and a request name them.
use Rattle.std.specs.Prelude.{List, ◌++◌, ℕ, codes, decimal, string_bytes}
use Rattle.pana_etcd.specs.declared.member.Member.{Member}

-- the host, `:` and the port
abbrev pub member_text : Member → List ℕ
member_text m = string_bytes m.host ++ (codes ":" ++ decimal m.port)
