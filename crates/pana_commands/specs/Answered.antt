-- What a command that ends by itself prints.
use Rattle.std.specs.Prelude.{◌≡◌, ℕ, List, [], ◌∷◌, ◌++◌, codes, string_bytes}
use Rattle.pana_commands.specs.declared.printout.Printout.{Printout}

-- the line that the program reports this by
abbrev pub report_line : List ℕ → List ℕ
report_line text = codes "panad: " ++ text ++ 10 ∷ []

-- this alone is printed, with status 0
abbrev pub Prints : List ℕ → Printout → Type 0
Prints text answer = (string_bytes answer.out ≡ text) × (string_bytes answer.err ≡ []) × (answer.status ≡ 0)

-- this alone is reported, with status 1
abbrev pub Reports : List ℕ → Printout → Type 0
Reports text answer = (string_bytes answer.out ≡ []) × (string_bytes answer.err ≡ report_line text) × (answer.status ≡ 1)
