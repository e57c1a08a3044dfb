-- The file that says what a run of `track` printed.
use Rattle.std.specs.Prelude.{ℕ, List, ◌∷◌, ◌++◌, codes}
use Rattle.sha2.specs.Sha256.{sha256}
use Rattle.pana_files.specs.declared.last_file.Kept.{Kept}

-- a line, the digests of what was asked for and of how the folders looked, the status, and the text
abbrev pub said_of : Kept → List ℕ
said_of kept = codes "panad last 1\n" ++ (kept.asked ++ (kept.folders ++ kept.status ∷ kept.text.now))

-- all that, and its SHA-256
abbrev pub file_of : Kept → List ℕ
file_of kept = said_of kept ++ sha256 (said_of kept)
