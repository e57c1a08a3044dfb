-- Worked examples of counts, by computation.
use Rattle.std.specs.Prelude.{◌≡◌, codes}
use Rattle.std.proofs.Common.{refl}
use Rattle.std.specs.Char.{encode_utf8}
use Rattle.std.specs.Fmt.{digits}
use Rattle.pana_commands.specs.Counts.{number_text, so_many}

small : number_text 999 ≡ codes "999"
unfolding digits encode_utf8
small = refl

thousands : so_many 1204 (codes "copy") (codes "copies") ≡ codes "1,204 copies"
unfolding digits encode_utf8
thousands = refl

millions : so_many 12345678 (codes "copy") (codes "copies") ≡ codes "12,345,678 copies"
unfolding digits encode_utf8
millions = refl

one : so_many 1 (codes "copy") (codes "copies") ≡ codes "1 copy"
unfolding digits encode_utf8
one = refl
