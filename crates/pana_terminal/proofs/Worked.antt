-- Worked examples of the definitions, by computation.
use Rattle.std.specs.Prelude.{◌≡◌, [], ◌∷◌, ◌++◌, codes, encode_utf8_all}
use Rattle.std.specs.Str.{chars}
use Rattle.std.specs.Char.{encode_utf8}
use Rattle.std.proofs.Common.{refl}
use Rattle.std.specs.Fmt.{digits}
use Rattle.pana_terminal.specs.Shown.{shown}

-- the newline stays, as do letters and a space that doesn't break
stays : shown (encode_utf8_all (codes "a é日\n" ++ 0xA0 ∷ [])) ≡ encode_utf8_all (codes "a é日\n" ++ 0xA0 ∷ [])
unfolding chars encode_utf8
stays = refl

-- an escape, a control sequence introducer, and the first and last of those that turn the direction of writing
codes_of : shown (encode_utf8_all (0x1B ∷ 0x9B ∷ 0x061C ∷ 0x2028 ∷ 0x202E ∷ 0x2069 ∷ []))
    ≡ codes "\\u{1b}\\u{9b}\\u{61c}\\u{2028}\\u{202e}\\u{2069}"
unfolding digits chars encode_utf8
codes_of = refl
