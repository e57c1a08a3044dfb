-- Texts that are cut in the middle.
use Rattle.std.proofs.Common.{◌≡◌, ℕ, zero, suc, ◌+◌, ◌-◌, ◌/◌, ◌<◌, ◌≤◌, min, nat_le, cond, Bool, true, false, List, [], ◌∷◌, ◌++◌, length, take, drop, refl, sym, ap, ◌∙◌, inl, inr, arith, append_assoc, append-nil, get_or, length-drop}
use Rattle.std.specs.Prelude.{◌⊎◌, chars, encode_utf8, encode_utf8_all}
use Rattle.std.proofs.lemmas.Bool.Decides.{nat_tests}
use Rattle.std.proofs.lemmas.List.{drop-drop, drop_all, take-append-drop, take_all, take_more}
use Rattle.std.proofs.lemmas.Str.{encodes-append}
use Rattle.unicode_width.proofs.Computing.{unicode_width}
use Rattle.pana_report.specs.Columns.{width}
use Rattle.pana_report.specs.Fitted.{cut, fitted, longest_cut}
use Rattle.pana_report.specs.laws.Fits.{FittedTextsFit, IsCut}

-- the characters, piece by piece
pub cut_pieces : (kept : ℕ) (text : List ℕ)
    → cut kept text ≡ encode_utf8_all (take (kept - kept / 2) text) ++ encode_utf8 0x2026 ++ encode_utf8_all (drop (length text - kept / 2) text)
cut_pieces kept text =
    encodes-append (take (kept - kept / 2) text) (0x2026 ∷ drop (length text - kept / 2) text)
    ∙ sym (append_assoc (encode_utf8_all (take (kept - kept / 2) text)) (encode_utf8 0x2026) (encode_utf8_all (drop (length text - kept / 2) text)))

-- one character more
pub encodes_more : (all : List ℕ) (index c : ℕ) → index < length all → c ≡ get_or all index c → encode_utf8_all (take (index + 1) all) ≡ encode_utf8_all (take index all) ++ encode_utf8 c
encodes_more all index c within is =
    ap encode_utf8_all (take_more all index c within ∙ ap (λ (d : ℕ). take index all ++ d ∷ []) (sym is))
    ∙ encodes-append (take index all) (c ∷ []) ∙ ap (λ (last : List ℕ). encode_utf8_all (take index all) ++ last) (append-nil (encode_utf8 c))

-- what stands from a place on
pub last_of : (all : List ℕ) (at : ℕ) → take (length all - at) (drop at all) ≡ drop at all
last_of all at = take_all (length all - at) (drop at all) (omega (arith, length-drop at all))

either : {A : Type 0} (b : Bool) (x : A) → x ≡ cond b x x
either true x = refl
either false x = refl

-- the longest cut is the first, where that fits
pub first_cut : (most kept : ℕ) (text : List ℕ) → longest_cut most kept text ≡ cond (nat_le (width (cut kept text)) most) (cut kept text) (longest_cut most (kept - 1) text)
first_cut most zero text = either (nat_le (width (cut 0 text)) most) (cut 0 text)
first_cut most (suc kept) text =
    let less : suc kept - 1 ≡ kept = omega arith in
    ap (λ (k : ℕ). cond (nat_le (width (cut (suc kept) text)) most) (cut (suc kept) text) (longest_cut most k text)) (sym less)

-- ---- what is cut fits

-- nothing but the …
all_cut : (text : List ℕ) → cut 0 text ≡ encode_utf8_all (0x2026 ∷ [])
all_cut text = ap (λ (back : List ℕ). encode_utf8_all (0x2026 ∷ back)) (drop_all (length text - 0) text (omega arith))

ellipsis_width : width (encode_utf8_all (0x2026 ∷ [])) ≡ 1
unfolding unicode_width
ellipsis_width = refl

test_cut : (most : ℕ) (first rest : List ℕ) → width rest ≤ most → width (cond (nat_le (width first) most) first rest) ≤ most
test_cut most first rest fits = grind (arith, nat_tests)

cut_fits : (most kept : ℕ) (text : List ℕ) → 1 ≤ most → width (longest_cut most kept text) ≤ most
cut_fits most zero text one = let w = ap width (all_cut text) ∙ ellipsis_width in omega (arith, w)
cut_fits most (suc kept) text one = test_cut most (cut (suc kept) text) (longest_cut most kept text) (cut_fits most kept text one)

-- ---- what is cut is a prefix, … and a suffix

parts : (text : List ℕ) (front behind : ℕ) → front + behind ≤ length text → text ≡ take front text ++ (take (length text - behind - front) (drop front text) ++ drop (length text - behind) text)
parts text front behind within =
    let all = take-append-drop front text in
    let rest = take-append-drop (length text - behind - front) (drop front text) in
    let last = drop-drop (length text - behind - front) front text in
    let there : front + (length text - behind - front) ≡ length text - behind = omega arith in
    sym all ∙ ap (λ (r : List ℕ). take front text ++ r) (sym rest ∙ ap (λ (r : List ℕ). take (length text - behind - front) (drop front text) ++ r) (last ∙ ap (λ (n : ℕ). drop n text) there))

is_cut : (text : List ℕ) (kept : ℕ) → kept ≤ length (chars text) → IsCut text (cut kept (chars text))
is_cut text kept within = (
  take (kept - kept / 2) (chars text),
  take (length (chars text) - kept / 2 - (kept - kept / 2)) (drop (kept - kept / 2) (chars text)),
  drop (length (chars text) - kept / 2) (chars text),
  parts (chars text) (kept - kept / 2) (kept / 2) (omega arith),
  refl,
)

first_or_rest : (text first rest : List ℕ) (b : Bool) → IsCut text first → IsCut text rest → IsCut text (cond b first rest)
first_or_rest text first rest true one other = one
first_or_rest text first rest false one other = other

longest_is_cut : (text : List ℕ) (most kept : ℕ) → kept ≤ length (chars text) → IsCut text (longest_cut most kept (chars text))
longest_is_cut text most zero within = is_cut text 0 within
longest_is_cut text most (suc kept) within =
    first_or_rest text (cut (suc kept) (chars text)) (longest_cut most kept (chars text)) (nat_le (width (cut (suc kept) (chars text))) most)
    (is_cut text (suc kept) within) (longest_is_cut text most kept (omega arith))

-- ---- the law

by_test : (most : ℕ) (text short : List ℕ) → (width short ≤ most) → IsCut text short → (b : Bool) → b ≡ nat_le (width text) most
    → ((width text ≤ most) × (cond b text short ≡ text)) ⊎ ((most < width text) × (width (cond b text short) ≤ most) × IsCut text (cond b text short))
by_test most text short fits cut true is = inl (grind (arith, nat_tests), refl)
by_test most text short fits cut false is = inr (grind (arith, nat_tests), fits, cut)

pub fitted_texts_fit : FittedTextsFit
unfolding fitted
fitted_texts_fit most text one =
    let kept = min most (length (chars text)) - 1 in
    by_test most text (longest_cut most kept (chars text)) (cut_fits most kept (chars text) one) (longest_is_cut text most kept (omega arith)) (nat_le (width text) most) refl
