-- Laws of answering in time.
use Rattle.std.proofs.Common.{◌≡◌, ℕ, ◌+◌, true, List, [], ◌∷◌, ◌++◌, length, take, refl, sym, ap, subst, ◌∙◌, append_assoc, append-nil, length-append, arith}
use Rattle.std.proofs.lemmas.List.{append_cancel_left, take-append-le}
use Rattle.std.proofs.Math.Seq.{take-append_seam}
use Rattle.pana_calls.specs.declared.call.Call.{Call}
use Rattle.pana_calls.specs.declared.answer.Answer.{Answer}
use Rattle.pana_wire.specs.declared.tap.Tap.{Tap}
use Rattle.pana_wire.specs.Tap.{Ask, Note, asked, is_flushed, noted}
use Rattle.pana_wire.specs.Lines.{ended}
use Rattle.pana_wire.specs.Groups.{AnswersAll, AreAnswered, AreInTime, IsPrompt, all_given}

in_time_weaker : (one other : ℕ → ℕ → Type 0) → ((given written : ℕ) → one given written → other given written) → (given : ℕ) (asks : List Ask) → AreInTime one given asks → AreInTime other given asks
in_time_weaker one other so given [] p = p
in_time_weaker one other so given (ask ∷ asks) p = (p.0, so given ask.written p.1, in_time_weaker one other so (given + ask.gave) asks p.2)

in_time_more : (answered : ℕ → ℕ → Type 0) (given : ℕ) (asks : List Ask) (ask : Ask) → AreInTime answered given asks → ask.flushed ≡ true → answered (given + all_given asks) ask.written → AreInTime answered given (asks ++ ask ∷ [])
in_time_more answered given [] ask p flushed now =
    let same : given + 0 ≡ given = omega arith in
    (flushed, subst (λ (n : ℕ). answered n ask.written) same now, tt)
in_time_more answered given (first ∷ asks) ask p flushed now =
    let same : given + (first.gave + all_given asks) ≡ (given + first.gave) + all_given asks = omega arith in
    (p.0, p.1, in_time_more answered (given + first.gave) asks ask p.2 flushed (subst (λ (n : ℕ). answered n ask.written) same now))

given_more : (asks : List Ask) (ask : Ask) → all_given (asks ++ ask ∷ []) ≡ all_given asks + ask.gave
given_more [] ask = omega arith
given_more (first ∷ asks) ask = let more = given_more asks ask in omega (arith, more)

module _ {S : Type 0} (step : S → List ℕ → Call → Answer → S → Type 0) (settles : S → S → Type 0) (moment : S → ℕ) (old : S) where
  -- what was answered stays answered
  answered_more : (before : ℕ) (input piece : List ℕ) (notes others : List Note) (given written : ℕ) → AreAnswered step settles moment old before input notes given written → AreAnswered step settles moment old before (input ++ piece) (notes ++ others) given written
  answered_more before input piece notes others given written (own, is, within, few, (mid, steps, all)) = (
    own,
    is,
    omega (arith, within, length-append input piece),
    omega (arith, few, length-append notes others),
    (
      mid,
      steps,
      subst (λ (ns : List Note). AnswersAll step settles moment old (ended [] (take given (input ++ piece))) ns mid steps) (sym (take-append-le own notes others few))
          (subst (λ (bytes : List ℕ). AnswersAll step settles moment old (ended [] bytes) (take own notes) mid steps) (sym (take-append-le given input piece within)) all),
    ),
  )

  -- all that was read is answered by all that was written
  answered_now : (before : ℕ) (input piece : List ℕ) (notes others : List Note) (mid : S) (steps : ℕ) → AnswersAll step settles moment old (ended [] input) notes mid steps
      → AreAnswered step settles moment old before (input ++ piece) (notes ++ others) (length input) (before + length notes)
  answered_now before input piece notes others mid steps all = (
    length notes,
    refl,
    omega (arith, length-append input piece),
    omega (arith, length-append notes others),
    (
      mid,
      steps,
      subst (λ (ns : List Note). AnswersAll step settles moment old (ended [] (take (length input) (input ++ piece))) ns mid steps) (sym (take-append_seam notes others))
          (subst (λ (bytes : List ℕ). AnswersAll step settles moment old (ended [] bytes) notes mid steps) (sym (take-append_seam input piece)) all),
    ),
  )

  pub prompt_begun : {R W : Type 0} → (reader : Tap R) (writer : Tap W) (notes : List Note) → IsPrompt step settles moment reader reader writer old [] notes
  prompt_begun reader writer notes = record { asks = []; reads = sym (append-nil (asked reader)); given = refl; in_time = λ begun. tt }

  -- one read more
  pub prompt_more : {R W : Type 0} → (first one two : Tap R) (writer now : Tap W) (input piece : List ℕ) (notes others whole : List Note) (ask : Ask) (mid : S) (steps : ℕ) → IsPrompt step settles moment first one writer old input notes
      → asked two ≡ asked one ++ ask ∷ [] → ask.gave ≡ length piece → ask.written ≡ length (noted now) → (is_flushed writer ≡ true → ask.flushed ≡ true) → noted now ≡ noted writer ++ notes → noted writer ++ whole ≡ noted now ++ others
      → AnswersAll step settles moment old (ended [] input) notes mid steps → IsPrompt step settles moment first two writer old (input ++ piece) whole
  prompt_more first one two writer now input piece notes others whole ask mid steps p more gave written flushed so far all =
      let is : whole ≡ notes ++ others = append_cancel_left (noted writer) whole (notes ++ others) (far ∙ ap (λ (ns : List Note). ns ++ others) so ∙ append_assoc (noted writer) notes others) in
      let count : ask.written ≡ length (noted writer) + length notes = written ∙ ap length so ∙ length-append (noted writer) notes in
      let before = length (noted writer) in
      let given : length input ≡ 0 + all_given p.asks = omega (arith, p.given) in
      subst (λ (ns : List Note). IsPrompt step settles moment first two writer old (input ++ piece) ns) (sym is) (record {
        asks = p.asks ++ ask ∷ [];
        reads = more ∙ ap (λ (asks : List Ask). asks ++ ask ∷ []) p.reads ∙ append_assoc (asked first) p.asks (ask ∷ []);
        given = omega (arith, given_more p.asks ask, p.given, gave, length-append input piece);
        in_time = λ begun. in_time_more (AreAnswered step settles moment old before (input ++ piece) (notes ++ others)) 0 p.asks ask
            (in_time_weaker (AreAnswered step settles moment old before input notes) (AreAnswered step settles moment old before (input ++ piece) (notes ++ others)) (answered_more before input piece notes others) 0 p.asks (p.in_time begun))
            (flushed begun)
            (subst (λ (g : ℕ). AreAnswered step settles moment old before (input ++ piece) (notes ++ others) g ask.written) given
            (subst (λ (w : ℕ). AreAnswered step settles moment old before (input ++ piece) (notes ++ others) (length input) w) (sym count) (answered_now before input piece notes others mid steps all)));
      })
