-- The calls of callers at a desk of a hall are one run of the hall.
use Rattle.std.proofs.Common.{◌≡◌, ◌⊎◌, ◌<◌, ◌==◌, ◌+◌, inl, inr, zero, suc, ℕ, Bool, true, false, cond, All, List, [], ◌∷◌, ◌++◌, length, filter, map, Option, Result, Ok, Err, refl, sym, ap, subst, ◌∙◌, arith, true≢false}
use Rattle.std.specs.List.{range_with_len}
use Rattle.std.proofs.lemmas.List.{length-map, map-append}
use Rattle.std.proofs.lemmas.Bool.{eq-eqb}
use Rattle.std.proofs.lemmas.List.Elements.{filter-append}
use Rattle.std.proofs.KnownBytes.{Appends-nil, Consumes-nil}
use Rattle.std.specs.Io.KnownBytes.{Consumes, Appends}
use Rattle.pana_journal.specs.declared.entry.Entry.{Entry}
use Rattle.pana_hall.specs.Run.{Exchange, IsRunFrom, journal_from}
use Rattle.pana_scan.specs.declared.baseline.BaselineRow.{BaselineRow}
use Rattle.pana_track.specs.Calls.{Asked, Makes}
use Rattle.pana_turn.specs.History.{IsHistory, calls_of, left_by}
use Rattle.pana_turn.specs.Passes.{DeskId, new_pass, new_passes, own_calls}
use Rattle.pana_calls.specs.declared.answer.Answer.{Answer}
use Rattle.pana_calls.specs.declared.answer.Answer.TheVariants.{Given, NotKept}
use Rattle.pana_wire.specs.declared.serving.ServeFault.{ServeFault}
use Rattle.pana_wire.specs.declared.serving.Served.{Served}
use Rattle.pana_wire.specs.declared.tap.Tap.{Tap}
use Rattle.pana_wire.specs.Tap.{bytes_in, has_ended, inside}
use Rattle.pana_daemon.specs.declared.connection.Connection.{Connection}
use Rattle.pana_daemon.specs.Folder.{Deed, Taken, gives_look, gives_none}
use Rattle.pana_daemon.specs.declared.folder.Look.{Look}
use Rattle.pana_daemon.specs.declared.post.Post.{Post}
use Rattle.pana_daemon.specs.declared.post.Post.TheVariants.{Door, Folder}
use Rattle.pana_daemon.specs.Connection.{ServesAll, ServesConnection, given_by}
use Rattle.pana_daemon.specs.Desk.{Finished, PassView}
use Rattle.pana_daemon.specs.declared.request.Request.{Request}
use Rattle.pana_daemon.specs.declared.request.Request.TheVariants.{Make, MakeAll, Settle}
use Rattle.pana_daemon.specs.declared.request.Response.{Response}
use Rattle.pana_daemon.specs.declared.request.Response.TheVariants as responses
use Rattle.pana_daemon.specs.Post.{HasDone, HaveDone, passes_of, posts_of}
use Rattle.pana_daemon.specs.Scan.{BreaksLook, IsLook, IsNext, TakesLook, TakesLooks}
use Rattle.pana_daemon.specs.Serve.{Ends}
use Rattle.pana_daemon.specs.Served.{EndsWith}
use Rattle.pana_daemon.specs.Session.{BreaksOff, GetNone, GetsNone, MakesCall, MayRecover, Settles}
use Rattle.pana_laws.specs.OneRun.{AreLooks, AreTold, HasMade, HaveMade, IsOneRun, IsRest, IsTold, Turn, asked_of, calls_by, exchanges}
use Rattle.pana_laws.proofs.Passes.{Goes, HasNoList, Pass, Steps, broken_none, exchange_in, exchanges_in, goes_no_more, goes_on, is_list, made_none, made_one, none_cut, settled_none, stays}
use Rattle.pana_laws.proofs.Sessions.{Told, told_early, told_nothing, told_whole}

-- the history as turns

-- the calls of a caller as turns
abbrev turns_of : ℕ → List Exchange → List Turn
turns_of number xs = map (λ x. record { caller = number; exchange = x }) xs

abbrev turns_in : List (Finished (List Entry)) → List Turn
turns_in [] = []
turns_in (x ∷ history) = turns_of x.pass (exchange_in x.call x.reply) ++ turns_in history

exchanges_both : (ts us : List Turn) → exchanges (ts ++ us) ≡ exchanges ts ++ exchanges us
exchanges_both ts us = map-append (λ (turn : Turn). turn.exchange) ts us

exchanges_so : (number : ℕ) (xs : List Exchange) → exchanges (turns_of number xs) ≡ xs
exchanges_so number [] = refl
exchanges_so number (x ∷ xs) = ap (λ (w : List Exchange). x ∷ w) (exchanges_so number xs)

exchanges_of : (history : List (Finished (List Entry))) → exchanges (turns_in history) ≡ exchanges_in history
exchanges_of [] = refl
exchanges_of (x ∷ history) =
    let xs = exchange_in x.call x.reply in
    exchanges_both (turns_of x.pass xs) (turns_in history) ∙ ap (λ (w : List Exchange). w ++ exchanges (turns_in history)) (exchanges_so x.pass xs) ∙ ap (λ (w : List Exchange). xs ++ w) (exchanges_of history)

-- the turns of one caller are all or none of them
all_by : (number pass : ℕ) (xs : List Exchange) → (pass == number) ≡ true → filter (λ turn. turn.caller == number) (turns_of pass xs) ≡ turns_of pass xs
all_by number pass [] is = refl
all_by number pass (x ∷ xs) is = rw is (ap (λ (w : List Turn). record { caller = pass; exchange = x } ∷ w) (all_by number pass xs is))

none_by : (number pass : ℕ) (xs : List Exchange) → (pass == number) ≡ false → filter (λ turn. turn.caller == number) (turns_of pass xs) ≡ []
none_by number pass [] is = refl
none_by number pass (x ∷ xs) is = rw is (none_by number pass xs is)

turns_by : (number : ℕ) (b : Bool) (pass : ℕ) (xs : List Exchange) → (pass == number) ≡ b → filter (λ turn. turn.caller == number) (turns_of pass xs) ≡ cond b (turns_of pass xs) []
turns_by number true pass xs is = all_by number pass xs is
turns_by number false pass xs is = none_by number pass xs is

either : (number : ℕ) (b : Bool) (x : Finished (List Entry)) (history : List (Finished (List Entry))) → calls_by number (turns_in history) ≡ exchanges_in (calls_of number history)
    → exchanges (cond b (turns_of x.pass (exchange_in x.call x.reply)) [] ++ filter (λ turn. turn.caller == number) (turns_in history)) ≡ exchanges_in (cond b (x ∷ calls_of number history) (calls_of number history))
either number true x history rest =
    let xs = exchange_in x.call x.reply in
    exchanges_both (turns_of x.pass xs) (filter (λ turn. turn.caller == number) (turns_in history)) ∙ ap (λ (w : List Exchange). w ++ calls_by number (turns_in history)) (exchanges_so x.pass xs) ∙ ap (λ (w : List Exchange). xs ++ w) rest
either number false x history rest = rest

calls_are : (number : ℕ) (history : List (Finished (List Entry))) → calls_by number (turns_in history) ≡ exchanges_in (calls_of number history)
calls_are number [] = refl
calls_are number (x ∷ history) =
    let xs = exchange_in x.call x.reply in
    ap exchanges (filter-append (λ (turn : Turn). turn.caller == number) (turns_of x.pass xs) (turns_in history) ∙ ap (λ (w : List Turn). w ++ filter (λ turn. turn.caller == number) (turns_in history)) (turns_by number (x.pass == number) x.pass xs refl))
    ∙ either number (x.pass == number) x history (calls_are number history)

-- a step of a hall, whatever the request
step_runs : (old : List Entry) (request : Request) (response : Response) (left : List Entry) (rest : List Exchange) → is_list request ≡ false → Steps old request response left → IsRunFrom left rest
    → IsRunFrom old (exchange_in request response ++ rest) × (journal_from old (exchange_in request response ++ rest) ≡ journal_from left rest)
step_runs old (Make m) (responses.Answer (Given reply)) left rest single steps run =
    ((steps.0, subst (λ (j : List Entry). IsRunFrom j rest) steps.1 run), ap (λ (j : List Entry). journal_from j rest) (sym steps.1))
step_runs old (Make m) (responses.Answer NotKept) left rest single steps run = absurd steps
step_runs old (Make m) responses.Settled left rest single steps run = absurd steps
step_runs old (Make m) (responses.Nothing recovers) left rest single steps run = absurd steps
step_runs old Settle (responses.Answer answer) left rest single steps run = absurd steps
step_runs old Settle responses.Settled left rest single steps run = (subst (λ (j : List Entry). IsRunFrom j rest) steps run, ap (λ (j : List Entry). journal_from j rest) (sym steps))
step_runs old Settle (responses.Nothing recovers) left rest single steps run = absurd steps
step_runs old (Make m) (responses.Answers answers stopped) left rest single steps run = absurd steps
step_runs old Settle (responses.Answers answers stopped) left rest single steps run = absurd steps
step_runs old (MakeAll messages) response left rest single steps run = absurd (true≢false single)

history_runs : (begun : List Entry) (history : List (Finished (List Entry))) → HasNoList history → IsHistory Steps begun history
    → IsRunFrom begun (exchanges_in history) × (left_by begun history ≡ journal_from begun (exchanges_in history))
history_runs begun [] none run = (tt, refl)
history_runs begun (x ∷ history) none run =
    let (rest, left) = history_runs x.left history none.1 run.1 in
    let (runs, same) = step_runs begun x.call x.reply x.left (exchanges_in history) none.0 run.0 rest in
    (runs, left ∙ sym same)

-- all other requests
more_by : (number : ℕ) (request : Request) (response : Response) (rest : List Turn) (n k : ℕ) → k ≡ length rest + n → (m : ℕ) × (k + 1 ≡ length (turns_of number (exchange_in request response) ++ rest) + m)
more_by number (Make m) (responses.Answer (Given reply)) rest n k is = (n, omega (arith, is))
more_by number (Make m) (responses.Answer NotKept) rest n k is = (n + 1, omega (arith, is))
more_by number (Make m) responses.Settled rest n k is = (n + 1, omega (arith, is))
more_by number (Make m) (responses.Nothing recovers) rest n k is = (n + 1, omega (arith, is))
more_by number (Make m) (responses.Answers answers stopped) rest n k is = (n + 1, omega (arith, is))
more_by number (MakeAll messages) response rest n k is = (n + 1, omega (arith, is))
more_by number Settle response rest n k is = (n + 1, omega (arith, is))

counted_so : (history : List (Finished (List Entry))) → (settled : ℕ) × (length history ≡ length (turns_in history) + settled)
counted_so [] = (0, refl)
counted_so (x ∷ history) =
    let (n, is) = counted_so history in
    let (m, so) = more_by x.pass x.call x.reply (turns_in history) n (length history) is in
    (m, omega (arith, so))

-- each caller's work

made_so : (made : List Asked) (old new : Pass) → Makes (MakesCall Steps false) old made new → (run : List Exchange) × (made ≡ map asked_of run) × Goes old run new
made_so [] old new makes = ([], refl, subst (Goes old []) (sym makes) (stays old))
made_so (asked ∷ made) old new (mid, step, makes) =
    let (reply, given, goes) = made_one old asked.by asked.call asked.answer mid step in
    let (run, are, on) = made_so made mid new makes in
    let x : Exchange = record { by = asked.by; call = asked.call; reply = reply } in
    (x ∷ run, ap (λ (a : Answer). record { by = asked.by; call = asked.call; answer = a } ∷ made) given ∙ ap (λ (l : List Asked). asked_of x ∷ l) are, goes_on old mid new (x ∷ []) run goes on)

-- the calls of a look at a folder, behind which there is another one
look_so : (device : List ℕ) (taken : Taken) (old new : Pass) (marks_old marks_new : List BaselineRow) → TakesLook (MakesCall Steps false) device false (GetNone Steps false) (Settles Steps) (BreaksOff Steps) MayRecover taken old new marks_old marks_new
    → (run : List Exchange) × IsLook false device taken.look marks_old (map asked_of run) marks_new × Goes old run new
look_so device taken old new marks_old marks_new (inl kept) =
    let (run, are, goes) = made_so kept.looks.made old kept.mid kept.looks.calls in
    (run, subst (λ (made : List Asked). IsLook false device taken.look marks_old made marks_new) are kept.looks.is, goes_no_more old kept.mid new run goes (settled_none kept.mid new kept.settled))
look_so device taken old new marks_old marks_new (inr (unsaid, breaks, may)) = absurd (none_cut device taken.look old new marks_old marks_new breaks may)

looks_so : (device : List ℕ) (given : List Taken) (old new : Pass) (marks_old marks_new : List BaselineRow)
    → TakesLooks (MakesCall Steps false) device false (GetNone Steps false) (Settles Steps) (BreaksOff Steps) MayRecover given old new marks_old marks_new
    → (run : List Exchange) × AreLooks device marks_old given (map asked_of run) marks_new × Goes old run new
looks_so device [] old new marks_old marks_new so = ([], (refl, so.1), subst (Goes old []) (sym so.0) (stays old))
looks_so device (taken ∷ given) old new marks_old marks_new (mid, marks, took, more) =
    let (first, is, goes) = look_so device taken old mid marks_old marks took in
    let (others, later, on) = looks_so device given mid new marks marks_new more in
    (first ++ others, (map asked_of first, map asked_of others, marks, is, later, map-append asked_of first others), goes_on old mid new first others goes on)

module _ {O W : Type 0} (given : O → Option (List ℕ)) (contents : W → Option (List ℕ)) where
  -- a session's bytes
  record Bytes (reader_old reader_new : Tap O) (writer_old writer_new : Tap W) (old new : Pass) : Type 0 where
    pub input : List ℕ
    pub output : List ℕ
    pub reads : Consumes (given (inside reader_old)) (given (inside reader_new)) input
    pub writes : Appends (contents (inside writer_old)) (contents (inside writer_new)) output
    pub told : Told input output old new

  bytes_of : (reader_old reader_new : Tap O) (writer_old writer_new : Tap W) (old new : Pass) (result : Result Served ServeFault)
      → EndsWith Steps false given contents reader_old reader_new writer_old writer_new old new result → Bytes reader_old reader_new writer_old writer_new old new
  bytes_of reader_old reader_new writer_old writer_new old new (Ok served) s =
      record { input = s.input; output = bytes_in s.notes; reads = s.reads; writes = s.writes.1; told = told_whole s.input s.answers.0 s.notes old new served.calls s.answers.1 s.answers.2 }
  bytes_of reader_old reader_new writer_old writer_new old new (Err fault) (inl n) = record {
    input = [];
    output = [];
    reads = subst (λ (r : Tap O). Consumes (given (inside reader_old)) (given (inside r)) []) (sym n.reader) (Consumes-nil _);
    writes = subst (λ (w : Tap W). Appends (contents (inside writer_old)) (contents (inside w)) []) (sym n.writer) (Appends-nil _);
    told = told_nothing old new n.session;
  }
  bytes_of reader_old reader_new writer_old writer_new old new (Err fault) (inr s) =
      record { input = s.input; output = bytes_in s.notes; reads = s.reads; writes = s.writes.1; told = told_early fault (has_ended reader_new) s.input s.notes old new s.ends }

module _ {R W : Type 0} (remaining : R → Option (List ℕ)) (contents : W → Option (List ℕ)) where
  told_so : (connection : Connection R W) (old new : Pass) → ServesConnection Steps false remaining contents connection old new → (run : List Exchange) × IsTold remaining contents connection run × Goes old run new
  told_so connection old new s =
      let b = bytes_of (given_by remaining) contents s.reader_old s.reader_new s.writer_old s.writer_new old new s.result s.served.text in (
        b.told.0,
        record {
          input = b.input;
          output = b.output;
          unread = given_by remaining (inside s.reader_new);
          written = contents (inside s.writer_new);
          reads = subst (λ r. Consumes (given_by remaining r) (given_by remaining (inside s.reader_new)) b.input) s.reads b.reads;
          writes = subst (λ (w : W). Appends (contents w) (contents (inside s.writer_new)) b.output) s.writes b.writes;
          answered = b.told.1;
        },
        b.told.2,
      )

module _ {D R W F : Type 0} (gives : D → Option (Connection R W) → D → Type 0) (remaining : R → Option (List ℕ)) (contents : W → Option (List ℕ)) (does : F → Deed → F → Type 0) where
  all_told : (door last : D) (connections : List (Connection R W)) (old new : Pass) → ServesAll Steps false gives remaining contents door connections last old new
      → (run : List Exchange) × AreTold gives remaining contents does door connections last run × Goes old run new
  all_told door last [] old new s = ([], (s.0, refl), subst (Goes old []) (sym s.1) (stays old))
  all_told door last (connection ∷ connections) old new (next, mid, gave, served, later) =
      let (first, told, goes) = told_so remaining contents connection old mid served in
      let (others, are, on) = all_told next last connections mid new later in
      (first ++ others, (next, first, others, gave, told, are, refl), goes_on old mid new first others goes on)

  -- a look that was cut short
  cut_so : (device : List ℕ) (folder_old folder_new : F) (old new : Pass) (marks left : List BaselineRow) (next : Look) → does folder_old (gives_look next) folder_new → BreaksLook (MakesCall Steps false) device false (GetNone Steps false) (BreaksOff Steps) next old new marks left
      → (rest : List Exchange) × IsRest gives remaining contents does device marks folder_old rest × Goes old rest new
  cut_so device folder_old folder_new old new marks left next gave (inl stops) =
      let (rest, its, goes) = made_so stops.made old stops.mid stops.calls in
      (rest, inr (next, folder_new, gave, inr (stops.call, subst (λ (part : List Asked). IsNext device next marks part stops.call) its stops.is)), goes_no_more old stops.mid new rest goes (made_none stops.mid device stops.call new stops.ends))
  cut_so device folder_old folder_new old new marks left next gave (inr (made, end, looks, broken)) =
      let (rest, its, goes) = made_so looks.made old made looks.calls in
      (rest, inr (next, folder_new, gave, inl (left, subst (λ (whole : List Asked). IsLook false device next marks whole left) its looks.is)), goes_no_more old made new rest goes (broken_none made new broken))

  -- how a scanner's work ends
  rest_so : (device : List ℕ) (folder_old folder_new : F) (old new : Pass) (marks : List BaselineRow) → ((does folder_old gives_none folder_new × (new ≡ old)) ⊎ ((next : Look) × (left : List BaselineRow) × does folder_old (gives_look next) folder_new × BreaksLook (MakesCall Steps false) device false (GetNone Steps false) (BreaksOff Steps) next old new marks left))
      → (rest : List Exchange) × IsRest gives remaining contents does device marks folder_old rest × Goes old rest new
  rest_so device folder_old folder_new old new marks (inl ended) = ([], inl refl, subst (Goes old []) (sym ended.1) (stays old))
  rest_so device folder_old folder_new old new marks (inr (next, left, gave, breaks)) = cut_so device folder_old folder_new old new marks left next gave breaks

  -- what a caller has made
  has_made : (post_old post_new : Post D F) (old new : Pass) → HasDone Steps false gives remaining contents does post_old post_new old new
      → (run : List Exchange) × HasMade gives remaining contents does post_old run × Goes old run new
  has_made (Door door) (Door door_new) old new w =
      let (run, told, goes) = all_told door w.door w.connections old new w.serves in
      (run, (w.connections, w.door, door_new, told, w.ends), goes)
  has_made (Door door) (Folder device folder) old new odd = absurd odd
  has_made (Folder device folder) (Door door) old new odd = absurd odd
  has_made (Folder device folder) (Folder device_new folder_new) old new (same, s) =
      let (whole, are, goes) = looks_so device.now s.given old s.mid [] s.baseline s.takes in
      let (rest, is, on) = rest_so device.now s.folder_mid folder_new s.mid new s.baseline s.ends in
      (whole ++ rest, (s.given, s.baseline, s.folder_mid, whole, rest, s.folder, are, is, refl), goes_on old s.mid new whole rest goes on)

  -- callers with new passes, numbered from this number on
  have_made : (number : ℕ) (desk : DeskId (List Entry)) (history : List (Finished (List Entry))) (olds news : List (Post D F × Pass)) → HaveDone Steps false gives remaining contents does olds news
      → passes_of olds ≡ map (new_pass desk) (range_with_len number (length olds)) → All (λ pass. calls_of pass.number history ≡ own_calls pass) (passes_of news)
      → HaveMade gives remaining contents does number (posts_of olds) (turns_in history)
  have_made number desk history [] [] done new own = tt
  have_made number desk history [] (n ∷ news) done new own = absurd done
  have_made number desk history (o ∷ olds) [] done new own = absurd done
  have_made number desk history (o ∷ olds) (n ∷ news) done new own =
      let (run, made, goes) = has_made o.0 n.0 o.1 n.1 done.0 in
      let first : o.1.pass ≡ new_pass desk number = ap (head_or o.1.pass) new in
      let others : passes_of olds ≡ map (new_pass desk) (range_with_len (number + 1) (length olds)) = ap tail_of new in
      let its : n.1.pass.number ≡ number = goes.0 ∙ ap (λ (p : PassView (List Entry)). p.number) first in
      let mine : calls_of number history ≡ own_calls n.1.pass = ap (λ (k : ℕ). calls_of k history) (sym its) ∙ own 0 n.1.pass (omega arith) in
      let so : calls_by number (turns_in history) ≡ run =
      calls_are number history ∙ ap exchanges_in mine ∙ goes.1 ∙ ap (λ (p : PassView (List Entry)). exchanges_in (own_calls p) ++ run) first in
      (subst (HasMade gives remaining contents does o.0) (sym so) made, have_made (number + 1) desk history olds news done.1 others (λ k d h. own (suc k) d (omega (arith, h))))
    where
      head_or : PassView (List Entry) → List (PassView (List Entry)) → PassView (List Entry)
      head_or pass [] = pass
      head_or pass (p ∷ ps) = p

      tail_of : List (PassView (List Entry)) → List (PassView (List Entry))
      tail_of [] = []
      tail_of (p ∷ ps) = ps

module _ {D R W F : Type 0} (gives : D → Option (Connection R W) → D → Type 0) (remaining : R → Option (List ℕ)) (contents : W → Option (List ℕ)) (does : F → Deed → F → Type 0) where
  -- no caller has made a list
  none_listed : (number : ℕ) (desk : DeskId (List Entry)) (history : List (Finished (List Entry))) (olds news : List (Post D F × Pass)) → HaveDone Steps false gives remaining contents does olds news
      → passes_of olds ≡ map (new_pass desk) (range_with_len number (length olds)) → All (λ pass. calls_of pass.number history ≡ own_calls pass) (passes_of news)
      → (k : ℕ) → k < length olds → HasNoList (calls_of (number + k) history)
  none_listed number desk history [] news done new own k within = absurd (omega (arith, within))
  none_listed number desk history (o ∷ olds) [] done new own k within = absurd done
  none_listed number desk history (o ∷ olds) (n ∷ news) done new own zero within =
      let (run, made, goes) = has_made gives remaining contents does o.0 n.0 o.1 n.1 done.0 in
      let first : o.1.pass ≡ new_pass desk number = ap (head_or o.1.pass) new in
      let its : n.1.pass.number ≡ number + 0 = goes.0 ∙ ap (λ (p : PassView (List Entry)). p.number) first ∙ omega arith in
      subst HasNoList (sym (ap (λ (i : ℕ). calls_of i history) (sym its) ∙ own 0 n.1.pass (omega arith))) (goes.2 (subst (λ (p : PassView (List Entry)). HasNoList (own_calls p)) (sym first) tt))
    where
      head_or : PassView (List Entry) → List (PassView (List Entry)) → PassView (List Entry)
      head_or pass [] = pass
      head_or pass (p ∷ ps) = p
  none_listed number desk history (o ∷ olds) (n ∷ news) done new own (suc k) within =
      let next : (number + 1) + k ≡ number + suc k = omega arith in
      subst (λ (i : ℕ). HasNoList (calls_of i history)) next
      (none_listed (number + 1) desk history olds news done.1 (ap tail_of new) (λ i d h. own (suc i) d (omega (arith, h))) k (omega (arith, within)))
    where
      tail_of : List (PassView (List Entry)) → List (PassView (List Entry))
      tail_of [] = []
      tail_of (p ∷ ps) = ps

-- so the history has none
first_single : (x : Finished (List Entry)) (history : List (Finished (List Entry))) → HasNoList (calls_of x.pass (x ∷ history)) → is_list x.call ≡ false
first_single x history none = (subst HasNoList (ap (λ b. cond b (x ∷ calls_of x.pass history) (calls_of x.pass history)) (eq-eqb x.pass x.pass refl)) none).0

others_single : (number : ℕ) (b : Bool) (x : Finished (List Entry)) (calls : List (Finished (List Entry))) → HasNoList (cond b (x ∷ calls) calls) → HasNoList calls
others_single number true x calls none = none.1
others_single number false x calls none = none

history_single : (seats : ℕ) (history : List (Finished (List Entry))) → All (λ finished. finished.pass < seats) history → ((k : ℕ) → k < seats → HasNoList (calls_of k history)) → HasNoList history
history_single seats [] within each = tt
history_single seats (x ∷ history) within each =
    (first_single x history (each x.pass (within 0 x (omega arith))), history_single seats history (λ i d h. within (suc i) d (omega (arith, h))) (λ k h. others_single k (x.pass == k) x (calls_of k history) (each k h)))

-- the callers are those of the history
one_within : (seats number : ℕ) (xs : List Exchange) (rest : List Turn) → number < seats → All (λ turn. turn.caller < seats) rest → All (λ turn. turn.caller < seats) (turns_of number xs ++ rest)
one_within seats number [] rest within all k d h = all k d h
one_within seats number (x ∷ xs) rest within all zero d h = within
one_within seats number (x ∷ xs) rest within all (suc k) d h = one_within seats number xs rest within all k d (omega (arith, h))

callers_within : (seats : ℕ) (history : List (Finished (List Entry))) → All (λ finished. finished.pass < seats) history → All (λ turn. turn.caller < seats) (turns_in history)
callers_within seats [] all k d h = absurd (omega (arith, h))
callers_within seats (x ∷ history) all k d h =
    one_within seats x.pass (exchange_in x.call x.reply) (turns_in history) (all 0 x (omega arith)) (callers_within seats history (λ i e g. all (suc i) e (omega (arith, g)))) k d h

pub one_run : {D R W F : Type 0} (gives : D → Option (Connection R W) → D → Type 0) (remaining : R → Option (List ℕ)) (contents : W → Option (List ℕ)) (does : F → Deed → F → Type 0)
    (begun : List Entry) (posts posts_left : List (Post D F)) (left : List Entry) (requests : ℕ) (unanswered : Bool)
    → Ends Steps false gives remaining contents does begun posts left posts_left requests unanswered → IsOneRun gives remaining contents does begun posts left requests
one_run {D = D} {F = F} gives remaining contents does begun posts posts_left left requests unanswered e =
    let history = e.closed.history in
    let many : length posts ≡ length e.olds = ap length (sym e.posts_are) ∙ length-map e.olds (λ caller. caller.0) in
    let single = history_single (length posts) history e.closed.others
    (λ k within.
    let same : 0 + k ≡ k = omega arith in
    subst (λ (i : ℕ). HasNoList (calls_of i history)) same (none_listed gives remaining contents does 0 e.desk history e.olds e.news e.done (e.are_new ∙ ap (λ n. new_passes e.desk n) many) e.closed.own k (omega (arith, within, many)))) in
    let (runs, leaves) = history_runs begun history single e.closed.run in
    let (settled, counted) = counted_so history in
    record {
      turns = turns_in history;
      settled = settled;
      run = subst (IsRunFrom begun) (sym (exchanges_of history)) runs;
      leaves = e.closed.left ∙ leaves ∙ ap (journal_from begun) (sym (exchanges_of history));
      counted = e.closed.counted ∙ counted;
      own = subst (λ (ps : List (Post D F)). HaveMade gives remaining contents does 0 ps (turns_in history)) e.posts_are
          (have_made gives remaining contents does 0 e.desk history e.olds e.news e.done (e.are_new ∙ ap (λ n. new_passes e.desk n) many) e.closed.own);
      others = callers_within (length posts) history e.closed.others;
    }
