use Rattle.std.proofs.Common.{◌≡◌, refl, sym, subst, inr, true, false, map, get_or, [], arith, List, ℕ, ◌+◌, ◌<◌, ◌≤◌, ◌∷◌, ◌++◌, length}
use Rattle.std.proofs.lemmas.List.{length-append}
use Rattle.pana_roots.specs.declared.root.Root.{Root}
use Rattle.pana_roots.specs.Root.{is_bad_root}
use Rattle.pana_roots.proofs.Rooted.{NamesTo, none_named, one_more_named, bad_named, all_named, room_left}
use Rattle.pana_roots.proofs.root.roots_of.Goals as goal

-- what a root names
abbrev device : Root → List ℕ
device root = root.device

abbrev folder : Root → List ℕ
folder root = root.folder.now

pub loop-word-init : goal.loop-word-init
loop-word-init c = (subst (λ (roots : List Root). NamesTo device folder c.args.words.now 0 roots) (sym c.new-roots.ensures.items) (none_named device folder c.args.words.now), subst (λ (roots : List Root). length roots ≤ 8) (sym c.new-roots.ensures.items) (omega arith))

pub returns-in_default-clause-bad : goal.returns-in_default-clause-bad
returns-in_default-clause-bad c = inr (
  _,
  refl,
  bad_named device folder c.args.words.now c.loop-word.word-index _ c.loop-word.roots.items (omega arith) c.loop-word.invariant.0
      (subst (λ (roots : List Root). is_bad_root (map device roots) (get_or c.args.words.now c.loop-word.word-index (record { ref_ptr = (0, 0); now = [] })).now ≡ true) c.as_slice.ensures.value (rw c.in_default.is at c.root_of.ensures)),
)

pub loop-word-preserved : goal.loop-word-preserved
loop-word-preserved c =
    let same : c.as_slice.result.now ≡ c.loop-word.roots.items = c.as_slice.ensures.value in
    let (good, is_d, is_f) = rw c.in-Some.is at c.root_of.ensures in
    let word = (get_or c.args.words.now c.loop-word.word-index (record { ref_ptr = (0, 0); now = [] })).now in
    let fits : is_bad_root (map device c.loop-word.roots.items) word ≡ false = subst (λ (roots : List Root). is_bad_root (map device roots) word ≡ false) same good in
    let room : length c.loop-word.roots.items < 8 = room_left device folder c.args.words.now word c.loop-word.roots.items fits in
    let longer : length (c.loop-word.roots.items ++ c.in-Some.root ∷ []) ≡ length c.loop-word.roots.items + 1 = length-append c.loop-word.roots.items (c.in-Some.root ∷ []) in
    subst (λ (roots : List Root). NamesTo device folder c.args.words.now (c.loop-word.word-index + 1) roots × (length roots ≤ 8)) (sym c.in-Ok.ensures.items)
    (one_more_named device folder c.args.words.now c.loop-word.word-index _ c.loop-word.roots.items c.in-Some.root (omega arith) c.loop-word.invariant.0 fits is_d is_f, omega (arith, room, longer))

pub returns-clause-ok : goal.returns-clause-ok
returns-clause-ok c = (all_named device folder c.args.words.now c.loop-word.word-index c.loop-word.roots.items (omega arith) c.loop-word.invariant.0).0

pub returns-clause-devices : goal.returns-clause-devices
returns-clause-devices c = (all_named device folder c.args.words.now c.loop-word.word-index c.loop-word.roots.items (omega arith) c.loop-word.invariant.0).1

pub returns-clause-folders : goal.returns-clause-folders
returns-clause-folders c = (all_named device folder c.args.words.now c.loop-word.word-index c.loop-word.roots.items (omega arith) c.loop-word.invariant.0).2

pub returns-clause-few : goal.returns-clause-few
returns-clause-few c = c.loop-word.invariant.1
