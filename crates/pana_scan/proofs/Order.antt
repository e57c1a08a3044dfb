-- Paths in byte order: how they compare, and lists of them that rise.
use Rattle.std.specs.Prelude.{◌≡◌, Bool, true, false, ◌||◌, List, [], ◌∷◌, ◌++◌}
use Rattle.std.specs.List.{AllByRecursion, list_any}
use Rattle.std.specs.List.Sorted.{IsStrictlySortedBy}
use Rattle.std.specs.declared.cmp.Ordering.{Ordering}
use Rattle.std.specs.declared.cmp.Ordering.TheVariants.{Less, Equal, Greater}
use Rattle.std.specs.Ordering.{is_lt, is_eq, ordering_reverse}
use Rattle.std.specs.Cmp.Lexicographic.{nat_list_cmp_total, texts_ties}
use Rattle.std.specs.FinMap.{slice_cmp-IsAntisymmetric, nat_cmp-IsAntisymmetric}
use Rattle.std.specs.Str.{bytes_eq}
use Rattle.std.proofs.Common.{refl, sym, ap, ◌∙◌, subst}
use Rattle.std.proofs.lemmas.Bool.{true≢false}
use Rattle.std.proofs.lemmas.Cmp.{tied_itself}
use Rattle.pana_scan.specs.Order.{Path, path_cmp, by_order, with_path, in_order}

-- the path is below each of the paths
abbrev pub IsBelow : Path → List Path → Type 0
IsBelow path paths = AllByRecursion (λ other. path_cmp path other ≡ Less) paths

-- each path is below those after it
abbrev pub Rise : List Path → Type 0
Rise paths = IsStrictlySortedBy path_cmp paths

-- whether the path is one of the paths
abbrev pub has : List Path → Path → Bool
has paths path = list_any (λ other. bytes_eq other path) paths

pub nothing_rises : Rise []
unfolding IsStrictlySortedBy
nothing_rises = tt

pub less_from : (o : Ordering) → is_lt o ≡ true → o ≡ Less
less_from Less is = refl
less_from Equal is = absurd (true≢false (sym is))
less_from Greater is = absurd (true≢false (sym is))

pub same_path : (p q : Path) → path_cmp p q ≡ Equal → p ≡ q
same_path = slice_cmp-IsAntisymmetric nat_cmp-IsAntisymmetric

pub equal_itself : (p : Path) → path_cmp p p ≡ Equal
equal_itself = tied_itself nat_list_cmp_total

pub eq_itself : (p : Path) → bytes_eq p p ≡ true
eq_itself p = texts_ties p p ∙ ap is_eq (equal_itself p)

pub turned : (p q : Path) (o : Ordering) → path_cmp p q ≡ o → path_cmp q p ≡ ordering_reverse o
turned p q o e = nat_list_cmp_total.antisymm q p ∙ ap ordering_reverse e

pub less_then : (p q r : Path) → path_cmp p q ≡ Less → path_cmp q r ≡ Less → path_cmp p r ≡ Less
less_then = nat_list_cmp_total.trans

pub less_differs : (p q : Path) → path_cmp p q ≡ Less → bytes_eq p q ≡ false
less_differs p q less = texts_ties p q ∙ ap is_eq less

pub greater_differs : (p q : Path) → path_cmp p q ≡ Less → bytes_eq q p ≡ false
greater_differs p q less = texts_ties q p ∙ ap is_eq (turned p q Less less)

pub eq_is_same : (p q : Path) → bytes_eq p q ≡ true → p ≡ q
eq_is_same p q e = elim (path_cmp p q) as (λ o. path_cmp p q ≡ o → is_eq o ≡ true → p ≡ q) [
  | Less ↦ λ is h. absurd (true≢false (sym h))
  | Equal ↦ λ is h. same_path p q is
  | Greater ↦ λ is h. absurd (true≢false (sym h))
] refl (sym (texts_ties p q) ∙ e)

pub below_chain : (p q : Path) (paths : List Path) → path_cmp p q ≡ Less → IsBelow q paths → IsBelow p paths
below_chain p q [] less below = tt
below_chain p q (next ∷ paths) less below = (less_then p q next less below.0, below_chain p q paths less below.1)

pub below_has_not : (p : Path) (paths : List Path) → IsBelow p paths → has paths p ≡ false
below_has_not p [] below = refl
below_has_not p (next ∷ paths) below =
    ap (λ b. b || has paths p) (greater_differs p next below.0) ∙ below_has_not p paths below.1

pub below_append : (p : Path) (xs ys : List Path) → IsBelow p xs → IsBelow p ys → IsBelow p (xs ++ ys)
below_append p [] ys a b = b
below_append p (x ∷ xs) ys a b = (a.0, below_append p xs ys a.1 b)

-- ---- putting a path in its place

below_with : (q p : Path) (paths : List Path) → path_cmp q p ≡ Less → IsBelow q paths → IsBelow q (with_path p paths)
below_with q p [] less below = (less, tt)
below_with q p (next ∷ paths) less below =
    elim (path_cmp p next) as (λ o. IsBelow q (by_order o (p ∷ next ∷ paths) (next ∷ paths) (next ∷ with_path p paths))) [
      | Less ↦ (less, below)
      | Equal ↦ below
      | Greater ↦ (below.0, below_with q p paths less below.1)
    ]

rise_with : (p : Path) (paths : List Path) → Rise paths → Rise (with_path p paths)
unfolding IsStrictlySortedBy
rise_with p [] rise = (tt, tt)
rise_with p (next ∷ paths) rise =
    elim (path_cmp p next) as (λ o. path_cmp p next ≡ o → Rise (by_order o (p ∷ next ∷ paths) (next ∷ paths) (next ∷ with_path p paths))) [
      | Less ↦ λ e. ((e, below_chain p next paths e rise.0), rise)
      | Equal ↦ λ e. rise
      | Greater ↦ λ e. (below_with next p paths (turned p next Greater e) rise.0, rise_with p paths rise.1)
    ] refl

or_same : (a r : Bool) → (a || r) ≡ (a || (a || r))
or_same true r = refl
or_same false r = refl

or_swap : (a b r : Bool) → (a || (b || r)) ≡ (b || (a || r))
or_swap true true r = refl
or_swap true false r = refl
or_swap false b r = refl

has_with : (p : Path) (paths : List Path) (q : Path) → has (with_path p paths) q ≡ (bytes_eq p q || has paths q)
has_with p [] q = refl
has_with p (next ∷ paths) q =
    elim (path_cmp p next) as (λ o. path_cmp p next ≡ o
    → has (by_order o (p ∷ next ∷ paths) (next ∷ paths) (next ∷ with_path p paths)) q ≡ (bytes_eq p q || (bytes_eq next q || has paths q))) [
      | Less ↦ λ e. refl
      | Equal ↦ λ e. or_same (bytes_eq next q) (has paths q) ∙ ap (λ x. bytes_eq x q || (bytes_eq next q || has paths q)) (sym (same_path p next e))
      | Greater ↦ λ e. ap (λ b. bytes_eq next q || b) (has_with p paths q) ∙ or_swap (bytes_eq next q) (bytes_eq p q) (has paths q)
    ] refl

-- ---- all in order

pub in_order_rise : (paths : List Path) → Rise (in_order paths)
unfolding IsStrictlySortedBy
in_order_rise [] = tt
in_order_rise (path ∷ paths) = rise_with path (in_order paths) (in_order_rise paths)

pub in_order_has : (paths : List Path) (q : Path) → has (in_order paths) q ≡ has paths q
in_order_has [] q = refl
in_order_has (path ∷ paths) q = has_with path (in_order paths) q ∙ ap (λ b. bytes_eq path q || b) (in_order_has paths q)

pub in_order_below : (p : Path) (paths : List Path) → IsBelow p paths → IsBelow p (in_order paths)
in_order_below p [] below = tt
in_order_below p (path ∷ paths) below = below_with p path (in_order paths) below.0 (in_order_below p paths below.1)

-- ---- two lists that rise and have the same paths are the same

has_first : (p : Path) (paths : List Path) → has (p ∷ paths) p ≡ true
has_first p paths = ap (λ b. b || has paths p) (eq_itself p)

-- a path below the first of a list that rises isn't there
missing : (p q : Path) (paths : List Path) → path_cmp p q ≡ Less → Rise (q ∷ paths) → has (q ∷ paths) p ≡ false
unfolding IsStrictlySortedBy
missing p q paths less rise = below_has_not p (q ∷ paths) (less, below_chain p q paths less rise.0)

same_tails : (x y : Path) (xs ys : List Path) → IsBelow x xs → IsBelow y ys → ((q : Path) → has (x ∷ xs) q ≡ has (y ∷ ys) q) → x ≡ y → (q : Path) → has xs q ≡ has ys q
same_tails x y xs ys bx by same is q = elim (bytes_eq x q) as (λ b. bytes_eq x q ≡ b → has xs q ≡ has ys q) [
  | true ↦ λ e.
      let here = eq_is_same x q e in
      subst (λ z. has xs z ≡ false) here (below_has_not x xs bx)
      ∙ sym (subst (λ z. has ys z ≡ false) (sym is ∙ here) (below_has_not y ys by))
  | false ↦ λ e.
      ap (λ b. b || has xs q) (sym e) ∙ same q ∙ ap (λ z. bytes_eq z q || has ys q) (sym is) ∙ ap (λ b. b || has ys q) e
] refl

pub same_paths : (xs ys : List Path) → Rise xs → Rise ys → ((q : Path) → has xs q ≡ has ys q) → xs ≡ ys
unfolding IsStrictlySortedBy
same_paths [] [] rx ry same = refl
same_paths [] (y ∷ ys) rx ry same = absurd (true≢false (sym (has_first y ys) ∙ sym (same y)))
same_paths (x ∷ xs) [] rx ry same = absurd (true≢false (sym (has_first x xs) ∙ same x))
same_paths (x ∷ xs) (y ∷ ys) rx ry same =
    elim (path_cmp x y) as (λ o. path_cmp x y ≡ o → x ∷ xs ≡ y ∷ ys) [
      | Less ↦ λ e. absurd (true≢false (sym (has_first x xs) ∙ same x ∙ missing x y ys e ry))
      | Equal ↦ λ e.
          let is = same_path x y e in
          ap (λ z. z ∷ xs) is ∙ ap (λ zs. y ∷ zs) (same_paths xs ys rx.1 ry.1 (same_tails x y xs ys rx.0 ry.0 same is))
      | Greater ↦ λ e. absurd (true≢false (sym (has_first y ys) ∙ sym (same y) ∙ missing y x xs (turned x y Greater e) rx))
    ] refl
