-- The holdings of a device, sorted by their paths: the paths rise, and each is found as before.
use Rattle.std.specs.Prelude.{◌≡◌, ◌≢◌, suc, Bool, true, false, cond, not, ◌&&◌, ◌||◌, List, [], ◌∷◌, map, filter, find, Option, Some, None, option_map}
use Rattle.std.specs.List.{AllByRecursion, IsDistinct, list_any}
use Rattle.std.specs.List.Sorted.{IsStrictlySortedBy, IsSortedBy, IsPermutation, IsStableBy, ties}
use Rattle.std.specs.declared.cmp.Ordering.TheVariants.{Less, Equal, Greater}
use Rattle.std.specs.Ordering.{is_lt, is_eq}
use Rattle.std.specs.Cmp.Lexicographic.{texts_ties, nat_list_eq_equiv}
use Rattle.std.specs.Str.{bytes_eq}
use Rattle.std.proofs.Common.{refl, sym, ap, ◌∙◌, subst, arith, Bor}
use Rattle.std.proofs.lemmas.Bool.{true≢false}
use Rattle.std.proofs.lemmas.List.Sorted.{list_any-IsPermutation}
use Rattle.std.proofs.lemmas.Map.Keys.{IsDistinct-IsPermutation}
use native.Mathlib.Numerals.{unary_clauses}
use Rattle.pana_calls.specs.declared.holding.Holding.{Holding}
use Rattle.pana_calls.specs.Holdings.{HaveOwnPaths}
use Rattle.pana_scan.specs.declared.baseline.BaselineRow.{BaselineRow}
use Rattle.pana_scan.specs.declared.listing.FoundRow.{FoundRow}
use Rattle.pana_scan.specs.Order.{Path, path_cmp, in_order}
use Rattle.pana_scan.specs.Plan.{at_paths, at_path, paths_of}
use Rattle.pana_scan.specs.inner.Left.{HoldingsRise, HoldTheSame}
use Rattle.pana_scan.proofs.Order.{Rise, has, turned, below_chain, eq_is_same, in_order_rise, in_order_has, same_paths}
use Rattle.pana_scan.proofs.Merged.{lent, three, three_has, found_path, kept_path, living_path}

abbrev Lent : Type 0
Lent = Bor Holding

abbrev path_of : Lent → Path
path_of holding = holding.now.path

abbrev pub precedes : Lent → Lent → Bool
precedes one other = is_lt (path_cmp one.now.path other.now.path)

abbrev same : Lent → Lent → Bool
same one other = bytes_eq one.now.path other.now.path

-- ---- the paths rise

others : (one : Lent) (holdings : List Lent) → AllByRecursion (λ other. one.now.path ≢ other.path) (lent holdings) → AllByRecursion (λ other. same one other ≡ false) holdings
others one [] own = tt
others one (other ∷ holdings) own = (
  elim (same one other) as (λ b. same one other ≡ b → b ≡ false) [
    | true ↦ λ e. absurd (own.0 (eq_is_same one.now.path other.now.path e))
    | false ↦ λ e. refl
  ] refl,
  others one holdings own.1,
)

own_distinct : (holdings : List Lent) → HaveOwnPaths (lent holdings) → IsDistinct same holdings
unfolding IsDistinct
own_distinct [] own = tt
own_distinct (one ∷ holdings) own = (others one holdings own.0, own_distinct holdings own.1)

strictly : (p q : Path) → is_lt (path_cmp q p) ≡ false → bytes_eq p q ≡ false → path_cmp p q ≡ Less
strictly p q not_less differ = elim (path_cmp p q) as (λ o. path_cmp p q ≡ o → o ≡ Less) [
  | Less ↦ λ e. refl
  | Equal ↦ λ e. absurd (true≢false (sym (texts_ties p q ∙ ap is_eq e) ∙ differ))
  | Greater ↦ λ e. absurd (true≢false (sym (ap is_lt (turned p q Greater e)) ∙ not_less))
] refl

distinct_rise : (holdings : List Lent) → IsDistinct same holdings → IsSortedBy precedes holdings → Rise (map path_of holdings)
unfolding IsDistinct IsStrictlySortedBy
distinct_rise [] distinct sorted = tt
distinct_rise (one ∷ []) distinct sorted = (tt, tt)
distinct_rise (one ∷ other ∷ holdings) distinct sorted =
    let rest = distinct_rise (other ∷ holdings) distinct.1 (λ k d low high. simp unary_clauses (simp unary_clauses at (sorted (suc k) d (omega arith) (omega (arith, high))))) in
    let less = strictly one.now.path other.now.path (sorted 0 one (omega arith) (omega arith)) distinct.0.0 in
    ((less, below_chain one.now.path other.now.path (map path_of holdings) less rest.0), rest)

lent_paths : (holdings : List Lent) → map living_path (lent holdings) ≡ map path_of holdings
lent_paths [] = refl
lent_paths (one ∷ holdings) = ap (λ more. one.now.path ∷ more) (lent_paths holdings)

pub sorted_rise : (before after : List Lent) → HaveOwnPaths (lent before) → IsPermutation before after → IsSortedBy precedes after → HoldingsRise (lent after)
sorted_rise before after own moved sorted =
    let distinct = IsDistinct-IsPermutation same (λ one other. nat_list_eq_equiv.symm one.now.path other.now.path) before after moved (own_distinct before own) in
    subst Rise (sym (lent_paths after)) (distinct_rise after distinct sorted)

-- ---- each path finds the same

abbrev first : {T : Type 0} → List T → Option T
first [] = None
first (x ∷ xs) = Some x

abbrev pub there : {T : Type 0} → Option T → Bool
there None = false
there (Some x) = true

module _ {T : Type 0} (test : T → Bool) where
  find_first : (xs : List T) → find test xs ≡ first (filter test xs)
  find_first [] = refl
  find_first (x ∷ xs) = elim (test x) as (λ b. cond b (Some x) (find test xs) ≡ first (cond b (x ∷ filter test xs) (filter test xs))) [ true ↦ refl | false ↦ find_first xs ]

  pub find_any : (xs : List T) → there (find test xs) ≡ list_any test xs
  find_any [] = refl
  find_any (x ∷ xs) = elim (test x) as (λ b. there (cond b (Some x) (find test xs)) ≡ (b || list_any test xs)) [ true ↦ refl | false ↦ find_any xs ]

  pub found_passes : (xs : List T) (x : T) → find test xs ≡ Some x → test x ≡ true
  found_passes [] x = λ is. absurd (true≢false (sym (ap there is)))
  found_passes (y ∷ xs) x = elim (test y) as (λ b. test y ≡ b → cond b (Some y) (find test xs) ≡ Some x → test x ≡ true) [
    | true ↦ λ e is. subst (λ z. test z ≡ true) (ap (get y) is) e
    | false ↦ λ e is. found_passes xs x is
  ] refl
    where
      get : T → Option T → T
      get d None = d
      get d (Some z) = z

pub alike_filter : {T : Type 0} (test other : T → Bool) → ((x : T) → test x ≡ other x) → (xs : List T) → filter test xs ≡ filter other xs
alike_filter test other alike [] = refl
alike_filter test other alike (x ∷ xs) = λ i. cond (alike x i) (x ∷ alike_filter test other alike xs i) (alike_filter test other alike xs i)

pub none_of : {T : Type 0} (o : Option T) → there o ≡ false → o ≡ None
none_of None is = refl
none_of (Some x) is = absurd (true≢false is)

-- two holdings tie where their paths are the same
pub ties_same : (p q : Path) → (not (is_lt (path_cmp p q)) && not (is_lt (path_cmp q p))) ≡ bytes_eq q p
ties_same p q = elim (path_cmp p q) as (λ o. path_cmp p q ≡ o → (not (is_lt o) && not (is_lt (path_cmp q p))) ≡ bytes_eq q p) [
  | Less ↦ λ e. sym (texts_ties q p ∙ ap is_eq (turned p q Less e))
  | Equal ↦ λ e. ap (λ o. not (is_lt o)) (turned p q Equal e) ∙ sym (texts_ties q p ∙ ap is_eq (turned p q Equal e))
  | Greater ↦ λ e. ap (λ o. not (is_lt o)) (turned p q Greater e) ∙ sym (texts_ties q p ∙ ap is_eq (turned p q Greater e))
] refl

abbrev at : Path → Lent → Bool
at q holding = bytes_eq holding.now.path q

find_same : (before after : List Lent) (q : Path) → IsPermutation before after → IsStableBy precedes before after → find (at q) after ≡ find (at q) before
find_same before after q moved stable =
    elim (find (at q) before) as (λ o. find (at q) before ≡ o → find (at q) after ≡ o) [
      | None ↦ λ e. none_of (find (at q) after) (find_any (at q) after ∙ sym (list_any-IsPermutation (at q) before after moved) ∙ sym (find_any (at q) before) ∙ ap there e)
      | Some x ↦ λ e.
          let here = eq_is_same x.now.path q (found_passes (at q) before x e) in
          let alike : (y : Lent) → ties precedes x y ≡ at q y = λ y. ties_same x.now.path y.now.path ∙ ap (λ p. bytes_eq y.now.path p) here in
          find_first (at q) after
          ∙ ap first (sym (alike_filter (ties precedes x) (at q) alike after) ∙ stable x ∙ alike_filter (ties precedes x) (at q) alike before)
          ∙ sym (find_first (at q) before)
          ∙ e
    ] refl

find_lent : (q : Path) (holdings : List Lent) → find (λ holding. bytes_eq holding.path q) (lent holdings) ≡ option_map (λ holding. holding.now) (find (at q) holdings)
find_lent q [] = refl
find_lent q (one ∷ holdings) =
    elim (at q one) as (λ b. cond b (Some one.now) (find (λ holding. bytes_eq holding.path q) (lent holdings)) ≡ option_map (λ holding. holding.now) (cond b (Some one) (find (at q) holdings))) [
      | true ↦ refl
      | false ↦ find_lent q holdings
    ]

pub sorted_same : (before after : List Lent) → IsPermutation before after → IsStableBy precedes before after → HoldTheSame (lent before) (lent after)
sorted_same before after moved stable q =
    find_lent q after ∙ ap (option_map (λ holding. holding.now)) (find_same before after q moved stable) ∙ sym (find_lent q before)

-- ---- what is known doesn't depend on the order of holdings

has_found : (q : Path) (holdings : List Holding) → has (map living_path holdings) q ≡ there (find (λ holding. bytes_eq holding.path q) holdings)
has_found q [] = refl
has_found q (one ∷ holdings) =
    elim (bytes_eq one.path q) as (λ b. (b || has (map living_path holdings) q) ≡ there (cond b (Some one) (find (λ holding. bytes_eq holding.path q) holdings))) [
      | true ↦ refl
      | false ↦ has_found q holdings
    ]

pub at_paths_same : (found : List FoundRow) (kept : List BaselineRow) (before after : List Holding) → HoldTheSame before after → at_paths found kept after ≡ at_paths found kept before
at_paths_same found kept before after alike =
    let alike_has : (q : Path) → has (in_order (three found kept after)) q ≡ has (in_order (three found kept before)) q = λ q.
    in_order_has (three found kept after) q ∙ three_has found kept after q
    ∙ ap (λ b. (has (map found_path found) q || has (map kept_path kept) q) || b) (has_found q after ∙ ap there (alike q) ∙ sym (has_found q before))
    ∙ sym (three_has found kept before q) ∙ sym (in_order_has (three found kept before) q) in
    let paths : paths_of found kept after ≡ paths_of found kept before =
    same_paths (in_order (three found kept after)) (in_order (three found kept before)) (in_order_rise (three found kept after)) (in_order_rise (three found kept before)) alike_has in
    ap (map (at_path found kept after)) paths ∙ map_alike (paths_of found kept before)
  where
    map_alike : (paths : List Path) → map (at_path found kept after) paths ≡ map (at_path found kept before) paths
    map_alike [] = refl
    map_alike (q ∷ paths) = λ i. record {
      path = q;
      found = option_map (λ row. row.found) (find (λ row. bytes_eq row.path q) found);
      mark = option_map (λ row. row.mark) (find (λ row. bytes_eq row.path q) kept);
      living = alike q i;
    } ∷ map_alike paths i
