-- Normal events that agree at all points are one tree.
use Rattle.std.proofs.Common.{◌≡◌, ℕ, zero, suc, ◌≤◌, Bool, true, false, List, ◌∷◌, length, arith, ap, ap₂}
use Rattle.pana_event.specs.Event.{Event, leaf, fork, number, level, depth, are_same_leaf, IsNormal}
use Rattle.pana_event.proofs.Levels.{least-normal, least-le-level, lowest}

same_number : (choices : ℕ) (e f : Event) → IsNormal e → IsNormal f → depth e ≤ choices → depth f ≤ choices → ((point : List Bool) → length point ≡ choices → level e point ≡ level f point) → number e ≡ number f
same_number choices e f normal others first second agree =
    let low = lowest e choices first in
    let other = lowest f choices second in
    let up : number e ≤ number f = omega (arith, agree other.point other.long, other.is, least-le-level e other.point (omega (arith, other.long)), least-normal e normal, least-normal f others) in
    let down : number f ≤ number e = omega (arith, agree low.point low.long, low.is, least-le-level f low.point (omega (arith, low.long)), least-normal e normal, least-normal f others) in
    omega arith

pub same-tree : (choices : ℕ) (e f : Event) → IsNormal e → IsNormal f → depth e ≤ choices → depth f ≤ choices → ((point : List Bool) → length point ≡ choices → level e point ≡ level f point) → e ≡ f
same-tree zero (leaf m) (leaf n) normal others first second agree =
    ap leaf (same_number zero (leaf m) (leaf n) tt tt first second agree)
same-tree zero (leaf m) (fork n c d) normal others first second agree = absurd (omega arith)
same-tree zero (fork m l r) f normal others first second agree = absurd (omega arith)
same-tree (suc choices) (leaf m) (leaf n) normal others first second agree =
    ap leaf (same_number (suc choices) (leaf m) (leaf n) tt tt first second agree)
same-tree (suc choices) (leaf m) (fork n c d) normal others first second agree =
    let same : m ≡ n = same_number (suc choices) (leaf m) (fork n c d) tt others first second agree in
    let left : c ≡ leaf 0 = same-tree choices c (leaf 0) others.1 tt (omega arith) (omega arith) (λ point long. omega (arith, agree (false ∷ point) (omega arith))) in
    let right : d ≡ leaf 0 = same-tree choices d (leaf 0) others.2 tt (omega arith) (omega arith) (λ point long. omega (arith, agree (true ∷ point) (omega arith))) in
    let merged : are_same_leaf c d ≡ true = ap₂ are_same_leaf left right in
    absurd (cc (others.0.differ))
same-tree (suc choices) (fork m l r) (leaf n) normal others first second agree =
    let same : m ≡ n = same_number (suc choices) (fork m l r) (leaf n) normal tt first second agree in
    let left : l ≡ leaf 0 = same-tree choices l (leaf 0) normal.1 tt (omega arith) (omega arith) (λ point long. omega (arith, agree (false ∷ point) (omega arith))) in
    let right : r ≡ leaf 0 = same-tree choices r (leaf 0) normal.2 tt (omega arith) (omega arith) (λ point long. omega (arith, agree (true ∷ point) (omega arith))) in
    let merged : are_same_leaf l r ≡ true = ap₂ are_same_leaf left right in
    absurd (cc (normal.0.differ))
same-tree (suc choices) (fork m l r) (fork n c d) normal others first second agree =
    let same : m ≡ n = same_number (suc choices) (fork m l r) (fork n c d) normal others first second agree in
    let left : l ≡ c = same-tree choices l c normal.1 others.1 (omega arith) (omega arith) (λ point long. omega (arith, agree (false ∷ point) (omega arith))) in
    let right : r ≡ d = same-tree choices r d normal.2 others.2 (omega arith) (omega arith) (λ point long. omega (arith, agree (true ∷ point) (omega arith))) in
    cc
