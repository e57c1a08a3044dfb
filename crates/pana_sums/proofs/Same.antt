-- Whether two signatures are one.
use Rattle.std.proofs.Common.{◌≡◌, true, ◌&&◌, ◌==◌, refl, subst}
use Rattle.std.specs.Bool.{Decides}
use Rattle.std.specs.Cmp.{IsEquivalence, decided}
use Rattle.std.specs.Ordering.{int_eq}
use Rattle.std.proofs.lemmas.Bool.{and_parts, and_from}
use Rattle.std.proofs.lemmas.Bool.Decides.{Decides-eqb, Decides-int_eq}
use Rattle.pana_sums.specs.declared.file_time.FileTime.{FileTime}
use Rattle.pana_sums.specs.declared.signature.Signature.{Signature}
use Rattle.pana_sums.specs.Table.{same_time, same_signature}

one_time : (a b : FileTime) → same_time a b ≡ true → a ≡ b
one_time a b test =
    let both = and_parts (int_eq a.seconds b.seconds) (a.nanoseconds == b.nanoseconds) test in
    let seconds = (Decides-int_eq a.seconds b.seconds).0 both.0 in
    let nanoseconds = (Decides-eqb a.nanoseconds b.nanoseconds).0 both.1 in
    λ j. record { seconds = seconds j; nanoseconds = nanoseconds j }

time_itself : (a : FileTime) → same_time a a ≡ true
time_itself a = and_from _ _ ((Decides-int_eq a.seconds a.seconds).1 refl) ((Decides-eqb a.nanoseconds a.nanoseconds).1 refl)

one_signature : (a b : Signature) → same_signature a b ≡ true → a ≡ b
one_signature a b test =
    let first = and_parts (a.device == b.device) (a.inode == b.inode && (a.size == b.size && (same_time a.modified b.modified && same_time a.changed b.changed))) test in
    let second = and_parts (a.inode == b.inode) (a.size == b.size && (same_time a.modified b.modified && same_time a.changed b.changed)) first.1 in
    let third = and_parts (a.size == b.size) (same_time a.modified b.modified && same_time a.changed b.changed) second.1 in
    let fourth = and_parts (same_time a.modified b.modified) (same_time a.changed b.changed) third.1 in
    let device = (Decides-eqb a.device b.device).0 first.0 in
    let inode = (Decides-eqb a.inode b.inode).0 second.0 in
    let size = (Decides-eqb a.size b.size).0 third.0 in
    let modified = one_time a.modified b.modified fourth.0 in
    let changed = one_time a.changed b.changed fourth.1 in
    λ j. record { device = device j; inode = inode j; size = size j; modified = modified j; changed = changed j }

signature_itself : (a : Signature) → same_signature a a ≡ true
signature_itself a =
    and_from _ _ ((Decides-eqb a.device a.device).1 refl)
    (and_from _ _ ((Decides-eqb a.inode a.inode).1 refl)
    (and_from _ _ ((Decides-eqb a.size a.size).1 refl)
    (and_from _ _ (time_itself a.modified) (time_itself a.changed))))

same_signature-Decides : (a b : Signature) → Decides (same_signature a b) (a ≡ b)
same_signature-Decides a b = (one_signature a b, λ same. subst (λ x. same_signature a x ≡ true) same (signature_itself a))

pub same_signature-equiv : IsEquivalence same_signature
same_signature-equiv = decided same_signature same_signature-Decides
