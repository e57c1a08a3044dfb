-- A worked tree, computed from the definitions: a folder with a name that begins with a dot, a link, a name that isn't
-- UTF-8, and a folder with a file that can't be opened; listing that folder fails or doesn't.
use Rattle.std.specs.Prelude.{◌≡◌, ℕ, ◌<◌, Bool, true, false, cond, List, [], ◌∷◌, Some, None, codes}
use Rattle.std.specs.Str.{bytes_eq}
use Rattle.std.proofs.Common.{refl, arith}
use Rattle.sha2.specs.Sha256.{sha256}
use Rattle.pana_scan.specs.declared.entry.Entry.TheVariants.{Named, NotText}
use Rattle.pana_scan.specs.declared.entry.Kind.TheVariants.{File, Folder, Other}
use Rattle.pana_scan.specs.declared.listing.Found.{Found}
use Rattle.pana_scan.specs.declared.listing.Found.TheVariants.{Seen, Unreadable}
use Rattle.pana_scan.specs.declared.listing.FoundRow.{FoundRow}
use Rattle.pana_scan.specs.declared.scan_fault.ScanFault.TheVariants as faults
use Rattle.pana_scan.specs.Disk.{Content, Names, Tree}
use Rattle.pana_scan.specs.Order.{Path}
use Rattle.pana_scan.specs.Scan.{CanBeScanned, HasFault, digest_of, listing_of}
use Rattle.pana_scan.specs.Tree.{folders_from}

abbrev in_reads : ℕ → List ℕ → Content
in_reads reads bytes = record { bytes = bytes; reads = reads; fails = false }

abbrev names_at : Bool → Path → Names
names_at fails path =
    cond (bytes_eq path (codes "r"))
    (record { entries = Named (codes "d") Folder ∷ Named (codes ".a") File ∷ Named (codes "link") Other ∷ NotText ∷ []; fails = false })
    (cond (bytes_eq path (codes "r/d")) (record { entries = Named (codes "b") File ∷ []; fails = fails }) (record { entries = []; fails = true }))

abbrev tree : Bool → List ℕ → Tree
tree fails bytes = record { names = names_at fails; content = λ path. cond (bytes_eq path (codes "r/.a")) (Some (in_reads 1 bytes)) None }

abbrev at : Path → Found → FoundRow
at path it = record { path = path; found = it }

listed : (bytes : List ℕ) → listing_of (tree false bytes) (codes "r") (codes "usb")
    ≡ record { device = codes "usb"; rows = at (codes ".a") (Seen (sha256 bytes)) ∷ at (codes "d/b") Unreadable ∷ []; skipped = 1 }
unfolding folders_from
listed bytes = refl

can_be_scanned : (bytes : List ℕ) → CanBeScanned 100000 (tree false bytes) (codes "r")
unfolding folders_from
can_be_scanned bytes = record { listed = refl; within = omega arith; reached = refl }

fails_inside : (bytes : List ℕ) → HasFault 100000 (tree true bytes) (codes "r") faults.Folder
unfolding folders_from
fails_inside bytes = refl

-- one read for the bytes, and one that finds the end
read_in_two : (bytes : List ℕ) → digest_of 2 (in_reads 1 bytes) ≡ Some (sha256 bytes)
read_in_two bytes = refl

not_read_in_one : (bytes : List ℕ) → digest_of 1 (in_reads 1 bytes) ≡ None
not_read_in_one bytes = refl
