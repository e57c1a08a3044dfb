-- When the times of a file are old enough.
use Rattle.std.specs.Prelude.{ℤ, pos, ◌+ℤ◌, ◌*ℤ◌, ◌≤ℤ◌}
use Rattle.pana_sums.specs.declared.file_time.FileTime.{FileTime}
use Rattle.pana_sums.specs.declared.signature.Signature.{Signature}

-- a time in whole nanoseconds: the sum has no end, so there is none that doesn't fit
abbrev pub nanoseconds_of : FileTime → ℤ
nanoseconds_of time = time.seconds *ℤ pos 1000000000 +ℤ pos time.nanoseconds

-- two seconds or more before
abbrev pub IsLongBefore : FileTime → FileTime → Type 0
IsLongBefore time begun = (nanoseconds_of time +ℤ pos 2000000000) ≤ℤ nanoseconds_of begun

-- both times of the file are two seconds or more before a scan began
abbrev pub IsSettled : Signature → FileTime → Type 0
IsSettled signature begun = IsLongBefore signature.modified begun × IsLongBefore signature.changed begun
