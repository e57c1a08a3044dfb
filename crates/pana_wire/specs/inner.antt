-- Words that only inner functions and proofs need.
pub mod Kept
pub mod Names
pub mod LongLine
pub mod Progress
pub mod SealedData
pub mod Writing
pub mod Pieces
pub mod ReportTokens
pub mod FlatObject
pub mod FlatEntries
pub mod Rounds
