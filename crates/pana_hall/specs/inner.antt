-- Words that only inner functions and proofs need: nobody has to believe them.
pub mod Undo
pub mod Contents
pub mod Families
pub mod Spots
pub mod Listed
pub mod Kept
pub mod Next
pub mod State
pub mod Rows
pub mod Relatives
pub mod Finding
pub mod Plan
