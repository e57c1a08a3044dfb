-- Words that only inner functions and proofs need: nobody has to believe them.
pub mod Comparing
pub mod Making
pub mod Uniting
pub mod Exchanging
