-- Words that only inner functions and proofs need: nobody has to believe them.
pub mod Taken
