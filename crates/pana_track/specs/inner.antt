-- Words that only inner functions and proofs need: nobody has to believe them.
pub mod Reporting
pub mod Rounds
pub mod Pages
pub mod Searching
