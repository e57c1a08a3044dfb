-- Words that only inner functions and proofs need: nobody has to believe them.
pub mod Sources
pub mod Families
pub mod Alone
pub mod Pages
pub mod Lanes
pub mod Withdrawals
pub mod Story
