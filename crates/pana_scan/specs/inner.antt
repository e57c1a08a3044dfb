-- Words that only inner functions and proofs need: nobody has to believe them.
pub mod Heads
pub mod Left
pub mod Look
pub mod Pool
pub mod Position
pub mod Seen
pub mod Takers
pub mod Walk
