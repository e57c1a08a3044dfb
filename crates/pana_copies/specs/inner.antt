-- Words that only inner functions and proofs need: nobody has to believe them.
pub mod Counts
pub mod DeviceBytes
pub mod Indexes
pub mod Marks
pub mod Sides
pub mod SumBytes
