pub mod OneLine
pub mod OwnPaths
