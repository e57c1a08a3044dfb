pub mod Place
pub mod Looking
pub mod Verdict
pub mod Texts
pub mod Words
pub mod Report
