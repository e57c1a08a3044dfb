pub mod LogStore
