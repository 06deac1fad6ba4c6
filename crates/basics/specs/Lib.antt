-- Laws that every crate cites.
pub mod Tests
pub mod Lists
