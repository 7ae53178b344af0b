pub mod Books
pub mod Meetings
pub mod Objections
pub mod Parsings
pub mod Searches
