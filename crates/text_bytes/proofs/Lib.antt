pub mod JoinedWords
pub mod LinkPlaces
pub mod ReadingBack
mod Finding
pub mod Digits
pub mod Places
pub mod Escaping
pub mod Placing
pub mod Seen
pub mod Utf8
