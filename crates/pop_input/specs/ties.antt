pub mod Closings
pub mod Spans
pub mod ReaderState
pub mod Tokens
pub mod Used
