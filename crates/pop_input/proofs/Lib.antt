pub mod Words
pub mod Parsing
pub mod Putting
pub mod Posing
pub mod Taking
pub mod Used
pub mod Blocks
pub mod Items
pub mod Ends
pub mod DeviceFaults
mod Rows
pub mod Excluded
pub mod Naming
pub mod Skipping
pub mod Spans
pub mod Pieces
pub mod theorems
mod ExampleOfBlocks
