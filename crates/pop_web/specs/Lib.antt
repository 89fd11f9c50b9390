pub mod Page
pub mod ties
