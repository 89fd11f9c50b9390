pub mod ties
