-- What plans mean: theorems for readers.
pub mod Plans
