-- What the definitions mean, for readers: theorems that hold for every input.
pub mod Spans
