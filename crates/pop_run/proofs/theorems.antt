-- What the definitions mean, for readers: theorems that hold for every input and all settings.
pub mod Report
