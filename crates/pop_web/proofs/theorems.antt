-- What the definitions mean, for readers: theorems that hold for every text and all settings.
pub mod Page
