pub mod FaultsShown
