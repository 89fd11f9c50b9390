-- What the definitions mean, for readers: theorems for every game, all sets of rules and both goals.
pub mod Lengths
pub mod Lists
pub mod HelpLines
pub mod Trees
pub mod Solutions
pub mod Events
