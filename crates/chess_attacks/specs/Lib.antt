pub mod Attacks
pub mod Reaches
pub mod RuleSet
pub mod ties
