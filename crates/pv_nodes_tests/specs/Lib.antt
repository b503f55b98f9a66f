pub mod TestRules
