pub mod GrammarLaws
pub mod Page
