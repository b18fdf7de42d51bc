pub mod PhraseRule
pub mod PhraseLaws
