pub mod CheckAtLaws
