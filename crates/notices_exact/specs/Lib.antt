pub mod Supersedes
pub mod NoticeCases
