pub mod ServedLaws
pub mod CandidateLaws
pub mod DecideLaws
pub mod PlaceLaws
