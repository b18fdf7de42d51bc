pub mod CertificateCases
pub mod Numbered
pub mod ClosingCauses
pub mod Chains
pub mod PartCases
