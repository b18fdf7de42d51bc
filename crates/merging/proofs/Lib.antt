pub mod JoinLaws
pub mod LimitLaws
pub mod MergeLaws
pub mod OwnLaws
pub mod SectionLaws
pub mod TableLaws
pub mod WordLaws
