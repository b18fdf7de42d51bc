pub mod StepLaws
pub mod ShutLaws
pub mod TableLaws
