pub mod ProgressionEquals
pub mod DetectorEquals
