pub mod ContentEquals
pub mod FittingLaws
pub mod LensLaws
pub mod ChangedLaws
