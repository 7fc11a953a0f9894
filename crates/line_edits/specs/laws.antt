pub mod Equals
pub mod Passing
pub mod Images
pub mod FirstImages
pub mod MergedLaws
pub mod OneToOne
pub mod PlaceLaws
pub mod Singles
