pub mod CanonicalLaws
pub mod ClearLaws
pub mod DefaultTest
pub mod KeptLaws
pub mod RangeLaws
pub mod StoredWalks
pub mod TileLaws
pub mod WalkedPlaces
