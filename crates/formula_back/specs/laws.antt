pub mod LeafEquations
pub mod LeafLaws
pub mod MovedNumbers
pub mod StillLaws
