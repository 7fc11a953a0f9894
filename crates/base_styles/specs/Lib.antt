pub mod DefaultStyle
pub mod Alignments
pub mod Borders
pub mod Colors
pub mod Themes
pub mod RgbTexts
pub mod laws
