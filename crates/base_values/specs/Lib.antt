pub mod Answers
pub mod formers
pub mod ErrorNames
pub mod KeyMap
pub mod Places
pub mod CodedEq
pub mod laws
