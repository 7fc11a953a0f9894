pub mod CodedEq
pub mod Decided
pub mod ErrorEquals
pub mod KeyMap
pub mod Places
pub mod PositionEquals
