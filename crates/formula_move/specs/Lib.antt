pub mod Lines
pub mod Same
pub mod Displace
