pub mod ChangeEquals
pub mod Lists
pub mod EditLaws
