pub mod ErrorEquals
