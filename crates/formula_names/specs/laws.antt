pub mod NamedEquations
pub mod NamedLaws
pub mod NameLeaves
pub mod ReachEquals
pub mod RenamedLaws
