pub mod Texts
pub mod Runs
pub mod LightTable
pub mod Witness
