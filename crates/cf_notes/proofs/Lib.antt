pub mod NamedStages
