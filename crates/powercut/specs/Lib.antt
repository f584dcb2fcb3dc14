-- What is promised of a power cut.
pub mod PowerCut
