-- What the functions under the check promise to each other.
pub mod HeldRules
