pub mod ActLaws
pub mod EndLaws
pub mod MoveLaws
pub mod OneOutcome
