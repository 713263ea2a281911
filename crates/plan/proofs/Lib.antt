pub mod Actions
pub mod HoldLaws
pub mod RoleLaws
pub mod OneOutcome
pub mod StoreLaws
