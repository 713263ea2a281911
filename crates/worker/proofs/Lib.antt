pub mod MovingLaws
pub mod WalkLaws
pub mod OneOutcome
