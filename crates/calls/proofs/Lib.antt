pub mod Calls
pub mod WalkCalls
pub mod MovedCalls
pub mod PlanCalls
pub mod StartCalls
pub mod DueWords
pub mod Answers
pub mod OneOutcome
