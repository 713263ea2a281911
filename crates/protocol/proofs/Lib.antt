-- In the order to read.

-- what a step, a start and a withdraw come to
pub mod PlanLaws
pub mod LockLaws
pub mod Ends
pub mod AnswerLaws
pub mod StepLaws
pub mod CallLaws
-- what they change
pub mod HeldLaws
pub mod StoreLaws
pub mod ChangeLaws
pub mod Words
-- the shipped mistakes; 9; why a call is refused
pub mod Mistakes
pub mod Nine
pub mod Refusals
-- walks and the set under each kind of store
pub mod Paths
-- demand 2: Alone/Demand. Demand 3: Together/Demand
pub mod Alone
pub mod Together
