pub mod Places
pub mod PairLaws
pub mod ChangeLaws
pub mod FreshLaws
pub mod FreeLaws
pub mod RuleLaws
pub mod QuickLaws
pub mod OneOutcome
