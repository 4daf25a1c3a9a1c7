pub mod ClaimLaws
pub mod First
pub mod LowestLaws
pub mod AnswerLaws
pub mod ReasonLaws
