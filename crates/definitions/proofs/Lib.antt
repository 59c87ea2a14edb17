-- Laws of the definitions.
pub mod AnswerLaws
pub mod ColumnLaws
pub mod LineLaws
pub mod CaseLaws
pub mod RulesLaws
pub mod Refutation
