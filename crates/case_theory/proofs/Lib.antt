-- Case texts: tables with 0 from a place on, which line is due, what it is asked, texts read back and written again.
pub mod Zeroed
pub mod CaseDues
pub mod CaseTests
pub mod CaseReads
pub mod CaseTexts
pub mod JoinReads
