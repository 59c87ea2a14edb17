-- Laws that the functions' proofs cite.
pub mod Answers
pub mod ShiftLaws
pub mod Rising
pub mod MarkLaws
pub mod PressLaws
