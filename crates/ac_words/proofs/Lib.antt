pub mod EnteredCommand
pub mod Faulted
pub mod FilledRows
pub mod FilledWalk
pub mod Marks
