pub mod Numbers
pub mod Judged
pub mod Loops
pub mod Ran
pub mod Closed
