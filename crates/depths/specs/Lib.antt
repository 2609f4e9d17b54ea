pub mod Cases
pub mod Lent
pub mod Queue
pub mod Test
pub mod Placed
