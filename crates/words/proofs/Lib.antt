pub mod Families
pub mod Numbers
pub mod Order
pub mod Results
