pub mod Core
pub mod Table
