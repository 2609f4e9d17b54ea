pub mod Name
