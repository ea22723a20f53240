pub mod Pages
pub mod Actions
pub mod Walking
