pub mod ViewForms
pub mod Numbers
pub mod Views
