pub mod Fronts
pub mod Fitting
pub mod PageRuns
pub mod Runs
pub mod Saved
