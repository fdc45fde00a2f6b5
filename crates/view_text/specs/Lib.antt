pub mod ViewWords
