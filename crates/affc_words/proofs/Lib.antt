pub mod Clap
pub mod Commands
pub mod Forms
pub mod Numbers
