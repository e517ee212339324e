pub mod PathLemmas
pub mod WriterLemmas
pub mod NamesLemmas
pub mod FlowLemmas
pub mod ExampleProofs
pub mod ImageLemmas
pub mod LoadLemmas
