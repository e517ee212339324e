pub use Rattle.affc_rows.specs.Forms
pub mod Boxes
pub mod ElementPairs
pub mod Examples
pub mod Order
pub mod Pairs
pub mod Systems
