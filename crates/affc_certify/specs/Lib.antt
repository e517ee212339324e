pub mod Asked
pub mod Certified
pub mod Left
pub mod Making
pub mod Rising
