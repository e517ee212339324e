pub mod StmtReads
pub mod TextReads
pub mod StmtExact
pub mod TextExact
