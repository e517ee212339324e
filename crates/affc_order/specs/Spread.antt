-- A form of a statement among the columns of a question.
pub use Rattle.affc_rows.specs.Vocabulary.{spread}
