-- Each example computes.
use Rattle.std.proofs.Common.{refl}
use Rattle.affc_sched.specs.Examples.{LastOneStores, StoresOfOneArray, QuestionsInOrder, SourceIsLegal, RowsOfAQuestion, RowsOfTwoStatements}

pub last_one_stores : LastOneStores
last_one_stores = refl

pub stores_of_one_array : StoresOfOneArray
stores_of_one_array = (refl, refl, refl, refl)

pub questions_in_order : QuestionsInOrder
questions_in_order = refl

pub source_is_legal : SourceIsLegal
source_is_legal = refl

pub rows_of_a_question : RowsOfAQuestion
rows_of_a_question = refl

pub rows_of_two_statements : RowsOfTwoStatements
rows_of_two_statements = refl
