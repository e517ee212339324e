-- What is made by a function is made by the cost that has its name, and its pieces are those that a command makes.
use Rattle.std.proofs.Common.{◌≡◌, ℕ, List, Option, Result, Ok, Err, Some, None, IfOk, subst, sym}
use Rattle.std.specs.Prelude.{option_map}
use Rattle.affc_ast.specs.declared.tree.Program.{Program}
use Rattle.affc_split.specs.Budgets.{Account}
use Rattle.affc_driver.specs.Accounts.{FoldsCertified, FoldsMade}
use Rattle.affc_driver.specs.Certificates.{certificate_text}
use Rattle.affc_driver.specs.Programs.{OfEachText}
use Rattle.affc_driver.specs.declared.folding.Made.{Made}
use Rattle.affc_driver.specs.declared.refusal.Refusal.{Refusal}
use Rattle.affc_driver.specs.declared.wanted.Wanted.{Wanted}
use Rattle.affc_driver.proofs.Costed.{certified, made_by}
use Rattle.affc_words.specs.declared.words.CostName.{CostName}
use Rattle.affc_words.specs.declared.words.Settings.{Settings}
use Rattle.affc_cli.specs.Budgets.{FoldMakes, MadeWithin, answers_of, wanted_for}

pub by_name : (A : List ℕ → ℕ → Type 0) (cost name : CostName) (program : Program) (schedule : Option (List ℕ)) (left : Account) (wanted : Wanted) → cost ≡ name → ((moduli : List ℕ) (answer : ℕ) → A moduli answer → answers_of name moduli answer)
    → (result : Result Made Refusal) → IfOk result (λ made. OfEachText program (λ text. FoldsMade A text schedule left wanted made)) → IfOk result (λ made. OfEachText program (λ text. FoldsMade (answers_of cost) text schedule left wanted made))
by_name A cost name program schedule left wanted is to (Ok made) m =
    λ text reads bare. subst (λ n. FoldsMade (answers_of n) text schedule left wanted made) (sym is) (made_by A (answers_of name) to text schedule left wanted made (m text reads bare))
by_name A cost name program schedule left wanted is to (Err refusal) m = tt

pub pieces : (file : Option (List ℕ)) (source : List ℕ) (schedule : Option (List ℕ)) (settings : Settings) (made : Made) (certificate : List ℕ)
    → MadeWithin source schedule settings (wanted_for file) made → certificate ≡ certificate_text (option_map (λ t. t.items) made.certificate)
    → FoldMakes file source schedule settings certificate made.done.text.items made.done.report.items
pieces None source schedule settings made certificate m is = (made.done.cost, record { left = m.left; limit = m.limit; folds_to = m.folds.at_cost })
pieces (Some file) source schedule settings made certificate m is = record {
  left = m.left;
  limit = m.limit;
  folds_to =
      subst (λ text. FoldsCertified (answers_of settings.cost) source schedule m.left made.done.text.items made.done.report.items text) (sym is)
      (certified (answers_of settings.cost) source schedule m.left made m.folds);
}
