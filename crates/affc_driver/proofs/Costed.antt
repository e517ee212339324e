-- What is made by one account of costs is made by another that says no more, and what is made with a certificate has one.
use Rattle.std.proofs.Common.{ℕ, List, Option, Some, None}
use Rattle.std.specs.Prelude.{option_map}
use Rattle.affc_ast.specs.declared.tree.ArrayId.{ArrayId}
use Rattle.affc_split.specs.Budgets.{Account}
use Rattle.affc_basis.specs.declared.fold.Fold.{Fold}
use Rattle.affc_nest.specs.declared.nest.Nest.{Nest}
use Rattle.affc_nest.specs.Nests.{nest_of}
use Rattle.affc_schedtext.specs.declared.plan.Plan.{Plan}
use Rattle.affc_trace.specs.Dataflow.{LivePair}
use Rattle.affc_folds.proofs.ListLemmas.{folds_by}
use Rattle.affc_certify.specs.Certified.{IsCertified}
use Rattle.affc_driver.specs.Accounts.{FoldsWith, FoldsCertified, FoldsMade}
use Rattle.affc_driver.specs.Certificates.{HasCertificate, certificate_text}
use Rattle.affc_driver.specs.declared.folding.Made.{Made}
use Rattle.affc_driver.specs.declared.wanted.Wanted.{Wanted}
use Rattle.affc_driver.specs.declared.wanted.Wanted.TheVariants.{Certificate}

abbrev pub with_answers : (A B : List ℕ → ℕ → Type 0) → ((moduli : List ℕ) (answer : ℕ) → A moduli answer → B moduli answer) → (source : List ℕ) (schedule : Option (List ℕ)) (left : Account) (folded report : List ℕ)
    → FoldsWith A source schedule left folded report → FoldsWith B source schedule left folded report
with_answers A B to source schedule left folded report h =
    let f = h.folds_to in
    record {
      account = h.account;
      folds_to = record {
        plan = f.plan;
        folds = f.folds;
        choices = f.choices;
        compiles = f.compiles;
        scanned = f.scanned;
        scans = f.scans;
        loops = f.loops;
        printed = f.printed;
        plain = f.plain;
        within = f.within;
        written = f.written;
        planned = f.planned;
        legal = f.legal;
        are_folds = folds_by A B to f.compiles.source (LivePair f.compiles.source f.plan.schedule) f.plan.folds h.account f.folds f.choices f.are_folds;
        told = f.told;
      };
      counted = h.counted;
    }

pub made_by : (A B : List ℕ → ℕ → Type 0) → ((moduli : List ℕ) (answer : ℕ) → A moduli answer → B moduli answer) → (source : List ℕ) (schedule : Option (List ℕ)) (left : Account) (wanted : Wanted) (made : Made)
    → FoldsMade A source schedule left wanted made → FoldsMade B source schedule left wanted made
made_by A B to source schedule left wanted made m = record {
  at_cost = record {
    folds_with = with_answers A B to source schedule left made.done.text.items made.done.report.items m.at_cost.folds_with;
    total = m.at_cost.total;
  };
  certified = m.certified;
}

is_there : (certificate : Option (List ℕ)) (nest : Nest) (plan : Plan) (folds : List (ArrayId × Fold)) → HasCertificate Certificate nest plan certificate folds → IsCertified nest plan (certificate_text certificate) folds
is_there None nest plan folds h = absurd h
is_there (Some text) nest plan folds h = h

pub certified : (Answers : List ℕ → ℕ → Type 0) (source : List ℕ) (schedule : Option (List ℕ)) (left : Account) (made : Made)
    → FoldsMade Answers source schedule left Certificate made
    → FoldsCertified Answers source schedule left made.done.text.items made.done.report.items (certificate_text (option_map (λ text. text.items) made.certificate))
certified Answers source schedule left made m =
    let f = m.at_cost.folds_with.folds_to in
    record {
      folds_with = m.at_cost.folds_with;
      certified = is_there (option_map (λ text. text.items) made.certificate) (nest_of f.compiles.source) f.plan f.folds m.certified;
    }
