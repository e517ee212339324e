-- What holds of the rows of each comparison over plain sides holds of the rows of a plain condition.
use Rattle.std.proofs.Common.{ℕ, IsTrue, [], sym, subst}
use Rattle.std.specs.List.{All}
use Rattle.std.proofs.lemmas.List.Elements.{All-nil, All-append}
use Rattle.affc_rows.specs.Forms.{Affine}
use Rattle.affc_ast.specs.declared.tree.Cond.{Cond}
use Rattle.affc_ast.specs.declared.tree.Cond.TheVariants as c
use Rattle.affc_ast.specs.declared.tree.Cond.TheBlock.{Row_of-Cond, more_of-Cond, end_of-Cond}
use Rattle.affc_ast.specs.declared.tree.Ix.{Ix}
use Rattle.affc_ast.specs.declared.tree.Rel.{Rel}
use Rattle.affc_ast.specs.Fits.{all_true}
use Rattle.affc_ast.specs.Joined.{tests_step, tests_of}
use Rattle.affc_ast.specs.Recursion.{by_entries}
use Rattle.affc_ast.specs.Trace.{joined}
use Rattle.affc_domain.specs.Affine.{form_of}
use Rattle.affc_domain.specs.Plain.{is_plain, plain_cond_step, plain_cond}
use Rattle.affc_domain.proofs.Lists.{both_true}
use Rattle.affc_nest.specs.Domains.{compare_rows, test_rows}
use Rattle.affc_nest.proofs.CondLemmas.{rows_of_both}

module _ (P : Affine → Type 0) (names more : ℕ)
    (compared : (rel : Rel) (a b : Ix) → IsTrue (is_plain names a) → IsTrue (is_plain names b) → All P (compare_rows rel (form_of names more a) (form_of names more b))) where
  mutual
    of_cond' : (x : Cond) → IsTrue (plain_cond names x) → All P (test_rows names more (tests_of x))
    of_cond' (c.Compare rel left right) h =
        let b = both_true (is_plain names left) (is_plain names right) h in
        All-append P (compare_rows rel (form_of names more left) (form_of names more right)) [] (compared rel left right b.0 b.1) (All-nil P)
    of_cond' (c.All' shape entries) h = of_entries entries h
    of_cond' (c.Any' shape entries) h = All-nil P
    of_cond' (c.Divides value by so) h = All-nil P

    of_entries : {n : _} (entries : Row_of-Cond n) → IsTrue (all_true (by_entries (plain_cond_step names) entries)) → All P (test_rows names more (joined (by_entries tests_step entries)))
    of_entries end_of-Cond h = All-nil P
    of_entries (more_of-Cond x rest) h =
        let b = both_true (plain_cond names x) (all_true (by_entries (plain_cond_step names) rest)) h in
        let others = joined (by_entries tests_step rest) in
        subst (All P) (sym (rows_of_both names more (tests_of x) others)) (All-append P (test_rows names more (tests_of x)) (test_rows names more others) (of_cond' x b.0) (of_entries rest b.1))

  pub of_cond : (x : Cond) → IsTrue (plain_cond names x) → All P (test_rows names more (tests_of x))
  of_cond x h = of_cond' x h
