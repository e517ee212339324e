-- What plain conditions keep, and where a program's conditions are joined comparisons.
use Rattle.std.proofs.Common.{◌≡◌, ℕ, zero, suc, Bool, true, true≢false, IsTrue, List, [], ◌∷◌, ◌++◌, map, Some, refl, sym, ap, subst, ◌∙◌}
use Rattle.std.specs.List.{list_all}
use Rattle.std.specs.Prelude.{◌&&◌, slice_get}
use Rattle.std.proofs.lemmas.Option.{none-some, same_Some}
use Rattle.std.proofs.lemmas.List.Folds.{list_all-append, list_all-map}
use Rattle.affc_ast.specs.declared.tree.Compare.{Compare}
use Rattle.affc_ast.specs.declared.tree.Cond.{Cond}
use Rattle.affc_ast.specs.declared.tree.Cond.TheVariants as c
use Rattle.affc_ast.specs.declared.tree.Cond.TheBlock.{Row_of-Cond, more_of-Cond, end_of-Cond}
use Rattle.affc_ast.specs.declared.tree.Program.{Program}
use Rattle.affc_ast.specs.declared.tree.Stmt.{Stmt}
use Rattle.affc_ast.specs.declared.tree.Stmt.TheOpen as layer
use Rattle.affc_ast.specs.declared.tree.Stmt.TheVariants as s
use Rattle.affc_ast.specs.declared.tree.Stmt.TheBlock.{Row_of-Stmt, more_of-Stmt, end_of-Stmt}
use Rattle.affc_ast.specs.Denials.{denied_step, denied}
use Rattle.affc_ast.specs.Fits.{all_true}
use Rattle.affc_ast.specs.Joined.{is_ordered, joined_step, is_joined, tests_step, tests_of, joined_tests_step, has_joined_tests}
use Rattle.affc_ast.specs.Recursion.{by_cond, by_entries, by_stmt, by_each}
use Rattle.affc_ast.specs.Trace.{joined}
use Rattle.affc_ast.proofs.Steps.{all_here, any_here, row_of, unrolled, flat_unrolled}
use Rattle.affc_domain.specs.Plain.{is_plain, plain_tests, plain_cond_step, plain_cond}
use Rattle.affc_domain.specs.Rounds.{Round, Loop, Test, rounds_step, rounds}
use Rattle.affc_domain.proofs.Lists.{both_true, true_both}

-- ---- Conditions

module _ (seen : ℕ) where
  mutual
    denied_plain' : (x : Cond) → plain_cond seen (denied x) ≡ plain_cond seen x
    denied_plain' (c.Compare rel left right) = refl
    denied_plain' (c.All' shape entries) = any_here (plain_cond_step seen) (by_entries denied_step entries) ∙ ap all_true (all_denied_plain entries)
    denied_plain' (c.Any' shape entries) = all_here (plain_cond_step seen) (by_entries denied_step entries) ∙ ap all_true (all_denied_plain entries)
    denied_plain' (c.Divides value by so) = refl

    all_denied_plain : {n : _} (entries : Row_of-Cond n) → map (by_cond (plain_cond_step seen)) (by_entries denied_step entries) ≡ by_entries (plain_cond_step seen) entries
    all_denied_plain end_of-Cond = refl
    all_denied_plain (more_of-Cond x rest) = λ i. denied_plain' x i ∷ all_denied_plain rest i

  tests_append : (cs ds : List Compare) → IsTrue (plain_tests seen cs) → IsTrue (plain_tests seen ds) → IsTrue (plain_tests seen (cs ++ ds))
  tests_append [] ds p q = q
  tests_append (d ∷ cs) ds p q =
      let l = both_true (is_plain seen d.left) _ p in
      let r = both_true (is_plain seen d.right) _ l.1 in
      let o = both_true (is_ordered d.rel) (plain_tests seen cs) r.1 in
      true_both (is_plain seen d.left) _ l.0 (true_both (is_plain seen d.right) _ r.0 (true_both (is_ordered d.rel) (plain_tests seen (cs ++ ds)) o.0 (tests_append cs ds o.1 q)))

  mutual
    plain_tests_of' : (x : Cond) → IsTrue (is_joined x) → IsTrue (plain_cond seen x) → IsTrue (plain_tests seen (tests_of x))
    plain_tests_of' (c.Compare rel left right) j p =
        let b = both_true (is_plain seen left) (is_plain seen right) p in
        true_both (is_plain seen left) _ b.0 (true_both (is_plain seen right) _ b.1 (true_both (is_ordered rel) true j refl))
    plain_tests_of' (c.All' shape entries) j p = plain_tests_of_all entries j p
    plain_tests_of' (c.Any' shape entries) j p = absurd (true≢false (sym j))
    plain_tests_of' (c.Divides value by so) j p = absurd (true≢false (sym j))

    plain_tests_of_all : {n : _} (entries : Row_of-Cond n) → IsTrue (all_true (by_entries joined_step entries)) → IsTrue (all_true (by_entries (plain_cond_step seen) entries)) → IsTrue (plain_tests seen (joined (by_entries tests_step entries)))
    plain_tests_of_all end_of-Cond j p = refl
    plain_tests_of_all (more_of-Cond x rest) j p =
        let k = both_true (is_joined x) (all_true (by_entries joined_step rest)) j in
        let q = both_true (plain_cond seen x) (all_true (by_entries (plain_cond_step seen) rest)) p in
        tests_append (tests_of x) (joined (by_entries tests_step rest)) (plain_tests_of' x k.0 q.0) (plain_tests_of_all rest k.1 q.1)

pub denied_plain : (seen : ℕ) (x : Cond) → plain_cond seen (denied x) ≡ plain_cond seen x
denied_plain seen x = denied_plain' seen x

-- the comparisons of a plain condition are plain
pub plain_tests_of : (seen : ℕ) (x : Cond) → IsTrue (is_joined x) → IsTrue (plain_cond seen x) → IsTrue (plain_tests seen (tests_of x))
plain_tests_of seen x j p = plain_tests_of' seen x j p

-- ---- Conditions round an assignment

-- all conditions that stand round are joined comparisons
abbrev pub joined_rounds : List Round → Bool
joined_rounds [] = true
joined_rounds (Loop iter low rel high ∷ rs) = joined_rounds rs
joined_rounds (Test cond ∷ rs) = is_joined cond && joined_rounds rs

under_test : (cond : Cond) (rss : List (List Round)) → IsTrue (is_joined cond) → IsTrue (list_all joined_rounds rss) → IsTrue (list_all joined_rounds (map (λ rs. Test cond ∷ rs) rss))
under_test cond [] j h = refl
under_test cond (rs ∷ rss) j h =
    let b = both_true (joined_rounds rs) (list_all joined_rounds rss) h in
    true_both (joined_rounds (Test cond ∷ rs)) _ (true_both (is_joined cond) (joined_rounds rs) j b.0) (under_test cond rss j b.1)

both_lists : (as' bs : List (List Round)) → IsTrue (list_all joined_rounds as') → IsTrue (list_all joined_rounds bs) → IsTrue (list_all joined_rounds (as' ++ bs))
both_lists as' bs h k = list_all-append joined_rounds as' bs ∙ true_both (list_all joined_rounds as') (list_all joined_rounds bs) h k

without_other : {n : _} (cond : Cond) (bs : List Bool) (other : Row_of-Stmt n) → IsTrue (joined_tests_step (layer.If cond bs (by_each joined_tests_step other))) → IsTrue (is_joined cond && all_true bs) × (joined (by_each rounds_step other) ≡ [])
without_other cond bs end_of-Stmt h = (h, refl)
without_other cond bs (more_of-Stmt x rest) h = absurd (true≢false (sym h))

mutual
  joined_there : (x : Stmt) → IsTrue (by_stmt joined_tests_step x) → IsTrue (list_all joined_rounds (by_stmt rounds_step x))
  joined_there (s.For' iter low rel high shape body) h = list_all-map joined_rounds (λ rs. Loop iter low rel high ∷ rs) (joined (by_each rounds_step body)) ∙ row_joined_there body h
  joined_there (s.If' cond shape body shape' other) h =
      let w = without_other cond (by_each joined_tests_step body) other h in
      let b = both_true (is_joined cond) (all_true (by_each joined_tests_step body)) w.0 in
      subst (λ rss. IsTrue (list_all joined_rounds (map (λ rs. Test cond ∷ rs) (joined (by_each rounds_step body)) ++ map (λ rs. Test (denied cond) ∷ rs) rss))) (sym w.1)
      (both_lists (map (λ rs. Test cond ∷ rs) (joined (by_each rounds_step body))) [] (under_test cond (joined (by_each rounds_step body)) b.0 (row_joined_there body b.1)) refl)
  joined_there (s.Assign op array subs value) h = refl
  joined_there (s.Block' locals shape body) h = row_joined_there body h

  row_joined_there : {n : _} (body : Row_of-Stmt n) → IsTrue (all_true (by_each joined_tests_step body)) → IsTrue (list_all joined_rounds (joined (by_each rounds_step body)))
  row_joined_there end_of-Stmt h = refl
  row_joined_there (more_of-Stmt x rest) h =
      let b = both_true (by_stmt joined_tests_step x) (all_true (by_each joined_tests_step rest)) h in
      both_lists (by_stmt rounds_step x) (joined (by_each rounds_step rest)) (joined_there x b.0) (row_joined_there rest b.1)

entry : (rss : List (List Round)) (n : ℕ) (rs : List Round) → IsTrue (list_all joined_rounds rss) → slice_get rss n ≡ Some rs → IsTrue (joined_rounds rs)
entry [] n rs h e = absurd (none-some rs e)
entry (r ∷ rss) zero rs h e = subst (λ q. IsTrue (joined_rounds q)) (same_Some r rs e) (both_true (joined_rounds r) (list_all joined_rounds rss) h).0
entry (r ∷ rss) (suc n) rs h e = entry rss n rs (both_true (joined_rounds r) (list_all joined_rounds rss) h).1 e

-- of each assignment
pub conditions_are_joined : (program : Program) → IsTrue (has_joined_tests program) → (n : ℕ) (rs : List Round) → slice_get (rounds program) n ≡ Some rs → IsTrue (joined_rounds rs)
conditions_are_joined program h n rs e =
    entry (rounds program) n rs
    (subst (λ rss. IsTrue (list_all joined_rounds rss)) (sym (flat_unrolled rounds_step program.body))
    (row_joined_there (row_of program.body) (subst (λ bs. IsTrue (all_true bs)) (unrolled joined_tests_step program.body) h))) e
