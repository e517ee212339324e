-- The comparisons that are joined in a condition or in its denial: how many, and their rows, part after part.
use Rattle.std.proofs.Common.{◌≡◌, ℕ, ◌+◌, ◌*◌, ◌<◌, ◌≤◌, Bool, false, true, IsTrue, List, [], ◌∷◌, ◌++◌, length, map, drop, get_or, refl, sym, ap, subst, ◌∙◌, arith}
use Rattle.affc_system.specs.Systems.{Rows}
use Rattle.affc_ast.specs.declared.tree.Compare.{Compare}
use Rattle.affc_ast.specs.declared.tree.Cond.{Cond}
use Rattle.affc_ast.specs.declared.tree.Cond.TheVariants as c
use Rattle.affc_ast.specs.declared.tree.Cond.TheBlock.{Row_of-Cond, more_of-Cond, end_of-Cond}
use Rattle.affc_ast.specs.Denials.{denied_step, denied}
use Rattle.affc_ast.specs.Fits.{all_true}
use Rattle.affc_ast.specs.Joined.{tests_step, tests_of}
use Rattle.affc_ast.specs.Pieces.{added, comparisons_step, comparisons_of}
use Rattle.affc_ast.specs.Recursion.{by_entries}
use Rattle.affc_ast.specs.Trace.{joined}
use Rattle.affc_ast.proofs.DenialLemmas.{denied_comparisons}
use Rattle.affc_ast.proofs.Steps.{all_here, any_here}
use Rattle.affc_trace.proofs.EndedReads.{append_assoc}
use Rattle.affc_trace.proofs.Runs.{length_append}
use Rattle.affc_domain.specs.Affine.{form_of}
use Rattle.affc_domain.specs.Plain.{plain_cond_step, plain_cond}
use Rattle.affc_domain.proofs.ConditionLemmas.{denied_plain}
use Rattle.affc_domain.proofs.Lists.{both_true}
use Rattle.affc_nest.specs.Domains.{compare_rows, test_rows, with_rows}
use Rattle.affc_nest.specs.Frames.{denied_if, tests_of_each}
use Rattle.affc_nest.proofs.RowLemmas.{few_tests, rows_after}
use Rattle.affc_nest.proofs.SiteLemmas.{front}

-- ---- How many

within_both : (n a b k l : ℕ) → n ≡ a + b → a ≤ k → b ≤ l → n ≤ k + l
within_both n a b k l e h g = omega (arith, e)

mutual
  few_joined : (x : Cond) → length (tests_of x) ≤ comparisons_of x
  few_joined (c.Compare rel left right) = omega arith
  few_joined (c.All' shape entries) = few_of_all entries
  few_joined (c.Any' shape entries) = omega arith
  few_joined (c.Divides value by so) = omega arith

  few_of_all : {n : _} (entries : Row_of-Cond n) → length (joined (by_entries tests_step entries)) ≤ added (by_entries comparisons_step entries)
  few_of_all end_of-Cond = omega arith
  few_of_all (more_of-Cond x rest) =
      within_both (length (tests_of x ++ joined (by_entries tests_step rest))) (length (tests_of x)) (length (joined (by_entries tests_step rest))) (comparisons_of x) (added (by_entries comparisons_step rest))
      (length_append (tests_of x) (joined (by_entries tests_step rest))) (few_joined x) (few_of_all rest)

-- at most two rows for each comparison
pub few_cond : (names more : ℕ) (x : Cond) → length (test_rows names more (tests_of x)) ≤ 2 * comparisons_of x
few_cond names more x = doubled (length (test_rows names more (tests_of x))) (length (tests_of x)) (comparisons_of x) (few_tests names more (tests_of x)) (few_joined x)
  where
    doubled : (n a k : ℕ) → n ≤ 2 * a → a ≤ k → n ≤ 2 * k
    doubled n a k h g = omega arith

-- ---- Part after part

pub rows_of_both : (names more : ℕ) (cs ds : List Compare) → test_rows names more (cs ++ ds) ≡ test_rows names more cs ++ test_rows names more ds
rows_of_both names more [] ds = refl
rows_of_both names more (d ∷ cs) ds =
    let first = compare_rows d.rel (form_of names more d.left) (form_of names more d.right) in
    ap (λ rs. first ++ rs) (rows_of_both names more cs ds) ∙ sym (append_assoc first (test_rows names more cs) (test_rows names more ds))

undenied : (cs : List Cond) → map (denied_if false) cs ≡ cs
undenied [] = refl
undenied (x ∷ cs) = ap (λ ys. x ∷ ys) (undenied cs)

pub in_all : (cs : List Cond) → tests_of_each false cs ≡ tests_of (denied_if false (c.All cs))
in_all cs = ap (λ ds. joined (map tests_of ds)) (undenied cs) ∙ sym (all_here tests_step cs)

pub in_denied_any : (cs : List Cond) → tests_of_each true cs ≡ tests_of (denied_if true (c.Any cs))
in_denied_any cs = sym (ap tests_of (any_here denied_step cs) ∙ all_here tests_step (map denied cs))

-- ---- Parts of a condition, as the code holds them

module _ (x : Cond) (cs parts : List Cond) (e : x ≡ c.All cs) (p : parts ≡ cs) where
  pub all_plain : (names : ℕ) → IsTrue (plain_cond names x) → IsTrue (all_true (map (plain_cond names) parts))
  all_plain names h = ap (λ ds. all_true (map (plain_cond names) ds)) p ∙ sym (all_here (plain_cond_step names) cs) ∙ ap (plain_cond names) (sym e) ∙ h

  pub all_counted : comparisons_of x ≡ added (map comparisons_of parts)
  all_counted = ap comparisons_of e ∙ all_here comparisons_step cs ∙ ap (λ ds. added (map comparisons_of ds)) (sym p)

  pub all_tested : (is_denied : Bool) → is_denied ≡ false → tests_of_each false parts ≡ tests_of (denied_if is_denied x)
  all_tested is_denied d = ap (tests_of_each false) p ∙ in_all cs ∙ ap (λ y. tests_of (denied_if false y)) (sym e) ∙ ap (λ b. tests_of (denied_if b x)) (sym d)

module _ (x : Cond) (cs parts : List Cond) (e : x ≡ c.Any cs) (p : parts ≡ cs) where
  pub any_plain : (names : ℕ) → IsTrue (plain_cond names x) → IsTrue (all_true (map (plain_cond names) parts))
  any_plain names h = ap (λ ds. all_true (map (plain_cond names) ds)) p ∙ sym (any_here (plain_cond_step names) cs) ∙ ap (plain_cond names) (sym e) ∙ h

  pub any_counted : comparisons_of x ≡ added (map comparisons_of parts)
  any_counted = ap comparisons_of e ∙ any_here comparisons_step cs ∙ ap (λ ds. added (map comparisons_of ds)) (sym p)

  pub any_tested : (is_denied : Bool) → is_denied ≡ true → tests_of_each true parts ≡ tests_of (denied_if is_denied x)
  any_tested is_denied d = ap (tests_of_each true) p ∙ in_denied_any cs ∙ ap (λ y. tests_of (denied_if true y)) (sym e) ∙ ap (λ b. tests_of (denied_if b x)) (sym d)

pub plain_if : (names : ℕ) (is_denied : Bool) (x : Cond) → IsTrue (plain_cond names (denied_if is_denied x)) → IsTrue (plain_cond names x)
plain_if names false x h = h
plain_if names true x h = sym (denied_plain names x) ∙ h

pub counted_if : (is_denied : Bool) (x : Cond) → comparisons_of (denied_if is_denied x) ≡ comparisons_of x
counted_if false x = refl
counted_if true x = denied_comparisons x

-- as many rows, by counts that are equal
pub room_by : (rows m n : ℕ) → m ≡ n → rows + 2 * m < 1024 → rows + 2 * n < 1024
room_by rows m n e h = omega (arith, e, h)

pub grows_by : (more rows m n : ℕ) → m ≡ n → more ≤ rows + 2 * m → more ≤ rows + 2 * n
grows_by more rows m n e h = omega (arith, e, h)

-- ---- One condition after the other

module _ (cs : List Cond) (i : ℕ) (x : Cond) (h : i < length cs) (e : x ≡ get_or cs i x) where
  pub rest_plain : (names : ℕ) → IsTrue (all_true (map (plain_cond names) (drop i cs))) → IsTrue (all_true (map (plain_cond names) (drop (i + 1) cs)))
  rest_plain names p = (both_true (plain_cond names x) _ (subst (λ ds. IsTrue (all_true (map (plain_cond names) ds))) (front cs i x h e) p)).1

  rest_counted : added (map comparisons_of (drop i cs)) ≡ comparisons_of x + added (map comparisons_of (drop (i + 1) cs))
  rest_counted = ap (λ ds. added (map comparisons_of ds)) (front cs i x h e)

  pub rest_room : (rows more : ℕ) → more ≤ rows + 2 * comparisons_of x → rows + 2 * added (map comparisons_of (drop i cs)) < 1024 → more + 2 * added (map comparisons_of (drop (i + 1) cs)) < 1024
  rest_room rows more g r = counted rows more (added (map comparisons_of (drop i cs))) (comparisons_of x) (added (map comparisons_of (drop (i + 1) cs))) rest_counted g r
    where
      counted : (rows more n k l : ℕ) → n ≡ k + l → more ≤ rows + 2 * k → rows + 2 * n < 1024 → more + 2 * l < 1024
      counted rows more n k l e g r = omega (arith, e, g, r)

  pub rest_grows : (rows more most : ℕ) → more ≤ rows + 2 * comparisons_of x → rows + 2 * added (map comparisons_of (drop i cs)) ≤ most → more + 2 * added (map comparisons_of (drop (i + 1) cs)) ≤ most
  rest_grows rows more most g r = counted rows more most (added (map comparisons_of (drop i cs))) (comparisons_of x) (added (map comparisons_of (drop (i + 1) cs))) rest_counted g r
    where
      counted : (rows more most n k l : ℕ) → n ≡ k + l → more ≤ rows + 2 * k → rows + 2 * n ≤ most → more + 2 * l ≤ most
      counted rows more most n k l e g r = omega (arith, e, g, r)

  pub rest_rows : (names more : ℕ) (is_denied : Bool) (now next all : Rows) → next ≡ with_rows now (test_rows names more (tests_of (denied_if is_denied x)))
      → with_rows now (test_rows names more (tests_of_each is_denied (drop i cs))) ≡ all → with_rows next (test_rows names more (tests_of_each is_denied (drop (i + 1) cs))) ≡ all
  rest_rows names more is_denied now next all f g =
      let first = tests_of (denied_if is_denied x) in
      let others = tests_of_each is_denied (drop (i + 1) cs) in
      rows_after now next (with_rows next (test_rows names more others)) (test_rows names more first) (test_rows names more others) f refl
      ∙ ap (with_rows now) (sym (rows_of_both names more first others))
      ∙ ap (λ ds. with_rows now (test_rows names more (tests_of_each is_denied ds))) (sym (front cs i x h e)) ∙ g
