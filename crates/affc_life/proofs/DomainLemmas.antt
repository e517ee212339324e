-- The rows of the domain of a part that can have instances are differences of sides: what holds of each of these holds of each row.
use Rattle.std.proofs.Common.{ℕ, suc, ◌+◌, ◌^◌, ◌≤◌, ℤ, IsTrue, List, [], ◌∷◌, ◌++◌, length, sym, subst, arith}
use Rattle.std.specs.Prelude.{unsigned_abs, ◌&&◌}
use Rattle.std.specs.List.{All}
use Rattle.std.proofs.lemmas.List.Elements.{All-nil, All-cons, All-append}
use Rattle.affc_rows.specs.Forms.{Affine}
use Rattle.affc_system.specs.Systems.{Rows, FitsRow}
use Rattle.affc_ast.specs.declared.tree.Compare.{Compare}
use Rattle.affc_ast.specs.declared.tree.Ix.{Ix}
use Rattle.affc_ast.specs.declared.tree.Program.{Program}
use Rattle.affc_ast.specs.declared.tree.Rel.{Rel}
use Rattle.affc_ast.specs.declared.tree.Rel.TheVariants.{Less, LessEqual, Greater, GreaterEqual, Equal, NotEqual}
use Rattle.affc_domain.specs.Affine.{form_of}
use Rattle.affc_ast.specs.Joined.{is_ordered, tests_of}
use Rattle.affc_domain.specs.Plain.{is_plain, plain_tests, plain_cond}
use Rattle.affc_domain.specs.Ranges.{number_ranges}
use Rattle.affc_domain.specs.Rounds.{Round, Loop, Test, loops_in}
use Rattle.affc_domain.proofs.Lists.{both_true}
use Rattle.affc_domain.proofs.PlainLemmas.{assignments_are_plain}
use Rattle.affc_nest.specs.declared.nest.Entry.{Entry}
use Rattle.affc_nest.specs.Domains.{gap_row, compare_rows, test_rows, column_form, number_form, range_rows, box_rows, bounds_of, loop_rows, condition_rows}
use Rattle.affc_nest.specs.Frames.{plain_at}
use Rattle.affc_nest.specs.Laws.{HasNest, IsEntry}
use Rattle.affc_nest.specs.Sides.{IsSide, NearRanges}
use Rattle.affc_nest.specs.Sites.{Place}
use Rattle.affc_nest.proofs.CondRows.{of_cond}
use Rattle.affc_nest.proofs.EntryLemmas.{site_of, ranges_there, domain_is}
use Rattle.affc_nest.proofs.PlaceProofs.{near_numbers, near_within, plain_place}
use Rattle.affc_nest.proofs.RowLemmas.{plain_side, column_side, number_side, gap_fits}

module _ (P : Affine → Type 0) (gap : (n : ℕ) (a b : Affine) (k : ℕ) → IsSide n a → IsSide n b → k ≤ 1 → P (gap_row a b k)) where
  one_row : (n k : ℕ) (a b : Affine) → k ≤ 1 → IsSide n a → IsSide n b → All P (gap_row a b k ∷ [])
  one_row n k a b h s t = All-cons P (gap_row a b k) [] (gap n a b k s t h) (All-nil P)

  compared : (n : ℕ) (rel : Rel) (a b : Affine) → IsSide n a → IsSide n b → All P (compare_rows rel a b)
  compared n Less a b s t = one_row n 1 a b (omega arith) s t
  compared n LessEqual a b s t = one_row n 0 a b (omega arith) s t
  compared n Greater a b s t = one_row n 1 b a (omega arith) t s
  compared n GreaterEqual a b s t = one_row n 0 b a (omega arith) t s
  compared n NotEqual a b s t = All-nil P
  compared n Equal a b s t = All-cons P (gap_row b a 0) (gap_row a b 0 ∷ []) (gap n b a 0 t s (omega arith)) (one_row n 0 a b (omega arith) s t)

  tested : (names more : ℕ) (cs : List Compare) → IsTrue (plain_tests names cs) → All P (test_rows names more cs)
  tested names more [] h = All-nil P
  tested names more (c ∷ cs) h =
      let a = both_true (is_plain names c.left) _ h in
      let b = both_true (is_plain names c.right) _ a.1 in
      let o = both_true (is_ordered c.rel) (plain_tests names cs) b.1 in
      All-append P (compare_rows c.rel (form_of names more c.left) (form_of names more c.right)) (test_rows names more cs)
      (compared (names + more) c.rel (form_of names more c.left) (form_of names more c.right) (plain_side names more c.left a.0) (plain_side names more c.right b.0)) (tested names more cs o.1)

  ranged : (n j : ℕ) (r : ℤ × ℤ) → unsigned_abs r.0 ≤ 2 ^ 32 → unsigned_abs r.1 ≤ 2 ^ 32 → All P (range_rows n j r)
  ranged n j r h g =
      All-cons P (gap_row (number_form n r.0) (column_form n j) 0) (gap_row (column_form n j) (number_form n r.1) 0 ∷ []) (gap n (number_form n r.0) (column_form n j) 0 (number_side n r.0 h) (column_side n j) (omega arith))
      (one_row n 0 (column_form n j) (number_form n r.1) (omega arith) (column_side n j) (number_side n r.1 g))

  boxed : (n j : ℕ) (rs : List (ℤ × ℤ)) → NearRanges rs → All P (box_rows n j rs)
  boxed n j [] h = All-nil P
  boxed n j (r ∷ rs) h = All-append P (range_rows n j r) (box_rows n (suc j) rs) (ranged n j r h.0 h.1) (boxed n (suc j) rs h.2)

  bounded : (names : ℕ) (low : Ix) (rel : Rel) (high : Ix) (more : ℕ) → IsTrue (is_plain names low) → IsTrue (is_plain names high) → All P (bounds_of names low rel high more)
  bounded names low rel high more h g =
      let n = names + more in
      All-cons P (gap_row (form_of names more low) (column_form n names) 0) (compare_rows rel (column_form n names) (form_of names more high))
      (gap n (form_of names more low) (column_form n names) 0 (plain_side names more low h) (column_side n names) (omega arith))
      (compared n rel (column_form n names) (form_of names more high) (column_side n names) (plain_side names more high g))

  looped : (names : ℕ) (boxes : List (ℤ × ℤ)) (rs : List Round) → NearRanges boxes → IsTrue (plain_at names rs) → All P (loop_rows names boxes rs)
  looped names boxes [] near h = All-nil P
  looped names [] (Loop iter low rel high ∷ rs) near h = All-nil P
  looped names (r ∷ boxes) (Loop iter low rel high ∷ rs) near h =
      let n = names + suc (loops_in rs) in
      let a = both_true (is_plain names low) (is_plain names high && plain_at (suc names) rs) h in
      let b = both_true (is_plain names high) (plain_at (suc names) rs) a.1 in
      All-append P (bounds_of names low rel high (suc (loops_in rs))) (range_rows n names r ++ loop_rows (suc names) boxes rs) (bounded names low rel high (suc (loops_in rs)) a.0 b.0)
      (All-append P (range_rows n names r) (loop_rows (suc names) boxes rs) (ranged n names r near.0 near.1) (looped (suc names) boxes rs near.2 b.1))
  looped names [] (Test cond ∷ rs) near h = looped names [] rs near (both_true (plain_cond names cond) (plain_at names rs) h).1
  looped names (r ∷ boxes) (Test cond ∷ rs) near h = looped names (r ∷ boxes) rs near (both_true (plain_cond names cond) (plain_at names rs) h).1

  conditioned : (names : ℕ) (rs : List Round) → IsTrue (plain_at names rs) → All P (condition_rows names rs)
  conditioned names [] h = All-nil P
  conditioned names (Loop iter low rel high ∷ rs) h =
      let a = both_true (is_plain names low) (is_plain names high && plain_at (suc names) rs) h in
      conditioned (suc names) rs (both_true (is_plain names high) (plain_at (suc names) rs) a.1).1
  conditioned names (Test cond ∷ rs) h =
      let a = both_true (plain_cond names cond) (plain_at names rs) h in
      let more = loops_in rs in
      All-append P (test_rows names more (tests_of cond)) (condition_rows names rs)
      (of_cond P names more (λ rel x y p q. compared (names + more) rel (form_of names more x) (form_of names more y) (plain_side names more x p) (plain_side names more y q)) cond a.0) (conditioned names rs a.1)

  pub domain_rows_are : (program : Program) (has : HasNest program) (part : ℕ) (e : Entry) → IsEntry program part e → IsTrue e.alive → All P e.domain.rows
  domain_rows_are program has part e h alive =
      let s = site_of program part e h in
      let w = ranges_there program part e has s alive in
      let ps = number_ranges program.params in
      let m = length ps in
      let n = loops_in s.its_rounds in
      let place : Place = record { around = s.its_rounds; loops = s.loops; assignment = s.assignment } in
      let plain : IsTrue (plain_at m s.its_rounds) = (plain_place m place (assignments_are_plain program has.plain part s.its_rounds s.assignment s.rounds_at s.assignment_at)).rounds in
      subst (λ (d : Rows). All P d.rows) (sym (domain_is program part e s w.0 w.1))
      (All-append P (box_rows (m + n) 0 ps) (test_rows m n program.context ++ (loop_rows m w.0 s.its_rounds ++ condition_rows m s.its_rounds)) (boxed (m + n) 0 ps (near_numbers ps has.plain.ranges))
      (All-append P (test_rows m n program.context) (loop_rows m w.0 s.its_rounds ++ condition_rows m s.its_rounds) (tested m n program.context has.plain.context)
      (All-append P (loop_rows m w.0 s.its_rounds) (condition_rows m s.its_rounds) (looped m w.0 s.its_rounds (near_within ps w.0 s.its_rounds w.1) plain) (conditioned m s.its_rounds plain))))

-- they keep the limits of a system's rows
pub domain_fits : (program : Program) (has : HasNest program) (part : ℕ) (e : Entry) → IsEntry program part e → IsTrue e.alive → All FitsRow e.domain.rows
domain_fits program has part e h alive = domain_rows_are FitsRow gap_fits program has part e h alive
