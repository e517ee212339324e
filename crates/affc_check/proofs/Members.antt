-- Which items a fold has, and which questions of it are among them.
use Rattle.std.proofs.Common.{◌≡◌, ℕ, zero, suc, ◌+◌, List, [], ◌∷◌, length, map, Option, Some, None, refl, sym, ap, subst, ◌∙◌, inl, inr, arith}
use Rattle.std.specs.Prelude.{slice_get}
use Rattle.std.specs.List.{All}
use Rattle.std.proofs.lemmas.Option.{same_Some, none-some}
use Rattle.std.proofs.lemmas.List.Elements.{All-nil, All-cons, All-head, All-tail}
use Rattle.affc_rows.specs.Forms.{Affine, HaveColumns}
use Rattle.affc_system.specs.Systems.{Rows}
use Rattle.affc_system.specs.declared.pairs.PairSystem.{PairSystem}
use Rattle.affc_trace.specs.Law.{IsIn}
use Rattle.affc_trace.proofs.Members.{to_first, to_second, to_map}
use Rattle.affc_trace.proofs.Once.{in_append}
use Rattle.affc_basis.specs.declared.fold.Modulus.{Modulus}
use Rattle.affc_basis.specs.Folds.{forms_of}
use Rattle.affc_basis.specs.Moduli.{IsModulus}
use Rattle.affc_nest.specs.declared.nest.Nest.{Nest}
use Rattle.affc_conflicts.specs.Questions.{distance_questions, mark_questions, row_questions, questions_from}
use Rattle.affc_check.specs.list.Items.{Item, Question, LeastShown, ModulusShown, mark_items, row_items, rows_items, mark_of, moduli_of}

-- ---- The moduli

abbrev pub seen : List PairSystem → Affine → ModulusShown → Modulus
seen systems row m = record { form = m.form; mark = mark_of systems row m.least }

-- a modulus is seen of the one that is shown for its row
pub shown_at : (systems : List PairSystem) (rows : List Affine) (ms : List ModulusShown) (k : ℕ) (row : Affine) (n : Modulus) → slice_get rows k ≡ Some row → slice_get (moduli_of systems rows ms) k ≡ Some n
    → (m : ModulusShown) × (slice_get ms k ≡ Some m) × (n ≡ seen systems row m)
shown_at systems [] ms k row n at at_n = absurd (none-some row at)
shown_at systems (r ∷ rows) [] k row n at at_n = absurd (none-some n at_n)
shown_at systems (r ∷ rows) (m ∷ ms) zero row n at at_n = (m, refl, sym (same_Some (seen systems r m) n at_n) ∙ ap (λ x. seen systems x m) (same_Some r row at))
shown_at systems (r ∷ rows) (m ∷ ms) (suc k) row n at at_n = shown_at systems rows ms k row n at at_n

pub seen_wide : (columns : ℕ) (systems : List PairSystem) (rows : List Affine) (ms : List ModulusShown) → All (λ m. IsModulus columns m.form) ms → HaveColumns columns (forms_of (moduli_of systems rows ms))
seen_wide columns systems [] ms h = All-nil (λ f. length f.coefs ≡ columns)
seen_wide columns systems (r ∷ rows) [] h = All-nil (λ f. length f.coefs ≡ columns)
seen_wide columns systems (r ∷ rows) (m ∷ ms) h =
    All-cons (λ f. length f.coefs ≡ columns) m.form (forms_of (moduli_of systems rows ms)) (All-head (λ (m : ModulusShown). IsModulus columns m.form) m ms h).width
    (seen_wide columns systems rows ms (All-tail (λ (m : ModulusShown). IsModulus columns m.form) m ms h))

-- ---- The items

module _ (nest : Nest) (systems : List PairSystem) (all : List Affine) where
  -- an item of a row is one of the fold
  pub of_row : (rows : List Affine) (ms : List ModulusShown) (first k : ℕ) (row : Affine) (m : ModulusShown) (i : Item) → slice_get rows k ≡ Some row → slice_get ms k ≡ Some m
      → IsIn i (row_items nest systems all (first + k) row m) → IsIn i (rows_items nest systems all first rows ms)
  of_row [] ms first k row m i at at_m there = absurd (none-some row at)
  of_row (r ∷ rows) [] first k row m i at at_m there = absurd (none-some m at_m)
  of_row (r ∷ rows) (n ∷ ms) first zero row m i at at_m there =
      to_first (row_items nest systems all first r n) (rows_items nest systems all (suc first) rows ms) i
      (subst (λ j. IsIn i (row_items nest systems all j r n)) (none first)
      (subst (λ x. IsIn i (row_items nest systems all (first + 0) x n)) (sym (same_Some r row at)) (subst (λ x. IsIn i (row_items nest systems all (first + 0) row x)) (sym (same_Some n m at_m)) there)))
    where
      none : (n : ℕ) → n + 0 ≡ n
      none n = omega arith
  of_row (r ∷ rows) (n ∷ ms) first (suc k) row m i at at_m there =
      to_second (row_items nest systems all first r n) (rows_items nest systems all (suc first) rows ms) i
      (of_row rows ms (suc first) k row m i at at_m (subst (λ j. IsIn i (row_items nest systems all j row m)) (moved first k) there))
    where
      moved : (m n : ℕ) → m + suc n ≡ suc m + n
      moved m n = omega arith

  of_mark : (k : ℕ) (row : Affine) (m : ModulusShown) (q : Rows) (o : Option LeastShown) → IsIn q (mark_questions nest.context nest.params m.form (mark_of systems row o)) → IsIn (Question q) (mark_items nest all k row m.form systems o)
  of_mark k row m q None i = absurd i
  of_mark k row m q (Some l) (inl e) = inr (inr (inl (ap Question e)))
  of_mark k row m q (Some l) (inr i) = absurd i

  of_questions : (k : ℕ) (row : Affine) (m : ModulusShown) (q : Rows) → IsIn q (row_questions nest.context nest.params systems all k row (seen systems row m)) → IsIn (Question q) (row_items nest systems all k row m)
  of_questions k row m q (inl e) = inl (ap Question e)
  of_questions k row m q (inr i) = elim (in_append (distance_questions all k row m.form systems) (mark_questions nest.context nest.params m.form (mark_of systems row m.least)) q i) [
    | inl j ↦ inr (to_first (map Question (distance_questions all k row m.form systems)) (mark_items nest all k row m.form systems m.least) (Question q) (to_map Question (distance_questions all k row m.form systems) q j))
    | inr j ↦ inr (to_second (map Question (distance_questions all k row m.form systems)) (mark_items nest all k row m.form systems m.least) (Question q) (of_mark k row m q m.least j))
  ]

  -- each question of the fold is an item
  pub of_fold : (rows : List Affine) (ms : List ModulusShown) (k : ℕ) (q : Rows) → IsIn q (questions_from nest.context nest.params systems all k rows (moduli_of systems rows ms)) → IsIn (Question q) (rows_items nest systems all k rows ms)
  of_fold [] ms k q i = absurd i
  of_fold (r ∷ rows) [] k q i = absurd i
  of_fold (r ∷ rows) (m ∷ ms) k q i =
      elim (in_append (row_questions nest.context nest.params systems all k r (seen systems r m)) (questions_from nest.context nest.params systems all (suc k) rows (moduli_of systems rows ms)) q i) [
        | inl j ↦ to_first (row_items nest systems all k r m) (rows_items nest systems all (suc k) rows ms) (Question q) (of_questions k r m q j)
        | inr j ↦ to_second (row_items nest systems all k r m) (rows_items nest systems all (suc k) rows ms) (Question q) (of_fold rows ms (suc k) q j)
      ]
