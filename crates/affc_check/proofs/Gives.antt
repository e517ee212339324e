-- A valid certificate shows what it says.
use Rattle.std.proofs.Common.{◌≡◌, ℕ, zero, suc, ◌+◌, ℤ, List, [], ◌∷◌, length, map, Option, Some, None, refl, sym, ap, subst, inl, inr, arith, ◌∙◌}
use Rattle.std.specs.Prelude.{◌↔◌, slice_get}
use Rattle.std.specs.List.{All, Contains}
use Rattle.std.proofs.lemmas.Option.{same_Some, none-some}
use Rattle.std.proofs.lemmas.List.Elements.{All-head, All-tail}
use Rattle.affc_rows.specs.Forms.{Affine, HaveColumns}
use Rattle.affc_system.specs.Systems.{HasNoPoint}
use Rattle.affc_system.specs.ElementPairs.{IsPairOf}
use Rattle.affc_system.specs.declared.pairs.PairSystem.{PairSystem}
use Rattle.affc_ast.specs.declared.tree.Program.{Program}
use Rattle.affc_farkas.specs.declared.proof.Proof.{Proof}
use Rattle.affc_trace.specs.declared.schedule.Schedule.{Schedule}
use Rattle.affc_trace.specs.Dataflow.{LivePair}
use Rattle.affc_trace.specs.Law.{IsIn}
use Rattle.affc_trace.specs.Laws.{IsInContext}
use Rattle.affc_trace.proofs.Members.{to_second}
use Rattle.affc_basis.specs.declared.fold.Fold.{Fold}
use Rattle.affc_basis.specs.declared.fold.Modulus.{Modulus}
use Rattle.affc_basis.specs.Folds.{forms_of, IsAdmissible, Obeys, IsTrueOf, IsTrueMark}
use Rattle.affc_basis.specs.Moduli.{Exceeds, IsModulus}
use Rattle.affc_nest.specs.declared.nest.Nest.{Nest}
use Rattle.affc_basis.proofs.FoldPlaces.{obeying_fold_separates}
use Rattle.affc_nest.specs.Nests.{nest_of}
use Rattle.affc_quast.specs.Trees.{Tree}
use Rattle.affc_flow.specs.Questions.{flow_questions}
use Rattle.affc_flow.specs.Questions as flow
use Rattle.affc_flow.proofs.FlowLemmas.{flow_names_all}
use Rattle.affc_conflicts.specs.Conditions.{InContext}
use Rattle.affc_conflicts.specs.Laws.{IsOver}
use Rattle.affc_conflicts.specs.Questions.{context_system, distance_questions, greater_question}
use Rattle.affc_conflicts.proofs.Decided.{fold_questions_decide}
use Rattle.affc_life.proofs.LiveLemmas.{clashes_are_live_pairs}
use Rattle.affc_life.specs.Folding.{HasTrueMarks}
use Rattle.affc_life.proofs.MarkLemmas.{exceeds_others, mark_of_others}
use Rattle.affc_life.proofs.NestLemmas.{to_context, from_context}
use Rattle.affc_check.specs.list.Items.{Item, Question, Shown, LeastShown, ModulusShown, FoldShown, mark_items, row_items, fold_items, pair_item, mark_of, moduli_of, items}
use Rattle.affc_check.specs.Valid.{AreValid}
use Rattle.affc_check.specs.Laws.{IsReadFor, IsFoldShown, ValidGives}
use Rattle.affc_check.proofs.Marks.{mark_shown}
use Rattle.affc_check.proofs.Members.{seen, shown_at, seen_wide, of_row, of_fold}
use Rattle.affc_check.proofs.list.Over.{are_shaped, are_over, are_proper}
use Rattle.affc_check.proofs.Parts.{in_context, context_shown, no_flow, fold_holds, stays_within, is_legal}
use Rattle.affc_check.proofs.Sound.{Holds}

modulus_fits : (columns : ℕ) (ms : List ModulusShown) (k : ℕ) (m : ModulusShown) → All (λ m. IsModulus columns m.form) ms → slice_get ms k ≡ Some m → IsModulus columns m.form
modulus_fits columns [] k m h e = absurd (none-some m e)
modulus_fits columns (x ∷ ms) zero m h e = subst (λ (m : ModulusShown). IsModulus columns m.form) (same_Some x m e) (All-head (λ (m : ModulusShown). IsModulus columns m.form) x ms h)
modulus_fits columns (x ∷ ms) (suc k) m h e = modulus_fits columns ms k m (All-tail (λ (m : ModulusShown). IsModulus columns m.form) x ms h) e

seen_form : (systems : List PairSystem) (rows : List Affine) (ms : List Modulus) (k : ℕ) (m : Modulus) → slice_get ms k ≡ Some m → slice_get (forms_of ms) k ≡ Some m.form
seen_form systems rows [] k m e = absurd (none-some m e)
seen_form systems rows (x ∷ ms) zero m e = ap (λ (m : Modulus). Some m.form) (same_Some x m e)
seen_form systems rows (x ∷ ms) (suc k) m e = seen_form systems rows ms k m e

-- ---- A fold, by the pairs of its systems

module _ (nest : Nest) (f : FoldShown) (each : length nest.params ≡ nest.context.columns) (over : (s : PairSystem) → Contains f.systems s → IsOver nest.context.columns (length f.rows) s)
    (wide : HaveColumns (length f.rows) f.rows) (limits : All (λ m. IsModulus nest.context.columns m.form) f.moduli)
    (holds : (i : Item) → IsIn i (fold_items nest f) → Holds i) where
  abbrev ms : List Modulus
  ms = moduli_of f.systems f.rows f.moduli

  pub exceeds : (p : List ℤ) → InContext nest.context nest.params p → Exceeds (IsPairOf f.systems p) p f.rows (forms_of (moduli_of f.systems f.rows f.moduli))
  exceeds =
      fold_questions_decide nest.context nest.params f.systems f.rows ms over wide (seen_wide nest.context.columns f.systems f.rows f.moduli limits)
      (λ q i. holds (Question q) (of_fold nest f.systems f.rows f.rows f.moduli 0 q i))

  module _ (k : ℕ) (row : Affine) (m : ModulusShown) (at : slice_get f.rows k ≡ Some row) (m_at : slice_get f.moduli k ≡ Some m) (n_at : slice_get (moduli_of f.systems f.rows f.moduli) k ≡ Some (seen f.systems row m)) where
    abbrev distances : List Item
    distances = map Question (distance_questions f.rows k row m.form f.systems)

    marked : (o : Option LeastShown) → ((i : Item) → IsIn i (mark_items nest f.rows k row m.form f.systems o) → Holds i)
        → IsTrueOf (InContext nest.context nest.params) (IsPairOf f.systems) f.rows k row m.form (mark_of f.systems row o)
    marked None h = tt
    marked (Some l) h =
        mark_shown nest f.systems f.rows over wide k row m.form at (modulus_fits nest.context.columns f.moduli k m limits m_at)
        (λ p inside. exceeds p inside k row m.form at (seen_form f.systems f.rows ms k (seen f.systems row m) n_at))
        l.p (in_context nest.context nest.params l.p each (h (Shown (context_system nest.context nest.params) l.p) (inl refl)))
        (h (Question (greater_question nest.context nest.params m.form l.p)) (inr (inr (inl refl))))
        l.pair (h (pair_item nest f.rows k row m.form f.systems l.p l.pair) (inr (inl refl)))

    true_mark : IsTrueOf (InContext nest.context nest.params) (IsPairOf f.systems) f.rows k row m.form (mark_of f.systems row m.least)
    true_mark =
        marked m.least (λ i there. holds i
        (of_row nest f.systems f.rows f.rows f.moduli 0 k row m i at m_at
        (subst (λ j. IsIn i (row_items nest f.systems f.rows j row m)) (sym (first k)) (inr (to_second distances (mark_items nest f.rows k row m.form f.systems m.least) i there)))))
      where
        first : (n : ℕ) → 0 + n ≡ n
        first n = omega arith

  pub true_marks : (k : ℕ) (row : Affine) (n : Modulus) → slice_get f.rows k ≡ Some row → slice_get (moduli_of f.systems f.rows f.moduli) k ≡ Some n
      → IsTrueMark (InContext nest.context nest.params) (IsPairOf f.systems) f.rows k row n
  true_marks k row n at n_at =
      let s = shown_at f.systems f.rows f.moduli k row n at n_at in
      subst (λ (n : Modulus). IsTrueMark (InContext nest.context nest.params) (IsPairOf f.systems) f.rows k row n) (sym s.2)
      (true_mark k row s.0 at s.1 (subst (λ (n : Modulus). slice_get ms k ≡ Some n) s.2 n_at))

-- ---- A fold, by live pairs

module _ (program : Program) (schedule : Schedule) (context : List ℤ) (trees : List Tree) (folds : List FoldShown) (proofs : List Proof)
    (r : IsReadFor program schedule trees folds) (valid : AreValid (items (nest_of program) schedule context trees folds) proofs) where
  unasked : (q : flow.Question) → IsIn q (flow_questions (nest_of program) trees) → HasNoPoint q.system
  unasked = no_flow program schedule context trees folds proofs valid

  module _ (f : FoldShown) (there : IsIn f folds) (fold : Fold) (is : IsFoldShown f fold) where
    wide : HaveColumns (length f.rows) f.rows
    wide = subst (λ rows. HaveColumns (length rows) rows) is.rows fold.basis.square.columns

    over : (s : PairSystem) → Contains f.systems s → IsOver (nest_of program).context.columns (length f.rows) s
    over s i =
        subst (λ n. IsOver (nest_of program).context.columns n s) (sym (r.arrays f there).dimensions)
        (are_over program r.has r.named trees (are_shaped program trees r.shapes) schedule f.array (r.arrays f there).info (r.arrays f there).declared f.systems (r.arrays f there).systems s i)

    own : (i : Item) → IsIn i (fold_items (nest_of program) f) → Holds i
    own = fold_holds program schedule context trees folds proofs valid f there

    live : (p : List ℤ) → IsInContext program p → (x y : List ℤ) → IsPairOf f.systems p x y ↔ LivePair program schedule f.array p x y
    live p inside x y =
        clashes_are_live_pairs program trees schedule f.array f.systems p x y r.has r.named r.fits (are_shaped program trees r.shapes) (r.arrays f there).systems inside
        (flow_names_all program p trees r.has r.named inside r.shapes unasked).0

    obeys : (p : List ℤ) → IsInContext program p → Obeys (LivePair program schedule f.array p) fold p
    obeys p inside =
        exceeds_others (IsPairOf f.systems p) (LivePair program schedule f.array p) (live p inside) p fold.basis.rows (forms_of fold.moduli)
        (subst (λ rows. Exceeds (IsPairOf f.systems p) p rows (forms_of fold.moduli)) (sym is.rows)
        (subst (λ ns. Exceeds (IsPairOf f.systems p) p f.rows (forms_of ns)) (sym is.moduli)
        (exceeds (nest_of program) f refl over wide (r.arrays f there).moduli own p (to_context program r.has.plain p inside))))

    admissible : (p : List ℤ) → IsInContext program p → IsAdmissible (LivePair program schedule f.array p) fold p
    admissible p inside =
        let a = r.arrays f there in
        (obeying_fold_separates (LivePair program schedule f.array) fold p (λ x y pair.
        let d = are_proper program r.has r.named trees (are_shaped program trees r.shapes) schedule f.array a.info a.declared f.systems a.systems p x y ((live p inside x y).1 pair) in
        let rows : length fold.basis.rows ≡ length a.info.extents = ap length is.rows ∙ a.dimensions in
        (d.0, d.1 ∙ sym rows, d.2 ∙ sym rows)) (obeys p inside)).0

    marks : HasTrueMarks (IsInContext program) (LivePair program schedule f.array) fold
    marks k row n at n_at =
        mark_of_others (InContext (nest_of program).context (nest_of program).params) (IsInContext program) (IsPairOf f.systems) (LivePair program schedule f.array)
        (from_context program r.has.plain) (to_context program r.has.plain) live fold.basis.rows k row n.form n.mark
        (subst (λ rows. IsTrueMark (InContext (nest_of program).context (nest_of program).params) (IsPairOf f.systems) rows k row n) (sym is.rows)
        (true_marks (nest_of program) f refl over wide (r.arrays f there).moduli own k row n (subst (λ rows. slice_get rows k ≡ Some row) is.rows at) (subst (λ ns. slice_get ns k ≡ Some n) is.moduli n_at)))

pub valid_gives : ValidGives
valid_gives program schedule context trees folds proofs r valid = record {
  some = (context, context_shown program schedule context trees folds proofs valid r.has);
  stays = stays_within program schedule context trees folds proofs valid r.has r.named;
  sources = λ p inside. (flow_names_all program p trees r.has r.named inside r.shapes (no_flow program schedule context trees folds proofs valid)).0;
  written = λ p inside. (flow_names_all program p trees r.has r.named inside r.shapes (no_flow program schedule context trees folds proofs valid)).1;
  legal = is_legal program schedule context trees folds proofs valid r.has r.named r.fits;
  folds_right = λ f there. record {
    obeys = obeys program schedule context trees folds proofs r valid f there;
    admissible = admissible program schedule context trees folds proofs r valid f there;
    marks = marks program schedule context trees folds proofs r valid f there;
  };
}
