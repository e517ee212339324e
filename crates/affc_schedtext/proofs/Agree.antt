-- The plans of one text run the instances in one order, and have the same folds.
use Rattle.std.proofs.Common.{◌≡◌, ℕ, ℤ, List, [], ◌∷◌, ◌++◌, length, map, slice_get, All, Option, Some, None, refl, sym, ap, ◌∙◌, subst, arith}
use Rattle.std.specs.Ordering.{ordering_then, nat_cmp, int_cmp}
use Rattle.std.specs.Cmp.Lexicographic.{slice_cmp}
use Rattle.affc_rows.specs.Forms.{values_of}
use Rattle.affc_ast.specs.declared.tree.ArrayId.{ArrayId}
use Rattle.affc_ast.specs.declared.tree.Instance.{Instance}
use Rattle.affc_ast.specs.declared.tree.Program.{Program}
use Rattle.affc_ast.specs.Trace.{trace}
use Rattle.affc_trace.specs.declared.schedule.TimeMap.{TimeMap}
use Rattle.affc_trace.specs.declared.schedule.Schedule.{Schedule}
use Rattle.affc_trace.specs.declared.schedule.Schedule.TheVariants as schedule
use Rattle.affc_trace.specs.Target.{time_by, time_cmp, in_order_of, target}
use Rattle.affc_basis.specs.declared.basis.Basis.{Basis}
use Rattle.affc_schedtext.specs.declared.plan.Plan.{Plan}
use Rattle.affc_schedtext.specs.Folded.{fold_said}
use Rattle.affc_schedtext.specs.Outline.{Outline, outline, statement_of}
use Rattle.affc_schedtext.specs.Draft.{LineDraft, OrderDraft, source, time, Draft}
use Rattle.affc_schedtext.specs.Rules.{statement_sides, there_forms, statements_in, order_breaches}
use Rattle.affc_schedtext.specs.Answers.{draft_of, IsMapOfLine, AreMapsOfLines, IsScheduleOfOrder, AreBasesOfLines, PlanReads}
use Rattle.affc_schedtext.proofs.Excludes.{all_middle, same_draft}
use Rattle.affc_schedtext.proofs.Scheduled.{within, all_there, LineOf, line_of, Kept, kept, same_number}

-- ---- Times

module _ (o : Outline) (n : ℕ) (lines : List LineDraft) (k : Kept o n lines) where
  abbrev HasMap : List TimeMap → LineDraft → Type 0
  HasMap maps x = (i : ℕ) × (m : TimeMap) × (statement_of o x.name ≡ Some i) × (slice_get maps i ≡ Some m) × IsMapOfLine (statement_sides o n x) m

  line_at : (maps : List TimeMap) → AreMapsOfLines o n lines maps → (s : ℕ) (m : TimeMap) → slice_get maps s ≡ Some m → LineOf o s lines
  line_at maps own s m q =
      let long = own.0 in
      let less = within maps s m q in
      line_of o s lines (all_there (length o.statements) (statements_in o lines) s k.whole (omega (arith, long, less)))

  -- the times of a statement are those of its line
  times_at : (maps : List TimeMap) → AreMapsOfLines o n lines maps → (s : ℕ) (l : LineOf o s lines) (point : List ℤ)
      → time_by (slice_get maps s) point ≡ values_of (there_forms (statement_sides o n l.1)) point
  times_at maps own s l point =
      let w = all_middle (HasMap maps) l.0 l.1 l.2 (subst (All (HasMap maps)) l.3 own.1) in
      let number : w.0 ≡ s = same_number w.0 s (sym w.2 ∙ l.4) in
      ap (λ x. time_by x point) (ap (slice_get maps) (sym number) ∙ w.3) ∙ ap (λ fs. values_of fs point) w.4.forms

  same_times : (ms ns : List TimeMap) → AreMapsOfLines o n lines ms → AreMapsOfLines o n lines ns → (s : ℕ) (point : List ℤ) (x y : Option TimeMap)
      → slice_get ms s ≡ x → slice_get ns s ≡ y → time_by (slice_get ms s) point ≡ time_by (slice_get ns s) point
  same_times ms ns f g s point (Some m) y e q = let l = line_at ms f s m e in times_at ms f s l point ∙ sym (times_at ns g s l point)
  same_times ms ns f g s point None (Some m) e q = let l = line_at ns g s m q in times_at ms f s l point ∙ sym (times_at ns g s l point)
  same_times ms ns f g s point None None e q = ap (λ x. time_by x point) (e ∙ sym q)

same_order : (ms ns : List TimeMap) (p : List ℤ) (xs : List Instance) → ((s : ℕ) (point : List ℤ) → time_by (slice_get ms s) point ≡ time_by (slice_get ns s) point)
    → in_order_of (time_cmp ms p) xs ≡ in_order_of (time_cmp ns p) xs
same_order ms ns p xs h =
    ap (λ (t : ℕ → List ℤ → List ℤ). in_order_of (λ x y. ordering_then (slice_cmp int_cmp (t x.statement (p ++ x.iterators)) (t y.statement (p ++ y.iterators))) (nat_cmp x.statement y.statement)) xs)
    (λ i s point. h s point i)

one_order : (o : Outline) (tokens : ℕ) (d : OrderDraft) (folds : List LineDraft) (a b : Schedule) → order_breaches o tokens d folds ≡ [] → IsScheduleOfOrder o d a → IsScheduleOfOrder o d b
    → (program : Program) (p : List ℤ) → target program a p ≡ target program b p
one_order o tokens source folds schedule.Source schedule.Source e f g program p = refl
one_order o tokens source folds (schedule.Time n ms) b e f g program p = absurd f
one_order o tokens source folds schedule.Source (schedule.Time n ms) e f g program p = absurd g
one_order o tokens (time at n lines) folds schedule.Source b e f g program p = absurd f
one_order o tokens (time at n lines) folds (schedule.Time m ms) schedule.Source e f g program p = absurd g
one_order o tokens (time at n lines) folds (schedule.Time m ms) (schedule.Time l ns) e f g program p =
    same_order ms ns p (trace program p) (λ s point. same_times o n lines (kept o tokens at n lines folds e) ms ns f.1 g.1 s point (slice_get ms s) (slice_get ns s) refl refl)

pub plans_order : (text : List ℕ) (program : Program) (a b : Plan) → PlanReads text program a → PlanReads text program b → (p : List ℤ) → target program a.schedule p ≡ target program b.schedule p
plans_order text program a b r s p =
    let o = outline program in
    let mine = r.keeps.spells in
    one_order o (length mine.tokens) (draft_of mine).order (draft_of mine).folds a.schedule b.schedule r.keeps.none r.schedule
    (subst (λ (d : Draft). IsScheduleOfOrder o d.order b.schedule) (same_draft text o s.keeps.spells mine) s.schedule) program p

-- ---- Folds

same_some : (a b : ℕ) → ◌≡◌ {A = Option ℕ} (Some a) (Some b) → a ≡ b
same_some a b e = cc

same_folds : (o : Outline) (lines : List LineDraft) (fs gs : List (ArrayId × Basis)) → AreBasesOfLines o lines fs → AreBasesOfLines o lines gs → map fold_said fs ≡ map fold_said gs
same_folds o [] [] [] f g = refl
same_folds o [] (x ∷ fs) gs f g = absurd f
same_folds o [] [] (y ∷ gs) f g = absurd g
same_folds o (l ∷ ls) [] gs f g = absurd f
same_folds o (l ∷ ls) (x ∷ fs) [] f g = absurd g
same_folds o (l ∷ ls) (x ∷ fs) (y ∷ gs) f g =
    let array = same_some x.0.0 y.0.0 (sym f.0 ∙ g.0) in
    let rows = f.1 ∙ sym g.1 in
    let inverse = f.2 ∙ sym g.2 in
    (λ i. (array i, rows i, inverse i) ∷ same_folds o ls fs gs f.3 g.3 i)

pub plans_folds : (text : List ℕ) (program : Program) (a b : Plan) → PlanReads text program a → PlanReads text program b → map fold_said a.folds ≡ map fold_said b.folds
plans_folds text program a b r s =
    let o = outline program in
    let mine = r.keeps.spells in
    same_folds o (draft_of mine).folds a.folds b.folds r.folds (subst (λ (d : Draft). AreBasesOfLines o d.folds b.folds) (same_draft text o s.keeps.spells mine) s.folds)
