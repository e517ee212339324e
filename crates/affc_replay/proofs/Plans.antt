-- All plans of a schedule's text are accepted alike.
use mathlib.Core.HLevel.{is_prop→PathP}
use Rattle.std.proofs.Props.{props}
use Rattle.std.proofs.Common.{◌≡◌, ℕ, suc, ◌+◌, ◌-◌, ◌≤◌, List, [], ◌∷◌, length, map, All, Option, Some, refl, sym, ap, ap₂, subst, ◌∙◌, arith}
use Rattle.std.specs.Prelude.{slice_get, nat_eq, ◌&&◌, if◌then◌else◌}
use Rattle.std.proofs.lemmas.Option.{same_Some}
use Rattle.affc_rows.specs.Forms.{Affine, HaveColumns, columns_of}
use Rattle.affc_ast.specs.declared.tree.ArrayId.{ArrayId}
use Rattle.affc_ast.specs.declared.tree.Program.{Program}
use Rattle.affc_trace.specs.Inverses.{AreInverse}
use Rattle.affc_trace.specs.declared.schedule.TimeMap.{TimeMap}
use Rattle.affc_trace.specs.declared.schedule.Schedule.{Schedule}
use Rattle.affc_trace.specs.declared.schedule.Schedule.TheVariants as schedule
use Rattle.affc_basis.specs.declared.basis.Basis.{Basis}
use Rattle.affc_basis.specs.declared.fold.Fold.{Fold}
use Rattle.affc_basis.specs.Listed.{Shape}
use Rattle.affc_nest.specs.declared.nest.Nest.{Nest}
use Rattle.affc_life.specs.Folding.{given_for}
use Rattle.affc_check.specs.Answers.{IsChecked}
use Rattle.affc_schedtext.specs.declared.plan.Plan.{Plan}
use Rattle.affc_schedtext.specs.Folded.{fold_said}
use Rattle.affc_schedtext.specs.declared.outline.Outline.{Outline}
use Rattle.affc_schedtext.specs.Outline.{outline, statement_of}
use Rattle.affc_schedtext.specs.Draft.{LineDraft, OrderDraft, source, time, Draft}
use Rattle.affc_schedtext.specs.Rules.{statement_sides, statements_in, order_breaches}
use Rattle.affc_schedtext.specs.Answers.{draft_of, IsMapOfLine, AreMapsOfLines, IsScheduleOfOrder, PlanReads}
use Rattle.affc_schedtext.proofs.Agree.{plans_folds}
use Rattle.affc_schedtext.proofs.Excludes.{all_middle, same_draft}
use Rattle.affc_schedtext.proofs.Scheduled.{within, all_there, LineOf, line_of, Kept, kept, same_number}
use Rattle.affc_accept.specs.Accepted.{IsAccepted}
use Rattle.affc_accept.specs.Bases.{HasBasis}

-- ---- Maps

map_same : (a b : TimeMap) → a.forms ≡ b.forms → a.inverse ≡ b.inverse → a ≡ b
map_same a b e f = λ i. record {
  forms = e i;
  inverse = f i;
  shaped = is_prop→PathP (λ j. HaveColumns (columns_of (e j)) (e j)) (λ j. hlevel props) a.shaped b.shaped i;
  inverse_shaped = is_prop→PathP (λ j. HaveColumns (columns_of (e j) - length (f j) + length (e j)) (f j)) (λ j. hlevel props) a.inverse_shaped b.inverse_shaped i;
  at_least_iterators = is_prop→PathP (λ j. length (f j) ≤ columns_of (e j)) (λ j. hlevel props) a.at_least_iterators b.at_least_iterators i;
  inverts = is_prop→PathP (λ j. AreInverse (e j) (f j)) (λ j. hlevel props) a.inverts b.inverts i;
}

-- lists with the same entries
list_same : {A : Type 0} (xs ys : List A) → length xs ≡ length ys → ((k : ℕ) (x y : A) → slice_get xs k ≡ Some x → slice_get ys k ≡ Some y → x ≡ y) → xs ≡ ys
list_same [] [] l h = refl
list_same [] (y ∷ ys) l h = absurd (omega (arith, l))
list_same (x ∷ xs) [] l h = absurd (omega (arith, l))
list_same (x ∷ xs) (y ∷ ys) l h = ap₂ (λ z zs. z ∷ zs) (h 0 x y refl refl) (list_same xs ys (omega (arith, l)) (λ k a b e f. h (suc k) a b e f))

module _ (o : Outline) (n : ℕ) (lines : List LineDraft) (k : Kept o n lines) where
  abbrev HasMap : List TimeMap → LineDraft → Type 0
  HasMap maps x = (i : ℕ) × (m : TimeMap) × (statement_of o x.name ≡ Some i) × (slice_get maps i ≡ Some m) × IsMapOfLine (statement_sides o n x) m

  -- the map of a statement is that of its line
  map_of : (maps : List TimeMap) → AreMapsOfLines o n lines maps → (s : ℕ) (l : LineOf o s lines) (m : TimeMap) → slice_get maps s ≡ Some m → IsMapOfLine (statement_sides o n l.1) m
  map_of maps own s l m at =
      let w = all_middle (HasMap maps) l.0 l.1 l.2 (subst (All (HasMap maps)) l.3 own.1) in
      let number : w.0 ≡ s = same_number w.0 s (sym w.2 ∙ l.4) in
      let same : w.1 ≡ m = same_Some w.1 m (sym w.3 ∙ ap (slice_get maps) number ∙ at) in
      subst (IsMapOfLine (statement_sides o n l.1)) same w.4

  maps_same : (ms ns : List TimeMap) → AreMapsOfLines o n lines ms → AreMapsOfLines o n lines ns → ms ≡ ns
  maps_same ms ns f g = list_same ms ns (f.0 ∙ sym g.0) (λ s a b e h.
      let long = f.0 in
      let less = within ms s a e in
      let l = line_of o s lines (all_there (length o.statements) (statements_in o lines) s k.whole (omega (arith, long, less))) in
      let mine = map_of ms f s l a e in
      let its = map_of ns g s l b h in
      map_same a b (mine.forms ∙ sym its.forms) (mine.inverse ∙ sym its.inverse))

schedules_same : (o : Outline) (tokens : ℕ) (d : OrderDraft) (folds : List LineDraft) (a b : Schedule) → order_breaches o tokens d folds ≡ [] → IsScheduleOfOrder o d a → IsScheduleOfOrder o d b → a ≡ b
schedules_same o tokens source folds schedule.Source schedule.Source e f g = refl
schedules_same o tokens source folds (schedule.Time n ms) b e f g = absurd f
schedules_same o tokens source folds schedule.Source (schedule.Time n ms) e f g = absurd g
schedules_same o tokens (time at n lines) folds schedule.Source b e f g = absurd f
schedules_same o tokens (time at n lines) folds (schedule.Time m ms) schedule.Source e f g = absurd g
schedules_same o tokens (time at n lines) folds (schedule.Time m ms) (schedule.Time l ns) e f g =
    ap₂ (λ x xs. schedule.Time x xs) (f.0 ∙ sym g.0) (maps_same o n lines (kept o tokens at n lines folds e) ms ns f.1 g.1)

pub one_schedule : (text : List ℕ) (program : Program) (a b : Plan) → PlanReads text program a → PlanReads text program b → a.schedule ≡ b.schedule
one_schedule text program a b r s =
    let o = outline program in
    let mine = r.keeps.spells in
    schedules_same o (length mine.tokens) (draft_of mine).order (draft_of mine).folds a.schedule b.schedule r.keeps.none r.schedule
    (subst (λ (d : Draft). IsScheduleOfOrder o d.order b.schedule) (same_draft text o s.keeps.spells mine) s.schedule)

-- ---- Bases

abbrev Said : Type 0
Said = ℕ × List Affine × List Affine

abbrev given_if : (array dimensions : ℕ) → Said → Option Shape → Option Shape
given_if array dimensions t other = if nat_eq t.0 array && nat_eq (length t.1) dimensions then Some (record { rows = t.1; inverse = t.2 }) else other

one_given : (fs gs : List (ArrayId × Basis)) (array dimensions : ℕ) → map fold_said fs ≡ map fold_said gs → given_for fs array dimensions ≡ given_for gs array dimensions
one_given [] [] array dimensions e = refl
one_given [] (g ∷ gs) array dimensions e = absurd (cc)
one_given (f ∷ fs) [] array dimensions e = absurd (cc)
one_given (f ∷ fs) (g ∷ gs) array dimensions e =
    let first : fold_said f ≡ fold_said g = cc in
    let more : map fold_said fs ≡ map fold_said gs = cc in
    ap (λ (t : Said). given_if array dimensions t (given_for fs array dimensions)) first
    ∙ ap (given_if array dimensions (fold_said g)) (one_given fs gs array dimensions more)

-- ---- Acceptance

pub accepted_too : (text : List ℕ) (program : Program) (nest : Nest) (a b : Plan) (certificate : List ℕ) (folds : List (ArrayId × Fold)) → PlanReads text program a → PlanReads text program b
    → IsAccepted nest a certificate folds → IsAccepted nest b certificate folds
accepted_too text program nest a b certificate folds r s h = record {
  cert = h.cert;
  read = h.read;
  bases = λ c i. subst (λ given. HasBasis given nest c) (one_given a.folds b.folds c.array.0 (length c.basis.rows) (plans_folds text program a b r s)) (h.bases c i);
  checked = h.checked;
  is_checked = subst (λ (x : Schedule). IsChecked nest x h.cert h.checked) (one_schedule text program a b r s) h.is_checked;
  are = h.are;
}
