-- The schedule of a plan is one of the program, and within the limits.
use Rattle.std.proofs.Common.{◌≡◌, ℕ, zero, suc, ◌+◌, ◌<◌, ◌≤◌, true, not, ◌&&◌, ◌==◌, nat_le, List, [], ◌∷◌, ◌++◌, length, map, flat_map, slice_get, All, Option, Some, None, refl, sym, ap, ◌∙◌, subst, ◌⊎◌, inl, inr, arith}
use Rattle.std.proofs.lemmas.Bool.{eqb-true, and_parts, and_from, or_cases, leb-true, false≢true}
use Rattle.std.proofs.lemmas.Option.{none-some}
use Rattle.std.proofs.lemmas.List.{length-map}
use Rattle.affc_rows.specs.Forms.{columns_of}
use Rattle.affc_ast.specs.declared.tree.Program.{Program}
use Rattle.affc_trace.specs.declared.schedule.TimeMap.{TimeMap}
use Rattle.affc_trace.specs.declared.schedule.Schedule.{Schedule}
use Rattle.affc_trace.specs.declared.schedule.Schedule.TheVariants as schedule
use Rattle.affc_trace.specs.Target.{loops_round, numbers_in, all_slight, maps_within, within_limits, IsMapOf, AreMapsOf, IsScheduleOf}
use Rattle.affc_domain.proofs.FormLemmas.{form_width}
use Rattle.affc_grammar.specs.Grammar.{Name}
use Rattle.affc_grammar.specs.Draft.{IxDraft}
use Rattle.affc_grammar.specs.Limits.{at_if}
use Rattle.affc_schedtext.specs.declared.plan.Plan.{Plan}
use Rattle.affc_schedtext.specs.Outline.{Outline, outline, statement_of, iterators_of}
use Rattle.affc_schedtext.specs.Draft.{LineDraft, OrderDraft, source, time, text_draft}
use Rattle.affc_schedtext.specs.Rules.{Columns, form_over, over_columns, time_columns, iterators_or_none, statement_sides, is_in, wrong_statements, statements_in, has_all, large_forms, large_sides, is_length, statement, length_of_line, limit, fold_breaches, fold_limits, order_breaches}
use Rattle.affc_schedtext.specs.Answers.{IsMapOfLine, AreMapsOfLines, IsScheduleOfOrder, PlanReads}
use Rattle.affc_schedtext.proofs.Counted.{Each, each_middle, HasInverses, HaveInverses, text_counts}
use Rattle.affc_schedtext.proofs.Empty.{none_left, none_right, map_none, flat_middle, kept_if}
use Rattle.affc_schedtext.proofs.Excludes.{all_middle}
use Rattle.affc_schedtext.proofs.LoopsRound.{loops_are, parameters_are}
use Rattle.affc_schedtext.proofs.Slight.{all_are_slight}

-- ---- Entries of lists

pub within : {A : Type 0} (xs : List A) (k : ℕ) (x : A) → slice_get xs k ≡ Some x → k < length xs
within [] k x e = absurd (none-some x e)
within (y ∷ xs) zero x e = omega arith
within (y ∷ xs) (suc k) x e = let h = within xs k x e in omega (arith, h)

pub same_found : {A : Type 0} (xs : List A) (k : ℕ) (x y : A) → slice_get xs k ≡ Some x → slice_get xs k ≡ Some y → x ≡ y
same_found {A} xs k x y e q = let both : ◌≡◌ {A = Option A} (Some x) (Some y) = sym e ∙ q in cc

-- ---- Lines of all statements

less_or_last : (s n : ℕ) → s < suc n → (s ≡ n) ⊎ (s < n)
less_or_last zero zero h = inl refl
less_or_last zero (suc n) h = inr (omega arith)
less_or_last (suc s) zero h = absurd (omega arith)
less_or_last (suc s) (suc n) h = elim (less_or_last s n (omega arith)) [ inl e ↦ inl (ap suc e) | inr l ↦ inr (omega (arith, l)) ]

pub all_there : (n : ℕ) (ns : List ℕ) (s : ℕ) → has_all n ns ≡ true → s < n → is_in s ns ≡ true
all_there zero ns s e h = absurd (omega (arith, h))
all_there (suc n) ns s e h =
    let both = and_parts (is_in n ns) (has_all n ns) e in
    elim (less_or_last s n h) [ inl q ↦ ap (λ m. is_in m ns) q ∙ both.0 | inr l ↦ all_there n ns s both.1 l ]

-- a line of the statement
abbrev pub LineOf : Outline → ℕ → List LineDraft → Type 0
LineOf o s lines = (front : List LineDraft) × (line : LineDraft) × (others : List LineDraft) × (lines ≡ front ++ line ∷ others) × (statement_of o line.name ≡ Some s)

pub later : (o : Outline) (s : ℕ) (l : LineDraft) (ls : List LineDraft) → LineOf o s ls → LineOf o s (l ∷ ls)
later o s l ls h = (l ∷ h.0, h.1, h.2, ap (λ xs. l ∷ xs) h.3, h.4)

of_head : (o : Outline) (s : ℕ) (l : LineDraft) (ls : List LineDraft) → (is_in s (statements_in o ls) ≡ true → LineOf o s ls) → (x : Option ℕ) → statement_of o l.name ≡ x
    → is_in s (elim x [ None ↦ statements_in o ls | Some t ↦ t ∷ statements_in o ls ]) ≡ true → LineOf o s (l ∷ ls)
of_head o s l ls h None q e = later o s l ls (h e)
of_head o s l ls h (Some t) q e = elim (or_cases (t == s) (is_in s (statements_in o ls)) e) [
  | inl c ↦ ([], l, ls, refl, q ∙ ap (λ m. Some m) (eqb-true t s c))
  | inr c ↦ later o s l ls (h c)
]

pub line_of : (o : Outline) (s : ℕ) (lines : List LineDraft) → is_in s (statements_in o lines) ≡ true → LineOf o s lines
line_of o s [] e = absurd (false≢true e)
line_of o s (l ∷ ls) e = of_head o s l ls (line_of o s ls) (statement_of o l.name) refl e

-- ---- Rules that are kept

pub record Kept (o : Outline) (n : ℕ) (lines : List LineDraft) : Type 0 where
  pub whole : has_all (length o.statements) (statements_in o lines) ≡ true
  pub lengths : flat_map (λ (l : LineDraft). at_if (not (length l.forms == n)) l.at) lines ≡ []
  pub few : is_length n ≡ true
  pub small : flat_map (λ l. large_sides (statement_sides o n l)) lines ≡ []

pub kept : (o : Outline) (tokens at n : ℕ) (lines folds : List LineDraft) → order_breaches o tokens (time at n lines) folds ≡ [] → Kept o n lines
kept o tokens at n lines folds e =
    let wrong = wrong_statements o [] lines in
    let missing = at_if (not (has_all (length o.statements) (statements_in o lines))) tokens in
    let lengths = flat_map (λ (l : LineDraft). at_if (not (length l.forms == n)) l.at) lines in
    let size = at_if (not (is_length n)) at in
    let large = flat_map (λ l. large_sides (statement_sides o n l)) lines in
    let one = map statement (wrong ++ missing) in
    let two = map length_of_line lengths in
    let three = fold_breaches o folds in
    let four = map limit (size ++ large) in
    let five = fold_limits o folds in
    let e4 : one ++ two ++ three ++ four ≡ [] = none_left (one ++ two ++ three ++ four) five e in
    let e3 : one ++ two ++ three ≡ [] = none_left (one ++ two ++ three) four e4 in
    let e2 : one ++ two ≡ [] = none_left (one ++ two) three e3 in
    let first : wrong ++ missing ≡ [] = map_none statement (wrong ++ missing) (none_left one two e2) in
    let fourth : size ++ large ≡ [] = map_none limit (size ++ large) (none_right (one ++ two ++ three) four e4) in
    record {
      whole = kept_if (has_all (length o.statements) (statements_in o lines)) tokens (none_right wrong missing first);
      lengths = map_none length_of_line lengths (none_right one two e2);
      few = kept_if (is_length n) at (none_left size large fourth);
      small = none_right size large fourth;
    }

-- ---- Maps

pub columns_over : (c : Columns) (es : List IxDraft) → 1 ≤ length es → columns_of (map (form_over c) es) ≡ c.count
columns_over c [] h = absurd (omega (arith, h))
columns_over c (e ∷ es) h = let w = form_width c.count 0 (over_columns c.scope e) in omega (arith, w)

are_maps : (p n : ℕ) (iss : List (List Name)) (maps : List TimeMap) → length maps ≡ length iss
    → ((k : ℕ) (is : List Name) (m : TimeMap) → slice_get iss k ≡ Some is → slice_get maps k ≡ Some m → IsMapOf p (length is) n m) → AreMapsOf p n (map length iss) maps
are_maps p n [] [] e h = tt
are_maps p n [] (m ∷ ms) e h = absurd (omega (arith, e))
are_maps p n (is ∷ iss) [] e h = absurd (omega (arith, e))
are_maps p n (is ∷ iss) (m ∷ ms) e h = (h 0 is m refl refl, are_maps p n iss ms (omega (arith, e)) (λ k js x q r. h (suc k) js x q r))

each_within : (maps : List TimeMap) → ((k : ℕ) (m : TimeMap) → slice_get maps k ≡ Some m → (all_slight m.forms && all_slight m.inverse) ≡ true) → maps_within maps ≡ true
each_within [] h = refl
each_within (m ∷ ms) h = and_from (all_slight m.forms && all_slight m.inverse) (maps_within ms) (h 0 m refl) (each_within ms (λ k x q. h (suc k) x q))

pub same_number : (a b : ℕ) → ◌≡◌ {A = Option ℕ} (Some a) (Some b) → a ≡ b
same_number a b e = cc

module _ (o : Outline) (n : ℕ) (lines : List LineDraft) (maps : List TimeMap) (k : Kept o n lines) (own : AreMapsOfLines o n lines maps) (counts : Each (HasInverses o) lines) where
  abbrev HasMap : LineDraft → Type 0
  HasMap x = (i : ℕ) × (m : TimeMap) × (statement_of o x.name ≡ Some i) × (slice_get maps i ≡ Some m) × IsMapOfLine (statement_sides o n x) m

  map_at : (s : ℕ) (is : List Name) (m : TimeMap) → slice_get o.statements s ≡ Some is → slice_get maps s ≡ Some m → IsMapOf (length o.parameters) (length is) n m
  map_at s is m e q =
      let l = line_of o s lines (all_there (length o.statements) (statements_in o lines) s k.whole (within o.statements s is e)) in
      let w = all_middle HasMap l.0 l.1 l.2 (subst (All HasMap) l.3 own.1) in
      let number : w.0 ≡ s = same_number w.0 s (sym w.2 ∙ l.4) in
      let map_is : w.1 ≡ m = same_found maps s w.1 m (ap (slice_get maps) (sym number) ∙ w.3) q in
      let iterators : iterators_of o (statement_of o l.1.name) ≡ Some is = ap (iterators_of o) l.4 ∙ e in
      let inverses : length l.1.inverse ≡ length is = each_middle (HasInverses o) l.0 l.1 l.2 (subst (Each (HasInverses o)) l.3 counts) is iterators in
      let long : length l.1.forms ≡ n = eqb-true (length l.1.forms) n (kept_if (length l.1.forms == n) l.1.at (flat_middle (λ (x : LineDraft). at_if (not (length x.forms == n)) x.at) l.0 l.1 l.2 (subst (λ xs. flat_map (λ (x : LineDraft). at_if (not (length x.forms == n)) x.at) xs ≡ []) l.3 k.lengths))) in
      let some : 1 ≤ n = leb-true 1 n (and_parts (nat_le 1 n) (nat_le n 12) k.few).0 in
      subst (IsMapOf (length o.parameters) (length is) n) map_is (record {
        columns =
            ap columns_of w.4.forms
            ∙ columns_over (time_columns o (iterators_or_none (iterators_of o (statement_of o l.1.name)))) l.1.forms (omega (arith, long, some))
            ∙ ap (λ x. length o.parameters + length (iterators_or_none x)) iterators;
        components = ap length w.4.forms ∙ length-map l.1.forms (form_over (time_columns o (iterators_or_none (iterators_of o (statement_of o l.1.name))))) ∙ long;
        iterators = ap length w.4.inverse ∙ length-map l.1.inverse (form_over (statement_sides o n l.1).back_over) ∙ inverses;
      })

  slight_at : (s : ℕ) (m : TimeMap) → slice_get maps s ≡ Some m → (all_slight m.forms && all_slight m.inverse) ≡ true
  slight_at s m q =
      let long = own.0 in
      let less = within maps s m q in
      let l = line_of o s lines (all_there (length o.statements) (statements_in o lines) s k.whole (omega (arith, long, less))) in
      let w = all_middle HasMap l.0 l.1 l.2 (subst (All HasMap) l.3 own.1) in
      let number : w.0 ≡ s = same_number w.0 s (sym w.2 ∙ l.4) in
      let map_is : w.1 ≡ m = same_found maps s w.1 m (ap (slice_get maps) (sym number) ∙ w.3) q in
      let sides = statement_sides o n l.1 in
      let none : large_sides sides ≡ [] = flat_middle (λ x. large_sides (statement_sides o n x)) l.0 l.1 l.2 (subst (λ xs. flat_map (λ x. large_sides (statement_sides o n x)) xs ≡ []) l.3 k.small) in
      subst (λ (x : TimeMap). (all_slight x.forms && all_slight x.inverse) ≡ true) map_is
      (and_from (all_slight w.1.forms) (all_slight w.1.inverse)
      (ap all_slight w.4.forms ∙ all_are_slight sides.there_over sides.there (none_left (large_forms sides.there_over sides.there) (large_forms sides.back_over sides.back) none))
      (ap all_slight w.4.inverse ∙ all_are_slight sides.back_over sides.back (none_right (large_forms sides.there_over sides.there) (large_forms sides.back_over sides.back) none)))

  are_within : is_length n && maps_within maps ≡ true
  are_within = and_from (is_length n) (maps_within maps) k.few (each_within maps slight_at)

  are_maps_of : AreMapsOf (length o.parameters) n (map length o.statements) maps
  are_maps_of = are_maps (length o.parameters) n o.statements maps own.0 map_at

scheduled : (program : Program) (tokens : ℕ) (d : OrderDraft) (folds : List LineDraft) (plan : Schedule) → order_breaches (outline program) tokens d folds ≡ [] → HaveInverses (outline program) d → IsScheduleOfOrder (outline program) d plan → IsScheduleOf program plan
scheduled program tokens source folds schedule.Source e c h = tt
scheduled program tokens source folds (schedule.Time components maps) e c h = absurd h
scheduled program tokens (time at n lines) folds schedule.Source e c h = absurd h
scheduled program tokens (time at n lines) folds (schedule.Time components maps) e c h =
    let all = are_maps_of (outline program) n lines maps (kept (outline program) tokens at n lines folds e) h.1 c in
    subst (λ m. AreMapsOf (numbers_in program.params) m (loops_round program) maps) (sym h.0)
    (subst (λ ls. AreMapsOf (numbers_in program.params) n ls maps) (loops_are program)
    (subst (λ p. AreMapsOf p n (map length (outline program).statements) maps) (parameters_are program) all))

pub is_scheduled : (text : List ℕ) (program : Program) (plan : Plan) → PlanReads text program plan → IsScheduleOf program plan.schedule
is_scheduled text program plan r =
    let s = r.keeps.spells in
    scheduled program (length s.tokens) (text_draft s.written).order (text_draft s.written).folds plan.schedule r.keeps.none (text_counts (outline program) s.written) r.schedule

limited : (program : Program) (tokens : ℕ) (d : OrderDraft) (folds : List LineDraft) (plan : Schedule) → order_breaches (outline program) tokens d folds ≡ [] → HaveInverses (outline program) d → IsScheduleOfOrder (outline program) d plan → within_limits plan ≡ true
limited program tokens source folds schedule.Source e c h = refl
limited program tokens source folds (schedule.Time components maps) e c h = absurd h
limited program tokens (time at n lines) folds schedule.Source e c h = absurd h
limited program tokens (time at n lines) folds (schedule.Time components maps) e c h =
    ap (λ m. is_length m && maps_within maps) h.0 ∙ are_within (outline program) n lines maps (kept (outline program) tokens at n lines folds e) h.1 c

pub is_limited : (text : List ℕ) (program : Program) (plan : Plan) → PlanReads text program plan → within_limits plan.schedule ≡ true
is_limited text program plan r =
    let s = r.keeps.spells in
    limited program (length s.tokens) (text_draft s.written).order (text_draft s.written).folds plan.schedule r.keeps.none (text_counts (outline program) s.written) r.schedule
