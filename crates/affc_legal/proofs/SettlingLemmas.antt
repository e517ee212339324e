-- What the code that answers all questions keeps.
use Rattle.std.proofs.Common.{◌≡◌, ℤ, List, [], ◌∷◌, ◌++◌, length, map, take, drop, Option, refl, sym, ap, subst, ◌∙◌, inl, inr, arith}
use Rattle.std.proofs.Math.Seq.{take-append_seam, drop-append_seam}
use Rattle.std.proofs.lemmas.List.{take_all}
use Rattle.affc_farkas.specs.declared.proof.Proof.{Proof}
use Rattle.affc_system.specs.Order.{LexLe}
use Rattle.affc_system.specs.Systems.{Rows}
use Rattle.affc_ast.specs.declared.tree.Instance.{Instance}
use Rattle.affc_ast.specs.declared.tree.Program.{Program}
use Rattle.affc_ast.specs.Trace.{trace}
use Rattle.affc_trace.specs.declared.schedule.Schedule.{Schedule}
use Rattle.affc_trace.specs.Law.{IsIn}
use Rattle.affc_trace.specs.Target.{IsScheduleOf}
use Rattle.affc_trace.proofs.Legality.{earlier_is_in, later_is_in}
use Rattle.affc_trace.proofs.Members.{in_map}
use Rattle.affc_trace.proofs.Once.{in_flat_map}
use Rattle.affc_domain.specs.Ranges.{number_ranges}
use Rattle.affc_domain.proofs.RangeLemmas.{box_length, in_ranges}
use Rattle.affc_nest.specs.Asked.{IsNest}
use Rattle.affc_nest.specs.declared.nest.Access.{Access}
use Rattle.affc_nest.specs.declared.nest.Entry.{Entry}
use Rattle.affc_nest.specs.declared.nest.Nest.{Nest}
use Rattle.affc_nest.specs.Laws.{HasNest, NamesArrays}
use Rattle.affc_nest.specs.Nests.{nest_of}
use Rattle.affc_nest.specs.Parts.{statement_of}
use Rattle.affc_order.specs.Systems.{loops_of, coordinates_of, pair_columns, source_systems, turned_systems}
use Rattle.affc_order.proofs.OrderLemmas.{as_many_loops, statement_is}
use Rattle.affc_sched.specs.Pairs.{IsPair, asked_of}
use Rattle.affc_sched.specs.Touched.{Each}
use Rattle.affc_sched.specs.declared.pairs.Pair.{Pair}
use Rattle.affc_legal.specs.Answered.{AreShown, Settles, spot_at, IsFirstOf, AreAnswered, question_on}
use Rattle.affc_sched.specs.Laws.{parameters_at, first_at, second_at, NoneHasAPoint}
use Rattle.affc_legal.specs.Legal.{IsLegal, IsFirstIllegal, AreProofs}
use Rattle.affc_sched.specs.Questions.{Question, pair_rows, question, pair_questions, legality_questions}
use Rattle.affc_legal.specs.Violations.{IsViolation, spot_of}
use Rattle.affc_legal.specs.declared.violation.Violation.{Violation}
use Rattle.affc_legal.proofs.AnsweredLemmas.{none_shown}
use Rattle.affc_sched.proofs.LegalLemmas.{points_violate, violations_are_points, questions_decide, points_are_boxed}
use Rattle.affc_sched.proofs.Lists.{each_from}
use Rattle.affc_legal.proofs.RangeLemmas.{ranges_long}

-- ---- One pair of accesses

record IsPaired (nest : Nest) (a b : Entry) (q : Question) : Type 0 where
  first : q.first ≡ a.part
  second : q.second ≡ b.part
  columns : q.system.columns ≡ pair_columns nest a.part b.part
  ranges : q.ranges ≡ nest.params ++ (a.ranges ++ b.ranges)

paired : (nest : Nest) (schedule : Schedule) (a b : Entry) (x y : Access) (q : Question) → IsIn q (pair_questions nest a b schedule x y) → IsPaired nest a b q
paired nest schedule a b x y q i =
    let rows = pair_rows nest a b x y in
    let later = turned_systems nest a.part b.part schedule in
    let o = in_flat_map (λ earlier. map (question nest a b rows earlier) later) (source_systems nest a.part b.part) q i in
    let u = in_map (question nest a b rows o.0) later q o.2 in
    record {
      first = ap (λ (z : Question). z.first) u.2;
      second = ap (λ (z : Question). z.second) u.2;
      columns = ap (λ (z : Question). z.system.columns) u.2;
      ranges = ap (λ (z : Question). z.ranges) u.2;
    }

-- the questions by their systems
by_systems : (nest : Nest) (a b : Entry) (ranges : List (ℤ × ℤ)) (qs : List Question) → ranges ≡ nest.params ++ (a.ranges ++ b.ranges)
    → ((q : Question) → IsIn q qs → IsPaired nest a b q) → map (question_on a b ranges) (map (λ (q : Question). q.system) qs) ≡ qs
by_systems nest a b ranges [] e f = refl
by_systems nest a b ranges (q ∷ qs) e f =
    let s = f q (inl refl) in
    let r : ranges ≡ q.ranges = e ∙ sym s.ranges in
    let same : question_on a b ranges q.system ≡ q = λ i. record { first = sym s.first i; second = sym s.second i; system = q.system; ranges = r i } in
    ap (λ z. z ∷ map (question_on a b ranges) (map (λ (z : Question). z.system) qs)) same ∙ ap (λ zs. q ∷ zs) (by_systems nest a b ranges qs e (λ z i. f z (inr i)))

module _ (nest : Nest) (schedule : Schedule) (p : Pair) (systems : List Rows) (ranges : List (ℤ × ℤ)) (made : systems ≡ map (λ (q : Question). q.system) (asked_of nest schedule p))
    (are : ranges ≡ nest.params ++ (p.from.entry.now.ranges ++ p.to.entry.now.ranges)) where
  pub pair_answered : (old new : List Proof) (found : Option Violation) → AreAnswered nest (map (question_on p.from.entry.now p.to.entry.now ranges) systems) old new found
      → AreAnswered nest (asked_of nest schedule p) old new found
  pair_answered old new found =
      let a : Entry = p.from.entry.now in
      let b : Entry = p.to.entry.now in
      subst (λ qs. AreAnswered nest qs old new found)
      (ap (map (question_on a b ranges)) made ∙ by_systems nest a b ranges (asked_of nest schedule p) are (paired nest schedule a b p.from.access.now p.to.access.now))

  pub ranges_fit : IsNest nest → IsPair nest p → Each (λ (s : Rows). length ranges ≡ s.columns) systems
  ranges_fit n h =
      subst (Each (λ (s : Rows). length ranges ≡ s.columns)) (sym made)
      (each_from (λ (s : Rows). length ranges ≡ s.columns) (map (λ (q : Question). q.system) (asked_of nest schedule p)) (λ s i.
      let k = in_map (λ (q : Question). q.system) (asked_of nest schedule p) s i in
      ranges_long nest n p.from.entry.now p.to.entry.now h.from.there h.to.there h.from.alive h.to.alive ranges are
      ∙ sym (ap (λ (r : Rows). r.columns) k.2 ∙ (paired nest schedule p.from.entry.now p.to.entry.now p.from.access.now p.to.access.now k.0 k.1).columns)))

-- ---- All questions

are_proofs : (qs : List Question) (ps : List Proof) → AreShown qs ps → AreProofs qs ps
are_proofs [] [] h = tt
are_proofs [] (p ∷ ps) h = absurd h
are_proofs (q ∷ qs) [] h = absurd h
are_proofs (q ∷ qs) (p ∷ ps) h = (h.0.valid, are_proofs qs ps h.1)

pub settled_proofs : (qs : List Question) (old new : List Proof) → old ≡ [] → Settles qs old new → AreProofs qs new
settled_proofs qs old new e s = subst (AreProofs qs) (sym (s.grown ∙ ap (λ xs. xs ++ s.made) e)) (are_proofs qs s.made s.shown)

pub settled_legal : (nest : Nest) (schedule : Schedule) (old new : List Proof) → Settles (legality_questions nest schedule) old new → IsLegal nest schedule
settled_legal nest schedule old new s program k =
    (questions_decide program schedule k.has k.named k.fits).0 (subst (λ (z : Nest). NoneHasAPoint (legality_questions z schedule)) k.is
    (λ q i x is. none_shown (legality_questions nest schedule) s.made s.shown q i x
    (points_are_boxed program schedule q x k.has k.named k.fits (subst (λ (z : Nest). IsIn q (legality_questions z schedule)) k.is i) is) is))

module _ (program : Program) (schedule : Schedule) (has : HasNest program) (named : NamesArrays program) (fits : IsScheduleOf program schedule) where
  -- the spot of a dependence that is turned round is that of its point
  at_its_spot : (q : Question) (p : List ℤ) (a b : Instance) → q.first ≡ a.statement → q.second ≡ b.statement → IsViolation program schedule p a b
      → spot_at (nest_of program) q (p ++ (a.iterators ++ b.iterators)) ≡ spot_of p a b
  at_its_spot q p a b f g v =
      let n = nest_of program in
      let its : List ℤ = a.iterators ++ b.iterators in
      let l : length p ≡ length n.params = sym (box_length (number_ranges program.params) p (in_ranges program.params p v.context.ranges)) in
      let first_in = earlier_is_in (trace program p) a b v.violates.earlier in
      let second_in = later_is_in (trace program p) a b v.violates.earlier in
      let k : coordinates_of n q.first ≡ length a.iterators = ap (coordinates_of n) f ∙ as_many_loops program p a has first_in in
      let m : length (loops_of n q.second) ≡ length b.iterators = ap (λ s. length (loops_of n s)) g ∙ as_many_loops program p b has second_in in
      let first_of : statement_of n q.first ≡ a.statement = ap (statement_of n) f ∙ statement_is program p a has first_in in
      let second_of : statement_of n q.second ≡ b.statement = ap (statement_of n) g ∙ statement_is program p b has second_in in
      let front : take (length n.params) (p ++ its) ≡ p = ap (λ m. take m (p ++ its)) (sym l) ∙ take-append_seam p its in
      let back : drop (length n.params) (p ++ its) ≡ its = ap (λ m. drop m (p ++ its)) (sym l) ∙ drop-append_seam p its in
      let one : take (length (loops_of n q.first)) (drop (length n.params) (p ++ its)) ≡ a.iterators =
      ap (take (length (loops_of n q.first))) back ∙ ap (λ m. take m its) k ∙ take-append_seam a.iterators b.iterators in
      let rest : drop (coordinates_of n q.first) (drop (length n.params) (p ++ its)) ≡ b.iterators =
      ap (drop (coordinates_of n q.first)) back ∙ ap (λ m. drop m its) k ∙ drop-append_seam a.iterators b.iterators in
      let two : take (length (loops_of n q.second)) (drop (coordinates_of n q.first) (drop (length n.params) (p ++ its))) ≡ b.iterators =
      ap (take (length (loops_of n q.second))) rest ∙ take_all (length (loops_of n q.second)) b.iterators (omega (arith, m)) in
      λ i. spot_of (front i) (record { statement = first_of i; iterators = one i }) (record { statement = second_of i; iterators = two i })

  first_illegal : (found : Violation) → IsFirstOf (nest_of program) (legality_questions (nest_of program) schedule) found
      → (q : List ℤ) (c d : Instance) → IsViolation program schedule q c d → LexLe (spot_of found.p found.a found.b) (spot_of q c d)
  first_illegal found h q c d v =
      let n = nest_of program in
      let r = violations_are_points program schedule q c d has named fits v.context v.violates in
      let x : List ℤ = q ++ (c.iterators ++ d.iterators) in
      let inside = points_are_boxed program schedule r.question x has named fits r.asked r.point in
      subst (λ k. LexLe k (spot_of q c d)) h.key
      (subst (LexLe found.key) (at_its_spot r.question q c d r.first r.second v) (h.first r.question x r.asked inside r.point))

  is_violation : (found : Violation) → IsFirstOf (nest_of program) (legality_questions (nest_of program) schedule) found → IsViolation program schedule found.p found.a found.b
  is_violation found h =
      let n = nest_of program in
      let t = h.there in
      let v = points_violate program schedule t.question t.point has named fits t.asked t.meets in
      let w : IsViolation program schedule (parameters_at n t.question t.point) (first_at n t.question t.point) (second_at n t.question t.point) = record { context = v.0; violates = v.1 } in
      subst (λ p. IsViolation program schedule p found.a found.b) (sym t.p)
      (subst (λ a. IsViolation program schedule (parameters_at n t.question t.point) a found.b) (sym t.a)
      (subst (IsViolation program schedule (parameters_at n t.question t.point) (first_at n t.question t.point)) (sym t.b) w))

pub found_illegal : (nest : Nest) (schedule : Schedule) (found : Violation) → IsFirstOf nest (legality_questions nest schedule) found → IsFirstIllegal nest schedule found.p found.a found.b
found_illegal nest schedule found h program k =
    let f : IsFirstOf (nest_of program) (legality_questions (nest_of program) schedule) found = subst (λ (z : Nest). IsFirstOf z (legality_questions z schedule) found) k.is h in
    record { violation = is_violation program schedule k.has k.named k.fits found f; first = first_illegal program schedule k.has k.named k.fits found f }
