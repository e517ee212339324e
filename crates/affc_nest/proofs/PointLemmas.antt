-- The points of a domain are the instances at p of the context.
use Rattle.std.proofs.Common.{◌≡◌, ℕ, suc, ◌+◌, ℤ, pos, ◌≤ℤ◌, Bool, true, false, IsTrue, List, [], ◌∷◌, ◌++◌, length, get_or, Some, refl, sym, ap, subst, ◌∙◌, arith}
use Rattle.std.specs.Prelude.{◌&&◌, slice_get, int_le, int_lt, not, if◌then◌else◌}
use Rattle.std.proofs.lemmas.Option.{same_Some}
use Rattle.affc_rows.specs.Forms.{Affine, value}
use Rattle.affc_rows.proofs.VocabularyLemmas.{unit_width}
use Rattle.affc_system.specs.Systems.{Meets}
use Rattle.affc_system.specs.Boxes.{InBox}
use Rattle.affc_ast.specs.declared.tree.Compare.{Compare}
use Rattle.affc_ast.specs.declared.tree.Instance.{Instance}
use Rattle.affc_ast.specs.declared.tree.Ix.{Ix}
use Rattle.affc_ast.specs.declared.tree.Ix.TheVariants as c
use Rattle.affc_ast.specs.declared.tree.Ix.TheBlock.{more_of-Ix, end_of-Ix}
use Rattle.affc_ast.specs.declared.tree.Param.{Param}
use Rattle.affc_ast.specs.declared.tree.Param.TheVariants.{Number, Array}
use Rattle.affc_ast.specs.declared.tree.Program.{Program}
use Rattle.affc_ast.specs.Fits.{whole_of, within_ranges, meets, holds, all_hold}
use Rattle.affc_ast.specs.Joined.{is_ordered}
use Rattle.affc_ast.specs.Trace.{trace}
use Rattle.affc_trace.specs.Law.{IsIn}
use Rattle.affc_trace.specs.Laws.{IsInContext}
use Rattle.affc_trace.proofs.EndedReads.{append_assoc}
use Rattle.affc_trace.proofs.Runs.{length_append}
use Rattle.affc_domain.specs.Affine.{linear, is_affine}
use Rattle.affc_domain.specs.Plain.{is_plain, plain_tests, IsPlain}
use Rattle.affc_domain.specs.Ranges.{number_ranges, Ranges, Within, Never, Wide, outermost, is_near, range_of, entered, ranges_of, AreWithin}
use Rattle.affc_domain.specs.Rounds.{Round, Loop, Test, rounds, turns, loops_in}
use Rattle.affc_domain.proofs.ConditionLemmas.{conditions_are_joined}
use Rattle.affc_domain.proofs.CountLemmas.{turns_long}
use Rattle.affc_domain.proofs.FormLemmas.{column_value, number_value, number_width}
use Rattle.affc_domain.proofs.Lists.{both_true, true_both, le_true, length_push, at_seam}
use Rattle.affc_domain.proofs.PlainLemmas.{is_plain_affine, rounds_are_plain}
use Rattle.affc_domain.proofs.RangeLemmas.{box_length, in_ranges, context_holds, iterators_keep_ranges}
use Rattle.affc_domain.proofs.TurnLemmas.{instances_turn}
use Rattle.affc_nest.specs.Domains.{gap_row, test_rows, bounds_of, column_form, number_form, range_rows, box_rows, loop_rows, condition_rows, domain_rows}
use Rattle.affc_nest.proofs.DomainLemmas.{Met, met_append, met_both, no_gap_up, no_gap_down, hold_tests, tests_hold, turns_met, met_turns, bound_rows, inner, outer}

-- ---- Boxes

-- a column within its range
pub range_met : (zs : List ℤ) (j : ℕ) (r : ℤ × ℤ) (x : ℤ) → get_or zs j (pos 0) ≡ x → r.0 ≤ℤ x → x ≤ℤ r.1 → Met zs (range_rows (length zs) j r)
range_met zs j r x e l h =
    let c = column_form (length zs) j in
    let lo = number_form (length zs) r.0 in
    let hi = number_form (length zs) r.1 in
    let v : value c zs ≡ x = column_value zs j ∙ e in (
      no_gap_up lo c zs (number_width (length zs) r.0) (unit_width (length zs) j) lo c (number_width (length zs) r.0) (unit_width (length zs) j)
          (subst (λ z. z ≤ℤ value c zs) (sym (number_value (length zs) r.0 zs)) (subst (λ z. r.0 ≤ℤ z) (sym v) l)),
      (
        no_gap_up c hi zs (unit_width (length zs) j) (number_width (length zs) r.1) c hi (unit_width (length zs) j) (number_width (length zs) r.1)
            (subst (λ z. value c zs ≤ℤ z) (sym (number_value (length zs) r.1 zs)) (subst (λ z. z ≤ℤ r.1) (sym v) h)),
        tt,
      ),
    )

-- the first columns in a box
pub box_met : (ranges : List (ℤ × ℤ)) (front p its : List ℤ) → InBox ranges p → Met (front ++ (p ++ its)) (box_rows (length (front ++ (p ++ its))) (length front) ranges)
box_met [] front [] its b = tt
box_met [] front (x ∷ p) its b = absurd b
box_met (r ∷ ranges) front [] its b = absurd b
box_met (r ∷ ranges) front (x ∷ p) its b =
    let zs = front ++ (x ∷ (p ++ its)) in
    met_append zs (range_rows (length zs) (length front) r) (box_rows (length zs) (suc (length front)) ranges)
    (range_met zs (length front) r x (at_seam front x (p ++ its)) b.0 b.1)
    (subst (λ k. Met zs (box_rows (length zs) k ranges)) (length_push front x)
    (subst (λ ys. Met ys (box_rows (length ys) (length (front ++ x ∷ [])) ranges)) (append_assoc front (x ∷ []) (p ++ its))
    (box_met ranges (front ++ x ∷ []) p its b.2)))

pub at_most : (a b : Affine) (xs : List ℤ) → length a.coefs ≡ length xs → length b.coefs ≡ length xs → Meets xs (gap_row a b 0) → value a xs ≤ℤ value b xs
at_most a b xs u w m = no_gap_down a b xs u w a b u w m

pub range_says : (zs : List ℤ) (j : ℕ) (r : ℤ × ℤ) → Met zs (range_rows (length zs) j r) → (r.0 ≤ℤ get_or zs j (pos 0)) × (get_or zs j (pos 0) ≤ℤ r.1)
range_says zs j r m =
    let x : Affine = column_form (length zs) j in
    let lo : Affine = number_form (length zs) r.0 in
    let hi : Affine = number_form (length zs) r.1 in
    let low = at_most lo x zs (number_width (length zs) r.0) (unit_width (length zs) j) m.0 in
    let high = at_most x hi zs (unit_width (length zs) j) (number_width (length zs) r.1) m.1.0 in (
      subst (λ z. z ≤ℤ get_or zs j (pos 0)) (number_value (length zs) r.0 zs) (subst (λ z. value lo zs ≤ℤ z) (column_value zs j) low),
      subst (λ z. get_or zs j (pos 0) ≤ℤ z) (number_value (length zs) r.1 zs) (subst (λ z. z ≤ℤ value hi zs) (column_value zs j) high),
    )

pub met_box : (ranges : List (ℤ × ℤ)) (front p its : List ℤ) → length p ≡ length ranges → Met (front ++ (p ++ its)) (box_rows (length (front ++ (p ++ its))) (length front) ranges) → InBox ranges p
met_box [] front [] its l m = tt
met_box [] front (x ∷ p) its l m = absurd (omega arith)
met_box (r ∷ ranges) front [] its l m = absurd (omega arith)
met_box (r ∷ ranges) front (x ∷ p) its l m =
    let zs : List ℤ = front ++ (x ∷ (p ++ its)) in
    let a = met_both zs (range_rows (length zs) (length front) r) (box_rows (length zs) (suc (length front)) ranges) m in
    let here = range_says zs (length front) r a.0 in
    let seam : get_or zs (length front) (pos 0) ≡ x = at_seam front x (p ++ its) in (
      subst (λ z. r.0 ≤ℤ z) seam here.0,
      subst (λ z. z ≤ℤ r.1) seam here.1,
      met_box ranges (front ++ x ∷ []) p its (omega arith)
          (subst (λ ys. Met ys (box_rows (length ys) (length (front ++ x ∷ [])) ranges)) (sym (append_assoc front (x ∷ []) (p ++ its)))
          (subst (λ k. Met zs (box_rows (length zs) k ranges)) (sym (length_push front x)) a.1)),
    )

pub ranges_hold : (ps : List Param) (p : List ℤ) → InBox (number_ranges ps) p → IsTrue (within_ranges ps p)
ranges_hold [] [] b = refl
ranges_hold [] (x ∷ p) b = absurd b
ranges_hold (Number name low high ∷ ps) [] b = absurd b
ranges_hold (Number name low high ∷ ps) (x ∷ p) b = true_both (int_le low x && int_le x high) (within_ranges ps p) (true_both (int_le low x) (int_le x high) (le_true low x b.0) (le_true x high b.1)) (ranges_hold ps p b.2)
ranges_hold (Array decl ∷ ps) xs b = ranges_hold ps xs b

pub defined : (e : Ix) (p : List ℤ) → IsTrue (is_affine e) → (whole_of e p).defined ≡ true
defined (c.Lit k) p a = refl
defined (c.Name x) p a = refl
defined (c.Neg' t (more_of-Ix d end_of-Ix)) p a = defined d p a
defined (c.Add' t (more_of-Ix d end_of-Ix) u (more_of-Ix e end_of-Ix)) p a = let h = both_true (linear 0 0 d).affine (linear 0 0 e).affine a in true_both (whole_of d p).defined (whole_of e p).defined (defined d p h.0) (defined e p h.1)
defined (c.Sub' t (more_of-Ix d end_of-Ix) u (more_of-Ix e end_of-Ix)) p a = let h = both_true (linear 0 0 d).affine (linear 0 0 e).affine a in true_both (whole_of d p).defined (whole_of e p).defined (defined d p h.0) (defined e p h.1)
defined (c.Mul' t (more_of-Ix d end_of-Ix) u (more_of-Ix e end_of-Ix)) p a =
    let g = both_true ((linear 0 0 d).affine && (linear 0 0 e).affine) _ a in
    let h = both_true (linear 0 0 d).affine (linear 0 0 e).affine g.0 in true_both (whole_of d p).defined (whole_of e p).defined (defined d p h.0) (defined e p h.1)
defined (c.Min' t (more_of-Ix d end_of-Ix) u (more_of-Ix e end_of-Ix)) p a = absurd (cc)
defined (c.Max' t (more_of-Ix d end_of-Ix) u (more_of-Ix e end_of-Ix)) p a = absurd (cc)
defined (c.Floord' t (more_of-Ix d end_of-Ix) k) p a = absurd (cc)
defined (c.Ceild' t (more_of-Ix d end_of-Ix) k) p a = absurd (cc)
defined (c.Mod' t (more_of-Ix d end_of-Ix) u (more_of-Ix e end_of-Ix)) p a = absurd (cc)

pub context_meets : (seen : ℕ) (cs : List Compare) (p : List ℤ) → IsTrue (plain_tests seen cs) → IsTrue (all_hold cs p) → IsTrue (meets cs p)
context_meets seen [] p a h = refl
context_meets seen (d ∷ cs) p a h =
    let b = both_true (holds d p) (all_hold cs p) h in
    let l = both_true (is_plain seen d.left) _ a in
    let r = both_true (is_plain seen d.right) _ l.1 in
    let o = both_true (is_ordered d.rel) (plain_tests seen cs) r.1 in
    true_both ((whole_of d.left p).defined && (whole_of d.right p).defined && holds d p) (meets cs p)
    (true_both ((whole_of d.left p).defined && (whole_of d.right p).defined) (holds d p)
    (true_both (whole_of d.left p).defined (whole_of d.right p).defined (defined d.left p (is_plain_affine seen d.left l.0)) (defined d.right p (is_plain_affine seen d.right r.0))) b.0)
    (context_meets seen cs p o.1 b.1)

-- ---- Loops

-- the loops' rows with their ranges, from those without
loops_met : (rs : List Round) (boxes : List (ℤ × ℤ)) (names xs : List ℤ) → length xs ≡ loops_in rs → InBox boxes xs → Met (names ++ xs) (bound_rows (length names) rs) → Met (names ++ xs) (loop_rows (length names) boxes rs)
loops_met [] boxes names xs e b m = tt
loops_met (Loop iter low rel high ∷ rs) [] names xs e b m = tt
loops_met (Loop iter low rel high ∷ rs) (r ∷ boxes) names [] e b m = absurd b
loops_met (Loop iter low rel high ∷ rs) (r ∷ boxes) names (x ∷ xs) e b m =
    let zs : List ℤ = names ++ x ∷ xs in
    let k = suc (loops_in rs) in
    let e' : length xs ≡ loops_in rs = omega (arith, e) in
    let w : length zs ≡ length names + k = length_append names (x ∷ xs) ∙ ap (λ i. length names + i) e in
    let front = bounds_of (length names) low rel high k in
    let a = met_both zs front (bound_rows (suc (length names)) rs) m in
    let here : Met zs (range_rows (length names + k) (length names) r) = subst (λ n. Met zs (range_rows n (length names) r)) w (range_met zs (length names) r x (at_seam names x xs) b.0 b.1) in
    let rest : Met zs (loop_rows (suc (length names)) boxes rs) =
    inner names x xs (λ n. loop_rows n boxes rs) (loops_met rs boxes (names ++ x ∷ []) xs e' b.2 (outer names x xs (λ n. bound_rows n rs) a.1)) in
    met_append zs front (range_rows (length names + k) (length names) r ++ loop_rows (suc (length names)) boxes rs) a.0
    (met_append zs (range_rows (length names + k) (length names) r) (loop_rows (suc (length names)) boxes rs) here rest)
loops_met (Test cond ∷ rs) boxes names xs e b m = loops_met rs boxes names xs e b m

-- and the other way round, where each loop has a range
met_loops : (rs : List Round) (boxes : List (ℤ × ℤ)) (names xs : List ℤ) → length xs ≡ loops_in rs → length boxes ≡ loops_in rs → Met (names ++ xs) (loop_rows (length names) boxes rs) → Met (names ++ xs) (bound_rows (length names) rs)
met_loops [] boxes names xs e g m = tt
met_loops (Loop iter low rel high ∷ rs) [] names xs e g m = absurd (omega arith)
met_loops (Loop iter low rel high ∷ rs) (r ∷ boxes) names [] e g m = absurd (omega arith)
met_loops (Loop iter low rel high ∷ rs) (r ∷ boxes) names (x ∷ xs) e g m =
    let zs : List ℤ = names ++ x ∷ xs in
    let k = suc (loops_in rs) in
    let e' : length xs ≡ loops_in rs = omega (arith, e) in
    let g' : length boxes ≡ loops_in rs = omega (arith, g) in
    let front = bounds_of (length names) low rel high k in
    let a = met_both zs front (range_rows (length names + k) (length names) r ++ loop_rows (suc (length names)) boxes rs) m in
    let b = met_both zs (range_rows (length names + k) (length names) r) (loop_rows (suc (length names)) boxes rs) a.1 in
    met_append zs front (bound_rows (suc (length names)) rs) a.0
    (inner names x xs (λ n. bound_rows n rs) (met_loops rs boxes (names ++ x ∷ []) xs e' g' (outer names x xs (λ n. loop_rows n boxes rs) b.1)))
met_loops (Test cond ∷ rs) boxes names xs e g m = met_loops rs boxes names xs e g m

-- what each list of ranges is
pub of_entered : (r : ℤ × ℤ) (inside : Ranges) (boxes : List (ℤ × ℤ)) → entered r inside ≡ Within boxes → (others : List (ℤ × ℤ)) × (boxes ≡ r ∷ others) × (inside ≡ Within others)
of_entered r inside boxes e = chosen (int_lt r.1 r.0) (not (is_near r.0 && is_near r.1)) inside e
  where
    out : (inside : Ranges) → outermost r inside ≡ Within boxes → (others : List (ℤ × ℤ)) × (boxes ≡ r ∷ others) × (inside ≡ Within others)
    out (Within rs) e = (rs, cc, refl)
    out Never e = absurd (cc)
    out (Wide n) e = absurd (cc)

    chosen : (t u : Bool) (inside : Ranges) → (if t then Never else (if u then Wide 0 else outermost r inside)) ≡ Within boxes → (others : List (ℤ × ℤ)) × (boxes ≡ r ∷ others) × (inside ≡ Within others)
    chosen true u inside e = absurd (cc)
    chosen false true inside e = absurd (cc)
    chosen false false inside e = out inside e

of_ranges : (rs : List Round) (ranges boxes : List (ℤ × ℤ)) → ranges_of ranges rs ≡ Within boxes → length boxes ≡ loops_in rs
of_ranges [] ranges [] e = refl
of_ranges [] ranges (r ∷ boxes) e = absurd (cc)
of_ranges (Loop iter low rel high ∷ rs) ranges boxes e =
    let r = range_of ranges low rel high in
    let o = of_entered r (ranges_of (ranges ++ r ∷ []) rs) boxes e in
    let h = of_ranges rs (ranges ++ r ∷ []) o.0 o.2 in
    ap length o.1 ∙ ap suc h
of_ranges (Test cond ∷ rs) ranges boxes e = of_ranges rs ranges boxes e

-- a list of ranges has one for each loop
pub ranges_long : (rs : List Round) (ranges boxes : List (ℤ × ℤ)) → ranges_of ranges rs ≡ Within boxes → length boxes ≡ loops_in rs
ranges_long = of_ranges

-- ---- The context

-- the rows of the parameters and the context, over these and so many columns more
pub context_met : (program : Program) (p its : List ℤ) → IsPlain program → IsInContext program p
    → Met (p ++ its) (box_rows (length (number_ranges program.params) + length its) 0 (number_ranges program.params)) × Met (p ++ its) (test_rows (length (number_ranges program.params)) (length its) program.context)
context_met program p its plain inside =
    let params = number_ranges program.params in
    let box : InBox params p = in_ranges program.params p inside.ranges in
    let m : length params ≡ length p = box_length params p box in
    let long : length (p ++ its) ≡ length params + length its = length_append p its ∙ ap (λ n. n + length its) (sym m) in (
      subst (λ n. Met (p ++ its) (box_rows n 0 params)) long (box_met params [] p its box),
      subst (λ n. Met (p ++ its) (test_rows n (length its) program.context)) (sym m) (hold_tests p its (length params) program.context plain.context (context_holds program.context p inside.context)),
    )

pub met_context : (program : Program) (p its : List ℤ) → IsPlain program → length p ≡ length (number_ranges program.params)
    → Met (p ++ its) (box_rows (length (number_ranges program.params) + length its) 0 (number_ranges program.params)) → Met (p ++ its) (test_rows (length (number_ranges program.params)) (length its) program.context)
    → IsInContext program p
met_context program p its plain l ranges context =
    let params = number_ranges program.params in
    let long : length (p ++ its) ≡ length params + length its = length_append p its ∙ ap (λ n. n + length its) l in
    let box : InBox params p = met_box params [] p its l (subst (λ n. Met (p ++ its) (box_rows n 0 params)) (sym long) ranges) in
    let all : IsTrue (all_hold program.context p) = tests_hold p its (length params) program.context plain.context (subst (λ n. Met (p ++ its) (test_rows n (length its) program.context)) (sym l) context) in
    record { ranges = ranges_hold program.params p box; context = context_meets (length params) program.context p plain.context all }

-- ---- Domains

module _ (program : Program) (p : List ℤ) (b : Instance) (rs : List Round) (boxes : List (ℤ × ℤ)) (plain : IsPlain program)
    (at : slice_get (rounds program) b.statement ≡ Some rs) (within : ranges_of (number_ranges program.params) rs ≡ Within boxes) where
  pub instance_met : IsInContext program p → IsIn b (trace program p) → (length b.iterators ≡ loops_in rs) × Met (p ++ b.iterators) (domain_rows (number_ranges program.params) program.context boxes rs)
  instance_met inside i =
      let ps = number_ranges program.params in
      let n = loops_in rs in
      let zs : List ℤ = p ++ b.iterators in
      let t = (instances_turn program p b).0 i in
      let same : t.0 ≡ rs = same_Some t.0 rs (sym t.1 ∙ at) in
      let its_turns : IsTrue (turns rs p b.iterators) = subst (λ q. IsTrue (turns q p b.iterators)) same t.2 in
      let e : length b.iterators ≡ n = turns_long rs p b.iterators its_turns in
      let m : length ps ≡ length p = box_length ps p (in_ranges program.params p inside.ranges) in
      let w : InBox boxes b.iterators = subst (λ q. AreWithin q b.iterators) within (iterators_keep_ranges program p b rs plain inside.ranges i at) in
      let r = turns_met (length ps) 0 0 rs p b.iterators (rounds_are_plain program plain b.statement rs at) (conditions_are_joined program plain.tests b.statement rs at) its_turns in
      let c = context_met program p b.iterators plain inside in
      let one : Met zs (box_rows (length ps + n) 0 ps) = subst (λ k. Met zs (box_rows (length ps + k) 0 ps)) e c.0 in
      let two : Met zs (test_rows (length ps) n program.context) = subst (λ k. Met zs (test_rows (length ps) k program.context)) e c.1 in
      let three : Met zs (loop_rows (length ps) boxes rs) = subst (λ k. Met zs (loop_rows k boxes rs)) (sym m) (loops_met rs boxes p b.iterators e w r.0) in
      let four : Met zs (condition_rows (length ps) rs) = subst (λ k. Met zs (condition_rows k rs)) (sym m) r.1 in
      (e, met_append zs (box_rows (length ps + n) 0 ps) _ one (met_append zs (test_rows (length ps) n program.context) _ two (met_append zs (loop_rows (length ps) boxes rs) (condition_rows (length ps) rs) three four)))

  pub met_instance : length p ≡ length (number_ranges program.params) → length b.iterators ≡ loops_in rs → Met (p ++ b.iterators) (domain_rows (number_ranges program.params) program.context boxes rs)
      → IsInContext program p × IsIn b (trace program p)
  met_instance l e d =
      let ps = number_ranges program.params in
      let n = loops_in rs in
      let zs : List ℤ = p ++ b.iterators in
      let u = met_both zs (box_rows (length ps + n) 0 ps) _ d in
      let v = met_both zs (test_rows (length ps) n program.context) _ u.1 in
      let w = met_both zs (loop_rows (length ps) boxes rs) (condition_rows (length ps) rs) v.1 in
      let inside = met_context program p b.iterators plain l (subst (λ k. Met zs (box_rows (length ps + k) 0 ps)) (sym e) u.0) (subst (λ k. Met zs (test_rows (length ps) k program.context)) (sym e) v.0) in
      let loops : Met zs (bound_rows (length p) rs) = met_loops rs boxes p b.iterators e (ranges_long rs ps boxes within) (subst (λ k. Met zs (loop_rows k boxes rs)) (sym l) w.0) in
      let tests : Met zs (condition_rows (length p) rs) = subst (λ k. Met zs (condition_rows k rs)) (sym l) w.1 in
      (inside, (instances_turn program p b).1 (rs, at, met_turns (length ps) 0 0 rs p b.iterators (rounds_are_plain program plain b.statement rs at) (conditions_are_joined program plain.tests b.statement rs at) e loops tests))
