-- The places of a plain program, and what the interval rule says of them.
use Rattle.std.proofs.Common.{◌≡◌, ℕ, suc, ◌+◌, ◌≤◌, ◌^◌, ℤ, true, IsTrue, List, [], ◌∷◌, ◌++◌, length, Option, Some, None, refl, sym, ap, subst, ◌∙◌, inl, inr, arith}
use Rattle.std.specs.Prelude.{◌&&◌, int_le, nat_le, nat_abs, nat_lt, unsigned_abs, slice_get}
use Rattle.std.proofs.lemmas.Bool.{leb-true}
use Rattle.affc_ast.specs.declared.tree.Compare.{Compare}
use Rattle.affc_ast.specs.declared.tree.Program.{Program}
use Rattle.affc_ast.specs.Pieces.{comparisons_of}
use Rattle.affc_ast.specs.Trace.{Assignment, assignments}
use Rattle.affc_trace.specs.Law.{IsIn}
use Rattle.affc_domain.specs.Accesses.{accesses_of}
use Rattle.affc_domain.specs.Loops.{loop_numbers}
use Rattle.affc_domain.specs.Plain.{IsPlain, is_plain, plain_cond, is_upward, plain_range, plain_ranges}
use Rattle.affc_domain.specs.Ranges.{Ranges, Within, Never, Wide, is_near, number_ranges, ranges_of, first_wide_of, first_wide}
use Rattle.affc_domain.specs.Rounds.{Round, Loop, Test, rounds, loops_in, comparisons_in}
use Rattle.affc_domain.proofs.Lists.{both_true, true_both, length_map}
use Rattle.affc_domain.proofs.PlainLemmas.{plain_rounds, few_loops, few_comparisons, assignments_are_plain}
use Rattle.affc_domain.proofs.PlainLemmas as lemma
use Rattle.affc_nest.specs.declared.nest.Entry.{Entry}
use Rattle.affc_nest.specs.declared.sites.Site.{Site}
use Rattle.affc_nest.specs.Entries.{IsPlainPlace, ArePlainPlaces, entries_at, first_there, first_wide_at}
use Rattle.affc_nest.specs.Frames.{plain_at}
use Rattle.affc_nest.specs.Nests.{entries_of}
use Rattle.affc_nest.specs.Sides.{NearRanges}
use Rattle.affc_nest.specs.Sites.{Place, place, places, places_of, all_around, all_numbers, all_assigned}
use Rattle.affc_nest.specs.Touches.{AllPlain}
use Rattle.affc_nest.proofs.AccessLemmas.{plain_accesses}
use Rattle.affc_nest.proofs.EntryLemmas.{near_ranges}
use Rattle.affc_nest.proofs.IntervalLemmas.{close_range}
use Rattle.affc_nest.proofs.PlaceLemmas.{rounds_walked, numbers_walked, assignments_walked}

-- ---- Ranges

pub near_numbers : (rs : List (ℤ × ℤ)) → IsTrue (plain_ranges rs) → NearRanges rs
near_numbers [] h = tt
near_numbers (r ∷ rs) h =
    let a = both_true (plain_range r) (plain_ranges rs) h in
    let b = both_true (int_le r.0 r.1) (nat_le (nat_abs r.0) (2 ^ 24) && nat_le (nat_abs r.1) (2 ^ 24)) a.0 in
    let d = both_true (nat_le (nat_abs r.0) (2 ^ 24)) (nat_le (nat_abs r.1) (2 ^ 24)) b.1 in
    (near r.0 d.0, near r.1 d.1, near_numbers rs a.1)
  where
    near : (z : ℤ) → nat_le (nat_abs z) (2 ^ 24) ≡ true → unsigned_abs z ≤ 2 ^ 32
    near z e = let l : unsigned_abs z ≤ 2 ^ 24 = leb-true (nat_abs z) (2 ^ 24) e in omega arith

all_near : (rs : List (ℤ × ℤ)) → ((r : ℤ × ℤ) → IsIn r rs → IsTrue (is_near r.0 && is_near r.1)) → NearRanges rs
all_near [] f = tt
all_near (r ∷ rs) f = let a = close_range r (f r (inl refl)) in (a.0, a.1, all_near rs (λ q i. f q (inr i)))

pub near_within : (outer boxes : List (ℤ × ℤ)) (rs : List Round) → ranges_of outer rs ≡ Within boxes → NearRanges boxes
near_within outer boxes rs e = all_near boxes (λ r i. (near_ranges rs outer boxes e r i).1)

-- ---- What stands round

plain_here : (params loops comparisons names : ℕ) (rs : List Round) → names ≡ params + loops → IsTrue (plain_rounds params loops comparisons rs) → IsTrue (plain_at names rs)
plain_here params loops comparisons names [] e h = refl
plain_here params loops comparisons names (Loop iter low rel high ∷ rs) e h =
    let a = both_true (nat_lt loops 6) _ h in
    let b = both_true (is_upward rel) _ a.1 in
    let c = both_true (is_plain (params + loops) low) _ b.1 in
    let d = both_true (is_plain (params + loops) high) (plain_rounds params (suc loops) comparisons rs) c.1 in
    let rest : IsTrue (plain_at (suc names) rs) = plain_here params (suc loops) comparisons (suc names) rs (deeper names params loops e) d.1 in
    true_both (is_plain names low) (is_plain names high && plain_at (suc names) rs) (subst (λ n. IsTrue (is_plain n low)) (sym e) c.0)
    (true_both (is_plain names high) (plain_at (suc names) rs) (subst (λ n. IsTrue (is_plain n high)) (sym e) d.0) rest)
  where
    deeper : (n m k : ℕ) → n ≡ m + k → suc n ≡ m + suc k
    deeper n m k e = omega (arith, e)
plain_here params loops comparisons names (Test cond ∷ rs) e h =
    let a = both_true (plain_cond (params + loops) cond) (plain_rounds params loops (comparisons + comparisons_of cond) rs) h in
    true_both (plain_cond names cond) (plain_at names rs) (subst (λ n. IsTrue (plain_cond n cond)) (sym e) a.0) (plain_here params loops (comparisons + comparisons_of cond) names rs e a.1)

pub plain_place : (params : ℕ) (p : Place) → lemma.PlainThere params 0 0 p.around p.assignment → IsPlainPlace params p
plain_place params p h = record {
  rounds = plain_here params 0 0 params p.around (none_more params) h.0;
  few_loops = let l : 0 + loops_in p.around ≤ 6 = few_loops params 0 0 p.around (omega arith) h.0 in omega arith;
  few_comparisons = let l : 0 + comparisons_in p.around ≤ 32 = few_comparisons params 0 0 p.around h.0 in omega arith;
  accesses = subst (λ n. AllPlain (params + n) (accesses_of p.assignment)) (none_before (loops_in p.around)) (plain_accesses (params + (0 + loops_in p.around)) p.assignment h.1);
}
  where
    none_more : (n : ℕ) → n ≡ n + 0
    none_more n = omega arith

    none_before : (n : ℕ) → 0 + n ≡ n
    none_before n = omega arith

plain_each : (params : ℕ) (ps : List Place)
    → ((n : ℕ) (rs : List Round) (a : Assignment) → slice_get (all_around ps) n ≡ Some rs → slice_get (all_assigned ps) n ≡ Some a → lemma.PlainThere params 0 0 rs a) → ArePlainPlaces params ps
plain_each params [] f = tt
plain_each params (p ∷ ps) f = (plain_place params p (f 0 p.around p.assignment refl refl), plain_each params ps (λ n. f (suc n)))

pub plain_places : (program : Program) → IsPlain program → ArePlainPlaces (length (number_ranges program.params)) (places_of program)
plain_places program plain =
    plain_each (length (number_ranges program.params)) (places_of program)
    (λ n rs a e f. assignments_are_plain program plain n rs a (ap (λ rss. slice_get rss n) (sym (rounds_walked program)) ∙ e) (ap (λ as'. slice_get as' n) (sym (assignments_walked program)) ∙ f))

-- ---- Wide loops

pub none_wide : (outer boxes : List (ℤ × ℤ)) (statement : ℕ) (rs : List Round) → ranges_of outer rs ≡ Within boxes → None ≡ first_wide_of outer statement (rs ∷ [])
none_wide outer boxes statement rs e = rw e refl

pub never_wide : (outer : List (ℤ × ℤ)) (statement : ℕ) (rs : List Round) → ranges_of outer rs ≡ Never → None ≡ first_wide_of outer statement (rs ∷ [])
never_wide outer statement rs e = rw e refl

pub one_wide : (outer : List (ℤ × ℤ)) (statement loop k : ℕ) (rs : List Round) → ranges_of outer rs ≡ Wide k → loop ≡ 0 + k → Some (statement, loop) ≡ first_wide_of outer statement (rs ∷ [])
one_wide outer statement loop k rs e l = let n : loop ≡ k = omega arith in rw e (ap (λ m. Some (statement, m)) n)

-- that of the first place, if there is one, or else of those behind it
pub first_wide_there : (outer : List (ℤ × ℤ)) (statement next : ℕ) (p : Place) (ps all : List Place) (first other : Option (ℕ × ℕ)) → all ≡ p ∷ ps → next ≡ statement + 1
    → first ≡ first_wide_of outer statement (p.around ∷ []) → other ≡ first_wide_at outer next ps → first_there first other ≡ first_wide_at outer statement all
first_wide_there outer statement next p ps all first other is l e f =
    let n : next ≡ suc statement = omega arith in
    ap (λ o. first_there o other) e ∙ ap (first_there (first_wide_of outer statement (p.around ∷ []))) (f ∙ ap (λ m. first_wide_at outer m ps) n) ∙ by (ranges_of outer p.around) refl ∙ ap (first_wide_at outer statement) (sym is)
  where
    by : (r : Ranges) → ranges_of outer p.around ≡ r → first_there (first_wide_of outer statement (p.around ∷ [])) (first_wide_at outer (suc statement) ps) ≡ first_wide_at outer statement (p ∷ ps)
    by (Within boxes) e = rw e refl
    by Never e = rw e refl
    by (Wide k) e = rw e refl

-- ---- A walk's sites

pub near_params : (params : List (ℤ × ℤ)) (program : Program) → params ≡ number_ranges program.params → IsPlain program → NearRanges params
near_params params program e plain = subst NearRanges (sym e) (near_numbers (number_ranges program.params) plain.ranges)

pub plain_sites : (params : List (ℤ × ℤ)) (program : Program) (ps : List Place) → params ≡ number_ranges program.params → IsPlain program → ps ≡ places_of program → ArePlainPlaces (length params) ps
plain_sites params program ps e plain f =
    subst (ArePlainPlaces (length params)) (sym f) (subst (λ (rs : List (ℤ × ℤ)). ArePlainPlaces (length rs) (places_of program)) (sym e) (plain_places program plain))

pub few_sites : (sites : List Site) (program : Program) → IsPlain program → places sites ≡ places_of program → 0 + length sites ≤ 64
few_sites sites program plain e =
    let a : length sites ≡ length (assignments program) =
    sym (length_map place sites) ∙ ap length e ∙ sym (length_map (λ (p : Place). p.assignment) (places_of program)) ∙ ap length (assignments_walked program) in
    let l : length (assignments program) ≤ 64 = plain.few_assignments in
    omega arith

pub entries_made : (params : List (ℤ × ℤ)) (cs context : List Compare) (program : Program) (ps : List Place) (out old : List Entry)
    → out ≡ old ++ entries_at params cs 0 ps → old ≡ [] → cs ≡ context → ps ≡ places_of program
    → out ≡ entries_of params context 0 (rounds program) (loop_numbers program) (assignments program)
entries_made params cs context program ps out old e f g h =
    e ∙ ap (λ es. es ++ entries_at params cs 0 ps) f ∙ ap (λ ds. entries_at params ds 0 ps) g ∙ ap (entries_at params context 0) h
    ∙ ap (λ rss. entries_of params context 0 rss (all_numbers (places_of program)) (all_assigned (places_of program))) (rounds_walked program)
    ∙ ap (λ lss. entries_of params context 0 (rounds program) lss (all_assigned (places_of program))) (numbers_walked program)
    ∙ ap (entries_of params context 0 (rounds program) (loop_numbers program)) (assignments_walked program)

pub wide_there : (params : List (ℤ × ℤ)) (program : Program) (ps : List Place) → params ≡ number_ranges program.params → ps ≡ places_of program → first_wide_at params 0 ps ≡ first_wide program
wide_there params program ps e f =
    ap (λ rs. first_wide_at rs 0 ps) e ∙ ap (first_wide_at (number_ranges program.params) 0) f ∙ ap (first_wide_of (number_ranges program.params) 0) (rounds_walked program)
