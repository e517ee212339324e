-- Safe programs run to their end.
use Rattle.std.proofs.Common.{◌≡◌, ℕ, zero, suc, ◌+◌, ◌<◌, ◌≤◌, ℤ, pos, ◌≤ℤ◌, T, Bool, true, false, true≢false, if◌then◌else◌, int_lt, IsTrue, List, [], ◌∷◌, ◌++◌, length, get_or, map, sum_by, Some, Ok, Err, refl, sym, ap, subst, ◌∙◌, ◌⊎◌, inl, inr, arith}
use Rattle.std.specs.Prelude.{slice_get, is_some, nat_le}
use Rattle.std.proofs.lemmas.Int.{ints}
use Rattle.affc_ast.specs.declared.tree.Decl.{Decl}
use Rattle.affc_ast.specs.declared.tree.Instance.{Instance}
use Rattle.affc_ast.specs.declared.tree.Ix.{Ix}
use Rattle.affc_ast.specs.declared.tree.Program.{Program}
use Rattle.affc_ast.specs.Cause.{Cause, Extent, Overflow, OutOfBounds, Unwritten}
use Rattle.affc_ast.specs.Fits.{Fits, whole, within_ranges, lies_in, has_element}
use Rattle.affc_ast.specs.Index.{index_value, nodes_of_ix}
use Rattle.affc_ast.specs.Meaning.{State, Outcome, Ended, Stuck, arrays_of, extents_of, all_extents, meaning}
use Rattle.affc_ast.specs.Store.{Element, Store, at}
use Rattle.affc_ast.specs.Trace.{assignments, trace}
use Rattle.affc_ast.specs.Values.{is_within}
use Rattle.affc_trace.specs.Law.{IsIn, stores_of, last_store}
use Rattle.affc_trace.specs.Laws.{IsUnwritten}
use Rattle.affc_trace.specs.Orders.{AreDistinct}
use Rattle.affc_trace.specs.Effects.{effect, has_no_locals}
use Rattle.affc_trace.specs.Dataflow.{same_element, up_to}
use Rattle.affc_trace.proofs.EffectRuns.{ends}
use Rattle.affc_trace.proofs.LastStores.{append_nil, map_append}
use Rattle.affc_trace.proofs.Members.{both_hold, to_first, to_second, up_to_split}
use Rattle.affc_trace.proofs.Once.{once}
use Rattle.affc_trace.proofs.Runs.{PartsAt}
use Rattle.affc_trace.proofs.TraceEffects.{trace_effects}
use Rattle.affc_trace.proofs.Unwritten.{IsOther}
use Rattle.affc_domain.specs.Arrays.{declared_arrays, extents_at}
use Rattle.affc_domain.specs.Ranges.{number_ranges}
use Rattle.affc_domain.proofs.Lists.{true_lt}
use Rattle.affc_safe.specs.Laws.{SafeRuns, StuckForAValue}
use Rattle.affc_safe.specs.Overflow.{near_ranges, AreReadable, NeverOverflows}
use Rattle.affc_safe.specs.Safe.{LiesWithin, HasExtents, KeepsWithin, IsSafe}
use Rattle.affc_safe.proofs.PlainNear.{plain_has_no_locals, plain_never_overflows}
use Rattle.affc_safe.proofs.Wants.{Wants, wants_reading, bind_to}
use Rattle.affc_safe.proofs.Walk.{params_sit, Keep, EffectKeeps, list_wants}
use Rattle.affc_safe.proofs.ValuesThere.{AllGiven, stores_there}

-- ---- extents

pub else_is : {A : Type 0} (b : Bool) (x y : A) → b ≡ false → (if b then x else y) ≡ y
else_is true x y e = absurd (true≢false e)
else_is false x y e = refl

pub not_below_one : (z : ℤ) (b : Bool) → int_lt z (pos 1) ≡ b → pos 1 ≤ℤ z → b ≡ false
not_below_one z false e h = refl
not_below_one z true e h = let k = true_lt z (pos 1) e in absurd (omega (arith, ints))

extents_read : (names : List ℤ) (es : List Ix) → AreReadable es names → ((e : Ix) → IsIn e es → pos 1 ≤ℤ whole e names)
    → (array node : ℕ) → extents_of array es node names ≡ Ok (map (λ e. whole e names) es)
extents_read names [] r least array node = refl
extents_read names (e ∷ es) r least array node =
    bind_to (index_value e node names) (whole e names) _ _ (r.0 node)
    (bind_to (if int_lt (whole e names) (pos 1) then Err (Extent array) else extents_of array es (node + nodes_of_ix e) names) (map (λ e. whole e names) es) _ _
    (else_is (int_lt (whole e names) (pos 1)) _ _ (not_below_one (whole e names) (int_lt (whole e names) (pos 1)) refl (least e (inl refl)))
    ∙ extents_read names es r.1 (λ f i. least f (inr i)) array (node + nodes_of_ix e)) refl)

pub all_read : (names : List ℤ) (ds : List Decl) → ((d : Decl) → IsIn d ds → AreReadable d.extents names) → ((d : Decl) (e : Ix) → IsIn d ds → IsIn e d.extents → pos 1 ≤ℤ whole e names)
    → (array node : ℕ) → all_extents array ds node names ≡ Ok (extents_at ds names)
all_read names [] r least array node = refl
all_read names (d ∷ ds) r least array node =
    bind_to (extents_of array d.extents node names) (map (λ e. whole e names) d.extents) _ _ (extents_read names d.extents (r d (inl refl)) (λ e i. least d e (inl refl) i) array node)
    (bind_to (all_extents (array + 1) ds (node + sum_by nodes_of_ix d.extents) names) (extents_at ds names) _ _ (all_read names ds (λ c i. r c (inr i)) (λ c e i j. least c e (inr i) j) (array + 1) _) refl)

-- ---- stuck, if at all, for want of a value

run_wants : (program : Program) (p : List ℤ) (store : Store) → IsTrue (has_no_locals program) → IsTrue (within_ranges program.params p) → NeverOverflows program p
    → HasExtents program p → KeepsWithin program p → Wants (meaning program p store)
unfolding PartsAt
run_wants program p store bare ranges small least within =
    let n : ℕ = length (number_ranges program.params) in
    let few = both_hold (nat_le n 16) _ small.near in
    let near = both_hold (near_ranges (number_ranges program.params)) _ few.1 in
    let start : State = record { store = store; written = []; steps = 0 } in
    let given : List (List ℤ) = extents_at (arrays_of program.params) p in
    let own : List (List ℤ) = extents_at program.temps p in
    let together : extents_at (declared_arrays program) p ≡ given ++ own = map_append _ (arrays_of program.params) program.temps in
    let keep : Keep (assignments program) p (given ++ own) (trace program p) =
    λ b i. (subst (λ es. EffectKeeps (assignments program) p es (effect program p b)) together (λ x t. within b x i t), λ a e. small.assignments b a i e) in
    wants_reading (all_extents 0 (arrays_of program.params) 0 p) given start _
    (all_read p (arrays_of program.params) (λ d i. small.extents d (to_first (arrays_of program.params) program.temps d i)) (λ d e i j. least d e (to_first (arrays_of program.params) program.temps d i) j) 0 0)
    (wants_reading (all_extents (length (arrays_of program.params)) program.temps _ p) own start _
    (all_read p program.temps (λ d i. small.extents d (to_second (arrays_of program.params) program.temps d i)) (λ d e i j. least d e (to_second (arrays_of program.params) program.temps d i) j) _ _)
    (list_wants (assignments program) p (given ++ own) program.body 0 [] (number_ranges program.params) (subst T (sym bare) tt) near.1 (λ i a e. let z : 0 + i ≡ i = omega arith in ap (slice_get (assignments program)) z ∙ e) keep
    _ (record { names = p; iterators = []; extents = given ++ own }) start (params_sit program p small.near ranges) (sym (append_nil p)) refl))

pub no_other : (c : Cause) → IsUnwritten c → ¬ (IsOther c)
no_other (Unwritten i a) w o = o
no_other (Extent a) w o = w
no_other (Overflow n) w o = w
no_other (OutOfBounds i a) w o = w

pub wants_unwritten : (o : Outcome) (cause : Cause) (n : ℕ) → Wants o → o ≡ Stuck cause n → IsUnwritten cause
unfolding Wants
wants_unwritten o cause n w e = subst Wants e w

pub stuck_for_a_value : StuckForAValue
stuck_for_a_value program p store cause steps bare ranges small least within stuck =
    wants_unwritten (meaning program p store) cause steps (run_wants program p store bare ranges small least within) stuck

-- ---- each load finds a value

find_decl : (ds es : List Decl) (p : List ℤ) (j : ℕ) → j < length ds → (d : Decl) × (slice_get ds j ≡ Some d) × IsIn d ds × (get_or (extents_at (ds ++ es) p) j [] ≡ map (λ e. whole e p) d.extents)
find_decl [] es p j h = absurd (omega arith)
find_decl (d ∷ ds) es p zero h = (d, refl, inl refl, refl)
find_decl (d ∷ ds) es p (suc j) h = let r = find_decl ds es p j (omega arith) in (r.0, r.1, inr r.2, r.3)

-- an element of a parameter array that lies within its extents holds a value in each store that fits
handed_in : (program : Program) (p : List ℤ) (store : Store) (x : Element) → NeverOverflows program p → Fits program p store → HasExtents program p
    → x.0 < length (arrays_of program.params) → LiesWithin program p x → is_some (at store x) ≡ true
handed_in program p store x small fits least h w =
    let d = find_decl (arrays_of program.params) program.temps p x.0 h in
    let i : IsIn d.0 (declared_arrays program) = to_first (arrays_of program.params) program.temps d.0 d.2 in
    let read : extents_of x.0 d.0.extents 0 p ≡ Ok (map (λ e. whole e p) d.0.extents) = extents_read p d.0.extents (small.extents d.0 i) (λ e j. least d.0 e i j) x.0 0 in
    fits.exactly x ∙ ap (λ o. has_element o x p) d.1 ∙ ap (lies_in x.1) read ∙ ap (is_within x.1) (sym d.3) ∙ w

below_or_not : (m n : ℕ) → (m < n) ⊎ (n ≤ m)
below_or_not m zero = inr (omega arith)
below_or_not zero (suc n) = inl (omega arith)
below_or_not (suc m) (suc n) = elim (below_or_not m n) [ inl h ↦ inl (omega arith) | inr h ↦ inr (omega arith) ]

in_middle : {A : Type 0} (xs ys : List A) (a : A) → IsIn a (xs ++ a ∷ ys)
in_middle [] ys a = inl refl
in_middle (x ∷ xs) ys a = inr (in_middle xs ys a)

-- a load by an instance finds a store before it, or it is of a parameter array and finds what was handed in
pub all_given_by : (program : Program) (p : List ℤ) (store : Store) → NeverOverflows program p → Fits program p store → IsSafe program p
    → (before rest : List Instance) (b : Instance) → trace program p ≡ before ++ b ∷ rest → (x : Element) → IsIn x (effect program p b).loads
    → (is_some (last_store same_element (effect program p) before x) ≡ true) ⊎ ((x.0 < length (arrays_of program.params)) × (is_some (at store x) ≡ true))
all_given_by program p store small fits safe before rest b e x i =
    let inside : IsIn b (trace program p) = subst (IsIn b) (sym e) (in_middle before rest b) in
    elim (below_or_not x.0 (length (arrays_of program.params))) [
      | inl h ↦ inr (h, handed_in program p store x small fits safe.extents h (safe.within b x inside (inl i)))
      | inr h ↦
          let w = safe.written b x inside i h in
          let s = w.1 in
          let distinct = once program p in
          let mine : up_to b (trace program p) ≡ before = ap (up_to b) e ∙ up_to_split before rest b (subst AreDistinct e distinct) in
          let its : up_to b (trace program p) ≡ s.0 = ap (up_to b) s.2 ∙ up_to_split s.0 s.1 b (subst AreDistinct s.2 distinct) in
          inl (ap (λ l. is_some (last_store same_element (effect program p) l x)) (sym mine ∙ its) ∙ ap is_some s.3)
    ]

all_given : (program : Program) (p : List ℤ) (store : Store) → NeverOverflows program p → Fits program p store → IsSafe program p → AllGiven same_element (effect program p) (at store) [] (trace program p)
all_given program p store small fits safe before rest b e x i = elim (all_given_by program p store small fits safe before rest b e x i) [ inl h ↦ inl h | inr h ↦ inr h.1 ]

-- with no other reason to be stuck, a safe program runs to its end
safe_ends : (program : Program) (p : List ℤ) (store : Store) → IsTrue (has_no_locals program) → NeverOverflows program p → Fits program p store → IsSafe program p
    → (end : State) × (meaning program p store ≡ Ended end)
safe_ends program p store bare small fits safe =
    let stored = stores_there same_element (effect program p) (at store) [] (trace program p) [] tt (all_given program p store small fits safe) in
    let run = ends program p store stored.0 (ap (stores_of same_element (at store) []) (trace_effects program p (subst T (sym bare) tt)) ∙ stored.1)
    (λ cause n e. no_other cause (stuck_for_a_value program p store cause n bare fits.ranges small safe.extents safe.within e)) in
    (run.0, run.1)

pub safe_runs : SafeRuns
safe_runs program p store plain thin fits safe = safe_ends program p store (plain_has_no_locals program plain) (plain_never_overflows program p plain thin fits.ranges) fits safe
