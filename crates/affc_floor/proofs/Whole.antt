-- A program's run goes to the first fault of its trace.
use Rattle.std.proofs.Common.{◌≡◌, ℕ, zero, suc, ◌+◌, ◌<◌, ℤ, pos, ◌≤ℤ◌, T, Bool, true, false, true≢false, ◌||◌, if◌then◌else◌, int_lt, IsTrue, List, [], ◌∷◌, ◌++◌, length, get_or, map, Option, Some, None, Ok, Err, refl, sym, ap, subst, ◌∙◌, inl, inr, arith}
use Rattle.std.specs.Prelude.{slice_get, is_some, nat_le, nat_lt}
use Rattle.std.proofs.lemmas.Bool.{ltb-true, lt-ltb}
use Rattle.std.proofs.lemmas.Option.{same_Some}
use Rattle.affc_ast.specs.declared.tree.Decl.{Decl}
use Rattle.affc_ast.specs.declared.tree.Instance.{Instance}
use Rattle.affc_ast.specs.declared.tree.Ix.{Ix}
use Rattle.affc_ast.specs.declared.tree.Program.{Program}
use Rattle.affc_ast.specs.Cause.{Cause, Extent, OutOfBounds, Unwritten}
use Rattle.affc_ast.specs.Fits.{Fits, whole, lies_in, has_element}
use Rattle.affc_ast.specs.Index.{index_value, nodes_of_ix}
use Rattle.affc_ast.specs.Meaning.{State, Outcome, Ended, Stuck, arrays_of, extents_of, all_extents, meaning}
use Rattle.affc_ast.specs.Store.{Element, Store, at}
use Rattle.affc_ast.specs.Trace.{assignments, trace}
use Rattle.affc_ast.specs.Values.{is_within}
use Rattle.affc_trace.specs.Dataflow.{same_element}
use Rattle.affc_trace.specs.Effects.{effect, has_no_locals}
use Rattle.affc_trace.specs.Law.{Effect, IsIn, or_else}
use Rattle.affc_trace.proofs.Composed.{holds_parameters}
use Rattle.affc_trace.proofs.LastStores.{append_nil, map_append, IsSome}
use Rattle.affc_trace.proofs.Members.{both_hold, to_first, to_second}
use Rattle.affc_trace.proofs.Runs.{PartsAt}
use Rattle.affc_domain.specs.Arrays.{declared_arrays, extents_at}
use Rattle.affc_domain.specs.Ranges.{number_ranges}
use Rattle.affc_safe.specs.Overflow.{near_ranges, AreReadable, NeverOverflows}
use Rattle.affc_safe.specs.Safe.{HasExtents}
use Rattle.affc_safe.proofs.SafeLaws.{all_read, else_is, not_below_one}
use Rattle.affc_safe.proofs.Walk.{params_sit}
use Rattle.affc_safe.proofs.Wants.{bind_to}
use Rattle.affc_floor.specs.Faults.{Holding, touch_fault, load_fault, loads_fault, fault_of, with_stored, first_fault, cause_of}
use Rattle.affc_floor.specs.FaultLaws.{RunsToFirstFault, FaultsByArrays, is_handed_in, FirstFaultStops, NoFaultEnds}
use Rattle.affc_floor.proofs.Goes.{Goes, goes_cause, goes_reading}
use Rattle.affc_floor.proofs.Faulted.{list_goes}

pub runs_to_first_fault : RunsToFirstFault
unfolding PartsAt
runs_to_first_fault program p store bare ranges small least =
    let n : ℕ = length (number_ranges program.params) in
    let few = both_hold (nat_le n 16) _ small.near in
    let near = both_hold (near_ranges (number_ranges program.params)) _ few.1 in
    let start : State = record { store = store; written = []; steps = 0 } in
    let given : List (List ℤ) = extents_at (arrays_of program.params) p in
    let own : List (List ℤ) = extents_at program.temps p in
    let together : given ++ own ≡ extents_at (declared_arrays program) p = sym (map_append _ (arrays_of program.params) program.temps) in
    let its : Instance → Effect Element ℕ = effect program p in
    let goes : Goes (given ++ own) its start (trace program p) (meaning program p store) =
    goes_reading (given ++ own) its (all_extents 0 (arrays_of program.params) 0 p) given start start (trace program p) _
    (all_read p (arrays_of program.params) (λ d i. small.extents d (to_first (arrays_of program.params) program.temps d i)) (λ d e i j. least d e (to_first (arrays_of program.params) program.temps d i) j) 0 0)
    (goes_reading (given ++ own) its (all_extents (length (arrays_of program.params)) program.temps _ p) own start start (trace program p) _
    (all_read p program.temps (λ d i. small.extents d (to_second (arrays_of program.params) program.temps d i)) (λ d e i j. least d e (to_second (arrays_of program.params) program.temps d i) j) _ _)
    (list_goes (assignments program) p (given ++ own) program.body 0 [] (number_ranges program.params) (subst T (sym bare) tt) near.1 (λ i a e. let z : 0 + i ≡ i = omega arith in ap (slice_get (assignments program)) z ∙ e)
    (λ b i a e. small.assignments b a i e) _ (record { names = p; iterators = []; extents = given ++ own }) start (params_sit program p small.near ranges) (sym (append_nil p)) refl refl refl)) in
    goes_cause (given ++ own) its start (trace program p) (meaning program p store) goes
    ∙ ap (λ es. first_fault es its (λ x. is_some (at store x)) (trace program p)) together

-- ---- which elements hold a value

module _ (extents : List (List ℤ)) where
  abbrev Agree : Holding → Holding → Type 0
  Agree has has' = (x : Element) → is_within x.1 (get_or extents x.0 []) ≡ true → has x ≡ has' x

  same_load : (has has' : Holding) (b : Instance) (k : ℕ) (x : Element) → Agree has has' → load_fault extents has b k x ≡ load_fault extents has' b k x
  same_load has has' b k x h = by_test (is_within x.1 (get_or extents x.0 [])) refl
    where
      by_test : (t : Bool) → is_within x.1 (get_or extents x.0 []) ≡ t → load_fault extents has b k x ≡ load_fault extents has' b k x
      by_test true e = ap (λ c. or_else (touch_fault extents b k x) (if c then None else Some (Unwritten b k))) (h x e)
      by_test false e =
          ap (λ t. or_else (if t then None else Some (OutOfBounds b k)) (if has x then None else Some (Unwritten b k))) e
          ∙ sym (ap (λ t. or_else (if t then None else Some (OutOfBounds b k)) (if has' x then None else Some (Unwritten b k))) e)

  same_loads : (has has' : Holding) (b : Instance) (k : ℕ) (xs : List Element) → Agree has has' → loads_fault extents has b k xs ≡ loads_fault extents has' b k xs
  same_loads has has' b k [] h = refl
  same_loads has has' b k (x ∷ xs) h =
      ap (λ o. or_else o (loads_fault extents has b (k + 1) xs)) (same_load has has' b k x h) ∙ ap (or_else (load_fault extents has' b k x)) (same_loads has has' b (k + 1) xs h)

  same_faults : (its : Instance → Effect Element ℕ) (has has' : Holding) (is : List Instance) → Agree has has' → first_fault extents its has is ≡ first_fault extents its has' is
  same_faults its has has' [] h = refl
  same_faults its has has' (b ∷ is) h =
      ap (λ o. or_else (or_else o (touch_fault extents b (length (its b).loads) (its b).stores)) (first_fault extents its (with_stored extents (its b).stores has) is)) (same_loads has has' b 0 (its b).loads h)
      ∙ ap (or_else (fault_of extents has' b (its b))) (same_faults its (with_stored extents (its b).stores has) (with_stored extents (its b).stores has') is (λ x w. ap (λ c. same_element x (its b).stores || c) (h x w)))

pub faults_by_arrays : FaultsByArrays
faults_by_arrays extents its has has' is h = same_faults extents its has has' is h

-- ---- data that fit

extents_read : (names : List ℤ) (es : List Ix) → AreReadable es names → ((e : Ix) → IsIn e es → pos 1 ≤ℤ whole e names)
    → (array node : ℕ) → extents_of array es node names ≡ Ok (map (λ e. whole e names) es)
extents_read names [] r least array node = refl
extents_read names (e ∷ es) r least array node =
    bind_to (index_value e node names) (whole e names) _ _ (r.0 node)
    (bind_to (if int_lt (whole e names) (pos 1) then Err (Extent array) else extents_of array es (node + nodes_of_ix e) names) (map (λ e. whole e names) es) _ _
    (else_is (int_lt (whole e names) (pos 1)) _ _ (not_below_one (whole e names) (int_lt (whole e names) (pos 1)) refl (least e (inl refl)))
    ∙ extents_read names es r.1 (λ f i. least f (inr i)) array (node + nodes_of_ix e)) refl)

find_decl : (ds es : List Decl) (p : List ℤ) (j : ℕ) → j < length ds → (d : Decl) × (slice_get ds j ≡ Some d) × IsIn d ds × (get_or (extents_at (ds ++ es) p) j [] ≡ map (λ e. whole e p) d.extents)
find_decl [] es p j h = absurd (omega arith)
find_decl (d ∷ ds) es p zero h = (d, refl, inl refl, refl)
find_decl (d ∷ ds) es p (suc j) h = let r = find_decl ds es p j (omega arith) in (r.0, r.1, inr r.2, r.3)

module _ (program : Program) (p : List ℤ) (store : Store) (small : NeverOverflows program p) (fits : Fits program p store) (least : HasExtents program p) where
  handed_in : (x : Element) → x.0 < length (arrays_of program.params) → is_within x.1 (get_or (extents_at (declared_arrays program) p) x.0 []) ≡ true → is_some (at store x) ≡ true
  handed_in x h w =
      let d = find_decl (arrays_of program.params) program.temps p x.0 h in
      let i : IsIn d.0 (declared_arrays program) = to_first (arrays_of program.params) program.temps d.0 d.2 in
      let read : extents_of x.0 d.0.extents 0 p ≡ Ok (map (λ e. whole e p) d.0.extents) = extents_read p d.0.extents (small.extents d.0 i) (λ e j. least d.0 e i j) x.0 0 in
      fits.exactly x ∙ ap (λ o. has_element o x p) d.1 ∙ ap (lies_in x.1) read ∙ ap (is_within x.1) (sym d.3) ∙ w

  agree : (x : Element) → is_within x.1 (get_or (extents_at (declared_arrays program) p) x.0 []) ≡ true → is_some (at store x) ≡ is_handed_in program x
  agree x w = by_test (is_handed_in program x) refl
    where
      some_value : (o : Option ℕ) → is_some o ≡ true → (v : ℕ) × (o ≡ Some v)
      some_value None e = absurd (true≢false (sym e))
      some_value (Some v) e = (v, refl)

      by_value : (b : Bool) → is_some (at store x) ≡ b → nat_lt x.0 (length (arrays_of program.params)) ≡ false → b ≡ false
      by_value false e f = refl
      by_value true e f =
          let v = some_value (at store x) e in
          absurd (true≢false (sym (lt-ltb x.0 (length (arrays_of program.params)) (holds_parameters program p store fits x v.0 v.1)) ∙ f))

      by_test : (t : Bool) → is_handed_in program x ≡ t → is_some (at store x) ≡ t
      by_test true e = handed_in x (ltb-true x.0 (length (arrays_of program.params)) e) w
      by_test false e = by_value (is_some (at store x)) refl e

  pub cause_is : IsTrue (has_no_locals program)
      → cause_of (meaning program p store) ≡ first_fault (extents_at (declared_arrays program) p) (effect program p) (is_handed_in program) (trace program p)
  cause_is bare =
      runs_to_first_fault program p store bare fits.ranges small least
      ∙ same_faults (extents_at (declared_arrays program) p) (effect program p) (λ x. is_some (at store x)) (is_handed_in program) (trace program p) agree

stuck_by : (o : Outcome) (cause : Cause) → cause_of o ≡ Some cause → (steps : ℕ) × (o ≡ Stuck cause steps)
stuck_by (Ended t) cause e = absurd (subst IsSome (sym e) tt)
stuck_by (Stuck c n) cause e = (n, ap (λ d. Stuck d n) (same_Some c cause e))

ended : (o : Outcome) → cause_of o ≡ None → (end : State) × (o ≡ Ended end)
ended (Ended t) e = (t, refl)
ended (Stuck c n) e = absurd (subst IsSome e tt)

pub first_fault_stops : FirstFaultStops
first_fault_stops program p store cause bare fits small least e = stuck_by (meaning program p store) cause (cause_is program p store small fits least bare ∙ e)

pub no_fault_ends : NoFaultEnds
no_fault_ends program p store bare fits small least e = ended (meaning program p store) (cause_is program p store small fits least bare ∙ e)
