-- Where trees name the sources of all loads, each load of a temporary is written before. Where one isn't, each run is stuck.
use Rattle.std.proofs.Common.{◌≡◌, ℕ, ◌+◌, ◌-◌, ◌<◌, ℤ, IsTrue, List, [], ◌∷◌, ◌++◌, length, Some, refl, sym, ap, subst, ◌∙◌, inl, arith}
use Rattle.std.specs.Prelude.{slice_get}
use Rattle.std.proofs.lemmas.Option.{same_Some, slice_get_within}
use Rattle.affc_ast.specs.declared.tree.Instance.{Instance}
use Rattle.affc_ast.specs.declared.tree.Program.{Program}
use Rattle.affc_ast.specs.Store.{Element}
use Rattle.affc_ast.specs.Trace.{assignments, trace, loads_of, store_of}
use Rattle.affc_trace.specs.Dataflow.{IsSource}
use Rattle.affc_trace.specs.Law.{IsIn}
use Rattle.affc_trace.specs.Laws.{IsInContext}
use Rattle.affc_trace.proofs.Runs.{length_append, slice_left}
use Rattle.affc_domain.specs.Plain.{IsPlain}
use Rattle.affc_domain.specs.Ranges.{number_ranges}
use Rattle.affc_domain.specs.Arrays.{declared_arrays}
use Rattle.affc_domain.proofs.Lists.{length_map, place_of, stands_in, there_is, to_mapped}
use Rattle.affc_domain.proofs.RangeLemmas.{box_length, in_ranges}
use Rattle.affc_safe.specs.Safe.{LoadsWritten}
use Rattle.affc_safe.proofs.Accesses.{touches_are_accesses}
use Rattle.affc_safe.proofs.EndedSafe.{unsafe_is_stuck, unwritten_instance}
use Rattle.affc_safe.proofs.FitsThere.{some_store_fits}
use Rattle.affc_safe.proofs.PlainNear.{plain_has_no_locals}
use Rattle.affc_nest.specs.declared.nest.Access.{Access}
use Rattle.affc_nest.specs.declared.nest.Entry.{Entry}
use Rattle.affc_nest.specs.Laws.{HasNest, NamesArrays, element_at}
use Rattle.affc_nest.specs.Nests.{nest_of}
use Rattle.affc_sched.proofs.LegalLemmas.{instance_of, events_are, stood}
use Rattle.affc_bounds.specs.Laws.{IsStuckAt}
use Rattle.affc_quast.specs.Sources.{loads_in}
use Rattle.affc_quast.specs.Trees.{Tree}
use Rattle.affc_dataflow.specs.Finds.{NameAllAt}
use Rattle.affc_flow.specs.Questions.{is_temporary}
use Rattle.affc_dataflow.specs.Unwritten.{LoadsUnwritten}
use Rattle.affc_driver.proofs.Roles.{HasRoles, temporary_far, far_temporary}

-- the access of the nest that stands for a load of an instance
pub record LoadAt (program : Program) (b : Instance) (load : ℕ) (x : Element) : Type 0 where
  pub entry : Entry
  pub there : slice_get (nest_of program).entries b.statement ≡ Some entry
  pub below : load < loads_in entry
  pub access : Access
  pub at : slice_get entry.accesses load ≡ Some access
  pub of_array : access.array.0 ≡ x.0

pub load_at : (program : Program) (p : List ℤ) (b : Instance) (load : ℕ) (x : Element) → HasNest program → IsInContext program p → IsIn b (trace program p) → slice_get (loads_of program p b) load ≡ Some x
    → LoadAt program b load x
load_at program p b load x has inside runs loaded =
    let r = stood program has p b inside runs in
    let e : Entry = r.0 in
    let here : Instance = instance_of e b.iterators in
    let same : here ≡ b = λ k. record { statement = r.1 k; iterators = b.iterators } in
    let l : length p ≡ length (number_ranges program.params) = sym (box_length (number_ranges program.params) p (in_ranges program.params p inside.ranges)) in
    let events = events_are program has p l e b.iterators r.2 in
    let its_load : slice_get (loads_of program p here) load ≡ Some x = subst (λ i. slice_get (loads_of program p i) load ≡ Some x) (sym same) loaded in
    let count : length e.accesses ≡ length (loads_of program p here) + 1 =
    sym (length_map (element_at (p ++ b.iterators)) e.accesses) ∙ ap length events ∙ length_append (loads_of program p here) (store_of program p here ∷ []) in
    let small : load < length (loads_of program p here) = slice_get_within (loads_of program p here) load x its_load in
    let a = there_is e.accesses load (omega (arith, count, small)) in
    let element : element_at (p ++ b.iterators) a.0 ≡ x =
    same_Some (element_at (p ++ b.iterators) a.0) x
    (sym (to_mapped (element_at (p ++ b.iterators)) e.accesses load a.0 a.1) ∙ ap (λ es. slice_get es load) events ∙ slice_left (loads_of program p here) (store_of program p here ∷ []) load x its_load) in
    record {
      entry = e;
      there = subst (λ s. slice_get (nest_of program).entries s ≡ Some e) r.1 r.2.at;
      below = fewer (length e.accesses) (length (loads_of program p here)) count small;
      access = a.0;
      at = a.1;
      of_array = ap (λ (y : Element). y.0) element;
    }
  where
    fewer : (m n : ℕ) → m ≡ n + 1 → load < n → load < m - 1
    fewer m n e h = omega (arith, e, h)

-- ---- All are written before

pub loads_written : (program : Program) (p : List ℤ) (trees : List Tree) → HasNest program → NamesArrays program → HasRoles program → IsInContext program p → NameAllAt program p (nest_of program) trees
    → LoadsWritten program p
loads_written program p trees has names roles inside all b x runs loads far =
    let k = place_of (loads_of program p b) x loads in
    let load = load_at program p b k.0 x has inside runs k.1 in
    let r = touches_are_accesses program p b x runs (inl loads) in
    let d = names r.assignment r.access (stands_in (assignments program) b.statement r.assignment r.its_assignment) r.is_access in
    let number : x.0 ≡ r.access.0.0 = ap (λ (y : Element). y.0) r.is_element in
    let own : IsTrue (is_temporary (nest_of program) x.0) = far_temporary program roles x.0 d.0 (subst (λ n. slice_get (declared_arrays program) n ≡ Some d.0) (sym number) d.1) far in
    let temp : IsTrue (is_temporary (nest_of program) load.access.array.0) = subst (λ n. IsTrue (is_temporary (nest_of program) n)) (sym load.of_array) own in
    let tree = all.sources b.statement k.0 load.entry load.there load.below in
    let w = all.written b.statement k.0 load.entry load.access tree.0 b load.there load.below load.at temp tree.1 refl runs in
    (w.0, subst (λ s. IsSource program p b x s) w.1 (tree.2 b x refl runs k.1))

-- ---- One isn't

-- then the program isn't safe
pub unwritten_is_stuck : (program : Program) (array access : ℕ) (p : List ℤ) (b : Instance) → IsPlain program → HasRoles program → LoadsUnwritten program array access p b → IsStuckAt program p
unwritten_is_stuck program array access p b plain roles u = record {
  some = some_store_fits program p u.context;
  stuck = λ store fits. unsafe_is_stuck program p store (plain_has_no_locals program plain) fits
      (unwritten_instance program p b u.element u.runs (stands_in (loads_of program p b) access u.element u.loaded) (temporary_far program roles u.element.0 u.temporary) u.none);
}
