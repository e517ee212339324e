-- A printed program that runs the target of a legal schedule, at admissible places, runs as its source.
use Rattle.std.proofs.Common.{◌≡◌, ℕ, ◌<◌, ℤ, T, Bool, true, false, true≢false, cond, List, [], ◌∷◌, length, Option, Some, None, map, refl, sym, ap, subst, ◌∙◌}
use Rattle.std.specs.Prelude.{slice_get, is_some, filter}
use Rattle.std.specs.FinMap.Entries.{is_sorted, same_entries, is_sorted-where_key, find-where_key, where_key}
use Rattle.std.proofs.lemmas.Option.{slice_get_within}
use Rattle.affc_ast.specs.declared.tree.Decl.{Decl}
use Rattle.affc_ast.specs.declared.tree.Instance.{Instance}
use Rattle.affc_ast.specs.declared.tree.Program.{Program}
use Rattle.affc_ast.specs.Cause.{Cause, Extent, Overflow, OutOfBounds, Unwritten}
use Rattle.affc_ast.specs.Store.{Element, Store, at, element_cmp}
use Rattle.affc_ast.specs.Meaning.{arrays_of}
use Rattle.affc_ast.specs.Fits.{Fits, has_element, is_output}
use Rattle.affc_ast.specs.Trace.{trace, store_of}
use Rattle.affc_ast.specs.Follows.{Stored, stores_by, put_at, elements}
use Rattle.affc_trace.specs.declared.schedule.Schedule.{Schedule}
use Rattle.affc_trace.specs.Law.{Effect, placed, stores_of, as_stored, HandedIn}
use Rattle.affc_trace.specs.Orders.{KeepsArrays}
use Rattle.affc_trace.specs.Target.{target}
use Rattle.affc_trace.specs.Effects.{effect}
use Rattle.affc_trace.specs.Dataflow.{same_element, Buffers, OneBuffer}
use Rattle.affc_trace.specs.Laws.{IsInContext, HoldsParameters, LeavesParameters, KeepsParameters, IsUnwritten, in_target_order, FittingDataIsKept, LoadsWithoutSource, EqualLastStores, KeepsSources, RunsAsSource, CompilesSource, PremisesCompile}
use Rattle.affc_trace.proofs.LastStores.{equal_last_stores}
use Rattle.affc_trace.proofs.Legality.{keeps_sources, loads_are_given}
use Rattle.affc_trace.proofs.Runs.{element_cmp_total}
use Rattle.affc_trace.proofs.Targets.{same_element_decides, map_map, ordered_stores, element_cmp_same}
use Rattle.affc_trace.proofs.Unwritten.{IsOther}
use Rattle.affc_trace.proofs.EffectRuns.{ends}
use Rattle.affc_trace.proofs.Contents.{ended_run, values_by_instance, sorted_at_end, same_contents, target_is_reordered_law}

-- ---- data that fit, and places that keep parameters

some_decl : (o : Option Decl) (x : Element) (p : List ℤ) → has_element o x p ≡ true → (d : Decl) × (o ≡ Some d)
some_decl None x p e = absurd (true≢false (sym e))
some_decl (Some d) x p e = (d, refl)

pub holds_parameters : (source : Program) (p : List ℤ) (store : Store) → Fits source p store → HoldsParameters source store
holds_parameters source p store fits x u e =
    let d = some_decl (slice_get (arrays_of source.params) x.0) x p (sym (fits.exactly x) ∙ ap is_some e) in
    slice_get_within (arrays_of source.params) x.0 d.0 d.1

-- an element of a parameter array shares its place with no other
alone : (buffer : Buffers) (source : Program) (place : Element → Element) → KeepsParameters buffer source place
    → (x y : Element) → x.0 < length (arrays_of source.params) → place x ≡ place y → x ≡ y
alone buffer source place keeps x y in_parameter e =
    let own : place x ≡ x = keeps.own x in_parameter in
    let here : x.0 ≡ buffer y.0 = ap (λ z. z.0) (sym own ∙ e) ∙ keeps.in_buffer y in
    sym own ∙ e ∙ keeps.own y (keeps.no_other y.0 (subst (λ m. m < length (arrays_of source.params)) here in_parameter))

keeps_arrays : (buffer : Buffers) (source : Program) (store : Store) (place : Element → Element)
    → HoldsParameters source store → KeepsParameters buffer source place → KeepsArrays (OneBuffer buffer) place (at store)
keeps_arrays buffer source store place holds keeps = record {
  apart = λ x y e. sym (keeps.in_buffer x) ∙ ap (λ z. z.0) e ∙ keeps.in_buffer y;
  own = λ x y u h e. alone buffer source place keeps x y (holds x u h) e;
}

handed : (source : Program) (store : Store) (place : Element → Element) → HoldsParameters source store → LeavesParameters source place → HandedIn place (at store) (at store)
handed source store place holds leaves x u e = ap (at store) (leaves x (holds x u e)) ∙ e

pub fitting_data_is_kept : FittingDataIsKept
fitting_data_is_kept buffer source p store place fits keeps =
    let holds = holds_parameters source p store fits in
    (holds, keeps_arrays buffer source store place holds keeps, handed source store place holds keeps.own)

-- ---- the law of last stores, and its premise

pub equal_last_stores_law : EqualLastStores
equal_last_stores_law source p store end place v order plain holds ended values leaves same =
    equal_last_stores (effect source p) same_element same_element place (at store) (at store) v (trace source p) order
    (ended_run source p store end plain ended ∙ ap Some values) same (handed source store place holds leaves)

pub keeps_sources_law : KeepsSources
keeps_sources_law buffer source schedule p store end place plain holds ended legal fold keeps =
    let its : Instance → Effect Element ℕ = effect source p in
    let values = values_by_instance source p store end plain ended in
    keeps_sources its same_element same_element same_element_decides same_element_decides (OneBuffer buffer) place (at store) (trace source p) (target source schedule p)
    (target_is_reordered_law source schedule p) legal fold (keeps_arrays buffer source store place holds keeps)
    (loads_are_given its same_element (at store) values.0 (trace source p) (ended_run source p store end plain ended ∙ ap Some values.1))

pub loads_without_source : LoadsWithoutSource
loads_without_source source p store end b x plain holds ended loaded s =
    let values = values_by_instance source p store end plain ended in
    let given = loads_are_given (effect source p) same_element (at store) values.0 (trace source p) (ended_run source p store end plain ended ∙ ap Some values.1) s.0 s.1 b s.2 x loaded s.3 in
    (holds x given.0 given.1, given)

-- ---- the stores of a run with their instances

own_elements : (source : Program) (p : List ℤ) (v : Instance → ℕ) (is : List Instance) → elements (as_stored (effect source p) v is) ≡ map (store_of source p) is
own_elements source p v [] = refl
own_elements source p v (b ∷ is) = ap (λ l. store_of source p b ∷ l) (own_elements source p v is)

abbrev stored : Program → List ℤ → (Instance → ℕ) → Instance → Stored
stored source p v b = record { instance = b; element = store_of source p b; value = v b }

stores_are : (source : Program) (p : List ℤ) (v : Instance → ℕ) (is : List Instance) → stores_by is (as_stored (effect source p) v is) ≡ map (stored source p v) is
stores_are source p v [] = refl
stores_are source p v (b ∷ is) = ap (λ l. stored source p v b ∷ l) (stores_are source p v is)

in_order : (source : Program) (schedule : Schedule) (p : List ℤ) (place : Element → Element) (v : Instance → ℕ) (written : List (Element × ℕ))
    → written ≡ as_stored (effect source p) v (trace source p)
    → map (put_at place) (in_target_order schedule p (stores_by (trace source p) written)) ≡ as_stored (placed place (effect source p)) v (target source schedule p)
in_order source schedule p place v written e =
    ap (λ w. map (put_at place) (in_target_order schedule p (stores_by (trace source p) w))) e
    ∙ ap (λ l. map (put_at place) (in_target_order schedule p l)) (stores_are source p v (trace source p))
    ∙ ap (map (put_at place)) (ordered_stores schedule p (stored source p v) (λ b. refl) (trace source p))
    ∙ map_map (stored source p v) (put_at place) (target source schedule p)

-- ---- the printed program's run

no_other : (c : Cause) → IsUnwritten c → ¬ (IsOther c)
no_other (Unwritten i a) w o = o
no_other (Extent a) w o = w
no_other (Overflow n) w o = w
no_other (OutOfBounds i a) w o = w

-- an output array is one of the parameters
is_parameter : (program : Program) (x : Element) → is_output (slice_get (arrays_of program.params) x.0) ≡ true → x.0 < length (arrays_of program.params)
is_parameter program x e = let d = some_output (slice_get (arrays_of program.params) x.0) e in slice_get_within (arrays_of program.params) x.0 d.0 d.1
  where
    some_output : (o : Option Decl) → is_output o ≡ true → (d : Decl) × (o ≡ Some d)
    some_output None e = absurd (true≢false (sym e))
    some_output (Some d) e = (d, refl)

-- stores that hold the same at each element that passes the test are the same there
same_where : (test : Element → Bool) (s t : Store) → T (is_sorted element_cmp s) → T (is_sorted element_cmp t)
    → ((x : Element) → test x ≡ true → at s x ≡ at t x) → where_key element_cmp test s ≡ where_key element_cmp test t
same_where test s t g h same =
    same_entries element_cmp element_cmp_total element_cmp_same _ _ (is_sorted-where_key element_cmp test s g) (is_sorted-where_key element_cmp test t h) (λ q.
    find-where_key element_cmp test q (λ x e. ap test (sym (element_cmp_same q x e))) s
    ∙ by_test q (test q) refl
    ∙ sym (find-where_key element_cmp test q (λ x e. ap test (sym (element_cmp_same q x e))) t))
  where
    by_test : (q : Element) (b : Bool) → test q ≡ b → cond b (at s q) None ≡ cond b (at t q) None
    by_test q true e = same q e
    by_test q false e = refl

pub runs_as_source : RunsAsSource
runs_as_source buffer printed source schedule p store end place plain params fits ended legal fold keeps runs =
    let its : Instance → Effect Element ℕ = effect source p in
    let values = values_by_instance source p store end plain ended in
    let v : Instance → ℕ = values.0 in
    let holds = holds_parameters source p store fits in
    let same = keeps_sources_law buffer source schedule p store end place plain holds ended legal fold keeps in
    let run = equal_last_stores_law source p store end place v (target source schedule p) plain holds ended values.1 keeps.own same in
    let last = ends printed p store (as_stored (placed place its) v (target source schedule p))
    (ap (stores_of same_element (at store) []) runs.does ∙ run) (λ c n e. no_other c (runs.only_unwritten c n e)) in
    let sorted : T (is_sorted element_cmp store) = subst T (sym fits.ordered) tt in
    let contents : (x : Element) → x.0 < length (arrays_of source.params) → at last.0.store x ≡ at end.store x =
    λ x h. same_contents printed source schedule p store end last.0 place v ended last.1 legal values.1 last.2 x (keeps.own x h) (λ y e. alone buffer source place keeps x y h e) in
    record {
      follows = record {
        source_end = end;
        source_ends = ended;
        target_end = last.0;
        target_ends = last.1;
        own_elements = ap elements values.1 ∙ own_elements source p v (trace source p);
        written = last.2 ∙ sym (in_order source schedule p place v end.written values.1);
      };
      same_outputs =
          ap (λ ps. filter (λ e. is_output (slice_get (arrays_of ps) e.0.0)) last.0.store) params
          ∙ same_where (λ x. is_output (slice_get (arrays_of source.params) x.0)) last.0.store end.store
          (sorted_at_end printed p store last.0 last.1 sorted) (sorted_at_end source p store end ended sorted) (λ x e. contents x (is_parameter source x e));
    }

pub compiles_source : CompilesSource
compiles_source buffer printed source schedule place plain name params context ends legal fold keeps runs = record {
  name = name;
  parameters = params;
  context = context;
  runs = λ p store fits.
      let end = ends p store fits in
      let here : IsInContext source p = record { ranges = fits.ranges; context = fits.context } in
      runs_as_source buffer printed source schedule p store end.0 (place p) plain params fits end.1 (legal p here) (fold p here) (keeps p here) (runs p store fits);
}

pub premises_compile : PremisesCompile
premises_compile buffer printed source schedule place p =
    compiles_source buffer printed source schedule place p.plain p.name p.params p.context p.ends p.legal p.admissible p.keeps p.runs
