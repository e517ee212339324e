-- A program that runs to its end is safe; what is not safe.
use Rattle.std.proofs.Common.{◌≡◌, ℕ, zero, suc, ◌+◌, ◌<◌, ◌≤◌, ℤ, pos, ◌≤ℤ◌, T, Bool, true, false, true≢false, if◌then◌else◌, int_lt, List, [], ◌∷◌, ◌++◌, length, get_or, map, sum_by, Option, Some, None, Result, Ok, Err, refl, sym, ap, subst, ◌∙◌, ◌⊎◌, inl, inr, arith}
use Rattle.std.proofs.lemmas.Int.{ints}
use Rattle.std.proofs.lemmas.Option.{none-some}
use Rattle.affc_ast.specs.declared.tree.ArrayId.{ArrayId}
use Rattle.affc_ast.specs.declared.tree.Decl.{Decl}
use Rattle.affc_ast.specs.declared.tree.Instance.{Instance}
use Rattle.affc_ast.specs.declared.tree.Ix.{Ix}
use Rattle.affc_ast.specs.declared.tree.Op.{Op}
use Rattle.affc_ast.specs.declared.tree.Val.{Val}
use Rattle.affc_ast.specs.declared.tree.Val.TheVariants as v
use Rattle.affc_ast.specs.declared.tree.Val.TheBlock.{more_of-Val, end_of-Val}
use Rattle.affc_ast.specs.Cause.{Cause, Extent, OutOfBounds}
use Rattle.affc_ast.specs.Fits.{whole}
use Rattle.affc_ast.specs.Index.{index_value, index_values, nodes_of_ix}
use Rattle.affc_ast.specs.Meaning.{Outcome, Ended, Stuck, arrays_of, extents_of, all_extents, own_value, assigned, meaning}
use Rattle.affc_ast.specs.Store.{Element, Store, at}
use Rattle.affc_ast.specs.Trace.{loads_of_value, own_load, element, trace}
use Rattle.affc_ast.specs.Values.{Scope, Sight, deeper, is_within, touch, held, load, value_of}
use Rattle.affc_trace.specs.Law.{IsIn}
use Rattle.affc_trace.specs.Effects.{effect_by, effect}
use Rattle.affc_trace.specs.Dataflow.{IsSource, source}
use Rattle.affc_trace.proofs.Composed.{holds_parameters, loads_without_source}
use Rattle.affc_trace.proofs.EndedReads.{bind_ok, is_whole, are_whole, same_ok}
use Rattle.affc_trace.proofs.Found.{source_is_found}
use Rattle.affc_trace.proofs.LastStores.{map_append, append_nil}
use Rattle.affc_trace.proofs.Once.{in_append}
use Rattle.affc_safe.specs.Laws.{EndedIsSafe, UnsafeIsStuck, UnwrittenInstance, NoTemporariesAreWritten}
use Rattle.affc_safe.proofs.SourceRuns.{source_comes}
use Rattle.affc_domain.specs.Arrays.{declared_arrays, extents_at}
use Rattle.affc_domain.proofs.PlainLemmas.{has_assignment}
use Rattle.affc_domain.proofs.TurnLemmas.{trace_runs}
use Rattle.affc_safe.proofs.Walk.{AllWithin}

abbrev IsOk : {A : Type 0} → Result A Cause → Type 0
IsOk (Ok x) = Unit {0}
IsOk (Err cause) = ⊥

not_ok : {A B : Type 0} (cause : Cause) (x : A) → ◌≡◌ {A = Result A Cause} (Err cause) (Ok x) → B
not_ok cause x e = absurd (subst IsOk (sym e) tt)

-- ---- accesses

touch_within : (scope : Scope) (here : Instance) (access : ℕ) (array : ArrayId) (xs : List ℤ) (x : Element) → touch scope here access array xs ≡ Ok x → is_within xs (get_or scope.extents array.0 []) ≡ true
touch_within scope here access array xs x e = chosen (is_within xs (get_or scope.extents array.0 [])) e
  where
    chosen : (b : Bool) → (if b then Ok (array.0, xs) else Err (OutOfBounds here access)) ≡ Ok x → b ≡ true
    chosen true e = refl
    chosen false e = not_ok (OutOfBounds here access) x e

load_within : (scope : Scope) (store : Store) (here : Instance) (access : ℕ) (array : ArrayId) (xs : List ℤ) (u : ℕ) → load scope store here access array xs ≡ Ok u → is_within xs (get_or scope.extents array.0 []) ≡ true
load_within scope store here access array xs u e =
    let t = bind_ok (touch scope here access array xs) (λ x. held here access (at store x)) u e in
    touch_within scope here access array xs t.0 t.1

value_within : (e : Val) (s : Sight) (u : ℕ) → (value_of e).value s ≡ Ok u → AllWithin s.scope.extents (loads_of_value e s.scope.names)
value_within (v.Load array subs) s u h x (inl i) =
    let xs = bind_ok (index_values subs (s.node + 1) s.scope.names) _ _ h in
    subst (λ y. is_within y.1 (get_or s.scope.extents y.0 []) ≡ true) (sym i)
    (ap (λ l. is_within l (get_or s.scope.extents array.0 [])) (are_whole subs s.scope.names _ xs.0 xs.1) ∙ load_within s.scope s.store s.here s.access array xs.0 u xs.2)
value_within (v.Load array subs) s u h x (inr i) = absurd i
value_within (v.Const n) s u h x i = absurd i
value_within (v.Cast e) s u h x i = absurd i
value_within (v.Not' t (more_of-Val a end_of-Val)) s u h x i = let p = bind_ok ((value_of a).value (deeper s)) _ _ h in value_within a (deeper s) p.0 p.1 x i
value_within (v.Shift' left t (more_of-Val a end_of-Val) by) s u h x i = let p = bind_ok ((value_of a).value (deeper s)) _ _ h in value_within a (deeper s) p.0 p.1 x i
value_within (v.Bin' op t (more_of-Val a end_of-Val) t' (more_of-Val b end_of-Val)) s u h x i =
    let p = bind_ok ((value_of a).value (deeper s)) _ _ h in
    let q = bind_ok ((value_of b).value (record s { node = s.node + 1 + (value_of a).nodes; access = s.access + (value_of a).loads })) _ _ p.2 in
    elim (in_append (loads_of_value a s.scope.names) (loads_of_value b s.scope.names) x i) [
      | inl j ↦ value_within a (deeper s) p.0 p.1 x j
      | inr j ↦ value_within b (record s { node = s.node + 1 + (value_of a).nodes; access = s.access + (value_of a).loads }) q.0 q.1 x j
    ]

assigned_within : (op : Option Op) (array : ArrayId) (subs : List Ix) (e : Val) (node : ℕ) (scope : Scope) (store : Store) (here : Instance) (stored : Element × ℕ)
    → assigned op array subs e node scope store here ≡ Ok stored
    → (x : Element) → IsIn x (own_load op (element scope.names array subs) ++ loads_of_value e scope.names) ⊎ (x ≡ element scope.names array subs) → is_within x.1 (get_or scope.extents x.0 []) ≡ true
assigned_within op array subs e node scope store here stored h x touches =
    let xs = bind_ok (index_values subs (node + 1) scope.names) _ _ h in
    let own = bind_ok (own_value op scope store here array xs.0) _ _ xs.2 in
    let new = bind_ok ((value_of e).value _) _ _ own.2 in
    let touched = bind_ok (touch scope here _ array xs.0) _ _ new.2 in
    let store_within : is_within (element scope.names array subs).1 (get_or scope.extents array.0 []) ≡ true =
    ap (λ l. is_within l (get_or scope.extents array.0 [])) (are_whole subs scope.names _ xs.0 xs.1) ∙ touch_within scope here _ array xs.0 touched.0 touched.1 in
    elim touches [
      | inl i ↦ loaded op i store_within (value_within e _ new.0 new.1)
      | inr i ↦ at_store i store_within
    ]
  where
    at_store : x ≡ element scope.names array subs → is_within (element scope.names array subs).1 (get_or scope.extents array.0 []) ≡ true → is_within x.1 (get_or scope.extents x.0 []) ≡ true
    at_store i w = subst (λ y. is_within y.1 (get_or scope.extents y.0 []) ≡ true) (sym i) w

    loaded : (op : Option Op) → IsIn x (own_load op (element scope.names array subs) ++ loads_of_value e scope.names)
        → is_within (element scope.names array subs).1 (get_or scope.extents array.0 []) ≡ true → AllWithin scope.extents (loads_of_value e scope.names) → is_within x.1 (get_or scope.extents x.0 []) ≡ true
    loaded None i w all = all x i
    loaded (Some op) (inl i) w all = at_store i w
    loaded (Some op) (inr i) w all = all x i

-- ---- extents

if_ok : {A : Type 0} (z : ℤ) (array : ℕ) (r : Result A Cause) (x : A) → (if int_lt z (pos 1) then Err (Extent array) else r) ≡ Ok x → (pos 1 ≤ℤ z) × (r ≡ Ok x)
if_ok z array r x e = chosen (int_lt z (pos 1)) refl e
  where
    chosen : (b : Bool) → int_lt z (pos 1) ≡ b → (if b then Err (Extent array) else r) ≡ Ok x → (pos 1 ≤ℤ z) × (r ≡ Ok x)
    chosen true q e = not_ok (Extent array) x e
    chosen false q e = (not_less z q, e)
      where
        not_less : (z : ℤ) → int_lt z (pos 1) ≡ false → pos 1 ≤ℤ z
        not_less z q = grind (arith, ints)

record Extents (es : List Ix) (names ns : List ℤ) : Type 0 where
  least : (e : Ix) → IsIn e es → pos 1 ≤ℤ whole e names
  same : map (λ e. whole e names) es ≡ ns

extents_are : (array : ℕ) (es : List Ix) (node : ℕ) (names ns : List ℤ) → extents_of array es node names ≡ Ok ns → Extents es names ns
extents_are array [] node names ns h = record { least = λ e i. absurd i; same = same_ok [] ns h }
extents_are array (e ∷ es) node names ns h =
    let n = bind_ok (index_value e node names) _ _ h in
    let rest = bind_ok (if int_lt n.0 (pos 1) then Err (Extent array) else extents_of array es (node + nodes_of_ix e) names) _ _ n.2 in
    let both = if_ok n.0 array (extents_of array es (node + nodes_of_ix e) names) rest.0 rest.1 in
    let others = extents_are array es (node + nodes_of_ix e) names rest.0 both.1 in
    let w : whole e names ≡ n.0 = is_whole e names node n.0 n.1 in
    record { least = at_least w both.0 others; same = ap (λ z. z ∷ map (λ e. whole e names) es) w ∙ ap (λ l. n.0 ∷ l) others.same ∙ same_ok (n.0 ∷ rest.0) ns rest.2 }
  where
    at_least : {z : ℤ} {l : List ℤ} → whole e names ≡ z → pos 1 ≤ℤ z → Extents es names l → (f : Ix) → IsIn f (e ∷ es) → pos 1 ≤ℤ whole f names
    at_least w o others f (inl i) = subst (λ g. pos 1 ≤ℤ whole g names) (sym i) (subst (λ y. pos 1 ≤ℤ y) (sym w) o)
    at_least w o others f (inr i) = others.least f i

record AllExtents (ds : List Decl) (names : List ℤ) (ns : List (List ℤ)) : Type 0 where
  least : (d : Decl) (e : Ix) → IsIn d ds → IsIn e d.extents → pos 1 ≤ℤ whole e names
  same : extents_at ds names ≡ ns

all_are : (array : ℕ) (ds : List Decl) (node : ℕ) (names : List ℤ) (ns : List (List ℤ)) → all_extents array ds node names ≡ Ok ns → AllExtents ds names ns
all_are array [] node names ns h = record { least = λ d e i. absurd i; same = same_ok [] ns h }
all_are array (d ∷ ds) node names ns h =
    let n = bind_ok (extents_of array d.extents node names) _ _ h in
    let rest = bind_ok (all_extents (array + 1) ds (node + sum_by nodes_of_ix d.extents) names) _ _ n.2 in
    let first = extents_are array d.extents node names n.0 n.1 in
    let others = all_are (array + 1) ds (node + sum_by nodes_of_ix d.extents) names rest.0 rest.1 in
    record { least = at_least first others; same = ap (λ z. z ∷ extents_at ds names) first.same ∙ ap (λ l. n.0 ∷ l) others.same ∙ same_ok (n.0 ∷ rest.0) ns rest.2 }
  where
    at_least : {m : List ℤ} {l : List (List ℤ)} → Extents d.extents names m → AllExtents ds names l → (c : Decl) (e : Ix) → IsIn c (d ∷ ds) → IsIn e c.extents → pos 1 ≤ℤ whole e names
    at_least first others c e (inl i) j = first.least e (subst (λ c. IsIn e c.extents) i j)
    at_least first others c e (inr i) j = others.least c e i j

in_both : (ds es : List Decl) (d : Decl) → IsIn d (ds ++ es) → IsIn d ds ⊎ IsIn d es
in_both ds es d i = in_append ds es d i

pub ended_is_safe : EndedIsSafe
ended_is_safe program p store end plain fits ended =
    let came = source_comes program p store end (subst T (sym plain) tt) ended in
    let has = came.1 in
    let given = all_are 0 (arrays_of program.params) 0 p has.given has.of_params in
    let own = all_are (length (arrays_of program.params)) program.temps _ p has.own has.of_temps in
    let extents_are_those : extents_at (declared_arrays program) p ≡ came.0 =
    map_append _ (arrays_of program.params) program.temps ∙ ap (λ l. l ++ extents_at program.temps p) given.same ∙ ap (λ l. has.given ++ l) own.same ∙ has.together in
    record {
      extents = λ d e i j. elim (in_both (arrays_of program.params) program.temps d i) [ inl k ↦ given.least d e k j | inr k ↦ own.least d e k j ];
      within = λ b x i t.
          let run = trace_runs program p b i in
          let a = has_assignment program b.statement run.0 run.1 in
          let done = (came.2 b.statement run.0 a.0 run.1 a.1 b.iterators).done run.2 in
          subst (λ es. is_within x.1 (get_or es x.0 []) ≡ true) (done.its_extents ∙ sym extents_are_those)
          (assigned_within a.0.op a.0.array a.0.subs a.0.value done.node done.scope done.store done.here done.stored done.is_done x
          (subst (λ m. IsIn x (effect_by (Some a.0) m).loads ⊎ (x ≡ (effect_by (Some a.0) m).stores)) (sym done.its_names)
          (subst (λ o. IsIn x (effect_by o (p ++ b.iterators)).loads ⊎ (x ≡ (effect_by o (p ++ b.iterators)).stores)) a.1 t)));
      written = λ b x i l h. found b x i l h (source program p b x) refl;
    }
  where
    found : (b : Instance) (x : Element) → IsIn b (trace program p) → IsIn x (effect program p b).loads → length (arrays_of program.params) ≤ x.0
        → (o : Option Instance) → source program p b x ≡ o → (w : Instance) × IsSource program p b x (Some w)
    found b x i l h None e =
        let s = (source_is_found program p b x None).1 (i, e) in
        let q = loads_without_source program p store end b x plain (holds_parameters program p store fits) ended l s in
        let below : x.0 < length (arrays_of program.params) = q.0 in
        absurd (omega arith)
    found b x i l h (Some w) e = (w, (source_is_found program p b x (Some w)).1 (i, e))

pub unsafe_is_stuck : UnsafeIsStuck
unsafe_is_stuck program p store plain fits unsafe = stuck (meaning program p store) refl
  where
    stuck : (o : Outcome) → meaning program p store ≡ o → (cause : Cause) × (steps : ℕ) × (meaning program p store ≡ Stuck cause steps)
    stuck (Ended end) e = absurd (unsafe (ended_is_safe program p store end plain fits e))
    stuck (Stuck cause steps) e = (cause, steps, e)

-- a load has one source
pub unwritten_instance : UnwrittenInstance
unwritten_instance program p b x i load h none safe =
    let w = safe.written b x i load h in
    let first = (source_is_found program p b x None).0 none in
    let other = (source_is_found program p b x (Some w.0)).0 w.1 in
    none-some w.0 (sym first.1 ∙ other.1)

-- beyond the last array's number no element has a subscript
beyond : (ds : List Decl) (p xs : List ℤ) (j : ℕ) → length ds ≤ j → is_within xs (get_or (extents_at ds p) j []) ≡ true → xs ≡ []
beyond [] p [] j h w = refl
beyond [] p (x ∷ xs) j h w = absurd (true≢false (sym w))
beyond (d ∷ ds) p xs zero h w = absurd (omega arith)
beyond (d ∷ ds) p xs (suc j) h w = beyond ds p xs j (omega arith) w

pub no_temporaries_are_written : NoTemporariesAreWritten
no_temporaries_are_written program p none least within bare = record {
  extents = least;
  within = within;
  written = λ b x i l h.
      let all : declared_arrays program ≡ arrays_of program.params = ap (λ ds. arrays_of program.params ++ ds) none ∙ append_nil (arrays_of program.params) in
      let w : is_within x.1 (get_or (extents_at (arrays_of program.params) p) x.0 []) ≡ true =
      subst (λ ds. is_within x.1 (get_or (extents_at ds p) x.0 []) ≡ true) all (within b x i (inl l)) in
      let below : x.0 < length (arrays_of program.params) = bare b x i l (beyond (arrays_of program.params) p x.1 x.0 h w) in
      absurd (omega arith);
}
