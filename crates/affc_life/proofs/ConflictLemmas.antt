-- The clash systems of an array are conflicts over the context.
use Rattle.std.proofs.Common.{◌≡◌, ℕ, zero, suc, ◌+◌, ◌*◌, ◌≤◌, ℤ, pos, IsTrue, List, [], ◌∷◌, length, map, take, get_or, Option, Some, refl, sym, ap, subst, ◌∙◌, inl, inr, arith}
use Rattle.std.specs.Prelude.{slice_get, int_le, int_lt, ◌&&◌}
use Rattle.std.specs.List.{All}
use Rattle.std.proofs.lemmas.List.Elements.{All-nil, All-cons}
use Rattle.affc_rows.specs.Forms.{Affine, value, values_of}
use Rattle.affc_system.specs.Systems.{IsPoint}
use Rattle.affc_system.specs.declared.pairs.PairSystem.{PairSystem}
use Rattle.affc_ast.specs.declared.tree.Instance.{Instance}
use Rattle.affc_ast.specs.declared.tree.Program.{Program}
use Rattle.affc_ast.specs.Trace.{trace, events}
use Rattle.affc_ast.specs.Values.{is_within}
use Rattle.affc_trace.specs.declared.schedule.Schedule.{Schedule}
use Rattle.affc_trace.specs.Law.{IsIn}
use Rattle.affc_trace.specs.Laws.{IsInContext}
use Rattle.affc_trace.specs.Target.{IsScheduleOf, within_limits}
use Rattle.affc_trace.proofs.Members.{to_map}
use Rattle.affc_domain.specs.Arrays.{declared_arrays, extents_at}
use Rattle.affc_domain.specs.Ranges.{number_ranges}
use Rattle.affc_domain.proofs.Lists.{both_true, true_le, true_lt, length_map}
use Rattle.affc_nest.specs.declared.nest.Access.{Access}
use Rattle.affc_nest.specs.declared.nest.ArrayInfo.{ArrayInfo}
use Rattle.affc_nest.specs.declared.nest.Entry.{Entry}
use Rattle.affc_nest.specs.Laws.{HasNest, NamesArrays, StaysWithin}
use Rattle.affc_nest.specs.Nests.{nest_of}
use Rattle.affc_nest.specs.Questions.{extents_or_none}
use Rattle.affc_nest.proofs.AccessLemmas.{context_is_the_context, extents_are_extents}
use Rattle.affc_nest.proofs.QuestionLemmas.{as_many}
use Rattle.affc_nest.proofs.QuestionProofs.{context_few}
use Rattle.affc_sched.proofs.LegalLemmas.{instance_of, entry_at}
use Rattle.affc_quast.specs.Sources.{HaveNearQuotients}
use Rattle.affc_quast.specs.Trees.{Tree}
use Rattle.affc_conflicts.specs.Conditions.{IsConflict, InContext, LiesWithin}
use Rattle.affc_life.specs.Clashes.{Clash, clash_of, of_reader, of_writer, clashes}
use Rattle.affc_life.specs.Laws.{AreFound, AreShaped, ClashesAreConflicts}
use Rattle.affc_life.proofs.BoxedLemmas.{clashes_are_boxed}
use Rattle.affc_life.proofs.FoundLemmas.{found_trees_keep_limits}
use Rattle.affc_life.proofs.LiveLemmas.{load_among, store_among, Cut, facts_at, cut_front, front_long, at_length, x_touched, y_touched, points_are_in_context, elements_differ}
use Rattle.affc_life.proofs.MadeLemmas.{Made, made}
use Rattle.affc_life.proofs.SeatedLemmas.{params_first, leaf_first}
use Rattle.affc_life.proofs.SizeLemmas.{few_subscripts, seats, rows_few}

-- ---- Elements within extents

lies_within : (extents : List Affine) (p x : List ℤ) → IsTrue (is_within x (values_of extents p)) → LiesWithin extents p x
lies_within [] p [] h = tt
lies_within [] p (x ∷ xs) h = absurd (cc)
lies_within (e ∷ es) p [] h = absurd (cc)
lies_within (e ∷ es) p (x ∷ xs) h =
    let a = both_true (int_le (pos 0) x && int_lt x (value e p)) (is_within xs (values_of es p)) h in
    let b = both_true (int_le (pos 0) x) (int_lt x (value e p)) a.0 in
    (true_le (pos 0) x b.0, true_lt x (value e p) b.1, lies_within es p xs a.1)

-- the extents of an array, at p
its_extents : (p : List ℤ) (infos : List ArrayInfo) (array : ℕ) (info : ArrayInfo) → slice_get infos array ≡ Some info → get_or (map (λ (a : ArrayInfo). values_of a.extents p) infos) array [] ≡ values_of info.extents p
its_extents p [] array info e = absurd (cc)
its_extents p (a ∷ infos) zero info e = ap (λ (o : Option ArrayInfo). values_of (extents_or_none o) p) e
its_extents p (a ∷ infos) (suc array) info e = its_extents p infos array info e

-- ---- One system

module _ (program : Program) (has : HasNest program) (named : NamesArrays program) (trees : List Tree) (found : AreFound (nest_of program) trees) (schedule : Schedule) (fits : IsScheduleOf program schedule) (slight : IsTrue (within_limits schedule))
    (array : ℕ) (info : ArrayInfo) (declared : slice_get (nest_of program).arrays array ≡ Some info) (good : (p : List ℤ) → IsInContext program p → StaysWithin program p × HaveNearQuotients program p (nest_of program) trees)
    (s : PairSystem) (asked : IsIn (clash_of s) (clashes (nest_of program) trees schedule array)) where
  abbrev m : ℕ
  m = length (number_ranges program.params)

  abbrev c : Clash
  c = clash_of s

  k : Made (nest_of program) trees schedule array (clash_of s)
  k = made (nest_of program) trees schedule array (clash_of s) asked

  shaped : AreShaped (nest_of program) trees
  shaped part load e tree at counts there = (found_trees_keep_limits (nest_of program) trees found part load e tree at counts there).shaped

  -- an element of the array that an instance touches lies within
  touched : (p : List ℤ) → IsInContext program p → (i : Instance) → IsIn i (trace program p) → (x : List ℤ) → IsIn (array, x) (events program p i) → LiesWithin info.extents p x
  touched p inside i runs x there =
      let arrays : List ArrayInfo = (nest_of program).arrays in
      let l : length p ≡ m = at_length program p inside in
      let are : get_or (extents_at (declared_arrays program) p) array [] ≡ values_of info.extents p =
      ap (λ ess. get_or ess array []) (sym (extents_are_extents program p has.plain l)) ∙ its_extents p arrays array info declared in
      lies_within info.extents p x (subst (λ es. IsTrue (is_within x es)) are ((good p inside).0.accesses i (array, x) runs there))

  -- the dimensions of the array
  dimensions : (e : Entry) → IsIn e (nest_of program).entries → (x : Access) → IsIn x e.accesses → x.array.0 ≡ array → length x.subs ≡ length info.extents
  dimensions e i x j of_array =
      as_many program e.part e named (entry_at program has e i) x j ∙ ap (λ n. length (extents_or_none (slice_get (nest_of program).arrays n))) of_array ∙ ap (λ o. length (extents_or_none o)) declared

  parameters : length (number_ranges program.params) ≤ s.system.columns
  parameters =
      let seated = seats program has named trees found schedule fits slight array (clash_of s) k in
      through m k.leaf.columns (k.leaf.columns + length k.of_leaf.writer.loops) s.system.columns (params_first (nest_of program) k.reader k.leaf k.of_leaf.writer seated) (leaf_first (nest_of program) k.reader k.leaf k.of_leaf.writer seated)
      (ap (λ (d : Clash). d.system.columns) k.of_leaf.is)
    where
      through : (a b d n : ℕ) → a ≤ b → b ≤ d → n ≡ d → a ≤ n
      through a b d n h g e = omega (arith, h, g, e)

  x_many : length s.x.items ≡ length info.extents
  x_many =
      ap (λ (d : Clash). length d.x) k.of_leaf.is ∙ length_map (of_reader (nest_of program) k.reader k.leaf k.of_leaf.writer) k.load.subs
      ∙ dimensions k.reader k.reader_in k.load (load_among program has trees schedule array shaped (clash_of s) k) k.loads

  y_many : length s.y.items ≡ length info.extents
  y_many =
      ap (λ (d : Clash). length d.y) k.of_leaf.is ∙ length_map (of_writer (nest_of program) k.reader k.leaf k.of_leaf.writer) k.of_leaf.store.subs
      ∙ dimensions k.of_leaf.writer k.of_leaf.writer_in k.of_leaf.store (store_among program has trees schedule array shaped (clash_of s) k) k.of_leaf.stores

  module _ (z : List ℤ) (point : IsPoint s.system z) where
    abbrev p : List ℤ
    p = take m z

    long : length (take (length (number_ranges program.params)) z) ≡ length (number_ranges program.params)
    long = front_long program has trees schedule array shaped (clash_of s) k z point

    t : Cut program has trees schedule array shaped (clash_of s) k (take (length (number_ranges program.params)) z) z
    t = cut_front program has trees schedule array shaped (clash_of s) k z point

    inside : IsInContext program (take (length (number_ranges program.params)) z)
    inside = points_are_in_context program trees schedule array (clash_of s) z has shaped asked point

    in_context : InContext (nest_of program).context (nest_of program).params (take (length (number_ranges program.params)) z)
    in_context = let q = (context_is_the_context program p has.plain).0 inside in record { meets = q.1; inside = q.0 }

    x_lies : LiesWithin info.extents (take (length (number_ranges program.params)) z) (values_of s.x.items z)
    x_lies =
        touched p inside (instance_of k.reader t.bs) (facts_at program has trees schedule array shaped (clash_of s) k p long z t).reader_runs (values_of s.x.items z) (x_touched program has trees schedule array shaped (clash_of s) k p long z t)

    y_lies : LiesWithin info.extents (take (length (number_ranges program.params)) z) (values_of s.y.items z)
    y_lies =
        touched p inside (instance_of k.of_leaf.writer t.cs) (facts_at program has trees schedule array shaped (clash_of s) k p long z t).writer_runs (values_of s.y.items z) (y_touched program has trees schedule array shaped (clash_of s) k p long z t)

  pub is_conflict : IsConflict (nest_of program).context (nest_of program).params info.extents s
  is_conflict = record {
    boxed = clashes_are_boxed program trees schedule array (clash_of s) has shaped (λ p inside. (good p inside).1) asked;
    parameters = parameters;
    in_context = in_context;
    x_each = x_many;
    y_each = y_many;
    differ = λ z point. elements_differ program trees schedule array (clash_of s) z has shaped asked point;
    x_within = x_lies;
    y_within = y_lies;
    room = sum (length s.system.rows) (length (nest_of program).context.rows) (length info.extents) (length k.load.subs) (rows_few program has named trees found schedule fits slight array (clash_of s) k)
        (context_few (nest_of program) (record { program = program; has = has; is = refl })) (sym (dimensions k.reader k.reader_in k.load (load_among program has trees schedule array shaped (clash_of s) k) k.loads))
        (few_subscripts program has named k.reader k.reader_in k.load (load_among program has trees schedule array shaped (clash_of s) k));
  }
    where
      sum : (r d e l : ℕ) → r ≤ 638 → d ≤ 32 → e ≡ l → l ≤ 4 → r + d + 2 * e ≤ 1024
      sum r d e l h g i j = omega (arith, h, g, i, j)

-- ---- The law

pub clashes_are_conflicts : ClashesAreConflicts
clashes_are_conflicts program trees schedule array info systems has named fits slight found good declared are =
    all systems (λ s i. is_conflict program has named trees found schedule fits slight array info declared good s (subst (IsIn (clash_of s)) are (to_map clash_of systems s i)))
  where
    all : (ss : List PairSystem) → ((s : PairSystem) → IsIn s ss → IsConflict (nest_of program).context (nest_of program).params info.extents s) → All (IsConflict (nest_of program).context (nest_of program).params info.extents) ss
    all [] h = All-nil (IsConflict (nest_of program).context (nest_of program).params info.extents)
    all (s ∷ ss) h = All-cons (IsConflict (nest_of program).context (nest_of program).params info.extents) s ss (h s (inl refl)) (all ss (λ r i. h r (inr i)))
