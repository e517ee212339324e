-- A leaf none of whose questions has a point names the source.
use Rattle.std.proofs.Common.{◌≡◌, ◌≢◌, ℕ, ◌+◌, ◌≤◌, ℤ, pos, ◌≤ℤ◌, ◌+ℤ◌, Bool, true, false, IsTrue, if◌then◌else◌, List, [], ◌∷◌, ◌++◌, length, map, flat_map, Option, Some, None, refl, sym, ap, subst, ◌∙◌, ◌⊎◌, inl, inr, arith}
use Rattle.std.specs.Prelude.{nat_eq, int_le}
use Rattle.std.specs.List.{All}
use Rattle.std.proofs.lemmas.Bool.{eq-eqb, eqb-true}
use Rattle.std.proofs.lemmas.Int.{ints}
use Rattle.std.proofs.lemmas.Option.{same_Some}
use Rattle.std.proofs.lemmas.List.Elements.{All-nil, All-cons}
use Rattle.affc_rows.specs.Forms.{Affine, value, values_of, HaveColumns}
use Rattle.affc_system.specs.Boxes.{InBox}
use Rattle.affc_system.specs.Systems.{Meets, Met, IsPoint}
use Rattle.affc_ast.specs.declared.tree.Instance.{Instance}
use Rattle.affc_ast.specs.declared.tree.Program.{Program}
use Rattle.affc_ast.specs.declared.tree.Rel.TheVariants.{Less, Greater}
use Rattle.affc_ast.specs.Store.{Element}
use Rattle.affc_ast.specs.Trace.{trace, store_of}
use Rattle.affc_trace.specs.Inverses.{columns_from}
use Rattle.affc_trace.specs.Law.{IsIn}
use Rattle.affc_trace.specs.Orders.{Earlier}
use Rattle.affc_trace.proofs.EndedReads.{append_assoc}
use Rattle.affc_trace.proofs.LastStores.{append_nil}
use Rattle.affc_trace.proofs.Legality.{earlier_is_in, either_way}
use Rattle.affc_trace.proofs.Members.{to_first, to_second, to_map, to_flat_map, both_hold}
use Rattle.affc_trace.proofs.Runs.{length_append}
use Rattle.affc_trace.proofs.Sources.{source_in_its_own_words}
use Rattle.affc_domain.specs.Ranges.{number_ranges}
use Rattle.affc_domain.proofs.Lists.{length_map, stands_in}
use Rattle.affc_domain.proofs.ColumnLemmas.{first_columns, later_columns, append_columns, values_append, values_long}
use Rattle.affc_domain.proofs.RangeLemmas.{box_append}
use Rattle.affc_nest.specs.declared.nest.Access.{Access}
use Rattle.affc_nest.specs.declared.nest.Entry.{Entry}
use Rattle.affc_nest.specs.declared.nest.Nest.{Nest}
use Rattle.affc_nest.specs.Parts.{statement_of}
use Rattle.affc_nest.specs.Domains.{compare_rows}
use Rattle.affc_nest.specs.Laws.{element_at}
use Rattle.affc_nest.specs.Nests.{nest_of}
use Rattle.affc_nest.proofs.DomainLemmas.{to_all, say_rows}
use Rattle.affc_nest.proofs.EntryLemmas.{entries_stand, ranges_hold_iterators}
use Rattle.affc_order.specs.Laws.{IsPointOfOne}
use Rattle.affc_order.specs.Posed.{Posed, IsPosed, form_at}
use Rattle.affc_order.specs.Systems.{source_order}
use Rattle.affc_order.proofs.ColumnLemmas.{at_value, at_values, at_width, from_width, from_long, segment_at}
use Rattle.affc_order.proofs.LexLemmas.{both_met}
use Rattle.affc_sched.specs.Questions.{equal_rows}
use Rattle.affc_sched.proofs.LegalLemmas.{Stood, stood, entry_at, statement_at, rows_wide, subs_wide, runs, as_many_each}
use Rattle.affc_sched.proofs.PointLemmas.{values_equal}
use Rattle.affc_quast.specs.Laws.{IsOver}
use Rattle.affc_quast.specs.Leaves.{padded, negated, Leaf, leaves_of, path_ranges}
use Rattle.affc_quast.specs.Limits.{Shaped}
use Rattle.affc_quast.specs.Sources.{loads_in}
use Rattle.affc_quast.specs.Trees.{Tree, named_at, instance_at, quotients_at}
use Rattle.affc_quast.proofs.RangeLemmas.{leaves_are_over, leaf_is_boxed}
use Rattle.affc_quast.proofs.LeafLemmas.{says_negated, leaf_is_named, leaf_is_reached, padded_values, short_values, padded_columns}
use Rattle.affc_flow.specs.Laws.{Loads, IsSourceOf, NoneBegins, LeafNamesSource, TreeNamesSource}
use Rattle.affc_flow.specs.Questions.{Question, Writer, is_temporary, writers, poses, path_rows, reader_posed, here, beside_columns, beside_rows, beside, writer_posed, before_load, earlier_questions, after_named, between_questions, of_named, outside_questions, apart_questions, not_earlier_questions, named_questions, questions_among, input_questions, questions_for, leaf_questions, tree_questions}
use Rattle.affc_flow.proofs.PathLemmas.{order_at, parameters_are, reader_stands, path_met, read_value, read_wide, reader_is_posed, point_is, beside_long, beside_met, writer_is_posed}
use Rattle.affc_flow.specs.Writers.{Writes}
use Rattle.affc_flow.proofs.WriterLemmas.{stored_there, from_writers, to_writers}

-- no question has a point that begins with these numbers and is held by its ranges
abbrev Avoids : (Holds : List (ℤ × ℤ) → List ℤ → Type 0) → List Question → List ℤ → Type 0
Avoids Holds questions zs = (q : Question) (more : List ℤ) → IsIn q questions → IsPoint q.system (zs ++ more) → Holds q.ranges (zs ++ more) → ⊥

-- Which points ranges hold is left open: those in the box, or all.
module _ (Holds : List (ℤ × ℤ) → List ℤ → Type 0) (join : (rs ss : List (ℤ × ℤ)) (xs ys : List ℤ) → Holds rs xs → InBox ss ys → Holds (rs ++ ss) (xs ++ ys))
    (program : Program) (p its qs : List ℤ) (e : Entry) (x : Access) (ranges : List (ℤ × ℤ)) (l : Leaf) (h : Loads program p its e x)
    (over : (columns : ℕ) × IsOver columns l) (wide : length ((p ++ its) ++ qs) ≡ l.columns) (met : Met ((p ++ its) ++ qs) l.rows) (inside : Holds (path_ranges ranges l.divisions) ((p ++ its) ++ qs)) where
  abbrev n : Nest
  n = nest_of program

  abbrev zs : List ℤ
  zs = (p ++ its) ++ qs

  abbrev b : Instance
  b = record { statement = e.part; iterators = its }

  abbrev read : Element
  read = element_at (p ++ its) x

  len : length p ≡ length (number_ranges program.params)
  len = parameters_are program p its e x h

  s : Stood program p e its
  s = reader_stands program p its e x h

  -- a point of the path that meets rows is one of their question
  here_point : (rows : List Affine) → All (Meets zs) rows → IsPoint (here n e x ranges l rows).system (zs ++ [])
  here_point rows a =
      let q : All (Meets (zs ++ [])) rows = subst (λ ys. All (Meets ys) rows) (sym (append_nil zs)) a in
      record {
        width = ap length (append_nil zs) ∙ wide;
        meets = both_met (zs ++ []) (path_rows n e x ranges l l.columns) rows (path_met program p its qs e x ranges l h over wide met l.columns []) q;
      }

  here_inside : Holds (path_ranges ranges l.divisions) (zs ++ [])
  here_inside = subst (Holds (path_ranges ranges l.divisions)) (sym (append_nil zs)) inside

  -- ---- Other stores of the element

  -- an instance that stores what is read, with its entry and store
  record Other (v : Instance) : Type 0 where
    entry : Entry
    stands : Stood program p entry v.iterators
    is : record { statement = entry.part; iterators = v.iterators } ≡ v
    access : Access
    made : IsIn access entry.accesses
    writes : Writes (nest_of program) x.array.0 entry access
    same : values_of x.subs (p ++ its) ≡ values_of access.subs (p ++ v.iterators)

  other : (v : Instance) → IsIn v (trace program p) → element_at (p ++ its) x ≡ store_of program p v → Other v
  other v i stored =
      let r = stood program h.has p v h.context i in
      let is : record { statement = r.0.part; iterators = v.iterators } ≡ v = λ k. record { statement = r.1 k; iterators = v.iterators } in
      let y = stored_there program h.has p len r.0 v.iterators r.2 in
      let element : element_at (p ++ its) x ≡ element_at (p ++ v.iterators) y.access = stored ∙ ap (store_of program p) (sym is) ∙ sym y.is in
      record {
        entry = r.0;
        stands = r.2;
        is = is;
        access = y.access;
        made = y.made;
        writes = record { among = r.2.among; alive = r.2.alive; last = y.last; of_array = sym (ap (λ (z : Element). z.0) element) };
        same = ap (λ (z : Element). z.1) element;
      }

  -- the systems of such an instance that is earlier than the load
  module _ (v : Instance) (o : Other v) (i : IsIn v (trace program p)) where
    there : IsIn (record { statement = o.entry.part; iterators = v.iterators }) (trace program p)
    there = subst (λ z. IsIn z (trace program p)) (sym o.is) i

    columns_are : beside_columns n e x ranges l o.entry o.access ≡ length (zs ++ v.iterators)
    columns_are = beside_long program p its qs e x ranges l h over wide met o.entry v.iterators o.stands there o.access o.made

    rows_met : All (Meets (zs ++ v.iterators)) (beside_rows n e x ranges l o.entry o.access)
    rows_met = beside_met program p its qs e x ranges l h over wide met o.entry v.iterators o.stands there o.access o.made o.same

    before : Earlier (trace program p) v b → IsPointOfOne (before_load n e x ranges l o.entry o.access) (zs ++ v.iterators)
    before f =
        let columns = beside_columns n e x ranges l o.entry o.access in
        (order_at program p ((its ++ qs) ++ v.iterators) (zs ++ v.iterators) columns (writer_posed n e x ranges l o.entry o.access) (reader_posed n e x ranges l columns)
        (record { statement = o.entry.part; iterators = v.iterators }) b (point_is program p its qs e x ranges l h over wide met v.iterators) columns_are h.has there h.runs
        (writer_is_posed program p its qs e x ranges l h over wide met o.entry v.iterators o.stands there o.access o.made)
        (reader_is_posed program p its qs e x ranges l h over wide met columns v.iterators columns_are)).1
        (subst (λ z. Earlier (trace program p) z b) (sym o.is) f)

    beside_point : (rows : List Affine) → All (Meets (zs ++ v.iterators)) rows → IsPoint (beside n e x ranges l o.entry o.access rows).system (zs ++ v.iterators)
    beside_point rows a = record { width = sym columns_are; meets = both_met (zs ++ v.iterators) (beside_rows n e x ranges l o.entry o.access) rows rows_met a }

    beside_inside : Holds (path_ranges ranges l.divisions ++ o.entry.ranges) (zs ++ v.iterators)
    beside_inside =
        join (path_ranges ranges l.divisions) o.entry.ranges zs v.iterators inside
        ((ranges_hold_iterators program o.entry.part o.entry h.has o.stands.at o.stands.alive).hold p (record { statement = o.entry.part; iterators = v.iterators }) refl h.context there)

  -- ---- A leaf that names none

  none_before : IsTrue (is_temporary (nest_of program) x.array.0) ⊎ (is_temporary (nest_of program) x.array.0 ≡ false) → Avoids Holds (input_questions (nest_of program) e x ranges l) ((p ++ its) ++ qs)
      → (v : Instance) → element_at (p ++ its) x ≡ store_of program p v → Earlier (trace program p) v (record { statement = e.part; iterators = its }) → ⊥
  none_before (inl temp) none v stored f =
      none (here n e x ranges l []) []
      (subst (λ t. IsIn (here n e x ranges l []) (if t then here n e x ranges l [] ∷ [] else flat_map (λ (v : Writer). earlier_questions n e x ranges l v.0 v.1) (writers n x.array.0))) (sym temp) (inl refl))
      (here_point [] (All-nil (Meets zs))) here_inside
  none_before (inr kept) none v stored f =
      let i = earlier_is_in (trace program p) v b f in
      let o = other v i stored in
      let u = before v o i f in
      let q = beside n e x ranges l o.entry o.access u.system.rows in
      let asked : IsIn q (flat_map (λ (v : Writer). earlier_questions n e x ranges l v.0 v.1) (writers n x.array.0)) =
      to_flat_map (λ (v : Writer). earlier_questions n e x ranges l v.0 v.1) (writers n x.array.0) (o.entry, o.access) q (to_writers n x.array.0 o.entry o.access o.writes)
      (to_map (λ u. beside n e x ranges l o.entry o.access u.rows) (before_load n e x ranges l o.entry o.access) u.system u.there) in
      none q v.iterators
      (subst (λ t. IsIn q (if t then here n e x ranges l [] ∷ [] else flat_map (λ (v : Writer). earlier_questions n e x ranges l v.0 v.1) (writers n x.array.0))) (sym kept) asked)
      (beside_point v o i u.system.rows u.meets.meets) (beside_inside v o i)

  input_leaf : Avoids Holds (input_questions (nest_of program) e x ranges l) ((p ++ its) ++ qs) → IsSourceOf program p its e x None
  input_leaf none = record {
    is = (source_in_its_own_words program p b read).1.1 (record { stands = h.runs; none = none_before (chosen (is_temporary n x.array.0) refl) none });
    written = λ temp. absurd (none (here n e x ranges l []) []
        (subst (λ t. IsIn (here n e x ranges l []) (if t then here n e x ranges l [] ∷ [] else flat_map (λ (v : Writer). earlier_questions n e x ranges l v.0 v.1) (writers n x.array.0))) (sym temp) (inl refl))
        (here_point [] (All-nil (Meets zs))) here_inside);
  }
    where
      chosen : (t : Bool) → is_temporary (nest_of program) x.array.0 ≡ t → IsTrue (is_temporary (nest_of program) x.array.0) ⊎ (is_temporary (nest_of program) x.array.0 ≡ false)
      chosen true e = inl e
      chosen false e = inr e

  -- ---- A leaf that names an instance of w, whose store is z

  module _ (a : Posed) (l_names : l.named ≡ Some a) (w : Entry) (z : Access) (writes : Writes (nest_of program) x.array.0 w z) (z_made : IsIn z w.accesses)
      (number : w.part ≡ a.part) (many : length a.iterators ≡ length w.loops) (none : Avoids Holds (named_questions (nest_of program) e x ranges l a w z) ((p ++ its) ++ qs)) where
    abbrev vals : List ℤ
    vals = values_of a.iterators zs

    abbrev images : List Affine
    images = columns_from l.columns 0 (length (number_ranges program.params)) ++ a.iterators

    forms_wide : HaveColumns l.columns a.iterators
    forms_wide = over.1.named a l_names

    images_wide : HaveColumns (length zs) images
    images_wide =
        subst (λ k. HaveColumns k images) (sym wide)
        (append_columns l.columns (columns_from l.columns 0 (length (number_ranges program.params))) a.iterators (from_width l.columns 0 (length (number_ranges program.params))) forms_wide)

    images_value : values_of images zs ≡ p ++ vals
    images_value =
        values_append (columns_from l.columns 0 (length (number_ranges program.params))) a.iterators zs
        ∙ ap (λ ys. ys ++ vals) (segment_at zs [] p (its ++ qs) l.columns 0 (length (number_ranges program.params)) (append_assoc p its qs) (sym wide) refl (sym len))

    images_long : length images ≡ length p + length w.loops
    images_long =
        length_append (columns_from l.columns 0 (length (number_ranges program.params))) a.iterators
        ∙ ap (λ k. k + length a.iterators) (from_long l.columns 0 (length (number_ranges program.params)) ∙ sym len) ∙ ap (λ k. length p + k) many

    w_stands : Stood program p w vals
    w_stands = record {
      among = writes.among;
      at = entry_at program h.has w writes.among;
      alive = writes.alive;
      long = values_long a.iterators zs ∙ many;
    }

    w_width : length images ≡ length p + length vals
    w_width = images_long ∙ ap (λ k. length p + k) (sym w_stands.long)

    -- in each row of the domain
    row_met : (r : Affine) → IsIn r w.domain.rows → length r.coefs ≡ length p + length vals → Meets (p ++ vals) r
    row_met r i k = by_test (int_le (pos 0) (value (of_named n e x ranges l a w z r) zs)) refl
      where
        f : Affine
        f = of_named n e x ranges l a w z r

        is : value (of_named n e x ranges l a w z r) zs ≡ value r (p ++ vals)
        is =
            ap (λ c. value (form_at c images r) zs) (sym wide) ∙ at_value images r zs (w_width ∙ sym k) images_wide ∙ ap (value r) images_value

        f_width : length (of_named n e x ranges l a w z r).coefs ≡ length zs
        f_width = first_columns l.columns (of_named n e x ranges l a w z r) [] (at_width l.columns images (r ∷ [])) ∙ sym wide

        above : (y : ℤ) → int_le (pos 0) y ≡ true → pos 0 ≤ℤ y
        above y e = grind (arith, ints)

        by_test : (t : Bool) → int_le (pos 0) (value (of_named n e x ranges l a w z r) zs) ≡ t → Meets (p ++ vals) r
        by_test true q = subst (λ y. pos 0 ≤ℤ y) is (above (value (of_named n e x ranges l a w z r) zs) q)
        by_test false q =
            absurd (none (here n e x ranges l (negated (of_named n e x ranges l a w z r) ∷ [])) []
            (to_first (outside_questions n e x ranges l a w z) _ (here n e x ranges l (negated (of_named n e x ranges l a w z r) ∷ [])) (to_map (λ r. here n e x ranges l (negated (of_named n e x ranges l a w z r) ∷ [])) w.domain.rows r i))
            (here_point (negated (of_named n e x ranges l a w z r) ∷ [])
            (All-cons (Meets zs) (negated (of_named n e x ranges l a w z r)) [] (says_negated (of_named n e x ranges l a w z r) zs f_width q) (All-nil (Meets zs)))) here_inside)

    all_met : (rows : List Affine) → ((r : Affine) → IsIn r rows → IsIn r w.domain.rows) → HaveColumns (length p + length vals) rows → All (Meets (p ++ vals)) rows
    all_met [] i k = All-nil (Meets (p ++ vals))
    all_met (r ∷ rows) i k =
        All-cons (Meets (p ++ vals)) r rows (row_met r (i r (inl refl)) (first_columns (length p + length vals) r rows k)) (all_met rows (λ g j. i g (inr j)) (later_columns (length p + length vals) r rows k))

    abbrev c : Instance
    c = record { statement = w.part; iterators = vals }

    c_runs : IsIn (record { statement = w.part; iterators = vals }) (trace program p)
    c_runs = (runs program h.has p len w vals w_stands (all_met w.domain.rows (λ r i. i) (rows_wide program h.has p len w vals w_stands))).1

    -- ---- what it writes

    differs : (f g : Affine) (fs gs : List Affine) → Avoids Holds (here n e x ranges l (compare_rows Greater f g) ∷ here n e x ranges l (compare_rows Less f g) ∷ apart_questions n e x ranges l a w z fs gs) zs
        → length f.coefs ≡ length zs → length g.coefs ≡ length zs → value f zs ≡ value g zs
    differs f g fs gs apart u v = equal (value f zs) (value g zs)
        (λ k. apart (here n e x ranges l (compare_rows Greater f g)) [] (inl refl) (here_point (compare_rows Greater f g) (to_all zs (compare_rows Greater f g) (say_rows f g zs u v Greater k))) here_inside)
        (λ k. apart (here n e x ranges l (compare_rows Less f g)) [] (inr (inl refl)) (here_point (compare_rows Less f g) (to_all zs (compare_rows Less f g) (say_rows f g zs u v Less k))) here_inside)
      where
        equal : (y z : ℤ) → ((z +ℤ pos 1) ≤ℤ y → ⊥) → ((y +ℤ pos 1) ≤ℤ z → ⊥) → y ≡ z
        equal y z f g = grind (arith, ints)

    same_values : (fs gs : List Affine) → Avoids Holds (apart_questions n e x ranges l a w z fs gs) zs → HaveColumns (length zs) fs → HaveColumns (length zs) gs → length fs ≡ length gs → values_of fs zs ≡ values_of gs zs
    same_values [] [] apart u v k = refl
    same_values [] (g ∷ gs) apart u v k = absurd (omega arith)
    same_values (f ∷ fs) [] apart u v k = absurd (omega arith)
    same_values (f ∷ fs) (g ∷ gs) apart u v k = λ i. differs f g fs gs apart (first_columns (length zs) f fs u) (first_columns (length zs) g gs v) i ∷ same_values fs gs (λ q more j. apart q more (inr (inr j))) (later_columns (length zs) f fs u) (later_columns (length zs) g gs v) (omega (arith, k)) i

    equal_elements : values_of x.subs (p ++ its) ≡ values_of z.subs (p ++ vals)
    equal_elements =
        let written = map (of_named n e x ranges l a w z) z.subs in
        let reads = map (padded l.columns) x.subs in
        let written_value : values_of written zs ≡ values_of z.subs (p ++ vals) =
        ap (λ k. values_of (map (form_at k images) z.subs) zs) (sym wide)
        ∙ at_values images z.subs zs (subst (λ k. HaveColumns k z.subs) (sym w_width) (subs_wide program h.has p len w vals w_stands z z_made)) images_wide ∙ ap (values_of z.subs) images_value in
        let reads_value : values_of reads zs ≡ values_of x.subs (p ++ its) =
        subst (λ ys. values_of reads ys ≡ values_of x.subs (p ++ its)) (append_nil zs) (read_value program p its qs e x ranges l h over wide met l.columns [] h.made) in
        let count : length written ≡ length reads =
        length_map (of_named n e x ranges l a w z) z.subs ∙ as_many_each program h.has h.named w e w_stands.at h.entry z x z_made h.made writes.of_array ∙ sym (length_map (padded l.columns) x.subs) in
        sym reads_value
        ∙ sym (same_values written reads (λ q more j. none q more (to_second (outside_questions n e x ranges l a w z) _ q (to_first (apart_questions n e x ranges l a w z written reads) _ q j)))
        (subst (λ k. HaveColumns k written) (sym wide) (at_width l.columns images z.subs))
        (subst (λ k. HaveColumns k reads) (sym wide) (read_wide program p its qs e x ranges l h over wide met l.columns (at_most wide))) count)
        ∙ written_value
      where
        at_most : {i j : ℕ} → i ≡ j → i ≤ j
        at_most e = omega (arith, e)

    stored : element_at (p ++ its) x ≡ store_of program p (record { statement = w.part; iterators = vals })
    stored =
        let y = stored_there program h.has p len w vals w_stands in
        let is : y.access ≡ z = same_Some y.access z (sym y.last ∙ writes.last) in
        let element : element_at (p ++ its) x ≡ element_at (p ++ vals) z = λ i. (sym writes.of_array i, equal_elements i) in
        element ∙ ap (element_at (p ++ vals)) (sym is) ∙ y.is

    -- ---- where it stands

    named_posed : IsPosed zs a c
    named_posed = record { part = sym number; iterators = refl; columns = subst (λ k. HaveColumns k a.iterators) (sym wide) forms_wide }

    read_posed : IsPosed zs (reader_posed n e x ranges l l.columns) b
    read_posed =
        subst (λ ys. IsPosed ys (reader_posed n e x ranges l l.columns) b) (append_nil zs)
        (reader_is_posed program p its qs e x ranges l h over wide met l.columns [] (sym wide ∙ sym (ap length (append_nil zs))))

    asked_here : (q : Question) → IsIn q (not_earlier_questions n e x ranges l a w z) → IsIn q (named_questions n e x ranges l a w z)
    asked_here q j =
        to_second (outside_questions n e x ranges l a w z) _ q
        (to_second (apart_questions n e x ranges l a w z (map (of_named n e x ranges l a w z) z.subs) (map (padded l.columns) x.subs)) _ q
        (to_first (not_earlier_questions n e x ranges l a w z) _ q j))

    not_after : Earlier (trace program p) b c → ⊥
    not_after f =
        let u = (order_at program p (its ++ qs) zs l.columns (reader_posed n e x ranges l l.columns) a b c (append_assoc p its qs) (sym wide) h.has h.runs c_runs read_posed named_posed).1 f in
        let q = here n e x ranges l u.system.rows in
        none q []
        (asked_here q (to_first (map (λ o. here n e x ranges l o.rows) (source_order n l.columns (reader_posed n e x ranges l l.columns) a)) _ q
        (to_map (λ o. here n e x ranges l o.rows) (source_order n l.columns (reader_posed n e x ranges l l.columns) a) u.system u.there)))
        (here_point u.system.rows u.meets.meets) here_inside

    apart : c ≢ b
    apart same =
        let rows = equal_rows (reader_posed n e x ranges l l.columns).iterators a.iterators in
        let q = here n e x ranges l rows in
        let parts : e.part ≡ a.part = sym (ap (λ (i : Instance). i.statement) same) ∙ number in
        let own : e.statement ≡ e.part = ((entries_stand program h.has).1 e.part e h.entry).statement in
        let statements : e.statement ≡ statement_of n a.part = own ∙ sym (statement_at program h.has e h.entry) ∙ ap (statement_of n) parts in
        none q []
        (asked_here q (to_second (map (λ o. here n e x ranges l o.rows) (source_order n l.columns (reader_posed n e x ranges l l.columns) a)) _ q
        (subst (λ t. IsIn q (if t then here n e x ranges l rows ∷ [] else [])) (sym (eq-eqb e.statement (statement_of n a.part) statements)) (inl refl))))
        (here_point rows (values_equal zs (reader_posed n e x ranges l l.columns).iterators a.iterators read_posed.columns named_posed.columns
        (read_posed.iterators ∙ sym (ap (λ (i : Instance). i.iterators) same)))) here_inside

    nothing_between : (v : Instance) → element_at (p ++ its) x ≡ store_of program p v → Earlier (trace program p) (record { statement = w.part; iterators = vals }) v
        → Earlier (trace program p) v (record { statement = e.part; iterators = its }) → ⊥
    nothing_between v same f g =
        let i = earlier_is_in (trace program p) v b g in
        let o = other v i same in
        let u = before v o i g in
        let columns = beside_columns n e x ranges l o.entry o.access in
        let named : Posed = record a { iterators = map (padded columns) a.iterators } in
        let long : columns ≡ length (zs ++ v.iterators) = columns_are v o i in
        let posed : IsPosed (zs ++ v.iterators) named c = record {
          part = sym number;
          iterators = padded_values columns a.iterators (zs ++ v.iterators) ∙ short_values l.columns a.iterators zs v.iterators (at_most (sym wide)) forms_wide;
          columns = subst (λ k. HaveColumns k (map (padded columns) a.iterators)) long (padded_columns l.columns columns a.iterators (first_of l.columns (length o.entry.loops)) forms_wide);
        } in
        let t = (order_at program p ((its ++ qs) ++ v.iterators) (zs ++ v.iterators) columns named (writer_posed n e x ranges l o.entry o.access)
        c (record { statement = o.entry.part; iterators = v.iterators }) (point_is program p its qs e x ranges l h over wide met v.iterators) long h.has c_runs (there v o i) posed
        (writer_is_posed program p its qs e x ranges l h over wide met o.entry v.iterators o.stands (there v o i) o.access o.made)).1
        (subst (λ z. Earlier (trace program p) c z) (sym o.is) f) in
        let q = beside n e x ranges l o.entry o.access (t.system.rows ++ u.system.rows) in
        let asked : IsIn q (flat_map (λ (v : Writer). between_questions n e x ranges l v.0 v.1 a) (writers n x.array.0)) =
        to_flat_map (λ (v : Writer). between_questions n e x ranges l v.0 v.1 a) (writers n x.array.0) (o.entry, o.access) q (to_writers n x.array.0 o.entry o.access o.writes)
        (to_flat_map (λ r. map (λ u. beside n e x ranges l o.entry o.access (r.rows ++ u.rows)) (before_load n e x ranges l o.entry o.access)) (after_named n e x ranges l o.entry o.access a) t.system q t.there
        (to_map (λ u. beside n e x ranges l o.entry o.access (t.system.rows ++ u.rows)) (before_load n e x ranges l o.entry o.access) u.system u.there)) in
        none q v.iterators
        (to_second (outside_questions n e x ranges l a w z) _ q
        (to_second (apart_questions n e x ranges l a w z (map (of_named n e x ranges l a w z) z.subs) (map (padded l.columns) x.subs)) _ q
        (to_second (not_earlier_questions n e x ranges l a w z) _ q asked)))
        (beside_point v o i (t.system.rows ++ u.system.rows) (both_met (zs ++ v.iterators) t.system.rows u.system.rows t.meets.meets u.meets.meets)) (beside_inside v o i)
      where
        at_most : {i j : ℕ} → i ≡ j → i ≤ j
        at_most e = omega (arith, e)

        first_of : (i j : ℕ) → i ≤ i + j
        first_of i j = omega arith

    named_leaf : IsSourceOf program p its e x (Some (record { statement = a.part; iterators = values_of a.iterators zs }))
    named_leaf =
        let is : c ≡ record { statement = a.part; iterators = vals } = λ i. record { statement = number i; iterators = vals } in
        let earlier : Earlier (trace program p) c b = elim (either_way (trace program p) c b apart c_runs h.runs) [ inl f ↦ f | inr f ↦ absurd (not_after f) ] in
        subst (λ i. IsSourceOf program p its e x (Some i)) is (record {
          is = ((source_in_its_own_words program p b read).0 c).1 (record { earlier = earlier; stores = stored; none_between = nothing_between });
          written = λ temp. (c, refl);
        })

  -- ---- A leaf

  among : (a : Posed) → l.named ≡ Some a → (ws : List Writer) → ((w : Writer) → IsIn w ws → IsIn w (writers (nest_of program) x.array.0)) → Avoids Holds (questions_among (nest_of program) e x ranges l a ws) ((p ++ its) ++ qs)
      → IsSourceOf program p its e x (Some (record { statement = a.part; iterators = values_of a.iterators ((p ++ its) ++ qs) }))
  among a named [] within none = absurd (none (here n e x ranges l []) [] (inl refl) (here_point [] (All-nil (Meets zs))) here_inside)
  among a named (w ∷ ws) within none = by_test (poses a w.0) refl (among a named ws (λ v i. within v (inr i)))
    where
      by_test : (t : Bool) → poses a w.0 ≡ t
          → (Avoids Holds (questions_among (nest_of program) e x ranges l a ws) ((p ++ its) ++ qs) → IsSourceOf program p its e x (Some (record { statement = a.part; iterators = values_of a.iterators ((p ++ its) ++ qs) })))
          → IsSourceOf program p its e x (Some (record { statement = a.part; iterators = values_of a.iterators ((p ++ its) ++ qs) }))
      by_test true q rest =
          let f = from_writers n x.array.0 w (within w (inl refl)) in
          let both = both_hold (nat_eq w.0.part a.part) (nat_eq (length a.iterators) (length w.0.loops)) q in
          named_leaf a named w.0 w.1 f (stands_in w.0.accesses (loads_in w.0) w.1 f.last) (eqb-true w.0.part a.part both.0) (eqb-true (length a.iterators) (length w.0.loops) both.1)
          (subst (λ t. Avoids Holds (if t then named_questions n e x ranges l a w.0 w.1 else questions_among n e x ranges l a ws) zs) q none)
      by_test false q rest = rest (subst (λ t. Avoids Holds (if t then named_questions n e x ranges l a w.0 w.1 else questions_among n e x ranges l a ws) zs) q none)

  leaf_names : (o : Option Posed) → l.named ≡ o → Avoids Holds (questions_for (nest_of program) e x ranges l o) ((p ++ its) ++ qs) → IsSourceOf program p its e x (instance_at o ((p ++ its) ++ qs))
  leaf_names None named none = input_leaf none
  leaf_names (Some a) named none = among a named (writers n x.array.0) (λ w i. i) none

-- however many of the columns are quotients of the leaf's own divisions
pub leaf_names_with : (program : Program) (p its qs : List ℤ) (e : Entry) (x : Access) (ranges : List (ℤ × ℤ)) (l : Leaf) → Loads program p its e x → (columns : ℕ) → IsOver columns l
    → length ((p ++ its) ++ qs) ≡ l.columns → Met ((p ++ its) ++ qs) l.rows → InBox (path_ranges ranges l.divisions) ((p ++ its) ++ qs)
    → NoneBegins (leaf_questions (nest_of program) e x ranges l) ((p ++ its) ++ qs) → IsSourceOf program p its e x (instance_at l.named ((p ++ its) ++ qs))
leaf_names_with program p its qs e x ranges l h columns over wide met inside none = leaf_names InBox box_append program p its qs e x ranges l h (columns, over) wide met inside l.named refl none

pub leaf_names_source : LeafNamesSource
leaf_names_source program p its qs e x ranges l h over wide met inside none = leaf_names_with program p its qs e x ranges l h (length p + length its) over wide met inside none

-- ---- A tree

-- the leaf to which the point leads, with the quotients there, is held by its ranges
abbrev pub HoldsLeaves : (Holds : List (ℤ × ℤ) → List ℤ → Type 0) → List (ℤ × ℤ) → Tree → List ℤ → Type 0
HoldsLeaves Holds ranges tree xs = (l : Leaf) → Shaped (length xs) tree → IsIn l (leaves_of (length xs) tree)
    → length (xs ++ quotients_at tree xs) ≡ l.columns → Met (xs ++ quotients_at tree xs) l.rows → Holds (path_ranges ranges l.divisions) (xs ++ quotients_at tree xs)

module _ (Holds : List (ℤ × ℤ) → List ℤ → Type 0) (join : (rs ss : List (ℤ × ℤ)) (xs ys : List ℤ) → Holds rs xs → InBox ss ys → Holds (rs ++ ss) (xs ++ ys)) where
  pub tree_names : (program : Program) (p its : List ℤ) (e : Entry) (x : Access) (ranges : List (ℤ × ℤ)) (tree : Tree) → Loads program p its e x → Shaped (length p + length its) tree
      → HoldsLeaves Holds ranges tree (p ++ its) → ((q : Question) → IsIn q (tree_questions (nest_of program) e x ranges tree) → (point : List ℤ) → Holds q.ranges point → IsPoint q.system point → ⊥)
      → IsSourceOf program p its e x (named_at tree (p ++ its))
  tree_names program p its e x ranges tree h shaped held none =
      let s = reader_stands program p its e x h in
      let len = parameters_are program p its e x h in
      let front : length p + length its ≡ length (p ++ its) = sym (length_append p its) in
      let shaped' : Shaped (length (p ++ its)) tree = subst (λ k. Shaped k tree) front shaped in
      let r = leaf_is_reached tree (p ++ its) shaped' in
      let l : Leaf = r.0 in
      let qs : List ℤ = quotients_at tree (p ++ its) in
      let over : IsOver (length p + length its) l = subst (λ k. IsOver k l) (sym front) (leaves_are_over (length (p ++ its)) tree l shaped' r.1.of_tree) in
      let named = leaf_is_named tree (p ++ its) qs l shaped' r.1.of_tree r.1.width r.1.meets in
      let columns : length (p ++ its) ≡ length (nest_of program).params + length e.loops = sym front ∙ ap (λ k. k + length its) len ∙ ap (λ k. length (number_ranges program.params) + k) s.long in
      let there : IsIn l (leaves_of (length (nest_of program).params + length e.loops) tree) = subst (λ k. IsIn l (leaves_of k tree)) columns r.1.of_tree in
      subst (IsSourceOf program p its e x) (sym named.1)
      (leaf_names Holds join program p its qs e x ranges l h (length p + length its, over) r.1.width r.1.meets (held l shaped' r.1.of_tree r.1.width r.1.meets) l.named refl (λ q more i is box.
      none q (to_flat_map (leaf_questions (nest_of program) e x ranges) (leaves_of (length (nest_of program).params + length e.loops) tree) l q there i) (((p ++ its) ++ qs) ++ more) box is))

pub tree_names_source : TreeNamesSource
tree_names_source program p its e x ranges tree h shaped inside near none =
    tree_names InBox box_append program p its e x ranges tree h shaped (λ l shaped' i wide met. leaf_is_boxed tree (p ++ its) (quotients_at tree (p ++ its)) ranges l shaped' i inside near wide met) none
