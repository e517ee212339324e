-- A point of a clash system: what its rows say of the load, the store and the instance that the leaf names.
use Rattle.std.proofs.Common.{◌≡◌, ◌≢◌, ℕ, ◌+◌, ◌-◌, ◌≤◌, ℤ, true, List, [], ◌++◌, length, map, drop, Some, refl, sym, ap, subst, ◌∙◌, arith}
use Rattle.std.specs.Prelude.{◌↔◌}
use Rattle.std.specs.List.{All}
use Rattle.std.proofs.lemmas.List.Elements.{All-drop}
use Rattle.affc_rows.specs.Forms.{Affine, values_of, HaveColumns}
use Rattle.affc_system.specs.Systems.{Rows, Meets, Met}
use Rattle.affc_ast.specs.declared.tree.Instance.{Instance}
use Rattle.affc_ast.specs.declared.tree.Program.{Program}
use Rattle.affc_ast.specs.Trace.{trace}
use Rattle.affc_trace.specs.declared.schedule.Schedule.{Schedule}
use Rattle.affc_trace.specs.Inverses.{columns_from}
use Rattle.affc_trace.specs.Law.{IsIn}
use Rattle.affc_trace.specs.Laws.{IsInContext}
use Rattle.affc_trace.specs.Orders.{Earlier}
use Rattle.affc_trace.specs.Target.{target, IsScheduleOf}
use Rattle.affc_trace.proofs.EndedReads.{append_assoc}
use Rattle.affc_trace.proofs.LastStores.{append_nil}
use Rattle.affc_trace.proofs.Runs.{length_append}
use Rattle.affc_domain.specs.Ranges.{number_ranges}
use Rattle.affc_nest.specs.declared.nest.Access.{Access}
use Rattle.affc_nest.specs.declared.nest.Entry.{Entry}
use Rattle.affc_nest.specs.Laws.{HasNest}
use Rattle.affc_nest.specs.Nests.{nest_of}
use Rattle.affc_nest.proofs.DomainLemmas.{to_all, from_all, met_append, met_both}
use Rattle.affc_order.specs.Laws.{IsPointOfOne}
use Rattle.affc_order.specs.Posed.{Posed, IsPosed}
use Rattle.affc_order.specs.Systems.{target_order}
use Rattle.affc_order.proofs.ColumnLemmas.{from_width, segment_at}
use Rattle.affc_order.proofs.OrderLemmas.{order_columns, target_order_is_the_target}
use Rattle.affc_sched.specs.Questions.{context_count}
use Rattle.affc_sched.proofs.LegalLemmas.{Stood, instance_of, rows_wide, subs_wide, runs, rows_of, runs_behind}
use Rattle.affc_domain.proofs.Lists.{length_map}
use Rattle.affc_sched.proofs.PointLemmas.{spread_met, met_spread, spread_values, all_spread}
use Rattle.affc_quast.specs.Leaves.{padded, Leaf}
use Rattle.affc_quast.proofs.LeafLemmas.{Narrow, LeafOver, longer_met, met_longer, met_padded, padded_met, narrow_columns, padded_values, padded_columns, short_values}
use Rattle.affc_life.specs.Clashes.{live_walk, of_reader, of_writer, reader_posed, named_posed, writer_posed, front_rows, rows_of_clashes}
use Rattle.affc_life.proofs.ApartLemmas.{MeetsOne, Between, between_says, says_between}

module _ (program : Program) (has : HasNest program) (p bs qs cs : List ℤ) (l : length p ≡ length (number_ranges program.params)) (reader : Entry) (leaf : Leaf) (writer : Entry)
    (s : Stood program p reader bs) (t : Stood program p writer cs) (over : LeafOver (length p + length bs) leaf) (q_long : length ((p ++ bs) ++ qs) ≡ leaf.columns) where
  abbrev zs : List ℤ
  zs = p ++ (bs ++ (qs ++ cs))

  abbrev m : ℕ
  m = length (number_ranges program.params)

  abbrev n : ℕ
  n = leaf.columns + length writer.loops

  by_path : p ++ (bs ++ (qs ++ cs)) ≡ (p ++ bs) ++ (qs ++ cs)
  by_path = sym (append_assoc p bs (qs ++ cs))

  by_leaf : p ++ (bs ++ (qs ++ cs)) ≡ ((p ++ bs) ++ qs) ++ cs
  by_leaf = by_path ∙ sym (append_assoc (p ++ bs) qs cs)

  by_writer : p ++ (bs ++ (qs ++ cs)) ≡ p ++ ((bs ++ qs) ++ (cs ++ []))
  by_writer = ap (λ ys. p ++ ys) (sym (append_assoc bs qs cs) ∙ ap (λ ys. (bs ++ qs) ++ ys) (sym (append_nil cs)))

  pub zs_long : leaf.columns + length writer.loops ≡ length (p ++ (bs ++ (qs ++ cs)))
  zs_long = sym (ap length by_leaf ∙ length_append ((p ++ bs) ++ qs) cs ∙ ap (λ k. k + length cs) q_long ∙ ap (λ k. leaf.columns + k) t.long)

  path_long : length (p ++ bs) ≡ length p + length bs
  path_long = length_append p bs

  between_long : leaf.columns - length (number_ranges program.params) ≡ length (bs ++ qs)
  between_long =
      rest leaf.columns (length (number_ranges program.params)) (length p) (length bs) (length qs) (length (p ++ bs)) (length ((p ++ bs) ++ qs)) (length (bs ++ qs))
      q_long (length_append (p ++ bs) qs) (length_append p bs) (length_append bs qs) l
    where
      rest : (c m p b q pb pbq bq : ℕ) → pbq ≡ c → pbq ≡ pb + q → pb ≡ p + b → bq ≡ b + q → p ≡ m → c - m ≡ bq
      rest c m p b q pb pbq bq e f g h i = omega (arith, e, f, g, h, i)

  -- ---- The three instances

  abbrev named_instance : Posed → Instance
  named_instance a = record { statement = a.part; iterators = values_of a.iterators ((p ++ bs) ++ qs) }

  reader_is : IsPosed zs (reader_posed (nest_of program) reader leaf writer) (instance_of reader bs)
  reader_is = record {
    part = refl;
    iterators = segment_at zs p bs (qs ++ cs) (leaf.columns + length writer.loops) (length (number_ranges program.params)) (length reader.loops) refl zs_long (sym l) (sym s.long);
    columns = subst (λ k. HaveColumns k (columns_from (leaf.columns + length writer.loops) (length (number_ranges program.params)) (length reader.loops))) zs_long
        (from_width (leaf.columns + length writer.loops) (length (number_ranges program.params)) (length reader.loops));
  }

  writer_is : IsPosed zs (writer_posed (nest_of program) reader leaf writer) (instance_of writer cs)
  writer_is = record {
    part = refl;
    iterators = segment_at zs ((p ++ bs) ++ qs) cs [] (leaf.columns + length writer.loops) leaf.columns (length writer.loops) (by_leaf ∙ ap (λ ys. ((p ++ bs) ++ qs) ++ ys) (sym (append_nil cs))) zs_long (sym q_long) (sym t.long);
    columns = subst (λ k. HaveColumns k (columns_from (leaf.columns + length writer.loops) leaf.columns (length writer.loops))) zs_long
        (from_width (leaf.columns + length writer.loops) leaf.columns (length writer.loops));
  }

  grown : (x y : ℕ) → x ≤ x + y
  grown x y = omega arith

  named_is : (a : Posed) → leaf.named ≡ Some a → IsPosed zs (named_posed (nest_of program) reader leaf writer a) (named_instance a)
  named_is a names = record {
    part = refl;
    iterators = padded_values (leaf.columns + length writer.loops) a.iterators zs ∙ ap (values_of a.iterators) by_leaf
        ∙ short_values (length ((p ++ bs) ++ qs)) a.iterators ((p ++ bs) ++ qs) cs (omega arith) (subst (λ k. HaveColumns k a.iterators) (sym q_long) (over.named a names));
    columns = subst (λ k. HaveColumns k (map (padded (leaf.columns + length writer.loops)) a.iterators)) zs_long
        (padded_columns leaf.columns (leaf.columns + length writer.loops) a.iterators (grown leaf.columns (length writer.loops)) (over.named a names));
  }

  -- ---- Subscripts

  path_wide : (fs : List Affine) → HaveColumns (length p + length bs) fs → HaveColumns (length (p ++ bs)) fs
  path_wide fs h = subst (λ k. HaveColumns k fs) (sym path_long) h

  pub x_value : (load : Access) → IsIn load reader.accesses → values_of (map (of_reader (nest_of program) reader leaf writer) load.subs) zs ≡ values_of load.subs (p ++ bs)
  x_value load i =
      padded_values (leaf.columns + length writer.loops) load.subs zs ∙ ap (values_of load.subs) by_path
      ∙ short_values (length (p ++ bs)) load.subs (p ++ bs) (qs ++ cs) (omega arith) (path_wide load.subs (subs_wide program has p l reader bs s load i))

  x_wide : (load : Access) → IsIn load reader.accesses → HaveColumns (length zs) (map (of_reader (nest_of program) reader leaf writer) load.subs)
  x_wide load i =
      subst (λ k. HaveColumns k (map (padded (leaf.columns + length writer.loops)) load.subs)) zs_long
      (padded_columns (length p + length bs) (leaf.columns + length writer.loops) load.subs (more (length p + length bs) leaf.columns (length writer.loops) over.more) (subs_wide program has p l reader bs s load i))
    where
      more : (x y z : ℕ) → x ≤ y → x ≤ y + z
      more x y z h = omega (arith, h)

  pub y_value : (store : Access) → IsIn store writer.accesses → values_of (map (of_writer (nest_of program) reader leaf writer) store.subs) zs ≡ values_of store.subs (p ++ cs)
  y_value store i =
      ap (values_of (map (of_writer (nest_of program) reader leaf writer) store.subs)) by_writer
      ∙ spread_values p (bs ++ qs) cs [] (length (number_ranges program.params)) (leaf.columns - length (number_ranges program.params)) 0 (sym l) between_long store.subs (subs_wide program has p l writer cs t store i)

  spread_long : ((length (number_ranges program.params) + (leaf.columns - length (number_ranges program.params))) + length cs) + 0 ≡ length zs
  spread_long =
      sum (length (number_ranges program.params)) leaf.columns (length p) (length bs) (length cs) (length writer.loops) over.more l t.long
      ∙ zs_long
    where
      sum : (m c p b k w : ℕ) → p + b ≤ c → p ≡ m → k ≡ w → ((m + (c - m)) + k) + 0 ≡ c + w
      sum m c p b k w h e f = omega (arith, h, e, f)

  y_wide : (store : Access) → IsIn store writer.accesses → HaveColumns (length zs) (map (of_writer (nest_of program) reader leaf writer) store.subs)
  y_wide store i =
      let w : HaveColumns (length (number_ranges program.params) + length cs) store.subs = subst (λ k. HaveColumns (k + length cs) store.subs) l (subs_wide program has p l writer cs t store i) in
      subst (λ k. HaveColumns k (map (of_writer (nest_of program) reader leaf writer) store.subs)) spread_long
      (all_spread (length (number_ranges program.params)) (leaf.columns - length (number_ranges program.params)) (length cs) 0 store.subs w)

  -- ---- The path and the store's domain

  pub record Facts : Type 0 where
    pub context : IsInContext program p
    pub reader_runs : IsIn (instance_of reader bs) (trace program p)
    pub writer_runs : IsIn (instance_of writer cs) (trace program p)
    pub path : Met ((p ++ bs) ++ qs) leaf.rows

  at_most : (x y : ℕ) → x ≡ y → y ≤ x
  at_most x y e = omega (arith, e)

  narrow_domain : Narrow (length (p ++ bs)) reader.domain.rows
  narrow_domain = narrow_columns (length p + length bs) (length (p ++ bs)) reader.domain.rows (at_most (length (p ++ bs)) (length p + length bs) path_long) (rows_wide program has p l reader bs s)

  narrow_leaf : Narrow (length ((p ++ bs) ++ qs)) leaf.rows
  narrow_leaf = subst (λ k. Narrow k leaf.rows) (sym q_long) over.narrow

  behind : List Affine
  behind = drop (context_count (nest_of program)) writer.domain.rows

  behind_wide : HaveColumns (length p + length cs) (drop (context_count (nest_of program)) writer.domain.rows)
  behind_wide = All-drop (λ g. length g.coefs ≡ length p + length cs) (context_count (nest_of program)) writer.domain.rows (rows_wide program has p l writer cs t)

  pub front_says : Met zs (front_rows (nest_of program) reader leaf writer) → Facts
  front_says h =
      let rows : List Affine = reader.domain.rows ++ leaf.rows in
      let own : List Affine = drop (context_count (nest_of program)) writer.domain.rows in
      let b = met_both zs (map (of_reader (nest_of program) reader leaf writer) rows) (map (of_writer (nest_of program) reader leaf writer) own) h in
      let d = met_both zs reader.domain.rows leaf.rows (padded_met (leaf.columns + length writer.loops) rows zs b.0) in
      let one = runs program has p l reader bs s (to_all (p ++ bs) reader.domain.rows (longer_met reader.domain.rows (p ++ bs) (qs ++ cs) narrow_domain (subst (λ ys. Met ys reader.domain.rows) by_path d.0))) in
      let two : All (Meets (p ++ cs)) own =
      met_spread p (bs ++ qs) cs [] (length (number_ranges program.params)) (leaf.columns - length (number_ranges program.params)) 0 (sym l) between_long own behind_wide
      (subst (λ ys. All (Meets ys) (map (of_writer (nest_of program) reader leaf writer) own)) by_writer (to_all zs (map (of_writer (nest_of program) reader leaf writer) own) b.1)) in
      record {
        context = one.0;
        reader_runs = one.1;
        writer_runs = runs_behind program has p l writer cs t one.0 two;
        path = longer_met leaf.rows ((p ++ bs) ++ qs) cs narrow_leaf (subst (λ ys. Met ys leaf.rows) by_leaf d.1);
      }

  pub says_front : Facts → Met zs (front_rows (nest_of program) reader leaf writer)
  says_front f =
      let rows : List Affine = reader.domain.rows ++ leaf.rows in
      let own : List Affine = drop (context_count (nest_of program)) writer.domain.rows in
      let one : Met zs reader.domain.rows =
      subst (λ ys. Met ys reader.domain.rows) (sym by_path)
      (met_longer reader.domain.rows (p ++ bs) (qs ++ cs) narrow_domain (from_all (p ++ bs) reader.domain.rows (rows_of program has p l reader bs s f.context f.reader_runs))) in
      let two : Met zs leaf.rows = subst (λ ys. Met ys leaf.rows) (sym by_leaf) (met_longer leaf.rows ((p ++ bs) ++ qs) cs narrow_leaf f.path) in
      let all : All (Meets (p ++ cs)) own = All-drop (Meets (p ++ cs)) (context_count (nest_of program)) writer.domain.rows (rows_of program has p l writer cs t f.context f.writer_runs) in
      let three : Met zs (map (of_writer (nest_of program) reader leaf writer) own) =
      from_all zs (map (of_writer (nest_of program) reader leaf writer) own)
      (subst (λ ys. All (Meets ys) (map (of_writer (nest_of program) reader leaf writer) own)) (sym by_writer)
      (spread_met p (bs ++ qs) cs [] (length (number_ranges program.params)) (leaf.columns - length (number_ranges program.params)) 0 (sym l) between_long own behind_wide all)) in
      met_append zs (map (of_reader (nest_of program) reader leaf writer) rows) (map (of_writer (nest_of program) reader leaf writer) own)
      (met_padded (leaf.columns + length writer.loops) rows zs (met_append zs reader.domain.rows leaf.rows one two)) three

  -- ---- The orders

  module _ (schedule : Schedule) (array : ℕ) (load : Access) (load_in : IsIn load reader.accesses) (named : Posed) (names : leaf.named ≡ Some named) (store : Access) (store_in : IsIn store writer.accesses) where
    abbrev pub first : List Rows
    first = target_order (nest_of program) schedule (leaf.columns + length writer.loops) (named_posed (nest_of program) reader leaf writer named) (writer_posed (nest_of program) reader leaf writer)

    abbrev pub second : List Rows
    second = target_order (nest_of program) schedule (leaf.columns + length writer.loops) (writer_posed (nest_of program) reader leaf writer) (reader_posed (nest_of program) reader leaf writer)

    abbrev xs : List Affine
    xs = map (of_reader (nest_of program) reader leaf writer) load.subs

    abbrev ys : List Affine
    ys = map (of_writer (nest_of program) reader leaf writer) store.subs

    -- what a clash system says without the orders
    pub parts : (rows : List Affine) → IsIn rows (rows_of_clashes (nest_of program) reader leaf writer (live_walk (nest_of program) schedule array) load named store) → Met zs rows
        → Between zs true (front_rows (nest_of program) reader leaf writer) first second xs ys
    parts rows i h = between_says zs true (front_rows (nest_of program) reader leaf writer) first second xs ys rows (x_wide load load_in) (y_wide store store_in) i h

    one_of : (a b : Posed) (system : Rows) → IsIn system (target_order (nest_of program) schedule (leaf.columns + length writer.loops) a b) → Met zs system.rows
        → IsPointOfOne (target_order (nest_of program) schedule (leaf.columns + length writer.loops) a b) zs
    one_of a b system i h = record {
      system = system;
      there = i;
      meets = record { width = sym (order_columns (nest_of program) schedule (leaf.columns + length writer.loops) a b system i ∙ zs_long); meets = to_all zs system.rows h };
    }

    module _ (fits : IsScheduleOf program schedule) where
      order : (a b : Posed) (i j : Instance) → IsIn i (trace program p) → IsIn j (trace program p) → IsPosed zs a i → IsPosed zs b j
          → IsPointOfOne (target_order (nest_of program) schedule (leaf.columns + length writer.loops) a b) zs ↔ Earlier (target program schedule p) i j
      order a b i j u v f g =
          subst (λ k. IsPointOfOne (target_order (nest_of program) schedule k a b) zs ↔ Earlier (target program schedule p) i j) (sym zs_long)
          (target_order_is_the_target program schedule p (bs ++ (qs ++ cs)) a b i j has fits l u v f g)

      -- what is said of the three instances
      pub record Said : Type 0 where
        pub facts : Facts
        pub after : Earlier (target program schedule p) (named_instance named) (instance_of writer cs)
        pub before : Earlier (target program schedule p) (instance_of writer cs) (instance_of reader bs)
        pub apart : values_of load.subs (p ++ bs) ≢ values_of store.subs (p ++ cs)

      pub clash_says : (rows : List Affine) → IsIn rows (rows_of_clashes (nest_of program) reader leaf writer (live_walk (nest_of program) schedule array) load named store) → Met zs rows
          → (Facts → IsIn (named_instance named) (trace program p)) → Said
      clash_says rows i h runs =
          let b = parts rows i h in
          let f = front_says b.front in
          let a = named_posed (nest_of program) reader leaf writer named in
          let w = writer_posed (nest_of program) reader leaf writer in
          let r = reader_posed (nest_of program) reader leaf writer in
          record {
            facts = f;
            after = (order a w (named_instance named) (instance_of writer cs) (runs f) f.writer_runs (named_is named names) writer_is).0 (one_of a w b.after b.after_in b.after_met);
            before = (order w r (instance_of writer cs) (instance_of reader bs) f.writer_runs f.reader_runs writer_is reader_is).0 (one_of w r b.before b.before_in b.before_met);
            apart = λ q. b.apart refl (x_value load load_in ∙ q ∙ sym (y_value store store_in));
          }

      pub says_clash : length load.subs ≡ length store.subs → IsIn (named_instance named) (trace program p) → Said
          → MeetsOne zs (rows_of_clashes (nest_of program) reader leaf writer (live_walk (nest_of program) schedule array) load named store)
      says_clash many named_runs d =
          let f = d.facts in
          let a = named_posed (nest_of program) reader leaf writer named in
          let w = writer_posed (nest_of program) reader leaf writer in
          let r = reader_posed (nest_of program) reader leaf writer in
          let u = (order a w (named_instance named) (instance_of writer cs) named_runs f.writer_runs (named_is named names) writer_is).1 d.after in
          let v = (order w r (instance_of writer cs) (instance_of reader bs) f.writer_runs f.reader_runs writer_is reader_is).1 d.before in
          let long : length xs ≡ length ys = length_map (of_reader (nest_of program) reader leaf writer) load.subs ∙ many ∙ sym (length_map (of_writer (nest_of program) reader leaf writer) store.subs) in
          says_between zs true (front_rows (nest_of program) reader leaf writer) first second xs ys (x_wide load load_in) (y_wide store store_in) long
          (record {
            front = says_front f;
            after = u.system;
            after_in = u.there;
            after_met = from_all zs u.system.rows u.meets.meets;
            before = v.system;
            before_in = v.there;
            before_met = from_all zs v.system.rows v.meets.meets;
            apart = λ t q. d.apart (sym (x_value load load_in) ∙ q ∙ y_value store store_in);
          })
