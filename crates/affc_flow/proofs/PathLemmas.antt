-- A point that leads to a leaf of a load's tree: what stands there of the load and of stores beside it.
use Rattle.std.proofs.Common.{◌≡◌, ℕ, ◌+◌, ◌-◌, ◌≤◌, ℤ, List, [], ◌∷◌, ◌++◌, length, map, drop, refl, sym, ap, subst, ◌∙◌, arith}
use Rattle.std.specs.Prelude.{slice_get, Some, ◌↔◌}
use Rattle.std.specs.List.{All}
use Rattle.std.proofs.lemmas.List.Elements.{All-head, All-tail, All-drop}
use Rattle.std.proofs.lemmas.Option.{same_Some}
use Rattle.affc_rows.specs.Forms.{Affine, values_of, HaveColumns}
use Rattle.affc_system.specs.Systems.{Meets, Met}
use Rattle.affc_ast.specs.declared.tree.Instance.{Instance}
use Rattle.affc_ast.specs.declared.tree.Program.{Program}
use Rattle.affc_ast.specs.Trace.{trace}
use Rattle.affc_trace.specs.Inverses.{columns_from}
use Rattle.affc_trace.specs.Law.{IsIn}
use Rattle.affc_trace.specs.Orders.{Earlier}
use Rattle.affc_trace.proofs.EndedReads.{append_assoc}
use Rattle.affc_trace.proofs.LastStores.{append_nil}
use Rattle.affc_trace.proofs.Runs.{length_append}
use Rattle.affc_domain.specs.Ranges.{number_ranges}
use Rattle.affc_domain.proofs.RangeLemmas.{box_length, in_ranges}
use Rattle.affc_nest.specs.declared.nest.Access.{Access}
use Rattle.affc_nest.specs.declared.nest.Entry.{Entry}
use Rattle.affc_nest.specs.Laws.{HasNest}
use Rattle.affc_nest.specs.Nests.{nest_of}
use Rattle.affc_nest.proofs.DomainLemmas.{to_all, from_all, met_append}
use Rattle.affc_order.specs.Laws.{IsPointOfOne}
use Rattle.affc_order.specs.Posed.{Posed, IsPosed}
use Rattle.affc_order.specs.Systems.{source_order}
use Rattle.affc_order.proofs.ColumnLemmas.{from_width, segment_at}
use Rattle.affc_order.proofs.LexLemmas.{both_met}
use Rattle.affc_order.proofs.OrderLemmas.{source_order_is_the_trace}
use Rattle.affc_sched.specs.Questions.{equal_rows, context_count}
use Rattle.affc_sched.proofs.LegalLemmas.{Stood, stood, rows_wide, subs_wide, rows_of}
use Rattle.affc_sched.proofs.PointLemmas.{spread_met, spread_values, all_spread, values_equal}
use Rattle.affc_quast.specs.Laws.{IsOver}
use Rattle.affc_quast.specs.Leaves.{padded, Leaf}
use Rattle.affc_quast.proofs.LeafLemmas.{Narrow, narrow_append, met_longer, met_padded, narrow_columns, short_values, padded_columns, padded_values}
use Rattle.affc_flow.specs.Laws.{Loads}
use Rattle.affc_flow.specs.Questions.{path_rows, reader_posed, beside_columns, of_writer, writer_posed, beside_rows}

-- ---- Widths

all_narrow : (n : ℕ) (rows : List Affine) → All (λ r. length r.coefs ≤ n) rows → Narrow n rows
all_narrow n [] h = tt
all_narrow n (r ∷ rows) h = (All-head (λ r. length r.coefs ≤ n) r rows h, all_narrow n rows (All-tail (λ r. length r.coefs ≤ n) r rows h))

-- ---- Orders at a point that begins with the parameters

pub order_at : (program : Program) (p more zs : List ℤ) (columns : ℕ) (a b : Posed) (i j : Instance) → zs ≡ p ++ more → columns ≡ length zs
    → HasNest program → IsIn i (trace program p) → IsIn j (trace program p) → IsPosed zs a i → IsPosed zs b j
    → IsPointOfOne (source_order (nest_of program) columns a b) zs ↔ Earlier (trace program p) i j
order_at program p more zs columns a b i j e c has s t f g =
    subst (λ k. IsPointOfOne (source_order (nest_of program) k a b) zs ↔ Earlier (trace program p) i j) (sym c)
    (subst (λ ys. IsPointOfOne (source_order (nest_of program) (length ys) a b) ys ↔ Earlier (trace program p) i j) (sym e)
    (source_order_is_the_trace program p more a b i j has s t (subst (λ ys. IsPosed ys a i) e f) (subst (λ ys. IsPosed ys b j) e g)))

-- ---- The load

pub parameters_are : (program : Program) (p its : List ℤ) (e : Entry) (x : Access) → Loads program p its e x → length p ≡ length (number_ranges program.params)
parameters_are program p its e x h = sym (box_length (number_ranges program.params) p (in_ranges program.params p h.context.ranges))

pub reader_stands : (program : Program) (p its : List ℤ) (e : Entry) (x : Access) → Loads program p its e x → Stood program p e its
reader_stands program p its e x h =
    let r = stood program h.has p (record { statement = e.part; iterators = its }) h.context h.runs in
    let at : slice_get (nest_of program).entries e.part ≡ Some r.0 = subst (λ s. slice_get (nest_of program).entries s ≡ Some r.0) r.1 r.2.at in
    subst (λ e. Stood program p e its) (same_Some r.0 e (sym at ∙ h.entry)) r.2

module _ (program : Program) (p its qs : List ℤ) (e : Entry) (x : Access) (ranges : List (ℤ × ℤ)) (l : Leaf) (h : Loads program p its e x)
    (over : (columns : ℕ) × IsOver columns l) (wide : length ((p ++ its) ++ qs) ≡ l.columns) (met : Met ((p ++ its) ++ qs) l.rows) where
  abbrev m : ℕ
  m = length (number_ranges program.params)

  abbrev zs : List ℤ
  zs = (p ++ its) ++ qs

  abbrev len : length p ≡ length (number_ranges program.params)
  len = parameters_are program p its e x h

  abbrev s : Stood program p e its
  s = reader_stands program p its e x h

  front_long : length (p ++ its) ≡ length p + length its
  front_long = length_append p its

  front_within : length p + length its ≤ length zs
  front_within = within (length p + length its) (length qs) (length zs) (length_append (p ++ its) qs ∙ ap (λ k. k + length qs) front_long)
    where
      within : (a b c : ℕ) → c ≡ a + b → a ≤ c
      within a b c e = omega (arith, e)

  rows_narrow : Narrow (length zs) (e.domain.rows ++ l.rows)
  rows_narrow =
      narrow_append (length zs) e.domain.rows l.rows (narrow_columns (length p + length its) (length zs) e.domain.rows front_within (rows_wide program h.has p len e its s))
      (subst (λ k. Narrow k l.rows) (sym wide) (all_narrow l.columns l.rows over.1.rows))

  domain_met : Met zs e.domain.rows
  domain_met =
      met_longer e.domain.rows (p ++ its) qs (narrow_columns (length p + length its) (length (p ++ its)) e.domain.rows (all_of front_long) (rows_wide program h.has p len e its s))
      (from_all (p ++ its) e.domain.rows (rows_of program h.has p len e its s h.context h.runs))
    where
      all_of : {a b : ℕ} → a ≡ b → b ≤ a
      all_of e = omega (arith, e)

  -- the path is met
  pub path_met : (columns : ℕ) (vs : List ℤ) → All (Meets (zs ++ vs)) (path_rows (nest_of program) e x ranges l columns)
  path_met columns vs =
      let rows = e.domain.rows ++ l.rows in
      to_all (zs ++ vs) (map (padded columns) rows) (met_padded columns rows (zs ++ vs) (met_longer rows zs vs rows_narrow (met_append zs e.domain.rows l.rows domain_met met)))

  -- the load's subscripts and its instance
  pub read_value : (columns : ℕ) (vs : List ℤ) → IsIn x e.accesses → values_of (map (padded columns) x.subs) (zs ++ vs) ≡ values_of x.subs (p ++ its)
  read_value columns vs i =
      padded_values columns x.subs (zs ++ vs) ∙ ap (values_of x.subs) (append_assoc (p ++ its) qs vs)
      ∙ short_values (length p + length its) x.subs (p ++ its) (qs ++ vs) (all_of front_long) (subs_wide program h.has p len e its s x i)
    where
      all_of : {a b : ℕ} → a ≡ b → b ≤ a
      all_of e = omega (arith, e)

  pub read_wide : (columns : ℕ) → length zs ≤ columns → HaveColumns columns (map (padded columns) x.subs)
  read_wide columns k = padded_columns (length p + length its) columns x.subs (through front_within k) (subs_wide program h.has p len e its s x h.made)
    where
      through : {a b c : ℕ} → a ≤ b → b ≤ c → a ≤ c
      through h g = omega (arith, h, g)

  pub reader_is_posed : (columns : ℕ) (vs : List ℤ) → columns ≡ length (zs ++ vs) → IsPosed (zs ++ vs) (reader_posed (nest_of program) e x ranges l columns) (record { statement = e.part; iterators = its })
  reader_is_posed columns vs c = record {
    part = refl;
    iterators = segment_at (zs ++ vs) p its (qs ++ vs) columns (length (number_ranges program.params)) (length e.loops) (append_assoc (p ++ its) qs vs ∙ append_assoc p its (qs ++ vs)) c (sym len) (sym s.long);
    columns = subst (λ k. HaveColumns k (columns_from columns (length (number_ranges program.params)) (length e.loops))) c (from_width columns (length (number_ranges program.params)) (length e.loops));
  }

  pub point_is : (vs : List ℤ) → zs ++ vs ≡ p ++ ((its ++ qs) ++ vs)
  point_is vs = ap (λ ys. ys ++ vs) (append_assoc p its qs) ∙ append_assoc p (its ++ qs) vs

  -- ---- An instance of a store beside it

  module _ (v : Entry) (vs : List ℤ) (t : Stood program p v vs) (runs : IsIn (record { statement = v.part; iterators = vs }) (trace program p)) (y : Access) (made : IsIn y v.accesses) where
    pub beside_long : beside_columns (nest_of program) e x ranges l v y ≡ length (zs ++ vs)
    beside_long = ap (λ k. k + length v.loops) (sym wide) ∙ ap (λ k. length zs + k) (sym t.long) ∙ sym (length_append zs vs)

    between : l.columns - length (number_ranges program.params) ≡ length (its ++ qs)
    between = rest (length (number_ranges program.params)) (length p) (length (its ++ qs)) l.columns (sym wide ∙ ap length (append_assoc p its qs) ∙ length_append p (its ++ qs)) len
      where
        rest : (m k r c : ℕ) → c ≡ k + r → k ≡ m → c - m ≡ r
        rest m k r c e f = omega (arith, e, f)

    whole : p ++ ((its ++ qs) ++ (vs ++ [])) ≡ zs ++ vs
    whole = ap (λ ys. p ++ ((its ++ qs) ++ ys)) (append_nil vs) ∙ sym (point_is vs)

    own_met : All (Meets (zs ++ vs)) (map (of_writer (nest_of program) e x ranges l v y) (drop (context_count (nest_of program)) v.domain.rows))
    own_met =
        let k = context_count (nest_of program) in
        subst (λ ys. All (Meets ys) (map (of_writer (nest_of program) e x ranges l v y) (drop k v.domain.rows))) whole
        (spread_met p (its ++ qs) vs [] (length (number_ranges program.params)) (l.columns - length (number_ranges program.params)) 0 (sym len) between (drop k v.domain.rows)
        (All-drop (λ g. length g.coefs ≡ length p + length vs) k v.domain.rows (rows_wide program h.has p len v vs t))
        (All-drop (Meets (p ++ vs)) k v.domain.rows (rows_of program h.has p len v vs t h.context runs)))

    zs_within : length zs ≤ length (zs ++ vs)
    zs_within = more (length zs) (length vs) (length (zs ++ vs)) (length_append zs vs)
      where
        more : (a b c : ℕ) → c ≡ a + b → a ≤ c
        more a b c e = omega (arith, e)

    written_value : values_of (map (of_writer (nest_of program) e x ranges l v y) y.subs) (zs ++ vs) ≡ values_of y.subs (p ++ vs)
    written_value =
        ap (values_of (map (of_writer (nest_of program) e x ranges l v y) y.subs)) (sym whole)
        ∙ spread_values p (its ++ qs) vs [] (length (number_ranges program.params)) (l.columns - length (number_ranges program.params)) 0 (sym len) between y.subs (subs_wide program h.has p len v vs t y made)

    written_wide : HaveColumns (length (zs ++ vs)) (map (of_writer (nest_of program) e x ranges l v y) y.subs)
    written_wide =
        let m = length (number_ranges program.params) in
        let w : HaveColumns (m + length v.loops) y.subs = subst (λ k. HaveColumns k y.subs) (ap (λ k. k + length vs) len ∙ ap (λ k. m + k) t.long) (subs_wide program h.has p len v vs t y made) in
        subst (λ k. HaveColumns k (map (of_writer (nest_of program) e x ranges l v y) y.subs))
        (sum m (l.columns - m) (length v.loops) l.columns (length p) (length (its ++ qs)) len between (sym wide ∙ ap length (append_assoc p its qs) ∙ length_append p (its ++ qs)) ∙ beside_long)
        (all_spread m (l.columns - m) (length v.loops) 0 y.subs w)
      where
        sum : (m d n c k r : ℕ) → k ≡ m → d ≡ r → c ≡ k + r → ((m + d) + n) + 0 ≡ c + n
        sum m d n c k r e f g = omega (arith, e, f, g)

    -- the rows of another store are met where it stores what is read
    pub beside_met : values_of x.subs (p ++ its) ≡ values_of y.subs (p ++ vs) → All (Meets (zs ++ vs)) (beside_rows (nest_of program) e x ranges l v y)
    beside_met same =
        let n = nest_of program in
        let columns = beside_columns n e x ranges l v y in
        let read = map (padded columns) x.subs in
        let written = map (of_writer n e x ranges l v y) y.subs in
        let read_w : HaveColumns (length (zs ++ vs)) read = subst (λ k. HaveColumns k read) beside_long (read_wide columns (subst (λ k. length zs ≤ k) (sym beside_long) zs_within)) in
        let own = map (of_writer n e x ranges l v y) (drop (context_count n) v.domain.rows) in
        both_met (zs ++ vs) (path_rows n e x ranges l columns) (own ++ equal_rows read written) (path_met columns vs)
        (both_met (zs ++ vs) own (equal_rows read written) own_met (values_equal (zs ++ vs) read written read_w written_wide (read_value columns vs h.made ∙ same ∙ sym written_value)))

    pub writer_is_posed : IsPosed (zs ++ vs) (writer_posed (nest_of program) e x ranges l v y) (record { statement = v.part; iterators = vs })
    writer_is_posed =
        let columns = beside_columns (nest_of program) e x ranges l v y in
        record {
          part = refl;
          iterators = segment_at (zs ++ vs) zs vs [] columns l.columns (length v.loops) (ap (λ ys. zs ++ ys) (sym (append_nil vs))) beside_long (sym wide) (sym t.long);
          columns = subst (λ k. HaveColumns k (columns_from columns l.columns (length v.loops))) beside_long (from_width columns l.columns (length v.loops));
        }
