-- Questions of trees that the search gives keep the limits of a system.
use Rattle.std.proofs.Common.{◌≡◌, ℕ, suc, ◌+◌, ◌-◌, ◌*◌, ◌^◌, ◌<◌, ◌≤◌, ℤ, Bool, true, false, if◌then◌else◌, List, [], ◌∷◌, ◌++◌, length, map, flat_map, drop, Option, Some, None, refl, sym, ap, subst, inl, inr, arith}
use Rattle.std.specs.Prelude.{slice_get, nat_eq}
use Rattle.std.specs.List.{All}
use Rattle.std.proofs.lemmas.List.{length-drop}
use Rattle.std.proofs.lemmas.List.Elements.{All-nil, All-cons, All-head, All-tail, All-append, All-drop, All-weaker}
use Rattle.affc_rows.specs.Forms.{Affine}
use Rattle.affc_rows.specs.Sizes as sizes
use Rattle.affc_rows.proofs.SizeLemmas.{within_raised, all_raised, padded_within, spread_within}
use Rattle.affc_system.specs.Pairs.{IsSubscript}
use Rattle.affc_system.specs.Systems.{Rows, FitsRow, IsRow}
use Rattle.affc_system.proofs.SystemLemmas.{row_of, row_within}
use Rattle.affc_ast.specs.declared.tree.Program.{Program}
use Rattle.affc_ast.specs.declared.tree.Rel.TheVariants.{Equal}
use Rattle.affc_trace.specs.declared.schedule.Schedule.TheVariants.{Source}
use Rattle.affc_trace.specs.Inverses.{columns_from}
use Rattle.affc_trace.specs.Law.{IsIn}
use Rattle.affc_trace.proofs.Members.{in_map}
use Rattle.affc_trace.proofs.Once.{in_append, in_flat_map}
use Rattle.affc_trace.proofs.Runs.{length_append}
use Rattle.affc_domain.proofs.Lists.{length_map, stands_in, in_all, in_if}
use Rattle.affc_nest.specs.Asked.{IsNest}
use Rattle.affc_nest.specs.declared.nest.Access.{Access}
use Rattle.affc_nest.specs.declared.nest.Entry.{Entry}
use Rattle.affc_nest.specs.declared.nest.Nest.{Nest}
use Rattle.affc_nest.specs.Parts.{statement_of}
use Rattle.affc_nest.specs.Domains.{gap_row, compare_rows}
use Rattle.affc_nest.specs.Laws.{HasNest, NamesArrays}
use Rattle.affc_nest.specs.Nests.{nest_of}
use Rattle.affc_nest.proofs.QuestionProofs.{domain_small, few_numbered}
use Rattle.affc_order.specs.Placed.{IsPlaced}
use Rattle.affc_order.specs.Posed.{Posed, form_at}
use Rattle.affc_order.specs.Spread.{spread}
use Rattle.affc_order.specs.Systems.{source_order}
use Rattle.affc_order.proofs.CodeLemmas.{columns_sides, few_loops}
use Rattle.affc_order.proofs.ColumnLemmas.{from_long}
use Rattle.affc_sched.specs.Questions.{equal_rows, context_count}
use Rattle.affc_sched.proofs.LegalLemmas.{entry_at}
use Rattle.affc_quast.specs.Leaves.{Leaf, padded, negated, leaves_of}
use Rattle.affc_quast.specs.Limits.{FitsForm, narrow}
use Rattle.affc_quast.specs.Sources.{loads_in, tree_of}
use Rattle.affc_quast.specs.Trees.{Tree, depth_of, divisions_of}
use Rattle.affc_sched.proofs.PairLemmas.{equal_count}
use Rattle.affc_life.specs.Asked.{KeepLimits, IsLiving, IsPath, StandBeside}
use Rattle.affc_life.proofs.CountLemmas.{order_count}
use Rattle.affc_life.proofs.DomainLemmas.{domain_fits}
use Rattle.affc_life.proofs.FoundLeafLemmas.{IsSmall, leaf_small}
use Rattle.affc_life.proofs.FoundLemmas.{found_trees_keep_limits}
use Rattle.affc_life.proofs.LeafLemmas.{path_of}
use Rattle.affc_life.proofs.LightLemmas.{all_padded, all_spread}
use Rattle.affc_life.proofs.RowLemmas.{order_all}
use Rattle.affc_life.proofs.SeatedLemmas.{params_first, leaf_first}
use Rattle.affc_life.proofs.SizeLemmas.{few_subscripts}
use Rattle.affc_life.proofs.SubscriptLemmas.{are_subscripts}
use Rattle.affc_flow.specs.Questions.{Question, Writer, is_temporary, store_of_entry, writer_if, writers, poses, here, beside, beside_rows, before_load, after_named, earlier_questions, between_questions, outside_questions, apart_questions, not_earlier_questions, named_questions, questions_among, input_questions, questions_for, leaf_questions, questions_of_load, questions_of_loads}
use Rattle.affc_questions.specs.Asked.{IsLeafOf, IsWriter}
use Rattle.affc_questions.specs.Laws.{FoundTreesPassNoLimit}
use Rattle.affc_questions.specs.Listed.{behind, own_path}
use Rattle.affc_products.specs.Parts.{IsWithin}
use Rattle.affc_questions.specs.Sizes.{IsMild}
use Rattle.affc_questions.proofs.DistanceLemmas.{equal_fit}
use Rattle.affc_questions.proofs.LeafLemmas.{seated, of_path, params_few, loops_few, own_narrow, domain_columns}
use Rattle.affc_questions.proofs.PosedLemmas.{IsSituated, placed, all_placed, negated_row, less_row, greater_row}
use Rattle.affc_questions.proofs.SizeLemmas.{gap_row_fits}
use Rattle.affc_questions.proofs.TightLemmas.{IsTight, domain_tight}

-- ---- Rows over more columns

within_of : (n : ℕ) (f : Affine) → length f.coefs ≡ n → FitsRow f → sizes.IsWithin n (2 ^ 40) (2 ^ 60) f
within_of n f w h = row_within n f (record { width = w; fits = h })

row_padded : (n : ℕ) (f : Affine) → length f.coefs ≤ n → FitsRow f → IsRow n (padded n f)
row_padded n f w h = row_of n (2 ^ 40) (2 ^ 60) (padded n f) (omega arith) (omega arith) (padded_within (length f.coefs) n (2 ^ 40) (2 ^ 60) f w (within_of (length f.coefs) f refl h))

rows_padded : (n : ℕ) (fs : List Affine) → All (λ f. length f.coefs ≤ n) fs → All FitsRow fs → All (IsRow n) (map (padded n) fs)
rows_padded n [] w h = All-nil (IsRow n)
rows_padded n (f ∷ fs) w h =
    All-cons (IsRow n) (padded n f) (map (padded n) fs) (row_padded n f (All-head (λ f. length f.coefs ≤ n) f fs w) (All-head FitsRow f fs h)) (rows_padded n fs (All-tail (λ f. length f.coefs ≤ n) f fs w) (All-tail FitsRow f fs h))

rows_spread : (m k l n : ℕ) (fs : List Affine) → (m + k) + l ≡ n → All (λ f. length f.coefs ≡ m + l) fs → All FitsRow fs → All (IsRow n) (map (spread m k 0) fs)
rows_spread m k l n [] e w h = All-nil (IsRow n)
rows_spread m k l n (f ∷ fs) e w h =
    All-cons (IsRow n) (spread m k 0 f) (map (spread m k 0) fs)
    (row_of n (2 ^ 40) (2 ^ 60) (spread m k 0 f) (omega arith) (omega arith)
    (spread_within m k l 0 n (2 ^ 40) (2 ^ 60) f (within_of (m + l) f (All-head (λ f. length f.coefs ≡ m + l) f fs w) (All-head FitsRow f fs h)) (none ((m + k) + l) e)))
    (rows_spread m k l n fs e (All-tail (λ f. length f.coefs ≡ m + l) f fs w) (All-tail FitsRow f fs h))
  where
    none : (x : ℕ) → x ≡ n → x + 0 ≡ n
    none x e = omega (arith, e)

-- ---- Mild forms

columns_mild : (n first count : ℕ) → All (IsMild n) (columns_from n first count)
columns_mild n first count = all_raised n (2 ^ 16) (2 ^ 32) (2 ^ 38) (2 ^ 58) (columns_from n first count) (omega arith) (omega arith) (columns_sides n first count)

subscript_mild : (n : ℕ) (f : Affine) → IsSubscript n f → IsMild n f
subscript_mild n f s = within_raised n 65536 16777216 (2 ^ 38) (2 ^ 58) f (omega arith) (omega arith) s

subscript_tight : (n : ℕ) (f : Affine) → IsSubscript n f → IsTight f
subscript_tight n f s =
    let w = within_raised n 65536 16777216 (2 ^ 17) (2 ^ 34) f (omega arith) (omega arith) s in
    record { coefs_fit = w.coefs_fit; constant_fits = w.constant_fits }

narrow_mild : (n : ℕ) (fs : List Affine) → All (IsRow n) fs → All (FitsForm narrow) fs → All (IsMild n) fs
narrow_mild n [] w h = All-nil (IsMild n)
narrow_mild n (f ∷ fs) w h =
    let fit = All-head (FitsForm narrow) f fs h in
    All-cons (IsMild n) f fs (within_raised n (2 ^ 20) (2 ^ 40) (2 ^ 38) (2 ^ 58) f (omega arith) (omega arith) (record { width = (All-head (IsRow n) f fs w).width; coefs_fit = fit.coefs_fit; constant_fits = fit.constant_fits }))
    (narrow_mild n fs (All-tail (IsRow n) f fs w) (All-tail (FitsForm narrow) f fs h))

equals_fit : (n : ℕ) (fs gs : List Affine) → All (IsMild n) fs → All (IsMild n) gs → All (IsRow n) (equal_rows fs gs)
equals_fit n [] gs h k = All-nil (IsRow n)
equals_fit n (f ∷ fs) [] h k = All-nil (IsRow n)
equals_fit n (f ∷ fs) (g ∷ gs) h k =
    All-append (IsRow n) (compare_rows Equal f g) (equal_rows fs gs) (equal_fit n f g (All-head (IsMild n) f fs h) (All-head (IsMild n) g gs k)) (equals_fit n fs gs (All-tail (IsMild n) f fs h) (All-tail (IsMild n) g gs k))

-- ---- Orders

module _ (nest : Nest) (columns : ℕ) (a b : Posed) (first : All (IsMild columns) a.iterators) (second : All (IsMild columns) b.iterators) (s : Rows) (i : IsIn s (source_order nest columns a b)) where
  order_fit : All (IsRow columns) s.rows
  order_fit = order_all (IsRow columns) (IsMild columns) (gap_row_fits columns) nest columns Source a b first second s i

  order_few : length a.iterators ≤ 6 → length s.rows ≤ 24
  order_few few = order_count nest columns Source a b refl few s i

-- ---- Statements that store an array

stored_by : (array : ℕ) (e : Entry) (o : Option Access) → slice_get e.accesses (loads_in e) ≡ o → (v : Writer) → IsIn v (writer_if array e o) → (v.0 ≡ e) × IsIn v.1 e.accesses
stored_by array e None q v i = absurd i
stored_by array e (Some y) q v i = held (nat_eq y.array.0 array) i
  where
    held : (t : Bool) → IsIn v (if t then (e, y) ∷ [] else []) → (v.0 ≡ e) × IsIn v.1 e.accesses
    held true (inl same) = (ap (λ (u : Writer). u.0) same, subst (λ (u : Writer). IsIn u.1 e.accesses) (sym same) (stands_in e.accesses (loads_in e) y q))
    held true (inr i) = absurd i
    held false i = absurd i

are_writers : (nest : Nest) (array : ℕ) (v : Writer) → IsIn v (writers nest array) → IsWriter nest v.0 v.1
are_writers nest array v i =
    let e = in_flat_map (λ e. if e.alive then writer_if array e (store_of_entry e) else []) nest.entries v i in
    let t = in_if e.0.alive (writer_if array e.0 (store_of_entry e.0)) v e.2 in
    let w = stored_by array e.0 (store_of_entry e.0) refl v t.1 in
    record {
      writes = subst (IsLiving nest) (sym w.0) (record { there = e.1; alive = t.0 });
      stores = subst (λ (x : Entry). IsIn v.1 x.accesses) (sym w.0) w.1;
    }

-- ---- The questions of a leaf

module _ (program : Program) (has : HasNest program) (named : NamesArrays program) (reader : Entry) (load : Access) (ranges : List (ℤ × ℤ)) (leaf : Leaf) (is : IsLeafOf (nest_of program) reader load leaf) (count : leaf.columns ≡ (length (nest_of program).params + length reader.loops) + length leaf.divisions) (d n : ℕ) (small : IsSmall d n leaf)
    (short : d ≤ 302) (few : n ≤ 12) where
  abbrev nest : Nest
  nest = nest_of program

  abbrev path : List Affine
  path = reader.domain.rows ++ leaf.rows

  columns_few : leaf.columns ≤ 22
  columns_few = sum leaf.columns (length nest.params) (length reader.loops) (length leaf.divisions) count (params_few nest reader load leaf is) (loops_few nest reader load leaf is) small.divisions_few
    where
      sum : (c m l k : ℕ) → c ≡ (m + l) + k → m ≤ 4 → l ≤ 6 → k ≤ n → c ≤ 22
      sum c m l k e h g i = omega (arith, e, h, g, i, few)

  path_few : (f : Affine → Affine) → length (map f path) ≤ 448
  path_few f =
      sum (length (map f path)) (length path) (length reader.domain.rows) (length leaf.rows) (length_map f path) (length_append reader.domain.rows leaf.rows) (domain_small nest reader is.nested is.reads.there) small.rows_few
    where
      sum : (k m a b : ℕ) → k ≡ m → m ≡ a + b → a ≤ 134 → b ≤ d + n → k ≤ 448
      sum k m a b e h g i = omega (arith, e, h, g, i, short, few)

  path_fit : (k : ℕ) → leaf.columns ≤ k → All (IsRow k) (map (padded k) path)
  path_fit k h =
      rows_padded k path
      (All-weaker (λ f. length f.coefs ≤ leaf.columns) (λ f. length f.coefs ≤ k) (λ f w. through (length f.coefs) w) path (All-append (λ f. length f.coefs ≤ leaf.columns) reader.domain.rows leaf.rows (own_narrow nest reader load leaf is) is.rows))
      (All-append FitsRow reader.domain.rows leaf.rows (domain_fits program has reader.part reader (entry_at program has reader is.reads.there) is.reads.alive) small.rows_fit)
    where
      through : (w : ℕ) → w ≤ leaf.columns → w ≤ k
      through w g = omega (arith, g, h)

  -- the path, and these rows
  here_within : (rows : List Affine) → length rows ≤ 24 → All (IsRow leaf.columns) rows → IsWithin (behind leaf.columns (own_path reader leaf) rows)
  here_within rows m fit = record {
    columns = most leaf.columns columns_few;
    few = sum (length (own_path reader leaf ++ rows)) (length (own_path reader leaf)) (length rows) (length_append (own_path reader leaf) rows) (path_few (padded leaf.columns)) m;
    rows = All-append (IsRow leaf.columns) (own_path reader leaf) rows (path_fit leaf.columns (same leaf.columns)) fit;
  }
    where
      most : (c : ℕ) → c ≤ 22 → c ≤ 128
      most c h = omega (arith, h)

      same : (c : ℕ) → c ≤ c
      same c = omega arith

      sum : (k a b : ℕ) → k ≡ a + b → a ≤ 448 → b ≤ 24 → k ≤ 1024
      sum k a b e h g = omega (arith, e, h, g)

  alone_within : IsWithin (behind leaf.columns (own_path reader leaf) [])
  alone_within = here_within [] (omega arith) (All-nil (IsRow leaf.columns))

  -- ---- With an instance of a part that stores the array

  module _ (v : Entry) (y : Access) (w : IsWriter nest v y) where
    abbrev wide : ℕ
    wide = leaf.columns + length v.loops

    seats : StandBeside nest reader leaf v
    seats = seated nest reader load leaf is v w.writes

    loops_few_too : length v.loops ≤ 6
    loops_few_too = few_numbered nest v is.nested w.writes.there

    whole : (length nest.params + (leaf.columns - length nest.params)) + length v.loops ≡ wide
    whole = sum (length nest.params) leaf.columns (length v.loops) (params_first nest reader leaf v seats)
      where
        sum : (m c l : ℕ) → m ≤ c → (m + (c - m)) + l ≡ c + l
        sum m c l h = omega (arith, h)

    abbrev own : List Affine
    own = map (spread (length nest.params) (leaf.columns - length nest.params) 0) (drop (context_count nest) v.domain.rows)

    abbrev read : List Affine
    read = map (padded wide) load.subs

    abbrev written : List Affine
    written = map (spread (length nest.params) (leaf.columns - length nest.params) 0) y.subs

    own_fit : All (IsRow wide) own
    own_fit =
        rows_spread (length nest.params) (leaf.columns - length nest.params) (length v.loops) wide (drop (context_count nest) v.domain.rows) whole
        (All-drop (λ f. length f.coefs ≡ length nest.params + length v.loops) (context_count nest) v.domain.rows (domain_columns nest is.nested v w.writes))
        (All-drop FitsRow (context_count nest) v.domain.rows (domain_fits program has v.part v (entry_at program has v w.writes.there) w.writes.alive))

    own_few : length own ≤ 134
    own_few =
        sum (length own) (length (drop (context_count nest) v.domain.rows)) (length v.domain.rows) (context_count nest) (length_map (spread (length nest.params) (leaf.columns - length nest.params) 0) (drop (context_count nest) v.domain.rows))
        (length-drop (context_count nest) v.domain.rows) (domain_small nest v is.nested w.writes.there)
      where
        sum : (k m a c : ℕ) → k ≡ m → m ≡ a - c → a ≤ 134 → k ≤ 134
        sum k m a c e h g = omega (arith, e, h, g)

    read_subscripts : All (IsSubscript wide) read
    read_subscripts =
        all_padded (length nest.params + length reader.loops) wide 65536 16777216 load.subs
        (through (length nest.params + length reader.loops) leaf.columns wide (is.first) (leaf_first nest reader leaf v seats)) (are_subscripts nest is.nested reader is.reads.there load is.loads)
      where
        through : (a b c : ℕ) → a ≤ b → b ≤ c → a ≤ c
        through a b c h g = omega (arith, h, g)

    written_subscripts : All (IsSubscript wide) written
    written_subscripts = all_spread (length nest.params) (leaf.columns - length nest.params) (length v.loops) wide 65536 16777216 y.subs whole (are_subscripts nest is.nested v w.writes.there y w.stores)

    equal_fits : All (IsRow wide) (equal_rows read written)
    equal_fits = equals_fit wide read written (All-weaker (IsSubscript wide) (IsMild wide) (subscript_mild wide) read read_subscripts) (All-weaker (IsSubscript wide) (IsMild wide) (subscript_mild wide) written written_subscripts)

    equal_few : length (equal_rows read written) ≤ 8
    equal_few =
        sum (length (equal_rows read written)) (length read) (length load.subs) (equal_count read written) (length_map (padded wide) load.subs) (few_subscripts program has named reader is.reads.there load is.loads)
      where
        sum : (k m a : ℕ) → k ≤ 2 * m → m ≡ a → a ≤ 4 → k ≤ 8
        sum k m a e h g = omega (arith, e, h, g)

    abbrev front : List Affine
    front = beside_rows nest reader load ranges leaf v y

    beside_within : (rows : List Affine) → length rows ≤ 48 → All (IsRow wide) rows → IsWithin (behind wide front rows)
    beside_within rows m fit = record {
      columns = most leaf.columns (length v.loops) columns_few loops_few_too;
      few = sum (length (front ++ rows)) (length front) (length rows) (length (map (padded wide) path)) (length (own ++ equal_rows read written)) (length own) (length (equal_rows read written)) (length_append front rows)
          (length_append (map (padded wide) path) (own ++ equal_rows read written)) (length_append own (equal_rows read written)) (path_few (padded wide)) own_few equal_few m;
      rows = All-append (IsRow wide) front rows
          (All-append (IsRow wide) (map (padded wide) path) (own ++ equal_rows read written) (path_fit wide (leaf_first nest reader leaf v seats)) (All-append (IsRow wide) own (equal_rows read written) own_fit equal_fits)) fit;
    }
      where
        most : (c l : ℕ) → c ≤ 22 → l ≤ 6 → c + l ≤ 128
        most c l h g = omega (arith, h, g)

        sum : (k f r p q o e : ℕ) → k ≡ f + r → f ≡ p + q → q ≡ o + e → p ≤ 448 → o ≤ 134 → e ≤ 8 → r ≤ 48 → k ≤ 1024
        sum k f r p q o e a b c g h i j = omega (arith, a, b, c, g, h, i, j)

    abbrev writer_at : Posed
    writer_at = record { part = v.part; iterators = columns_from wide leaf.columns (length v.loops) }

    abbrev reader_at : Posed
    reader_at = record { part = reader.part; iterators = columns_from wide (length nest.params) (length reader.loops) }

    before_fit : (u : Rows) → IsIn u (source_order nest wide writer_at reader_at) → All (IsRow wide) u.rows
    before_fit u i = order_fit nest wide writer_at reader_at (columns_mild wide leaf.columns (length v.loops)) (columns_mild wide (length nest.params) (length reader.loops)) u i

    before_few : (u : Rows) → IsIn u (source_order nest wide writer_at reader_at) → length u.rows ≤ 24
    before_few u i =
        order_few nest wide writer_at reader_at (columns_mild wide leaf.columns (length v.loops)) (columns_mild wide (length nest.params) (length reader.loops)) u i
        (subst (λ m. m ≤ 6) (sym (from_long wide leaf.columns (length v.loops))) loops_few_too)

    -- the other is earlier than the load
    earlier_within : (q : Question) → IsIn q (earlier_questions nest reader load ranges leaf v y) → IsWithin q.system
    earlier_within q i =
        let u = in_map (λ (u : Rows). beside nest reader load ranges leaf v y u.rows) (before_load nest reader load ranges leaf v y) q i in
        subst (λ (p : Question). IsWithin p.system) (sym u.2) (beside_within u.0.rows (more (length u.0.rows) (before_few u.0 u.1)) (before_fit u.0 u.1))
      where
        more : (m : ℕ) → m ≤ 24 → m ≤ 48
        more m h = omega (arith, h)

    -- and later than an instance
    module _ (a : Posed) (forms : IsPlaced nest leaf.columns a) (small_forms : All (FitsForm narrow) a.iterators) (six : length a.iterators ≤ 6) where
      abbrev named_at : Posed
      named_at = record a { iterators = map (padded wide) a.iterators }

      named_mild : All (IsMild wide) (map (padded wide) a.iterators)
      named_mild = all_padded leaf.columns wide (2 ^ 38) (2 ^ 58) a.iterators (leaf_first nest reader leaf v seats) (narrow_mild leaf.columns a.iterators forms.rows small_forms)

      between_within : (q : Question) → IsIn q (between_questions nest reader load ranges leaf v y a) → IsWithin q.system
      between_within q i =
          let o = in_flat_map (λ (o : Rows). map (λ (u : Rows). beside nest reader load ranges leaf v y (o.rows ++ u.rows)) (before_load nest reader load ranges leaf v y)) (after_named nest reader load ranges leaf v y a) q i in
          let one : Rows = o.0 in
          let u = in_map (λ (u : Rows). beside nest reader load ranges leaf v y (one.rows ++ u.rows)) (before_load nest reader load ranges leaf v y) q o.2 in
          let two : Rows = u.0 in
          subst (λ (p : Question). IsWithin p.system) (sym u.2)
          (beside_within (one.rows ++ two.rows)
          (sum (length (one.rows ++ two.rows)) (length one.rows) (length two.rows) (length_append one.rows two.rows)
          (order_few nest wide named_at writer_at named_mild (columns_mild wide leaf.columns (length v.loops)) one o.1 (subst (λ m. m ≤ 6) (sym (length_map (padded wide) a.iterators)) six)) (before_few two u.1))
          (All-append (IsRow wide) one.rows two.rows (order_fit nest wide named_at writer_at named_mild (columns_mild wide leaf.columns (length v.loops)) one o.1) (before_fit two u.1)))
        where
          sum : (k a b : ℕ) → k ≡ a + b → a ≤ 24 → b ≤ 24 → k ≤ 48
          sum k a b e h g = omega (arith, e, h, g)

  -- ---- The instance that is named

  module _ (a : Posed) (forms : IsPlaced nest leaf.columns a) (small_forms : All (FitsForm narrow) a.iterators) where
    six : length a.iterators ≤ 6
    six = subst (λ m. m ≤ 6) (sym forms.each) (few_loops nest is.nested a.part forms.part)

    mild : All (IsMild leaf.columns) a.iterators
    mild = narrow_mild leaf.columns a.iterators forms.rows small_forms

    module _ (w : Entry) (z : Access) (writes : IsWriter nest w z) where
      abbrev at_named : Affine → Affine
      at_named = form_at leaf.columns (columns_from leaf.columns 0 (length nest.params) ++ a.iterators)

      long : length (columns_from leaf.columns 0 (length nest.params)) ≡ length nest.params
      long = from_long leaf.columns 0 (length nest.params)

      one_row : (r : Affine) → IsRow leaf.columns r → IsWithin (behind leaf.columns (own_path reader leaf) (r ∷ []))
      one_row r fit = here_within (r ∷ []) (omega arith) (All-cons (IsRow leaf.columns) r [] fit (All-nil (IsRow leaf.columns)))

      outside_within : (q : Question) → IsIn q (outside_questions nest reader load ranges leaf a w z) → IsWithin q.system
      outside_within q i =
          let r = in_map (λ r. here nest reader load ranges leaf (negated (at_named r) ∷ [])) w.domain.rows q i in
          let tight : IsTight r.0 = in_all IsTight w.domain.rows r.0 (domain_tight program has w.part w (entry_at program has w writes.writes.there) writes.writes.alive) r.1 in
          subst (λ (p : Question). IsWithin p.system) (sym r.2)
          (one_row (negated (at_named r.0)) (negated_row leaf.columns (at_named r.0) (placed leaf.columns (length nest.params) a.iterators (params_few nest reader load leaf is) six small_forms long r.0 tight)))

      apart_within : (fs gs : List Affine) → All (IsSituated leaf.columns) fs → All (IsSubscript leaf.columns) gs → (q : Question) → IsIn q (apart_questions nest reader load ranges leaf a w z fs gs) → IsWithin q.system
      apart_within [] gs h k q i = absurd i
      apart_within (f ∷ fs) [] h k q i = absurd i
      apart_within (f ∷ fs) (g ∷ gs) h k q (inl e) =
          subst (λ (p : Question). IsWithin p.system) (sym e) (one_row (gap_row g f 1) (greater_row leaf.columns f g (All-head (IsSituated leaf.columns) f fs h) (All-head (IsSubscript leaf.columns) g gs k)))
      apart_within (f ∷ fs) (g ∷ gs) h k q (inr (inl e)) =
          subst (λ (p : Question). IsWithin p.system) (sym e) (one_row (gap_row f g 1) (less_row leaf.columns f g (All-head (IsSituated leaf.columns) f fs h) (All-head (IsSubscript leaf.columns) g gs k)))
      apart_within (f ∷ fs) (g ∷ gs) h k q (inr (inr i)) = apart_within fs gs (All-tail (IsSituated leaf.columns) f fs h) (All-tail (IsSubscript leaf.columns) g gs k) q i

      elsewhere_within : (q : Question) → IsIn q (apart_questions nest reader load ranges leaf a w z (map at_named z.subs) (map (padded leaf.columns) load.subs)) → IsWithin q.system
      elsewhere_within q i =
          let m = length nest.params in
          apart_within (map at_named z.subs) (map (padded leaf.columns) load.subs)
          (all_placed leaf.columns m a.iterators (params_few nest reader load leaf is) six small_forms long z.subs
          (All-weaker (IsSubscript (m + length w.loops)) IsTight (subscript_tight (m + length w.loops)) z.subs (are_subscripts nest is.nested w writes.writes.there z writes.stores)))
          (all_padded (m + length reader.loops) leaf.columns 65536 16777216 load.subs is.first (are_subscripts nest is.nested reader is.reads.there load is.loads)) q i

      abbrev own_at : Posed
      own_at = record { part = reader.part; iterators = columns_from leaf.columns (length nest.params) (length reader.loops) }

      not_earlier_within : (q : Question) → IsIn q (not_earlier_questions nest reader load ranges leaf a w z) → IsWithin q.system
      not_earlier_within q i =
          elim (in_append (map (λ (o : Rows). here nest reader load ranges leaf o.rows) (source_order nest leaf.columns own_at a)) (if nat_eq reader.statement (statement_of nest a.part) then here nest reader load ranges leaf (equal_rows own_at.iterators a.iterators) ∷ [] else []) q i) [
            | inl j ↦ (let o = in_map (λ (o : Rows). here nest reader load ranges leaf o.rows) (source_order nest leaf.columns own_at a) q j in
                subst (λ (p : Question). IsWithin p.system) (sym o.2)
                (here_within o.0.rows
                (more (length o.0.rows) (order_few nest leaf.columns own_at a (columns_mild leaf.columns (length nest.params) (length reader.loops)) mild o.0 o.1 (subst (λ m. m ≤ 6) (sym (from_long leaf.columns (length nest.params) (length reader.loops))) (loops_few nest reader load leaf is))))
                (order_fit nest leaf.columns own_at a (columns_mild leaf.columns (length nest.params) (length reader.loops)) mild o.0 o.1)))
            | inr j ↦ same (in_if (nat_eq reader.statement (statement_of nest a.part)) (here nest reader load ranges leaf (equal_rows own_at.iterators a.iterators) ∷ []) q j).1
          ]
        where
          more : (m : ℕ) → m ≤ 24 → m ≤ 24
          more m h = omega (arith, h)

          twice : (k m l : ℕ) → k ≤ 2 * m → m ≡ l → l ≤ 6 → k ≤ 24
          twice k m l e h g = omega (arith, e, h, g)

          same : IsIn q (here nest reader load ranges leaf (equal_rows own_at.iterators a.iterators) ∷ []) → IsWithin q.system
          same (inl e) =
              subst (λ (p : Question). IsWithin p.system) (sym e)
              (here_within (equal_rows own_at.iterators a.iterators)
              (twice (length (equal_rows own_at.iterators a.iterators)) (length own_at.iterators) (length reader.loops) (equal_count own_at.iterators a.iterators) (from_long leaf.columns (length nest.params) (length reader.loops)) (loops_few nest reader load leaf is))
              (equals_fit leaf.columns own_at.iterators a.iterators (columns_mild leaf.columns (length nest.params) (length reader.loops)) mild))
          same (inr x) = absurd x

      named_within : (q : Question) → IsIn q (named_questions nest reader load ranges leaf a w z) → IsWithin q.system
      named_within q i =
          elim (in_append (outside_questions nest reader load ranges leaf a w z) _ q i) [
            | inl j ↦ outside_within q j
            | inr j ↦ elim (in_append (apart_questions nest reader load ranges leaf a w z (map at_named z.subs) (map (padded leaf.columns) load.subs)) _ q j) [
              | inl k ↦ elsewhere_within q k
              | inr k ↦ elim (in_append (not_earlier_questions nest reader load ranges leaf a w z) _ q k) [
                | inl l ↦ not_earlier_within q l
                | inr l ↦ (let v = in_flat_map (λ (v : Writer). between_questions nest reader load ranges leaf v.0 v.1 a) (writers nest load.array.0) q l in
                    between_within v.0.0 v.0.1 (are_writers nest load.array.0 v.0 v.1) a forms small_forms six q v.2)
              ]
            ]
          ]

    among_within : (ws : List Writer) → ((v : Writer) → IsIn v ws → IsWriter nest v.0 v.1) → (q : Question) → IsIn q (questions_among nest reader load ranges leaf a ws) → IsWithin q.system
    among_within [] h q (inl e) = subst (λ (p : Question). IsWithin p.system) (sym e) alone_within
    among_within [] h q (inr x) = absurd x
    among_within (w ∷ ws) h q i = chosen (poses a w.0) (λ j. among_within ws (λ v k. h v (inr k)) q j) i
      where
        chosen : (t : Bool) → (IsIn q (questions_among nest reader load ranges leaf a ws) → IsWithin q.system) → IsIn q (if t then named_questions nest reader load ranges leaf a w.0 w.1 else questions_among nest reader load ranges leaf a ws)
            → IsWithin q.system
        chosen true others i = named_within w.0 w.1 (h w (inl refl)) q i
        chosen false others i = others i

  -- ---- Where the leaf names none, and all of them

  input_within : (q : Question) → IsIn q (input_questions nest reader load ranges leaf) → IsWithin q.system
  input_within q i = by (is_temporary nest load.array.0) i
    where
      by : (t : Bool) → IsIn q (if t then here nest reader load ranges leaf [] ∷ [] else flat_map (λ (v : Writer). earlier_questions nest reader load ranges leaf v.0 v.1) (writers nest load.array.0)) → IsWithin q.system
      by true (inl e) = subst (λ (p : Question). IsWithin p.system) (sym e) alone_within
      by true (inr x) = absurd x
      by false i =
          let v = in_flat_map (λ (v : Writer). earlier_questions nest reader load ranges leaf v.0 v.1) (writers nest load.array.0) q i in
          earlier_within v.0.0 v.0.1 (are_writers nest load.array.0 v.0 v.1) q v.2

  leaf_within : (q : Question) → IsIn q (leaf_questions nest reader load ranges leaf) → IsWithin q.system
  leaf_within q i = by leaf.named refl i
    where
      by : (o : Option Posed) → leaf.named ≡ o → IsIn q (questions_for nest reader load ranges leaf o) → IsWithin q.system
      by None e i = input_within q i
      by (Some a) e i = among_within a (is.named a e) (small.named a e) (writers nest load.array.0) (are_writers nest load.array.0) q i

-- ---- The trees of all loads

-- a question of a part's loads is one of some load
record OfLoad (nest : Nest) (trees : List Tree) (e : Entry) (first : ℕ) (xs : List Access) (q : Question) : Type 0 where
  number : ℕ
  load : Access
  there : slice_get xs number ≡ Some load
  counts : suc number < length xs
  asked : IsIn q (questions_of_load nest e load (tree_of nest trees e.part (first + number)))

of_load : (nest : Nest) (trees : List Tree) (e : Entry) (first : ℕ) (xs : List Access) (q : Question) → IsIn q (questions_of_loads nest trees e first xs) → OfLoad nest trees e first xs q
of_load nest trees e first [] q i = absurd i
of_load nest trees e first (x ∷ []) q i = absurd i
of_load nest trees e first (x ∷ y ∷ ys) q i =
    elim (in_append (questions_of_load nest e x (tree_of nest trees e.part first)) (questions_of_loads nest trees e (first + 1) (y ∷ ys)) q i) [
      | inl j ↦ record { number = 0; load = x; there = refl; counts = two (length ys); asked = subst (λ m. IsIn q (questions_of_load nest e x (tree_of nest trees e.part m))) (none first) j }
      | inr j ↦ later (of_load nest trees e (first + 1) (y ∷ ys) q j)
    ]
  where
    two : (l : ℕ) → 1 < suc (suc l)
    two l = omega arith

    none : (m : ℕ) → m ≡ m + 0
    none m = omega arith

    moved : (m k : ℕ) → (m + 1) + k ≡ m + suc k
    moved m k = omega arith

    later : OfLoad nest trees e (first + 1) (y ∷ ys) q → OfLoad nest trees e first (x ∷ y ∷ ys) q
    later o = record {
      number = suc o.number;
      load = o.load;
      there = o.there;
      counts = one (suc o.number) (suc (length ys)) o.counts;
      asked = subst (λ m. IsIn q (questions_of_load nest e o.load (tree_of nest trees e.part m))) (moved first o.number) o.asked;
    }
      where
        one : (a b : ℕ) → a < b → suc a < suc b
        one a b h = omega (arith, h)

pub found_trees_pass_no_limit : FoundTreesPassNoLimit
found_trees_pass_no_limit program trees q has named found i =
    let nest : Nest = nest_of program in
    let nested : IsNest nest = record { program = program; has = has; is = refl } in
    let e = in_flat_map (λ e. if e.alive then questions_of_loads nest trees e 0 e.accesses else []) nest.entries q i in
    let reader : Entry = e.0 in
    let t = in_if reader.alive (questions_of_loads nest trees reader 0 reader.accesses) q e.2 in
    let o = of_load nest trees reader 0 reader.accesses q t.1 in
    let there = entry_at program has reader e.1 in
    let columns = length nest.params + length reader.loops in
    let counts : o.number < loads_in reader = below o.number (length reader.accesses) o.counts in
    let tree = found.each reader.part o.number reader o.load there counts o.there in
    let asked : IsIn q (questions_of_load nest reader o.load (Some tree.0)) =
    subst (λ s. IsIn q (questions_of_load nest reader o.load s)) tree.1 (subst (λ k. IsIn q (questions_of_load nest reader o.load (tree_of nest trees reader.part k))) (none o.number) o.asked) in
    let l = in_flat_map (leaf_questions nest reader o.load (nest.params ++ reader.ranges)) (leaves_of columns tree.0) q asked in
    let limits : KeepLimits nest trees = found_trees_keep_limits nest trees found in
    let path : IsPath nest columns l.0 = path_of nest columns tree.0 (limits reader.part o.number reader tree.0 there counts tree.1) l.0 l.1 in
    leaf_within program has named reader o.load (nest.params ++ reader.ranges) l.0
    (of_path nest reader o.load l.0 nested (record { there = e.1; alive = t.0 }) (stands_in reader.accesses o.number o.load o.there) path) path.count (depth_of tree.0) (divisions_of tree.0)
    (leaf_small columns tree.0 tree.2.shaped tree.2.fits l.0 l.1) tree.2.short tree.2.few q l.2
  where
    none : (k : ℕ) → 0 + k ≡ k
    none k = omega arith

    below : (k n : ℕ) → suc k < n → k < n - 1
    below k n h = omega (arith, h)
