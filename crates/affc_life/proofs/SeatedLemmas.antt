-- What holds of a reader, a leaf and a writer: widths, ranges, and the forms of the three instances.
use Rattle.std.proofs.Common.{◌≡◌, ℕ, ◌+◌, ◌-◌, ◌^◌, ◌≤◌, ℤ, List, [], ◌∷◌, ◌++◌, length, map, flat_map, drop, Some, refl, sym, ap, subst, ◌∙◌, arith}
use Rattle.std.specs.Prelude.{slice_get}
use Rattle.std.specs.List.{All}
use Rattle.std.proofs.lemmas.List.Elements.{All-append, All-drop, All-weaker}
use Rattle.std.proofs.lemmas.Option.{slice_get_within}
use Rattle.affc_rows.specs.Forms.{Affine, HaveColumns}
use Rattle.affc_system.specs.Pairs.{IsSubscript, WithinReach}
use Rattle.affc_system.specs.Systems.{Rows, IsRow}
use Rattle.affc_system.proofs.SystemLemmas.{rows_of, rows_within}
use Rattle.affc_trace.specs.Inverses.{columns_from}
use Rattle.affc_trace.specs.Law.{IsIn}
use Rattle.affc_trace.proofs.LastStores.{map_append}
use Rattle.affc_trace.proofs.Runs.{length_append}
use Rattle.affc_domain.proofs.Lists.{length_map}
use Rattle.affc_nest.specs.Asked.{IsNest}
use Rattle.affc_nest.specs.declared.nest.Access.{Access}
use Rattle.affc_nest.specs.declared.nest.Entry.{Entry}
use Rattle.affc_nest.specs.declared.nest.Nest.{Nest}
use Rattle.affc_nest.proofs.QuestionProofs.{nest_few, nest_near, few_numbered}
use Rattle.affc_trace.specs.declared.schedule.Schedule.{Schedule}
use Rattle.affc_nest.proofs.IntervalLemmas.{near_reach}
use Rattle.affc_order.specs.Placed.{IsPlaced}
use Rattle.affc_order.specs.Posed.{Posed}
use Rattle.affc_order.specs.Systems.{loops_or_none, rows_in, target_order}
use Rattle.affc_order.specs.Spread.{spread}
use Rattle.affc_order.proofs.ColumnLemmas.{from_long}
use Rattle.affc_order.proofs.PlacedLemmas.{columns_rows}
use Rattle.affc_sched.specs.Questions.{context_count}
use Rattle.affc_sched.proofs.LegalLemmas.{entry_at}
use Rattle.affc_sched.proofs.PairLemmas.{stands_in}
use Rattle.affc_sched.proofs.WidthLemmas.{domain_wide}
use Rattle.affc_quast.specs.Leaves.{padded, Leaf}
use Rattle.affc_life.specs.Asked.{IsLiving, AreSeated, StandBeside}
use Rattle.affc_life.specs.Clashes.{Clash, Walk, differing, clash_columns, of_reader, of_writer, front_rows, clash_ranges, reader_posed, named_posed, writer_posed, rows_of_clashes, clash, clashes_of_store}
use Rattle.affc_life.proofs.BoxedLemmas.{ranges_are, entry_reach}
use Rattle.affc_life.proofs.WalkLemmas.{between_is}
use Rattle.affc_life.proofs.LightLemmas.{all_padded, all_spread}
use Rattle.affc_life.proofs.SubscriptLemmas.{are_subscripts}

-- ---- Sums

enough : (m l c : ℕ) → c ≡ m + l → m ≤ c
enough m l c e = omega (arith, e)

through : (a b c : ℕ) → a ≤ b → b ≤ c → a ≤ c
through a b c h g = omega (arith, h, g)

within : (k m c : ℕ) → k ≡ m → m ≤ c → k ≤ c
within k m c e h = omega (arith, e, h)

-- ---- A part of a nest that can have instances

module _ (nest : Nest) (n : IsNest nest) (e : Entry) (living : IsLiving nest e) where
  pub its_ranges : (length e.ranges ≡ length e.loops) × All WithinReach e.ranges
  its_ranges =
      let i = subst (λ (x : Nest). IsIn e x.entries) n.is living.there in
      ((ranges_are n.program n.has e i living.alive).each, entry_reach n.program n.has e i living.alive)

  pub its_place : slice_get nest.entries e.part ≡ Some e
  its_place = subst (λ (x : Nest). slice_get x.entries e.part ≡ Some e) (sym n.is) (entry_at n.program n.has e (subst (λ (x : Nest). IsIn e x.entries) n.is living.there))

  -- by its own number and these columns it is an instance
  pub its_columns : (columns first : ℕ) → IsPlaced nest columns (record { part = e.part; iterators = columns_from columns first (length e.loops) })
  its_columns columns first = record {
    part = slice_get_within nest.entries e.part e its_place;
    each = from_long columns first (length e.loops) ∙ ap (λ o. length (loops_or_none o)) (sym its_place);
    rows = columns_rows columns first (length e.loops);
  }

  -- the rows of its domain
  pub its_rows : HaveColumns (length nest.params + length e.loops) e.domain.rows
  its_rows =
      subst (λ (x : Nest). HaveColumns (length x.params + length e.loops) e.domain.rows) (sym n.is)
      (domain_wide n.program n.has e.part e (entry_at n.program n.has e (subst (λ (x : Nest). IsIn e x.entries) n.is living.there)) living.alive)

  -- they have the columns of the parameters
  pub own_wide : (own : List Affine) → own ≡ drop (context_count nest) e.domain.rows → All (λ f. length nest.params ≤ length f.coefs) own
  own_wide own is =
      subst (All (λ f. length nest.params ≤ length f.coefs)) (sym is)
      (All-drop (λ f. length nest.params ≤ length f.coefs) (context_count nest) e.domain.rows
      (All-weaker (λ f. length f.coefs ≡ length nest.params + length e.loops) (λ f. length nest.params ≤ length f.coefs) (λ f w. enough (length nest.params) (length e.loops) (length f.coefs) w) e.domain.rows its_rows))

-- ---- Three together

module _ (nest : Nest) (reader : Entry) (leaf : Leaf) (writer : Entry) (s : StandBeside nest reader leaf writer) where
  pub params_few : length nest.params ≤ 4
  params_few = nest_few nest s.nested

  pub reader_few : length reader.loops ≤ 6
  reader_few = few_numbered nest reader s.nested s.reads.there

  pub writer_few : length writer.loops ≤ 6
  writer_few = few_numbered nest writer s.nested s.writes.there

  pub params_first : length nest.params ≤ leaf.columns
  params_first = first (length nest.params) (length reader.loops) leaf.columns s.first
    where
      first : (m l c : ℕ) → m + l ≤ c → m ≤ c
      first m l c h = omega (arith, h)

  pub leaf_first : leaf.columns ≤ clash_columns nest reader leaf writer
  leaf_first = more leaf.columns (length writer.loops)
    where
      more : (c l : ℕ) → c ≤ c + l
      more c l = omega arith

  pub reader_first : length nest.params + length reader.loops ≤ clash_columns nest reader leaf writer
  reader_first = through (length nest.params + length reader.loops) leaf.columns (clash_columns nest reader leaf writer) s.first leaf_first

  -- ---- Rows

  pub domain_narrow : (rows : List Affine) → All (IsRow reader.domain.columns) rows → All (λ f. length f.coefs ≤ clash_columns nest reader leaf writer) rows
  domain_narrow rows fit =
      All-weaker (IsRow reader.domain.columns) (λ f. length f.coefs ≤ clash_columns nest reader leaf writer)
      (λ f r. within (length f.coefs) (length nest.params + length reader.loops) (clash_columns nest reader leaf writer) (r.width ∙ (stands_in nest s.nested reader s.reads.there).columns) reader_first) rows fit

  pub leaf_narrow : All (λ f. length f.coefs ≤ clash_columns nest reader leaf writer) leaf.rows
  leaf_narrow =
      All-weaker (λ f. length f.coefs ≤ leaf.columns) (λ f. length f.coefs ≤ clash_columns nest reader leaf writer) (λ f h. through (length f.coefs) leaf.columns (clash_columns nest reader leaf writer) h leaf_first) leaf.rows s.rows

  -- ---- Subscripts

  load_over : (load : Access) → IsIn load reader.accesses → All (IsSubscript (length nest.params + length reader.loops)) load.subs
  load_over load i = are_subscripts nest s.nested reader s.reads.there load i

  pub load_subscripts : (load : Access) → IsIn load reader.accesses → All (IsSubscript (clash_columns nest reader leaf writer)) (map (of_reader nest reader leaf writer) load.subs)
  load_subscripts load i = all_padded (length nest.params + length reader.loops) (clash_columns nest reader leaf writer) 65536 16777216 load.subs reader_first (load_over load i)

  pub load_narrow : (load : Access) → IsIn load reader.accesses → All (λ f. length f.coefs ≤ clash_columns nest reader leaf writer) load.subs
  load_narrow load i =
      All-weaker (IsSubscript (length nest.params + length reader.loops)) (λ f. length f.coefs ≤ clash_columns nest reader leaf writer)
      (λ f w. within (length f.coefs) (length nest.params + length reader.loops) (clash_columns nest reader leaf writer) w.width reader_first) load.subs (load_over load i)

  pub writer_whole : (length nest.params + (leaf.columns - length nest.params)) + length writer.loops ≡ clash_columns nest reader leaf writer
  writer_whole = sum (length nest.params) leaf.columns (length writer.loops) params_first
    where
      sum : (m c l : ℕ) → m ≤ c → (m + (c - m)) + l ≡ c + l
      sum m c l h = omega (arith, h)

  store_over : (store : Access) → IsIn store writer.accesses → All (IsSubscript (length nest.params + length writer.loops)) store.subs
  store_over store i = are_subscripts nest s.nested writer s.writes.there store i

  pub store_subscripts : (store : Access) → IsIn store writer.accesses → All (IsSubscript (clash_columns nest reader leaf writer)) (map (of_writer nest reader leaf writer) store.subs)
  store_subscripts store i =
      all_spread (length nest.params) (leaf.columns - length nest.params) (length writer.loops) (clash_columns nest reader leaf writer) 65536 16777216 store.subs writer_whole (store_over store i)

  pub store_wide_enough : (store : Access) → IsIn store writer.accesses → All (λ f. length nest.params ≤ length f.coefs) store.subs
  store_wide_enough store i =
      All-weaker (IsSubscript (length nest.params + length writer.loops)) (λ f. length nest.params ≤ length f.coefs) (λ f w. enough (length nest.params) (length writer.loops) (length f.coefs) w.width) store.subs (store_over store i)

  -- ---- The three instances

  pub reader_forms : IsPlaced nest (clash_columns nest reader leaf writer) (reader_posed nest reader leaf writer)
  reader_forms = its_columns nest s.nested reader s.reads (clash_columns nest reader leaf writer) (length nest.params)

  pub writer_forms : IsPlaced nest (clash_columns nest reader leaf writer) (writer_posed nest reader leaf writer)
  writer_forms = its_columns nest s.nested writer s.writes (clash_columns nest reader leaf writer) leaf.columns

  pub named_forms : (named : Posed) → IsPlaced nest leaf.columns named → IsPlaced nest (clash_columns nest reader leaf writer) (named_posed nest reader leaf writer named)
  named_forms named h =
      let columns = clash_columns nest reader leaf writer in
      record {
        part = h.part;
        each = length_map (padded columns) named.iterators ∙ h.each;
        rows = rows_of columns (2 ^ 40) (2 ^ 60) (map (padded columns) named.iterators) (omega arith) (omega arith)
            (all_padded leaf.columns columns (2 ^ 40) (2 ^ 60) named.iterators leaf_first (rows_within leaf.columns named.iterators h.rows));
      }

  pub named_narrow : (named : Posed) → IsPlaced nest leaf.columns named → All (λ f. length f.coefs ≤ clash_columns nest reader leaf writer) named.iterators
  named_narrow named h =
      All-weaker (IsRow leaf.columns) (λ f. length f.coefs ≤ clash_columns nest reader leaf writer) (λ f r. within (length f.coefs) leaf.columns (clash_columns nest reader leaf writer) r.width leaf_first) named.iterators h.rows

  -- ---- Ranges

  pub start_near : All WithinReach (nest.params ++ reader.ranges)
  start_near = All-append WithinReach nest.params reader.ranges (near_reach nest.params (nest_near nest s.nested)) (its_ranges nest s.nested reader s.reads).1

  pub start_long : length (nest.params ++ reader.ranges) ≡ length nest.params + length reader.loops
  start_long = length_append nest.params reader.ranges ∙ ap (λ k. length nest.params + k) (its_ranges nest s.nested reader s.reads).0

-- ---- A leaf

-- it is over the columns of its reader's part and a quotient for each division
pub at_leaf : (nest : Nest) (reader : Entry) (leaf : Leaf) (writer : Entry) → AreSeated nest reader leaf writer → StandBeside nest reader leaf writer
at_leaf nest reader leaf writer s = record {
  nested = s.nested;
  reads = s.reads;
  first = most leaf.columns (length nest.params + length reader.loops) (length leaf.divisions) s.path.count;
  few = sum leaf.columns (length nest.params) (length reader.loops) (length leaf.divisions) s.path.count (nest_few nest s.nested) (few_numbered nest reader s.nested s.reads.there) s.path.few;
  rows = s.path.rows;
  writes = s.writes;
}
  where
    most : (c m d : ℕ) → c ≡ m + d → m ≤ c
    most c m d e = omega (arith, e)

    sum : (c m l d : ℕ) → c ≡ (m + l) + d → m ≤ 4 → l ≤ 6 → d ≤ 400 → c ≤ 410
    sum c m l d e h g i = omega (arith, e, h, g, i)

pub start_few : (nest : Nest) (reader : Entry) (leaf : Leaf) (writer : Entry) → AreSeated nest reader leaf writer → length (nest.params ++ reader.ranges) + length leaf.divisions ≤ 500
start_few nest reader leaf writer s =
    let b = at_leaf nest reader leaf writer s in
    sum (length (nest.params ++ reader.ranges)) (length nest.params) (length reader.loops) (length leaf.divisions) (start_long nest reader leaf writer b) (params_few nest reader leaf writer b) (reader_few nest reader leaf writer b) s.path.few
  where
    sum : (k m l d : ℕ) → k ≡ m + l → m ≤ 4 → l ≤ 6 → d ≤ 400 → k + d ≤ 500
    sum k m l d e h g i = omega (arith, e, h, g, i)

-- ---- Rows in front

-- three parts one after the other
pub front_made : (nest : Nest) (reader : Entry) (leaf : Leaf) (writer : Entry) (columns params between : ℕ) (domain rows own first second third none : List Affine)
    → columns ≡ clash_columns nest reader leaf writer → params ≡ length nest.params → between ≡ leaf.columns - params
    → domain ≡ reader.domain.rows → rows ≡ leaf.rows → own ≡ drop (context_count nest) writer.domain.rows → none ≡ []
    → first ≡ none ++ map (padded columns) domain → second ≡ first ++ map (padded columns) rows → third ≡ second ++ map (spread params between 0) own
    → third ≡ front_rows nest reader leaf writer
front_made nest reader leaf writer columns params between domain rows own first second third none c p b d r o n e1 e2 e3 =
    let P : Affine → Affine = padded (clash_columns nest reader leaf writer) in
    let one : first ≡ map P reader.domain.rows = e1 ∙ ap (λ xs. xs ++ map (padded columns) domain) n ∙ ap (λ k. map (padded k) domain) c ∙ ap (map P) d in
    let two : second ≡ map P (reader.domain.rows ++ leaf.rows) =
    e2 ∙ ap (λ xs. xs ++ map (padded columns) rows) one ∙ ap (λ k. map P reader.domain.rows ++ map (padded k) rows) c ∙ ap (λ xs. map P reader.domain.rows ++ map P xs) r ∙ sym (map_append P reader.domain.rows leaf.rows) in
    e3 ∙ ap (λ xs. xs ++ map (spread params between 0) own) two
    ∙ ap (λ k. map P (reader.domain.rows ++ leaf.rows) ++ map (spread params k 0) own) b
    ∙ ap (λ k. map P (reader.domain.rows ++ leaf.rows) ++ map (spread k (leaf.columns - k) 0) own) p
    ∙ ap (λ xs. map P (reader.domain.rows ++ leaf.rows) ++ map (of_writer nest reader leaf writer) xs) o

-- an instance of a part by these forms
abbrev by_forms : (part : ℕ) → (forms : List Affine) → Posed
by_forms part forms = record { part = part; iterators = forms }

-- a clash system of these parts
abbrev pub clash_by : (columns : ℕ) → (ranges : List (ℤ × ℤ)) → (x y rows : List Affine) → Clash
clash_by columns ranges x y rows = record { system = record { columns = columns; rows = rows }; ranges = ranges; x = x; y = y }

-- ---- Subscripts and instances, as the code makes them

module _ (nest : Nest) (reader : Entry) (leaf : Leaf) (writer : Entry) where
  pub loaded_made : (columns : ℕ) (subs own none out : List Affine) → columns ≡ clash_columns nest reader leaf writer → none ≡ [] → subs ≡ own → out ≡ none ++ map (padded columns) subs
      → out ≡ map (of_reader nest reader leaf writer) own
  loaded_made columns subs own none out c n s e = e ∙ ap (λ xs. xs ++ map (padded columns) subs) n ∙ ap (λ k. map (padded k) subs) c ∙ ap (map (of_reader nest reader leaf writer)) s

  pub stored_made : (params : ℕ) (subs own none out : List Affine) → params ≡ length nest.params → none ≡ [] → subs ≡ own → out ≡ none ++ map (spread params (leaf.columns - params) 0) subs
      → out ≡ map (of_writer nest reader leaf writer) own
  stored_made params subs own none out p n s e =
      e ∙ ap (λ xs. xs ++ map (spread params (leaf.columns - params) 0) subs) n ∙ ap (λ k. map (spread k (leaf.columns - k) 0) subs) p ∙ ap (map (of_writer nest reader leaf writer)) s

  module _ (columns : ℕ) (columns_are : columns ≡ clash_columns nest reader leaf writer) where
    pub writes_are : (loops : ℕ) (stores : List Affine) → loops ≡ length writer.loops → stores ≡ columns_from columns leaf.columns loops → stores ≡ (writer_posed nest reader leaf writer).iterators
    writes_are loops stores l e = e ∙ ap (columns_from columns leaf.columns) l ∙ ap (λ k. columns_from k leaf.columns (length writer.loops)) columns_are

    pub reads_are : (params loops : ℕ) (loads : List Affine) → params ≡ length nest.params → loops ≡ length reader.loops → loads ≡ columns_from columns params loops → loads ≡ (reader_posed nest reader leaf writer).iterators
    reads_are params loops loads p l e =
        e ∙ ap (λ j. columns_from columns j loops) p ∙ ap (columns_from columns (length nest.params)) l ∙ ap (λ k. columns_from k (length nest.params) (length reader.loops)) columns_are

    -- over these columns
    pub placed_over : (part : ℕ) (forms whole : List Affine) → forms ≡ whole → IsPlaced nest (clash_columns nest reader leaf writer) (by_forms part whole) → IsPlaced nest columns (by_forms part forms)
    placed_over part forms whole e h = subst (λ fs. IsPlaced nest columns (by_forms part fs)) (sym e) (subst (λ k. IsPlaced nest k (by_forms part whole)) (sym columns_are) h)

    pub order_made : (schedule : Schedule) (a : Posed) (fs : List Affine) (b : Posed) (gs : List Affine) (out : List (List Affine)) → fs ≡ a.iterators → gs ≡ b.iterators
        → out ≡ map rows_in (target_order nest schedule columns (by_forms a.part fs) (by_forms b.part gs)) → out ≡ map rows_in (target_order nest schedule (clash_columns nest reader leaf writer) a b)
    order_made schedule a fs b gs out f g e =
        e ∙ ap (λ xs. map rows_in (target_order nest schedule columns (by_forms a.part xs) (by_forms b.part gs))) f ∙ ap (λ ys. map rows_in (target_order nest schedule columns a (by_forms b.part ys))) g
        ∙ ap (λ k. map rows_in (target_order nest schedule k a b)) columns_are

  -- ---- All of them

  pub store_made : (walk : Walk) (load : Access) (named : Posed) (store : Access) (columns : ℕ) (ranges : List (ℤ × ℤ)) (x y front : List Affine) (after before : List (List Affine)) (old new : List Clash)
      → columns ≡ clash_columns nest reader leaf writer → ranges ≡ clash_ranges nest reader leaf writer → x ≡ map (of_reader nest reader leaf writer) load.subs
      → y ≡ map (of_writer nest reader leaf writer) store.subs → front ≡ front_rows nest reader leaf writer → after ≡ map rows_in (walk.after (clash_columns nest reader leaf writer) (named_posed nest reader leaf writer named) (writer_posed nest reader leaf writer))
      → before ≡ map rows_in (walk.before (clash_columns nest reader leaf writer) (writer_posed nest reader leaf writer) (reader_posed nest reader leaf writer))
      → new ≡ old ++ map (clash_by columns ranges x y) (flat_map (λ o. flat_map (λ u. differing walk.differ x y (front ++ (o ++ u))) before) after)
      → new ≡ old ++ clashes_of_store nest reader leaf writer walk load named store
  store_made walk load named store columns ranges x y front after before old new c r i j f a b e =
      let xs : List Affine = map (of_reader nest reader leaf writer) load.subs in
      let ys : List Affine = map (of_writer nest reader leaf writer) store.subs in
      let first : List Rows = walk.after (clash_columns nest reader leaf writer) (named_posed nest reader leaf writer named) (writer_posed nest reader leaf writer) in
      let second : List Rows = walk.before (clash_columns nest reader leaf writer) (writer_posed nest reader leaf writer) (reader_posed nest reader leaf writer) in
      let rows : flat_map (λ o. flat_map (λ u. differing walk.differ x y (front ++ (o ++ u))) before) after ≡ rows_of_clashes nest reader leaf writer walk load named store =
      ap (λ zs. flat_map (λ o. flat_map (λ u. differing walk.differ zs y (front ++ (o ++ u))) before) after) i ∙ ap (λ zs. flat_map (λ o. flat_map (λ u. differing walk.differ xs zs (front ++ (o ++ u))) before) after) j
      ∙ ap (λ zs. flat_map (λ o. flat_map (λ u. differing walk.differ xs ys (zs ++ (o ++ u))) before) after) f ∙ ap (flat_map (λ o. flat_map (λ u. differing walk.differ xs ys (front_rows nest reader leaf writer ++ (o ++ u))) before)) a
      ∙ ap (λ zs. flat_map (λ o. flat_map (λ u. differing walk.differ xs ys (front_rows nest reader leaf writer ++ (o ++ u))) zs) (map rows_in first)) b ∙ between_is walk.differ (front_rows nest reader leaf writer) first second xs ys in
      e ∙ ap (λ zs. old ++ map (clash_by columns ranges x y) zs) rows
      ∙ ap (λ zs. old ++ zs) (drafts_are (rows_of_clashes nest reader leaf writer walk load named store))
    where
      one : (rows : List Affine) → clash_by columns ranges x y rows ≡ clash nest reader leaf writer walk load named store rows
      one rows k = record { system = record { columns = c k; rows = rows }; ranges = r k; x = i k; y = j k }

      drafts_are : (rs : List (List Affine)) → map (clash_by columns ranges x y) rs ≡ map (clash nest reader leaf writer walk load named store) rs
      drafts_are [] = refl
      drafts_are (rows ∷ rs) = ap (λ z. z ∷ map (clash_by columns ranges x y) rs) (one rows) ∙ ap (λ zs. clash nest reader leaf writer walk load named store rows ∷ zs) (drafts_are rs)
