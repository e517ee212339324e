-- The clash systems of a load and a leaf are over their columns.
use Rattle.std.proofs.Common.{◌≡◌, ℕ, ◌+◌, ◌-◌, ◌≤◌, pos, negsuc, List, [], ◌∷◌, ◌++◌, length, map, drop, refl, sym, ap, subst, ◌∙◌, inl, inr, arith}
use Rattle.std.specs.Prelude.{slice_get}
use Rattle.std.specs.List.{All}
use Rattle.std.proofs.lemmas.List.Elements.{All-nil, All-cons, All-append, All-drop, All-weaker}
use Rattle.affc_rows.specs.Forms.{Affine, HaveColumns}
use Rattle.affc_rows.proofs.SizeLemmas.{spread_width}
use Rattle.affc_rows.proofs.ValueLemmas.{length-mixed}
use Rattle.affc_system.specs.Pairs.{IsSubscript}
use Rattle.affc_system.specs.Systems.{Rows, IsRow}
use Rattle.affc_trace.specs.declared.schedule.Schedule.{Schedule}
use Rattle.affc_trace.specs.declared.schedule.Schedule.TheVariants.{Source, Time}
use Rattle.affc_trace.specs.Inverses.{columns_from}
use Rattle.affc_trace.specs.Law.{IsIn}
use Rattle.affc_domain.proofs.Lists.{stands_in}
use Rattle.affc_nest.specs.Asked.{IsNest}
use Rattle.affc_nest.specs.declared.nest.Access.{Access}
use Rattle.affc_nest.specs.declared.nest.Entry.{Entry}
use Rattle.affc_nest.specs.declared.nest.Nest.{Nest}
use Rattle.affc_nest.specs.Parts.{statement_of}
use Rattle.affc_nest.specs.Domains.{gap_row}
use Rattle.affc_order.specs.Placed.{IsPlaced}
use Rattle.affc_order.specs.Posed.{Posed}
use Rattle.affc_order.specs.Spread.{spread}
use Rattle.affc_order.specs.Systems.{forms_or_none, target_order}
use Rattle.affc_order.proofs.ColumnLemmas.{at_width}
use Rattle.affc_sched.specs.Questions.{context_count}
use Rattle.affc_quast.specs.Leaves.{padded, Leaf}
use Rattle.affc_quast.specs.Sources.{loads_in}
use Rattle.affc_quast.proofs.LeafLemmas.{padded_width}
use Rattle.affc_life.specs.Asked.{IsLiving, IsPath, AreSeated, StandBeside}
use Rattle.affc_life.specs.Clashes.{Clash, Order, Walk, clash_columns, of_reader, of_writer, front_rows, reader_posed, named_posed, writer_posed}
use Rattle.affc_life.specs.Drafts.{IsPaired, clashes_of_leaf}
use Rattle.affc_life.proofs.LightLemmas.{all_map}
use Rattle.affc_life.proofs.MadeLemmas.{OfLeaf, of_leaf}
use Rattle.affc_life.proofs.RowLemmas.{between_all, Compared, order_all}
use Rattle.affc_life.proofs.SeatedLemmas.{its_rows, at_leaf, reader_first, leaf_narrow, load_subscripts, store_subscripts, writer_whole, reader_forms, writer_forms, named_forms}

-- each system of an order of two instances over so many columns is over these
abbrev pub KeepsWidth : Nest → Order → Type 0
KeepsWidth nest order = (columns : ℕ) (a b : Posed) → IsPlaced nest columns a → IsPlaced nest columns b → (s : Rows) → IsIn s (order columns a b) → HaveColumns columns s.rows

abbrev Wide : (columns : ℕ) → Affine → Type 0
Wide columns f = length f.coefs ≡ columns

gap_wide : (columns : ℕ) (f g : Affine) (j : ℕ) → Wide columns f → Wide columns g → j ≤ 1 → Wide columns (gap_row f g j)
gap_wide columns f g j u v h = length-mixed (pos 1) g.coefs (negsuc 0) f.coefs (v ∙ sym u) ∙ v

pub target_keeps_width : (nest : Nest) (schedule : Schedule) → KeepsWidth nest (target_order nest schedule)
target_keeps_width nest schedule columns a b g h s i = order_all (Wide columns) (Wide columns) (gap_wide columns) nest columns schedule a b (compared_wide schedule a g) (compared_wide schedule b h) s i
  where
    compared_wide : (z : Schedule) (a : Posed) → IsPlaced nest columns a → Compared (Wide columns) nest columns z a
    compared_wide Source a h = All-weaker (IsRow columns) (Wide columns) (λ f r. r.width) a.iterators h.rows
    compared_wide (Time components maps) a h = at_width columns (columns_from columns 0 (length nest.params) ++ a.iterators) (forms_or_none (slice_get maps (statement_of nest a.part)))

-- a clash system of a load, a leaf and a store
module _ (nest : Nest) (n : IsNest nest) (walk : Walk) (c : Clash) (reader : Entry) (load : Access) (load_in : IsIn load reader.accesses) (leaf : Leaf) (o : OfLeaf nest walk reader load leaf c) (at : AreSeated nest reader leaf o.writer) where
  abbrev wide : ℕ
  wide = clash_columns nest reader leaf o.writer

  beside : StandBeside nest reader leaf o.writer
  beside = at_leaf nest reader leaf o.writer at

  has_named : IsPlaced nest leaf.columns o.named
  has_named = at.path.named o.named o.names

  -- what each row keeps
  pub all_rows : (P Q : Affine → Type 0) → ((f g : Affine) (j : ℕ) → Q f → Q g → j ≤ 1 → P (gap_row f g j)) → All P (front_rows nest reader leaf o.writer)
      → ((s : Rows) → IsIn s (walk.after wide (named_posed nest reader leaf o.writer o.named) (writer_posed nest reader leaf o.writer)) → All P s.rows)
      → ((s : Rows) → IsIn s (walk.before wide (writer_posed nest reader leaf o.writer) (reader_posed nest reader leaf o.writer)) → All P s.rows)
      → All Q (map (of_reader nest reader leaf o.writer) load.subs) → All Q (map (of_writer nest reader leaf o.writer) o.store.subs) → All P c.system.rows
  all_rows P Q gap front after before xs ys =
      subst (λ (d : Clash). All P d.system.rows) (sym o.is)
      (between_all P Q gap walk.differ (front_rows nest reader leaf o.writer)
      (walk.after wide (named_posed nest reader leaf o.writer o.named) (writer_posed nest reader leaf o.writer))
      (walk.before wide (writer_posed nest reader leaf o.writer) (reader_posed nest reader leaf o.writer))
      (map (of_reader nest reader leaf o.writer) load.subs) (map (of_writer nest reader leaf o.writer) o.store.subs) front after before
      xs ys o.rows o.rows_in)

  -- ---- Widths

  padded_wide : (rows : List Affine) → All (λ f. length f.coefs ≤ wide) rows → All (Wide wide) (map (padded wide) rows)
  padded_wide rows h = all_map (λ f. length f.coefs ≤ wide) (Wide wide) (padded wide) (λ f l. padded_width wide f l) rows h

  own_wide : All (Wide wide) (map (of_writer nest reader leaf o.writer) (drop (context_count nest) o.writer.domain.rows))
  own_wide =
      let w : Entry = o.writer in
      all_map (λ f. length f.coefs ≡ length nest.params + length w.loops) (Wide wide) (spread (length nest.params) (leaf.columns - length nest.params) 0)
      (λ f l. spread_width (length nest.params) (leaf.columns - length nest.params) (length w.loops) 0 f l ∙ none ((length nest.params + (leaf.columns - length nest.params)) + length w.loops) ∙ writer_whole nest reader leaf w beside)
      (drop (context_count nest) w.domain.rows) (All-drop (λ f. length f.coefs ≡ length nest.params + length w.loops) (context_count nest) w.domain.rows (its_rows nest n w beside.writes))
    where
      none : (x : ℕ) → x + 0 ≡ x
      none x = omega arith

  path_wide : All (λ f. length f.coefs ≤ wide) (reader.domain.rows ++ leaf.rows)
  path_wide =
      let r : Entry = reader in
      All-append (λ f. length f.coefs ≤ wide) r.domain.rows leaf.rows
      (All-weaker (λ f. length f.coefs ≡ length nest.params + length r.loops) (λ f. length f.coefs ≤ wide)
      (λ f l. within (length f.coefs) (length nest.params + length r.loops) wide l (reader_first nest r leaf o.writer beside)) r.domain.rows (its_rows nest n r beside.reads))
      (leaf_narrow nest reader leaf o.writer beside)
    where
      within : (a b c : ℕ) → a ≡ b → b ≤ c → a ≤ c
      within a b c e h = omega (arith, e, h)

  front_wide : All (Wide wide) (front_rows nest reader leaf o.writer)
  front_wide =
      All-append (Wide wide) (map (padded wide) (reader.domain.rows ++ leaf.rows)) (map (of_writer nest reader leaf o.writer) (drop (context_count nest) o.writer.domain.rows))
      (padded_wide (reader.domain.rows ++ leaf.rows) path_wide) own_wide

  pub first_subscripts : All (IsSubscript wide) (map (of_reader nest reader leaf o.writer) load.subs)
  first_subscripts = load_subscripts nest reader leaf o.writer beside load load_in

  pub second_subscripts : All (IsSubscript wide) (map (of_writer nest reader leaf o.writer) o.store.subs)
  second_subscripts = store_subscripts nest reader leaf o.writer beside o.store (stands_in o.writer.accesses (loads_in o.writer) o.store o.store_there)

  system_wide : KeepsWidth nest walk.after → KeepsWidth nest walk.before → HaveColumns c.system.columns c.system.rows
  system_wide after before =
      let a = named_forms nest reader leaf o.writer beside o.named has_named in
      let w = writer_forms nest reader leaf o.writer beside in
      subst (λ m. HaveColumns m c.system.rows) (sym (ap (λ (d : Clash). d.system.columns) o.is))
      (all_rows (Wide wide) (Wide wide) (gap_wide wide) front_wide
      (after wide (named_posed nest reader leaf o.writer o.named) (writer_posed nest reader leaf o.writer) a w)
      (before wide (writer_posed nest reader leaf o.writer) (reader_posed nest reader leaf o.writer) w (reader_forms nest reader leaf o.writer beside))
      (All-weaker (IsSubscript wide) (Wide wide) (λ f s. s.width) (map (of_reader nest reader leaf o.writer) load.subs) first_subscripts)
      (All-weaker (IsSubscript wide) (Wide wide) (λ f s. s.width) (map (of_writer nest reader leaf o.writer) o.store.subs) second_subscripts))

  system_first : All (IsSubscript c.system.columns) c.x
  system_first = subst (λ (d : Clash). All (IsSubscript d.system.columns) d.x) (sym o.is) first_subscripts

  system_second : All (IsSubscript c.system.columns) c.y
  system_second = subst (λ (d : Clash). All (IsSubscript d.system.columns) d.y) (sym o.is) second_subscripts

  pub is_paired : KeepsWidth nest walk.after → KeepsWidth nest walk.before → IsPaired c
  is_paired after before = record { width = system_wide after before; first = system_first; second = system_second }

-- those of a leaf
pub leaf_paired : (nest : Nest) → IsNest nest → (walk : Walk) (reader : Entry) (load : Access) → IsLiving nest reader → IsIn load reader.accesses → (leaf : Leaf) → IsPath nest (length nest.params + length reader.loops) leaf → KeepsWidth nest walk.after
    → KeepsWidth nest walk.before → All IsPaired (clashes_of_leaf nest walk reader load leaf)
leaf_paired nest n walk reader load reads load_in leaf path after before = all_in (clashes_of_leaf nest walk reader load leaf) (λ c i. i)
  where
    all_in : (cs : List Clash) → ((c : Clash) → IsIn c cs → IsIn c (clashes_of_leaf nest walk reader load leaf)) → All IsPaired cs
    all_in [] h = All-nil IsPaired
    all_in (c ∷ cs) h =
        let o = of_leaf nest walk reader load leaf c leaf.named refl (h c (inl refl)) in
        All-cons IsPaired c cs (is_paired nest n walk c reader load load_in leaf o (record { nested = n; reads = reads; path = path; writes = record { there = o.writer_in; alive = o.writer_alive } }) after before)
        (all_in cs (λ x i. h x (inr i)))
