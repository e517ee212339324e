-- The clash systems of trees that the search gives keep the limits of systems.
use Rattle.std.proofs.Common.{◌≡◌, ℕ, ◌+◌, ◌-◌, ◌^◌, ◌<◌, ◌≤◌, true, IsTrue, List, ◌++◌, length, map, drop, refl, sym, ap, subst, ◌∙◌, inl, inr, arith}
use Rattle.std.specs.List.{All}
use Rattle.std.proofs.lemmas.List.{length-drop}
use Rattle.std.proofs.lemmas.List.Elements.{All-append, All-drop, All-weaker}
use Rattle.std.proofs.lemmas.Option.{same_Some}
use Rattle.affc_rows.specs.Forms.{Affine}
use Rattle.affc_rows.proofs.SizeLemmas.{widened_within, all_raised}
use Rattle.affc_system.specs.Systems.{FitsRow, IsRow}
use Rattle.affc_system.proofs.SystemLemmas.{rows_of, rows_within}
use Rattle.affc_ast.specs.declared.tree.Program.{Program}
use Rattle.affc_trace.specs.declared.schedule.Schedule.{Schedule}
use Rattle.affc_trace.specs.declared.schedule.Schedule.TheVariants.{Source}
use Rattle.affc_trace.specs.Law.{IsIn}
use Rattle.affc_trace.specs.Target.{IsScheduleOf, within_limits}
use Rattle.affc_trace.proofs.Runs.{length_append}
use Rattle.affc_domain.proofs.Lists.{length_map, stands_in}
use Rattle.affc_nest.specs.Asked.{IsNest}
use Rattle.affc_nest.specs.declared.nest.Access.{Access}
use Rattle.affc_nest.specs.declared.nest.Entry.{Entry}
use Rattle.affc_nest.specs.declared.nest.Nest.{Nest}
use Rattle.affc_nest.specs.Laws.{HasNest, NamesArrays}
use Rattle.affc_nest.specs.Nests.{nest_of}
use Rattle.affc_nest.proofs.QuestionProofs.{domain_small}
use Rattle.affc_order.specs.Asked.{IsScheduled}
use Rattle.affc_order.specs.Placed.{IsPlaced}
use Rattle.affc_order.specs.Posed.{Posed}
use Rattle.affc_order.specs.Systems.{target_order}
use Rattle.affc_order.proofs.CodeLemmas.{few_loops}
use Rattle.affc_sched.specs.Questions.{context_count}
use Rattle.affc_sched.proofs.LegalLemmas.{entry_at}
use Rattle.affc_sched.proofs.PairLemmas.{few_subs}
use Rattle.affc_quast.specs.Leaves.{padded}
use Rattle.affc_quast.specs.Limits.{IsTreeWithin, narrow}
use Rattle.affc_quast.specs.Trees.{Tree, depth_of, divisions_of}
use Rattle.affc_life.specs.Asked.{KeepLimits, StandBeside}
use Rattle.affc_life.specs.Clashes.{Clash, Walk, live_walk, of_reader, of_writer, front_rows, reader_posed, named_posed, writer_posed}
use Rattle.affc_life.specs.Laws.{AreFound, FoundTreesAreNeverLarge, FoundTreesLeaveRoom}
use Rattle.affc_life.specs.Sizes.{IsLarge}
use Rattle.affc_life.proofs.CountLemmas.{order_count, between_count}
use Rattle.affc_life.proofs.DomainLemmas.{domain_fits}
use Rattle.affc_life.proofs.DraftedLemmas.{columns, reader_there, at_its_leaf, seated, named_has, rows_all, x_subscripts, y_subscripts}
use Rattle.affc_life.proofs.FoundLeafLemmas.{IsSmall, leaf_small}
use Rattle.affc_life.proofs.FoundLemmas.{found_trees_keep_limits}
use Rattle.affc_life.proofs.KeptLemmas.{fitting_rows}
use Rattle.affc_life.proofs.LightLemmas.{all_map, all_padded, all_spread, forms_within}
use Rattle.affc_life.proofs.MadeLemmas.{Made, made}
use Rattle.affc_life.proofs.MildLemmas.{IsMild, IsNarrow, gap_mild, columns_narrow, compared_mild}
use Rattle.affc_life.proofs.RowLemmas.{order_all}
use Rattle.affc_life.proofs.SeatedLemmas.{its_rows, params_few, reader_few, writer_few, leaf_first, writer_whole, reader_forms, writer_forms, named_forms}

-- ---- Dimensions

-- an access of a program has at most four subscripts
pub few_subscripts : (program : Program) (has : HasNest program) → NamesArrays program → (e : Entry) → IsIn e (nest_of program).entries → (x : Access) → IsIn x e.accesses → length x.subs ≤ 4
few_subscripts program has named e i x j = few_subs (nest_of program) Source (record { scheduled = record { program = program; has = has; is = refl; fits = tt; slight = refl }; named = named }) e i x j

-- ---- One clash system

padded_fits : (n : ℕ) (rows : List Affine) → All FitsRow rows → All FitsRow (map (padded n) rows)
padded_fits n rows all = all_map FitsRow FitsRow (padded n) one rows all
  where
    one : (f : Affine) → FitsRow f → FitsRow (padded n f)
    one f h =
        let w = widened_within (length f.coefs) (n - length f.coefs) (2 ^ 40) (2 ^ 60) f (record { width = refl; coefs_fit = h.coefs_fit; constant_fits = h.constant_fits }) in
        record { coefs_fit = w.coefs_fit; constant_fits = w.constant_fits }

module _ (program : Program) (has : HasNest program) (named : NamesArrays program) (trees : List Tree) (found : AreFound (nest_of program) trees) (schedule : Schedule) (fits : IsScheduleOf program schedule) (slight : IsTrue (within_limits schedule))
    (array : ℕ) (c : Clash) (k : Made (nest_of program) trees schedule array c) where
  abbrev walk : Walk
  walk = live_walk (nest_of program) schedule array

  abbrev nest : Nest
  nest = nest_of program

  nested : IsNest (nest_of program)
  nested = record { program = program; has = has; is = refl }

  scheduled : IsScheduled (nest_of program) schedule
  scheduled = record { program = program; has = has; is = refl; fits = fits; slight = slight }

  limits : KeepLimits (nest_of program) trees
  limits = found_trees_keep_limits (nest_of program) trees found

  pub seats : StandBeside (nest_of program) k.reader k.leaf k.of_leaf.writer
  seats = seated nest nested trees limits walk c k

  -- its tree and its leaf
  within : IsTreeWithin narrow 302 12 (nest_of program) k.load.array.0 (length nest.params + length k.reader.loops) k.tree
  within =
      let there = reader_there nest nested trees limits walk c k in
      let t = found.each k.reader.part k.number k.reader k.load there k.counts k.load_there in
      subst (IsTreeWithin narrow 302 12 nest k.load.array.0 (length nest.params + length k.reader.loops)) (same_Some t.0 k.tree (sym t.1 ∙ k.tree_there)) t.2

  small : IsSmall (depth_of k.tree) (divisions_of k.tree) k.leaf
  small = leaf_small (length nest.params + length k.reader.loops) k.tree within.shaped within.fits k.leaf k.leaf_in

  path_rows_few : length k.leaf.rows ≤ 314
  path_rows_few = sum (length k.leaf.rows) (depth_of k.tree) (divisions_of k.tree) small.rows_few within.short within.few
    where
      sum : (r d n : ℕ) → r ≤ d + n → d ≤ 302 → n ≤ 12 → r ≤ 314
      sum r d n e h g = omega (arith, e, h, g)

  -- ---- Columns

  pub columns_few : c.system.columns ≤ 28
  columns_few =
      sum c.system.columns k.leaf.columns (length nest.params) (length k.reader.loops) (length k.leaf.divisions) (divisions_of k.tree) (length k.of_leaf.writer.loops) (ap (λ (d : Clash). d.system.columns) k.of_leaf.is) (at_its_leaf nest nested trees limits walk c k).path.count
      (params_few nest k.reader k.leaf k.of_leaf.writer seats) (reader_few nest k.reader k.leaf k.of_leaf.writer seats) small.divisions_few within.few (writer_few nest k.reader k.leaf k.of_leaf.writer seats)
    where
      sum : (n c m l d v w : ℕ) → n ≡ c + w → c ≡ (m + l) + d → m ≤ 4 → l ≤ 6 → d ≤ v → v ≤ 12 → w ≤ 6 → n ≤ 28
      sum n c m l d v w e f h g i j q = omega (arith, e, f, h, g, i, j, q)

  -- ---- How many rows

  front_few : length (front_rows (nest_of program) k.reader k.leaf k.of_leaf.writer) ≤ 582
  front_few =
      let P : Affine → Affine = of_reader nest k.reader k.leaf k.of_leaf.writer in
      let W : Affine → Affine = of_writer nest k.reader k.leaf k.of_leaf.writer in
      let path : List Affine = k.reader.domain.rows ++ k.leaf.rows in
      let own : List Affine = drop (context_count nest) k.of_leaf.writer.domain.rows in
      sum (length (map P path ++ map W own)) (length (map P path)) (length (map W own)) (length path) (length own) (length k.reader.domain.rows) (length k.leaf.rows) (length k.of_leaf.writer.domain.rows) (context_count nest)
      (length_append (map P path) (map W own)) (length_map P path) (length_map W own) (length_append k.reader.domain.rows k.leaf.rows) (length-drop (context_count nest) k.of_leaf.writer.domain.rows) (domain_small nest k.reader nested k.reader_in) path_rows_few
      (domain_small nest k.of_leaf.writer nested k.of_leaf.writer_in)
    where
      sum : (n p w a o d l v q : ℕ) → n ≡ p + w → p ≡ a → w ≡ o → a ≡ d + l → o ≡ v - q → d ≤ 134 → l ≤ 314 → v ≤ 134 → n ≤ 582
      sum n p w a o d l v q e f g h i j s t = omega (arith, e, f, g, h, i, j, s, t)

  six_of : (a : Posed) → IsPlaced (nest_of program) (columns nest nested trees limits walk c k) a → length a.iterators ≤ 6
  six_of a h = subst (λ n. n ≤ 6) (sym h.each) (few_loops nest nested a.part h.part)

  named_placed : IsPlaced (nest_of program) (columns nest nested trees limits walk c k) (named_posed (nest_of program) k.reader k.leaf k.of_leaf.writer k.of_leaf.named)
  named_placed = named_forms nest k.reader k.leaf k.of_leaf.writer seats k.of_leaf.named (named_has nest nested trees limits walk c k)

  writer_placed : IsPlaced (nest_of program) (columns nest nested trees limits walk c k) (writer_posed (nest_of program) k.reader k.leaf k.of_leaf.writer)
  writer_placed = writer_forms nest k.reader k.leaf k.of_leaf.writer seats

  pub rows_few : length c.system.rows ≤ 638
  rows_few =
      let n = columns nest nested trees limits walk c k in
      let a : Posed = named_posed nest k.reader k.leaf k.of_leaf.writer k.of_leaf.named in
      let w : Posed = writer_posed nest k.reader k.leaf k.of_leaf.writer in
      let r : Posed = reader_posed nest k.reader k.leaf k.of_leaf.writer in
      let xs : List Affine = map (of_reader nest k.reader k.leaf k.of_leaf.writer) k.load.subs in
      sum (length c.system.rows) (length k.of_leaf.rows) (length (front_rows nest k.reader k.leaf k.of_leaf.writer)) (ap (λ (d : Clash). length d.system.rows) k.of_leaf.is)
      (between_count true (front_rows nest k.reader k.leaf k.of_leaf.writer) (target_order nest schedule n a w) (target_order nest schedule n w r) xs (map (of_writer nest k.reader k.leaf k.of_leaf.writer) k.of_leaf.store.subs)
      (order_count nest n schedule a w slight (six_of a named_placed)) (order_count nest n schedule w r slight (six_of w writer_placed))
      (subst (λ m. m ≤ 4) (sym (length_map (of_reader nest k.reader k.leaf k.of_leaf.writer) k.load.subs)) (few_subscripts program has named k.reader k.reader_in k.load (stands_in k.reader.accesses k.number k.load k.load_there)))
      k.of_leaf.rows k.of_leaf.rows_in)
      front_few
    where
      sum : (n m f : ℕ) → n ≡ m → m ≤ f + 56 → f ≤ 582 → n ≤ 638
      sum n m f e h g = omega (arith, e, h, g)

  -- ---- Entries

  front_fits : All FitsRow (front_rows (nest_of program) k.reader k.leaf k.of_leaf.writer)
  front_fits =
      let n = columns nest nested trees limits walk c k in
      let w : Entry = k.of_leaf.writer in
      let m = length nest.params in
      let l = length w.loops in
      let own : List Affine = drop (context_count nest) w.domain.rows in
      let reader_rows : All FitsRow k.reader.domain.rows = domain_fits program has k.reader.part k.reader (entry_at program has k.reader k.reader_in) k.alive in
      let writer_rows : All FitsRow w.domain.rows = domain_fits program has w.part w (entry_at program has w k.of_leaf.writer_in) k.of_leaf.writer_alive in
      All-append FitsRow (map (of_reader nest k.reader k.leaf w) (k.reader.domain.rows ++ k.leaf.rows)) (map (of_writer nest k.reader k.leaf w) own)
      (padded_fits n (k.reader.domain.rows ++ k.leaf.rows) (All-append FitsRow k.reader.domain.rows k.leaf.rows reader_rows small.rows_fit))
      (All-weaker (IsRow n) FitsRow (λ f r. r.fits) (map (of_writer nest k.reader k.leaf w) own)
      (rows_of n (2 ^ 40) (2 ^ 60) (map (of_writer nest k.reader k.leaf w) own) (omega arith) (omega arith)
      (all_spread m (k.leaf.columns - m) l n (2 ^ 40) (2 ^ 60) own (writer_whole nest k.reader k.leaf w seats) (rows_within (m + l) own
      (All-drop (IsRow (m + l)) (context_count nest) w.domain.rows (fitting_rows (m + l) w.domain.rows (its_rows nest nested w seats.writes) writer_rows))))))

  named_narrow : All (IsNarrow (columns nest nested trees limits walk c k)) (named_posed (nest_of program) k.reader k.leaf k.of_leaf.writer k.of_leaf.named).iterators
  named_narrow =
      let fs : List Affine = k.of_leaf.named.iterators in
      all_padded k.leaf.columns (columns nest nested trees limits walk c k) (2 ^ 20) (2 ^ 40) fs (leaf_first nest k.reader k.leaf k.of_leaf.writer seats)
      (forms_within narrow k.leaf.columns fs (All-weaker (IsRow k.leaf.columns) (λ f. length f.coefs ≡ k.leaf.columns) (λ f r. r.width) fs (named_has nest nested trees limits walk c k).rows)
      (small.named k.of_leaf.named k.of_leaf.names))

  pub rows_fit : All FitsRow c.system.rows
  rows_fit =
      let n = columns nest nested trees limits walk c k in
      let xs : List Affine = map (of_reader nest k.reader k.leaf k.of_leaf.writer) k.load.subs in
      let ys : List Affine = map (of_writer nest k.reader k.leaf k.of_leaf.writer) k.of_leaf.store.subs in
      let writes = compared_mild nest schedule scheduled n (writer_posed nest k.reader k.leaf k.of_leaf.writer) writer_placed (columns_narrow n k.leaf.columns (length k.of_leaf.writer.loops)) in
      rows_all nest nested trees limits walk c k FitsRow (IsMild n) (gap_mild n) front_fits
      (order_all FitsRow (IsMild n) (gap_mild n) nest n schedule (named_posed nest k.reader k.leaf k.of_leaf.writer k.of_leaf.named) (writer_posed nest k.reader k.leaf k.of_leaf.writer)
      (compared_mild nest schedule scheduled n (named_posed nest k.reader k.leaf k.of_leaf.writer k.of_leaf.named) named_placed named_narrow) writes)
      (order_all FitsRow (IsMild n) (gap_mild n) nest n schedule (writer_posed nest k.reader k.leaf k.of_leaf.writer) (reader_posed nest k.reader k.leaf k.of_leaf.writer) writes
      (compared_mild nest schedule scheduled n (reader_posed nest k.reader k.leaf k.of_leaf.writer) (reader_forms nest k.reader k.leaf k.of_leaf.writer seats) (columns_narrow n (length nest.params) (length k.reader.loops))))
      (all_raised n 65536 16777216 (2 ^ 39) (2 ^ 58) xs (omega arith) (omega arith) (x_subscripts nest nested trees limits walk c k)) (all_raised n 65536 16777216 (2 ^ 39) (2 ^ 58) ys (omega arith) (omega arith) (y_subscripts nest nested trees limits walk c k))

  not_large : IsLarge c.system → ⊥
  not_large (inl h) = few c.system.columns columns_few h
    where
      few : (n : ℕ) → n ≤ 28 → 128 < n → ⊥
      few n h g = absurd (omega (arith, h, g))
  not_large (inr (inl h)) = few (length c.system.rows) rows_few h
    where
      few : (n : ℕ) → n ≤ 638 → 1024 < n → ⊥
      few n h g = absurd (omega (arith, h, g))
  not_large (inr (inr h)) = h rows_fit

-- ---- The law

pub found_trees_are_never_large : FoundTreesAreNeverLarge
found_trees_are_never_large program trees schedule array has named fits slight found any =
    not_large program has named trees found schedule fits slight array any.clash (made (nest_of program) trees schedule array any.clash any.there) any.large

pub found_trees_leave_room : FoundTreesLeaveRoom
found_trees_leave_room program trees schedule array clash has named fits slight found there =
    let k = made (nest_of program) trees schedule array clash there in
    (columns_few program has named trees found schedule fits slight array clash k, rows_few program has named trees found schedule fits slight array clash k)
