-- The pairs at the points of the clash systems are the live pairs.
use Rattle.std.proofs.Common.{◌≡◌, ◌≢◌, ℕ, zero, suc, ◌+◌, ◌≤◌, ℤ, true, List, [], ◌∷◌, ◌++◌, length, map, take, Option, Some, None, refl, sym, ap, subst, ◌∙◌, inl, inr, arith}
use Rattle.std.specs.Prelude.{slice_get}
use Rattle.std.specs.List.{Contains}
use Rattle.std.proofs.lemmas.List.{length-take-le}
use Rattle.std.proofs.lemmas.Option.{same_Some}
use Rattle.std.proofs.Math.Seq.{take-append_seam}
use Rattle.affc_rows.specs.Forms.{values_of}
use Rattle.affc_system.specs.ElementPairs.{IsPairAt}
use Rattle.affc_system.specs.Systems.{Met, IsPoint}
use Rattle.affc_system.specs.declared.pairs.PairSystem.{PairSystem}
use Rattle.affc_ast.specs.declared.tree.Instance.{Instance}
use Rattle.affc_ast.specs.declared.tree.Program.{Program}
use Rattle.affc_ast.specs.Store.{Element}
use Rattle.affc_ast.specs.Trace.{trace, loads_of, store_of, events}
use Rattle.affc_trace.specs.declared.schedule.Schedule.{Schedule}
use Rattle.affc_trace.specs.Dataflow.{IsSource, same_element}
use Rattle.affc_trace.specs.Effects.{effect}
use Rattle.affc_trace.specs.Law.{IsIn}
use Rattle.affc_trace.specs.Laws.{IsInContext}
use Rattle.affc_trace.specs.Orders.{Earlier}
use Rattle.affc_trace.specs.Orders as orders
use Rattle.affc_trace.specs.Target.{target, IsScheduleOf}
use Rattle.affc_trace.proofs.Found.{source_is_found}
use Rattle.affc_trace.proofs.Legality.{earlier_is_in, later_is_in}
use Rattle.affc_trace.proofs.Members.{in_map, to_map}
use Rattle.affc_trace.proofs.Once.{once}
use Rattle.affc_trace.proofs.Runs.{length_append}
use Rattle.affc_trace.proofs.Sources.{source_in_its_own_words}
use Rattle.affc_trace.proofs.Targets.{target_is_reordered}
use Rattle.affc_domain.specs.Ranges.{number_ranges}
use Rattle.affc_domain.proofs.RangeLemmas.{box_length, in_ranges}
use Rattle.affc_domain.proofs.Lists.{stands_in}
use Rattle.affc_nest.specs.declared.nest.Access.{Access}
use Rattle.affc_nest.specs.declared.nest.Entry.{Entry}
use Rattle.affc_nest.specs.declared.nest.Nest.{Nest}
use Rattle.affc_nest.specs.Laws.{HasNest, IsEntry, NamesArrays, element_at}
use Rattle.affc_nest.specs.Nests.{nest_of}
use Rattle.affc_nest.proofs.DomainLemmas.{from_all, to_all}
use Rattle.affc_order.specs.Posed.{Posed}
use Rattle.affc_sched.proofs.LegalLemmas.{Stood, instance_of, entry_at, events_are, as_many_each, stood}
use Rattle.affc_quast.specs.Laws.{Leads}
use Rattle.affc_quast.specs.Leaves.{Leaf, leaves_of}
use Rattle.affc_quast.specs.Limits.{Shaped}
use Rattle.affc_quast.specs.Sources.{loads_in, NameSources}
use Rattle.affc_quast.specs.Trees.{Tree, named_at, instance_at, quotients_at}
use Rattle.affc_quast.proofs.LeafLemmas.{LeafOver, leaf_over, leaf_is_reached, leaf_is_named}
use Rattle.affc_life.specs.Clashes.{Clash, live_walk, clash_of, of_reader, of_writer, front_rows, clash, clashes}
use Rattle.affc_life.specs.Laws.{AreShaped, AreClashes, ClashesAreLivePairs, PointsAreInContext, ElementsDiffer}
use Rattle.affc_life.proofs.MadeLemmas.{Made, made, in_walk}
use Rattle.affc_life.proofs.ApartLemmas.{Between}
use Rattle.affc_life.proofs.PointLemmas.{zs_long, x_value, y_value, Facts, front_says, first, second, parts, clash_says, says_clash}
use Rattle.affc_life.proofs.ReadLemmas.{load_is, store_is, store_there, loaded}
use Rattle.affc_life.proofs.SeatLemmas.{seat}

-- ---- A point of a clash system, cut

module _ (program : Program) (has : HasNest program) (trees : List Tree) (schedule : Schedule) (array : ℕ) (shaped : AreShaped (nest_of program) trees) (c : Clash) (k : Made (nest_of program) trees schedule array c) where
  abbrev pub writer : Entry
  writer = k.of_leaf.writer

  abbrev pub store : Access
  store = k.of_leaf.store

  abbrev pub named : Posed
  named = k.of_leaf.named

  pub load_among : IsIn k.load k.reader.accesses
  load_among = stands_in k.reader.accesses k.number k.load k.load_there

  pub store_among : IsIn k.of_leaf.store k.of_leaf.writer.accesses
  store_among = stands_in k.of_leaf.writer.accesses (loads_in k.of_leaf.writer) k.of_leaf.store k.of_leaf.store_there

  pub reader_at : IsEntry program k.reader.part k.reader
  reader_at = entry_at program has k.reader k.reader_in

  pub shape : Shaped (length (number_ranges program.params) + length k.reader.loops) k.tree
  shape = shaped k.reader.part k.number k.reader k.tree reader_at k.counts k.tree_there

  pub record Cut (p point : List ℤ) : Type 0 where
    pub bs : List ℤ
    pub qs : List ℤ
    pub cs : List ℤ
    pub is : point ≡ p ++ (bs ++ (qs ++ cs))
    pub reads : Stood program p k.reader bs
    pub writes : Stood program p k.of_leaf.writer cs
    pub over : LeafOver (length p + length bs) k.leaf
    pub q_long : length ((p ++ bs) ++ qs) ≡ k.leaf.columns
    pub met : Met (p ++ (bs ++ (qs ++ cs))) k.of_leaf.rows

  pub cut_at : (point : List ℤ) → IsPoint c.system point → (p : List ℤ) → length p ≡ length (number_ranges program.params) → take (length p) point ≡ p → Cut p point
  cut_at point is p l front =
      let e : Entry = k.reader in
      let w : Entry = k.of_leaf.writer in
      let m = length (number_ranges program.params) in
      let over : LeafOver (m + length e.loops) k.leaf = leaf_over (m + length e.loops) k.tree k.leaf shape k.leaf_in in
      let over' : LeafOver (length p + length e.loops) k.leaf = subst (λ n. LeafOver (n + length e.loops) k.leaf) (sym l) over in
      let width : length point ≡ k.leaf.columns + length w.loops = is.width ∙ ap (λ (c : Clash). c.system.columns) k.of_leaf.is in
      let t = seat p point (length e.loops) k.leaf.columns (length w.loops) over'.more width front in
      record {
        bs = t.bs;
        qs = t.qs;
        cs = t.cs;
        is = t.is;
        reads = record { among = k.reader_in; at = reader_at; alive = k.alive; long = t.b_long };
        writes = record { among = k.of_leaf.writer_in; at = entry_at program has w k.of_leaf.writer_in; alive = k.of_leaf.writer_alive; long = t.c_long };
        over = subst (λ n. LeafOver (length p + n) k.leaf) (sym t.b_long) over';
        q_long = t.q_long;
        met = subst (λ zs. Met zs k.of_leaf.rows) t.is (from_all point k.of_leaf.rows (subst (λ (c : Clash). IsPoint c.system point) k.of_leaf.is is).meets);
      }

  module _ (p : List ℤ) (l : length p ≡ length (number_ranges program.params)) (point : List ℤ) (t : Cut p point) where
    between : Between (p ++ (t.bs ++ (t.qs ++ t.cs))) true (front_rows (nest_of program) k.reader k.leaf k.of_leaf.writer)
        (first program has p t.bs t.qs t.cs l k.reader k.leaf k.of_leaf.writer t.reads t.writes t.over t.q_long schedule array k.load load_among k.of_leaf.named k.of_leaf.names k.of_leaf.store store_among)
        (second program has p t.bs t.qs t.cs l k.reader k.leaf k.of_leaf.writer t.reads t.writes t.over t.q_long schedule array k.load load_among k.of_leaf.named k.of_leaf.names k.of_leaf.store store_among)
        (map (of_reader (nest_of program) k.reader k.leaf k.of_leaf.writer) k.load.subs) (map (of_writer (nest_of program) k.reader k.leaf k.of_leaf.writer) k.of_leaf.store.subs)
    between =
        parts program has p t.bs t.qs t.cs l k.reader k.leaf k.of_leaf.writer t.reads t.writes t.over t.q_long schedule array k.load load_among k.of_leaf.named k.of_leaf.names k.of_leaf.store store_among k.of_leaf.rows k.of_leaf.rows_in t.met

    -- the context, and the instances
    pub facts_at : Facts program has p t.bs t.qs t.cs l k.reader k.leaf k.of_leaf.writer t.reads t.writes t.over t.q_long
    facts_at = front_says program has p t.bs t.qs t.cs l k.reader k.leaf k.of_leaf.writer t.reads t.writes t.over t.q_long between.front

    x_at_zs : values_of (map (of_reader (nest_of program) k.reader k.leaf k.of_leaf.writer) k.load.subs) (p ++ (t.bs ++ (t.qs ++ t.cs))) ≡ values_of k.load.subs (p ++ t.bs)
    x_at_zs = x_value program has p t.bs t.qs t.cs l k.reader k.leaf k.of_leaf.writer t.reads t.writes t.over t.q_long k.load load_among

    y_at_zs : values_of (map (of_writer (nest_of program) k.reader k.leaf k.of_leaf.writer) k.of_leaf.store.subs) (p ++ (t.bs ++ (t.qs ++ t.cs))) ≡ values_of k.of_leaf.store.subs (p ++ t.cs)
    y_at_zs = y_value program has p t.bs t.qs t.cs l k.reader k.leaf k.of_leaf.writer t.reads t.writes t.over t.q_long k.of_leaf.store store_among

    x_of_point : values_of c.x point ≡ values_of k.load.subs (p ++ t.bs)
    x_of_point =
        ap (λ (c : Clash). values_of c.x point) k.of_leaf.is ∙ ap (values_of (map (of_reader (nest_of program) k.reader k.leaf k.of_leaf.writer) k.load.subs)) t.is ∙ x_at_zs

    y_of_point : values_of c.y point ≡ values_of k.of_leaf.store.subs (p ++ t.cs)
    y_of_point =
        ap (λ (c : Clash). values_of c.y point) k.of_leaf.is ∙ ap (values_of (map (of_writer (nest_of program) k.reader k.leaf k.of_leaf.writer) k.of_leaf.store.subs)) t.is ∙ y_at_zs

    pub differ : values_of c.x point ≢ values_of c.y point
    differ q = between.apart refl (x_at_zs ∙ sym x_of_point ∙ q ∙ y_of_point ∙ sym y_at_zs)

    pub path_long : length (number_ranges program.params) + length k.reader.loops ≡ length (p ++ t.bs)
    path_long = sym (length_append p t.bs ∙ ap (λ n. n + length t.bs) l ∙ ap (λ n. length (number_ranges program.params) + n) t.reads.long)

    -- the leaf is that of the tree, with its quotients
    pub leads : (t.qs ≡ quotients_at k.tree (p ++ t.bs)) × (named_at k.tree (p ++ t.bs) ≡ instance_at k.leaf.named ((p ++ t.bs) ++ t.qs))
    leads =
        leaf_is_named k.tree (p ++ t.bs) t.qs k.leaf (subst (λ n. Shaped n k.tree) path_long shape) (subst (λ n. IsIn k.leaf (leaves_of n k.tree)) path_long k.leaf_in) t.q_long facts_at.path

    abbrev named_instance : Instance
    named_instance = record { statement = k.of_leaf.named.part; iterators = values_of k.of_leaf.named.iterators ((p ++ t.bs) ++ t.qs) }

    read_events : map (element_at (p ++ t.bs)) k.reader.accesses ≡ loads_of program p (instance_of k.reader t.bs) ++ store_of program p (instance_of k.reader t.bs) ∷ []
    read_events = events_are program has p l k.reader t.bs t.reads

    read : slice_get (loads_of program p (instance_of k.reader t.bs)) k.number ≡ Some (element_at (p ++ t.bs) k.load)
    read =
        load_is (element_at (p ++ t.bs)) k.reader.accesses (loads_of program p (instance_of k.reader t.bs)) (store_of program p (instance_of k.reader t.bs)) read_events k.number k.load k.load_there k.counts

    source_named : NameSources program p (nest_of program) trees → IsSource program p (instance_of k.reader t.bs) (element_at (p ++ t.bs) k.load) (Some named_instance)
    source_named names =
        let a = names k.reader.part k.number k.reader reader_at k.counts in
        let same : a.0 ≡ k.tree = same_Some a.0 k.tree (sym a.1 ∙ k.tree_there) in
        subst (IsSource program p (instance_of k.reader t.bs) (element_at (p ++ t.bs) k.load)) (ap (λ (u : Tree). named_at u (p ++ t.bs)) same ∙ leads.1 ∙ ap (λ o. instance_at o ((p ++ t.bs) ++ t.qs)) k.of_leaf.names)
        (a.2 (instance_of k.reader t.bs) (element_at (p ++ t.bs) k.load) refl facts_at.reader_runs read)

    -- the two elements are touched
    x_is : (array, values_of c.x point) ≡ element_at (p ++ t.bs) k.load
    x_is i = (sym k.loads i, x_of_point i)

    y_is : (array, values_of c.y point) ≡ element_at (p ++ t.cs) k.of_leaf.store
    y_is i = (sym k.of_leaf.stores i, y_of_point i)

    pub x_touched : IsIn (array, values_of c.x point) (events program p (instance_of k.reader t.bs))
    x_touched =
        subst (λ z. IsIn z (events program p (instance_of k.reader t.bs))) (sym x_is)
        (subst (IsIn (element_at (p ++ t.bs) k.load)) read_events (to_map (element_at (p ++ t.bs)) k.reader.accesses k.load load_among))

    pub y_touched : IsIn (array, values_of c.y point) (events program p (instance_of k.of_leaf.writer t.cs))
    y_touched =
        subst (λ z. IsIn z (events program p (instance_of k.of_leaf.writer t.cs))) (sym y_is)
        (subst (IsIn (element_at (p ++ t.cs) k.of_leaf.store)) (events_are program has p l k.of_leaf.writer t.cs t.writes) (to_map (element_at (p ++ t.cs)) k.of_leaf.writer.accesses k.of_leaf.store store_among))

    -- a store between the source and the load
    pub between_at : IsScheduleOf program schedule → NameSources program p (nest_of program) trees
        → orders.StoredBetween (effect program p) same_element (trace program p) (target program schedule p) (array, values_of c.x point) (array, values_of c.y point)
    between_at fits names =
        let e : Entry = k.reader in
        let w : Entry = k.of_leaf.writer in
        let source = source_named names in
        let last = ((source_in_its_own_words program p (instance_of e t.bs) (element_at (p ++ t.bs) k.load)).0 named_instance).0 source in
        let runs = earlier_is_in (trace program p) named_instance (instance_of e t.bs) last.earlier in
        let said = clash_says program has p t.bs t.qs t.cs l e k.leaf w t.reads t.writes t.over t.q_long schedule array k.load load_among k.of_leaf.named k.of_leaf.names k.of_leaf.store store_among fits k.of_leaf.rows k.of_leaf.rows_in t.met (λ f. runs) in
        let write_events = events_are program has p l w t.cs t.writes in
        record {
          store = named_instance;
          load = instance_of e t.bs;
          other = instance_of w t.cs;
          loads = subst (λ z. IsIn z (loads_of program p (instance_of e t.bs))) (sym x_is) (stands_in (loads_of program p (instance_of e t.bs)) k.number (element_at (p ++ t.bs) k.load) read);
          source = subst (λ z. IsSource program p (instance_of e t.bs) z (Some named_instance)) (sym x_is) source;
          stores = y_is ∙ store_is (element_at (p ++ t.cs)) w.accesses (loads_of program p (instance_of w t.cs)) (store_of program p (instance_of w t.cs)) write_events k.of_leaf.store k.of_leaf.store_there;
          after = said.after;
          before = said.before;
        }

-- ---- A live pair's clash system

named_is_some : (o : Option Posed) (xs : List ℤ) (w : Instance) → instance_at o xs ≡ Some w → (a : Posed) × (o ≡ Some a) × (record { statement = a.part; iterators = values_of a.iterators xs } ≡ w)
named_is_some None xs w e = absurd (cc)
named_is_some (Some a) xs w e = (a, refl, same_Some (record { statement = a.part; iterators = values_of a.iterators xs }) w e)

-- a clash system, and a point of it with these elements
pub record Clashing (program : Program) (trees : List Tree) (schedule : Schedule) (array : ℕ) (p x y : List ℤ) : Type 0 where
  pub system : Clash
  pub asked : IsIn system (clashes (nest_of program) trees schedule array)
  pub point : List ℤ
  pub meets : IsPoint system.system point
  pub front : take (length p) point ≡ p
  pub first : values_of system.x point ≡ x
  pub second : values_of system.y point ≡ y

module _ (program : Program) (has : HasNest program) (arrays : NamesArrays program) (trees : List Tree) (schedule : Schedule) (fits : IsScheduleOf program schedule) (array : ℕ) (shaped : AreShaped (nest_of program) trees)
    (p : List ℤ) (l : length p ≡ length (number_ranges program.params)) (inside : IsInContext program p) (names : NameSources program p (nest_of program) trees) (x y : List ℤ) where
  -- of two entries
  clashing_at : (e w : Entry) (bs cs : List ℤ) (s : Stood program p e bs) (t : Stood program p w cs) (source : Instance)
      → IsIn (instance_of e bs) (trace program p) → IsIn (instance_of w cs) (trace program p)
      → IsIn (array, x) (loads_of program p (instance_of e bs)) → IsSource program p (instance_of e bs) (array, x) (Some source) → (array, y) ≡ store_of program p (instance_of w cs)
      → Earlier (target program schedule p) source (instance_of w cs) → Earlier (target program schedule p) (instance_of w cs) (instance_of e bs) → x ≢ y
      → Clashing program trees schedule array p x y
  clashing_at e w bs cs s t source e_runs w_runs x_loaded is_source stored after before apart =
      let nest : Nest = nest_of program in
      let m = length (number_ranges program.params) in
      let at = element_at (p ++ bs) in
      let at' = element_at (p ++ cs) in
      let read_events = events_are program has p l e bs s in
      let write_events = events_are program has p l w cs t in
      let a = loaded at e.accesses (loads_of program p (instance_of e bs)) (store_of program p (instance_of e bs)) read_events (array, x) x_loaded in
      let number : ℕ = a.0 in
      let load : Access = a.1 in
      let b = store_there at' w.accesses (loads_of program p (instance_of w cs)) (store_of program p (instance_of w cs)) write_events in
      let store : Access = b.0 in
      let tr = names e.part number e s.at a.3 in
      let tree : Tree = tr.0 in
      let long : m + length e.loops ≡ length (p ++ bs) = sym (length_append p bs ∙ ap (λ n. n + length bs) l ∙ ap (λ n. m + n) s.long) in
      let shape : Shaped (m + length e.loops) tree = shaped e.part number e tree s.at a.3 tr.1 in
      let shape' : Shaped (length (p ++ bs)) tree = subst (λ n. Shaped n tree) long shape in
      let reached = leaf_is_reached tree (p ++ bs) shape' in
      let leaf : Leaf = reached.0 in
      let at_leaf : Leads tree (p ++ bs) leaf = reached.1 in
      let qs : List ℤ = quotients_at tree (p ++ bs) in
      let leaf_in : IsIn leaf (leaves_of (m + length e.loops) tree) = subst (λ n. IsIn leaf (leaves_of n tree)) (sym long) at_leaf.of_tree in
      let over : LeafOver (length p + length bs) leaf = subst (λ n. LeafOver n leaf) (long ∙ length_append p bs) (leaf_over (m + length e.loops) tree leaf shape leaf_in) in
      let lead = leaf_is_named tree (p ++ bs) qs leaf shape' at_leaf.of_tree at_leaf.width at_leaf.meets in
      let x_is : (array, x) ≡ at load = a.4 in
      let by_tree = (source_is_found program p (instance_of e bs) (array, x) (named_at tree (p ++ bs))).0 (tr.2 (instance_of e bs) (array, x) refl e_runs a.5) in
      let by_store = (source_is_found program p (instance_of e bs) (array, x) (Some source)).0 is_source in
      let n = named_is_some leaf.named ((p ++ bs) ++ qs) source (sym lead.1 ∙ sym by_tree.1 ∙ by_store.1) in
      let posed : Posed = n.0 in
      let y_is : (array, y) ≡ at' store = stored ∙ sym (store_is at' w.accesses (loads_of program p (instance_of w cs)) (store_of program p (instance_of w cs)) write_events store b.1) in
      let load_array : load.array.0 ≡ array = sym (ap (λ (z : Element). z.0) x_is) in
      let store_array : store.array.0 ≡ array = sym (ap (λ (z : Element). z.0) y_is) in
      let x_at : values_of load.subs (p ++ bs) ≡ x = sym (ap (λ (z : Element). z.1) x_is) in
      let y_at : values_of store.subs (p ++ cs) ≡ y = sym (ap (λ (z : Element). z.1) y_is) in
      let load_in = stands_in e.accesses number load a.2 in
      let store_in = stands_in w.accesses (loads_in w) store b.1 in
      let many = as_many_each program has arrays e w s.at t.at load store load_in store_in (load_array ∙ sym store_array) in
      let runs : IsIn source (trace program p) = (target_is_reordered program schedule p (once program p)).no_other source (earlier_is_in (target program schedule p) source (instance_of w cs) after) in
      let z = says_clash program has p bs qs cs l e leaf w s t over at_leaf.width schedule array load load_in posed n.1 store store_in fits many (subst (λ i. IsIn i (trace program p)) (sym n.2) runs)
      (record {
        facts = record { context = inside; reader_runs = e_runs; writer_runs = w_runs; path = at_leaf.meets };
        after = subst (λ i. Earlier (target program schedule p) i (instance_of w cs)) (sym n.2) after;
        before = before;
        apart = λ q. apart (sym x_at ∙ q ∙ y_at);
      }) in
      let c : Clash = clash nest e leaf w (live_walk nest schedule array) load posed store z.0 in
      record {
        system = c;
        asked = in_walk nest trees (live_walk nest schedule array) c (record {
          reader = e;
          reader_in = s.among;
          alive = s.alive;
          number = number;
          load = load;
          load_there = a.2;
          counts = a.3;
          loads = load_array;
          tree = tree;
          tree_there = tr.1;
          leaf = leaf;
          leaf_in = leaf_in;
          of_leaf = record {
            named = posed;
            names = n.1;
            writer = w;
            writer_in = t.among;
            writer_alive = t.alive;
            store = store;
            store_there = b.1;
            stores = store_array;
            rows = z.0;
            rows_in = z.1;
            is = refl;
          };
        });
        point = p ++ (bs ++ (qs ++ cs));
        meets = record { width = sym (zs_long program has p bs qs cs l e leaf w s t over at_leaf.width); meets = to_all (p ++ (bs ++ (qs ++ cs))) z.0 z.2 };
        front = take-append_seam p (bs ++ (qs ++ cs));
        first = x_value program has p bs qs cs l e leaf w s t over at_leaf.width load load_in ∙ x_at;
        second = y_value program has p bs qs cs l e leaf w s t over at_leaf.width store store_in ∙ y_at;
      }

  same_instance : (e : Entry) (i : Instance) → e.part ≡ i.statement → instance_of e i.iterators ≡ i
  same_instance e i h = ap (λ s. record { statement = s; iterators = i.iterators }) h

  pub clashing : orders.StoredBetween (effect program p) same_element (trace program p) (target program schedule p) (array, x) (array, y) → x ≢ y → Clashing program trees schedule array p x y
  clashing between apart =
      let whole = target_is_reordered program schedule p (once program p) in
      let b : Instance = between.load in
      let o : Instance = between.other in
      let b_in = whole.no_other b (later_is_in (target program schedule p) o b between.before) in
      let o_in = whole.no_other o (earlier_is_in (target program schedule p) o b between.before) in
      let u = stood program has p b inside b_in in
      let v = stood program has p o inside o_in in
      let ib : b ≡ instance_of u.0 b.iterators = sym (same_instance u.0 b u.1) in
      let io : o ≡ instance_of v.0 o.iterators = sym (same_instance v.0 o v.1) in
      clashing_at u.0 v.0 b.iterators o.iterators u.2 v.2 between.store (subst (λ i. IsIn i (trace program p)) ib b_in) (subst (λ i. IsIn i (trace program p)) io o_in)
      (subst (λ i. IsIn (array, x) (loads_of program p i)) ib between.loads) (subst (λ i. IsSource program p i (array, x) (Some between.store)) ib between.source)
      (subst (λ i. (array, y) ≡ store_of program p i) io between.stores) (subst (λ i. Earlier (target program schedule p) between.store i) io between.after)
      (subst (λ i. Earlier (target program schedule p) i (instance_of u.0 b.iterators)) io (subst (λ i. Earlier (target program schedule p) o i) ib between.before)) apart

-- ---- The laws

members : (xs : List PairSystem) (s : PairSystem) → Contains xs s → IsIn s xs
members [] s (k, h, e) = absurd (omega (arith, h))
members (x ∷ xs) s (zero, h, e) = inl (sym e)
members (x ∷ xs) s (suc k, h, e) = inr (members xs s (k, omega (arith, h), e))

contained : (xs : List PairSystem) (s : PairSystem) → IsIn s xs → Contains xs s
contained [] s i = absurd i
contained (x ∷ xs) s (inl e) = (zero, omega arith, sym e)
contained (x ∷ xs) s (inr i) = let r = contained xs s i in (suc r.0, omega (arith, r.1), r.2)

pub at_length : (program : Program) (p : List ℤ) → IsInContext program p → length p ≡ length (number_ranges program.params)
at_length program p inside = sym (box_length (number_ranges program.params) p (in_ranges program.params p inside.ranges))

module _ (program : Program) (trees : List Tree) (schedule : Schedule) (array : ℕ) (systems : List PairSystem) (p : List ℤ) (has : HasNest program) (arrays : NamesArrays program) (fits : IsScheduleOf program schedule)
    (shaped : AreShaped (nest_of program) trees) (are : AreClashes program trees schedule array systems) (inside : IsInContext program p) (names : NameSources program p (nest_of program) trees) (u v : List ℤ) where
  abbrev Stored : Type 0
  Stored = orders.StoredBetween (effect program p) same_element (trace program p) (target program schedule p) (array, u) (array, v)

  pair_down : (s : PairSystem) → Contains systems s → IsPairAt s p u v → Stored × (u ≢ v)
  pair_down s there at =
      let l = at_length program p inside in
      let c : Clash = clash_of s in
      let k = made (nest_of program) trees schedule array c (subst (IsIn c) are (to_map clash_of systems s (members systems s there))) in
      let t = cut_at program has trees schedule array shaped c k at.point at.meets p l at.parameters in
      let d = between_at program has trees schedule array shaped c k p l at.point t fits names in
      let f = differ program has trees schedule array shaped c k p l at.point t in (
        subst (λ z. orders.StoredBetween (effect program p) same_element (trace program p) (target program schedule p) (array, u) (array, z)) at.second
            (subst (λ z. orders.StoredBetween (effect program p) same_element (trace program p) (target program schedule p) (array, z) (array, values_of s.y.items at.point)) at.first d),
        λ q. f (at.first ∙ q ∙ sym at.second),
      )

  pair_up : Stored → u ≢ v → (s : PairSystem) × Contains systems s × IsPairAt s p u v
  pair_up between apart =
      let z = clashing program has arrays trees schedule fits array shaped p (at_length program p inside) inside names u v between apart in
      let s = in_map clash_of systems z.system (subst (IsIn z.system) (sym are) z.asked) in (
        s.0,
        contained systems s.0 s.1,
        record {
          point = z.point;
          meets = subst (λ (c : Clash). IsPoint c.system z.point) s.2 z.meets;
          parameters = z.front;
          first = subst (λ (c : Clash). values_of c.x z.point ≡ u) s.2 z.first;
          second = subst (λ (c : Clash). values_of c.y z.point ≡ v) s.2 z.second;
        },
      )

pub clashes_are_live_pairs : ClashesAreLivePairs
clashes_are_live_pairs program trees schedule array systems p x y has arrays fits shaped are inside names = (
  λ pair. elim pair.either [
    | inl a ↦ (let d = pair_down program trees schedule array systems p has arrays fits shaped are inside names x y pair.system pair.there a in record { distinct = λ q. d.1 (ap (λ (z : Element). z.1) q); one_array = refl; between = inl d.0 })
    | inr a ↦ (let d = pair_down program trees schedule array systems p has arrays fits shaped are inside names y x pair.system pair.there a in record { distinct = λ q. d.1 (sym (ap (λ (z : Element). z.1) q)); one_array = refl; between = inr d.0 })
  ],
  λ live. elim live.between [
    | inl b ↦ (let u = pair_up program trees schedule array systems p has arrays fits shaped are inside names x y b (λ q. live.distinct (ap (λ z. (array, z)) q)) in record { system = u.0; there = u.1; either = inl u.2 })
    | inr b ↦ (let u = pair_up program trees schedule array systems p has arrays fits shaped are inside names y x b (λ q. live.distinct (sym (ap (λ z. (array, z)) q))) in record { system = u.0; there = u.1; either = inr u.2 })
  ],
)

-- ---- Points of a list's systems

module _ (program : Program) (has : HasNest program) (trees : List Tree) (schedule : Schedule) (array : ℕ) (shaped : AreShaped (nest_of program) trees) (c : Clash) (k : Made (nest_of program) trees schedule array c)
    (point : List ℤ) (is : IsPoint c.system point) where
  at_least : length (number_ranges program.params) ≤ length point
  at_least =
      let m = length (number_ranges program.params) in
      let over = leaf_over (m + length k.reader.loops) k.tree k.leaf (shape program has trees schedule array shaped c k) k.leaf_in in
      sum m (length k.reader.loops) k.leaf.columns (length k.of_leaf.writer.loops) (length point) over.more (is.width ∙ ap (λ (c : Clash). c.system.columns) k.of_leaf.is)
    where
      sum : (m b c w n : ℕ) → m + b ≤ c → n ≡ c + w → m ≤ n
      sum m b c w n h e = omega (arith, h, e)

  pub front_long : length (take (length (number_ranges program.params)) point) ≡ length (number_ranges program.params)
  front_long = length-take-le (length (number_ranges program.params)) point at_least

  pub cut_front : Cut program has trees schedule array shaped c k (take (length (number_ranges program.params)) point) point
  cut_front = cut_at program has trees schedule array shaped c k point is (take (length (number_ranges program.params)) point) front_long (ap (λ n. take n point) front_long)

pub points_are_in_context : PointsAreInContext
points_are_in_context program trees schedule array c point has shaped asked is =
    let k = made (nest_of program) trees schedule array c asked in
    (facts_at program has trees schedule array shaped c k (take (length (number_ranges program.params)) point) (front_long program has trees schedule array shaped c k point is) point
    (cut_front program has trees schedule array shaped c k point is)).context

pub elements_differ : ElementsDiffer
elements_differ program trees schedule array c point has shaped asked is =
    let k = made (nest_of program) trees schedule array c asked in
    differ program has trees schedule array shaped c k (take (length (number_ranges program.params)) point) (front_long program has trees schedule array shaped c k point is) point
    (cut_front program has trees schedule array shaped c k point is)
