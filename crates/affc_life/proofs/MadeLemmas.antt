-- Which clash systems there are.
use Rattle.std.proofs.Common.{◌≡◌, ℕ, ◌+◌, ◌-◌, ◌<◌, IsTrue, if◌then◌else◌, List, [], length, flat_map, Option, Some, None, refl, sym, subst, ◌∙◌, arith}
use Rattle.std.specs.Prelude.{nat_eq, slice_get}
use Rattle.std.proofs.lemmas.Bool.{eq-eqb, eqb-true}
use Rattle.affc_rows.specs.Forms.{Affine}
use Rattle.affc_trace.specs.declared.schedule.Schedule.{Schedule}
use Rattle.affc_trace.specs.Law.{IsIn}
use Rattle.affc_trace.proofs.Members.{in_map, to_map, to_flat_map}
use Rattle.affc_trace.proofs.Once.{in_flat_map}
use Rattle.affc_domain.proofs.Lists.{in_if, to_if}
use Rattle.affc_nest.specs.declared.nest.Access.{Access}
use Rattle.affc_nest.specs.declared.nest.Entry.{Entry}
use Rattle.affc_nest.specs.declared.nest.Nest.{Nest}
use Rattle.affc_order.specs.Posed.{Posed}
use Rattle.affc_quast.specs.Leaves.{Leaf, leaves_of}
use Rattle.affc_quast.specs.Sources.{loads_in, tree_of}
use Rattle.affc_quast.specs.Trees.{Tree}
use Rattle.affc_life.specs.Clashes.{Clash, Walk, live_walk, rows_of_clashes, clash, clashes_of_store, numbered_loads, clashes_by, clashes_with, clashes_of_named, clashes_of_tree, clashes_of_entry, clashes_of, clashes}
use Rattle.affc_life.proofs.ReadLemmas.{load_at, at_load}

zero_first : (k : ℕ) → k ≡ 0 + k
zero_first k = omega arith

module _ (nest : Nest) (walk : Walk) (reader : Entry) (load : Access) where
  -- the store of a clash system of this load, and the instance that the leaf names
  pub record OfLeaf (leaf : Leaf) (c : Clash) : Type 0 where
    pub named : Posed
    pub names : leaf.named ≡ Some named
    pub writer : Entry
    pub writer_in : IsIn writer nest.entries
    pub writer_alive : IsTrue writer.alive
    pub store : Access
    pub store_there : slice_get writer.accesses (loads_in writer) ≡ Some store
    pub stores : store.array.0 ≡ walk.stored
    pub rows : List Affine
    pub rows_in : IsIn rows (rows_of_clashes nest reader leaf writer walk load named store)
    pub is : c ≡ clash nest reader leaf writer walk load named store rows

  module _ (leaf : Leaf) (c : Clash) where
    of_writer : (a : Posed) → leaf.named ≡ Some a → (w : Entry) → IsIn w nest.entries → IsTrue w.alive → (o : Option Access) → slice_get w.accesses (loads_in w) ≡ o
        → IsIn c (clashes_by nest walk reader load leaf a w o) → OfLeaf leaf c
    of_writer a q w w_in alive None e i = absurd i
    of_writer a q w w_in alive (Some s) e i =
        let t = in_if (nat_eq s.array.0 walk.stored) (clashes_of_store nest reader leaf w walk load a s) c i in
        let m = in_map (clash nest reader leaf w walk load a s) (rows_of_clashes nest reader leaf w walk load a s) c t.1 in
        record {
          named = a;
          names = q;
          writer = w;
          writer_in = w_in;
          writer_alive = alive;
          store = s;
          store_there = e;
          stores = eqb-true s.array.0 walk.stored t.0;
          rows = m.0;
          rows_in = m.1;
          is = m.2;
        }

    pub of_leaf : (o : Option Posed) → leaf.named ≡ o → IsIn c (clashes_of_named nest walk reader load leaf o) → OfLeaf leaf c
    of_leaf None q i = absurd i
    of_leaf (Some a) q i =
        let w = in_flat_map (clashes_with nest walk reader load leaf a) nest.entries c i in
        let v = in_if w.0.alive (clashes_by nest walk reader load leaf a w.0 (slice_get w.0.accesses (loads_in w.0))) c w.2 in
        of_writer a q w.0 w.1 v.0 (slice_get w.0.accesses (loads_in w.0)) refl v.1

    pub leaf_of : OfLeaf leaf c → IsIn c (clashes_of_named nest walk reader load leaf leaf.named)
    leaf_of k =
        let w : Entry = k.writer in
        let one : IsIn c (clashes_of_store nest reader leaf w walk load k.named k.store) =
        subst (λ z. IsIn z (clashes_of_store nest reader leaf w walk load k.named k.store)) (sym k.is)
        (to_map (clash nest reader leaf w walk load k.named k.store) (rows_of_clashes nest reader leaf w walk load k.named k.store) k.rows k.rows_in) in
        let by : IsIn c (clashes_by nest walk reader load leaf k.named w (slice_get w.accesses (loads_in w))) =
        subst (λ o. IsIn c (clashes_by nest walk reader load leaf k.named w o)) (sym k.store_there)
        (to_if (nat_eq k.store.array.0 walk.stored) (clashes_of_store nest reader leaf w walk load k.named k.store) c (eq-eqb k.store.array.0 walk.stored k.stores) one) in
        let with_writer : IsIn c (clashes_with nest walk reader load leaf k.named w) =
        to_if w.alive (clashes_by nest walk reader load leaf k.named w (slice_get w.accesses (loads_in w))) c k.writer_alive by in
        subst (λ o. IsIn c (clashes_of_named nest walk reader load leaf o)) (sym k.names) (to_flat_map (clashes_with nest walk reader load leaf k.named) nest.entries w c k.writer_in with_writer)

module _ (nest : Nest) (trees : List Tree) (walk : Walk) where
  -- the load, the leaf and the store of a clash system
  pub record OfWalk (c : Clash) : Type 0 where
    pub reader : Entry
    pub reader_in : IsIn reader nest.entries
    pub alive : IsTrue reader.alive
    pub number : ℕ
    pub load : Access
    pub load_there : slice_get reader.accesses number ≡ Some load
    pub counts : number < loads_in reader
    pub loads : load.array.0 ≡ walk.loaded
    pub tree : Tree
    pub tree_there : tree_of nest trees reader.part number ≡ Some tree
    pub leaf : Leaf
    pub leaf_in : IsIn leaf (leaves_of (length nest.params + length reader.loops) tree)
    pub of_leaf : OfLeaf nest walk reader load leaf c

  record OfTree (reader : Entry) (load : Access) (o : Option Tree) (c : Clash) : Type 0 where
    tree : Tree
    is_tree : o ≡ Some tree
    leaf : Leaf
    leaf_in : IsIn leaf (leaves_of (length nest.params + length reader.loops) tree)
    of_leaf : OfLeaf nest walk reader load leaf c

  of_tree : (reader : Entry) (load : Access) (o : Option Tree) (c : Clash) → IsIn c (clashes_of_tree nest walk reader load o) → OfTree reader load o c
  of_tree reader load None c i = absurd i
  of_tree reader load (Some t) c i =
      let l = in_flat_map (λ (leaf : Leaf). clashes_of_named nest walk reader load leaf leaf.named) (leaves_of (length nest.params + length reader.loops) t) c i in
      record { tree = t; is_tree = refl; leaf = l.0; leaf_in = l.1; of_leaf = of_leaf nest walk reader load l.0 c l.0.named refl l.2 }

  pub of_walk : (c : Clash) → IsIn c (clashes_of nest trees walk) → OfWalk c
  of_walk c i =
      let a = in_flat_map (clashes_of_entry nest walk trees) nest.entries c i in
      let e : Entry = a.0 in
      let f = λ (x : ℕ × Access). if nat_eq x.1.array.0 walk.loaded then clashes_of_tree nest walk e x.1 (tree_of nest trees e.part x.0) else [] in
      let v = in_if e.alive (flat_map f (numbered_loads 0 e.accesses)) c a.2 in
      let x = in_flat_map f (numbered_loads 0 e.accesses) c v.1 in
      let n = load_at 0 e.accesses x.0 x.1 in
      let same : n.0 ≡ x.0.0 = zero_first n.0 ∙ sym n.1 in
      let t = in_if (nat_eq x.0.1.array.0 walk.loaded) (clashes_of_tree nest walk e x.0.1 (tree_of nest trees e.part x.0.0)) c x.2 in
      let o = of_tree e x.0.1 (tree_of nest trees e.part x.0.0) c t.1 in
      record {
        reader = e;
        reader_in = a.1;
        alive = v.0;
        number = x.0.0;
        load = x.0.1;
        load_there = subst (λ k. slice_get e.accesses k ≡ Some x.0.1) same n.2;
        counts = subst (λ k. k < length e.accesses - 1) same n.3;
        loads = eqb-true x.0.1.array.0 walk.loaded t.0;
        tree = o.tree;
        tree_there = o.is_tree;
        leaf = o.leaf;
        leaf_in = o.leaf_in;
        of_leaf = o.of_leaf;
      }

  pub in_walk : (c : Clash) → OfWalk c → IsIn c (clashes_of nest trees walk)
  in_walk c k =
      let e : Entry = k.reader in
      let f = λ (x : ℕ × Access). if nat_eq x.1.array.0 walk.loaded then clashes_of_tree nest walk e x.1 (tree_of nest trees e.part x.0) else [] in
      let g = λ (leaf : Leaf). clashes_of_named nest walk e k.load leaf leaf.named in
      let of_tree : IsIn c (clashes_of_tree nest walk e k.load (tree_of nest trees e.part k.number)) =
      subst (λ o. IsIn c (clashes_of_tree nest walk e k.load o)) (sym k.tree_there)
      (to_flat_map g (leaves_of (length nest.params + length e.loops) k.tree) k.leaf c k.leaf_in (leaf_of nest walk e k.load k.leaf c k.of_leaf)) in
      to_flat_map (clashes_of_entry nest walk trees) nest.entries e c k.reader_in
      (to_if e.alive (flat_map f (numbered_loads 0 e.accesses)) c k.alive
      (to_flat_map f (numbered_loads 0 e.accesses) (k.number, k.load) c (at_load 0 e.accesses k.number k.load k.number (zero_first k.number) k.load_there k.counts)
      (to_if (nat_eq k.load.array.0 walk.loaded) (clashes_of_tree nest walk e k.load (tree_of nest trees e.part k.number)) c (eq-eqb k.load.array.0 walk.loaded k.loads) of_tree)))

-- ---- Those of live pairs

abbrev pub Made : (nest : Nest) (trees : List Tree) (schedule : Schedule) (array : ℕ) (c : Clash) → Type 0
Made nest trees schedule array c = OfWalk nest trees (live_walk nest schedule array) c

pub made : (nest : Nest) (trees : List Tree) (schedule : Schedule) (array : ℕ) (c : Clash) → IsIn c (clashes nest trees schedule array) → Made nest trees schedule array c
made nest trees schedule array c i = of_walk nest trees (live_walk nest schedule array) c i
