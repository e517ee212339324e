-- The items of trees, load by load.
use Rattle.std.proofs.Common.{◌≡◌, ℕ, zero, suc, ◌+◌, ◌≤◌, Bool, true, false, if◌then◌else◌, List, [], ◌∷◌, ◌++◌, length, map, flat_map, drop, replicate, Some, refl, sym, ap, arith, ◌∙◌}
use Rattle.std.specs.Prelude.{nat_eq, slice_get}
use Rattle.std.proofs.lemmas.List.{map-append}
use Rattle.std.proofs.lemmas.Bool.{eqb-true}
use Rattle.std.proofs.lemmas.List.Concat.{flat_map-append}
use Rattle.affc_trace.proofs.EndedReads.{append_assoc}
use Rattle.affc_nest.specs.declared.nest.Access.{Access}
use Rattle.affc_nest.specs.declared.nest.Entry.{Entry}
use Rattle.affc_nest.specs.declared.nest.Nest.{Nest}
use Rattle.affc_quast.specs.Leaves.{leaves_of}
use Rattle.affc_quast.specs.Sources.{loads_in, loads_before, tree_of}
use Rattle.affc_quast.specs.Trees.{Tree}
use Rattle.affc_products.proofs.ProductLemmas.{flat_same, map_flat}
use Rattle.affc_flow.specs.Questions.{leaf_questions, questions_of_load, questions_of_loads, flow_questions}
use Rattle.affc_life.proofs.WalkLemmas.{later_tree}
use Rattle.affc_check.specs.list.Held.{flow_item}
use Rattle.affc_check.specs.list.Items.{Item}
use Rattle.affc_check.specs.list.Passes.{items_by_load, items_by_entry, items_by_tree}
use Rattle.affc_check.specs.list.Walks.{leaf_items, load_items, own_items}

-- ---- A load

-- those of two parts of a list, one after the other
pub flat_made : {A B : Type 0} (F : A → List B) (xs ys zs : List A) (old first new : List B) → zs ≡ xs ++ ys → first ≡ old ++ flat_map F xs → new ≡ first ++ flat_map F ys → new ≡ old ++ flat_map F zs
flat_made F xs ys zs old first new i d e =
    e ∙ ap (λ s. s ++ flat_map F ys) d ∙ append_assoc old (flat_map F xs) (flat_map F ys) ∙ ap (λ s. old ++ s) (sym (flat_map-append F xs ys) ∙ ap (flat_map F) (sym i))

-- the items of a tree, leaf by leaf
pub tree_items : (nest : Nest) (reader : Entry) (load : Access) (tree : Tree)
    → flat_map (leaf_items nest reader load) (leaves_of (length nest.params + length reader.loops) tree) ≡ load_items nest reader load (Some tree)
tree_items nest reader load tree = sym (map_flat flow_item (leaf_questions nest reader load (nest.params ++ reader.ranges)) (leaves_of (length nest.params + length reader.loops) tree))

-- ---- The loads of a statement

one_at_least : (n : ℕ) → nat_eq n 0 ≡ false → 1 ≤ n
one_at_least zero e = absurd (cc)
one_at_least (suc n) e = omega arith

pub not_empty : {A : Type 0} (xs : List A) (t : Bool) → t ≡ nat_eq (length xs) 0 → t ≡ false → 1 ≤ length xs
not_empty xs t e f = one_at_least (length xs) (sym e ∙ f)

pub is_empty : {A : Type 0} (xs : List A) (t : Bool) → t ≡ nat_eq (length xs) 0 → t ≡ true → length xs ≡ 0
is_empty xs t e f = eqb-true (length xs) 0 (sym e ∙ f)

pub own_next : (nest : Nest) (own : List Tree) (reader : Entry) (n : ℕ) (accesses rest : List Access) (x : Access) → accesses ≡ x ∷ rest → 1 ≤ length rest
    → own_items nest own reader n accesses ≡ load_items nest reader x (slice_get own n) ∷ own_items nest own reader (n + 1) rest
own_next nest own reader n accesses [] x e l = absurd (omega (arith, l))
own_next nest own reader n accesses (y ∷ ys) x e l = ap (own_items nest own reader n) e

pub own_last : (nest : Nest) (own : List Tree) (reader : Entry) (n : ℕ) (accesses rest : List Access) (x : Access) → accesses ≡ x ∷ rest → length rest ≡ 0 → own_items nest own reader n accesses ≡ []
own_last nest own reader n accesses [] x e l = ap (own_items nest own reader n) e
own_last nest own reader n accesses (y ∷ ys) x e l = absurd (omega (arith, l))

-- ---- A statement

module _ (nest : Nest) (trees own : List Tree) (reader : Entry) (is : own ≡ drop (loads_before nest.entries reader.part) trees) where
  its_tree : (load : ℕ) → slice_get own load ≡ tree_of nest trees reader.part load
  its_tree load = ap (λ ts. slice_get ts load) is ∙ later_tree (loads_before nest.entries reader.part) load trees

  own_is : (n : ℕ) (xs : List Access) → own_items nest own reader n xs ≡ items_by_load nest trees reader n xs
  own_is n [] = refl
  own_is n (x ∷ []) = refl
  own_is n (x ∷ y ∷ ys) =
      ap (λ t. load_items nest reader x t ∷ own_items nest own reader (n + 1) (y ∷ ys)) (its_tree n)
      ∙ ap (λ zs. load_items nest reader x (tree_of nest trees reader.part n) ∷ zs) (own_is (n + 1) (y ∷ ys))

  -- of a living one
  pub living_entry : (accesses : List Access) → accesses ≡ reader.accesses → reader.alive ≡ true → own_items nest own reader 0 accesses ≡ items_by_entry nest trees reader
  living_entry accesses e alive =
      ap (own_items nest own reader 0) e ∙ own_is 0 reader.accesses ∙ ap (λ t. if t then items_by_load nest trees reader 0 reader.accesses else replicate (loads_in reader) []) (sym alive)

pub dead_entry : (nest : Nest) (trees : List Tree) (reader : Entry) → reader.alive ≡ false → replicate (loads_in reader) [] ≡ items_by_entry nest trees reader
dead_entry nest trees reader dead = ap (λ t. if t then items_by_load nest trees reader 0 reader.accesses else replicate (loads_in reader) []) (sym dead)

-- ---- All of them

flat_twice : {A B : Type 0} (F : A → List (List B)) (xs : List A) → flat_map (λ z. z) (flat_map F xs) ≡ flat_map (λ x. flat_map (λ z. z) (F x)) xs
flat_twice F [] = refl
flat_twice F (x ∷ xs) = flat_map-append (λ z. z) (F x) (flat_map F xs) ∙ ap (λ l. flat_map (λ z. z) (F x) ++ l) (flat_twice F xs)

by_load_flat : (nest : Nest) (trees : List Tree) (reader : Entry) (n : ℕ) (xs : List Access)
    → flat_map (λ z. z) (items_by_load nest trees reader n xs) ≡ map flow_item (questions_of_loads nest trees reader n xs)
by_load_flat nest trees reader n [] = refl
by_load_flat nest trees reader n (x ∷ []) = refl
by_load_flat nest trees reader n (x ∷ y ∷ ys) =
    let own = questions_of_load nest reader x (tree_of nest trees reader.part n) in
    ap (λ l. map flow_item own ++ l) (by_load_flat nest trees reader (n + 1) (y ∷ ys)) ∙ sym (map-append flow_item own (questions_of_loads nest trees reader (n + 1) (y ∷ ys)))

empty_flat : (n : ℕ) → ◌≡◌ {A = List Item} (flat_map (λ z. z) (replicate n [])) []
empty_flat zero = refl
empty_flat (suc n) = empty_flat n

entry_flat : (nest : Nest) (trees : List Tree) (e : Entry) → flat_map (λ z. z) (items_by_entry nest trees e) ≡ map flow_item (if e.alive then questions_of_loads nest trees e 0 e.accesses else [])
entry_flat nest trees e = by e.alive
  where
    by : (t : Bool) → flat_map (λ z. z) (if t then items_by_load nest trees e 0 e.accesses else replicate (loads_in e) []) ≡ map flow_item (if t then questions_of_loads nest trees e 0 e.accesses else [])
    by true = by_load_flat nest trees e 0 e.accesses
    by false = empty_flat (loads_in e)

-- the items by tree are those of all trees
pub trees_flat : (nest : Nest) (trees : List Tree) → flat_map (λ z. z) (items_by_tree nest trees) ≡ map flow_item (flow_questions nest trees)
trees_flat nest trees =
    flat_twice (items_by_entry nest trees) nest.entries
    ∙ flat_same (λ e. flat_map (λ z. z) (items_by_entry nest trees e)) (λ e. map flow_item (if e.alive then questions_of_loads nest trees e 0 e.accesses else [])) (entry_flat nest trees) nest.entries
    ∙ sym (map_flat flow_item (λ e. if e.alive then questions_of_loads nest trees e 0 e.accesses else []) nest.entries)
