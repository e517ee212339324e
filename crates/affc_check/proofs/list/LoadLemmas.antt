-- Parts that are put behind others, load by load.
use Rattle.std.proofs.Common.{◌≡◌, ℕ, suc, ◌+◌, ◌≤◌, true, false, if◌then◌else◌, List, [], ◌∷◌, ◌++◌, length, map, flat_map, drop, Option, Some, refl, sym, ap, subst, arith, ◌∙◌}
use Rattle.std.specs.Prelude.{nat_eq, slice_get}
use Rattle.std.proofs.lemmas.List.{map-append}
use Rattle.std.proofs.lemmas.List.Concat.{flat_map-append}
use Rattle.affc_trace.proofs.EndedReads.{append_assoc}
use Rattle.affc_trace.proofs.LastStores.{append_nil}
use Rattle.affc_nest.specs.declared.nest.Access.{Access}
use Rattle.affc_nest.specs.declared.nest.Entry.{Entry}
use Rattle.affc_nest.specs.declared.nest.Nest.{Nest}
use Rattle.affc_products.proofs.Eaches.{each_append}
use Rattle.affc_sched.specs.Touched.{Each}
use Rattle.affc_quast.specs.Sources.{loads_before, tree_of}
use Rattle.affc_quast.specs.Trees.{Tree}
use Rattle.affc_life.specs.Clashes.{Clash, Walk, numbered_loads, clashes_of_tree, clashes_of_entry}
use Rattle.affc_life.specs.Drafts.{clashes_of_load}
use Rattle.affc_life.proofs.WalkLemmas.{none_more, reader_made}
use Rattle.affc_check.specs.list.Items.{Item}
use Rattle.affc_check.specs.list.Loads.{part_said, part_clashes, IsPart, PartsPut}
use Rattle.affc_check.specs.declared.list.item.Loaded.{Loaded}

module _ (nest : Nest) where
  pub nothing_put : (items : List (List Item)) (made : Walk → List Clash) (old : List (Option Loaded)) → items ≡ [] → ((walk : Walk) → made walk ≡ []) → PartsPut nest items made old old
  nothing_put items made old e f = record {
    said = sym (append_nil (map (part_said nest) old)) ∙ ap (λ z. map (part_said nest) old ++ z) (sym e);
    clashing = λ walk. none_more (flat_map (part_clashes nest walk) old) (made walk) (f walk);
    each = λ h. h;
  }

  pub put_same : (xs ys : List (List Item)) (made more : Walk → List Clash) (old new : List (Option Loaded)) → xs ≡ ys → ((walk : Walk) → made walk ≡ more walk) → PartsPut nest xs made old new → PartsPut nest ys more old new
  put_same xs ys made more old new e f h = record {
    said = h.said ∙ ap (λ z. map (part_said nest) old ++ z) e;
    clashing = λ walk. h.clashing walk ∙ ap (λ z. flat_map (part_clashes nest walk) old ++ z) (f walk);
    each = h.each;
  }

  pub one_put : (items : List Item) (made : Walk → List Clash) (part : Option Loaded) (old new : List (Option Loaded)) → new ≡ old ++ part ∷ [] → part_said nest part ≡ items → ((walk : Walk) → part_clashes nest walk part ≡ made walk)
      → IsPart nest part → PartsPut nest (items ∷ []) made old new
  one_put items made part old new e s m p = record {
    said = ap (map (part_said nest)) e ∙ map-append (part_said nest) old (part ∷ []) ∙ ap (λ is. map (part_said nest) old ++ is ∷ []) s;
    clashing = λ walk. ap (flat_map (part_clashes nest walk)) e ∙ flat_map-append (part_clashes nest walk) old (part ∷ [])
        ∙ ap (λ z. flat_map (part_clashes nest walk) old ++ z) (append_nil (part_clashes nest walk part) ∙ m walk);
    each = λ h. subst (Each (IsPart nest)) (sym e) (each_append (IsPart nest) old (part ∷ []) h (p, tt));
  }

  pub put_twice : (xs ys : List (List Item)) (made more : Walk → List Clash) (old mid new : List (Option Loaded)) → PartsPut nest xs made old mid → PartsPut nest ys more mid new
      → PartsPut nest (xs ++ ys) (λ walk. made walk ++ more walk) old new
  put_twice xs ys made more old mid new h g = record {
    said = g.said ∙ ap (λ z. z ++ ys) h.said ∙ append_assoc (map (part_said nest) old) xs ys;
    clashing = λ walk. g.clashing walk ∙ ap (λ z. z ++ more walk) (h.clashing walk) ∙ append_assoc (flat_map (part_clashes nest walk) old) (made walk) (more walk);
    each = λ e. g.each (h.each e);
  }

-- more of what is said of each
pub next_said : {A B : Type 0} (F : A → B) (xs rest : List A) (x : A) (old first new : List B) → xs ≡ x ∷ rest → first ≡ old ++ F x ∷ [] → new ≡ first ++ map F rest → new ≡ old ++ map F xs
next_said F xs rest x old first new i d e = e ∙ ap (λ s. s ++ map F rest) d ∙ append_assoc old (F x ∷ []) (map F rest) ∙ ap (λ ys. old ++ map F ys) (sym i)

-- ---- The clash systems of loads

pub tree_clashes : (nest : Nest) (walk : Walk) (reader : Entry) (trees : List Tree) (n : ℕ) (load : Access) (tree : Tree) → slice_get trees n ≡ Some tree
    → (if nat_eq load.array.0 walk.loaded then clashes_of_tree nest walk reader load (Some tree) else []) ≡ clashes_of_load nest walk reader trees (n, load)
tree_clashes nest walk reader trees n load tree e = ap (λ o. if nat_eq load.array.0 walk.loaded then clashes_of_tree nest walk reader load o else []) (sym e)

module _ {B : Type 0} (F : ℕ × Access → List B) where
  pub loads_next : (accesses rest : List Access) (x : Access) (n : ℕ) → accesses ≡ x ∷ rest → 1 ≤ length rest → F (n, x) ++ flat_map F (numbered_loads (n + 1) rest) ≡ flat_map F (numbered_loads n accesses)
  loads_next accesses [] x n i l = absurd (omega (arith, l))
  loads_next accesses (y ∷ ys) x n i l = ap (λ j. F (n, x) ++ flat_map F (numbered_loads j (y ∷ ys))) (one n) ∙ ap (λ zs. flat_map F (numbered_loads n zs)) (sym i)
    where
      one : (n : ℕ) → n + 1 ≡ suc n
      one n = omega arith

  pub loads_last : (accesses rest : List Access) (x : Access) (n : ℕ) → accesses ≡ x ∷ rest → length rest ≡ 0 → flat_map F (numbered_loads n accesses) ≡ []
  loads_last accesses [] x n i l = ap (λ zs. flat_map F (numbered_loads n zs)) i
  loads_last accesses (y ∷ ys) x n i l = absurd (omega (arith, l))

pub dead_clashes : (nest : Nest) (walk : Walk) (trees : List Tree) (reader : Entry) → reader.alive ≡ false → clashes_of_entry nest walk trees reader ≡ []
dead_clashes nest walk trees reader dead = ap (λ t. if t then whole else []) dead
  where
    whole : List Clash
    whole = flat_map (λ load. if nat_eq load.1.array.0 walk.loaded then clashes_of_tree nest walk reader load.1 (tree_of nest trees reader.part load.0) else []) (numbered_loads 0 reader.accesses)

pub living_clashes : (nest : Nest) (trees own : List Tree) (reader : Entry) → own ≡ drop (loads_before nest.entries reader.part) trees → (walk : Walk) (accesses : List Access) → accesses ≡ reader.accesses → reader.alive ≡ true
    → flat_map (clashes_of_load nest walk reader own) (numbered_loads 0 accesses) ≡ clashes_of_entry nest walk trees reader
living_clashes nest trees own reader is walk accesses e alive =
    reader_made nest trees own reader is walk accesses [] (flat_map (clashes_of_load nest walk reader own) (numbered_loads 0 accesses)) alive e refl
