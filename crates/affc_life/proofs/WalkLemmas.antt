-- The clash systems of a list's entries, one after the other.
use Rattle.std.proofs.Common.{◌≡◌, ℕ, zero, suc, ◌+◌, ◌-◌, ◌<◌, ◌≤◌, Bool, true, false, if◌then◌else◌, List, [], ◌∷◌, ◌++◌, length, map, flat_map, drop, get_or, Some, None, refl, sym, ap, subst, ◌∙◌, arith}
use Rattle.std.specs.Prelude.{nat_eq, slice_get}
use Rattle.std.proofs.lemmas.List.{drop-drop, length-drop}
use Rattle.std.proofs.lemmas.List.Folds.{flat_map-map}
use Rattle.std.proofs.lemmas.Option.{slice_get_read, slice_get_past}
use Rattle.affc_rows.specs.Forms.{Affine}
use Rattle.affc_system.specs.Systems.{Rows}
use Rattle.affc_trace.proofs.EndedReads.{append_assoc}
use Rattle.affc_trace.proofs.LastStores.{append_nil}
use Rattle.affc_domain.proofs.Lists.{to_mapped, length_map}
use Rattle.affc_nest.specs.declared.nest.Access.{Access}
use Rattle.affc_nest.specs.declared.nest.Entry.{Entry}
use Rattle.affc_nest.specs.declared.nest.Nest.{Nest}
use Rattle.affc_order.specs.Systems.{rows_in}
use Rattle.affc_products.proofs.ProductLemmas.{flat_same}
use Rattle.affc_products.proofs.Eaches.{each_right}
use Rattle.affc_sched.specs.Touched.{Each}
use Rattle.affc_quast.specs.Leaves.{leaves_of}
use Rattle.affc_quast.specs.Sources.{loads_in, loads_before, tree_of}
use Rattle.affc_quast.specs.Trees.{Tree}
use Rattle.affc_life.specs.Asked.{KeepLimits, AreLoads}
use Rattle.affc_life.specs.Clashes.{Clash, Walk, between_rows, differing, numbered_loads, clashes_of_tree, clashes_of_entry}
use Rattle.affc_life.specs.Drafts.{clashes_of_leaf, clashes_of_load}

-- nothing more
pub none_more : {A : Type 0} (xs more : List A) → more ≡ [] → xs ≡ xs ++ more
none_more xs more e = sym (append_nil xs) ∙ ap (λ ys. xs ++ ys) (sym e)

-- those of the first entry, and those of the others
pub next_made : {A B : Type 0} (F : A → List B) (xs rest : List A) (x : A) (old first new : List B) → xs ≡ x ∷ rest → first ≡ old ++ F x → new ≡ first ++ flat_map F rest → new ≡ old ++ flat_map F xs
next_made F xs rest x old first new i d e =
    e ∙ ap (λ s. s ++ flat_map F rest) d ∙ append_assoc old (F x) (flat_map F rest) ∙ ap (λ ys. old ++ flat_map F ys) (sym i)

-- what is known of each is known of each of a part
front_of : {A : Type 0} (P : A → Type 0) (xs ys : List A) → Each P (xs ++ ys) → Each P xs
front_of P [] ys h = tt
front_of P (x ∷ xs) ys h = (h.0, front_of P xs ys h.1)

pub each_front : {A : Type 0} (P : A → Type 0) (xs ys zs : List A) → zs ≡ xs ++ ys → Each P zs → Each P xs
each_front P xs ys zs e h = front_of P xs ys (subst (Each P) e h)

pub each_back : {A : Type 0} (P : A → Type 0) (xs ys zs : List A) → zs ≡ xs ++ ys → Each P zs → Each P ys
each_back P xs ys zs e h = each_right P xs ys (subst (Each P) e h)

-- ---- Orders

-- the rows of two orders are those of their systems
pub between_is : (differ : Bool) (front : List Affine) (after before : List Rows) (xs ys : List Affine)
    → flat_map (λ o. flat_map (λ u. differing differ xs ys (front ++ (o ++ u))) (map rows_in before)) (map rows_in after) ≡ between_rows differ front after before xs ys
between_is differ front after before xs ys =
    flat_map-map (λ o. flat_map (λ u. differing differ xs ys (front ++ (o ++ u))) (map rows_in before)) rows_in after
    ∙ flat_same (λ (o : Rows). flat_map (λ u. differing differ xs ys (front ++ (o.rows ++ u))) (map rows_in before)) (λ (o : Rows). flat_map (λ (u : Rows). differing differ xs ys (front ++ (o.rows ++ u.rows))) before)
    (λ o. flat_map-map (λ u. differing differ xs ys (front ++ (o.rows ++ u))) rows_in before) after

-- ---- Loads

pub loads_made : (F : ℕ × Access → List Clash) (accesses rest : List Access) (x : Access) (n : ℕ) (old first new : List Clash) → accesses ≡ x ∷ rest → 1 ≤ length rest
    → first ≡ old ++ F (n, x) → new ≡ first ++ flat_map F (numbered_loads (n + 1) rest) → new ≡ old ++ flat_map F (numbered_loads n accesses)
loads_made F accesses [] x n old first new i l d e = absurd (omega (arith, l))
loads_made F accesses (y ∷ ys) x n old first new i l d e =
    e ∙ ap (λ j. first ++ flat_map F (numbered_loads j (y ∷ ys))) (one n) ∙ ap (λ s. s ++ flat_map F (numbered_loads (suc n) (y ∷ ys))) d ∙ append_assoc old (F (n, x)) (flat_map F (numbered_loads (suc n) (y ∷ ys)))
    ∙ ap (λ ys. old ++ flat_map F (numbered_loads n ys)) (sym i)
  where
    one : (n : ℕ) → n + 1 ≡ suc n
    one n = omega arith

-- the next load, and what is behind it
pub load_there : (whole accesses rest : List Access) (x : Access) (n : ℕ) → accesses ≡ drop n whole → accesses ≡ x ∷ rest → slice_get whole n ≡ Some x
load_there [] accesses rest x zero d i = absurd (cc)
load_there [] accesses rest x (suc n) d i = absurd (cc)
load_there (y ∷ ys) accesses rest x zero d i = ap (λ zs. slice_get zs 0) (sym d ∙ i)
load_there (y ∷ ys) accesses rest x (suc n) d i = load_there ys accesses rest x n d i

pub load_counts : (whole accesses rest : List Access) (x : Access) (n : ℕ) → accesses ≡ drop n whole → accesses ≡ x ∷ rest → 1 ≤ length rest → n < length whole - 1
load_counts whole accesses rest x n d i l = more (length whole) (length accesses) (length rest) (ap length d ∙ length-drop n whole) (ap length i) l
  where
    more : (w a r : ℕ) → a ≡ w - n → a ≡ suc r → 1 ≤ r → n < w - 1
    more w a r e f h = omega (arith, e, f, h)

-- ---- Trees

pub later_tree : {A : Type 0} (n k : ℕ) (xs : List A) → slice_get (drop n xs) k ≡ slice_get xs (n + k)
later_tree zero k xs = ap (slice_get xs) (none k)
  where
    none : (k : ℕ) → k ≡ 0 + k
    none k = omega arith
later_tree (suc n) k [] = refl
later_tree (suc n) k (x ∷ xs) = later_tree n k xs ∙ ap (slice_get (x ∷ xs)) (one n k)
  where
    one : (n k : ℕ) → suc (n + k) ≡ suc n + k
    one n k = omega arith

module _ (nest : Nest) (trees own : List Tree) (reader : Entry) (is : own ≡ drop (loads_before nest.entries reader.part) trees) where
  same_tree : (load : ℕ) → slice_get own load ≡ tree_of nest trees reader.part load
  same_tree load = ap (λ ts. slice_get ts load) is ∙ later_tree (loads_before nest.entries reader.part) load trees

  pub entry_made : (walk : Walk)
      → flat_map (clashes_of_load nest walk reader own) (numbered_loads 0 reader.accesses)
      ≡ flat_map (λ load. if nat_eq load.1.array.0 walk.loaded then clashes_of_tree nest walk reader load.1 (tree_of nest trees reader.part load.0) else []) (numbered_loads 0 reader.accesses)
  entry_made walk =
      flat_same (clashes_of_load nest walk reader own) (λ (load : ℕ × Access). if nat_eq load.1.array.0 walk.loaded then clashes_of_tree nest walk reader load.1 (tree_of nest trees reader.part load.0) else [])
      (λ load. ap (λ o. if nat_eq load.1.array.0 walk.loaded then clashes_of_tree nest walk reader load.1 o else []) (same_tree load.0)) (numbered_loads 0 reader.accesses)

  pub reader_made : (walk : Walk) (accesses : List Access) (old new : List Clash) → reader.alive ≡ true → accesses ≡ reader.accesses
      → new ≡ old ++ flat_map (clashes_of_load nest walk reader own) (numbered_loads 0 accesses) → new ≡ old ++ clashes_of_entry nest walk trees reader
  reader_made walk accesses old new alive a e =
      let whole : List Clash =
      flat_map (λ load. if nat_eq load.1.array.0 walk.loaded then clashes_of_tree nest walk reader load.1 (tree_of nest trees reader.part load.0) else []) (numbered_loads 0 reader.accesses) in
      e ∙ ap (λ xs. old ++ flat_map (clashes_of_load nest walk reader own) (numbered_loads 0 xs)) a ∙ ap (λ zs. old ++ zs) (entry_made walk) ∙ ap (λ t. old ++ (if t then whole else [])) (sym alive)

  pub own_loads : KeepLimits nest trees → slice_get nest.entries reader.part ≡ Some reader → AreLoads nest reader own
  own_loads limits there load tree counts at = limits reader.part load reader tree there counts (sym (same_tree load) ∙ at)

-- the trees behind those of a part
pub trees_behind : (e : Entry) (entries rest : List Entry) (trees others : List Tree) (result : List Tree) (part before loads : ℕ) → entries ≡ e ∷ rest → part ≡ suc before
    → loads ≡ loads_in e → others ≡ drop loads trees → result ≡ drop (loads_before rest before) others → result ≡ drop (loads_before entries part) trees
trees_behind e entries rest trees others result part before loads i s l o r =
    r ∙ ap (drop (loads_before rest before)) o ∙ drop-drop (loads_before rest before) loads trees ∙ ap (λ n. drop (n + loads_before rest before) trees) l
    ∙ ap (λ es. drop (loads_before es (suc before)) trees) (sym i) ∙ ap (λ n. drop (loads_before entries n) trees) (sym s)

-- ---- One load

module _ (nest : Nest) (walk : Walk) (reader : Entry) (trees : List Tree) (n : ℕ) (load : Access) where
  pub no_tree_load : slice_get trees n ≡ None → clashes_of_load nest walk reader trees (n, load) ≡ []
  no_tree_load e = ap (λ o. if nat_eq load.array.0 walk.loaded then clashes_of_tree nest walk reader load o else []) e ∙ either (nat_eq load.array.0 walk.loaded)
    where
      either : (t : Bool) → ◌≡◌ {A = List Clash} (if t then [] else []) []
      either true = refl
      either false = refl

  pub load_made : (tree : Tree) (old new : List Clash) → nat_eq load.array.0 walk.loaded ≡ true → slice_get trees n ≡ Some tree
      → new ≡ old ++ flat_map (clashes_of_leaf nest walk reader load) (leaves_of (length nest.params + length reader.loops) tree) → new ≡ old ++ clashes_of_load nest walk reader trees (n, load)
  load_made tree old new t e m =
      m ∙ ap (λ o. old ++ clashes_of_tree nest walk reader load o) (sym e) ∙ ap (λ b. old ++ (if b then clashes_of_tree nest walk reader load (slice_get trees n) else [])) (sym t)

-- its tree, as the code reads it
pub tree_there : {A B : Type 0} (f : A → B) (xs : List A) (i : ℕ) (x : A) → i < length xs → x ≡ get_or xs i x → slice_get (map f xs) i ≡ Some (f x)
tree_there f xs i x h e = to_mapped f xs i x (slice_get_read xs (length xs) i x refl h e)

pub tree_not_there : {A B : Type 0} (f : A → B) (xs : List A) (i : ℕ) → length xs ≤ i → slice_get (map f xs) i ≡ None
tree_not_there f xs i h = slice_get_past (map f xs) i (subst (λ n. n ≤ i) (sym (length_map f xs)) h)
