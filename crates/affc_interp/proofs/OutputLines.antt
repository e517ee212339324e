-- The output lines, by the arrays' cells.
use Rattle.std.proofs.Common.{◌≡◌, ℕ, zero, suc, ◌+◌, ◌<◌, ℤ, Bool, true, false, cond, decimal, if◌then◌else◌, nat_eq, List, [], ◌∷◌, ◌++◌, length, map, drop, take, get_or, Option, Some, None, refl, sym, ap, subst, ◌∙◌, arith, append_assoc}
use Rattle.std.specs.Prelude.{filter, slice_get, codes}
use Rattle.std.proofs.lemmas.List.{take_more}
use Rattle.affc_ast.specs.declared.tree.Param.{Param}
use Rattle.affc_ast.specs.declared.tree.Param.TheVariants.{Array}
use Rattle.std.proofs.lemmas.Bool.{eq-eqb}
use Rattle.std.proofs.lemmas.Bool.Decides.{nat_tests}
use Rattle.std.proofs.Math.ListN.{length-map}
use Rattle.affc_ast.specs.declared.tree.Decl.{Decl}
use Rattle.affc_ast.specs.Fits.{is_output_role, is_output, outputs}
use Rattle.affc_ast.specs.Meaning.{arrays_of}
use Rattle.affc_ast.specs.Store.{Element, Store}
use Rattle.affc_ast.specs.declared.tree.Program.{Program}
use Rattle.affc_interp.specs.declared.memory.Buffer.{Buffer}
use Rattle.affc_interp.specs.DataText.{spaced, array_line, values_of, output_lines, output_text}
use Rattle.affc_interp.specs.Layout.{size_of, subscripts_of, elements_of, extents_in, cells_in, with_cells, store_held, AreWhole, Held, held_in}
use Rattle.affc_interp.specs.Outputs.{values_held, cells_of, line_held, lines_held}
use Rattle.affc_interp.proofs.Adds.{nothing_more, both_stores}
use Rattle.affc_interp.proofs.Places.{length_subscripts}

abbrev Entry : Type 0
Entry = Element × ℕ

abbrev of_array : ℕ → Entry → Bool
of_array k e = nat_eq e.0.0 k

values_append : (k : ℕ) (xs ys : Store) → values_of k (xs ++ ys) ≡ values_of k xs ++ values_of k ys
values_append k [] ys = refl
values_append k (e ∷ xs) ys =
    let more : values_of k (xs ++ ys) ≡ values_of k xs ++ values_of k ys = values_append k xs ys in
    elim (of_array k e) as (λ (b : Bool).
    map (λ (x : Entry). x.1) (cond b (e ∷ filter (of_array k) (xs ++ ys)) (filter (of_array k) (xs ++ ys))) ≡ map (λ (x : Entry). x.1) (cond b (e ∷ filter (of_array k) xs) (filter (of_array k) xs)) ++ values_of k ys) [
      | true ↦ ap (λ l. e.1 ∷ l) more
      | false ↦ more
    ]

own_values : (k : ℕ) (xss : List (List ℤ)) (cs : List (Option ℕ)) → length cs ≡ length xss → values_of k (with_cells (map (λ xs. (k, xs)) xss) cs) ≡ values_held cs
own_values k [] [] e = refl
own_values k [] (c ∷ cs) e = absurd (omega arith)
own_values k (xs ∷ xss) [] e = absurd (omega arith)
own_values k (xs ∷ xss) (None ∷ cs) e = own_values k xss cs (omega arith)
own_values k (xs ∷ xss) (Some v ∷ cs) e =
    let rest : Store = with_cells (map (λ ys. (k, ys)) xss) cs in
    ap (λ b. map (λ (x : Entry). x.1) (cond b (((k, xs), v) ∷ filter (of_array k) rest) (filter (of_array k) rest))) (eq-eqb k k refl) ∙ ap (λ l. v ∷ l) (own_values k xss cs (omega arith))

no_values : (k j : ℕ) (xss : List (List ℤ)) (cs : List (Option ℕ)) → nat_eq j k ≡ false → values_of k (with_cells (map (λ xs. (j, xs)) xss) cs) ≡ []
no_values k j [] cs h = refl
no_values k j (xs ∷ xss) [] h = refl
no_values k j (xs ∷ xss) (None ∷ cs) h = no_values k j xss cs h
no_values k j (xs ∷ xss) (Some v ∷ cs) h =
    let rest : Store = with_cells (map (λ ys. (j, ys)) xss) cs in
    ap (λ b. map (λ (x : Entry). x.1) (cond b (((j, xs), v) ∷ filter (of_array k) rest) (filter (of_array k) rest))) h ∙ no_values k j xss cs h

differs : (j k : ℕ) → k < j → nat_eq j k ≡ false
differs j k h = grind (arith, nat_tests)

differs_up : (j k : ℕ) → j < k → nat_eq j k ≡ false
differs_up j k h = grind (arith, nat_tests)

module _ (a : ℕ) where
  abbrev from : List Buffer → Store
  from bs = with_cells (elements_of a (extents_in bs)) (cells_in bs)

split : (a : ℕ) (b : Buffer) (bs : List Buffer) → length b.cells.items ≡ size_of b.extents.items → from a (b ∷ bs) ≡ with_cells (map (λ xs. (a, xs)) (subscripts_of b.extents.items)) b.cells.items ++ from (suc a) bs
split a b bs e =
    both_stores (map (λ xs. (a, xs)) (subscripts_of b.extents.items)) (elements_of (suc a) (extents_in bs)) b.cells.items (cells_in bs)
    (e ∙ sym (length_subscripts b.extents.items) ∙ sym (length-map (subscripts_of b.extents.items) (λ (xs : List ℤ). let x : Element = (a, xs) in x)))

none_before : (k a : ℕ) (bs : List Buffer) → AreWhole bs → k < a → values_of k (from a bs) ≡ []
none_before k a [] w lt = refl
none_before k a (b ∷ bs) w lt =
    ap (values_of k) (split a b bs w.1) ∙ values_append k (with_cells (map (λ xs. (a, xs)) (subscripts_of b.extents.items)) b.cells.items) (from (suc a) bs)
    ∙ (λ i. no_values k a (subscripts_of b.extents.items) b.cells.items (differs a k lt) i ++ none_before k (suc a) bs w.2 (omega arith) i)

held_from : (a j : ℕ) (bs : List Buffer) → AreWhole bs → values_of (a + j) (from a bs) ≡ values_held (get_or (cells_of bs) j [])
held_from a j [] w = refl
held_from a zero (b ∷ bs) w =
    let here : a + 0 ≡ a = omega arith in
    ap (λ k. values_of k (from a (b ∷ bs))) here ∙ ap (values_of a) (split a b bs w.1) ∙ values_append a (with_cells (map (λ xs. (a, xs)) (subscripts_of b.extents.items)) b.cells.items) (from (suc a) bs)
    ∙ (λ i. own_values a (subscripts_of b.extents.items) b.cells.items (w.1 ∙ sym (length_subscripts b.extents.items)) i ++ none_before a (suc a) bs w.2 (omega arith) i) ∙ nothing_more (values_held b.cells.items)
held_from a (suc j) (b ∷ bs) w =
    let next : a + suc j ≡ suc a + j = omega arith in
    ap (values_of (a + suc j)) (split a b bs w.1) ∙ values_append (a + suc j) (with_cells (map (λ xs. (a, xs)) (subscripts_of b.extents.items)) b.cells.items) (from (suc a) bs)
    ∙ ap (λ l. l ++ values_of (a + suc j) (from (suc a) bs)) (no_values (a + suc j) a (subscripts_of b.extents.items) b.cells.items (differs_up a (a + suc j) (omega arith)))
    ∙ ap (λ k. values_of k (from (suc a) bs)) next ∙ held_from (suc a) j bs w.2

later_cells : (css : List (List (Option ℕ))) (j : ℕ) → get_or css (suc j) [] ≡ get_or (drop 1 css) j []
later_cells [] j = refl
later_cells (cs ∷ css) j = refl

line_rest : (vs rest : List ℕ) → spaced vs (10 ∷ []) ++ rest ≡ spaced vs (10 ∷ rest)
line_rest [] rest = refl
line_rest (v ∷ vs) rest = ap (λ l. 32 ∷ l) (append_assoc (decimal v) (spaced vs (10 ∷ [])) rest ∙ ap (λ l. decimal v ++ l) (line_rest vs rest))

-- a line, and others behind it
line_then : (name values rest : List ℕ) → array_line name values (10 ∷ []) ++ rest ≡ array_line name values (10 ∷ rest)
line_then name values rest =
    append_assoc (codes "array ") (name ++ spaced values (10 ∷ [])) rest
    ∙ ap (λ l. codes "array " ++ l) (append_assoc name (spaced values (10 ∷ [])) rest ∙ ap (λ l. name ++ l) (line_rest values rest))

with_line : (b : Bool) (name values rest : List ℕ) → (if b then array_line name values (10 ∷ rest) else rest) ≡ (if b then array_line name values (10 ∷ []) else []) ++ rest
with_line true name values rest = sym (line_then name values rest)
with_line false name values rest = refl

lines_same : (k : ℕ) (ds : List Decl) (store : Store) (css : List (List (Option ℕ))) → ((j : ℕ) → values_of (k + j) store ≡ values_held (get_or css j [])) → output_lines k ds store ≡ lines_held ds css
lines_same k [] store css h = refl
lines_same k (d ∷ ds) store css h =
    let here : k ≡ k + 0 = omega arith in
    let first = ap (λ n. values_of n store) here ∙ h 0 in
    let rest = lines_same (suc k) ds store (drop 1 css) (λ j. let next : suc k + j ≡ k + suc j = omega arith in ap (λ n. values_of n store) next ∙ h (suc j) ∙ ap values_held (later_cells css j)) in
    (λ i. if is_output_role d.role then array_line d.name (first i) (10 ∷ rest i) else rest i) ∙ with_line (is_output_role d.role) d.name (values_held (get_or css 0 [])) (lines_held ds (drop 1 css))

-- ---- The outputs alone

filter_twice : (p q : Entry → Bool) (es : Store) → ((e : Entry) → p e ≡ true → q e ≡ true) → filter p (filter q es) ≡ filter p es
filter_twice p q [] h = refl
filter_twice p q (e ∷ es) h =
    let more : filter p (filter q es) ≡ filter p es = filter_twice p q es h in
    elim (q e) as (λ (b : Bool). q e ≡ b → filter p (cond b (e ∷ filter q es) (filter q es)) ≡ cond (p e) (e ∷ filter p es) (filter p es)) [
      | true ↦ λ is. (λ i. cond (p e) (e ∷ more i) (more i))
      | false ↦ λ is. more ∙ elim (p e) as (λ (b : Bool). p e ≡ b → filter p es ≡ cond b (e ∷ filter p es) (filter p es)) [ true ↦ λ so. absurd (not_both (q e) is (h e so)) | false ↦ λ so. refl ] refl
    ] refl
  where
    not_both : (b : Bool) → b ≡ false → b ≡ true → ⊥
    not_both b f t = cc

module _ (q : Entry → Bool) (store : Store) where
  lines_cut : (k : ℕ) (ds : List Decl) → ((j : ℕ) (e : Entry) → is_output (slice_get ds j) ≡ true → nat_eq e.0.0 (k + j) ≡ true → q e ≡ true) → output_lines k ds (filter q store) ≡ output_lines k ds store
  lines_cut k [] h = refl
  lines_cut k (d ∷ ds) h =
      let rest : output_lines (suc k) ds (filter q store) ≡ output_lines (suc k) ds store = lines_cut (suc k) ds (λ j e o is. let next : suc k + j ≡ k + suc j = omega arith in h (suc j) e o (subst (λ n. nat_eq e.0.0 n ≡ true) next is)) in
      elim (is_output_role d.role) as (λ (b : Bool). is_output_role d.role ≡ b →
      (if b then array_line d.name (values_of k (filter q store)) (10 ∷ output_lines (suc k) ds (filter q store)) else output_lines (suc k) ds (filter q store))
      ≡ (if b then array_line d.name (values_of k store) (10 ∷ output_lines (suc k) ds store) else output_lines (suc k) ds store)) [
        | true ↦ λ o.
            let here : k ≡ k + 0 = omega arith in
            let kept : filter (of_array k) (filter q store) ≡ filter (of_array k) store = filter_twice (of_array k) q store (λ e is. h 0 e o (subst (λ n. nat_eq e.0.0 n ≡ true) here is)) in
            λ i. array_line d.name (map (λ (e : Entry). e.1) (kept i)) (10 ∷ rest i)
        | false ↦ λ o. rest
      ] refl

-- the outputs' text is that of the whole store
pub text_of_outputs : (program : Program) (store : Store) → output_text program (outputs program store) ≡ output_text program store
text_of_outputs program store =
    lines_cut (λ e. is_output (slice_get (arrays_of program.params) e.0.0)) store 0 (arrays_of program.params) (λ j e o is. same_number (arrays_of program.params) e.0.0 j o is)
  where
    same_number : (ds : List Decl) (m j : ℕ) → is_output (slice_get ds j) ≡ true → nat_eq m (0 + j) ≡ true → is_output (slice_get ds m) ≡ true
    same_number ds m j o is = let e : m ≡ j = grind (arith, nat_tests) in subst (λ n. is_output (slice_get ds n) ≡ true) (sym e) o

pub text_held : (program : Program) (bs : List Buffer) → AreWhole bs → output_text program (outputs program (store_held bs)) ≡ lines_held (arrays_of program.params) (cells_of bs)
text_held program bs w = text_of_outputs program (store_held bs) ∙ lines_same 0 (arrays_of program.params) (store_held bs) (cells_of bs) (λ j. held_from 0 j bs w)

-- ---- Written from cell to cell

pub held_append : (cs ds : List (Option ℕ)) → values_held (cs ++ ds) ≡ values_held cs ++ values_held ds
held_append [] ds = refl
held_append (Some v ∷ cs) ds = ap (λ l. v ∷ l) (held_append cs ds)
held_append (None ∷ cs) ds = held_append cs ds

pub spaced_append : (xs ys behind : List ℕ) → spaced (xs ++ ys) behind ≡ spaced xs (spaced ys behind)
spaced_append [] ys behind = refl
spaced_append (x ∷ xs) ys behind = ap (λ l. 32 ∷ (decimal x ++ l)) (spaced_append xs ys behind)

pub spaced_behind : (xs behind : List ℕ) → spaced xs [] ++ behind ≡ spaced xs behind
spaced_behind [] behind = refl
spaced_behind (x ∷ xs) behind = ap (λ l. 32 ∷ l) (append_assoc (decimal x) (spaced xs []) behind ∙ ap (λ l. decimal x ++ l) (spaced_behind xs behind))

-- one cell more
pub cells_further : (start before after : List ℕ) (cells : List (Option ℕ)) (i : ℕ) → i < length cells → before ≡ start ++ spaced (values_held (take i cells)) [] → after ≡ before ++ spaced (values_held (get_or cells i None ∷ [])) []
    → after ≡ start ++ spaced (values_held (take (i + 1) cells)) []
cells_further start before after cells i lt e f =
    f ∙ ap (λ l. l ++ spaced (values_held (get_or cells i None ∷ [])) []) e
    ∙ append_assoc start (spaced (values_held (take i cells)) []) (spaced (values_held (get_or cells i None ∷ [])) [])
    ∙ ap (λ l. start ++ l) (spaced_behind (values_held (take i cells)) (spaced (values_held (get_or cells i None ∷ [])) []) ∙ sym (spaced_append (values_held (take i cells)) (values_held (get_or cells i None ∷ [])) [])
    ∙ ap (λ l. spaced l []) (sym (held_append (take i cells) (get_or cells i None ∷ [])) ∙ ap values_held (sym (take_more cells i None lt))))

-- a whole line
pub line_written : (o0 o1 o2 o3 o4 name bytes values : List ℕ) → o1 ≡ o0 ++ codes "array " → bytes ≡ name → o2 ≡ o1 ++ bytes → o3 ≡ o2 ++ spaced values [] → o4 ≡ o3 ++ 10 ∷ [] → o4 ≡ o0 ++ array_line name values (10 ∷ [])
line_written o0 o1 o2 o3 o4 name bytes values e n f g h =
    h ∙ ap (λ l. l ++ 10 ∷ []) (g ∙ ap (λ l. l ++ spaced values []) (f ∙ (λ i. e i ++ n i)))
    ∙ append_assoc ((o0 ++ codes "array ") ++ name) (spaced values []) (10 ∷ []) ∙ ap (λ l. ((o0 ++ codes "array ") ++ name) ++ l) (spaced_behind values (10 ∷ []))
    ∙ append_assoc (o0 ++ codes "array ") name (spaced values (10 ∷ [])) ∙ append_assoc o0 (codes "array ") (name ++ spaced values (10 ∷ []))

pub written_output : (params : List Param) (others : List Param) (d : Decl) (css rest : List (List (Option ℕ))) (o0 o1 o2 : List ℕ) (cells : List (Option ℕ)) → params ≡ Array d ∷ others → cells ≡ get_or css 0 [] → rest ≡ drop 1 css
    → o1 ≡ o0 ++ line_held d cells → o2 ≡ o1 ++ lines_held (arrays_of others) rest → o2 ≡ o0 ++ lines_held (arrays_of params) css
written_output params others d css rest o0 o1 o2 cells e c r f g =
    g ∙ ap (λ l. l ++ lines_held (arrays_of others) rest) f ∙ append_assoc o0 (line_held d cells) (lines_held (arrays_of others) rest)
    ∙ (λ i. o0 ++ (line_held d (c i) ++ lines_held (arrays_of others) (r i))) ∙ ap (λ ps. o0 ++ lines_held (arrays_of ps) css) (sym e)

pub outputs_written : (program : Program) (params : List Param) (bs : List Buffer) (held : Held) (o0 o1 : List ℕ) → params ≡ program.params → AreWhole bs → held ≡ held_in bs → o0 ≡ [] → o1 ≡ o0 ++ lines_held (arrays_of params) (cells_of bs) → o1 ≡ output_text program (outputs program held.store)
outputs_written program params bs held o0 o1 p w h e f =
    f ∙ (λ i. e i ++ lines_held (arrays_of (p i)) (cells_of bs)) ∙ sym (text_held program bs w) ∙ ap (λ (x : Held). output_text program (outputs program x.store)) (sym h)
