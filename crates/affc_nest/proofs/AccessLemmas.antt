-- The accesses, the context and the extents of a nest.
use Rattle.std.proofs.Common.{◌≡◌, ℕ, ◌+◌, ℤ, IsTrue, List, [], ◌∷◌, ◌++◌, length, map, Option, Some, None, refl, sym, ap, subst, ◌∙◌}
use Rattle.std.specs.Prelude.{◌&&◌, nat_le}
use Rattle.affc_rows.specs.Forms.{value, values_of}
use Rattle.affc_ast.specs.declared.tree.ArrayId.{ArrayId}
use Rattle.affc_ast.specs.declared.tree.Decl.{Decl}
use Rattle.affc_ast.specs.declared.tree.Ix.{Ix}
use Rattle.affc_ast.specs.declared.tree.Op.{Op}
use Rattle.affc_ast.specs.declared.tree.Val.{Val}
use Rattle.affc_ast.specs.declared.tree.Val.TheVariants as v
use Rattle.affc_ast.specs.declared.tree.Val.TheBlock.{more_of-Val, end_of-Val}
use Rattle.affc_ast.specs.Fits.{whole}
use Rattle.affc_ast.specs.Meaning.{arrays_of}
use Rattle.affc_ast.specs.Store.{Element}
use Rattle.affc_ast.specs.Trace.{Assignment, element, loads_of_value, own_load, loaded_by, stored_by}
use Rattle.affc_trace.proofs.LastStores.{append_nil, map_append}
use Rattle.affc_domain.specs.Accesses as said
use Rattle.affc_domain.specs.Accesses.{accesses_in, own_access, accesses_of}
use Rattle.affc_domain.specs.Affine.{form_of, is_affine}
use Rattle.affc_domain.specs.Arrays.{declared_arrays, extents_at}
use Rattle.affc_domain.specs.Plain.{is_plain, all_plain, plain_value, plain_decls, plain_assignment}
use Rattle.affc_domain.specs.Ranges.{number_ranges}
use Rattle.affc_domain.specs.Rounds.{loops_in}
use Rattle.affc_domain.proofs.FormLemmas.{value_of_form}
use Rattle.affc_domain.proofs.Lists.{both_true, true_both}
use Rattle.affc_domain.proofs.PlainLemmas.{is_plain_affine, assignments_are_plain}
use Rattle.affc_domain.proofs.RangeLemmas.{box_length, in_ranges}
use Rattle.affc_nest.specs.Domains.{test_rows}
use Rattle.affc_nest.specs.declared.nest.Entry.{Entry}
use Rattle.affc_nest.specs.Nests.{array_of, access_form}
use Rattle.affc_nest.specs.Touches.{AllPlain}
use Rattle.affc_nest.specs.Laws.{element_at, AccessesAreEvents, ContextIsTheContext, ExtentsAreExtents}
use Rattle.affc_nest.proofs.DomainLemmas.{Met, to_all, from_all, tests_hold}
use Rattle.affc_nest.proofs.EntryLemmas.{site_of, columns_are}
use Rattle.affc_nest.proofs.PointLemmas.{context_met, ranges_hold, context_meets}

-- ---- Forms of subscripts

pub whole_here : (n : ℕ) (names : List ℤ) (e : Ix) → length names ≡ n → IsTrue (is_affine e) → value (form_of n 0 e) names ≡ whole e names
whole_here n names e l a = ap (λ m. value (form_of m 0 e) names) (sym l) ∙ ap (value (form_of (length names) 0 e)) (sym (append_nil names)) ∙ value_of_form names [] e a

pub wholes_here : (n seen : ℕ) (names : List ℤ) (es : List Ix) → length names ≡ n → IsTrue (all_plain seen es) → values_of (map (form_of n 0) es) names ≡ map (λ e. whole e names) es
wholes_here n seen names [] l h = refl
wholes_here n seen names (e ∷ es) l h =
    let a = both_true (is_plain seen e) (all_plain seen es) h in
    ap (λ z. z ∷ values_of (map (form_of n 0) es) names) (whole_here n names e l (is_plain_affine seen e a.0)) ∙ ap (λ zs. whole e names ∷ zs) (wholes_here n seen names es l a.1)

-- ---- Accesses

all_append : (seen : ℕ) (xs ys : List said.Access) → AllPlain seen xs → AllPlain seen ys → AllPlain seen (xs ++ ys)
all_append seen [] ys a b = b
all_append seen (x ∷ xs) ys a b = (a.0, all_append seen xs ys a.1 b)

plain_loads : (e : Val) (seen : ℕ) → IsTrue (plain_value e seen) → AllPlain seen (accesses_in e)
plain_loads (v.Load array subs) seen h = (h, tt)
plain_loads (v.Const n) seen h = tt
plain_loads (v.Cast e) seen h = tt
plain_loads (v.Not' t (more_of-Val a end_of-Val)) seen h = plain_loads a seen h
plain_loads (v.Shift' left t (more_of-Val a end_of-Val) by) seen h = plain_loads a seen h
plain_loads (v.Bin' op t (more_of-Val a end_of-Val) u (more_of-Val b end_of-Val)) seen h =
    let g = both_true (plain_value a seen) (plain_value b seen) h in
    all_append seen (accesses_in a) (accesses_in b) (plain_loads a seen g.0) (plain_loads b seen g.1)

plain_all : (op : Option Op) (array : ArrayId) (subs : List Ix) (e : Val) (seen : ℕ) → IsTrue (all_plain seen subs) → IsTrue (plain_value e seen)
    → AllPlain seen (own_access op (array, subs) ++ (accesses_in e ++ (array, subs) ∷ []))
plain_all None array subs e seen h g = all_append seen (accesses_in e) ((array, subs) ∷ []) (plain_loads e seen g) (h, tt)
plain_all (Some op) array subs e seen h g = (h, all_append seen (accesses_in e) ((array, subs) ∷ []) (plain_loads e seen g) (h, tt))

pub plain_accesses : (seen : ℕ) (a : Assignment) → IsTrue (plain_assignment seen a) → AllPlain seen (accesses_of a)
plain_accesses seen a h =
    let f = both_true (nat_le (length (accesses_of a)) 16) (all_plain seen a.subs && plain_value a.value seen) h in
    let g = both_true (all_plain seen a.subs) (plain_value a.value seen) f.1 in
    plain_all a.op a.array a.subs a.value seen g.0 g.1

elements_of : (n seen : ℕ) (names : List ℤ) (xs : List said.Access) → length names ≡ n → AllPlain seen xs → map (element_at names) (map (access_form n) xs) ≡ map (λ x. element names x.0 x.1) xs
elements_of n seen names [] l h = refl
elements_of n seen names (x ∷ xs) l h =
    let first : Element = (x.0.0, map (λ e. whole e names) x.1) in
    ap (λ zs. let y : Element = (x.0.0, zs) in y ∷ map (element_at names) (map (access_form n) xs)) (wholes_here n seen names x.1 l h.0)
    ∙ ap (λ ys. first ∷ ys) (elements_of n seen names xs l h.1)

loads_are : (e : Val) (names : List ℤ) → map (λ x. element names x.0 x.1) (accesses_in e) ≡ loads_of_value e names
loads_are (v.Load array subs) names = refl
loads_are (v.Const n) names = refl
loads_are (v.Cast e) names = refl
loads_are (v.Not' t (more_of-Val a end_of-Val)) names = loads_are a names
loads_are (v.Shift' left t (more_of-Val a end_of-Val) by) names = loads_are a names
loads_are (v.Bin' op t (more_of-Val a end_of-Val) u (more_of-Val b end_of-Val)) names =
    map_append (λ (x : said.Access). element names x.0 x.1) (accesses_in a) (accesses_in b) ∙ ap (λ ys. ys ++ map (λ (x : said.Access). element names x.0 x.1) (accesses_in b)) (loads_are a names)
    ∙ ap (λ ys. loads_of_value a names ++ ys) (loads_are b names)

loads_and_store : (array : ArrayId) (subs : List Ix) (e : Val) (names : List ℤ)
    → map (λ (x : said.Access). element names x.0 x.1) (accesses_in e ++ (array, subs) ∷ []) ≡ loads_of_value e names ++ element names array subs ∷ []
loads_and_store array subs e names =
    map_append (λ (x : said.Access). element names x.0 x.1) (accesses_in e) ((array, subs) ∷ []) ∙ ap (λ ys. ys ++ element names array subs ∷ []) (loads_are e names)

all_are : (op : Option Op) (array : ArrayId) (subs : List Ix) (e : Val) (names : List ℤ)
    → map (λ (x : said.Access). element names x.0 x.1) (own_access op (array, subs) ++ (accesses_in e ++ (array, subs) ∷ []))
    ≡ (own_load op (element names array subs) ++ loads_of_value e names) ++ element names array subs ∷ []
all_are None array subs e names = loads_and_store array subs e names
all_are (Some op) array subs e names = ap (λ ys. element names array subs ∷ ys) (loads_and_store array subs e names)

pub accesses_are_events : AccessesAreEvents
accesses_are_events program p b e has h l =
    let s = site_of program b.statement e h in
    let names : List ℤ = p ++ b.iterators in
    let m = length (number_ranges program.params) in
    let n = m + loops_in s.its_rounds in
    let a : Assignment = s.assignment in
    let width : length names ≡ n = l ∙ columns_are program b.statement e s in
    let plain = (assignments_are_plain program has.plain b.statement s.its_rounds a s.rounds_at s.assignment_at).1 in
    ap (λ (x : Entry). map (element_at names) x.accesses) s.is
    ∙ elements_of n (m + (0 + loops_in s.its_rounds)) names (accesses_of a) width (plain_accesses (m + (0 + loops_in s.its_rounds)) a plain)
    ∙ all_are a.op a.array a.subs a.value names
    ∙ ap (λ o. loaded_by o names ++ stored_by o names ∷ []) (sym s.assignment_at)

-- ---- The context

pub context_is_the_context : ContextIsTheContext
context_is_the_context program p plain =
    let m = length (number_ranges program.params) in (
      λ inside.
          let box = in_ranges program.params p inside.ranges in
          let met : Met (p ++ []) (test_rows m 0 program.context) = (context_met program p [] plain inside).1 in
          (box, record { width = sym (box_length (number_ranges program.params) p box); meets = to_all p (test_rows m 0 program.context) (subst (λ q. Met q (test_rows m 0 program.context)) (append_nil p) met) }),
      λ point.
          let l : length (number_ranges program.params) ≡ length p = box_length (number_ranges program.params) p point.0 in
          let met : Met p (test_rows m 0 program.context) = from_all p (test_rows m 0 program.context) point.1.meets in
          let here : Met (p ++ []) (test_rows (length p) 0 program.context) = subst (λ q. Met q (test_rows (length p) 0 program.context)) (sym (append_nil p)) (subst (λ k. Met p (test_rows k 0 program.context)) l met) in
          record { ranges = ranges_hold program.params p point.0; context = context_meets m program.context p plain.context (tests_hold p [] m program.context plain.context here) },
    )

-- ---- Extents

some_plain : (seen : ℕ) (ds : List Decl) (p : List ℤ) → length p ≡ seen → IsTrue (plain_decls seen ds)
    → map (λ a. values_of a.extents p) (map (array_of seen) ds) ≡ extents_at ds p
some_plain seen [] p l h = refl
some_plain seen (d ∷ ds) p l h =
    let a = both_true (nat_le (length d.extents) 4) _ h in
    let b = both_true (all_plain seen d.extents) (plain_decls seen ds) a.1 in
    ap (λ zs. zs ∷ map (λ a. values_of a.extents p) (map (array_of seen) ds)) (wholes_here seen seen p d.extents l b.0)
    ∙ ap (λ zs. map (λ e. whole e p) d.extents ∷ zs) (some_plain seen ds p l b.1)

pub plain_append : (seen : ℕ) (ds es : List Decl) → IsTrue (plain_decls seen ds) → IsTrue (plain_decls seen es) → IsTrue (plain_decls seen (ds ++ es))
plain_append seen [] es h g = g
plain_append seen (d ∷ ds) es h g =
    let a = both_true (nat_le (length d.extents) 4) _ h in
    let b = both_true (all_plain seen d.extents) (plain_decls seen ds) a.1 in
    true_both (nat_le (length d.extents) 4) _ a.0 (true_both (all_plain seen d.extents) (plain_decls seen (ds ++ es)) b.0 (plain_append seen ds es b.1 g))

pub extents_are_extents : ExtentsAreExtents
extents_are_extents program p plain l =
    some_plain (length (number_ranges program.params)) (declared_arrays program) p l
    (plain_append (length (number_ranges program.params)) (arrays_of program.params) program.temps plain.arrays plain.temps)
