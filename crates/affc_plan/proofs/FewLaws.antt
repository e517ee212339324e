-- The outline of a plain program is small.
use Rattle.std.proofs.Common.{◌≡◌, ℕ, zero, suc, ◌+◌, ◌≤◌, false, true, Bool, IsTrue, List, [], ◌∷◌, ◌++◌, length, map, slice_get, Option, Some, refl, ap, arith, length-append}
use Rattle.std.specs.Prelude.{◌&&◌, nat_le}
use Rattle.std.proofs.lemmas.Bool.{and_parts, leb-true}
use Rattle.std.proofs.lemmas.List.{length-map}
use Rattle.affc_ast.specs.declared.tree.Decl.{Decl}
use Rattle.affc_ast.specs.declared.tree.Param.{Param}
use Rattle.affc_ast.specs.declared.tree.Param.TheVariants.{Number, Array}
use Rattle.affc_ast.specs.declared.tree.Program.{Program}
use Rattle.affc_ast.specs.Counted.{IsCounted}
use Rattle.affc_ast.specs.Meaning.{arrays_of}
use Rattle.affc_domain.specs.Plain.{IsPlain, plain_decls, all_plain}
use Rattle.affc_domain.specs.Ranges.{number_ranges}
use Rattle.affc_domain.specs.Rounds.{Round, Loop, Test, rounds, loops_in}
use Rattle.affc_domain.proofs.PlainLemmas.{rounds_of_each, rounds_are_plain, few_loops}
use Rattle.affc_grammar.specs.Grammar.{Name}
use Rattle.affc_schedtext.specs.declared.outline.ArrayOutline.{ArrayOutline}
use Rattle.affc_schedtext.specs.Outline.{outline, number_names, iterators_in, array_outline}
use Rattle.affc_plan.specs.Lines.{IsFew}

names_are : (ps : List Param) → length (number_names ps) ≡ length (number_ranges ps)
names_are [] = refl
names_are (Number name low high ∷ ps) = ap suc (names_are ps)
names_are (Array decl ∷ ps) = names_are ps

loops_are : (rs : List Round) → length (iterators_in rs) ≡ loops_in rs
loops_are [] = refl
loops_are (Loop iter low rel high ∷ rs) = ap suc (loops_are rs)
loops_are (Test cond ∷ rs) = loops_are rs

unmapped : {A B : Type 0} (f : A → B) (xs : List A) (k : ℕ) (y : B) → slice_get (map f xs) k ≡ Some y → (x : A) × (slice_get xs k ≡ Some x) × (f x ≡ y)
unmapped f [] k y e = absurd (cc)
unmapped {A} {B} f (x ∷ xs) zero y e = (x, refl, let both : ◌≡◌ {A = Option B} (Some (f x)) (Some y) = e in cc)
unmapped f (x ∷ xs) (suc k) y e = unmapped f xs k y e

few_extents : (names : ℕ) (ds : List Decl) (k : ℕ) (d : Decl) → IsTrue (plain_decls names ds) → slice_get ds k ≡ Some d → length d.extents ≤ 4
few_extents names [] k d h e = absurd (cc)
few_extents names (x ∷ ds) zero d h e =
    let same : x ≡ d = let both : ◌≡◌ {A = Option Decl} (Some x) (Some d) = e in cc in
    let few : length x.extents ≤ 4 = leb-true (length x.extents) 4 (and_parts (nat_le (length x.extents) 4) (all_plain names x.extents && plain_decls names ds) h).0 in
    let extents = ap (λ (y : Decl). length y.extents) same in
    omega arith
few_extents names (x ∷ ds) (suc k) d h e =
    few_extents names ds k d (and_parts (all_plain names x.extents) (plain_decls names ds) (and_parts (nat_le (length x.extents) 4) (all_plain names x.extents && plain_decls names ds) h).1).1 e

few_dimensions : (names : ℕ) (t : Bool) (ds : List Decl) (k : ℕ) (a : ArrayOutline) → IsTrue (plain_decls names ds) → slice_get (map (array_outline t) ds) k ≡ Some a → a.dimensions ≤ 4
few_dimensions names t ds k a h e =
    let u = unmapped (array_outline t) ds k a e in
    let few = few_extents names ds k u.0 h u.1 in
    let same = ap (λ (x : ArrayOutline). x.dimensions) u.2 in
    omega arith

in_either : (names : ℕ) (ds ts : List Decl) (k : ℕ) (a : ArrayOutline) → IsTrue (plain_decls names ds) → IsTrue (plain_decls names ts) → slice_get (map (array_outline false) ds ++ map (array_outline true) ts) k ≡ Some a → a.dimensions ≤ 4
in_either names [] ts k a p q e = few_dimensions names true ts k a q e
in_either names (d ∷ ds) ts zero a p q e = few_dimensions names false (d ∷ ds) 0 a p e
in_either names (d ∷ ds) ts (suc k) a p q e =
    in_either names ds ts k a (and_parts (all_plain names d.extents) (plain_decls names ds) (and_parts (nat_le (length d.extents) 4) (all_plain names d.extents && plain_decls names ds) p).1).1 q e

few_iterators : (program : Program) → IsPlain program → (s : ℕ) (is : List Name) → slice_get (map iterators_in (rounds program)) s ≡ Some is → length is ≤ 6
few_iterators program p s is e =
    let u = unmapped iterators_in (rounds program) s is e in
    let few : 0 + loops_in u.0 ≤ 6 = few_loops (length (number_ranges program.params)) 0 0 u.0 (omega arith) (rounds_are_plain program p s u.0 u.1) in
    let loops = loops_are u.0 in
    let same = ap (λ (l : List Name). length l) u.2 in
    omega arith

pub plain_is_few : (program : Program) → IsPlain program → IsCounted program → IsFew (outline program)
plain_is_few program p c = record {
  parameters = let e = names_are program.params in let few = p.few_numbers in omega arith;
  iterators = few_iterators program p;
  dimensions = λ x a e. in_either (length (number_ranges program.params)) (arrays_of program.params) program.temps x a p.arrays p.temps e;
  statements = let e = rounds_of_each program in let m = length-map (rounds program) iterators_in in let few = p.few_assignments in omega arith;
  arrays =
      let a = length-append (map (array_outline false) (arrays_of program.params)) (map (array_outline true) program.temps) in
      let m = length-map (arrays_of program.params) (array_outline false) in
      let t = length-map program.temps (array_outline true) in
      let few = c.arrays in
      omega arith;
}
