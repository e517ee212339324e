-- What is known of the nest of a program, as it is asked of the conditions of moduli.
use Rattle.std.proofs.Common.{◌≡◌, ℕ, zero, suc, ◌+◌, ◌^◌, ◌≤◌, ◌<◌, ℤ, IsTrue, List, [], ◌∷◌, length, Some, sym, ap, subst, ◌∙◌, inl, inr, arith}
use Rattle.std.specs.Prelude.{nat_le, nat_abs, int_le, ◌&&◌, slice_get}
use Rattle.std.specs.List.{All}
use Rattle.std.proofs.lemmas.Bool.{leb-true}
use Rattle.std.proofs.lemmas.Option.{none-some, same_Some, slice_get_within}
use Rattle.std.proofs.lemmas.List.{length-append}
use Rattle.std.proofs.lemmas.List.Elements.{All-nil, All-cons}
use Rattle.affc_system.specs.Pairs.{IsSubscript}
use Rattle.affc_ast.specs.declared.tree.Decl.{Decl}
use Rattle.affc_ast.specs.declared.tree.Program.{Program}
use Rattle.affc_ast.specs.Meaning.{arrays_of}
use Rattle.affc_trace.specs.Laws.{IsInContext}
use Rattle.affc_domain.specs.Affine.{form_of}
use Rattle.affc_domain.specs.Arrays.{declared_arrays}
use Rattle.affc_domain.specs.Plain.{IsPlain, all_plain, plain_range, plain_ranges, plain_decls}
use Rattle.affc_domain.specs.Ranges.{number_ranges}
use Rattle.affc_domain.proofs.Lists.{both_true, from_append, from_map, length_map}
use Rattle.affc_nest.specs.declared.nest.ArrayInfo.{ArrayInfo}
use Rattle.affc_nest.specs.Nests.{array_of, nest_of}
use Rattle.affc_nest.proofs.AccessLemmas.{context_is_the_context}
use Rattle.affc_conflicts.specs.Conditions.{InContext, IsNear}
use Rattle.affc_life.proofs.SubscriptLemmas.{subscript_in}

-- ---- Parameters

pub near_ranges : (rs : List (ℤ × ℤ)) → IsTrue (plain_ranges rs) → All IsNear rs
near_ranges [] h = All-nil IsNear
near_ranges (r ∷ rs) h =
    let a = both_true (plain_range r) (plain_ranges rs) h in
    let b = both_true (int_le r.0 r.1) (nat_le (nat_abs r.0) (2 ^ 24) && nat_le (nat_abs r.1) (2 ^ 24)) a.0 in
    let d = both_true (nat_le (nat_abs r.0) (2 ^ 24)) (nat_le (nat_abs r.1) (2 ^ 24)) b.1 in
    All-cons IsNear r rs (record { low = leb-true (nat_abs r.0) (2 ^ 24) d.0; high = leb-true (nat_abs r.1) (2 ^ 24) d.1 }) (near_ranges rs a.1)

pub to_context : (program : Program) → IsPlain program → (p : List ℤ) → IsInContext program p → InContext (nest_of program).context (nest_of program).params p
to_context program plain p inside = let q = (context_is_the_context program p plain).0 inside in record { meets = q.1; inside = q.0 }

pub from_context : (program : Program) → IsPlain program → (p : List ℤ) → InContext (nest_of program).context (nest_of program).params p → IsInContext program p
from_context program plain p h = (context_is_the_context program p plain).1 (h.inside, h.meets)

-- ---- Extents

-- at most four extents, each a form over the parameters
pub record HasForms (parameters : ℕ) (info : ArrayInfo) : Type 0 where
  pub few : length info.extents ≤ 4
  pub forms : All (IsSubscript parameters) info.extents

forms_of_decl : (n : ℕ) (ds : List Decl) (k : ℕ) (d : Decl) → IsTrue (plain_decls n ds) → slice_get ds k ≡ Some d → HasForms n (array_of n d)
forms_of_decl n [] k d h e = absurd (none-some d e)
forms_of_decl n (x ∷ ds) zero d h e =
    let a = both_true (nat_le (length x.extents) 4) (all_plain n x.extents && plain_decls n ds) h in
    let b = both_true (all_plain n x.extents) (plain_decls n ds) a.1 in
    subst (λ (y : Decl). HasForms n (array_of n y)) (same_Some x d e)
    (record { few = subst (λ m. m ≤ 4) (sym (length_map (form_of n 0) x.extents)) (leb-true (length x.extents) 4 a.0); forms = subscript_in n x.extents b.0 })
forms_of_decl n (x ∷ ds) (suc k) d h e =
    let a = both_true (nat_le (length x.extents) 4) (all_plain n x.extents && plain_decls n ds) h in
    let b = both_true (all_plain n x.extents) (plain_decls n ds) a.1 in
    forms_of_decl n ds k d b.1 e

pub has_forms : (program : Program) → IsPlain program → (array : ℕ) (info : ArrayInfo) → slice_get (nest_of program).arrays array ≡ Some info → HasForms (length (number_ranges program.params)) info
has_forms program plain array info at =
    let n = length (number_ranges program.params) in
    let d = from_map (array_of n) (declared_arrays program) array info at in
    subst (HasForms n) (sym d.2)
    (elim (from_append (arrays_of program.params) program.temps array d.0 d.1) [
      | inl e ↦ forms_of_decl n (arrays_of program.params) array d.0 plain.arrays e
      | inr f ↦ forms_of_decl n program.temps f.0 d.0 plain.temps f.2
    ])

-- ---- Temporaries

-- the declaration of a temporary, and its number among them
pub record IsTemporary (program : Program) (array : ℕ) (info : ArrayInfo) : Type 0 where
  pub number : ℕ
  pub decl : Decl
  pub stands : slice_get program.temps number ≡ Some decl
  pub behind : array ≡ length (arrays_of program.params) + number
  pub dimensions : length info.extents ≡ length decl.extents

pub is_temporary : (program : Program) (array : ℕ) (info : ArrayInfo) → slice_get (nest_of program).arrays array ≡ Some info → length (arrays_of program.params) ≤ array → IsTemporary program array info
is_temporary program array info at h =
    let n = length (number_ranges program.params) in
    let d = from_map (array_of n) (declared_arrays program) array info at in
    elim (from_append (arrays_of program.params) program.temps array d.0 d.1) [
      | inl e ↦ absurd (before array (length (arrays_of program.params)) h (slice_get_within (arrays_of program.params) array d.0 e))
      | inr f ↦ record { number = f.0; decl = d.0; stands = f.2; behind = f.1; dimensions = ap (λ (i : ArrayInfo). length i.extents) d.2 ∙ length_map (form_of n 0) d.0.extents }
    ]
  where
    before : (k n : ℕ) → n ≤ k → k < n → ⊥
    before k n h g = omega (arith, h, g)

-- ---- How many arrays there are

pub arrays_in : (program : Program) → length (nest_of program).arrays ≡ length (arrays_of program.params) + length program.temps
arrays_in program = length_map (array_of (length (number_ranges program.params))) (declared_arrays program) ∙ length-append (arrays_of program.params) program.temps
