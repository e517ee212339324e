-- In the program that a text without the prelude reads as, the temporaries and no other arrays are declared as such.
use Rattle.std.proofs.Common.{◌≡◌, ℕ, zero, suc, ◌≤◌, Bool, true, false, true≢false, not, ◌&&◌, IsTrue, List, [], ◌∷◌, ◌++◌, length, map, Some, refl, sym, ap, subst, ◌∙◌, inl, inr, arith}
use Rattle.std.specs.Prelude.{slice_get, option_map}
use Rattle.std.proofs.lemmas.Bool.{and_parts}
use Rattle.std.proofs.lemmas.Option.{slice_get-map}
use Rattle.affc_ast.specs.declared.tree.Decl.{Decl}
use Rattle.affc_ast.specs.declared.tree.Param.{Param}
use Rattle.affc_ast.specs.declared.tree.Param.TheVariants.{Number, Array}
use Rattle.affc_ast.specs.declared.tree.Program.{Program}
use Rattle.affc_ast.specs.declared.tree.Role.{Role}
use Rattle.affc_ast.specs.declared.tree.Role.TheVariants.{Input, Output, Temp}
use Rattle.affc_ast.specs.Meaning.{arrays_of}
use Rattle.affc_grammar.specs.Grammar.{Name}
use Rattle.affc_grammar.specs.Reads.{Reads}
use Rattle.affc_trace.specs.Law.{IsIn}
use Rattle.affc_domain.specs.Arrays.{declared_arrays}
use Rattle.affc_domain.specs.Ranges.{number_ranges}
use Rattle.affc_domain.proofs.Lists.{stands_in}
use Rattle.affc_plain.specs.Laws.{IsBare}
use Rattle.affc_nest.specs.declared.nest.ArrayInfo.{ArrayInfo}
use Rattle.affc_nest.specs.Nests.{array_of, nest_of}
use Rattle.affc_flow.specs.Questions.{is_temp, is_temporary_info, is_temporary}
use Rattle.affc_wellnamed.specs.Known.{is_new, is_function, extents_known, ixs_known, known_behind, array_param_known, param_known, params_known, temp_known, temps_known, context_known, body_known, program_known}
use Rattle.affc_wellnamed.specs.Known as known
use Rattle.affc_wellnamed.proofs.Decides.{well_named_is_kept}
use Rattle.affc_loopprint.proofs.reprint.Reprinted.{reads_well_named}

-- temporaries, and no array parameters, are declared as such
pub record HasRoles (program : Program) : Type 0 where
  pub given : (d : Decl) → IsIn d (arrays_of program.params) → is_temp d.role ≡ false
  pub own : (d : Decl) → IsIn d program.temps → is_temp d.role ≡ true

-- ---- What a text gives

off_then : (r : Role) → not (known.is_temp r) ≡ true → is_temp r ≡ false
off_then Input h = refl
off_then Output h = refl
off_then Temp h = absurd (true≢false (sym h))

on_then : (r : Role) → known.is_temp r ≡ true → is_temp r ≡ true
on_then Input h = absurd (true≢false (sym h))
on_then Output h = absurd (true≢false (sym h))
on_then Temp h = refl

given_roles : (prelude : Bool) (f : Name) (before qs : List Param) → params_known prelude f before qs ≡ true → (d : Decl) → IsIn d (arrays_of qs) → is_temp d.role ≡ false
given_roles prelude f before [] h d i = absurd i
given_roles prelude f before (Number w low high ∷ qs) h d i =
    let p = and_parts (param_known (known_behind prelude f before []) (Number w low high)) (params_known prelude f (before ++ Number w low high ∷ []) qs) h in
    given_roles prelude f (before ++ Number w low high ∷ []) qs p.1 d i
given_roles prelude f before (Array a ∷ qs) h d (inl same) =
    let around = known_behind prelude f before [] in
    let p = and_parts (array_param_known around a) (params_known prelude f (before ++ Array a ∷ []) qs) h in
    let q = and_parts (is_new around false a.name) (not (known.is_temp a.role) && extents_known around a.extents) p.0 in
    let r = and_parts (not (known.is_temp a.role)) (extents_known around a.extents) q.1 in
    subst (λ (x : Decl). is_temp x.role ≡ false) (sym same) (off_then a.role r.0)
given_roles prelude f before (Array a ∷ qs) h d (inr i) =
    let p = and_parts (array_param_known (known_behind prelude f before []) a) (params_known prelude f (before ++ Array a ∷ []) qs) h in
    given_roles prelude f (before ++ Array a ∷ []) qs p.1 d i

own_roles : (prelude : Bool) (f : Name) (qs : List Param) (before ds : List Decl) → temps_known prelude f qs before ds ≡ true → (d : Decl) → IsIn d ds → is_temp d.role ≡ true
own_roles prelude f qs before [] h d i = absurd i
own_roles prelude f qs before (a ∷ ds) h d (inl same) =
    let around = known_behind prelude f qs before in
    let p = and_parts (temp_known around a) (temps_known prelude f qs (before ++ a ∷ []) ds) h in
    let q = and_parts (is_new around false a.name) (known.is_temp a.role && ixs_known around a.extents) p.0 in
    let r = and_parts (known.is_temp a.role) (ixs_known around a.extents) q.1 in
    subst (λ (x : Decl). is_temp x.role ≡ true) (sym same) (on_then a.role r.0)
own_roles prelude f qs before (a ∷ ds) h d (inr i) =
    let p = and_parts (temp_known (known_behind prelude f qs before) a) (temps_known prelude f qs (before ++ a ∷ []) ds) h in
    own_roles prelude f qs (before ++ a ∷ []) ds p.1 d i

pub reads_roles : (text : List ℕ) (program : Program) → Reads text program → IsBare program → HasRoles program
reads_roles text program reads bare =
    let k = (and_parts (program_known program) _ (well_named_is_kept program (reads_well_named text program reads bare.prelude))).0 in
    let a = and_parts (is_function program.name) _ k in
    let b = and_parts _ _ a.1 in
    let c = and_parts (params_known program.prelude program.name [] program.params) _ b.1 in
    let e = and_parts (context_known program) _ c.1 in
    let t = and_parts (temps_known program.prelude program.name program.params [] program.temps) (body_known program) e.1 in
    record {
      given = given_roles program.prelude program.name [] program.params c.0;
      own = own_roles program.prelude program.name program.params [] program.temps t.0;
    }

-- ---- What the nest says of it

far_in : (f : Decl → ArrayInfo) → ((d : Decl) → (f d).role ≡ d.role) → (ds es : List Decl) (n : ℕ) → ((d : Decl) → IsIn d ds → is_temp d.role ≡ false)
    → IsTrue (is_temporary_info (slice_get (map f (ds ++ es)) n)) → length ds ≤ n
far_in f same [] es n off h = omega arith
far_in f same (d ∷ ds) es zero off h = absurd (true≢false (sym h ∙ ap is_temp (same d) ∙ off d (inl refl)))
far_in f same (d ∷ ds) es (suc n) off h = let l = far_in f same ds es n (λ e i. off e (inr i)) h in omega (arith, l)

-- a temporary stands behind the array parameters
pub temporary_far : (program : Program) → HasRoles program → (array : ℕ) → IsTrue (is_temporary (nest_of program) array) → length (arrays_of program.params) ≤ array
temporary_far program roles array h =
    far_in (array_of (length (number_ranges program.params))) (λ d. refl) (arrays_of program.params) program.temps array roles.given h

behind_in : (ds es : List Decl) (n : ℕ) (d : Decl) → length ds ≤ n → slice_get (ds ++ es) n ≡ Some d → IsIn d es
behind_in [] es n d l at = stands_in es n d at
behind_in (x ∷ ds) es zero d l at = absurd (omega (arith, l))
behind_in (x ∷ ds) es (suc n) d l at = behind_in ds es n d (omega (arith, l)) at

-- and what stands there is one
pub far_temporary : (program : Program) → HasRoles program → (array : ℕ) (d : Decl) → slice_get (declared_arrays program) array ≡ Some d → length (arrays_of program.params) ≤ array
    → IsTrue (is_temporary (nest_of program) array)
far_temporary program roles array d at far =
    let f : Decl → ArrayInfo = array_of (length (number_ranges program.params)) in
    let there : slice_get (map f (declared_arrays program)) array ≡ Some (f d) = slice_get-map f (declared_arrays program) array ∙ ap (option_map f) at in
    ap is_temporary_info there ∙ roles.own d (behind_in (arrays_of program.params) program.temps array d far at)
