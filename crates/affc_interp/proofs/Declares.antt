-- Arrays declared one after another.
use Rattle.std.proofs.Common.{◌≡◌, ℕ, suc, ◌+◌, ℤ, List, [], ◌∷◌, ◌++◌, length, get_or, drop, Result, Ok, Err, sym, ap, subst, ◌∙◌, arith, append_assoc, length-append}
use Rattle.std.specs.Prelude.{sum_by}
use Rattle.affc_ast.specs.declared.tree.Decl.{Decl}
use Rattle.affc_ast.specs.Cause.{Cause, ◌>>=◌}
use Rattle.affc_ast.specs.Index.{nodes_of_ix}
use Rattle.affc_ast.specs.Meaning.{extents_of, all_extents}
use Rattle.affc_interp.specs.declared.fault.Halt.{Halt}
use Rattle.affc_interp.specs.declared.fault.Halt.TheVariants as halt
use Rattle.affc_interp.specs.Layout.{Held, given_to, start_of, subscripts_of}
use Rattle.affc_interp.specs.Arrays.{StopsAs, Declared, AllDeclared}

plus_one : (n : ℕ) → n + 1 ≡ suc n
plus_one n = omega arith

module _ (d : Decl) (ds : List Decl) (a node : ℕ) (names : List ℤ) where
  abbrev here_extents : Result (List ℤ) Cause
  here_extents = extents_of a d.extents node names

  abbrev later : Result (List (List ℤ)) Cause
  later = all_extents (a + 1) ds (node + sum_by nodes_of_ix d.extents) names

  first_stops : (h : Halt) → StopsAs h here_extents → StopsAs h (all_extents a (d ∷ ds) node names)
  first_stops (halt.Fault f) q = λ here. ap (λ r. r >>= (λ ns. later >>= (λ rest. Ok (ns ∷ rest)))) (q here)
  first_stops halt.Steps q = q
  first_stops halt.Memory q = tt

  later_stops : (h : Halt) (ns : List ℤ) → here_extents ≡ Ok ns → StopsAs h later → StopsAs h (all_extents a (d ∷ ds) node names)
  later_stops (halt.Fault f) ns e q = λ here. ap (λ r. r >>= (λ ns. later >>= (λ rest. Ok (ns ∷ rest)))) e ∙ ap (λ r. r >>= (λ rest. Ok (ns ∷ rest))) (q here)
  later_stops halt.Steps ns e q = q
  later_stops halt.Memory ns e q = tt

  both_read : (ns : List ℤ) (es : List (List ℤ)) → here_extents ≡ Ok ns → later ≡ Ok es → all_extents a (d ∷ ds) node names ≡ Ok (ns ∷ es)
  both_read ns es e k = ap (λ r. r >>= (λ ns. later >>= (λ rest. Ok (ns ∷ rest)))) e ∙ ap (λ r. r >>= (λ rest. Ok (ns ∷ rest))) k

  pub stopped_first : (h : Halt) (old new : Held) (vss : List (List ℕ)) → StopsAs h here_extents → AllDeclared (Err h) old new vss (all_extents a (d ∷ ds) node names)
  stopped_first h old new vss q = first_stops h q

  pub declared_both : (h : Result (Unit {0}) Halt) (old mid new : Held) (vss : List (List ℕ)) (m : ℕ) → m ≡ node + sum_by nodes_of_ix d.extents → Declared (Ok tt) old mid (get_or vss 0 []) here_extents
      → AllDeclared h mid new (drop 1 vss) (all_extents (a + 1) ds m names) → AllDeclared h old new vss (all_extents a (d ∷ ds) node names)
  declared_both (Ok u) old mid new vss m em one more =
      let ns : List ℤ = one.0 in
      let es : List (List ℤ) = more.0 in
      let long : length mid.extents ≡ suc (length old.extents) = ap length one.2 ∙ length-append old.extents (ns ∷ []) ∙ plus_one (length old.extents) in (
        ns ∷ es,
        both_read ns es one.1 (ap (λ n. all_extents (a + 1) ds n names) (sym em) ∙ more.1),
        more.2 ∙ ap (λ l. l ++ es) one.2 ∙ append_assoc old.extents (ns ∷ []) es,
        more.3 ∙ (λ i. one.3 i ++ start_of (long i) es (drop 1 vss)) ∙ append_assoc old.store (given_to (length old.extents) (subscripts_of ns) (get_or vss 0 [])) (start_of (suc (length old.extents)) es (drop 1 vss)),
      )
  declared_both (Err h) old mid new vss m em one more = later_stops h one.0 one.1 (subst (λ (n : ℕ). StopsAs h (all_extents (a + 1) ds n names)) em more)
