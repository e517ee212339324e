-- The trees that are found may be asked for the source at each instance of the context.
use Rattle.std.proofs.Common.{◌≡◌, ℕ, ◌+◌, ◌^◌, ◌≤◌, ℤ, pos, ◌≤ℤ◌, List, [], ◌∷◌, ◌++◌, length, Option, Some, None, refl, sym, subst, ◌∙◌, arith}
use Rattle.std.specs.Prelude.{unsigned_abs, IfSome}
use Rattle.std.specs.List.{All}
use Rattle.std.proofs.lemmas.Int.{ints}
use Rattle.std.proofs.lemmas.Option.{same_Some}
use Rattle.std.proofs.lemmas.List.Elements.{All-nil, All-cons, All-head, All-tail, All-weaker}
use Rattle.affc_rows.specs.Forms.{Affine}
use Rattle.affc_system.specs.Boxes.{InBox}
use Rattle.affc_ast.specs.declared.tree.Instance.{Instance}
use Rattle.affc_ast.specs.declared.tree.Program.{Program}
use Rattle.affc_ast.specs.Store.{Element}
use Rattle.affc_ast.specs.Trace.{trace}
use Rattle.affc_trace.specs.Dataflow.{IsSource}
use Rattle.affc_trace.specs.Law.{IsIn}
use Rattle.affc_trace.specs.Laws.{IsInContext}
use Rattle.affc_trace.proofs.Legality.{earlier_is_in}
use Rattle.affc_trace.proofs.Runs.{length_append}
use Rattle.affc_trace.proofs.Sources.{source_in_its_own_words}
use Rattle.affc_nest.specs.Asked.{IsNest}
use Rattle.affc_nest.specs.Laws.{HasNest, element_at}
use Rattle.affc_nest.specs.Nests.{nest_of}
use Rattle.affc_nest.proofs.EntryLemmas.{ranges_hold_iterators}
use Rattle.affc_nest.proofs.QuestionProofs.{nest_few, few_numbered}
use Rattle.affc_sched.proofs.LegalLemmas.{stood}
use Rattle.affc_quast.specs.Limits.{FitsForm, FitsTree, Shaped, narrow, widest}
use Rattle.affc_quast.specs.Paths.{IsNear}
use Rattle.affc_quast.specs.Trees.{Tree, Test, Div, Source, Input, depth_of, named_at}
use Rattle.affc_dataflow.specs.Finds.{FoundMayBeAsked}
use Rattle.affc_dataflow.specs.Searches.{IsSlightRange}
use Rattle.affc_latest.specs.Stores.{IsNamedNest}
use Rattle.affc_latest.proofs.BesideLemmas.{is_nest}
use Rattle.affc_dataflow.proofs.FindLemmas.{box_slight}
use Rattle.affc_flow.proofs.FlowLemmas as flow
use Rattle.affc_latest.proofs.LastLemmas.{near_inside}

-- ---- Numbers

nearer : (xs : List ℤ) → All (λ x. unsigned_abs x ≤ 2 ^ 40) xs → All IsNear xs
nearer xs h = All-weaker (λ x. unsigned_abs x ≤ 2 ^ 40) IsNear (λ x l. wider (unsigned_abs x) l) xs h
  where
    wider : (n : ℕ) → n ≤ 2 ^ 40 → n ≤ 2 ^ 60
    wider n h = omega (arith, h)

slight_inside : (rs : List (ℤ × ℤ)) (xs : List ℤ) → All IsSlightRange rs → InBox rs xs → All (λ x. unsigned_abs x ≤ 2 ^ 40) xs
slight_inside [] [] h b = All-nil (λ x. unsigned_abs x ≤ 2 ^ 40)
slight_inside [] (x ∷ xs) h b = absurd b
slight_inside (r ∷ rs) [] h b = absurd b
slight_inside (r ∷ rs) (x ∷ xs) h b =
    let a = All-head IsSlightRange r rs h in
    All-cons (λ x. unsigned_abs x ≤ 2 ^ 40) x xs (between r.0 r.1 x a.0 a.1 b.0 b.1) (slight_inside rs xs (All-tail IsSlightRange r rs h) b.2)
  where
    between : (l u x : ℤ) → unsigned_abs l ≤ 2 ^ 40 → unsigned_abs u ≤ 2 ^ 40 → l ≤ℤ x → x ≤ℤ u → unsigned_abs x ≤ 2 ^ 40
    between l u x a b c d = grind (arith, ints)

-- ---- Limits

wider_form : (f : Affine) → FitsForm narrow f → FitsForm widest f
wider_form f h = record { coefs_fit = All-weaker (λ c. unsigned_abs c ≤ 2 ^ 20) (λ c. unsigned_abs c ≤ 2 ^ 24) (λ c l. coef (unsigned_abs c) l) f.coefs h.coefs_fit; constant_fits = constant (unsigned_abs f.constant) h.constant_fits }
  where
    coef : (n : ℕ) → n ≤ 2 ^ 20 → n ≤ 2 ^ 24
    coef n h = omega (arith, h)

    constant : (n : ℕ) → n ≤ 2 ^ 40 → n ≤ 2 ^ 50
    constant n h = omega (arith, h)

wider_tree : (tree : Tree) → FitsTree narrow tree → FitsTree widest tree
wider_tree (Test f on off) h = (wider_form f h.0, wider_tree on h.1, wider_tree off h.2)
wider_tree (Div f by rest) h = (wider_form f h.0, less by h.1, wider_tree rest h.2)
  where
    less : (z : ℤ) → z ≤ℤ pos (2 ^ 20) → z ≤ℤ pos (2 ^ 24)
    less z h = omega (arith, ints, h)
wider_tree (Source s forms) h = All-weaker (FitsForm narrow) (FitsForm widest) wider_form forms h
wider_tree Input h = tt

-- ---- Instances

module _ (program : Program) (p : List ℤ) (has : HasNest program) (inside : IsInContext program p) where
  iterators_near : (b : Instance) → IsIn b (trace program p) → All IsNear b.iterators
  iterators_near b runs =
      let r = stood program has p b inside runs in
      let own : Instance = record { statement = r.0.part; iterators = b.iterators } in
      let there : IsIn own (trace program p) = subst (λ i. IsIn i (trace program p)) (λ i. record { statement = sym r.1 i; iterators = b.iterators }) runs in
      let ranges = ranges_hold_iterators program r.0.part r.0 has r.2.at r.2.alive in
      nearer b.iterators (near_inside r.0.ranges b.iterators (λ q j. (ranges.near q j).1) (ranges.hold p own refl inside there))

  source_near : (b : Instance) (x : Element) (source : Option Instance) → IsSource program p b x source → IfSome source (λ w. All IsNear w.iterators)
  source_near b x None s = tt
  source_near b x (Some w) s = iterators_near w (earlier_is_in (trace program p) w b (((source_in_its_own_words program p b x).0 w).0 s).earlier)

pub found_may_be_asked : FoundMayBeAsked
found_may_be_asked program p trees has named inside names within s k e tree b at less there number runs =
    let a = flow.load_access e k less in
    let t = within.each s k e a.0 at less a.1 in
    let same : t.0 ≡ tree = same_Some t.0 tree (sym t.1 ∙ there) in
    let all = names program p refl has named inside in
    let source = all.sources s k e at less in
    let nested : IsNamedNest (nest_of program) = record { program = program; has = has; is = refl; named = named } in
    let nest : IsNest (nest_of program) = is_nest (nest_of program) nested in
    let among : IsIn e (nest_of program).entries = flow.among program p trees has named inside s k e at less a.0 a.1 b number runs in
    let width = flow.width program p trees has named inside s k e at less a.0 a.1 b number runs in
    let few_params = nest_few (nest_of program) nest in
    let few_loops = few_numbered (nest_of program) e nest among in
    let long : length (p ++ b.iterators) ≡ length (nest_of program).params + length e.loops = length_append p b.iterators ∙ sym width in
    record {
      shaped = subst (λ n. Shaped n tree) (sym long) (subst (Shaped (length (nest_of program).params + length e.loops)) same t.2.shaped);
      limits = wider_tree tree (subst (FitsTree narrow) same t.2.fits);
      short = shorter (depth_of tree) (subst (λ t. depth_of t ≤ 302) same t.2.short);
      few = fewer (length (p ++ b.iterators)) (length (nest_of program).params) (length e.loops) long few_params few_loops;
      near = nearer (p ++ b.iterators)
          (slight_inside ((nest_of program).params ++ e.ranges) (p ++ b.iterators)
          (box_slight (nest_of program) nested e among (flow.alive program p trees has named inside s k e at less a.0 a.1 b number runs) few_params few_loops ((nest_of program).params ++ e.ranges) refl)
          (flow.its_box program p trees has named inside s k e at less a.0 a.1 b number runs));
      quotients = all.near s k e tree at less there b number runs;
      iterators = source_near program p has inside b (element_at (p ++ b.iterators) a.0) (named_at tree (p ++ b.iterators))
          (subst (λ t. IsSource program p b (element_at (p ++ b.iterators) a.0) (named_at t (p ++ b.iterators))) (same_Some source.0 tree (sym source.1 ∙ there))
          (source.2 b (element_at (p ++ b.iterators) a.0) number runs (flow.loads_it program p trees has named inside s k e at less a.0 a.1 b number runs)));
    }
  where
    shorter : (n : ℕ) → n ≤ 302 → n ≤ 400
    shorter n h = omega (arith, h)

    fewer : (n k m : ℕ) → n ≡ k + m → k ≤ 4 → m ≤ 6 → n ≤ 128
    fewer n k m e h g = omega (arith, e, h, g)
