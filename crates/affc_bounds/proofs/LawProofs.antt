-- What a fault says of runs, and that there is at most one.
use Rattle.std.proofs.Common.{◌≡◌, ℕ, ℤ, pos, ◌≤ℤ◌, List, [], ◌∷◌, ◌++◌, length, Some, refl, sym, ap, ◌∙◌, inl, inr, arith}
use Rattle.std.specs.Prelude.{slice_get}
use Rattle.std.proofs.lemmas.Int.{ints}
use Rattle.std.proofs.lemmas.List.{same_from_push}
use Rattle.std.proofs.lemmas.Option.{none-some, same_Some, slice_get_within}
use Rattle.affc_ast.specs.declared.tree.ArrayId.{ArrayId}
use Rattle.affc_ast.specs.declared.tree.Instance.{Instance}
use Rattle.affc_ast.specs.declared.tree.Program.{Program}
use Rattle.affc_ast.specs.Store.{Element}
use Rattle.affc_ast.specs.Trace.{events, loads_of, store_of}
use Rattle.affc_trace.specs.Effects.{effect}
use Rattle.affc_trace.specs.Laws.{IsInContext}
use Rattle.affc_trace.specs.Orders.{Touches}
use Rattle.affc_trace.proofs.Once.{in_append}
use Rattle.affc_leaf.proofs.Orders.{lex_same}
use Rattle.affc_domain.specs.Plain.{IsPlain}
use Rattle.affc_domain.specs.Ranges.{number_ranges}
use Rattle.affc_domain.proofs.RangeLemmas.{box_length, in_ranges}
use Rattle.affc_domain.proofs.Lists.{stands_in}
use Rattle.affc_safe.specs.Safe.{IsSafe}
use Rattle.affc_safe.proofs.Accesses.{without_temporaries_safe}
use Rattle.affc_safe.proofs.EndedSafe.{unsafe_is_stuck}
use Rattle.affc_safe.proofs.FitsThere.{some_store_fits}
use Rattle.affc_safe.proofs.PlainNear.{plain_has_no_locals}
use Rattle.affc_safe.proofs.SafeLaws.{safe_runs}
use Rattle.affc_bounds.specs.Faults.{ExtentsStand, IsBoundsFault}
use Rattle.affc_bounds.specs.Laws.{IsStuckAt, NarrowIsStuck, OutsideIsStuck, StayingIsSafe, StayingEnds, FaultsDoNotStay, OneFault}
use Rattle.affc_bounds.specs.Spots.{IsNarrow, IsFirstNarrow, spot_of}
use Rattle.affc_bounds.specs.declared.fault.MeaningFault.{MeaningFault}
use Rattle.affc_bounds.specs.declared.fault.MeaningFault.TheVariants.{IteratorRange, Context, Extent, Bounds}

-- ---- Runs

never_both : (z : ℤ) → z ≤ℤ pos 0 → pos 1 ≤ℤ z → ⊥
never_both z h k = omega (arith, ints)

stuck_at : (program : Program) (p : List ℤ) → IsPlain program → IsInContext program p → ¬ (IsSafe program p) → IsStuckAt program p
stuck_at program p plain inside unsafe = record {
  some = some_store_fits program p inside;
  stuck = λ store fits. unsafe_is_stuck program p store (plain_has_no_locals program plain) fits unsafe;
}

not_narrow : (program : Program) (p : List ℤ) (array : ℕ) → IsNarrow program p array → ExtentsStand program → ⊥
not_narrow program p array n stand = never_both _ n.below (stand p n.context n.decl n.extent (stands_in _ array n.decl n.declared) n.is_extent)

pub narrow_is_stuck : NarrowIsStuck
narrow_is_stuck program p array plain n =
    stuck_at program p plain n.context (λ safe. never_both _ n.below (safe.extents n.decl n.extent (stands_in _ array n.decl n.declared) n.is_extent))

-- an access of an instance is touched by it
touched : (program : Program) (p : List ℤ) (here : Instance) (access : ℕ) (x : Element) → slice_get (events program p here) access ≡ Some x → Touches (effect program p) here x
touched program p here access x e = elim (in_append (loads_of program p here) (store_of program p here ∷ []) x (stands_in (events program p here) access x e)) [
  | inl i ↦ inl i
  | inr i ↦ inr (elim i [ inl same ↦ same | inr none ↦ absurd none ])
]

pub outside_is_stuck : OutsideIsStuck
outside_is_stuck program p here access plain o =
    stuck_at program p plain o.context (λ safe. o.outside (safe.within here o.element o.runs (touched program p here access o.element o.touched)))

pub staying_is_safe : StayingIsSafe
staying_is_safe program p stays named none inside =
    without_temporaries_safe program p none (λ a x i j. let d = named a x i j in slice_get_within _ x.0.0 d.0 d.1) (stays.extents p inside) (stays.accesses p inside)

pub staying_ends : StayingEnds
staying_ends program p store plain stays named none fits =
    safe_runs program p store plain stays.near fits (staying_is_safe program p stays named none (record { ranges = fits.ranges; context = fits.context }))

-- ---- At most one fault

pub faults_do_not_stay : FaultsDoNotStay
faults_do_not_stay program (IteratorRange statement loop) f stays = none-some (statement, loop) (sym stays.near ∙ f)
faults_do_not_stay program Context f stays = f.1 stays.some.0 stays.some.1
faults_do_not_stay program (Extent array p) f stays = not_narrow program p array.0 f.1.narrow stays.extents
faults_do_not_stay program (Bounds array access p here) f stays =
    let o = f.first.outside in
    o.outside (stays.accesses p o.context here o.element o.runs (touched program p here access o.element o.touched))

front_same : (p q xs ys : List ℤ) → length p ≡ length q → p ++ xs ≡ q ++ ys → (p ≡ q) × (xs ≡ ys)
front_same [] [] xs ys l e = (refl, e)
front_same [] (y ∷ q) xs ys l e = absurd (omega arith)
front_same (x ∷ p) [] xs ys l e = absurd (omega arith)
front_same (x ∷ p) (y ∷ q) xs ys l e =
    let f : x ≡ y = cc in
    let r : p ++ xs ≡ q ++ ys = cc in
    let s = front_same p q xs ys (omega (arith, l)) r in
    (ap (λ z. z ∷ p) f ∙ ap (λ zs. y ∷ zs) s.0, s.1)

as_long : (program : Program) (p q : List ℤ) → IsInContext program p → IsInContext program q → length p ≡ length q
as_long program p q h k =
    sym (box_length (number_ranges program.params) p (in_ranges program.params p h.ranges)) ∙ box_length (number_ranges program.params) q (in_ranges program.params q k.ranges)

same_extent : (program : Program) (a b : ArrayId) (p q : List ℤ) → IsFirstNarrow program p a.0 → IsFirstNarrow program q b.0 → ◌≡◌ {A = MeaningFault} (Extent a p) (Extent b q)
same_extent program a b p q f g =
    let e = same_from_push p q (pos a.0) (pos b.0) (lex_same (p ++ pos a.0 ∷ []) (q ++ pos b.0 ∷ []) (f.first q b.0 g.narrow) (g.first p a.0 f.narrow)) in
    let n : a.0 ≡ b.0 = number a.0 b.0 e.1 in
    ap (λ k. Extent (record { 0 = k }) p) n ∙ ap (Extent b) e.0
  where
    number : (m n : ℕ) → pos m ≡ pos n → m ≡ n
    number m n e = cc

same_bounds : (program : Program) (a b : ArrayId) (i j : ℕ) (p q : List ℤ) (here there : Instance) → IsBoundsFault program a.0 i p here → IsBoundsFault program b.0 j q there
    → ◌≡◌ {A = MeaningFault} (Bounds a i p here) (Bounds b j q there)
same_bounds program a b i j p q here there f g =
    let o = f.first.outside in
    let u = g.first.outside in
    let k : spot_of p here i ≡ spot_of q there j = lex_same (spot_of p here i) (spot_of q there j) (f.first.first q there j u) (g.first.first p here i o) in
    let e = same_from_push (p ++ pos here.statement ∷ here.iterators) (q ++ pos there.statement ∷ there.iterators) (pos i) (pos j) k in
    let d = front_same p q (pos here.statement ∷ here.iterators) (pos there.statement ∷ there.iterators) (as_long program p q o.context u.context) e.0 in
    let s : here.statement ≡ there.statement = statement here.statement there.statement here.iterators there.iterators d.1 in
    let t : here.iterators ≡ there.iterators = iterators here.statement there.statement here.iterators there.iterators d.1 in
    let r : here ≡ there = ap (λ (n : ℕ). let x : Instance = record { statement = n; iterators = here.iterators } in x) s ∙ ap (λ (xs : List ℤ). let x : Instance = record { statement = there.statement; iterators = xs } in x) t in
    let n : i ≡ j = number i j e.1 in
    let m : slice_get (events program q there) j ≡ Some o.element =
    ap (λ z. slice_get (events program z there) j) (sym d.0) ∙ ap (λ z. slice_get (events program p z) j) (sym r) ∙ ap (slice_get (events program p here)) (sym n) ∙ o.touched in
    let x : o.element ≡ u.element = same_Some o.element u.element (sym m ∙ u.touched) in
    let w : a.0 ≡ b.0 = f.of_array ∙ ap (λ (y : Element). y.0) x ∙ sym g.of_array in
    ap (λ z. Bounds (record { 0 = z }) i p here) w ∙ ap (λ z. Bounds b z p here) n ∙ ap (λ z. Bounds b j z here) d.0 ∙ ap (Bounds b j q) r
  where
    number : (m n : ℕ) → pos m ≡ pos n → m ≡ n
    number m n e = cc

    statement : (s t : ℕ) (xs ys : List ℤ) → pos s ∷ xs ≡ pos t ∷ ys → s ≡ t
    statement s t xs ys e = cc

    iterators : (s t : ℕ) (xs ys : List ℤ) → pos s ∷ xs ≡ pos t ∷ ys → xs ≡ ys
    iterators s t xs ys e = cc

pub one_fault : OneFault
one_fault program (IteratorRange s l) (IteratorRange t m) f g =
    let e : (s, l) ≡ (t, m) = same_Some (s, l) (t, m) (sym f ∙ g) in
    ap (λ k. IteratorRange k l) (ap (λ (x : ℕ × ℕ). x.0) e) ∙ ap (IteratorRange t) (ap (λ (x : ℕ × ℕ). x.1) e)
one_fault program (IteratorRange s l) Context f g = absurd (none-some (s, l) (sym g.0 ∙ f))
one_fault program (IteratorRange s l) (Extent b q) f g = absurd (none-some (s, l) (sym g.0 ∙ f))
one_fault program (IteratorRange s l) (Bounds b j q there) f g = absurd (none-some (s, l) (sym g.near ∙ f))
one_fault program Context (IteratorRange s l) f g = absurd (none-some (s, l) (sym f.0 ∙ g))
one_fault program Context Context f g = refl
one_fault program Context (Extent b q) f g = absurd (f.1 q g.1.narrow.context)
one_fault program Context (Bounds b j q there) f g = absurd (f.1 q g.first.outside.context)
one_fault program (Extent a p) (IteratorRange s l) f g = absurd (none-some (s, l) (sym f.0 ∙ g))
one_fault program (Extent a p) Context f g = absurd (g.1 p f.1.narrow.context)
one_fault program (Extent a p) (Extent b q) f g = same_extent program a b p q f.1 g.1
one_fault program (Extent a p) (Bounds b j q there) f g = absurd (not_narrow program p a.0 f.1.narrow g.extents)
one_fault program (Bounds a i p here) (IteratorRange s l) f g = absurd (none-some (s, l) (sym f.near ∙ g))
one_fault program (Bounds a i p here) Context f g = absurd (g.1 p f.first.outside.context)
one_fault program (Bounds a i p here) (Extent b q) f g = absurd (not_narrow program q b.0 g.1.narrow f.extents)
one_fault program (Bounds a i p here) (Bounds b j q there) f g = same_bounds program a b i j p q here there f g
