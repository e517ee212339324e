-- What tests let through at the times that loops run through is the target of a schedule.
use Rattle.std.proofs.Common.{◌≡◌, ℕ, ℤ, Bool, true, false, true≢false, if◌then◌else◌, List, [], ◌∷◌, ◌++◌, length, flat_map, refl, sym, ap, subst, ◌∙◌, inl, inr}
use Rattle.std.specs.Ordering.{nat_cmp, int_cmp, ordering_then}
use Rattle.std.specs.Cmp.{int_cmp_total, tied_itself}
use Rattle.std.specs.Cmp.Lexicographic.{slice_cmp, lists_total}
use Rattle.affc_ast.specs.declared.tree.Instance.{Instance}
use Rattle.affc_ast.specs.declared.tree.Program.{Program}
use Rattle.affc_ast.specs.Trace.{trace}
use Rattle.affc_trace.specs.declared.schedule.TimeMap.{TimeMap}
use Rattle.affc_trace.specs.declared.schedule.Schedule.TheVariants.{Time}
use Rattle.affc_trace.specs.Law.{IsIn}
use Rattle.affc_trace.specs.Orders.{Earlier, AreDistinct}
use Rattle.affc_trace.specs.Target.{time_of, time_cmp, target, IsInOrder, IsScheduleOf, numbers_in}
use Rattle.affc_trace.proofs.Legality.{earlier_is_in, later_is_in}
use Rattle.affc_trace.proofs.Members.{to_first, to_second, to_flat_map}
use Rattle.affc_trace.proofs.Once.{in_append, in_flat_map, once}
use Rattle.affc_trace.proofs.Ordered.{time_cmp_total, target_is_in_order}
use Rattle.affc_trace.proofs.Earliers.{rises_flat_map, rising_are_distinct, Rises}

-- ---- what is let through

module _ {B : Type 0} (number : B → ℕ) (passes : B → (time : List ℤ) → Bool) (iterators : B → (time : List ℤ) → List ℤ) where
  abbrev pub instance_at : B → (time : List ℤ) → Instance
  instance_at e t = record { statement = number e; iterators = iterators e t }

  -- at one point, the instance of each block that lets one through
  abbrev pub let_through : List B → (time : List ℤ) → List Instance
  let_through [] t = []
  let_through (e ∷ es) t = (if passes e t then instance_at e t ∷ [] else []) ++ let_through es t

  -- at all these times, one after the other
  abbrev pub scanned : (times : List (List ℤ)) → List B → List Instance
  scanned times es = flat_map (let_through es) times

  -- the blocks let through exactly these instances, each at its time
  pub record Finds (times : List (List ℤ)) (es : List B) (trace : List Instance) (time : Instance → List ℤ) : Type 0 where
    pub sound : (e : B) (t : List ℤ) → IsIn e es → IsIn t times → passes e t ≡ true
        → IsIn (instance_at e t) trace × (time (instance_at e t) ≡ t)
    pub complete : (a : Instance) → IsIn a trace
        → (e : B) × IsIn e es × (number e ≡ a.statement) × IsIn (time a) times × (passes e (time a) ≡ true) × (iterators e (time a) ≡ a.iterators)

-- ---- it is the target

module _ {B : Type 0} (number : B → ℕ) (passes : B → List ℤ → Bool) (iterators : B → List ℤ → List ℤ) where
  abbrev at : B → List ℤ → Instance
  at = instance_at number passes iterators

  abbrev through : List B → List ℤ → List Instance
  through = let_through number passes iterators

  in_if : (b : Bool) (x a : Instance) → IsIn a (if b then x ∷ [] else []) → (b ≡ true) × (a ≡ x)
  in_if true x a (inl e) = (refl, e)
  in_if true x a (inr i) = absurd i
  in_if false x a i = absurd i

  to_if : (b : Bool) (x : Instance) → b ≡ true → IsIn x (if b then x ∷ [] else [])
  to_if true x e = inl refl
  to_if false x e = absurd (true≢false (sym e))

  pub from_through : (es : List B) (t : List ℤ) (a : Instance) → IsIn a (through es t)
      → (e : B) × IsIn e es × (passes e t ≡ true) × (a ≡ at e t)
  from_through [] t a i = absurd i
  from_through (e ∷ es) t a i = elim (in_append (if passes e t then at e t ∷ [] else []) (through es t) a i) [
    | inl j ↦ let h = in_if (passes e t) (at e t) a j in (e, inl refl, h.0, h.1)
    | inr j ↦ let h = from_through es t a j in (h.0, inr h.1, h.2, h.3)
  ]

  pub to_through : (es : List B) (t : List ℤ) (e : B) → IsIn e es → passes e t ≡ true → IsIn (at e t) (through es t)
  to_through [] t e i h = absurd i
  to_through (f ∷ es) t e (inl q) h =
      to_first (if passes f t then at f t ∷ [] else []) (through es t) (at e t)
      (subst (λ g. IsIn (at e t) (if passes g t then at g t ∷ [] else [])) q (to_if (passes e t) (at e t) h))
  to_through (f ∷ es) t e (inr i) h =
      to_second (if passes f t then at f t ∷ [] else []) (through es t) (at e t) (to_through es t e i h)

  -- blocks in the order of their statements' numbers
  abbrev pub Numbered : List B → Type 0
  Numbered es = Rises (λ (e f : B). nat_cmp (number e) (number f)) es

  split_one : (e : B) (es : List B) (t : List ℤ) (a b : Instance)
      → (Earlier (through es t) a b → (f : B) × (g : B) × Earlier es f g × (a ≡ at f t) × (b ≡ at g t))
      → (v : Bool) → Earlier ((if v then at e t ∷ [] else []) ++ through es t) a b → (f : B) × (g : B) × Earlier (e ∷ es) f g × (a ≡ at f t) × (b ≡ at g t)
  split_one e es t a b others true (inl f) = let h = from_through es t b f.1 in (e, h.0, inl (refl, h.1), f.0, h.3)
  split_one e es t a b others true (inr f) = let h = others f in (h.0, h.1, inr h.2, h.3, h.4)
  split_one e es t a b others false f = let h = others f in (h.0, h.1, inr h.2, h.3, h.4)

  split_through : (es : List B) (t : List ℤ) (a b : Instance) → Earlier (through es t) a b → (f : B) × (g : B) × Earlier es f g × (a ≡ at f t) × (b ≡ at g t)
  split_through [] t a b e = absurd e
  split_through (e ∷ es) t a b h = split_one e es t a b (split_through es t a b) (passes e t) h

  module _ (maps : List TimeMap) (p : List ℤ) (times : List (List ℤ)) (rise : Rises (slice_cmp int_cmp) times) (es : List B) (numbered : Numbered es) (is : List Instance) (distinct : AreDistinct is)
      (finds : Finds number passes iterators times es is (time_of maps p)) where
    timed : (t : List ℤ) (a : Instance) → IsIn t times → IsIn a (through es t) → (time_of maps p a ≡ t) × IsIn a is
    timed t a b i =
        let h = from_through es t a i in
        let s = finds.sound h.0 t h.1 b h.2 in
        (ap (time_of maps p) h.3 ∙ s.1, subst (λ c. IsIn c is) (sym h.3) s.0)

    pub scan_rises : Rises (time_cmp maps p) (scanned number passes iterators times es)
    scan_rises =
        rises_flat_map (time_cmp maps p) (through es) times
        (λ t i a b e.
        let first = timed t a i (earlier_is_in (through es t) a b e) in
        let second = timed t b i (later_is_in (through es t) a b e) in
        let blocks = split_through es t a b e in
        ap (λ u. ordering_then (slice_cmp int_cmp u (time_of maps p b)) (nat_cmp a.statement b.statement)) first.0
        ∙ ap (λ u. ordering_then (slice_cmp int_cmp t u) (nat_cmp a.statement b.statement)) second.0
        ∙ ap (λ o. ordering_then o (nat_cmp a.statement b.statement)) (tied_itself (lists_total int_cmp_total) t)
        ∙ ap (λ (c : Instance). nat_cmp c.statement b.statement) blocks.3
        ∙ ap (λ (c : Instance). nat_cmp (number blocks.0) c.statement) blocks.4
        ∙ numbered blocks.0 blocks.1 blocks.2)
        (λ t u a b e i j.
        let first = timed t a (earlier_is_in times t u e) i in
        let second = timed u b (later_is_in times t u e) j in
        ap (λ v. ordering_then (slice_cmp int_cmp v (time_of maps p b)) (nat_cmp a.statement b.statement)) first.0
        ∙ ap (λ v. ordering_then (slice_cmp int_cmp t v) (nat_cmp a.statement b.statement)) second.0
        ∙ ap (λ o. ordering_then o (nat_cmp a.statement b.statement)) (rise t u e))

    scan_keeps : (a : Instance) → IsIn a is → IsIn a (scanned number passes iterators times es)
    scan_keeps a i =
        let h = finds.complete a i in
        let t : List ℤ = time_of maps p a in
        let same : at h.0 t ≡ a = λ j. record { statement = h.2 j; iterators = h.5 j } in
        to_flat_map (through es) times t a h.3
        (subst (λ c. IsIn c (through es t)) same (to_through es t h.0 h.1 h.4))

    scan_adds_none : (a : Instance) → IsIn a (scanned number passes iterators times es) → IsIn a is
    scan_adds_none a i =
        let h = in_flat_map (through es) times a i in
        (timed h.0 a h.1 h.2).1

    pub scan_is_in_order : IsInOrder (time_cmp maps p) is (scanned number passes iterators times es)
    scan_is_in_order = record {
      reordered = record {
        once = distinct;
        once_in_target = rising_are_distinct (time_cmp maps p) (time_cmp_total maps p) (scanned number passes iterators times es) scan_rises;
        kept = scan_keeps;
        no_other = scan_adds_none;
      };
      increasing = scan_rises;
    }

-- so it is the target
pub scan_is_target : {B : Type 0} (program : Program) (n : ℕ) (maps : List TimeMap) (p : List ℤ) → IsScheduleOf program (Time n maps) → length p ≡ numbers_in program.params
    → (number : B → ℕ) (passes : B → List ℤ → Bool) (iterators : B → List ℤ → List ℤ) (times : List (List ℤ)) (es : List B) → Rises (slice_cmp int_cmp) times → Numbered number passes iterators es
    → Finds number passes iterators times es (trace program p) (time_of maps p)
    → scanned number passes iterators times es ≡ target program (Time n maps) p
scan_is_target program n maps p fits numbers number passes iterators times es rise numbered finds =
    (target_is_in_order program n maps p fits numbers).1 (scanned number passes iterators times es)
    (scan_is_in_order number passes iterators maps p times rise es numbered (trace program p) (once program p) finds)
