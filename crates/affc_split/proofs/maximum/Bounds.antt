-- Bounds of forms over regions.
use Rattle.std.proofs.Common.{◌≡◌, ◌⊎◌, inl, inr, ◌≤◌, ◌^◌, List, [], ◌∷◌, ◌++◌, ℤ, pos, negsuc, ◌+ℤ◌, ◌-ℤ◌, ◌≤ℤ◌, ◌<ℤ◌, refl, sym, subst, ◌∙◌, arith, Vec, Global}
use Rattle.std.specs.Prelude.{unsigned_abs, Option, Some, None}
use Rattle.std.proofs.lemmas.Int.{ints}
use Rattle.std.specs.List.{All}
use Rattle.std.proofs.lemmas.List.Elements.{All-nil, All-cons, All-head}
use Rattle.affc_rows.specs.Forms.{Affine, dot, value}
use Rattle.affc_system.specs.Systems.{Rows, Meets, IsPoint}
use Rattle.affc_system.specs.Boxes.{InBox}
use Rattle.affc_system.proofs.SystemLemmas.{point_of_more_rows, point_of_fewer_rows}
use Rattle.affc_farkas.specs.declared.proof.Proof.{Proof}
use Rattle.affc_split.specs.declared.search.Answer.{Answer}
use Rattle.affc_split.specs.declared.search.Answer.TheVariants.{Empty, Point}
use Rattle.affc_split.specs.Answers.{IfEmpty, IfPoint}
use Rattle.affc_split.specs.Points.{IsLeastPoint}
use Rattle.affc_split.specs.maximum.Regions.{InRegion, IsFirstReaching, IsBounded, IsAnswer}
use Rattle.affc_split.specs.maximum.Searches.{IsReached, IsSearch}
use Rattle.affc_split.specs.declared.maximum.region.Region.{Region}
use Rattle.affc_split.specs.declared.maximum.search.Best.{Best}
use Rattle.affc_split.specs.declared.maximum.search.Search.{Search}

up : (u v w : ℤ) → u ≤ℤ v → v ≤ℤ w → u ≤ℤ w
up u v w h k = omega (arith, ints)

below : (u v : ℤ) → u <ℤ v → u ≤ℤ v
below u v h = omega (arith, ints)

pub looser : (r : Region) (f : Affine) (a b : ℤ) → a ≤ℤ b → IsBounded r f a → IsBounded r f b
looser r f a b h bounded z inside = up (value f z) a b (bounded z inside) h

-- when nothing is left between what is reached and what is possible
pub ended : (r : Region) (f : Affine) (floor low high : ℤ) (best : Option Best) → high ≤ℤ low → IsBounded r f high → IsReached r f floor low best → IsAnswer r f floor best
ended r f floor low high None h bounded reached = subst (IsBounded r f) reached (looser r f high low h bounded)
ended r f floor low high (Some b) h bounded reached =
    let most : IsBounded r f b.value = subst (IsBounded r f) (sym reached.0) (looser r f high low h bounded) in
    (subst (λ v. floor <ℤ v) (sym reached.0) reached.1, record { bounded = most; inside = reached.2; attained = reached.3 ∙ sym reached.0 })

floor_below : (r : Region) (f : Affine) (floor low : ℤ) (best : Option Best) → IsReached r f floor low best → floor ≤ℤ low
floor_below r f floor low None reached = subst (λ v. floor ≤ℤ v) (sym reached) (same floor)
  where
    same : (v : ℤ) → v ≤ℤ v
    same v = omega (arith, ints)
floor_below r f floor low (Some b) reached = below floor low reached.1

at_or_above : (a b c d : ℤ) → a ≤ℤ b → b <ℤ c → c ≤ℤ d → a <ℤ d
at_or_above a b c d h k l = omega (arith, ints)

-- a point that reaches what was asked
pub reached_more : (r : Region) (f : Affine) (floor low at : ℤ) (best : Option Best) (b : Best) → IsReached r f floor low best → low <ℤ at → at ≤ℤ value f b.point.items → InRegion r b.point.items
    → b.value ≡ value f b.point.items → IsReached r f floor b.value (Some b)
reached_more r f floor low at best b reached h k inside e =
    let above = at_or_above floor low at (value f b.point.items) (floor_below r f floor low best reached) h k in
    (refl, subst (λ v. floor <ℤ v) (sym e) above, inside, sym e)

-- a point of the longer system, and none
floor_of : (d k at : ℤ) → pos 0 ≤ℤ (d +ℤ (k -ℤ at)) → at ≤ℤ (d +ℤ k)
floor_of d k at h = omega (arith, ints)

over_floor : (d k at : ℤ) → at ≤ℤ (d +ℤ k) → pos 0 ≤ℤ (d +ℤ (k -ℤ at))
over_floor d k at h = omega (arith, ints)

abbrev pub with_floor : Rows → Affine → ℤ → Rows
with_floor system f at = record system { rows = system.rows ++ (record f { constant = f.constant -ℤ at }) ∷ [] }

pub point_reaches : (r : Region) (f : Affine) (at : ℤ) (s : Rows) (a : Answer) (x : Vec ℤ Global) → s ≡ with_floor r.system f at → a ≡ Point x → IfPoint a (IsLeastPoint s r.ranges)
    → IsFirstReaching r f at x.items
point_reaches r f at s a x e i h =
    let row : Affine = record f { constant = f.constant -ℤ at } in
    let first : IsLeastPoint s r.ranges x.items = subst (λ b. IfPoint b (IsLeastPoint s r.ranges)) i h in
    let there : IsPoint (with_floor r.system f at) x.items = subst (λ q. IsPoint q x.items) e first.meets in
    let parts = point_of_fewer_rows r.system (row ∷ []) x.items there in
    let longer : (w : List ℤ) → InRegion r w → at ≤ℤ value f w → IsPoint s w = λ w inside reaches.
    subst (λ q. IsPoint q w) (sym e) (point_of_more_rows r.system (row ∷ []) w inside.meets (All-cons (Meets w) row [] (over_floor (dot f.coefs w) f.constant at reaches) (All-nil (Meets w)))) in
    record {
      inside = record { meets = parts.0; inside = first.inside };
      reaches = floor_of (dot f.coefs x.items) f.constant at (All-head (Meets x.items) row [] parts.1);
      least = λ w inside reaches. first.least w inside.inside (longer w inside reaches);
    }

split_at : (v at : ℤ) → (at ≤ℤ v) ⊎ (v ≤ℤ (at -ℤ pos 1))
split_at v at = by_sign v at (v -ℤ at) refl
  where
    by_sign : (v at d : ℤ) → v -ℤ at ≡ d → (at ≤ℤ v) ⊎ (v ≤ℤ (at -ℤ pos 1))
    by_sign v at (pos n) e = inl (omega (arith, ints))
    by_sign v at (negsuc n) e = inr (omega (arith, ints))

pub none_reaches : (r : Region) (f : Affine) (at : ℤ) (s : Rows) (a : Answer) (p : Proof) → s ≡ with_floor r.system f at → a ≡ Empty p
    → IfEmpty a (λ _. (x : List ℤ) → InBox r.ranges x → IsPoint s x → ⊥) → IsBounded r f (at -ℤ pos 1)
none_reaches r f at s a p e i h z inside = elim (split_at (value f z) at) [
  | inl k ↦
      let row : Affine = record f { constant = f.constant -ℤ at } in
      let none : (x : List ℤ) → InBox r.ranges x → IsPoint s x → ⊥ = subst (λ b. IfEmpty b (λ _. (x : List ℤ) → InBox r.ranges x → IsPoint s x → ⊥)) i h in
      let one : All (Meets z) (row ∷ []) = All-cons (Meets z) row [] (over_floor (dot f.coefs z) f.constant at k) (All-nil (Meets z)) in
      let there : IsPoint (with_floor r.system f at) z = point_of_more_rows r.system (row ∷ []) z inside.meets one in
      absurd (none z inside.inside (subst (λ q. IsPoint q z) (sym e) there))
  | inr k ↦ k
]

-- ---- steps of a search

near_between : (low v high : ℤ) → unsigned_abs low ≤ 2 ^ 55 → unsigned_abs high ≤ 2 ^ 55 → low ≤ℤ v → v ≤ℤ high → unsigned_abs v ≤ 2 ^ 55
near_between low v high h k a b = omega (arith, ints)

not_below : (low at : ℤ) → low <ℤ at → low ≤ℤ (at -ℤ pos 1)
not_below low at h = omega (arith, ints)

just_below : (at high : ℤ) → at ≤ℤ high → (at -ℤ pos 1) ≤ℤ high
just_below at high h = omega (arith, ints)

pub near_lowered : (s : Search) (at : ℤ) → IsSearch s → s.low <ℤ at → at ≤ℤ s.high → unsigned_abs (at -ℤ pos 1) ≤ 2 ^ 55
near_lowered s at h above within = near_between s.low (at -ℤ pos 1) s.high h.low_near h.high_near (not_below s.low at above) (just_below at s.high within)

pub lowered_search : (s : Search) (at : ℤ) → IsSearch s → s.low <ℤ at → at ≤ℤ s.high → IsBounded s.objective.region.now s.objective.form.now (at -ℤ pos 1)
    → IsSearch (record { objective = s.objective; low = s.low; high = at -ℤ pos 1; best = s.best })
lowered_search s at h above within none = record {
  objective = h.objective;
  bounded = none;
  reached = h.reached;
  low_near = h.low_near;
  high_near = near_lowered s at h above within;
}

pub raised_search : (s : Search) (at v : ℤ) (point : Vec ℤ Global) → IsSearch s → s.low <ℤ at → InRegion s.objective.region.now point.items → at ≤ℤ value s.objective.form.now point.items → v ≡ value s.objective.form.now point.items
    → IsSearch (record { objective = s.objective; low = v; high = s.high; best = Some (record { value = v; point = point }) })
raised_search s at v point h above inside reaches e =
    let r : Region = s.objective.region.now in
    let f : Affine = s.objective.form.now in
    let capped : v ≤ℤ s.high = subst (λ w. w ≤ℤ s.high) (sym e) (h.bounded point.items inside) in
    let rises : s.low <ℤ v = at_or_above s.low s.low at v (same s.low) above (subst (λ w. at ≤ℤ w) (sym e) reaches) in
    record {
      objective = h.objective;
      bounded = h.bounded;
      reached = reached_more r f s.objective.floor s.low at s.best (record { value = v; point = point }) h.reached above reaches inside e;
      low_near = near_between s.low v s.high h.low_near h.high_near (below s.low v rises) capped;
      high_near = h.high_near;
    }
  where
    same : (v : ℤ) → v ≤ℤ v
    same v = omega (arith, ints)
