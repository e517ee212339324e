-- What is spent in the search of parts.
use Rattle.std.proofs.Common.{◌≡◌, ℕ, ◌+◌, ◌*◌, ◌<◌, ◌≤◌, List, [], ℤ, refl, sym, ap, subst, ◌∙◌, arith, Result, Ok, Err, Vec, Box, Global}
use Rattle.std.specs.Prelude.{IfOk, IfErr, OnErr, IsNone, Some}
use Rattle.std.specs.List.{All}
use Rattle.affc_system.specs.Systems.{Rows}
use Rattle.affc_system.specs.Boxes.{InBox}
use Rattle.affc_rows.specs.Forms.{Affine}
use Rattle.affc_farkas.specs.declared.proof.Proof.{Proof, Leaf, Cut', Split'}
use Rattle.affc_simplex.specs.declared.bounds.Bound.{Bound}
use Rattle.affc_leaf.specs.Bounds.{IsBound, FirstFree, ranges_of}
use Rattle.affc_leaf.specs.Parts.{NoneIn, IsLeast}
use Rattle.affc_leaf.specs.Cuts.{IsCutBefore}
use Rattle.affc_leaf.specs.Points.{points}
use Rattle.affc_leaf.proofs.Halves.{some_in_ranges, halves_points}
use Rattle.affc_leaf.proofs.Steps.{high_least, kept_least}
use Rattle.affc_split.specs.declared.budget.Stop.{Stop}
use Rattle.affc_split.specs.declared.budget.Stop.TheVariants.{Budget, Memory}
use Rattle.affc_split.specs.declared.search.Answer.{Answer}
use Rattle.affc_split.specs.declared.search.Answer.TheVariants as answer
use Rattle.affc_split.specs.declared.search.Found.{Found}
use Rattle.affc_split.specs.declared.search.Found.TheVariants.{Empty, Point}
use Rattle.affc_split.specs.declared.search.Split.{Split}
use Rattle.affc_split.specs.declared.search.Side.{Side}
use Rattle.affc_split.specs.declared.search.Side.TheVariants.{Low, High}
use Rattle.affc_split.specs.Budgets.{Account, IsUnit, IsLater}
use Rattle.affc_split.specs.Openings.{nodes}
use Rattle.affc_split.specs.Search.{IsFound, IsSplit, part_of, other_side}
use Rattle.affc_split.specs.Searches.{AreFewer, AreFewerFor, Searched, Spends, IsBeside}
use Rattle.affc_split.proofs.Openings.{AreParts, nothing_opened, none_fewer, none_fewer_for, leaf_opened, half_opened, empty_answer, point_answer, halves_parts, turned, one_point, one_proof, low_part, point_opened, roomier, room_joined, halves_searched, second_side}

abbrev Ranges : Type 0
Ranges = List (ℤ × ℤ)

not_budget : Memory ≡ Budget → ⊥
not_budget e = grind arith

-- ---- one account

same_later : (a : Account) → IsLater a a
same_later a = record { limit = refl; grows = omega arith; uncounted = λ n. refl }

later_twice : (a m b : Account) → IsLater a m → IsLater m b → IsLater a b
later_twice a m b s t = record {
  limit = t.limit ∙ s.limit;
  grows = let u = s.grows in let v = t.grows in omega (arith, u, v);
  uncounted = λ n. t.uncounted (subst (λ o. IsNone o) (sym s.limit) n) ∙ s.uncounted n;
}

-- a search that ends for want of memory
pub failed : {A : Type 0} (Few : A → List Ranges → Type 0) (own : ℕ) (whole : Ranges) (a b : Account) (r : Result A Stop) → IsLater a b → b.spent + 2 ≤ a.spent + (own + 2 * points whole)
    → r ≡ Err Memory → Spends Few own whole a b r
failed Few own whole a b r l c e = subst (λ q. Spends Few own whole a b q) (sym e) (record {
  later = l;
  cost = c;
  opened = tt;
  stop = λ q. absurd (not_budget q);
  short = λ q. absurd (not_budget q);
})

-- a search that ends as that of a part
pub ended : {A B : Type 0} (Few : A → List Ranges → Type 0) (Fewer : B → List Ranges → Type 0) (own : ℕ) (whole part : Ranges) (a b : Account) (e : Stop) (r : Result B Stop)
    → part ≡ whole → r ≡ Err e → Spends Few own part a b (Err e) → Spends Fewer own whole a b r
ended Few Fewer own whole part a b e r same h s = subst (λ q. Spends Fewer own whole a b q) (sym h) (subst (λ w. Spends Fewer own w a b (Err e)) same (record {
  later = s.later;
  cost = s.cost;
  opened = tt;
  stop = s.stop;
  short = s.short;
}))

some_cost : (own n k : ℕ) → 1 ≤ n → k + 2 ≤ k + (own + 2 * n)
some_cost own n k h = omega arith

-- before anything is opened
pub failed_first : {A : Type 0} (Few : A → List Ranges → Type 0) (own : ℕ) (whole : Ranges) (a : Account) (r : Result A Stop) → r ≡ Err Memory → Spends Few own whole a a r
failed_first Few own whole a r e = failed Few own whole a a r (same_later a) (some_cost own (points whole) a.spent (some_in_ranges whole)) e

-- what is known at once
at_once : {A : Type 0} (Few : A → List Ranges → Type 0) (whole : Ranges) (a : Account) (f : A) → Few f [] → Spends Few 0 whole a a (Ok f)
at_once Few whole a f n = record {
  later = same_later a;
  cost = some_cost 0 (points whole) a.spent (some_in_ranges whole);
  opened = nothing_opened whole a (Few f) n;
  stop = tt;
  short = tt;
}

pub known : (whole : Ranges) (a : Account) (f : Found) → Spends (AreFewer 0) 0 whole a a (Ok f)
known whole a f = at_once (AreFewer 0) whole a f (none_fewer f)

pub answer_known : (whole : Ranges) (a : Account) (g : Answer) → Spends AreFewerFor 0 whole a a (Ok g)
answer_known whole a g = at_once AreFewerFor whole a g (none_fewer_for g)

pub known_here : (whole : Ranges) (a : Account) (r : Result Found Stop) → OnErr r (r ≡ Err Memory) → Spends (AreFewer 0) 0 whole a a r
known_here whole a (Ok f) m = known whole a f
known_here whole a (Err e) m = failed_first (AreFewer 0) 0 whole a (Err e) m

-- ---- the rest of a box of which one side has a proof

more_cost : (b a p w : ℕ) → p ≤ w → b + 2 ≤ a + (0 + 2 * p) → b + 2 ≤ a + (0 + 2 * w)
more_cost b a p w h c = omega arith

more_short : (b a p w : ℕ) → p ≤ w → b + 3 ≤ a + (0 + 2 * p) → b + 3 ≤ a + (0 + 2 * w)
more_short b a p w h c = omega arith

beside_opened : (part other whole : Ranges) (a b : Account) (n : ℕ) (f g : Found) → AreParts part other whole → IsBeside n f g → Searched 0 part a b (AreFewer 0 f) → Searched 0 whole a b (AreFewer 0 g)
beside_opened part other whole a b n (Point x) g p e s = one_point part other whole a b (Point x) g p e s
beside_opened part other whole a b n (Empty q) g p e s = one_proof part other whole a b q _ (Ok g) p (second_side n (nodes q.value)) e s

pub rest_searched : (part other whole : Ranges) (a b : Account) (n : ℕ) (f : Found) (r : Result Found Stop) → AreParts part other whole → points part ≤ points whole
    → OnErr r (r ≡ Err Memory) → IfOk r (IsBeside n f) → Spends (AreFewer 0) 0 part a b (Ok f) → Spends (AreFewer 0) 0 whole a b r
rest_searched part other whole a b n f (Err e) p w m h s = failed (AreFewer 0) 0 whole a b (Err e) s.later (more_cost b.spent a.spent (points part) (points whole) w s.cost) m
rest_searched part other whole a b n f (Ok g) p w m h s = record {
  later = s.later;
  cost = more_cost b.spent a.spent (points part) (points whole) w s.cost;
  opened = beside_opened part other whole a b n f g p h s.opened;
  stop = tt;
  short = tt;
}

pub rest_stopped : (part whole : Ranges) (a b : Account) (e : Stop) (r : Result Found Stop) → points part ≤ points whole → r ≡ Err e → Spends (AreFewer 0) 0 part a b (Err e) → Spends (AreFewer 0) 0 whole a b r
rest_stopped part whole a b e r w h s = subst (λ q. Spends (AreFewer 0) 0 whole a b q) (sym h) (record {
  later = s.later;
  cost = more_cost b.spent a.spent (points part) (points whole) w s.cost;
  opened = tt;
  stop = s.stop;
  short = λ q. more_short b.spent a.spent (points part) (points whole) w (s.short q);
})

-- ---- a half that is opened

opened_cost : (b m a p : ℕ) → m ≤ a + 1 → b + 2 ≤ m + (0 + 2 * p) → b + 2 ≤ a + (1 + 2 * p)
opened_cost b m a p h c = omega arith

opened_short : (b m a p : ℕ) → m ≤ a + 1 → b + 3 ≤ m + (0 + 2 * p) → b + 3 ≤ a + (1 + 2 * p)
opened_short b m a p h c = omega arith

pub refused : {A : Type 0} (Few : A → List Ranges → Type 0) (part : Ranges) (a b : Account) (r : Result A Stop) → IsLater a b → b.spent ≡ a.spent → b.limit ≡ Some b.spent → r ≡ Err Budget
    → Spends Few 1 part a b r
refused Few part a b r l e full h =
    let some = some_in_ranges part in
    subst (λ q. Spends Few 1 part a b q) (sym h) (record {
      later = l;
      cost = omega (arith, some, e);
      opened = tt;
      stop = λ q. full;
      short = λ q. omega (arith, some, e);
    })

unit_cost : (b a p : ℕ) → 1 ≤ p → b ≤ a + 1 → b + 2 ≤ a + (1 + 2 * p)
unit_cost b a p h c = omega arith

pub failed_opened : (part : Ranges) (a b : Account) (r : Result Found Stop) → IsLater a b → b.spent ≤ a.spent + 1 → r ≡ Err Memory → Spends (AreFewer 0) 1 part a b r
failed_opened part a b r l c e = failed (AreFewer 0) 1 part a b r l (unit_cost b.spent a.spent (points part) (some_in_ranges part) c) e

pub leaf_found : (part : Ranges) (a b : Account) (f : Found) → IsLater a b → b.spent ≤ a.spent + 1 → IsUnit a b → Spends (AreFewer 0) 1 part a b (Ok f)
leaf_found part a b f l c u = record {
  later = l;
  cost = unit_cost b.spent a.spent (points part) (some_in_ranges part) c;
  opened = leaf_opened part a b f u;
  stop = tt;
  short = tt;
}

pub opened_searched : {A : Type 0} (Few : A → List Ranges → Type 0) (half part : Ranges) (a m b : Account) (r : Result A Stop) → part ≡ half → IsLater a m → m.spent ≤ a.spent + 1 → IsUnit a m
    → Spends Few 0 part m b r → Spends Few 1 half a b r
opened_searched {A} Few half part a m b r same l c u s = subst (λ w. Spends Few 1 w a b r) same (by r s)
  where
    by : (q : Result A Stop) → Spends Few 0 part m b q → Spends Few 1 part a b q
    by (Ok f) s = record {
      later = later_twice a m b l s.later;
      cost = opened_cost b.spent m.spent a.spent (points part) c s.cost;
      opened = half_opened part a m b (Few f) l.limit u s.opened;
      stop = tt;
      short = tt;
    }
    by (Err e) s = record {
      later = later_twice a m b l s.later;
      cost = opened_cost b.spent m.spent a.spent (points part) c s.cost;
      opened = tt;
      stop = s.stop;
      short = λ q. opened_short b.spent m.spent a.spent (points part) c (s.short q);
    }

-- ---- both halves of a box

low_cost : (b a l h w : ℕ) → l + h ≡ w → 1 ≤ h → b + 2 ≤ a + (1 + 2 * l) → b + 2 ≤ a + (0 + 2 * w)
low_cost b a l h w e some c = omega arith

low_short : (b a l h w : ℕ) → l + h ≡ w → 1 ≤ h → b + 3 ≤ a + (1 + 2 * l) → b + 3 ≤ a + (0 + 2 * w)
low_short b a l h w e some c = omega arith

both_cost : (b m a l h w : ℕ) → l + h ≡ w → m + 2 ≤ a + (1 + 2 * l) → b + 2 ≤ m + (1 + 2 * h) → b + 2 ≤ a + (0 + 2 * w)
both_cost b m a l h w e c d = omega arith

both_short : (b m a l h w : ℕ) → l + h ≡ w → m + 2 ≤ a + (1 + 2 * l) → b + 3 ≤ m + (1 + 2 * h) → b + 3 ≤ a + (0 + 2 * w)
both_short b m a l h w e c d = omega arith

pub low_point : (low high whole : Ranges) (a b : Account) (x : Vec ℤ Global) → AreParts low high whole → points low + points high ≡ points whole → InBox low x.items
    → Spends (AreFewer 0) 1 low a b (Ok (Point x)) → Spends (AreFewer 0) 0 whole a b (Ok (Point x))
low_point low high whole a b x p e i s = record {
  later = s.later;
  cost = low_cost b.spent a.spent (points low) (points high) (points whole) e (some_in_ranges high) s.cost;
  opened = low_part low high whole a b x (Point x) p refl s.opened i;
  stop = tt;
  short = tt;
}

pub low_stopped : (low high whole : Ranges) (a b : Account) (e : Stop) → points low + points high ≡ points whole → Spends (AreFewer 0) 1 low a b (Err e) → Spends (AreFewer 0) 0 whole a b (Err e)
low_stopped low high whole a b e sum s = record {
  later = s.later;
  cost = low_cost b.spent a.spent (points low) (points high) (points whole) sum (some_in_ranges high) s.cost;
  opened = tt;
  stop = s.stop;
  short = λ q. low_short b.spent a.spent (points low) (points high) (points whole) sum (some_in_ranges high) (s.short q);
}

pub high_stopped : (low high whole : Ranges) (a m b : Account) (f : Found) (e : Stop) (r : Result Found Stop) → points low + points high ≡ points whole → r ≡ Err e
    → Spends (AreFewer 0) 1 low a m (Ok f) → Spends (AreFewer 0) 1 high m b (Err e) → Spends (AreFewer 0) 0 whole a b r
high_stopped low high whole a m b f e r sum h s t = subst (λ q. Spends (AreFewer 0) 0 whole a b q) (sym h) (record {
  later = later_twice a m b s.later t.later;
  cost = both_cost b.spent m.spent a.spent (points low) (points high) (points whole) sum s.cost t.cost;
  opened = tt;
  stop = t.stop;
  short = λ q. both_short b.spent m.spent a.spent (points low) (points high) (points whole) sum s.cost (t.short q);
})

fewer_beside : (half : Ranges) (a b : Account) (n : ℕ) (f g : Found) → IsBeside n f g → Searched 1 half a b (AreFewer 0 f) → Searched 1 half a b (AreFewer (n + 1) g)
fewer_beside half a b n (Point x) g e s = point_opened half a b (n + 1) x g e s
fewer_beside half a b n (Empty q) g e s = roomier 1 (n + 1) 0 half a b q g _ (room_joined n (nodes q.value)) e s

pub both_searched : (system : Rows) (bs : List Bound) (s : Split) (row next : ℕ) (a m b : Account) (p : Box Proof Global) (f : Found) (r : Result Found Stop)
    → All IsBound bs → FirstFree bs s.column → IsSplit bs s → NoneIn system (part_of Low bs s row) → IfOk r (IsFound system bs next)
    → OnErr r (r ≡ Err Memory) → IfOk r (IsBeside (nodes p.value) f)
    → Spends (AreFewer 0) 1 (ranges_of (part_of Low bs s row)) a m (Ok (Empty p)) → Spends (AreFewer 0) 1 (ranges_of (part_of High bs s row)) m b (Ok f) → Spends (AreFewer 0) 0 (ranges_of bs) a b r
both_searched system bs s row next a m b p f (Err e) bound free split none answer memory beside u v =
    let sum = halves_points bs s.column s.at row row split.there split.low_in split.high_in in
    failed (AreFewer 0) 0 (ranges_of bs) a b (Err e) (later_twice a m b u.later v.later) (both_cost b.spent m.spent a.spent _ _ (points (ranges_of bs)) sum u.cost v.cost) memory
both_searched system bs s row next a m b p f (Ok g) bound free split none answer memory beside u v =
    let sum = halves_points bs s.column s.at row row split.there split.low_in split.high_in in
    record {
      later = later_twice a m b u.later v.later;
      cost = both_cost b.spent m.spent a.spent _ _ (points (ranges_of bs)) sum u.cost v.cost;
      opened = halves_searched system bs s.column s.at row next a m b p (Ok g) bound free split.low_in split.high_in u.later.limit none answer u.opened
          (fewer_beside (ranges_of (part_of High bs s row)) m b (nodes p.value) f g beside v.opened);
      stop = tt;
      short = tt;
    }

-- ---- the sides of a split

pub sides : (bs : List Bound) (s : Split) (side : Side) (row : ℕ) → All IsBound bs → IsSplit bs s
    → AreParts (ranges_of (part_of (other_side side) bs s row)) (ranges_of (part_of side bs s row)) (ranges_of bs)
sides bs s Low row b h = turned _ _ _ (halves_parts bs s.column s.at row row b h.there h.low_in h.high_in)
sides bs s High row b h = halves_parts bs s.column s.at row row b h.there h.low_in h.high_in

pub fewer_points : (bs : List Bound) (s : Split) (side : Side) (row : ℕ) → IsSplit bs s → points (ranges_of (part_of side bs s row)) ≤ points (ranges_of bs)
fewer_points bs s Low row h = let e = halves_points bs s.column s.at row row h.there h.low_in h.high_in in omega (arith, e)
fewer_points bs s High row h = let e = halves_points bs s.column s.at row row h.there h.low_in h.high_in in omega (arith, e)

pub side_least : (system : Rows) (bs : List Bound) (s : Split) (side : Side) (row : ℕ) (x : List ℤ) → IsSplit bs s → NoneIn system (part_of side bs s row)
    → IsLeast system (part_of (other_side side) bs s row) x → IsLeast system bs x
side_least system bs s Low row x h none least = high_least system bs s.column s.at row x h.there h.low_in none least
side_least system bs s High row x h none least = kept_least system bs s.column s.at row x h.there h.high_in none least

-- ---- cuts and answers

pub empty_spends : (whole part : Ranges) (a b : Account) (p : Box Proof Global) (q : Proof) (f : Found) → part ≡ whole → f ≡ Empty p → q ≡ p.value
    → Spends (AreFewer 0) 0 part a b (Ok f) → Spends AreFewerFor 0 whole a b (Ok (answer.Empty q))
empty_spends whole part a b p q f w e same s = record {
  later = s.later;
  cost = subst (λ v. b.spent + 2 ≤ a.spent + (0 + 2 * points v)) w s.cost;
  opened = empty_answer whole part a b p q f w e same s.opened;
  stop = tt;
  short = tt;
}

pub point_spends : (whole part : Ranges) (a b : Account) (x : Vec ℤ Global) (f : Found) → part ≡ whole → f ≡ Point x
    → Spends (AreFewer 0) 0 part a b (Ok f) → Spends AreFewerFor 0 whole a b (Ok (answer.Point x))
point_spends whole part a b x f w e s = record {
  later = s.later;
  cost = subst (λ v. b.spent + 2 ≤ a.spent + (0 + 2 * points v)) w s.cost;
  opened = point_answer whole part a b x f w e s.opened;
  stop = tt;
  short = tt;
}

less_short : (b a p : ℕ) → b + 3 ≤ a + (1 + 2 * p) → b + 2 ≤ a + 2 * p
less_short b a p h = omega arith

less_cost : (b a p : ℕ) → b + 2 ≤ a + (1 + 2 * p) → b + 1 ≤ a + 2 * p
less_cost b a p h = omega arith

-- the whole box, with its own unit
pub costs_less : (whole : Ranges) (a b : Account) (r : Result Answer Stop) → Spends AreFewerFor 1 whole a b r → b.spent + 1 ≤ a.spent + 2 * points whole
costs_less whole a b r s = less_cost b.spent a.spent (points whole) s.cost

pub stops_short : (whole : Ranges) (a b : Account) (r : Result Answer Stop) → Spends AreFewerFor 1 whole a b r → IfErr r (λ e. e ≡ Budget → b.spent + 2 ≤ a.spent + 2 * points whole)
stops_short whole a b (Ok g) s = tt
stops_short whole a b (Err e) s = λ q. less_short b.spent a.spent (points whole) (s.short q)
