-- The boxes of a plain program: each holds the iterators of its statement's instances, and is near.
use Rattle.std.proofs.Common.{◌≡◌, ℕ, zero, suc, ℤ, ◌≤ℤ◌, Bool, true, false, not, true≢false, ◌&&◌, if◌then◌else◌, IsTrue, List, [], ◌∷◌, ◌++◌, length, Option, Some, None, refl, sym, ap, subst, ◌∙◌, arith}
use Rattle.std.specs.Prelude.{slice_get, int_le, int_lt}
use Rattle.std.proofs.lemmas.Int.{ints}
use Rattle.std.proofs.lemmas.List.Elements.{All-cons}
use Rattle.std.proofs.lemmas.Option.{none-some, same_Some}
use Rattle.affc_ast.specs.declared.tree.Program.{Program}
use Rattle.affc_ast.specs.Fits.{within_ranges}
use Rattle.affc_system.specs.Boxes.{IsRange, IsBox, InBox}
use Rattle.affc_domain.specs.Plain.{IsPlain, plain_range, plain_ranges}
use Rattle.affc_domain.specs.Ranges.{Ranges, Within, Never, Wide, outermost, is_near, entered, range_of, ranges_of, number_ranges, AreWithin, first_wide_of, first_wide}
use Rattle.affc_domain.specs.Rounds.{Round, Loop, Test, rounds, loops_in}
use Rattle.affc_domain.proofs.Lists.{both_true, true_both, true_le, from_map, to_mapped}
use Rattle.affc_domain.proofs.RangeLemmas.{iterators_keep_ranges}
use Rattle.affc_domain.proofs.TurnLemmas.{instances_turn}
use Rattle.affc_safe.specs.Overflow.{near_ranges}
use Rattle.affc_loops.specs.Loops.{box_in, boxes}
use Rattle.affc_loops.proofs.Boxed.{Encloses}

-- ---- A box by the interval rule

abbrev is_within : Ranges → Bool
is_within (Within rs) = true
is_within _ = false

abbrev ranges_or : List (ℤ × ℤ) → Ranges → List (ℤ × ℤ)
ranges_or d (Within rs) = rs
ranges_or d _ = d

same_within : (xs ys : List (ℤ × ℤ)) → Within xs ≡ Within ys → xs ≡ ys
same_within xs ys e = ap (ranges_or xs) e

pub record IsNearBox (rs : List Round) (box : List (ℤ × ℤ)) : Type 0 where
  pub long : length box ≡ loops_in rs
  pub near : IsTrue (near_ranges box)
  pub ordered : IsBox box

no_ranges : IsBox []
no_ranges i x l = absurd (omega arith)

-- what is in a loop that is entered
inner : (r : ℤ × ℤ) (inside : Ranges) (box : List (ℤ × ℤ)) → entered r inside ≡ Within box
    → (rest : List (ℤ × ℤ)) × (inside ≡ Within rest) × (box ≡ r ∷ rest) × (r.0 ≤ℤ r.1) × IsTrue (is_near r.0 && is_near r.1)
inner r inside box e = by (int_lt r.1 r.0) refl (is_near r.0 && is_near r.1) refl inside e
  where
    ordered : (a b : ℤ) → int_lt b a ≡ false → a ≤ℤ b
    ordered a b e = first_of (omega (arith, ints, e), grind (arith, ints, e))

    out : (i : Ranges) → outermost r i ≡ Within box → (rest : List (ℤ × ℤ)) × (i ≡ Within rest) × (box ≡ r ∷ rest)
    out (Within rs) e = (rs, refl, sym (same_within (r ∷ rs) box e))
    out Never e = absurd (true≢false (ap is_within (sym e)))
    out (Wide n) e = absurd (true≢false (ap is_within (sym e)))

    by : (t : Bool) → int_lt r.1 r.0 ≡ t → (u : Bool) → (is_near r.0 && is_near r.1) ≡ u → (i : Ranges) → (if t then Never else (if not u then Wide 0 else outermost r i)) ≡ Within box
        → (rest : List (ℤ × ℤ)) × (i ≡ Within rest) × (box ≡ r ∷ rest) × (r.0 ≤ℤ r.1) × IsTrue (is_near r.0 && is_near r.1)
    by true q u g i e = absurd (true≢false (ap is_within (sym e)))
    by false q false g i e = absurd (true≢false (ap is_within (sym e)))
    by false q true g i e = let o = out i e in (o.0, o.1, o.2, ordered r.0 r.1 q, g)

pub near_box : (outer : List (ℤ × ℤ)) (rs : List Round) (box : List (ℤ × ℤ)) → ranges_of outer rs ≡ Within box → IsNearBox rs box
near_box outer [] box e = subst (IsNearBox []) (same_within [] box e) (record { long = refl; near = refl; ordered = no_ranges })
near_box outer (Loop iter low rel high ∷ rs) box e =
    let r = range_of outer low rel high in
    let i = inner r (ranges_of (outer ++ r ∷ []) rs) box e in
    let rest = near_box (outer ++ r ∷ []) rs i.0 i.1 in
    subst (IsNearBox (Loop iter low rel high ∷ rs)) (sym i.2) (record {
      long = ap suc rest.long;
      near = true_both (is_near r.0 && is_near r.1) (near_ranges i.0) i.4 rest.near;
      ordered = All-cons IsRange r i.0 i.3 rest.ordered;
    })
near_box outer (Test cond ∷ rs) box e = let h = near_box outer rs box e in record { long = h.long; near = h.near; ordered = h.ordered }

-- ---- The boxes of a program

is_there : (r : Ranges) (box : List (ℤ × ℤ)) → Some box ≡ box_in r → r ≡ Within box
is_there (Within rs) box e = ap (λ b. Within b) (sym (same_Some box rs e))
is_there Never box e = absurd (none-some box (sym e))
is_there (Wide n) box e = absurd (none-some box (sym e))

-- a statement's box is that of what stands round it
pub record Sits (program : Program) (k : ℕ) (box : List (ℤ × ℤ)) : Type 0 where
  pub around : List Round
  pub its_rounds : slice_get (rounds program) k ≡ Some around
  pub is_box : ranges_of (number_ranges program.params) around ≡ Within box

pub sits : (program : Program) (k : ℕ) (box : List (ℤ × ℤ)) → slice_get (boxes program) k ≡ Some (Some box) → Sits program k box
sits program k box e =
    let h = from_map (λ rs. box_in (ranges_of (number_ranges program.params) rs)) (rounds program) k (Some box) e in
    record { around = h.0; its_rounds = h.1; is_box = is_there (ranges_of (number_ranges program.params) h.0) box h.2 }

abbrev pub is_wide : Ranges → Bool
is_wide (Wide n) = true
is_wide _ = false

abbrev wide_or : ℕ → Ranges → Option (ℕ × ℕ) → Option (ℕ × ℕ)
wide_or statement (Wide loop) others = Some (statement, loop)
wide_or statement _ others = others

wide_parts : (statement : ℕ) (r : Ranges) (o : Option (ℕ × ℕ)) → wide_or statement r o ≡ None → (is_wide r ≡ false) × (o ≡ None)
wide_parts k (Within rs) o e = (refl, e)
wide_parts k Never o e = (refl, e)
wide_parts k (Wide n) o e = absurd (none-some (k, n) (sym e))

pub none_wide : (outer : List (ℤ × ℤ)) (statement : ℕ) (rss : List (List Round)) → first_wide_of outer statement rss ≡ None
    → (k : ℕ) (rs : List Round) → slice_get rss k ≡ Some rs → is_wide (ranges_of outer rs) ≡ false
none_wide outer s [] e k rs at = absurd (none-some rs at)
none_wide outer s (qs ∷ rss) e zero rs at = ap (λ q. is_wide (ranges_of outer q)) (sym (same_Some qs rs at)) ∙ (wide_parts s (ranges_of outer qs) (first_wide_of outer (suc s) rss) e).0
none_wide outer s (qs ∷ rss) e (suc k) rs at = none_wide outer (suc s) rss (wide_parts s (ranges_of outer qs) (first_wide_of outer (suc s) rss) e).1 k rs at

pub encloses : (program : Program) (p : List ℤ) → IsPlain program → first_wide program ≡ None → IsTrue (within_ranges program.params p) → Encloses program (boxes program) p
encloses program p plain near within a i =
    let t = (instances_turn program p a).0 i in
    let inside = ranges_of (number_ranges program.params) t.0 in
    let here : slice_get (boxes program) a.statement ≡ Some (box_in inside) = to_mapped (λ rs. box_in (ranges_of (number_ranges program.params) rs)) (rounds program) a.statement t.0 t.1 in
    found inside here (none_wide (number_ranges program.params) 0 (rounds program) near a.statement t.0 t.1) (iterators_keep_ranges program p a t.0 plain within i t.1)
  where
    found : (r : Ranges) → slice_get (boxes program) a.statement ≡ Some (box_in r) → is_wide r ≡ false → AreWithin r a.iterators
        → (box : List (ℤ × ℤ)) × (slice_get (boxes program) a.statement ≡ Some (Some box)) × InBox box a.iterators
    found (Within rs) e w h = (rs, e, h)
    found Never e w h = absurd h
    found (Wide n) e w h = absurd (true≢false w)

-- ---- The parameters

pub params_ordered : (rs : List (ℤ × ℤ)) → IsTrue (plain_ranges rs) → IsBox rs
params_ordered [] h = no_ranges
params_ordered (r ∷ rs) h =
    let a = both_true (plain_range r) (plain_ranges rs) h in
    All-cons IsRange r rs (true_ordered r.0 r.1 (both_true _ _ a.0).0) (params_ordered rs a.1)
  where
    true_ordered : (x y : ℤ) → int_le x y ≡ true → x ≤ℤ y
    true_ordered x y e = true_le x y e
