-- Lists of questions that are answered, one after the other.
use Rattle.std.proofs.Common.{◌≡◌, ℕ, ◌+◌, ◌<◌, get_or, ℤ, List, [], ◌∷◌, ◌++◌, length, map, flat_map, take, drop, Option, Some, None, refl, sym, ap, subst, ◌∙◌, inl, inr}
use Rattle.affc_farkas.specs.declared.proof.Proof.{Proof}
use Rattle.affc_leaf.specs.Points.{IsLeastPoint}
use Rattle.affc_system.specs.Boxes.{InBox}
use Rattle.affc_system.specs.Order.{LexLe}
use Rattle.affc_system.specs.Systems.{Rows, IsPoint}
use Rattle.affc_ast.specs.declared.tree.Instance.{Instance}
use Rattle.affc_trace.specs.Law.{IsIn}
use Rattle.affc_trace.proofs.EndedReads.{append_assoc}
use Rattle.affc_trace.proofs.Members.{to_first, to_second}
use Rattle.affc_trace.proofs.Once.{in_append}
use Rattle.affc_nest.specs.declared.nest.Entry.{Entry}
use Rattle.affc_nest.specs.declared.nest.Nest.{Nest}
use Rattle.affc_nest.specs.Parts.{coordinates, statement_of}
use Rattle.affc_order.specs.Systems.{loops_of, coordinates_of}
use Rattle.affc_legal.specs.Answered.{AreShown, Settles, spot_at, IsFoundAt, IsFirstOf, AreAnswered, IsNearer, question_on, IsFoundAs, AreRanges}
use Rattle.affc_sched.specs.Laws.{first_at, second_at}
use Rattle.affc_products.proofs.ProvedLemmas.{flat_more}
use Rattle.affc_sched.specs.Questions.{Question}
use Rattle.affc_legal.specs.Violations.{spot_of}
use Rattle.affc_legal.specs.declared.violation.Violation.{Violation}
use Rattle.affc_legal.proofs.SpotLemmas.{lex_trans, points_spots}

-- ---- Questions without a point

are_both : (qs rs : List Question) (ps ss : List Proof) → AreShown qs ps → AreShown rs ss → AreShown (qs ++ rs) (ps ++ ss)
are_both [] rs [] ss h g = g
are_both [] rs (p ∷ ps) ss h g = absurd h
are_both (q ∷ qs) rs [] ss h g = absurd h
are_both (q ∷ qs) rs (p ∷ ps) ss h g = (h.0, are_both qs rs ps ss h.1 g)

settles_both : (qs rs : List Question) (old mid new : List Proof) → Settles qs old mid → Settles rs mid new → Settles (qs ++ rs) old new
settles_both qs rs old mid new h g = record {
  made = h.made ++ g.made;
  grown = g.grown ∙ ap (λ xs. xs ++ g.made) h.grown ∙ append_assoc old h.made g.made;
  shown = are_both qs rs h.made g.made h.shown g.shown;
}

pub none_shown : (qs : List Question) (ps : List Proof) → AreShown qs ps → (q : Question) → IsIn q qs → (x : List ℤ) → InBox q.ranges x → IsPoint q.system x → ⊥
none_shown [] ps h q i = absurd i
none_shown (r ∷ qs) [] h q i = absurd h
none_shown (r ∷ qs) (p ∷ ps) h q (inl e) = subst (λ (z : Question). (x : List ℤ) → InBox z.ranges x → IsPoint z.system x → ⊥) (sym e) h.0.none
none_shown (r ∷ qs) (p ∷ ps) h q (inr i) = none_shown qs ps h.1 q i

-- ---- The first point of two lists

module _ (nest : Nest) where
  found_among : (qs rs : List Question) → ((q : Question) → IsIn q qs → IsIn q rs) → (found : Violation) → IsFoundAt nest qs found → IsFoundAt nest rs found
  found_among qs rs f found h = record { question = h.question; asked = f h.question h.asked; point = h.point; meets = h.meets; p = h.p; a = h.a; b = h.b }

  -- no point of these questions in their ranges stands at an earlier spot
  abbrev AreLater : List Question → Violation → Type 0
  AreLater qs found = (q : Question) (point : List ℤ) → IsIn q qs → InBox q.ranges point → IsPoint q.system point → LexLe found.key (spot_at nest q point)

  none_later : (qs : List Question) (ps : List Proof) → AreShown qs ps → (found : Violation) → AreLater qs found
  none_later qs ps h found q point i inside meets = absurd (none_shown qs ps h q i point inside meets)

  still_later : (qs : List Question) (x y : Violation) → LexLe x.key y.key → AreLater qs y → AreLater qs x
  still_later qs x y l h q point i inside meets = lex_trans x.key y.key (spot_at nest q point) l (h q point i inside meets)

  both_later : (qs rs : List Question) (found : Violation) → AreLater qs found → AreLater rs found → AreLater (qs ++ rs) found
  both_later qs rs found h g q point i inside meets = elim (in_append qs rs q i) [ inl j ↦ h q point j inside meets | inr j ↦ g q point j inside meets ]

  module _ (qs rs : List Question) where
    first_here : (found : Violation) → IsFirstOf nest qs found → AreLater rs found → IsFirstOf nest (qs ++ rs) found
    first_here found h g = record { key = h.key; there = found_among qs (qs ++ rs) (λ q i. to_first qs rs q i) found h.there; first = both_later qs rs found h.first g }

    first_there : (found : Violation) → AreLater qs found → IsFirstOf nest rs found → IsFirstOf nest (qs ++ rs) found
    first_there found h g = record { key = g.key; there = found_among rs (qs ++ rs) (λ q i. to_second qs rs q i) found g.there; first = both_later qs rs found h g.first }

    pub answered_both : (old mid new : List Proof) (a b c : Option Violation) → AreAnswered nest qs old mid a → AreAnswered nest rs mid new b → IsNearer a b c → AreAnswered nest (qs ++ rs) old new c
    answered_both old mid new None None c h g n = subst (AreAnswered nest (qs ++ rs) old new) (sym n) (settles_both qs rs old mid new h g)
    answered_both old mid new None (Some y) c h g n = subst (AreAnswered nest (qs ++ rs) old new) (sym n) (first_there y (none_later qs h.made h.shown y) g)
    answered_both old mid new (Some x) None c h g n = subst (AreAnswered nest (qs ++ rs) old new) (sym n) (first_here x h (none_later rs g.made g.shown x))
    answered_both old mid new (Some x) (Some y) c h g (inl n) = subst (AreAnswered nest (qs ++ rs) old new) (sym n.0) (first_here x h (still_later rs x y n.1 g.first))
    answered_both old mid new (Some x) (Some y) c h g (inr n) = subst (AreAnswered nest (qs ++ rs) old new) (sym n.0) (first_there y (still_later qs y x n.1 h.first) g)

-- ---- One question after the other

pub answered_next : {A : Type 0} (nest : Nest) (f : A → List Question) (xs : List A) (i : ℕ) (x : A) (old mid new : List Proof) (a b c : Option Violation) → i < length xs → x ≡ get_or xs i x
    → AreAnswered nest (flat_map f (take i xs)) old mid a → AreAnswered nest (f x) mid new b → IsNearer a b c → AreAnswered nest (flat_map f (take (i + 1) xs)) old new c
answered_next nest f xs i x old mid new a b c l e h g n =
    subst (λ qs. AreAnswered nest qs old new c) (sym (flat_more f xs i x l ∙ ap (λ z. flat_map f (take i xs) ++ f z) (sym e)))
    (answered_both nest (flat_map f (take i xs)) (f x) old mid new a b c h g n)

pub answered_more : (nest : Nest) (f : Rows → Question) (xs rest : List Rows) (x : Rows) → xs ≡ x ∷ rest → (old mid new : List Proof) (a b c : Option Violation)
    → AreAnswered nest (f x ∷ []) old mid a → AreAnswered nest (map f rest) mid new b → IsNearer a b c → AreAnswered nest (map f xs) old new c
answered_more nest f xs rest x front old mid new a b c h g n =
    subst (λ ys. AreAnswered nest (map f ys) old new c) (sym front) (answered_both nest (f x ∷ []) (map f rest) old mid new a b c h g n)

-- ---- One question

module _ (nest : Nest) (first second : Entry) (ranges : List (ℤ × ℤ)) (system : Rows) (are : AreRanges nest first second ranges) (columns : length ranges ≡ system.columns) where
  pub width_there : (point : List ℤ) → length point ≡ system.columns → length point ≡ (length nest.params + coordinates first) + coordinates second
  width_there point w = w ∙ sym columns ∙ are.each

  -- the instance of a part by numbers of these loops
  placed_at : (e : Entry) → IsFoundAs nest e → (numbers : List ℤ) → ◌≡◌ {A = Instance} (record { statement = e.statement; iterators = take (length e.loops) numbers }) (record { statement = statement_of nest e.part; iterators = take (length (loops_of nest e.part)) numbers })
  placed_at e found numbers = λ i. record { statement = sym found.statement i; iterators = take (length (sym found.loops i)) numbers }

  pub one_found : (point : List ℤ) (found : Violation) → IsLeastPoint system ranges point → found.key ≡ spot_of found.p found.a found.b → found.p ≡ take (length nest.params) point
      → found.a ≡ record { statement = first.statement; iterators = take (length first.loops) (drop (length nest.params) point) }
      → found.b ≡ record { statement = second.statement; iterators = take (length second.loops) (drop (coordinates first) (drop (length nest.params) point)) }
      → IsFirstOf nest (question_on first second ranges system ∷ []) found
  one_found point found least key p a b =
      let a' : found.a ≡ first_at nest (question_on first second ranges system) point = a ∙ placed_at first are.first_found (drop (length nest.params) point) in
      let b' : found.b ≡ second_at nest (question_on first second ranges system) point =
      b ∙ placed_at second are.second_found (drop (coordinates first) (drop (length nest.params) point))
      ∙ ap (λ (ls : List ℕ). let i : Instance = record { statement = statement_of nest second.part; iterators = take (length (loops_of nest second.part)) (drop (length ls) (drop (length nest.params) point)) } in i) (sym (are.first_found).loops) in
      record {
        key = key;
        there = record { question = question_on first second ranges system; asked = inl refl; point = point; meets = least.meets; p = p; a = a'; b = b' };
        first = λ r z i inside meets. elim i [
          | inl e ↦ later point found least (key ∙ (λ j. spot_of (p j) (a' j) (b' j))) r z e inside meets
          | inr none ↦ absurd none
        ];
      }
    where
      later : (point : List ℤ) (found : Violation) → IsLeastPoint system ranges point → found.key ≡ spot_at nest (question_on first second ranges system) point
          → (r : Question) (z : List ℤ) → r ≡ question_on first second ranges system → InBox r.ranges z → IsPoint r.system z → LexLe found.key (spot_at nest r z)
      later point found least key r z e =
          subst (λ (s : Question). InBox s.ranges z → IsPoint s.system z → LexLe found.key (spot_at nest s z)) (sym e)
          (λ inside meets.
          let width : length point ≡ (length nest.params + coordinates_of nest first.part) + coordinates_of nest second.part =
          width_there point least.meets.width ∙ ap (λ (ls : List ℕ). (length nest.params + length ls) + coordinates second) (sym (are.first_found).loops)
          ∙ ap (λ (ls : List ℕ). (length nest.params + coordinates_of nest first.part) + length ls) (sym (are.second_found).loops) in
          subst (λ k. LexLe k (spot_at nest (question_on first second ranges system) z)) (sym key)
          (points_spots nest (question_on first second ranges system) point z width (meets.width ∙ sym least.meets.width) (least.least z inside meets)))
