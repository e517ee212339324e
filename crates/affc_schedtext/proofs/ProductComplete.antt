-- The pass misses no product of names.
use Rattle.std.proofs.Common.{◌≡◌, ℕ, suc, ◌+◌, ◌≤◌, Bool, true, false, ◌||◌, List, [], ◌∷◌, ◌++◌, length, codes, Option, Some, None, refl, sym, ap, ◌∙◌, subst, arith, is_some, if◌then◌else◌}
use Rattle.std.proofs.Math.Nat.{min-le_left, min-le_right}
use Rattle.std.specs.Prelude.{MatchOption}
use Rattle.affc_grammar.specs.Grammar.{Symbol, mark, IxText, TermText, FactorText, AtomText, term, plus, minus, factor, times, atom, negated, literal, name, grouped, chosen, divided, ix_symbols, term_symbols, factor_symbols, atom_symbols}
use Rattle.affc_schedtext.specs.Grammar.{hold_names, IsProduct}
use Rattle.affc_schedtext.specs.Answers.{IsFirstProduct, HasNoProduct}
use Rattle.affc_schedtext.specs.declared.products.Sign.{Sign}
use Rattle.affc_schedtext.specs.declared.products.Sign.TheVariants.{Name, Number, Opening, Closing, Star, Plus, Minus, Other}
use Rattle.affc_schedtext.specs.declared.products.Place.{Place}
use Rattle.affc_schedtext.specs.declared.products.Place.TheVariants.{Behind, Before}
use Rattle.affc_schedtext.specs.declared.products.Level.{Level}
use Rattle.affc_schedtext.specs.Products.{sign_of, unfit, term_behind, behind_atom, closed_by, behind_star, is_whole, Walk, lesser, at_level, with_atom, opened, closed, turn, walked, start}
use Rattle.affc_schedtext.proofs.ProductSound.{names_more, grouped_names, FoundIs, walked_sound, start_sound}

-- ---- What was found stays

abbrev pub AtMost : Option ℕ → ℕ → Type 0
AtMost None at = ⊥
AtMost (Some k) at = k ≤ at

lesser_left : (a b : Option ℕ) (at : ℕ) → AtMost a at → AtMost (lesser a b) at
lesser_left None b at h = absurd h
lesser_left (Some a) None at h = h
lesser_left (Some a) (Some b) at h = omega (arith, min-le_left a b, h)

lesser_right : (a : Option ℕ) (at : ℕ) → AtMost (lesser a (Some at)) at
lesser_right None at = omega arith
lesser_right (Some a) at = min-le_right a at

closes : (a b : Option ℕ) (at : ℕ) → b ≡ Some at → AtMost (lesser a b) at
closes a b at e = subst (λ o. AtMost (lesser a o) at) (sym e) (lesser_right a at)

closed_kept : (os : List Level) (w : Walk) (at : ℕ) → AtMost w.found at → AtMost (closed os w).found at
closed_kept [] w at h = h
closed_kept (o ∷ os) w at h = by (is_whole w.level)
  where
    by : (b : Bool) → AtMost (if b then with_atom (record { outer = os; level = o; found = w.found }) w.level.names else at_level (record { outer = os; level = o; found = w.found }) (unfit o)).found at
    by true = lesser_left w.found (closed_by o.place w.level.names) at h
    by false = h

turn_kept : (n : ℕ) (w : Walk) (p : Sign) (at : ℕ) → AtMost w.found at → AtMost (turn n w p).found at
turn_kept n w Name at h = lesser_left w.found (closed_by w.level.place true) at h
turn_kept n w Number at h = lesser_left w.found (closed_by w.level.place false) at h
turn_kept n w Opening at h = h
turn_kept n w Closing at h = closed_kept w.outer w at h
turn_kept n w Star at h = h
turn_kept n w Plus at h = h
turn_kept n w Minus at h = h
turn_kept n w Other at h = h

walked_kept : (n : ℕ) (w : Walk) (ss : List Symbol) (at : ℕ) → AtMost w.found at → AtMost (walked n w ss).found at
walked_kept n w [] at h = h
walked_kept n w (s ∷ ss) at h = walked_kept (suc n) (turn n w (sign_of s)) ss at (turn_kept n w (sign_of s) at h)

walked_append : (n : ℕ) (w : Walk) (xs ys : List Symbol) → walked n w (xs ++ ys) ≡ walked (n + length xs) (walked n w xs) ys
walked_append n w [] ys = let same : n ≡ n + 0 = omega arith in ap (λ m. walked m w ys) same
walked_append n w (x ∷ xs) ys =
    let next = turn n w (sign_of x) in
    let same : suc n + length xs ≡ n + suc (length xs) = omega arith in
    walked_append (suc n) next xs ys ∙ ap (λ m. walked m (walked (suc n) next xs) ys) same

-- ---- Behind an expression that stands alone

or_assoc : (a b c : Bool) → ((a || b) || c) ≡ (a || (b || c))
or_assoc true b c = refl
or_assoc false b c = refl

some_if : (b : Bool) (at : ℕ) → is_some (if b then Some at else None) ≡ b
some_if true at = refl
some_if false at = refl

behind_before : (fits names : Bool) (star : Option ℕ) (signed b : Bool) → behind_atom (record { fits = fits; names = names; place = Before star signed }) b ≡ record { fits = fits; names = names || b; place = Behind (is_some star || b) }
behind_before true names star signed b = refl
behind_before false names star signed b = refl

abbrev before : List Level → Bool → Bool → Option ℕ → Bool → Option ℕ → Walk
before os fits names star signed found = record { outer = os; level = record { fits = fits; names = names; place = Before star signed }; found = found }

abbrev behind : List Level → Bool → Bool → Bool → Option ℕ → Walk
behind os fits names named found = record { outer = os; level = record { fits = fits; names = names; place = Behind named }; found = found }

joined : (xs ys : List Symbol) (bytes : List ℕ) (names : Bool) → ((names || hold_names xs) || hold_names ys) ≡ (names || hold_names (xs ++ mark bytes ∷ ys))
joined xs ys bytes names = or_assoc names (hold_names xs) (hold_names ys) ∙ ap (λ b. names || b) (sym (names_more xs (mark bytes ∷ ys)))

mutual
  ix_walk : (n : ℕ) (os : List Level) (fits names : Bool) (found : Option ℕ) (a : IxText false)
      → (named : Bool) × (g : Option ℕ) × (walked n (before os fits names None false found) (ix_symbols a) ≡ behind os fits (names || hold_names (ix_symbols a)) named g)
  ix_walk n os fits names found (term t) = let k = term_walk n os fits names found t in (hold_names (term_symbols t), k.0, k.1)
  ix_walk n os fits names found (plus a t) =
      let h = ix_walk n os fits names found a in
      let m = n + length (ix_symbols a) in
      let k = term_walk (suc m) os fits (names || hold_names (ix_symbols a)) h.1 t in (
        hold_names (term_symbols t),
        k.0,
        walked_append n (before os fits names None false found) (ix_symbols a) (mark (codes "+") ∷ term_symbols t)
            ∙ ap (λ v. walked m v (mark (codes "+") ∷ term_symbols t)) h.2 ∙ k.1
            ∙ ap (λ b. behind os fits b (hold_names (term_symbols t)) k.0) (joined (ix_symbols a) (term_symbols t) (codes "+") names),
      )
  ix_walk n os fits names found (minus a t) =
      let h = ix_walk n os fits names found a in
      let m = n + length (ix_symbols a) in
      let k = term_walk (suc m) os fits (names || hold_names (ix_symbols a)) h.1 t in (
        hold_names (term_symbols t),
        k.0,
        walked_append n (before os fits names None false found) (ix_symbols a) (mark (codes "-") ∷ term_symbols t)
            ∙ ap (λ v. walked m v (mark (codes "-") ∷ term_symbols t)) h.2 ∙ k.1
            ∙ ap (λ b. behind os fits b (hold_names (term_symbols t)) k.0) (joined (ix_symbols a) (term_symbols t) (codes "-") names),
      )

  term_walk : (n : ℕ) (os : List Level) (fits names : Bool) (found : Option ℕ) (t : TermText false)
      → (g : Option ℕ) × (walked n (before os fits names None false found) (term_symbols t) ≡ behind os fits (names || hold_names (term_symbols t)) (hold_names (term_symbols t)) g)
  term_walk n os fits names found (factor f) = let k = factor_walk n os fits names None found f in (k.0, k.1)
  term_walk n os fits names found (times t f) =
      let h = term_walk n os fits names found t in
      let m = n + length (term_symbols t) in
      let star = if hold_names (term_symbols t) then Some m else None in
      let k = factor_walk (suc m) os fits (names || hold_names (term_symbols t)) star h.0 f in (
        k.0,
        walked_append n (before os fits names None false found) (term_symbols t) (mark (codes "*") ∷ factor_symbols f)
            ∙ ap (λ v. walked m v (mark (codes "*") ∷ factor_symbols f)) h.1 ∙ k.1
            ∙ (λ i. behind os fits (joined (term_symbols t) (factor_symbols f) (codes "*") names i) (named (hold_names (term_symbols t)) (hold_names (factor_symbols f)) m i) k.0)
            ∙ ap (λ b. behind os fits (names || hold_names (term_symbols t ++ mark (codes "*") ∷ factor_symbols f)) b k.0) (sym (names_more (term_symbols t) (mark (codes "*") ∷ factor_symbols f))),
      )
    where
      named : (b c : Bool) (m : ℕ) → (is_some (if b then Some m else None) || c) ≡ (b || c)
      named b c m = ap (λ x. x || c) (some_if b m)

  factor_walk : (n : ℕ) (os : List Level) (fits names : Bool) (star found : Option ℕ) (f : FactorText false)
      → (g : Option ℕ) × (walked n (before os fits names star false found) (factor_symbols f) ≡ behind os fits (names || hold_names (factor_symbols f)) (is_some star || hold_names (factor_symbols f)) g)
      × ((at : ℕ) → star ≡ Some at → hold_names (factor_symbols f) ≡ true → AtMost g at)
  factor_walk n os fits names star found (atom a) =
      let k = atom_walk n (before os fits names star false found) a in
      (k.0, k.1 ∙ ap (λ l. record { outer = os; level = l; found = k.0 }) (behind_before fits names star false (hold_names (atom_symbols a))), λ at e h. k.2 at (ap (λ b. if b then star else None) h ∙ e))
  factor_walk n os fits names star found (negated a) =
      let k = atom_walk (suc n) (before os fits names star true found) a in
      (k.0, k.1 ∙ ap (λ l. record { outer = os; level = l; found = k.0 }) (behind_before fits names star true (hold_names (atom_symbols a))), λ at e h. k.2 at (ap (λ b. if b then star else None) h ∙ e))

  atom_walk : (n : ℕ) (w : Walk) (a : AtomText false)
      → (g : Option ℕ) × (walked n w (atom_symbols a) ≡ record { outer = w.outer; level = behind_atom w.level (hold_names (atom_symbols a)); found = g })
      × ((at : ℕ) → closed_by w.level.place (hold_names (atom_symbols a)) ≡ Some at → AtMost g at)
  atom_walk n w (literal digits) = (lesser w.found (closed_by w.level.place false), refl, λ at e. closes w.found (closed_by w.level.place false) at e)
  atom_walk n w (name x) = (lesser w.found (closed_by w.level.place true), refl, λ at e. closes w.found (closed_by w.level.place true) at e)
  atom_walk n w (grouped a) =
      let h = ix_walk (suc n) (w.level ∷ w.outer) true false w.found a in
      let m = suc n + length (ix_symbols a) in
      let b = hold_names (ix_symbols a) in
      let g = lesser h.1 (closed_by w.level.place b) in (
        g,
        walked_append (suc n) (opened w) (ix_symbols a) (mark (codes ")") ∷ [])
            ∙ ap (λ v. walked m v (mark (codes ")") ∷ [])) h.2
            ∙ ap (λ x. record { outer = w.outer; level = behind_atom w.level x; found = g }) (sym (grouped_names a)),
        λ at e. closes h.1 (closed_by w.level.place b) at (ap (closed_by w.level.place) (sym (grouped_names a)) ∙ e),
      )
  atom_walk n w (chosen p f a b) = absurd (cc)
  atom_walk n w (divided p f a by q) = absurd (cc)

-- ---- Behind a term that stands anywhere

record Ends (w : Walk) (names : Bool) : Type 0 where
  named : Bool
  place : w.level.place ≡ Behind named
  holds : names ≡ true → named ≡ true

behind_ends : (p : Place) (b : Bool) → (named : Bool) × (term_behind p b ≡ Behind named) × (b ≡ true → named ≡ true)
behind_ends (Behind t) b = (b, refl, λ e. e)
behind_ends (Before None signed) b = (b, refl, λ e. e)
behind_ends (Before (Some at) signed) b = (true, refl, λ e. refl)

atom_ends : (n : ℕ) (w : Walk) (a : AtomText false) → Ends (walked n w (atom_symbols a)) (hold_names (atom_symbols a))
atom_ends n w a =
    let k = atom_walk n w a in
    let e = behind_ends w.level.place (hold_names (atom_symbols a)) in
    record { named = e.0; place = ap (λ (v : Walk). v.level.place) k.1 ∙ e.1; holds = e.2 }

factor_ends : (n : ℕ) (w : Walk) (f : FactorText false) → Ends (walked n w (factor_symbols f)) (hold_names (factor_symbols f))
factor_ends n w (atom a) = atom_ends n w a
factor_ends n w (negated a) = atom_ends (suc n) (turn n w Minus) a

-- behind the `*` that follows a term
starred : (n : ℕ) (u : Walk) (named : Bool) → u.level.place ≡ Behind named → turn n u Star ≡ before u.outer u.level.fits u.level.names (if named then Some n else None) false u.found
starred n u named e = ap (λ p. at_level u (behind_star n u.level p)) e

term_ends : (n : ℕ) (w : Walk) (t : TermText false) → Ends (walked n w (term_symbols t)) (hold_names (term_symbols t))
term_ends n w (factor f) = factor_ends n w f
term_ends n w (times t f) =
    let u = walked n w (term_symbols t) in
    let h = term_ends n w t in
    let m = n + length (term_symbols t) in
    let k = factor_walk (suc m) u.outer u.level.fits u.level.names (if h.named then Some m else None) u.found f in
    record {
      named = h.named || hold_names (factor_symbols f);
      place =
          ap (λ (v : Walk). v.level.place) (walked_append n w (term_symbols t) (mark (codes "*") ∷ factor_symbols f) ∙ ap (λ v. walked (suc m) v (factor_symbols f)) (starred m u h.named h.place) ∙ k.1)
          ∙ ap (λ b. Behind (b || hold_names (factor_symbols f))) (some_if h.named m);
      holds = λ e. either_holds (hold_names (term_symbols t)) h.named (hold_names (factor_symbols f)) h.holds (sym (names_more (term_symbols t) (mark (codes "*") ∷ factor_symbols f)) ∙ e);
    }
  where
    either_holds : (a b c : Bool) → (a ≡ true → b ≡ true) → (a || c) ≡ true → (b || c) ≡ true
    either_holds true b c h e = ap (λ x. x || c) (h refl)
    either_holds false true c h e = refl
    either_holds false false c h e = e

-- ---- All symbols

found_there : (n : ℕ) (w : Walk) (left : TermText false) (right : FactorText false) (others : List Symbol) → hold_names (term_symbols left) ≡ true → hold_names (factor_symbols right) ≡ true
    → AtMost (walked n w (term_symbols left ++ mark (codes "*") ∷ (factor_symbols right ++ others))).found (n + length (term_symbols left))
found_there n w left right others l r =
    let u = walked n w (term_symbols left) in
    let h = term_ends n w left in
    let m = n + length (term_symbols left) in
    let star : (if h.named then Some m else None) ≡ Some m = ap (λ b. if b then Some m else None) (h.holds l) in
    let k = factor_walk (suc m) u.outer u.level.fits u.level.names (if h.named then Some m else None) u.found right in
    let is : walked (suc m) (turn m u Star) (factor_symbols right) ≡ _ = ap (λ v. walked (suc m) v (factor_symbols right)) (starred m u h.named h.place) ∙ k.1 in
    let most : AtMost (walked (suc m) (turn m u Star) (factor_symbols right)).found m = subst (λ (v : Walk). AtMost v.found m) (sym is) (k.2 m star r) in
    subst (λ (v : Walk). AtMost v.found m)
    (sym (walked_append n w (term_symbols left) (mark (codes "*") ∷ (factor_symbols right ++ others)) ∙ walked_append (suc m) (turn m u Star) (factor_symbols right) others))
    (walked_kept (suc m + length (factor_symbols right)) (walked (suc m) (turn m u Star) (factor_symbols right)) others m most)

complete : (ss : List Symbol) (at : ℕ) → IsProduct ss at → AtMost (walked 0 start ss).found at
complete ss at p =
    let rest = term_symbols p.left ++ mark (codes "*") ∷ (factor_symbols p.right ++ p.others) in
    let n = 0 + length p.front in
    let here : n + length (term_symbols p.left) ≡ at = let e = p.its_place in omega arith in
    subst (λ k. AtMost (walked 0 start ss).found k) here
    (subst (λ (v : Walk). AtMost v.found (n + length (term_symbols p.left))) (sym (ap (walked 0 start) p.stands ∙ walked_append 0 start p.front rest))
    (found_there n (walked 0 start p.front) p.left p.right p.others p.left_names p.right_names))

pub exact : (ss : List Symbol) (o : Option ℕ) → o ≡ (walked 0 start ss).found → MatchOption o (HasNoProduct ss) (IsFirstProduct ss)
exact ss None e = λ at p. subst (λ o. AtMost o at) (sym e) (complete ss at p)
exact ss (Some at) e =
    let found = (walked_sound ss [] start start_sound).found in
    (subst (FoundIs ss) (sym e) found, λ other p. subst (λ o. AtMost o other) (sym e) (complete ss other p))
